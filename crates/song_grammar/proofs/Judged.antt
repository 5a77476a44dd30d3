-- The reader takes the files that the grammar spells and no others, and the fault that it tells stands first: `specs/Judged.antt`. Assumes nothing.
use Rattle.std.specs.Prelude.{Option, Some, None, Result, Ok, Err}
use mathlib.Core.Path.{◌≡◌, refl, sym, ap, ◌∙◌, subst}
use mathlib.Core.Bool.{true}
use mathlib.Core.List.{List, [], ◌∷◌, ◌++◌}
use mathlib.Core.Logic.{◌⊎◌, inl, inr}
use Prim.Native.Nat.{ℕ, zero, suc, ◌+◌, ◌*◌, ◌≤◌, ◌<◌}
use native.Mathlib.Omega.{arith}
use native.Mathlib.Numerals.{add-one}
use lib.Dec.{ltb}
use lib.ListN.{length, take}
use borrow.Author.Tests.{ltb-true, ltb-false}
use Rattle.walks.specs.Each.{Each}
use Rattle.octets.specs.Octets.{Bytes}
use Rattle.smf.specs.Faults.{fault_at, refusal_of}
use Rattle.smf.specs.Fields.{four_at}
use Rattle.smf.specs.Files.{Events, header_of, track_from, track_at, no_second, rest_at, events_from, track_of, events_in, events_of}
use Rattle.smf.specs.Files.Events.{then, over}
use Rattle.smf.specs.Times.{first_tempo, frame_at}
use Rattle.smf.specs.Cues.{Entry, Song, tempo_after, too_late, song_from, song_in, song_of, good_rate, counted_judged, cues_number}
use Rattle.smf.specs.Promised.{Timed, timed_of, tempo_behind, tempo_sum, sounds_behind}
use Rattle.smf.specs.declared.faults.Reason.TheVariants.{LateFrame}
use Rattle.smf.specs.declared.faults.Fault.{Fault}
use Rattle.smf.proofs.Inside.{both}
use Rattle.smf.proofs.Promised.{promised}
use Rattle.song_grammar.specs.Grammar.{Chunk, MTrk, Header, Aliens, File}
use Rattle.song_grammar.specs.Grammar.Aliens.{none}
use Rattle.song_grammar.specs.Grammar.File.{file}
use Rattle.song_grammar.specs.First.{OpenedSong, Due, FirstFault}
use Rattle.song_grammar.specs.First.OpenedSong.{begun, over as played}
use Rattle.song_grammar.specs.First.Due.{chunk_type, chunk_length, chunk_body, track_length, event}
use Rattle.song_grammar.specs.Judged.{Grammatical, Judged}
use Rattle.song_grammar.proofs.Segments.{From, from_length, join, whole_is, whole_from, before_is}
use Rattle.song_grammar.proofs.Wholes.{last_of, Octets, FileTaken, file_taken}
use Rattle.song_grammar.proofs.Shown.{Spelt}
use Rattle.song_grammar.proofs.Tracks.{Tracked, tracked, good_track, Breaks, broken_track}
use Rattle.song_grammar.proofs.Same.{fault_is, same_fault}
use Rattle.song_grammar.proofs.Numbers.{InRange, not_late, good_or_late, thirteen, fourteen}
use Rattle.song_grammar.proofs.Chunks.{AlienPart, AlienPart.at_type, AlienPart.at_length, AlienPart.at_body, Stops, four_number, Chunked, chunked, chunk_there, Searched, search, Opens, opens}

octets : (f : List ℕ) → Bytes f → Octets f
unfolding Each
octets [] h zero = omega arith
octets [] h (suc i) = omega arith
octets (b ∷ f) h zero = h.0
octets (b ∷ f) h (suc i) = octets f h.1 i

-- ---- a song is good where its events are and none of them is late
sings : (rate division : ℕ) (past : List Timed) (es : Events) → last_of es ≡ (Ok tt) → Each InRange (sounds_behind rate division past (timed_of es))
    → (song_from rate division (tempo_behind past) (tempo_sum past) es).verdict ≡ Ok tt
unfolding song_from last_of timed_of sounds_behind tempo_sum tempo_behind frame_at
sings rate division past (over v) e h = e
sings rate division past (then ticks m next rest) e h =
    let t : Timed = record { delta = ticks; event = m } in
    let k = not_late (frame_at rate division (tempo_sum past + ticks * tempo_behind past)) m (sounds_behind rate division (t ∷ past) (timed_of rest)) h in
    let early = k.0 in
    rw early (sings rate division (t ∷ past) rest e k.1)

sung : (rate division tempo sum : ℕ) (es : Events) → (song_from rate division tempo sum es).verdict ≡ (Ok tt) → last_of es ≡ Ok tt
unfolding song_from last_of
sung rate division tempo sum (over v) = λ e. e
sung rate division tempo sum (then ticks m next rest) =
    both (λ (s : Song). s.verdict ≡ (Ok tt) → last_of rest ≡ Ok tt) (too_late (frame_at rate division (sum + ticks * tempo)) m) _ _
    (λ _ e. let z : ◌≡◌ {A = ℕ} 0 1 = cc in absurd (omega arith))
    (λ _ e. sung rate division (tempo_after tempo m) (sum + ticks * tempo) rest e)

-- ---- the file
module _ (rate : ℕ) (f : List ℕ) (b : Bytes f) where
  taken : (division : ℕ) (ts : List Timed) → File f division ts → FileTaken f (octets f b) division ts
  taken division ts s = file_taken f (octets f b) s (whole_from f)

  is_song : (division next : ℕ) → header_of f ≡ Ok (division, next) → song_of rate f ≡ song_from rate division first_tempo 0 (events_of f next)
  unfolding song_of
  is_song division next e = ap (song_in rate f) e

  good_from : Grammatical rate f → (song_of rate f).verdict ≡ Ok tt
  unfolding tempo_sum tempo_behind
  good_from g =
      let t = taken g.division g.events g.spelt in
      ap (λ (s : Song). s.verdict) (is_song g.division t.next t.opens)
      ∙ sings rate g.division [] (events_of f t.next) t.good
      (subst (λ (ts : List Timed). Each InRange (sounds_behind rate g.division [] ts)) (sym t.events) g.early)

  listed : (g : Grammatical rate f) → (song_of rate f).entries ≡ sounds_behind rate g.division [] g.events
  listed g =
      let t = taken g.division g.events g.spelt in
      promised.exact rate f g.division t.next t.opens (good_from g)
      ∙ ap (sounds_behind rate g.division []) t.events

  -- ---- a good file is spelt
  no_good : {A : Type 0} {why : Fault} → ◌≡◌ {A = Result (Unit {0}) Fault} (Err why) (Ok tt) → A
  no_good {why = why} e = let z : ◌≡◌ {A = ℕ} 0 1 = cc in absurd (omega arith)

  -- nothing but chunks that are skipped stands behind the track
  skipped : (at : ℕ) → at ≤ length f → rest_at f at ≡ (Ok tt) → Spelt f Aliens at (length f)
  unfolding rest_at track_at
  skipped at room = go (track_from (length f) f at) (search f (octets f b) (length f) at room (omega arith))
    where
      go : (r : Result (Option ℕ) Fault) → Searched f (octets f b) at r → no_second r ≡ (Ok tt) → Spelt f Aliens at (length f)
      go (Ok (Some place)) s e = no_good e
      go (Ok None) s e = s
      go (Err why) s e = no_good e

  -- the track chunk at a place
  module _ (place : ℕ) (type : From f place MTrk (place + 4)) where
    abbrev full : ℕ
    full = place + 8 + four_at f (place + 4)

    abbrev Chunk-of : List ℕ → List ℕ
    Chunk-of body = Chunked f place MTrk type body

    track_chunk : (body : List ℕ) → From f (place + 8) body full → Chunk MTrk body (Chunk-of body)
    track_chunk body h = chunked f place MTrk type body (omega (arith, from_length f (place + 8) body full h))

    track_there : (body : List ℕ) (next : ℕ) → From f (place + 8) body next → From f place (Chunk-of body) next
    track_there body next h = chunk_there f place MTrk type body next h

    follows : place + 8 ≤ length f → Tracked f full 0 (place + 8) (events_from (length f) f full 0 (place + 8))
    follows room = tracked f full (length f) 0 (place + 8) (inl refl) (omega arith)

  module _ (division next : ℕ) (head : Spelt f (λ (bytes : List ℕ). Header bytes division) 0 next) where
    abbrev Spells : Events → Type 0
    Spells es = last_of es ≡ (Ok tt) → File f division (timed_of es)

    track_spelt : (place : ℕ) → Spelt f Aliens next place → From f place MTrk (place + 4) → Spells (track_of f place)
    unfolding track_of last_of
    track_spelt place others type =
        both Spells (ltb (length f) (place + 8)) _ _ (λ _ e. no_good e)
        (λ long e.
        let c = good_track f (full place type) 0 (place + 8) (events_from (length f) f (full place type) 0 (place + 8)) (follows place type (ltb-false (length f) (place + 8) long)) e in
        let behind = skipped (full place type) c.inside c.behind in
        let body = c.spelt.bytes in
        let track = Chunk-of place type body in
        let whole : From f 0 (head.bytes ++ (others.bytes ++ (track ++ behind.bytes))) (length f) =
        join f 0 head.bytes next (others.bytes ++ (track ++ behind.bytes)) (length f) head.there
        (join f next others.bytes place (track ++ behind.bytes) (length f) others.there
        (join f place track (full place type) behind.bytes (length f) (track_there place type body (full place type) c.spelt.there) behind.there)) in
        subst (λ (l : List ℕ). File l division (timed_of (events_from (length f) f (full place type) 0 (place + 8)))) (sym (whole_is f _ whole))
        (file head.is others.is (track_chunk place type body c.spelt.there) c.spelt.is behind.is))

    spelt : next ≤ length f → Spells (events_of f next)
    unfolding events_of track_at last_of
    spelt room = go (track_from (length f) f next) (search f (octets f b) (length f) next room (omega arith))
      where
        go : (r : Result (Option ℕ) Fault) → Searched f (octets f b) next r → Spells (events_in f r)
        go (Ok (Some place)) (others, type, inside) = track_spelt place others type
        go (Ok None) s = λ e. no_good e
        go (Err why) s = λ e. no_good e

  good_to : (song_of rate f).verdict ≡ (Ok tt) → Grammatical rate f
  unfolding song_of
  good_to good = go (header_of f) refl (opens f (octets f b)) good
    where
      go : (o : Result (ℕ × ℕ) Fault) → header_of f ≡ o → Opens f (octets f b) o → (song_in rate f o).verdict ≡ (Ok tt) → Grammatical rate f
      go (Err why) is h e = no_good e
      go (Ok (division, next)) is h e = record {
        division = division;
        events = timed_of (events_of f next);
        spelt = spelt division next h.0 h.1 (sung rate division first_tempo 0 (events_of f next) e);
        early = subst (Each InRange) (promised.exact rate f division next is good) (promised.in_range rate f);
      }

  -- ---- the first fault
  stands : (why : Fault) → Stops f Due 0 why → FirstFault f why.at
  stands why s = record {
    start = s.start;
    width = s.width;
    due = subst (λ (l : List ℕ). Due l s.width) (sym (before_is f s.spelt.bytes s.start s.spelt.there s.inside)) s.spelt.is;
    place = at s.last;
  }
    where
      at : (why.at + 1 ≡ s.start + s.width) ⊎ (why.at ≡ length f) → (why.at + 1 ≡ s.start + s.width) ⊎ ((why.at ≡ length f) × (s.start ≤ why.at) × (why.at < s.start + s.width))
      at (inl e) = inl e
      at (inr e) = inr (e, s.low, s.high)

  -- in a chunk that is skipped
  part_due : {head : List ℕ} → OpenedSong head → {bytes : List ℕ} {width : ℕ} → AlienPart bytes width → Due (head ++ bytes) width
  part_due o (at_type others) = chunk_type o others
  part_due o (at_length a c d e no_Header no_track others) = chunk_length a c d e no_Header no_track o others
  part_due o (at_body part rest others) = chunk_body part rest o others

  behind_head : (next : ℕ) → Spelt f OpenedSong 0 next → (why : Fault) → Stops f AlienPart next why → FirstFault f why.at
  behind_head next head why s = stands why (record {
    start = s.start;
    width = s.width;
    spelt = record {
      bytes = head.bytes ++ s.spelt.bytes;
      is = part_due head.is s.spelt.is;
      there = join f 0 head.bytes next s.spelt.bytes s.start head.there s.spelt.there;
    };
    low = s.low;
    high = s.high;
    last = s.last;
    inside = s.inside;
  })

  -- at the type of a chunk
  at_chunk : (next place : ℕ) → Spelt f OpenedSong 0 next → Spelt f Aliens next place → place ≤ length f → (why : Fault) → place ≤ why.at → why.at < place + 4 → (why.at + 1 ≡ place + 4) ⊎ (why.at ≡ length f) → FirstFault f why.at
  at_chunk next place head others room why low high last = behind_head next head why (record {
    start = place;
    width = 4;
    spelt = record { bytes = others.bytes; is = at_type others.is; there = others.there };
    low = low;
    high = high;
    last = last;
    inside = room;
  })

  behind_all : (at : ℕ) → Spelt f OpenedSong 0 at → at ≤ length f → (why : Fault) → rest_at f at ≡ Err why → FirstFault f why.at
  unfolding rest_at track_at
  behind_all at head room why = go (track_from (length f) f at) (search f (octets f b) (length f) at room (omega arith))
    where
      go : (r : Result (Option ℕ) Fault) → Searched f (octets f b) at r → no_second r ≡ Err why → FirstFault f why.at
      go (Ok (Some place)) (others, type, inside) e =
          let there = ap (λ (w : Fault). w.at) (fault_is e) in
          at_chunk at place head others (omega arith) why (omega arith) (omega arith) (inl (omega arith))
      go (Ok None) s e = let z : ◌≡◌ {A = ℕ} 0 1 = cc in absurd (omega arith)
      go (Err w) s e = subst (λ (w : Fault). FirstFault f w.at) (fault_is e) (behind_head at head w s)

  module _ (division next : ℕ) (head : Spelt f (λ (bytes : List ℕ). Header bytes division) 0 next) where
    opened : Spelt f OpenedSong 0 next
    opened = record { bytes = head.bytes; is = begun head.is; there = head.there }

    abbrev Stopped : Events → Type 0
    Stopped es = (why : Fault) → (song_from rate division first_tempo 0 es).verdict ≡ Err why → FirstFault f why.at

    in_track : (place : ℕ) → Spelt f Aliens next place → (type : From f place MTrk (place + 4)) → (why : Fault) → Breaks f (full place type) 0 (place + 8) why → FirstFault f why.at
    in_track place others type why (inl (c, room, plain)) = stands why (record {
      start = why.at;
      width = 1;
      spelt = record {
        bytes = head.bytes ++ (others.bytes ++ (Chunk-of place type c.bytes));
        is = event _ _ _ _ c.bytes c.is.0 head.is others.is c.is.2
            (omega (arith, from_length f (place + 8) c.bytes why.at c.there, four_number f (place + 4)));
        there =
            join f 0 head.bytes next (others.bytes ++ (Chunk-of place type c.bytes)) why.at head.there
            (join f next others.bytes place (Chunk-of place type c.bytes) why.at others.there (track_there place type c.bytes why.at c.there));
      };
      low = omega arith;
      high = omega arith;
      last = inl refl;
      inside = omega arith;
    })
    in_track place others type why (inr c) =
        let body = c.spelt.bytes in
        let track = Chunk-of place type body in
        behind_all (full place type) (record {
          bytes = head.bytes ++ (others.bytes ++ (track ++ []));
          is = played (file head.is others.is (track_chunk place type body c.spelt.there) c.spelt.is.1 none);
          there =
              join f 0 head.bytes next (others.bytes ++ (track ++ [])) (full place type) head.there
              (join f next others.bytes place (track ++ []) (full place type) others.there
              (join f place track (full place type) [] (full place type) (track_there place type body (full place type) c.spelt.there) refl));
        }) c.inside why c.behind

    track_stopped : (place : ℕ) → Spelt f Aliens next place → (type : From f place MTrk (place + 4)) → place + 4 ≤ length f → Stopped (track_of f place)
    unfolding track_of song_from
    track_stopped place others type room =
        both Stopped (ltb (length f) (place + 8)) _ _
        (λ short why e.
        let k = ltb-true (length f) (place + 8) short in
        let there = ap (λ (w : Fault). w.at) (fault_is e) in
        stands why (record {
          start = place + 4;
          width = 4;
          spelt = record {
            bytes = head.bytes ++ (others.bytes ++ MTrk);
            is = track_length head.is others.is;
            there = join f 0 head.bytes next (others.bytes ++ MTrk) (place + 4) head.there (join f next others.bytes place MTrk (place + 4) others.there type);
          };
          low = omega arith;
          high = omega arith;
          last = inr (sym there);
          inside = room;
        }))
        (λ long why e.
        in_track place others type why
        (broken_track f (full place type) rate division first_tempo 0 0 (place + 8) (events_from (length f) f (full place type) 0 (place + 8))
        (follows place type (ltb-false (length f) (place + 8) long)) why e))

    stopped : next ≤ length f → Stopped (events_of f next)
    unfolding events_of track_at song_from
    stopped room = go (track_from (length f) f next) (search f (octets f b) (length f) next room (omega arith))
      where
        go : (r : Result (Option ℕ) Fault) → Searched f (octets f b) next r → Stopped (events_in f r)
        go (Ok (Some place)) (others, type, inside) = track_stopped place others type inside
        go (Ok None) s = λ why e.
            let there = ap (λ (w : Fault). w.at) (fault_is e) in
            at_chunk next (length f) opened s (omega arith) why (omega arith) (omega arith) (inr (sym there))
        go (Err w) s = λ why e. subst (λ (w : Fault). FirstFault f w.at) (fault_is e) (behind_head next opened w s)

  first : (why : Fault) → (song_of rate f).verdict ≡ Err why → FirstFault f why.at
  unfolding song_of
  first why = go (header_of f) (opens f (octets f b))
    where
      go : (o : Result (ℕ × ℕ) Fault) → Opens f (octets f b) o → (song_in rate f o).verdict ≡ Err why → FirstFault f why.at
      go (Err w) h e = subst (λ (w : Fault). FirstFault f w.at) (fault_is e) (stands w h)
      go (Ok (division, next)) h e = stopped division next h.0 h.1 why e

takes : (f : List ℕ) (rate room : ℕ) → (b : Bytes f) → good_rate rate ≡ true → (g : Grammatical rate f)
    → 2 * length (sounds_behind rate g.division [] g.events) ≤ room → cues_number (counted_judged f rate room) ≡ 0
takes f rate room b good g fits =
    (promised.song_rows f rate room).done_row good (good_from rate f b g) (subst (λ (l : List Entry). 2 * length l ≤ room) (sym (listed rate f b g)) fits)

only_late : (rate : ℕ) (f : List ℕ) → Bytes f → (division : ℕ) (ts : List Timed) → File f division ts → (why : Fault) → (song_of rate f).verdict ≡ Err why
    → refusal_of why.reason ≡ 14
unfolding refusal_of
only_late rate f b division ts s why e =
    let t = taken rate f b division ts s in
    go t.next (good_or_late rate division first_tempo 0 (events_of f t.next) t.good) (sym (ap (λ (s : Song). s.verdict) (is_song rate f b division t.next t.opens)) ∙ e)
  where
    go : (next : ℕ) → ((song_from rate division first_tempo 0 (events_of f next)).verdict ≡ Ok tt)
        ⊎ ((at : ℕ) × ((song_from rate division first_tempo 0 (events_of f next)).verdict ≡ Err (fault_at LateFrame at)))
        → (song_from rate division first_tempo 0 (events_of f next)).verdict ≡ Err why → refusal_of why.reason ≡ 14
    go next (inl good) broken = let z : ◌≡◌ {A = ℕ} 0 1 = cc in absurd (omega arith)
    go next (inr (at, late)) broken = ap (λ (w : Fault). refusal_of w.reason) (sym (fault_is (sym late ∙ broken)))

pub judged : Judged
judged = record {
  good = λ rate f b. (good_to rate f b, good_from rate f b);
  listed = listed;
  takes = takes;
  takes_only = λ f rate room n b e. good_to rate f b (promised.counted f rate room n e).0;
  first = first;
  alike = λ rate f g b why e same.
      same_fault rate f g (octets f b) why e (subst (λ (n : ℕ). take n g ≡ take n f) (add-one why.at) same);
  thirteen = λ rate f b why e. thirteen f (octets f b) rate why e;
  fourteen = λ rate f b why e n. fourteen f (octets f b) rate why e n;
  only_late = only_late;
}
