-- Which numbers are told of which files: 13 of another format and of a SMPTE division, 14 of what is late. Assumes nothing.
use Rattle.std.specs.Prelude.{Option, Some, None, Result, Ok, Err}
use mathlib.Core.Path.{◌≡◌, refl, sym, ap, ◌∙◌, subst}
use mathlib.Core.Bool.{Bool, true, false, cond, not}
use mathlib.Core.List.{List, [], ◌∷◌, ◌++◌, append_assoc}
use mathlib.Core.Logic.{◌⊎◌, inl, inr, ◌≢◌, ◌↔◌}
use Prim.Native.Nat.{ℕ, zero, suc, ◌+◌, ◌*◌, ◌≤◌, ◌<◌, ◌^◌}
use native.Mathlib.Omega.{arith}
use lib.Dec.{ltb, leb, eqb}
use lib.ListN.{length}
use borrow.Author.Tests.{le-ltb, ltb-false, leb-true, eqb-true}
use Rattle.smf.specs.Faults.{fault_at, refusal_of}
use Rattle.smf.specs.Fields.{two_at, four_at}
use Rattle.smf.specs.Files.{Events, header_type, track_type, fields_of, header_of, chunk_at, track_from, track_at, no_second, rest_at, events_from, track_of, events_in, events_of}
use Rattle.smf.specs.Files.Events.{then, over}
use Rattle.smf.specs.Times.{first_tempo, frame_at}
use Rattle.smf.specs.Promised.{Timed, tempo_behind, tempo_sum, sounds_behind}
use Rattle.walks.specs.Each.{Each}
use Rattle.smf.specs.Cues.{Entry, event_entries, Song, tempo_after, too_late, song_from, song_in, song_of}
use Rattle.smf.specs.declared.faults.Reason.TheVariants.{Missing, NoHeader, ShortHeader, OtherTrackCount, NoDivision, LateFrame}
use Rattle.smf.specs.declared.faults.Fault.{Fault}
use Rattle.smf.specs.declared.events.Event.{Event}
use Rattle.smf.specs.declared.events.Event.TheVariants.{Note, Tempo, Other}
use Rattle.smf.proofs.Inside.{both}
use Rattle.song_grammar.specs.First.{OtherKind, Late}
use Rattle.song_grammar.proofs.Wholes.{last_of, Octets}
use Rattle.song_grammar.specs.Grammar.{Track, MTrk, Header, Aliens}
use Rattle.song_grammar.proofs.Segments.{From, from_length, join, before_is}
use Rattle.song_grammar.proofs.Shown.{Spelt, Plain}
use Rattle.song_grammar.proofs.Tracks.{some_timed, event_before, at_once, ends_at_once, Tracked, Breaks, tracked, broken_track}
use Rattle.song_grammar.proofs.Chunks.{Four, Chunked, chunk_there, Searched, search, Opens, opens, two_number}
use Rattle.song_grammar.proofs.Same.{fault_is, events_told}

-- ---- late
abbrev pub InRange : Entry → Type 0
InRange e = e.frame ≤ 2 ^ 48

pub not_late : (frame : ℕ) (e : Event) (l : List Entry) → Each InRange (event_entries frame e ++ l) → (too_late frame e ≡ false) × Each InRange l
unfolding Each event_entries too_late
not_late frame (Note key) l h = (le-ltb _ _ h.0, h.1)
not_late frame (Tempo new) l h = (refl, h)
not_late frame Other l h = (refl, h)

pub good_or_late : (rate division tempo sum : ℕ) (es : Events) → last_of es ≡ Ok tt
    → ((song_from rate division tempo sum es).verdict ≡ Ok tt) ⊎ ((at : ℕ) × ((song_from rate division tempo sum es).verdict ≡ Err (fault_at LateFrame at)))
unfolding last_of song_from
good_or_late rate division tempo sum (over v) e = inl e
good_or_late rate division tempo sum (then ticks m next rest) e =
    both (λ (s : Song). (s.verdict ≡ Ok tt) ⊎ ((at : ℕ) × (s.verdict ≡ Err (fault_at LateFrame at)))) (too_late (frame_at rate division (sum + ticks * tempo)) m) _ _
    (λ _. inr (_, refl))
    (λ _. good_or_late rate division (tempo_after tempo m) (sum + ticks * tempo) rest e)

-- ---- another kind of file
module _ (f : List ℕ) (octets : Octets f) where
  abbrev Kind : Fault → Type 0
  Kind why = (refusal_of why.reason ≡ 13) ↔ OtherKind f why.at

  -- the header's faults; a good one has 14 bytes
  abbrev Kinds : Result (ℕ × ℕ) Fault → Type 0
  Kinds (Ok (division, next)) = 14 ≤ next
  Kinds (Err why) = Kind why × (refusal_of why.reason ≢ 14)

  neither : (why : Fault) → Plain why → (OtherKind f why.at → ⊥) → Kinds (Err why)
  neither why plain other = ((λ e. absurd (omega arith), λ k. absurd (other k)), λ e. omega arith)

  elsewhere : (k : ℕ) → k ≢ 9 → k ≢ 13 → OtherKind f k → ⊥
  elsewhere k not_9 not_13 (inl (at, room)) = not_9 at
  elsewhere k not_9 not_13 (inr (at, room, high)) = not_13 at

  past_the_end : OtherKind f (length f) → ⊥
  past_the_end (inl (at, room)) = omega arith
  past_the_end (inr (at, room, high)) = omega arith

  no_ticks : two_at f 12 ≡ 0 → OtherKind f 13 → ⊥
  no_ticks z (inl (at, room)) = omega arith
  no_ticks z (inr (at, room, high)) = omega (arith, two_number f octets 12 0 z)

  missing : Kinds (Err (fault_at Missing (length f)))
  unfolding refusal_of
  missing = neither (fault_at Missing (length f)) refl past_the_end

  kind_fields : (size : ℕ) → 6 ≤ size → Kinds (fields_of f size)
  unfolding fields_of refusal_of
  kind_fields size six =
      both Kinds (ltb (length f) 10) _ _ (λ _. missing)
      (λ k10. let k10 = ltb-false (length f) 10 k10 in
      both Kinds (not (eqb (two_at f 8) 0)) _ _ (λ _. ((λ _. inl (refl, k10), λ _. refl), λ z. omega arith))
      (λ _. both Kinds (ltb (length f) 12) _ _ (λ _. missing)
      (λ _. both Kinds (not (eqb (two_at f 10) 1)) _ _ (λ _. neither (fault_at OtherTrackCount 11) refl (elsewhere 11 (λ z. omega arith) (λ z. omega arith)))
      (λ _. both Kinds (ltb (length f) 14) _ _ (λ _. missing)
      (λ k14. let k14 = ltb-false (length f) 14 k14 in
      both Kinds (leb 0x8000 (two_at f 12)) _ _
      (λ high.
      let h = leb-true 0x8000 (two_at f 12) high in
      ((λ _. inr (refl, k14, omega (arith, two_number f octets 12 (two_at f 12) refl, octets 13)), λ _. refl), λ z. omega arith))
      (λ _. both Kinds (eqb (two_at f 12) 0) _ _ (λ z. neither (fault_at NoDivision 13) refl (no_ticks (eqb-true (two_at f 12) 0 z)))
      (λ _. both Kinds (ltb (length f) (8 + size)) _ _ (λ _. missing) (λ _. omega arith))))))))

  kind_header : Kinds (header_of f)
  unfolding header_of refusal_of
  kind_header =
      both Kinds (ltb (length f) 4) _ _ (λ _. missing)
      (λ _. both Kinds (not (eqb (four_at f 0) header_type)) _ _ (λ _. neither (fault_at NoHeader 3) refl (elsewhere 3 (λ z. omega arith) (λ z. omega arith)))
      (λ _. both Kinds (ltb (length f) 8) _ _ (λ _. missing)
      (λ _. both Kinds (ltb (four_at f 4) 6) _ _ (λ _. neither (fault_at ShortHeader 7) refl (elsewhere 7 (λ z. omega arith) (λ z. omega arith)))
      (λ six. kind_fields (four_at f 4) (ltb-false (four_at f 4) 6 six)))))

  -- ---- behind the header: 12 from chunks
  abbrev PlainFound : Result (Option ℕ) Fault → Type 0
  PlainFound (Ok (Some place)) = Unit {0}
  PlainFound (Ok None) = Unit {0}
  PlainFound (Err why) = Plain why

  plain_search : (n at : ℕ) → PlainFound (track_from n f at)
  unfolding track_from chunk_at refusal_of
  plain_search zero at = tt
  plain_search (suc n) at =
      both PlainFound (leb (length f) at) _ _ (λ _. tt)
      (λ _. both PlainFound (ltb (length f) (at + 4)) _ _ (λ _. refl)
      (λ _. both PlainFound (eqb (four_at f at) header_type) _ _ (λ _. refl)
      (λ _. both PlainFound (eqb (four_at f at) track_type) _ _ (λ _. tt)
      (λ _. both PlainFound (ltb (length f) (at + 8)) _ _ (λ _. refl)
      (λ _. both PlainFound (ltb (length f) (at + 8 + four_at f (at + 4))) _ _ (λ _. refl) (λ _. plain_search n (at + 8 + four_at f (at + 4))))))))

  plain_rest : (at : ℕ) (why : Fault) → rest_at f at ≡ Err why → Plain why
  unfolding rest_at track_at refusal_of
  plain_rest at why = go (track_from (length f) f at) (plain_search (length f) at)
    where
      go : (r : Result (Option ℕ) Fault) → PlainFound r → no_second r ≡ Err why → Plain why
      go (Ok (Some place)) s e = subst Plain (fault_is e) refl
      go (Ok None) s e = let z : ◌≡◌ {A = ℕ} 0 1 = cc in absurd (omega arith)
      go (Err w) s e = subst Plain (fault_is e) s

  -- what is told of the events that stand behind a header is 12, or what the track tells
  module _ (rate division : ℕ) (why : Fault) where
    abbrev Told : Events → Type 0
    Told es = (song_from rate division first_tempo 0 es).verdict ≡ Err why

    abbrev full : ℕ → ℕ
    full place = place + 8 + four_at f (place + 4)

    -- the track that tells it
    pub record Entered (next : ℕ) : Type 0 where
      pub place : ℕ
      pub others : Spelt f Aliens next place
      pub type : From f place MTrk (place + 4)
      pub room : place + 8 ≤ length f
      pub told : Told (events_from (length f) f (full place) 0 (place + 8))

    follows : {next : ℕ} (t : Entered next) → Tracked f (full t.place) 0 (t.place + 8) (events_from (length f) f (full t.place) 0 (t.place + 8))
    follows t = let room = t.room in tracked f (full t.place) (length f) 0 (t.place + 8) (inl refl) (omega arith)

    in_track : (next : ℕ) → next ≤ length f → Told (events_of f next)
        → Plain why ⊎ Entered next
    unfolding events_of track_at song_from refusal_of track_of
    in_track next room = go (track_from (length f) f next) (plain_search (length f) next) (search f octets (length f) next room (omega arith))
      where
        found_track : (place : ℕ) → Spelt f Aliens next place → From f place MTrk (place + 4) → (b : Bool) → ltb (length f) (place + 8) ≡ b
            → Told (cond b (over (Err (fault_at Missing (length f)))) (events_from (length f) f (full place) 0 (place + 8)))
            → Plain why ⊎ Entered next
        found_track place others type true b e = inl (subst Plain (fault_is e) refl)
        found_track place others type false b e = inr (record { place = place; others = others; type = type; room = ltb-false (length f) (place + 8) b; told = e })

        go : (r : Result (Option ℕ) Fault) → PlainFound r → Searched f octets next r → Told (events_in f r)
            → Plain why ⊎ Entered next
        go (Ok (Some place)) p (others, type, inside) = found_track place others type (ltb (length f) (place + 8)) refl
        go (Ok None) p s = λ e. inl (subst Plain (fault_is e) refl)
        go (Err w) p s = λ e. inl (subst Plain (fault_is e) p)

    not_other : (next : ℕ) → next ≤ length f → Told (events_of f next) → refusal_of why.reason ≢ 13
    not_other next room e = go (in_track next room e)
      where
        breaks : (place : ℕ) → Breaks f (full place) 0 (place + 8) why → refusal_of why.reason ≢ 13
        breaks place (inl (c, inside, other)) = other
        breaks place (inr c) = λ z. omega (arith, plain_rest (full place) why c.behind)

        go : Plain why ⊎ Entered next → refusal_of why.reason ≢ 13
        go (inl plain) = λ z. omega arith
        go (inr t) = breaks t.place (broken_track f (full t.place) rate division first_tempo 0 0 (t.place + 8) _ (follows t) why t.told)

  -- ---- 14 from a track: an event that is late
  module _ (rate division full : ℕ) (why : Fault) (number : refusal_of why.reason ≡ 14) where
    pub record LateTrack (past : List Timed) (running at : ℕ) : Type 0 where
      pub events : List Timed
      pub spelt : Spelt f (λ (bytes : List ℕ). Track running (bytes ++ at_once) events) at (why.at + 1)
      pub room : why.at + 1 ≤ length f
      pub late : Each InRange (sounds_behind rate division past events) → ⊥

    twelve : {A : Type 0} {w : Fault} → Plain w → ◌≡◌ {A = Result (Unit {0}) Fault} (Err w) (Err why) → A
    twelve plain e = let same = ap (λ (v : Fault). refusal_of v.reason) (fault_is e) in absurd (omega arith)

    late_track : (past : List Timed) (running at : ℕ) (es : Events) → Tracked f full running at es
        → (song_from rate division (tempo_behind past) (tempo_sum past) es).verdict ≡ Err why → LateTrack past running at
    unfolding song_from tempo_sum tempo_behind sounds_behind frame_at
    late_track past running at (over (Ok done)) t = λ e. let z : ◌≡◌ {A = ℕ} 0 1 = cc in absurd (omega arith)
    late_track past running at (over (Err w)) (inl (c, room, plain)) = λ e. twelve plain e
    late_track past running at (over (Err w)) (inr c) = λ e. twelve (plain_rest full w c.behind) e
    late_track past running at (then ticks m next rest) (status, s, room, more) =
        let t : Timed = record { delta = ticks; event = m } in
        both (λ (song : Song). song.verdict ≡ Err why → LateTrack past running at) (too_late (frame_at rate division (tempo_sum past + ticks * tempo_behind past)) m) _ _
        (λ late e.
        let last = ap (λ (w : Fault). w.at) (fault_is e) in
        let long = from_length f at s.bytes next s.there in
        let behind : next ≡ why.at + 1 = omega (arith, some_timed s.is) in
        record {
          events = t ∷ [];
          spelt = record { bytes = s.bytes; is = event_before s.is (ends_at_once status); there = subst (From f at s.bytes) behind s.there };
          room = omega arith;
          late = λ h.
              let early = (not_late (frame_at rate division (tempo_sum past + ticks * tempo_behind past)) m [] h).0 in
              let z : ◌≡◌ {A = ℕ} 0 1 = cc in
              omega arith;
        })
        (λ _ e.
        let r = late_track (t ∷ past) status next rest more e in
        record {
          events = t ∷ r.events;
          spelt = record {
            bytes = s.bytes ++ r.spelt.bytes;
            is = subst (λ (l : List ℕ). Track running l (t ∷ r.events)) (sym (append_assoc s.bytes r.spelt.bytes at_once)) (event_before s.is r.spelt.is);
            there = join f at s.bytes next r.spelt.bytes (why.at + 1) s.there r.spelt.there;
          };
          room = r.room;
          late = λ h. r.late (not_late _ m _ h).1;
        })

  pub fourteen : (rate : ℕ) (why : Fault) → (song_of rate f).verdict ≡ Err why → refusal_of why.reason ≡ 14 → Late rate f why.at
  unfolding song_of tempo_sum tempo_behind
  fourteen rate why told number = go (header_of f) kind_header (opens f octets) told
    where
      in_file : (division next : ℕ) → Spelt f (λ (bytes : List ℕ). Header bytes division) 0 next → Plain why ⊎ Entered rate division why next → Late rate f why.at
      in_file division next head (inl plain) = absurd (omega arith)
      in_file division next head (inr t) =
          let l = late_track rate division (full rate division why t.place) why number [] 0 (t.place + 8) _ (follows rate division why t) t.told in
          record {
            head = head.bytes;
            division = division;
            opens = head.is;
            others = t.others.bytes;
            skips = t.others.is;
            length = Four f (t.place + 4);
            part = l.spelt.bytes;
            events = l.events;
            track = l.spelt.is;
            late = l.late;
            stands = before_is f (head.bytes ++ (t.others.bytes ++ Chunked f t.place MTrk t.type l.spelt.bytes)) (why.at + 1)
                (join f 0 head.bytes next (t.others.bytes ++ Chunked f t.place MTrk t.type l.spelt.bytes) (why.at + 1) head.there
                (join f next t.others.bytes t.place (Chunked f t.place MTrk t.type l.spelt.bytes) (why.at + 1) t.others.there
                (chunk_there f t.place MTrk t.type l.spelt.bytes (why.at + 1) l.spelt.there)))
                l.room;
          }

      go : (o : Result (ℕ × ℕ) Fault) → Kinds o → Opens f octets o → (song_in rate f o).verdict ≡ Err why → Late rate f why.at
      go (Err w) k s e = absurd (k.1 (ap (λ (v : Fault). refusal_of v.reason) (fault_is e) ∙ number))
      go (Ok (division, next)) k s e = in_file division next s.0 (in_track rate division why next s.1 e)

  pub thirteen : (rate : ℕ) (why : Fault) → (song_of rate f).verdict ≡ Err why → Kind why
  unfolding song_of
  thirteen rate why = go (header_of f) kind_header (opens f octets)
    where
      far : (division next : ℕ) → next ≤ length f → 14 ≤ next → (song_from rate division first_tempo 0 (events_of f next)).verdict ≡ Err why → why.at < length f → 14 ≤ why.at
      far division next room long e inside = omega (arith, (events_told why.at f f (λ i h. refl) inside inside octets rate division why refl next room e).0)

      no_kind : (division next : ℕ) → next ≤ length f → 14 ≤ next → (song_from rate division first_tempo 0 (events_of f next)).verdict ≡ Err why → OtherKind f why.at → ⊥
      no_kind division next room long e (inl (at, inside)) = omega (arith, far division next room long e (omega arith))
      no_kind division next room long e (inr (at, inside, high)) = omega (arith, far division next room long e (omega arith))

      go : (o : Result (ℕ × ℕ) Fault) → Kinds o → Opens f octets o → (song_in rate f o).verdict ≡ Err why → Kind why
      go (Err w) k s e = subst Kind (fault_is e) k.0
      go (Ok (division, next)) k s e = (
        λ z. absurd (not_other rate division why next s.1 e z),
        λ other. absurd (no_kind division next s.1 k e other),
      )
