-- The answers of `merge`. Assumes nothing.
use Rattle.std.specs.Prelude.{Result, Ok, Err}
use mathlib.Core.Path.{◌≡◌, refl, sym, ap, ◌∙◌, subst}
use mathlib.Core.List.{List, [], ◌∷◌, ◌++◌, append-nil}
use mathlib.Core.Logic.{◌⊎◌, inl, inr}
use Prim.Native.Nat.{ℕ, ◌-◌, ◌*◌, ◌/◌, ◌%◌, ◌^◌, ◌≤◌, ◌<◌}
use native.Mathlib.Omega.{arith}
use lib.ListN.{length, take}
use lib.Seq.{sets}
use Rattle.octets.specs.Octets.{bytes_at, number_after, number_of}
use Rattle.smf.specs.Faults.{refusal_of}
use Rattle.smf.specs.Promised.{Timed}
use Rattle.smf.specs.declared.faults.Reason.{Reason}
use Rattle.smf.specs.declared.faults.Reason.TheVariants as reason
use Rattle.smf.specs.declared.faults.Fault.{Fault}
use Rattle.song_grammar.specs.Grammar.{Track, Chunk, MTrk, Header, File}
use Rattle.song_grammar.specs.Grammar.Chunk.{chunk}
use Rattle.song_grammar.specs.Grammar.Header.{header}
use Rattle.song_grammar.specs.Grammar.Aliens.{none}
use Rattle.song_grammar.specs.Grammar.File.{file}
use Rattle.song_grammar.proofs.Segments.{From, join, split, whole_from, whole_is, before_is}
use Rattle.song_grammar.proofs.Wholes.{Octets}
use Rattle.song_merge.specs.declared.chunks.Opened.{Opened}
use Rattle.song_merge.specs.declared.merging.Unmerged.{Unmerged}
use Rattle.song_merge.specs.declared.merging.Unmerged.TheVariants as unmerged
use Rattle.song_merge.specs.Songs.{Heading, Tracks, ManyTracks}
use Rattle.song_merge.specs.Songs.ManyTracks.{songs}
use Rattle.song_merge.specs.Merges.{merged_all}
use Rattle.song_merge.specs.Written.{heading_bytes}
use Rattle.song_merge.specs.Standing.{TrackStands}
use Rattle.song_merge.specs.Headings.{opened, opening_of}
use Rattle.song_merge.specs.Gathers.{TracksFrom, GathersTracks}
use Rattle.song_merge.specs.Answers.{Answers}
use Rattle.song_merge.proofs.Bytes.{bytes_from, bytes_are, bytes_long, bytes_after, from_sets, sets_long}
use Rattle.song_merge.proofs.Headings.{heading_taken, opens}
use Rattle.song_merge.proofs.Gathering.{Firsts, firsts}

-- ---- a refusal is 12 or more
refusal_high : (why : Reason) → 12 ≤ refusal_of why
unfolding refusal_of
refusal_high reason.Missing = omega arith
refusal_high reason.NoHeader = omega arith
refusal_high reason.ShortHeader = omega arith
refusal_high reason.OtherFormat = omega arith
refusal_high reason.OtherTrackCount = omega arith
refusal_high reason.SmpteDivision = omega arith
refusal_high reason.NoDivision = omega arith
refusal_high reason.SecondHeader = omega arith
refusal_high reason.SecondTrack = omega arith
refusal_high reason.NoTrack = omega arith
refusal_high reason.NoEndOfTrack = omega arith
refusal_high reason.BehindEndOfTrack = omega arith
refusal_high reason.LongQuantity = omega arith
refusal_high reason.NoRunningStatus = omega arith
refusal_high reason.SystemStatus = omega arith
refusal_high reason.NoDataByte = omega arith
refusal_high reason.NoMetaType = omega arith
refusal_high reason.ShortTempo = omega arith
refusal_high reason.LateFrame = omega arith

-- ---- the file that is written
heading_there : (division size : ℕ) (body bytes : List ℕ) (ts : List Timed) → 0 < division → division < 0x8000 → length body ≡ size → Track 0 body ts
    → bytes ≡ heading_bytes division size ++ body → File bytes division ts
unfolding number_of number_after
heading_there division size body bytes ts some small long t is =
    let head : List ℕ = 0x4D ∷ 0x54 ∷ 0x68 ∷ 0x64 ∷ 0 ∷ 0 ∷ 0 ∷ 6 ∷ 0 ∷ 0 ∷ 0 ∷ 1 ∷ (division / 256) ∷ (division % 256) ∷ [] in
    let track : List ℕ = 0x4D ∷ 0x54 ∷ 0x72 ∷ 0x6B ∷ (size / 256 / 256 / 256) ∷ (size / 256 / 256 % 256) ∷ (size / 256 % 256) ∷ (size % 256) ∷ body in
    let number : number_of ((division / 256) ∷ (division % 256) ∷ []) ≡ division = omega arith in
    let chunk_is : Chunk MTrk body track = chunk (size / 256 / 256 / 256) (size / 256 / 256 % 256) (size / 256 % 256) (size % 256) (omega arith) in
    let head_is : Header head division =
    subst (Header head) number (header {high = division / 256} {low = division % 256} {more = []} (omega arith) (omega arith) (chunk 0 0 0 6 refl)) in
    let all : head ++ ([] ++ (track ++ [])) ≡ bytes = ap (λ (l : List ℕ). head ++ l) (append-nil track) ∙ sym is in
    subst (λ (l : List ℕ). File l division ts) all (file head_is none chunk_is t none)

module _ (out out' : List ℕ) (division end : ℕ) (ts : List Timed) where
  pub filed : 0 < division → division < 0x8000 → 22 ≤ end → end ≤ length out → TrackStands out 22 end ts → out' ≡ sets out 0 (heading_bytes division (end - 22)) → (end ≤ length out') × File (take end out') division ts
  filed some small low high t stored =
      let h = heading_bytes division (end - 22) in
      let body = bytes_at (end - 22) out 22 in
      let kept = sets_long out h 0 stored in
      let front : From out' 0 h 22 = subst (λ (l : List ℕ). From l 0 h 22) (sym stored) (from_sets h out 0 (omega arith)) in
      let same : bytes_at (end - 22) out' 22 ≡ body = ap (λ (l : List ℕ). bytes_at (end - 22) l 22) stored ∙ bytes_after h out 0 (end - 22) 22 (omega arith) in
      let rest : From out' 22 body end = subst (λ (l : List ℕ). From out' 22 l end) same (bytes_from out' 22 end low) in
      let bytes : take end out' ≡ h ++ body = before_is out' (h ++ body) end (join out' 0 h 22 body end front rest) (omega arith) in
      (omega arith, heading_there division (end - 22) body (take end out') ts some small (bytes_long out (end - 22) 22) t bytes)

-- ---- a song, by its header and its tracks
module _ (f : List ℕ) (octets : Octets f) where
  pub record Parts (division : ℕ) (tss : List (List Timed)) : Type 0 where
    pub next : ℕ
    pub opening : opening_of f ≡ opened division (length tss) next
    pub counted : TracksFrom f next (length tss) tss

  parts_of : {bytes : List ℕ} {division : ℕ} {tss : List (List Timed)} → ManyTracks bytes division tss → From f 0 bytes (length f) → Parts division tss
  parts_of (songs {head} {bytes} {division} {tss} h t) from =
      let s = split f 0 head bytes (length f) from in
      record {
        next = s.mid;
        opening = heading_taken f octets h s.mid s.left s.up;
        counted = (subst (λ (l : List ℕ). Tracks l tss) (sym (bytes_are f bytes s.mid (length f) s.right)) t, refl);
      }

  parts : (division : ℕ) (tss : List (List Timed)) → ManyTracks f division tss → Parts division tss
  parts division tss s = parts_of s (whole_from f)

  song_of : (division count next : ℕ) (tss : List (List Timed)) → opening_of f ≡ opened division count next → TracksFrom f next count tss → ManyTracks f division tss
  song_of division count next tss e (t, n) =
      let o = opens f octets division count next e in
      let head = o.head in
      let rest = bytes_at (length f - next) f next in
      let all = join f 0 head.bytes next rest (length f) head.there (bytes_from f next (length f) o.room) in
      subst (λ (l : List ℕ). ManyTracks l division tss) (sym (whole_is f (head.bytes ++ rest) all))
      (songs (subst (Heading head.bytes division) (sym n) head.is) t)

  -- ---- the answers
  module _ (spare : ℕ) (out : List ℕ) where
    -- a header that is refused
    pub refused_heading : (why : Fault) → opening_of f ≡ Err why → Answers f spare out (record { length = 0; number = refusal_of why.reason })
    refused_heading why e = record {
      told = λ n. absurd (low n);
      taken = λ d tss s. absurd (no_song d tss s);
      merged = λ d tss s. absurd (no_song d tss s);
      short = λ n. absurd (low (inr n));
      room = λ d tss s. absurd (no_song d tss s);
      heading = λ w k. let same : why ≡ w = cc in ap (λ (x : Fault). refusal_of x.reason) same;
      other = λ d c n k. absurd (let z : ◌≡◌ {A = ℕ} 0 1 = cc in omega arith);
    }
      where
        low : (refusal_of why.reason ≡ 0) ⊎ (refusal_of why.reason ≡ 8) → ⊥
        low (inl n) = omega (arith, refusal_high why.reason)
        low (inr n) = omega (arith, refusal_high why.reason)

        no_song : (division : ℕ) (tss : List (List Timed)) → ManyTracks f division tss → ⊥
        no_song division tss s = let p = parts division tss s in let o = p.opening in let z : ◌≡◌ {A = ℕ} 0 1 = cc in omega arith

    module _ (division count next : ℕ) (e : opening_of f ≡ opened division count next) where
      pub in_file : next ≤ length f
      in_file = (opens f octets division count next e).room

      pub small : (0 < division) × (division < 0x8000)
      small = let o = opens f octets division count next e in (o.some, o.small)

      -- by the header that was read
      counted_of : (d : ℕ) (tss : List (List Timed)) → ManyTracks f d tss → (d ≡ division) × TracksFrom f next count tss
      counted_of d tss s =
          let p = parts d tss s in
          let o = p.opening in
          let same : ◌≡◌ {A = Opened} (record { division = d; count = length tss; next = p.next }) (record { division = division; count = count; next = next }) = cc in
          let same_d : d ≡ division = ap (λ (x : Opened). x.division) same in
          let same_c : length tss ≡ count = ap (λ (x : Opened). x.count) same in
          let same_n : p.next ≡ next = ap (λ (x : Opened). x.next) same in
          (same_d, (subst (λ (n : ℕ). Tracks (bytes_at (length f - n) f n) tss) same_n p.counted.0, same_c))

      no_broken : {A : Type 0} (why : Fault) → opening_of f ≡ Err why → A
      no_broken why k = absurd (let z : ◌≡◌ {A = ℕ} 0 1 = cc in omega arith)

      pub refused_tracks : GathersTracks f count next spare out (Err unmerged.Broken) → Answers f spare out (record { length = 0; number = 12 })
      refused_tracks g = record {
        told = λ n. absurd (low n);
        taken = λ d tss s. absurd (no_song d tss s);
        merged = λ d tss s. absurd (no_song d tss s);
        short = λ n. absurd (omega arith);
        room = λ d tss s. absurd (no_song d tss s);
        heading = λ why k. no_broken why k;
        other = λ d c n k. inr (inr refl);
      }
        where
          low : (◌≡◌ {A = ℕ} 12 0) ⊎ (◌≡◌ {A = ℕ} 12 8) → ⊥
          low (inl n) = omega arith
          low (inr n) = omega arith

          no_song : (d : ℕ) (tss : List (List Timed)) → ManyTracks f d tss → ⊥
          no_song d tss s = g.taken tss (counted_of d tss s).1 refl

      song : (r : Result ℕ Unmerged) → GathersTracks f count next spare out r → (r ≡ Err unmerged.Broken → ⊥) → (division : ℕ) × (tss : List (List Timed)) × ManyTracks f division tss
      song r g good = let (tss, c) = g.told good in (division, tss, song_of division count next tss e c)

      -- some tracks stand behind the header
      behind : (tss : List (List Timed)) → TracksFrom f next count tss → 0 < count → next < length f
      behind tss (t, n) some = go (firsts f octets next tss in_file t)
        where
          go : Firsts f next tss → next < length f
          go (inl (nothing, is)) = let z = ap length is in absurd (omega arith)
          go (inr (ts, uss, is, f₁)) = let a = f₁.low in let b = f₁.is in let c = f₁.room in omega arith

      pub no_room : GathersTracks f count next spare out (Err unmerged.Short) → Answers f spare out (record { length = 2 * length f; number = 8 })
      no_room g = record {
        told = λ _. song (Err unmerged.Short) g (λ k. let z : ◌≡◌ {A = ℕ} 0 1 = cc in omega arith);
        taken = λ d tss s. inr refl;
        merged = λ d tss s n. absurd (omega arith);
        short = λ _. refl;
        room = λ d tss s h p q.
            let o = opens f octets division count next e in
            let c = (counted_of d tss s).1 in
            absurd (g.room tss c o.long (behind tss c o.tracks) p q h refl);
        heading = λ why k. no_broken why k;
        other = λ d c n k. inr (inl refl);
      }

      -- what is known of a merged track
      pub fits : (end : ℕ) → GathersTracks f count next spare out (Ok end) → (22 ≤ end) × (end ≤ length out) × (end < 2 ^ 32)
      fits end g =
          let (tss, c) = g.told (λ k. let z : ◌≡◌ {A = ℕ} 0 1 = cc in omega arith) in
          let m = g.merged tss c end refl in
          (m.0, m.1, m.2)

      pub done : (end : ℕ) → GathersTracks f count next spare out (Ok end) → (out' : List ℕ) → out' ≡ sets out 0 (heading_bytes division (end - 22)) → Answers f spare out' (record { length = end; number = 0 })
      done end g out' stored = record {
        told = λ _. song (Ok end) g (λ k. let z : ◌≡◌ {A = ℕ} 0 1 = cc in omega arith);
        taken = λ d tss s. inl refl;
        merged = λ d tss s n.
            let (same, c) = counted_of d tss s in
            let (low, high, short, stands) = g.merged tss c end refl in
            subst (λ (k : ℕ). (end ≤ length out') × File (take end out') k (merged_all tss)) (sym same)
            (filed out out' division end (merged_all tss) small.0 small.1 low high stands stored);
        short = λ n. absurd (omega arith);
        room = λ d tss s h p q. refl;
        heading = λ why k. no_broken why k;
        other = λ d c n k. inl refl;
      }
