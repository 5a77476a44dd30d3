-- What the grammar spells, the reader takes: tracks, chunks, the header and the file. Assumes nothing.
use Rattle.std.specs.Prelude.{Option, Some, Result, Ok}
use mathlib.Core.Path.{◌≡◌, refl, sym, ap, ◌∙◌, subst}
use mathlib.Core.List.{List, [], ◌∷◌, ◌++◌}
use Prim.Native.Nat.{ℕ, zero, suc, pred, ◌+◌, ◌-◌, ◌≤◌, ◌<◌, min}
use native.Mathlib.Omega.{arith}
use lib.ListN.{length}
use borrow.Author.Tests.{le-ltb, lt-leb, ne_eqb}
use Rattle.octets.specs.Octets.{byte_at, number_after, number_of}
use Rattle.smf.specs.Fields.{two_at, four_at}
use Rattle.smf.specs.Files.{Events, header_type, track_type, fields_of, header_of, chunk_at, track_from, track_at, rest_at, behind_track, events_on, events_from, events_of}
use Rattle.smf.specs.Files.Events.{then, over}
use Rattle.smf.specs.Promised.{Timed, timed_of}
use Rattle.smf.proofs.Searches.{track_on, track_over, behind_whole, track_long, events_found}
use Rattle.song_grammar.specs.Grammar.{Track, Chunk, MThd, MTrk, Header, Aliens, File}
use Rattle.song_grammar.specs.Grammar.Track.{ended, then as event_then}
use Rattle.song_grammar.specs.Grammar.Chunk.{chunk}
use Rattle.song_grammar.specs.Grammar.Header.{header}
use Rattle.song_grammar.specs.Grammar.Aliens.{none, alien}
use Rattle.song_grammar.specs.Grammar.File.{file}
use Rattle.song_grammar.proofs.Segments.{From, from_length, join, split, two_is, four_is}
use Rattle.song_grammar.proofs.Taken.{some_bytes, step_taken, end_step}
use Rattle.smf.specs.declared.faults.Fault.{Fault}

-- what the events of a track end with
unfoldable pub last_of : Events → Result (Unit {0}) Fault
last_of (over v) = v
last_of (then delta event next rest) = last_of rest

module _ (f : List ℕ) (full : ℕ) where
  abbrev end : ℕ
  end = min full (length f)

  pub record TrackTaken (es : Events) (behind : ℕ) (ts : List Timed) : Type 0 where
    pub verdict : last_of es ≡ behind_track f full behind
    pub events : timed_of es ≡ ts

  pub track_taken : {running : ℕ} {bytes : List ℕ} {ts : List Timed} → Track running bytes ts → (n at behind : ℕ) → From f at bytes behind → behind ≤ end → behind ≤ at + n
      → TrackTaken (events_from n f full running at) behind ts
  unfolding events_from events_on last_of timed_of
  track_taken (ended {running} {ticks} {delta} {size} body q r) zero at behind from room fuel =
      let apart = split f at delta (0xFF ∷ 0x2F ∷ (size ++ body)) behind from in
      let place = apart.place in
      let up = apart.up in
      absurd (omega (arith, some_bytes f end q))
  track_taken (ended {running} {ticks} {delta} {size} body q r) (suc n) at behind from room fuel =
      let there = end_step f end running at behind delta (0xFF ∷ 0x2F ∷ (size ++ body)) q from room size body r refl in
      record { verdict = rw there; events = rw there }
  track_taken (event_then {running} {ticks} {status} {delta} {event} {rest} {e} {ts} q o more) zero at behind from room fuel =
      let apart = split f at delta (event ++ rest) behind from in
      let place = apart.place in
      let up = apart.up in
      absurd (omega (arith, some_bytes f end q))
  track_taken (event_then {running} {ticks} {status} {delta} {event} {rest} {e} {ts} q o more) (suc n) at behind from room fuel =
      let apart = split f at delta (event ++ rest) behind from in
      let second = split f apart.mid event rest behind apart.right in
      let from' = join f at delta apart.mid event second.mid apart.left second.left in
      let place = apart.place in
      let place' = second.place in
      let up = second.up in
      let some = some_bytes f end q in
      let there = step_taken f end running at second.mid delta event q from' (omega arith) o in
      let after = track_taken more n second.mid behind second.right room (omega arith) in
      record {
        verdict = rw there after.verdict;
        events = rw there (ap (λ (l : List Timed). record { delta = ticks; event = e } ∷ l) after.events);
      }

-- ---- chunks

-- a list of bytes
abbrev pub Octets : List ℕ → Type 0
Octets f = (i : ℕ) → byte_at f i < 256

-- bytes that make the same number are the same
pub same_four : (a b c d p q r s : ℕ) → (a < 256) × (b < 256) × (c < 256) × (d < 256) → (p < 256) × (q < 256) × (r < 256) × (s < 256)
    → number_of (a ∷ b ∷ c ∷ d ∷ []) ≡ number_of (p ∷ q ∷ r ∷ s ∷ []) → a ∷ b ∷ c ∷ d ∷ [] ≡ p ∷ q ∷ r ∷ s ∷ []
unfolding number_of number_after
same_four a b c d p q r s small small' e =
    let one : a ≡ p = omega arith in
    let two : b ≡ q = omega arith in
    let three : c ≡ r = omega arith in
    let four : d ≡ s = omega arith in
    cc

module _ (f : List ℕ) where
  -- a chunk that stands at a place
  pub record Stands (a b c d at : ℕ) (body : List ℕ) (next : ℕ) : Type 0 where
    pub type : From f at (a ∷ b ∷ c ∷ d ∷ []) (at + 4)
    pub kind : four_at f at ≡ number_of (a ∷ b ∷ c ∷ d ∷ [])
    pub size : four_at f (at + 4) ≡ length body
    pub inside : From f (at + 8) body next
    pub ends : at + 8 + length body ≡ next

  pub chunk_stands : {a b c d : ℕ} {body bytes : List ℕ} → Chunk (a ∷ b ∷ c ∷ d ∷ []) body bytes → (at next : ℕ) → From f at bytes next → Stands a b c d at body next
  chunk_stands {a} {b} {c} {d} {body} (chunk p q r s n) at next from =
      let four : at + 1 + 1 + 1 + 1 ≡ at + 4 = omega arith in
      let eight : at + 4 + 1 + 1 + 1 + 1 ≡ at + 8 = omega arith in
      let rest : From f (at + 4) (p ∷ q ∷ r ∷ s ∷ body) next = subst (λ (k : ℕ). From f k (p ∷ q ∷ r ∷ s ∷ body) next) four from.1.1.1.1 in
      let inside : From f (at + 8) body next = subst (λ (k : ℕ). From f k body next) eight rest.1.1.1.1 in
      record {
        type = (from.0, (from.1.0, (from.1.1.0, (from.1.1.1.0, four))));
        kind = four_is f at a b c d (p ∷ q ∷ r ∷ s ∷ body) next from;
        size = four_is f (at + 4) p q r s body next rest ∙ n;
        inside = inside;
        ends = from_length f (at + 8) body next inside;
      }

  module _ (octets : Octets f) where
    octets_of : (at next : ℕ) {a b c d : ℕ} → From f at (a ∷ b ∷ c ∷ d ∷ []) next → (a < 256) × (b < 256) × (c < 256) × (d < 256)
    octets_of at next from = (
      omega (arith, from.0, octets at),
      omega (arith, from.1.0, octets (at + 1)),
      omega (arith, from.1.1.0, octets (at + 1 + 1)),
      omega (arith, from.1.1.1.0, octets (at + 1 + 1 + 1)),
    )

    -- a chunk of another type is passed
    pub passed : {a b c d : ℕ} {body : List ℕ} (at next : ℕ) → (a ∷ b ∷ c ∷ d ∷ [] ≡ MThd → ⊥) → (a ∷ b ∷ c ∷ d ∷ [] ≡ MTrk → ⊥) → Stands a b c d at body next
        → next ≤ length f → (behind : ℕ → Result (Option ℕ) Fault) → chunk_at f at behind ≡ behind next
    unfolding chunk_at number_of number_after
    passed {a} {b} {c} {d} {body} at next no_Header no_track s room behind =
        let ends = s.ends in
        let k0 : at < length f = omega arith in
        let k4 : at + 4 ≤ length f = omega arith in
        let k8 : at + 8 ≤ length f = omega arith in
        let small = octets_of at (at + 4) s.type in
        let other : four_at f at ≡ header_type → ⊥ = (λ e. no_Header (same_four a b c d 0x4D 0x54 0x68 0x64 small (omega arith) (sym s.kind ∙ e))) in
        let other' : four_at f at ≡ track_type → ⊥ = (λ e. no_track (same_four a b c d 0x4D 0x54 0x72 0x6B small (omega arith) (sym s.kind ∙ e))) in
        let whole : at + 8 + four_at f (at + 4) ≤ length f = (let z = s.size in omega arith) in
        simp (lt-leb _ _ k0, le-ltb _ _ k4, ne_eqb _ _ other, ne_eqb _ _ other', le-ltb _ _ k8, le-ltb _ _ whole)
        (ap behind (let z = s.size in omega arith))

    -- those before a place
    pub record Passed (n at next : ℕ) : Type 0 where
      pub left : ℕ
      pub enough : length f - next ≤ left
      pub same : track_from n f at ≡ track_from left f next

    pub aliens_passed : {bytes : List ℕ} → Aliens bytes → (n at next : ℕ) → From f at bytes next → next ≤ length f → length f - at ≤ n → Passed n at next
    aliens_passed none n at next from room fuel = record {
      left = n;
      enough = (let e : at ≡ next = from in omega arith);
      same = ap (track_from n f) from;
    }
    aliens_passed (alien {a} {b} {c} {d} {body} {bytes} {rest} no_Header no_track k more) n at next from room fuel =
        let apart = split f at bytes rest next from in
        let s = chunk_stands k at apart.mid apart.left in
        let up = apart.up in
        let ends = s.ends in
        let p = aliens_passed more (pred n) apart.mid next apart.right room (omega arith) in
        record {
          left = p.left;
          enough = p.enough;
          same =
              track_on n f at (omega arith) fuel
              ∙ passed at apart.mid no_Header no_track s (omega arith) (track_from (pred n) f)
              ∙ p.same;
        }

    -- the track behind them, and none behind that
    pub track_there : (n at next : ℕ) {body : List ℕ} → Stands 0x4D 0x54 0x72 0x6B at body next → next ≤ length f → length f - at ≤ n → track_from n f at ≡ Ok (Some at)
    unfolding chunk_at number_of number_after
    track_there n at next {body} s room fuel =
        let ends = s.ends in
        let k0 : at < length f = omega arith in
        let k4 : at + 4 ≤ length f = omega arith in
        let kind : four_at f at ≡ track_type = s.kind in
        track_on n f at k0 fuel ∙ (simp (lt-leb _ _ k0, le-ltb _ _ k4, kind))

    pub nothing_behind : {bytes : List ℕ} → Aliens bytes → (at : ℕ) → From f at bytes (length f) → at ≤ length f → rest_at f at ≡ Ok tt
    unfolding rest_at track_at
    nothing_behind others at from room =
        let p = aliens_passed others (length f) at (length f) from (omega arith) (omega arith) in
        rw (p.same, track_over p.left f (length f) (omega arith))

    -- ---- the header
    header_taken : {bytes : List ℕ} {division : ℕ} → Header bytes division → (next : ℕ) → From f 0 bytes next → next ≤ length f → header_of f ≡ Ok (division, next)
    unfolding header_of fields_of number_of number_after
    header_taken (header {high} {low} {more} {bytes} small some k) next from room =
        let s = chunk_stands k 0 next from in
        let ends = s.ends in
        let long : four_at f 4 ≡ length (0 ∷ 0 ∷ 0 ∷ 1 ∷ high ∷ low ∷ more) = s.size in
        let kind : four_at f 0 ≡ header_type = s.kind in
        let format : two_at f 8 ≡ 0 = two_is f 8 0 0 (0 ∷ 1 ∷ high ∷ low ∷ more) next s.inside in
        let tracks : two_at f 10 ≡ 1 = two_is f 10 0 1 (high ∷ low ∷ more) next s.inside.1.1 in
        let division : two_at f 12 ≡ number_of (high ∷ low ∷ []) = two_is f 12 high low more next s.inside.1.1.1.1 in
        let byte = s.inside.1.1.1.1.1.0 in
        let k4 : 4 ≤ length f = omega arith in
        let k8 : 8 ≤ length f = omega arith in
        let k6 : 6 ≤ four_at f 4 = omega arith in
        let k10 : 10 ≤ length f = omega arith in
        let k12 : 12 ≤ length f = omega arith in
        let k14 : 14 ≤ length f = omega arith in
        let ticks : two_at f 12 < 0x8000 = omega (arith, octets 13) in
        let none : two_at f 12 ≡ 0 → ⊥ = (λ z. omega arith) in
        let whole : 8 + four_at f 4 ≤ length f = omega arith in
        simp (le-ltb _ _ k4, kind, le-ltb _ _ k8, le-ltb _ _ k6, le-ltb _ _ k10, format, le-ltb _ _ k12, tracks, le-ltb _ _ k14, lt-leb _ _ ticks, ne_eqb _ _ none, le-ltb _ _ whole)
        (ap (λ (n : ℕ). Ok (n, 8 + four_at f 4)) division ∙ ap (λ (n : ℕ). Ok (number_of (high ∷ low ∷ []), n)) (omega arith))

    pub record FileTaken (division : ℕ) (ts : List Timed) : Type 0 where
      pub next : ℕ
      pub opens : header_of f ≡ Ok (division, next)
      pub good : last_of (events_of f next) ≡ Ok tt
      pub events : timed_of (events_of f next) ≡ ts

    pub file_taken : {bytes : List ℕ} {division : ℕ} {ts : List Timed} → File bytes division ts → From f 0 bytes (length f) → FileTaken division ts
    unfolding track_at
    file_taken (file {head} {before} {body} {track} {behind} {division} {ts} h a k t b) from =
        let s₁ = split f 0 head (before ++ (track ++ behind)) (length f) from in
        let s₂ = split f s₁.mid before (track ++ behind) (length f) s₁.right in
        let s₃ = split f s₂.mid track behind (length f) s₂.right in
        let up₁ = s₁.up in
        let up₂ = s₂.up in
        let up₃ = s₃.up in
        let p = aliens_passed a (length f) s₁.mid s₂.mid s₂.left up₂ (omega arith) in
        let there = chunk_stands k s₂.mid s₃.mid s₃.left in
        let ends = there.ends in
        let size = there.size in
        let full : s₂.mid + 8 + four_at f (s₂.mid + 4) ≡ s₃.mid = omega arith in
        let is : events_of f s₁.mid ≡ events_from (length f) f s₃.mid 0 (s₂.mid + 8) =
        events_found f s₁.mid (Ok (Some s₂.mid)) (p.same ∙ track_there p.left s₂.mid s₃.mid there up₃ p.enough)
        ∙ track_long f s₂.mid (omega arith)
        ∙ ap (λ (n : ℕ). events_from (length f) f n 0 (s₂.mid + 8)) full in
        let taken = track_taken f s₃.mid t (length f) (s₂.mid + 8) s₃.mid there.inside (omega arith) (omega arith) in
        record {
          next = s₁.mid;
          opens = header_taken h s₁.mid s₁.left up₁;
          good = ap last_of is ∙ taken.verdict ∙ behind_whole f s₃.mid s₃.mid (omega arith) up₃ ∙ nothing_behind b s₃.mid s₃.right up₃;
          events = ap timed_of is ∙ taken.events;
        }
