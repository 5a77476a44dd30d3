-- The chunks of a file, step by step: where a track chunk lies, which divisions a header has, and what may stand behind End of Track. Assumes nothing.
use Rattle.std.specs.Prelude.{Option, Some, None, Result, Ok, Err}
use mathlib.Core.Path.{◌≡◌, refl, ap, subst}
use mathlib.Core.Bool.{not}
use mathlib.Core.List.{List}
use Prim.Native.Nat.{ℕ, zero, suc, pred, ◌+◌, ◌-◌, ◌^◌, ◌≤◌, ◌<◌, min}
use native.Mathlib.Omega.{arith}
use lib.Dec.{ltb, leb, eqb}
use lib.ListN.{length}
use borrow.Author.Tests.{ltb-false, leb-false, eqb-false, lt-ltb, le-ltb, le-leb}
use Rattle.smf.specs.Faults.{fault_at}
use Rattle.smf.specs.Fields.{two_at, four_at}
use Rattle.smf.specs.Files.{header_type, track_type, fields_of, header_of, chunk_at, track_from, track_at, rest_at, behind_track, chunk_events, track_of, events_in, events_of}
use Rattle.smf.specs.Files.Events.{over}
use Rattle.smf.specs.declared.faults.Reason.TheVariants.{Missing, BehindEndOfTrack}
use Rattle.smf.proofs.Inside.{both}
use Rattle.smf.specs.declared.faults.Fault.{Fault}

-- ---- the search for a track

-- where bytes are left, so is a step
pub track_on : (n : ℕ) (f : List ℕ) (at : ℕ) → at < length f → length f - at ≤ n → track_from n f at ≡ chunk_at f at (track_from (pred n) f)
unfolding track_from
track_on zero f at h k = absurd (omega arith)
track_on (suc n) f at h k = refl

pub track_over : (n : ℕ) (f : List ℕ) (at : ℕ) → length f ≤ at → track_from n f at ≡ Ok None
unfolding track_from chunk_at
track_over zero f at h = refl
track_over (suc n) f at h = simp (le-leb _ _ h)

-- a track that is found has its type in the file
abbrev pub Placed : List ℕ → Result (Option ℕ) Fault → Type 0
Placed f (Ok (Some place)) = place + 4 ≤ length f
Placed f (Ok None) = Unit {0}
Placed f (Err why) = Unit {0}

placed : (n : ℕ) (f : List ℕ) (at : ℕ) → Placed f (track_from n f at)
unfolding track_from chunk_at
placed zero f at = tt
placed (suc n) f at =
    both (Placed f) (leb (length f) at) _ _ (λ _. tt)
    (λ _. both (Placed f) (ltb (length f) (at + 4)) _ _ (λ _. tt)
    (λ room. both (Placed f) (eqb (four_at f at) header_type) _ _ (λ _. tt)
    (λ _. both (Placed f) (eqb (four_at f at) track_type) _ _ (λ _. ltb-false (length f) (at + 4) room)
    (λ _. both (Placed f) (ltb (length f) (at + 8)) _ _ (λ _. tt)
    (λ _. both (Placed f) (ltb (length f) (at + 8 + four_at f (at + 4))) _ _ (λ _. tt) (λ _. placed n f (at + 8 + four_at f (at + 4))))))))

pub track_placed : (f : List ℕ) (at place : ℕ) → track_at f at ≡ Ok (Some place) → place + 4 ≤ length f
unfolding track_at
track_placed f at place e = subst (Placed f) e (placed (length f) f at)

-- ---- the header's division is neither 0 nor SMPTE's
abbrev pub Divided : Result (ℕ × ℕ) Fault → Type 0
Divided (Ok (division, next)) = (0 < division) × (division < 2 ^ 15)
Divided (Err why) = Unit {0}

fields_divided : (f : List ℕ) (size : ℕ) → Divided (fields_of f size)
unfolding fields_of
fields_divided f size =
    both Divided (ltb (length f) 10) _ _ (λ _. tt)
    (λ _. both Divided (not (eqb (two_at f 8) 0)) _ _ (λ _. tt)
    (λ _. both Divided (ltb (length f) 12) _ _ (λ _. tt)
    (λ _. both Divided (not (eqb (two_at f 10) 1)) _ _ (λ _. tt)
    (λ _. both Divided (ltb (length f) 14) _ _ (λ _. tt)
    (λ _. both Divided (leb 0x8000 (two_at f 12)) _ _ (λ _. tt)
    (λ small. both Divided (eqb (two_at f 12) 0) _ _ (λ _. tt)
    (λ some. both Divided (ltb (length f) (8 + size)) _ _ (λ _. tt)
    (λ _. let not-zero = eqb-false (two_at f 12) 0 some in (omega arith, omega (arith, leb-false 0x8000 (two_at f 12) small))))))))))

header_divides : (f : List ℕ) → Divided (header_of f)
unfolding header_of
header_divides f =
    both Divided (ltb (length f) 4) _ _ (λ _. tt)
    (λ _. both Divided (not (eqb (four_at f 0) header_type)) _ _ (λ _. tt)
    (λ _. both Divided (ltb (length f) 8) _ _ (λ _. tt)
    (λ _. both Divided (ltb (four_at f 4) 6) _ _ (λ _. tt) (λ _. fields_divided f (four_at f 4)))))

pub header_divided : (f : List ℕ) (division next : ℕ) → header_of f ≡ Ok (division, next) → (0 < division) × (division < 2 ^ 15)
header_divided f division next e = subst Divided e (header_divides f)

-- ---- behind End of Track
module _ (f : List ℕ) (full at : ℕ) where
  pub behind_early : at < full → at < length f → behind_track f full at ≡ Err (fault_at BehindEndOfTrack at)
  unfolding behind_track
  behind_early h k =
      let early : at < min full (length f) = omega arith in
      simp (lt-ltb _ _ early)

  pub behind_cut : length f ≤ at → length f < full → behind_track f full at ≡ Err (fault_at Missing (length f))
  unfolding behind_track
  behind_cut h k =
      let late : min full (length f) ≤ at = omega arith in
      simp (le-ltb _ _ late, lt-ltb _ _ k)

  pub behind_whole : full ≤ at → full ≤ length f → behind_track f full at ≡ rest_at f full
  unfolding behind_track
  behind_whole h k =
      let late : min full (length f) ≤ at = omega arith in
      simp (le-ltb _ _ late, le-ltb _ _ k)

-- ---- the track chunk
module _ (f : List ℕ) (at : ℕ) where
  pub track_short : at ≤ length f → length f - at < 8 → track_of f at ≡ over (Err (fault_at Missing (length f)))
  unfolding track_of
  track_short h k =
      let short : length f < at + 8 = omega arith in
      simp (lt-ltb _ _ short)

  pub track_long : 8 ≤ length f - at → track_of f at ≡ chunk_events f (at + 8 + four_at f (at + 4)) (at + 8)
  unfolding track_of
  track_long h =
      let long : at + 8 ≤ length f = omega arith in
      simp (le-ltb _ _ long)

  pub events_found : (found : Result (Option ℕ) Fault) → track_at f at ≡ found → events_of f at ≡ events_in f found
  unfolding events_of
  events_found found e = ap (events_in f) e
