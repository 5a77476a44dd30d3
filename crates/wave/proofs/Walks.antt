-- The walk over the chunks of a file, step by step. Assumes nothing.
use Rattle.std.specs.Prelude.{Option, Some, None}
use mathlib.Core.Path.{◌≡◌, refl, ◌∙◌}
use mathlib.Core.List.{List}
use Prim.Native.Nat.{ℕ, zero, suc, pred, ◌+◌, ◌-◌, ◌≤◌, ◌<◌}
use native.Mathlib.Omega.{arith}
use lib.ListN.{length}
use borrow.Author.Tests.{lt-ltb, le-ltb, le-leb, lt-leb}
use Rattle.wave.specs.Fields.{four_at}
use Rattle.wave.specs.Reader.{padded_at, met_of, and_then, chunk_at, walk_from}
use Rattle.wave.specs.declared.chunks.Places.{Places}

pub walk_over : (n : ℕ) (f : List ℕ) (at : ℕ) (p : Places) → length f ≤ at → walk_from n f at p ≡ Some p
unfolding walk_from chunk_at
walk_over zero f at p h = refl
walk_over (suc n) f at p h = simp (le-leb _ _ h)

-- where bytes are left, so is a step
module _ (n : ℕ) (f : List ℕ) (at : ℕ) (p : Places) (some : at < length f) (steps : length f - at ≤ n) where
  walk_on : walk_from n f at p ≡ chunk_at f at p (walk_from (pred n) f)
  unfolding walk_from
  walk_on = go n steps
    where
      go : (m : ℕ) → length f - at ≤ m → walk_from m f at p ≡ chunk_at f at p (walk_from (pred m) f)
      go zero k = absurd (omega arith)
      go (suc m) k = refl

  pub walk_short : length f - at < 8 → walk_from n f at p ≡ None
  unfolding chunk_at
  walk_short h =
      let short : length f < at + 8 = omega arith in
      walk_on ∙ simp (lt-leb _ _ some, lt-ltb _ _ short)

  pub walk_cut : 8 ≤ length f - at → length f - at - 8 < padded_at f at → walk_from n f at p ≡ None
  unfolding chunk_at
  walk_cut h k =
      let long : at + 8 ≤ length f = omega arith in
      let cut : length f < at + 8 + padded_at f at = omega arith in
      walk_on ∙ simp (lt-leb _ _ some, le-ltb _ _ long, lt-ltb _ _ cut)

  pub walk-next : 8 ≤ length f - at → padded_at f at ≤ length f - at - 8 → (m : Option Places) → met_of (four_at f at) at p ≡ m
      → walk_from n f at p ≡ and_then m (walk_from (pred n) f (at + 8 + padded_at f at))
  unfolding chunk_at
  walk-next h k m e =
      let long : at + 8 ≤ length f = omega arith in
      let whole : at + 8 + padded_at f at ≤ length f = omega arith in
      walk_on ∙ simp (lt-leb _ _ some, le-ltb _ _ long, le-ltb _ _ whole, e)
