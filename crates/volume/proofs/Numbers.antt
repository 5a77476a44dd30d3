-- Number 7 exactly where the definitions say that a call is refused, and 0 elsewhere. Assumes nothing.
use mathlib.Core.Path.{◌≡◌, refl}
use mathlib.Core.Bool.{Bool, true, false, ◌||◌, cond}
use Prim.Native.Nat.{ℕ, ◌^◌, ◌≤◌}
use lib.Dec.{T, ltb}
use lib.Ieee.{Float}
use lib.Ieee.Bits.{is_true}
use borrow.Author.Tests.{le-ltb}
use Rattle.volume.specs.declared.Volume.{Volume}
use Rattle.std.specs.Prelude.{Ok}
use Rattle.refusals.specs.Refusals.{code_of, row}
use Rattle.refusals.specs.declared.Refusal.TheVariants.{BadArgument}
use Rattle.volume.specs.Levels.{level_of, toward_of, stepped_of, good_volume, level_refused_at, value_answer, to_of, step_answer}

-- a good volume within the clock's limit is not refused
pub not_refused : (v : Volume) (now : ℕ) → now ≤ 2 ^ 48 → T (good_volume now v) → level_refused_at v now ≡ false
unfolding level_refused_at
not_refused v now h g = simp (le-ltb (2 ^ 48) now h, is_true (good_volume now v) g)

-- of an answer by one row
row_number : {A : Type 0} (b : Bool) (x : A) → code_of (row b BadArgument (Ok x)) ≡ cond b 7 0
row_number true x = refl
row_number false x = refl

pub value_number : (v : Volume) (now : ℕ) → code_of (value_answer v now) ≡ cond (level_refused_at v now) 7 0
unfolding value_answer
value_number v now = row_number (level_refused_at v now) (level_of v now)

pub to_number : (v : Volume) (now duration : ℕ) (target : Float) → code_of (to_of v now duration target) ≡ cond (level_refused_at v now || ltb (2 ^ 24) duration) 7 0
unfolding to_of
to_number v now duration target = row_number (level_refused_at v now || ltb (2 ^ 24) duration) (toward_of v now duration target)

pub step_number : (v : Volume) (now : ℕ) → code_of (step_answer v now) ≡ cond (level_refused_at v now) 7 0
unfolding step_answer
step_number v now = row_number (level_refused_at v now) (stepped_of v now)
