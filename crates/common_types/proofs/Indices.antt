-- The modes by index and by float: that an index is refused from 3 on, that each mode comes back from its index and from its float,
-- and that NaN and every float with a negative sign stand for index 0. Assumes nothing.
use mathlib.Core.Path.{◌≡◌, refl, sym, ap, ◌∙◌}
use mathlib.Core.Bool.{true, false, cond, true≢false}
use Prim.Native.Nat.{ℕ, zero, suc, ◌+◌, ◌-◌, ◌*◌, ◌/◌, ◌<◌}
use native.Mathlib.Omega.{arith}
use lib.Dec.{ltb, lit<}
use borrow.Author.Tests.{le-ltb}
use lib.Ieee.{Float, nan, inf, fin, binary32, up, down, add, mul, div, of_int, to_unsigned}
use Rattle.binary32.specs.Leaves.{as_float, floor_of, sign_of}
use Rattle.binary32.proofs.Rounding.{round_sign}
use Rattle.std.specs.Prelude.{Ok, Err}
use Rattle.refusals.specs.Refusals.{code_of}
use Rattle.refusals.specs.declared.Refusal.TheVariants.{BadArgument}
use Rattle.common_types.specs.declared.LoopMode.{LoopMode}
use Rattle.common_types.specs.declared.LoopMode.TheVariants.{PlayOnce, Loop, PingPong}
use Rattle.common_types.specs.declared.NoteOffBehaviour.{NoteOffBehaviour}
use Rattle.common_types.specs.declared.NoteOffBehaviour.TheVariants.{Decay, ZeroCrossing, DecayAndZeroCrossing}
use Rattle.common_types.specs.Modes.{by_index, index_to_f32_of, index_from_f32_of, loop_mode_to_index_of, loop_mode_from_index_of, loop_mode_to_f32_of, loop_mode_from_f32_of, note_off_to_index_of, note_off_from_index_of, note_off_to_f32_of, note_off_from_f32_of}

pub by_index_other : {A : Type 0} (a b c other : A) (i : ℕ) → (i ≡ 0 → ⊥) → (i ≡ 1 → ⊥) → (i ≡ 2 → ⊥) → by_index a b c other i ≡ other
by_index_other a b c other zero p q r = absurd (p refl)
by_index_other a b c other (suc zero) p q r = absurd (q refl)
by_index_other a b c other (suc (suc zero)) p q r = absurd (r refl)
by_index_other a b c other (suc (suc (suc i))) p q r = refl

-- ---- number 7 from 3 on
by_index_of : {A B : Type 0} (f : A → B) (a b c other : A) (i : ℕ) → f (by_index a b c other i) ≡ by_index (f a) (f b) (f c) (f other) i
by_index_of f a b c other zero = refl
by_index_of f a b c other (suc zero) = refl
by_index_of f a b c other (suc (suc zero)) = refl
by_index_of f a b c other (suc (suc (suc i))) = refl

seven_from_three : (i : ℕ) → by_index {A = ℕ} 0 0 0 7 i ≡ cond (ltb i 3) 0 7
seven_from_three zero = refl
seven_from_three (suc zero) = refl
seven_from_three (suc (suc zero)) = refl
seven_from_three (suc (suc (suc i))) = rw (le-ltb (suc (suc (suc i))) 3 (omega arith))

pub loop_mode_number_lem : (i : ℕ) → code_of (loop_mode_from_index_of i) ≡ cond (ltb i 3) 0 7
loop_mode_number_lem i = by_index_of code_of (Ok PlayOnce) (Ok Loop) (Ok PingPong) (Err BadArgument) i ∙ seven_from_three i

pub note_off_number_lem : (i : ℕ) → code_of (note_off_from_index_of i) ≡ cond (ltb i 3) 0 7
note_off_number_lem i =
    by_index_of code_of (Ok Decay) (Ok ZeroCrossing) (Ok DecayAndZeroCrossing) (Err BadArgument) i ∙ seven_from_three i

-- ---- back from the index and from the float
pub index_back : (i : ℕ) → i < 3 → index_from_f32_of (index_to_f32_of i 3) 3 ≡ i
unfolding index_to_f32_of index_from_f32_of floor_of add mul div of_int to_unsigned
index_back zero h = refl
index_back (suc zero) h = refl
index_back (suc (suc zero)) h = refl
index_back (suc (suc (suc i))) h = absurd (omega arith)

pub loop_mode_below : (m : LoopMode) → loop_mode_to_index_of m < 3
loop_mode_below PlayOnce = lit< tt
loop_mode_below Loop = lit< tt
loop_mode_below PingPong = lit< tt

pub loop_mode_of_index : (m : LoopMode) → loop_mode_from_index_of (loop_mode_to_index_of m) ≡ Ok m
loop_mode_of_index PlayOnce = refl
loop_mode_of_index Loop = refl
loop_mode_of_index PingPong = refl

pub loop_mode_of_float : (m : LoopMode) → loop_mode_from_f32_of (loop_mode_to_f32_of m) ≡ Ok m
loop_mode_of_float m = ap loop_mode_from_index_of (index_back (loop_mode_to_index_of m) (loop_mode_below m)) ∙ loop_mode_of_index m

pub note_off_below : (b : NoteOffBehaviour) → note_off_to_index_of b < 3
note_off_below Decay = lit< tt
note_off_below ZeroCrossing = lit< tt
note_off_below DecayAndZeroCrossing = lit< tt

pub note_off_of_index : (b : NoteOffBehaviour) → note_off_from_index_of (note_off_to_index_of b) ≡ Ok b
note_off_of_index Decay = refl
note_off_of_index ZeroCrossing = refl
note_off_of_index DecayAndZeroCrossing = refl

pub note_off_of_float : (b : NoteOffBehaviour) → note_off_from_f32_of (note_off_to_f32_of b) ≡ Ok b
note_off_of_float b = ap note_off_from_index_of (index_back (note_off_to_index_of b) (note_off_below b)) ∙ note_off_of_index b

-- ---- NaN and negatives
pub index_of_nan : index_from_f32_of nan 3 ≡ 0
unfolding index_from_f32_of floor_of mul to_unsigned
index_of_nan = refl

product_sign : (x : Float) → sign_of x ≡ true → sign_of (mul binary32 x (as_float 3)) ≡ true
unfolding mul of_int
product_sign nan h = absurd (true≢false (sym h))
product_sign (inf true) h = refl
product_sign (inf false) h = absurd (true≢false (sym h))
product_sign (fin true m e) h = round_sign binary32 true (m * up e * 3) (down e * 1)
product_sign (fin false m e) h = absurd (true≢false (sym h))

floor_sign : (x : Float) → sign_of x ≡ true → sign_of (floor_of x) ≡ true
unfolding floor_of
floor_sign nan h = absurd (true≢false (sym h))
floor_sign (inf true) h = refl
floor_sign (inf false) h = absurd (true≢false (sym h))
floor_sign (fin true m e) h = round_sign binary32 true ((m * up e + (down e - 1)) / down e) 1
floor_sign (fin false m e) h = absurd (true≢false (sym h))

cast_sign : (w : ℕ) (x : Float) → sign_of x ≡ true → to_unsigned w x ≡ 0
unfolding to_unsigned
cast_sign w nan h = refl
cast_sign w (inf true) h = refl
cast_sign w (inf false) h = absurd (true≢false (sym h))
cast_sign w (fin true m e) h = refl
cast_sign w (fin false m e) h = absurd (true≢false (sym h))

pub index_of_negative : (x : Float) → sign_of x ≡ true → index_from_f32_of x 3 ≡ 0
unfolding index_from_f32_of
index_of_negative x h = cast_sign 64 _ (floor_sign _ (product_sign x h))
