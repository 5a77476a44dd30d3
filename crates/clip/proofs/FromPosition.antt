-- An update of a good clip from what the index and the fraction of its offset add up to is the update from the offset. The two differ only at -0, of which the sum is +0:
-- there the start is -0 too, and either lies +0 behind it. Assumes nothing.
use mathlib.Core.Path.{◌≡◌, refl, sym, ap, ◌∙◌, subst}
use Prim.Native.Nat.{ℕ}
use mathlib.Core.Bool.{Bool, true, false, ◌&&◌, cond}
use lib.Dec.{T}
use lib.Ieee.{Float, nan, inf, fin, binary32, add, sub, lt, le, eq, fits}
use lib.Ieee.Fits.{and_l}
use lib.Ieee.Bits.{is_true}
use Rattle.binary32.specs.Leaves.{zero32, abs_of, sign_of}
use Rattle.binary32.proofs.Truth.{yes, same_test}
use Rattle.binary32.proofs.Between.{le_not_nan, le_le_trans}
use Rattle.binary32.proofs.Sums.{add_sign}
use Rattle.binary32.proofs.Remainders.{rem_sign}
use Rattle.binary32.proofs.BelowZero.{minus_zero, signed_zero}
use Rattle.clip.specs.Positions.{clip_offset_at, clip_to_data_of, offset_at, sum_of, position_at}
use Rattle.clip.specs.Updates.{at_speed, at_mode, at_length, at_data_length, resumed, back_of, found_at, shift_for, settled_of, same_mode, with_speed, with_mode, with_length, with_data_length}
use Rattle.clip.specs.Bounds.{Sound, FromPosition}
use Rattle.clip.specs.declared.Clip.{Clip}
use Rattle.std.specs.Prelude.{Some, None}
use Rattle.clip.proofs.Lengths.{good_parts}
use Rattle.clip.proofs.Offsets.{counts, clip_offset_fits, clip_offset_inside, offset_fits, offset_within}
use Rattle.clip.proofs.Indices.{adds_up}

-- a value from 0 on is its own size, or -0
data Sized (x : Float) : Type 0 where
  own : abs_of x ≡ x → Sized x
  minus : x ≡ minus_zero → Sized x

sized : (x : Float) → T (fits binary32 x) → T (le zero32 x) → Sized x
unfolding le lt eq
sized nan t h = absurd h
sized (inf true) t h = absurd h
sized (inf false) t h = own refl
sized (fin false m e) t h = own refl
sized (fin true m e) t h = minus (signed_zero (fin true m e) t refl h)

-- zeros of either sign are alike in a test, and behind a start of -0
zero-le : (y : Float) → le y zero32 ≡ le y minus_zero
unfolding le lt eq
zero-le y = same_test (le y zero32) (le y minus_zero) (λ t. le_le_trans y zero32 minus_zero t tt) (λ t. le_le_trans y minus_zero zero32 t tt)

zero_back : (d : Clip) → d.start ≡ minus_zero → back_of d zero32 ≡ back_of d minus_zero
unfolding back_of le lt eq sub
zero_back d e =
    let back : Float → Float → Float =
    λ (s x : Float). cond (le s x) (sub binary32 x s) (sub binary32 (add binary32 x d.data_length) s) in
    subst (λ (s : Float). back s zero32 ≡ back s minus_zero) (sym e) refl

module _ (c : Clip) (now : ℕ) (h : Sound c) where
  abbrev x : Float
  x = offset_at c now

  -- a remainder has the sign of start + place, and that is -0 only of two -0
  start_minus : x ≡ minus_zero → c.start ≡ minus_zero
  unfolding offset_at clip_to_data_of
  start_minus e =
      let place = clip_offset_at c now in
      let k = counts c h place (clip_offset_fits c now) (clip_offset_inside c now h) in
      let both : (sign_of c.start && sign_of place) ≡ true =
      sym (add_sign k.start k.place)
      ∙ sym (rem_sign binary32 (add binary32 c.start place) c.data_length (le_not_nan zero32 x (offset_within c now h).low).1)
      ∙ ap sign_of e in
      signed_zero c.start h.fitting.start (is_true (sign_of c.start) (and_l (sign_of c.start) (sign_of place) (yes both))) (good_parts c h.good).start_low

  x_sized : Sized x
  x_sized = sized x (offset_fits c now) (offset_within c now h).low

  back_same : (d : Clip) → d.start ≡ c.start → back_of d (abs_of x) ≡ back_of d x
  back_same d e = elim x_sized [
    | own k ↦ ap (back_of d) k
    | minus k ↦ ap (λ (z : Float). back_of d (abs_of z)) k ∙ zero_back d (e ∙ start_minus k) ∙ sym (ap (back_of d) k)
  ]

  le_same : (y : Float) → le y (abs_of x) ≡ le y x
  le_same y = elim x_sized [
    | own k ↦ ap (le y) k
    | minus k ↦ ap (λ (z : Float). le y (abs_of z)) k ∙ zero-le y ∙ sym (ap (le y) k)
  ]

  abbrev sum : Float
  sum = sum_of (position_at c now)

  sum_is : sum ≡ abs_of x
  sum_is = (adds_up c now h).exact

  settled_same : (d : Clip) → d.start ≡ c.start → settled_of d x now ≡ settled_of d sum now
  unfolding settled_of found_at
  settled_same d e =
      ap (λ (y : Float). resumed d (shift_for d (cond (lt y d.length) (Some y) None) now) now) (sym (ap (back_of d) sum_is ∙ back_same d e))

  pub from_position : FromPosition c now
  unfolding with_speed with_mode with_length with_data_length
  from_position =
      record {
        speed = λ speed. ap (cond (eq speed c.speed) c) (settled_same (at_speed c speed) refl);
        mode = λ mode. ap (cond (same_mode mode c.mode) c) (settled_same (at_mode c mode) refl);
        length = λ length. ap (cond (eq length c.length) c) (settled_same (at_length c length) refl);
        data_length = λ length.
            ap (λ (b : Bool). cond (eq length c.data_length) c (cond b (resumed (at_data_length c length) zero32 now) (at_data_length c length)))
            (sym (ap (le length) sum_is ∙ le_same length));
      }
