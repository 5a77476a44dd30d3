-- A start position from 0 to 1 of up to 2 ^ 22 samples is a place from 0 to 2 ^ 22. Assumes nothing.
use mathlib.Core.Path.{◌≡◌, sym, ap, ◌∙◌, subst}
use Prim.Native.Nat.{ℕ, ◌*◌, ◌^◌, ◌≤◌, zero-le}
use native.Mathlib.Nat.{le_trans, lt_of_le_of_lt, mul-le-mul, mul-one, mul_comm, zero-mul, zero-lt-suc}
use mathlib.Core.Bool.{Bool, true, false}
use lib.Dec.{T, lit≤, lit<}
use lib.Pow.{pow_pos}
use lib.Ieee.{Float, binary32, round, mul, le, unlike}
use Rattle.binary32.specs.Leaves.{as_float, zero32}
use Rattle.binary32.proofs.Values.{mul_value}
use Rattle.binary32.proofs.Units.{Units, grid_multiple, zero_units, one_units, power_units}
use Rattle.binary32.proofs.Rounding.{rd, rd_le, round_units}
use Rattle.binary32.proofs.Halves.{of_int_whole}
use Rattle.binary32.proofs.Between.{Whole, whole}
use Rattle.clip.specs.Refusals.{most32}
use Rattle.clip.proofs.Lengths.{units_le}
use Rattle.voice.specs.Soundness.{SoundPosition}

module _ (position : Float) (n : ℕ) (at : SoundPosition position) (short : n ≤ 2 ^ 22) where
  -- the position in units
  share : Whole binary32 position 0 (2 ^ 149)
  share = whole at.fitting (zero_units binary32 false) (one_units binary32) at.low at.high

  product_most : share.count * n ≤ 2 ^ 22 * 2 ^ 149
  product_most = subst (λ (z : ℕ). share.count * n ≤ z) (mul_comm (2 ^ 149) (2 ^ 22)) (mul-le-mul share.to short)

  rounded_most : rd binary32 (share.count * n) ≤ 2 ^ 22 * 2 ^ 149
  rounded_most = rd_le (grid_multiple binary32 (2 ^ 22) 149 (lit≤ tt)) product_most

  place : Units binary32 (mul binary32 position (as_float n)) (rd binary32 (share.count * n))
  place =
      let u = share.is in
      let a = share.count in
      subst (λ (z : Float). Units binary32 z (rd binary32 (a * n)))
      (sym
      (mul_value binary32 position (as_float n) u.sign a (2 ^ 149) false n 1 (pow_pos 149) (zero-lt-suc 0) u.is (of_int_whole binary32 n (le_trans short (lit≤ tt)))
      ∙ ap (λ (d : ℕ). round binary32 (unlike u.sign false) (a * n) d) (mul-one (2 ^ 149))))
      (round_units binary32 (unlike u.sign false) (a * n) (null u.sign u.null) (lt_of_le_of_lt rounded_most (lit< tt)))
    where
      null : (s : Bool) → (T s → share.count ≡ 0) → T (unlike s false) → share.count * n ≡ 0
      null true z h = ap (λ (a : ℕ). a * n) (z tt) ∙ zero-mul n
      null false z h = absurd h

  pub start_low : T (le zero32 (mul binary32 position (as_float n)))
  start_low = units_le (zero_units binary32 false) place zero-le

  pub start_top : T (le (mul binary32 position (as_float n)) most32)
  start_top = units_le place (power_units binary32 22) rounded_most
