-- How `binary32::scaled_root` finds the root of m * 2 ^ drop units: from 25 digits of it, the whole part s of the root of m * 2 ^ shift, of which the last one rounds the others.
-- It is not the first of more digits that are all 0, since the root is never the middle of two floats (`never_half`). Assumes nothing.
use Rattle.std.proofs.Common.{◌≡◌, ℕ, zero, suc, ◌+◌, ◌-◌, ◌*◌, ◌/◌, ◌%◌, ◌^◌, ◌<◌, ◌≤◌, false, sym, refl, ap, ◌∙◌, subst, ap₂, le_trans, le_of_eq, lt_of_lt_of_le, lt_of_le_of_lt, mul-le-mul_right, mul_assoc, lt-suc_self, suc-mul, mul_comm, div-lt_iff_lt-mul, mul-lt-mul_of_pos_right, div-add-mod', div-mul-le_self, arith, lit≤, pow_pos, pow_mono, pow-add, shr-shr}
use native.Mathlib.Nat.{two-pow-succ, pow-succ'}
use lib.Arith.{lt_of_le-ne}
use lib.Pow.{pow-lt}
use lib.Count.{count_leading_zeros, leading_top}
use lib.Ieee.{binary32, round, of_bits}
use lib.Ieee.Nearest.{closest}
use lib.Ieee.Scale.{overflow}
use Rattle.binary32.specs.Leaves.{isqrt}
use Rattle.binary32.proofs.Units.{grid_multiple}
use Rattle.binary32.proofs.Rounding.{rd_at, rd_exact, round_kept}
use Rattle.binary32.proofs.Tops.{closest_below, closest_above}
use Rattle.binary32.proofs.Patterns.{bits_units}
use Rattle.binary32.proofs.WholeRoots.{isqrt_scale, root_reaches, root_stays, pow_lt_back}
use Rattle.binary32.proofs.Roots.{never_half}

-- ---- q without its last i + 1 digits, rounded by the first of them, where q is not a middle
module _ (q i : ℕ) (tieless : q % 2 ^ suc i * 2 ≡ 2 ^ suc i → ⊥) where
  abbrev s : ℕ
  s = q / 2 ^ i

  halved : q / 2 ^ suc i ≡ s / 2
  halved = ap (λ (z : ℕ). q / 2 ^ z) (omega arith) ∙ sym (shr-shr q i 1)

  parts : s / 2 * (2 * 2 ^ i) + q % 2 ^ suc i ≡ q
  parts = ap₂ (λ (a b : ℕ). a * b + q % 2 ^ suc i) (sym halved) (sym (pow-succ' 2 i)) ∙ div-add-mod' q (2 ^ suc i)

  -- s is 2 h or 2 h + 1
  at_even : (h v r : ℕ) → h * (2 * v) + r ≡ q → q < suc (2 * h) * v → r < v
  at_even h v r e l = go (h * (2 * v)) (sym e) (lt_of_lt_of_le l (le_of_eq (suc-mul (2 * h) v ∙ ap (λ (z : ℕ). z + v) (ap (λ (z : ℕ). z * v) (mul_comm 2 h) ∙ mul_assoc h 2 v))))
    where
      go : (a : ℕ) → q ≡ a + r → q < a + v → r < v
      go a e l = omega arith

  at_odd : (h v r : ℕ) → h * (2 * v) + r ≡ q → suc (2 * h) * v ≤ q → v ≤ r
  at_odd h v r e l = go (h * (2 * v)) (sym e) (le_trans (le_of_eq (sym (suc-mul (2 * h) v ∙ ap (λ (z : ℕ). z + v) (ap (λ (z : ℕ). z * v) (mul_comm 2 h) ∙ mul_assoc h 2 v)))) l)
    where
      go : (a : ℕ) → q ≡ a + r → a + v ≤ q → v ≤ r
      go a e l = omega arith

  pub by_last : closest q (2 ^ suc i) ≡ (s + 1) / 2
  by_last = parity (s % 2) refl
    where
      unit : 2 ^ suc i ≡ 2 ^ i + 2 ^ i
      unit = two-pow-succ i

      parity : (b : ℕ) → s % 2 ≡ b → closest q (2 ^ suc i) ≡ (s + 1) / 2
      parity zero e =
          let up : q < suc s * 2 ^ i = (div-lt_iff_lt-mul (pow_pos i)).0 (lt-suc_self s) in
          let is : s ≡ 2 * (s / 2) = omega arith in
          let small = at_even (s / 2) (2 ^ i) (q % 2 ^ suc i) parts (subst (λ (z : ℕ). q < suc z * 2 ^ i) is up) in
          sym (closest_below q (2 ^ suc i) (omega (arith, small, unit))) ∙ halved ∙ omega arith
      parity (suc b) e =
          let is : s ≡ suc (2 * (s / 2)) = omega arith in
          let large = at_odd (s / 2) (2 ^ i) (q % 2 ^ suc i) parts (subst (λ (z : ℕ). z * 2 ^ i ≤ q) is (div-mul-le_self q (2 ^ i))) in
          let half : 2 ^ suc i ≤ q % 2 ^ suc i * 2 = omega (arith, large, unit) in
          sym (closest_above q (2 ^ suc i) (lt_of_le-ne half (λ (h : 2 ^ suc i ≡ q % 2 ^ suc i * 2). tieless (sym h)))) ∙ ap suc halved ∙ omega arith

-- ---- the root of m * 2 ^ drop units
module _ (m drop shift i : ℕ) (few : m < 2 ^ 24) (lo : 2 ^ 48 ≤ m * 2 ^ shift) (hi : m * 2 ^ shift < 2 ^ 50) (small : drop < 254) (moved : shift < 50) (places : shift + (i + i) ≡ drop + 149) where
  abbrev N : ℕ
  N = m * 2 ^ (drop + 149)

  abbrev q : ℕ
  q = isqrt N

  abbrev root : ℕ
  root = isqrt (m * 2 ^ shift)

  top : q / 2 ^ i ≡ root
  top = ap (λ (z : ℕ). isqrt z / 2 ^ i) (ap (λ (z : ℕ). m * 2 ^ z) (sym places) ∙ ap (λ (z : ℕ). m * z) (pow-add 2 shift (i + i)) ∙ sym (mul_assoc m (2 ^ shift) (2 ^ (i + i))) ∙ ap (λ (z : ℕ). m * 2 ^ shift * z) (pow-add 2 i i))
      ∙ isqrt_scale (m * 2 ^ shift) (2 ^ i) (pow_pos i)

  from : 2 ^ 24 ≤ root
  from = root_reaches (m * 2 ^ shift) (2 ^ 24) lo

  until : root < 2 ^ 25
  until = root_stays (m * 2 ^ shift) (2 ^ 25) hi

  least : 2 ^ (23 + suc i) ≤ q
  least =
      let e : 23 + suc i ≡ 24 + i = omega arith in
      le_trans (le_of_eq (ap (λ (z : ℕ). 2 ^ z) e ∙ pow-add 2 24 i)) (le_trans (mul-le-mul_right (2 ^ i) (le_trans from (le_of_eq (sym top)))) (div-mul-le_self q (2 ^ i)))

  most : q < 2 ^ (24 + suc i)
  most =
      let e : 24 + suc i ≡ 25 + i = omega arith in
      lt_of_lt_of_le ((div-lt_iff_lt-mul (pow_pos i)).0 (lt_of_le_of_lt (le_of_eq top) until)) (le_of_eq (sym (ap (λ (z : ℕ). 2 ^ z) e ∙ pow-add 2 25 i)))

  abbrev kept : ℕ
  kept = (root + 1) / 2

  kept_digits : closest q (2 ^ suc i) ≡ kept
  kept_digits = by_last q i (never_half N m (drop + 149) i refl few least most (omega arith)) ∙ ap (λ (z : ℕ). (z + 1) / 2) top

  kept_few : kept ≤ 2 ^ 24
  kept_few = omega (arith, until)

  kept_full : 2 ^ 23 ≤ kept
  kept_full = omega (arith, from)

  under : kept * 2 ^ suc i < overflow binary32
  under = lt_of_le_of_lt (mul-le-mul_right (2 ^ suc i) kept_few) (lt_of_le_of_lt (le_of_eq (sym (pow-add 2 24 (suc i)))) (pow-lt {i = 24 + suc i} {j = 277} (omega arith)))

  pub root_pattern : of_bits binary32 (suc i * 2 ^ 23 + kept) ≡ round binary32 false q (2 ^ 149)
  root_pattern =
      bits_units binary32 kept (suc i) kept_few (λ z. kept_full) under
      ∙ round_kept binary32 false (kept * 2 ^ suc i) q
      (rd_exact (grid_multiple binary32 kept (suc i) kept_few) ∙ ap (λ (z : ℕ). z * 2 ^ suc i) (sym kept_digits) ∙ sym (rd_at binary32 q (suc i) least most))

-- ---- how far m is moved: to 49 digits, or to 50, so that what is left of the exponent is even
abbrev pub shift_of : ℕ → ℕ → ℕ
shift_of zeros drop = zeros - 15 + (zeros - 15 + drop + 1) % 2

module _ (m drop : ℕ) (some : 0 < m) (few : m < 2 ^ 24) (small : drop < 254) where
  abbrev zeros : ℕ
  zeros = count_leading_zeros 64 m

  abbrev shift : ℕ
  shift = shift_of zeros drop

  -- the place of m's top digit
  place : (j : ℕ) × (zeros + suc j ≡ 64) × (2 ^ j ≤ m) × (m < 2 ^ suc j)
  place = leading_top 64 m some (lt_of_lt_of_le few (lit≤ tt))

  pub zeros_from : 40 ≤ zeros
  zeros_from = go place.0 place.1 (pow_lt_back place.0 24 (lt_of_le_of_lt place.2 few))
    where
      go : (j : ℕ) → zeros + suc j ≡ 64 → j < 24 → 40 ≤ zeros
      go j e l = omega arith

  pub zeros_until : zeros < 64
  zeros_until = go place.0 place.1
    where
      go : (j : ℕ) → zeros + suc j ≡ 64 → zeros < 64
      go j e = omega arith

  moved_from : 2 ^ 48 ≤ m * 2 ^ shift
  moved_from = le_trans (pow_mono (go place.0 place.1)) (le_trans (le_of_eq (pow-add 2 place.0 shift)) (mul-le-mul_right (2 ^ shift) place.2))
    where
      go : (j : ℕ) → zeros + suc j ≡ 64 → 48 ≤ j + shift
      go j e = omega (arith, zeros_from)

  pub moved_until : m * 2 ^ shift < 2 ^ 50
  moved_until = lt_of_lt_of_le (mul-lt-mul_of_pos_right place.3 (pow_pos shift)) (le_trans (le_of_eq (sym (pow-add 2 (suc place.0) shift))) (pow_mono (go place.0 place.1)))
    where
      go : (j : ℕ) → zeros + suc j ≡ 64 → suc j + shift ≤ 50
      go j e = omega (arith, zeros_from)

  abbrev exponent : ℕ
  exponent = (drop + 151 - shift) / 2

  pub kept_until : (isqrt (m * 2 ^ shift) + 1) / 2 ≤ 2 ^ 24
  kept_until = omega (arith, root_stays (m * 2 ^ shift) (2 ^ 25) moved_until)

  pub moved_root : of_bits binary32 (exponent * 2 ^ 23 + (isqrt (m * 2 ^ shift) + 1) / 2) ≡ round binary32 false (isqrt (m * 2 ^ (drop + 149))) (2 ^ 149)
  moved_root =
      let i = (drop + 149 - shift) / 2 in
      let e : exponent ≡ suc i = omega (arith, zeros_from, zeros_until) in
      ap (λ (z : ℕ). of_bits binary32 (z * 2 ^ 23 + (isqrt (m * 2 ^ shift) + 1) / 2)) e
      ∙ root_pattern m drop shift i few moved_from moved_until small (omega (arith, zeros_from, zeros_until)) (omega (arith, zeros_from, zeros_until))
