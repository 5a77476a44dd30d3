-- The cuts of a recording into columns: none passes the end of the recording, and none falls. The step is n / columns rounded once; it lies below what n / columns, cut to whole units
-- and moved up by one, is rounded to, and so `columns` steps are at most half a sample more than n. Assumes nothing.
use mathlib.Core.Path.{◌≡◌, refl, sym, ap, ap₂, ◌∙◌, subst}
use mathlib.Core.Bool.{Bool, false}
use Prim.Native.Nat.{ℕ, zero, suc, ◌+◌, ◌-◌, ◌*◌, ◌/◌, ◌^◌, ◌≤◌, ◌<◌, min, zero-le}
use native.Mathlib.Nat.{le_trans, le_of_eq, le_of_lt, lt_of_lt_of_le, lt_of_le_of_lt, mul_comm, mul_assoc, mul-one, one-mul, mul-le-mul_left, mul-le-mul_right, lt-div-mul-add, div-mul-le_self, div-lt_iff_lt-mul, add-mul, mul-add, add-le-add, suc-mul, zero-mul, le_of_suc-le-suc, zero-lt-suc}
use native.Mathlib.Omega.{arith}
use lib.IntN.{pos}
use lib.Dec.{T, lit≤, lit<}
use lib.Pow.{pow-add, pow_pos, pow_mono}
use lib.Ieee.{Float, fin, binary32, size, round, mul, le}
use lib.Ieee.Digits.{size-lt, size_reaches}
use lib.Ieee.Fits.{round-fits, mul-fits}
use lib.Ieee.Exact.{HasValue}
use lib.Ieee.Nearest.{div_mono}
use lib.Ieee.Order.{round_mono}
use lib.Ieee.Scale.{overflow}
use Rattle.binary32.specs.Leaves.{as_float}
use Rattle.binary32.proofs.Values.{value_to_unsigned, mul_value, div_value}
use Rattle.binary32.proofs.Units.{grid_multiple, units_sign, zero_units}
use Rattle.binary32.proofs.Between.{Whole, whole}
use Rattle.binary32.proofs.Rounding.{rd, rd_exact, rd_near, rd_mono, rd_le, round_units, round_value, round_sign, round-zero}
use Rattle.binary32.proofs.Halves.{of_int_whole}
use Rattle.binary32.proofs.Floors.{floor_cast}
use Rattle.questions.specs.Waveforms.{column_width, cut_of}

-- the quotient of two whole numbers that the format holds is rounded once
step_round : (n k : ℕ) → n ≤ 2 ^ 24 → 0 < k → k ≤ 2 ^ 24 → column_width n k ≡ round binary32 false n k
step_round n k N K M =
    div_value binary32 (as_float n) (as_float k) false n 1 false k 1 (zero-lt-suc 0) (zero-lt-suc 0) K (of_int_whole binary32 n N) (of_int_whole binary32 k M)
    ∙ ap₂ (round binary32 false) (mul-one n) (mul-one k)

-- ---- facts of plain numbers
at_most : (x k t h : ℕ) → k ≤ 4096 → x * 2 ^ 23 ≤ t + k → t ≤ h * 2 ^ 23 → x ≤ h
at_most x k t h K a b = omega arith

further : (r a h e : ℕ) → r ≤ a + h → h < e → r < a + e
further r a h e p q = omega arith

-- half a sample more than n
half : (n : ℕ) → (n * 2 + 1) * 2 ^ 148 ≡ n * 2 ^ 149 + 2 ^ 148
half n = add-mul (n * 2) 1 (2 ^ 148) ∙ ap (λ (y : ℕ). y + 2 ^ 148) (mul_assoc n 2 (2 ^ 148))

-- ---- the step in units of 2 ^ -149
module _ (n k : ℕ) (N : n ≤ 2 ^ 22) (K : 0 < k) (M : k ≤ 4096) where
  -- n / k cut to whole units, and by how many digits the next number is too long
  abbrev z : ℕ
  z = n * 2 ^ 149 / k

  abbrev d : ℕ
  d = size (z + 1) - 24

  below : z * k ≤ n * 2 ^ 149
  below = div-mul-le_self (n * 2 ^ 149) k

  next : (z + 1) * k ≡ z * k + k
  next = add-mul z 1 k ∙ ap (λ (y : ℕ). z * k + y) (one-mul k)

  near : z + 1 ≤ 2 ^ (24 + d)
  near = le_trans (le_of_lt (size-lt (z + 1))) (pow_mono {i = size (z + 1)} {j = 24 + d} (go (size (z + 1))))
    where
      go : (e : ℕ) → e ≤ 24 + (e - 24)
      go e = omega arith

  -- the last digit of the step, taken k times, is at most half a sample
  few : k * 2 ^ d ≤ 2 ^ 148
  few = go d refl
    where
      long : (e j : ℕ) → suc j ≡ e - 24 → suc j + 23 < e
      long e j h = omega arith

      go : (e : ℕ) → e ≡ d → k * 2 ^ e ≤ 2 ^ 148
      go zero h = le_trans (le_of_eq (mul-one k)) (le_trans M (lit≤ tt))
      go (suc e) h =
          let j = suc e in
          let r : 2 ^ (j + 23) ≤ z + 1 = size_reaches (z + 1) (j + 23) (long (size (z + 1)) e h) in
          let s : k * (2 ^ j * 2 ^ 23) ≤ k * (z + 1) = mul-le-mul_left k (le_trans (le_of_eq (sym (pow-add 2 j 23))) r) in
          at_most (k * 2 ^ j) k (z * k) (2 ^ 148) M (le_trans (le_of_eq (mul_assoc k (2 ^ j) (2 ^ 23))) (le_trans s (le_of_eq (mul_comm k (z + 1) ∙ next))))
          (le_trans below (mul-le-mul_right (2 ^ 149) N))

  -- a float at or above n / k
  abbrev over : Float
  over = round binary32 false (z + 1) (2 ^ 149)

  over_near : rd binary32 (z + 1) < z + 1 + 2 ^ d
  over_near = rd_near binary32 (z + 1) d near

  over_times : k * rd binary32 (z + 1) ≤ n * 2 ^ 149 + 2 ^ 148
  over_times =
      le_trans (mul-le-mul_left k (go z (2 ^ d) (rd binary32 (z + 1)) over_near))
      (le_trans (le_of_eq (mul-add k z (2 ^ d) ∙ ap (λ (y : ℕ). y + k * 2 ^ d) (mul_comm k z))) (add-le-add below few))
    where
      go : (z p r : ℕ) → r < z + 1 + p → r ≤ z + p
      go z p r h = omega arith

  over_small : rd binary32 (z + 1) < overflow binary32
  over_small =
      lt_of_le_of_lt (le_trans (once k (rd binary32 (z + 1)) K) (le_trans over_times (add-le-add (mul-le-mul_right (2 ^ 149) N) (le_of_eq refl)))) (lit< tt)
    where
      once : (k r : ℕ) → 0 < k → r ≤ k * r
      once k r h = le_trans (le_of_eq (sym (one-mul r))) (mul-le-mul_right r h)

  step_is : column_width n k ≡ round binary32 false n k
  step_is = step_round n k (le_trans N (lit≤ tt)) K (le_trans M (lit≤ tt))

  step_over : T (le (round binary32 false n k) over)
  step_over = round_mono binary32 n k (z + 1) (2 ^ 149) K (pow_pos 149) (le_trans (le_of_lt (lt-div-mul-add K)) (le_of_eq (sym next)))

  step_from : T (le (fin false 0 (pos 0)) (round binary32 false n k))
  step_from =
      subst (λ (x : Float). T (le x (round binary32 false n k))) (round-zero binary32 false 1 (zero-lt-suc 0))
      (round_mono binary32 0 1 n k (zero-lt-suc 0) K (le_trans (le_of_eq (zero-mul k)) zero-le))

  step_within : Whole binary32 (round binary32 false n k) 0 (rd binary32 (z + 1))
  step_within = whole (round-fits binary32 false n k) (zero_units binary32 false) (round_units binary32 false (z + 1) (λ t. absurd t) over_small) step_from step_over

  -- the step's units
  abbrev u : ℕ
  u = step_within.count

  step_value : HasValue (column_width n k) false u (2 ^ 149)
  step_value =
      subst (λ (x : Float). HasValue x false u (2 ^ 149)) (sym step_is)
      (subst (λ (s : Bool). HasValue (round binary32 false n k) s u (2 ^ 149)) (sym (units_sign step_within.is) ∙ round_sign binary32 false n k) step_within.is.is)

  -- ---- a cut is a number of steps, rounded to units that the format holds, and then to whole samples
  module _ (i : ℕ) (I : i ≤ k) where
    steps_most : rd binary32 (i * u) ≤ n * 2 ^ 149 + 2 ^ 148
    steps_most =
        let few : n * 2 + 1 ≤ 2 ^ 24 = omega arith in
        subst (λ (y : ℕ). rd binary32 (i * u) ≤ y) (half n)
        (rd_le (grid_multiple binary32 (n * 2 + 1) 148 few) (le_trans (le_trans (mul-le-mul_right u I) (mul-le-mul_left k step_within.to)) (le_trans over_times (le_of_eq (sym (half n))))))

    steps_small : rd binary32 (i * u) < overflow binary32
    steps_small = lt_of_le_of_lt (le_trans steps_most (add-le-add (mul-le-mul_right (2 ^ 149) N) (le_of_eq refl))) (lit< tt)

    steps_value : HasValue (mul binary32 (as_float i) (column_width n k)) false (rd binary32 (i * u)) (2 ^ 149)
    steps_value =
        subst (λ (x : Float). HasValue x false (rd binary32 (i * u)) (2 ^ 149))
        (sym (mul_value binary32 (as_float i) (column_width n k) false i 1 false u (2 ^ 149) (zero-lt-suc 0) (pow_pos 149) (of_int_whole binary32 i (le_trans I (le_trans M (lit≤ tt)))) step_value))
        (round_value binary32 false (i * u) steps_small)

    cut_is : cut_of n k i ≡ min (rd binary32 (i * u) / 2 ^ 149) (2 ^ 64 - 1)
    unfolding cut_of
    cut_is = floor_cast 64 (mul binary32 (as_float i) (column_width n k)) (mul-fits binary32 (as_float i) (column_width n k)) ∙ value_to_unsigned 64 (mul binary32 (as_float i) (column_width n k)) (rd binary32 (i * u)) (2 ^ 149) (pow_pos 149) steps_value

    -- no cut passes the end of the recording
    pub cut_inside : cut_of n k i ≤ n
    cut_inside =
        le_trans (le_of_eq cut_is)
        (le_trans (fewer (rd binary32 (i * u) / 2 ^ 149) (2 ^ 64 - 1))
        (le_of_suc-le-suc ((div-lt_iff_lt-mul (pow_pos 149)).1 (lt_of_lt_of_le (further (rd binary32 (i * u)) (n * 2 ^ 149) (2 ^ 148) (2 ^ 149) steps_most (lit< tt)) (le_of_eq (sym (suc-mul n (2 ^ 149))))))))
      where
        fewer : (a b : ℕ) → min a b ≤ a
        fewer a b = omega arith

  -- the first is at the start
  pub cut_first : cut_of n k 0 ≡ 0
  cut_first = cut_is 0 zero-le ∙ ap (λ (r : ℕ). min (r / 2 ^ 149) (2 ^ 64 - 1)) (ap (rd binary32) (zero-mul u) ∙ rd_exact (grid_multiple binary32 0 0 zero-le))

  -- cuts don't fall
  pub cuts_rise : (i j : ℕ) → i ≤ j → j ≤ k → cut_of n k i ≤ cut_of n k j
  cuts_rise i j h J =
      le_trans (le_of_eq (cut_is i (le_trans h J)))
      (le_trans (go (rd binary32 (i * u) / 2 ^ 149) (rd binary32 (j * u) / 2 ^ 149) (2 ^ 64 - 1) (div_mono _ _ _ _ (pow_pos 149) (pow_pos 149) (mul-le-mul_right (2 ^ 149) (rd_mono binary32 (mul-le-mul_right u h)))))
      (le_of_eq (sym (cut_is j J))))
    where
      go : (a b c : ℕ) → a ≤ b → min a c ≤ min b c
      go a b c h = omega arith
