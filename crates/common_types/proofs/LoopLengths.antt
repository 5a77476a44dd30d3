-- What row 4 lets through has a loop length from 1 to 2 ^ 22, for every data length up to 2 ^ 22. Assumes nothing.
use mathlib.Core.Path.{◌≡◌, refl, sym, subst, ap}
use mathlib.Core.Bool.{Bool, true, false, not, cond, true≢false}
use Prim.Native.Nat.{ℕ, ◌+◌, ◌*◌, ◌^◌, ◌≤◌, ◌<◌}
use native.Mathlib.Nat.{mul-le-mul, mul-pos, zero-lt-suc, le_trans}
use native.Mathlib.Omega.{arith}
use lib.Dec.{T, ltb, eqb, nltb→le, lt→ltb, lit≤}
use lib.IntN.{pos}
use lib.Ieee.{Float, nan, inf, fin, binary32, up, down, round, mul, lt, le, eq, is_nan, fits}
use lib.Ieee.Fits.{down_pos, mul-fits}
use lib.Ieee.Exact.{HasValue}
use lib.Ieee.Order.{round_mono}
use Rattle.binary32.specs.Leaves.{as_float, max_of, sign_of}
use Rattle.binary32.proofs.Truth.{or_l}
use Rattle.binary32.proofs.Values.{mul_value}
use Rattle.binary32.proofs.Units.{one}
use Rattle.binary32.proofs.Rounding.{round_sign}
use Rattle.binary32.proofs.Halves.{of_int_whole}
use Rattle.binary32.proofs.Between.{total}
use Rattle.common_types.specs.declared.Transport.{Transport}
use Rattle.common_types.specs.declared.Params.{Params}
use Rattle.common_types.specs.declared.time_value.TimeValue.TheVariants.{QuarterNotes, Samples, Seconds, Bars}
use Rattle.common_types.specs.declared.time_value.TimeOrRatio.{TimeOrRatio}
use Rattle.common_types.specs.declared.time_value.TimeOrRatio.TheVariants.{Time, Ratio, WholeBars}
use Rattle.common_types.specs.Times.{as_samples_of}
use Rattle.common_types.specs.Settings.{carried, time_length_of, length_of, time_in, is_whole, is_ratio, worked_of, loop_length_of, measure_of, measured_of, length_beyond, beyond_limits}
use Rattle.common_types.proofs.Limits.{within}
use Rattle.binary32.proofs.Extremes.{max_reaches, max_under, max_fits}

abbrev most : Float
most = fin false 1 (pos 22)

-- ---- a ratio of at most 1
negative_under : (x : Float) → T (not (is_nan x)) → sign_of x ≡ true → T (le x most)
unfolding is_nan lt eq le
negative_under nan p h = absurd p
negative_under (inf true) p h = tt
negative_under (inf false) p h = absurd (true≢false (sym h))
negative_under (fin true m e) p h =
    or_l (ltb 0 (m * up e * 1 + 4194304 * down e)) _ (lt→ltb 0 _ (some (m * up e) (down e) (down_pos e)))
  where
    some : (a d : ℕ) → 0 < d → 0 < a * 1 + 4194304 * d
    some a d h = omega arith
negative_under (fin false m e) p h = absurd (true≢false (sym h))

most_is : round binary32 false 4194304 1 ≡ most
unfolding round
most_is = refl

part_under : (n j d : ℕ) → n ≤ 4194304 → j * 1 ≤ 1 * 1 * d → n * j * 1 ≤ 4194304 * (1 * d)
part_under n j d h k = go (n * j) d (mul-le-mul h (plain j d k))
  where
    plain : (j d : ℕ) → j * 1 ≤ 1 * 1 * d → j ≤ d
    plain j d k = omega arith

    go : (a d : ℕ) → a ≤ 4194304 * d → a * 1 ≤ 4194304 * (1 * d)
    go a d h = omega arith

-- x is the whole number n
product_under : (x r : Float) (n : ℕ) → HasValue x false n 1 → n ≤ 2 ^ 22 → T (not (lt one r)) → T (not (is_nan (mul binary32 x r))) → T (le (mul binary32 x r) most)
unfolding mul lt is_nan le
product_under nan r n v h b p = absurd v
product_under (inf u) r n v h b p = absurd v
product_under (fin true m e) r n v h b p = absurd (true≢false v.0)
product_under (fin false m e) nan n v h b p = absurd p
product_under (fin false m e) (inf true) n v h b p = go (eqb m 0) p
  where
    go : (z : Bool) → T (not (is_nan (cond z nan (inf true)))) → T (le (cond z nan (inf true)) most)
    go true q = absurd q
    go false q = tt
product_under (fin false m e) (inf false) n v h b p = absurd b
product_under (fin false m e) (fin true j d) n v h b p =
    negative_under (mul binary32 (fin false m e) (fin true j d)) p (round_sign binary32 true (m * up e * (j * up d)) (down e * down d))
product_under (fin false m e) (fin false j d) n v h b p =
    let a = n * (j * up d) in
    subst (λ (z : Float). T (le z most))
    (sym (mul_value binary32 (fin false m e) (fin false j d) false n 1 false (j * up d) (down d) (zero-lt-suc 0) (down_pos d) v (refl, refl)))
    (subst (λ (z : Float). T (le (round binary32 false a (1 * down d)) z)) most_is
    (round_mono binary32 a (1 * down d) 4194304 1 (mul-pos (zero-lt-suc 0) (down_pos d)) (zero-lt-suc 0)
    (part_under n (j * up d) (down d) h (nltb→le (1 * 1 * down d) (j * up d * 1) b))))

-- ---- a loop length
length_under : (l : TimeOrRatio) (t : Transport) (n : ℕ) → n ≤ 2 ^ 22 → T (not (length_beyond l t)) → T (not (is_nan (length_of l t n))) → T (le (length_of l t n) most)
unfolding length_beyond length_of
length_under (Time v) t n h b p = total (time_length_of v t) most p (unfold is_nan in tt) b
length_under (Ratio r) t n h b p = product_under (as_float n) r n (of_int_whole binary32 n (le_trans h (lit≤ tt))) h b p
length_under (WholeBars x) t n h b p = total (as_samples_of (Bars x) t) most p (unfold is_nan in tt) b

pub loop_length_from_one : (p : Params) (n : ℕ) → T (le one (loop_length_of p n))
unfolding loop_length_of
loop_length_from_one p n = max_reaches (length_of p.loop_length p.transport n) one (unfold is_nan in tt)

pub loop_length_to_most : (p : Params) (n : ℕ) → T (not (beyond_limits p)) → n ≤ 2 ^ 22 → T (le (loop_length_of p n) (fin false 1 (pos 22)))
unfolding loop_length_of
loop_length_to_most p n b h =
    max_under (length_of p.loop_length p.transport n) one most (length_under p.loop_length p.transport n h (within p b).length) (unfold le in tt)

-- ---- over a recording of n samples, by its measure
length_measured : (l : TimeOrRatio) (t : Transport) (n : ℕ) → length_of l t n ≡ cond (is_ratio l) (mul binary32 (as_float n) (worked_of (time_in l) (is_whole l) t)) (worked_of (time_in l) (is_whole l) t)
unfolding length_of worked_of time_length_of
length_measured (Time (QuarterNotes x)) t n = refl
length_measured (Time (Samples x)) t n = refl
length_measured (Time (Seconds x)) t n = refl
length_measured (Time (Bars x)) t n = refl
length_measured (Ratio r) t n = refl
length_measured (WholeBars x) t n = refl

pub loop_length_measured : (p : Params) (n : ℕ) → loop_length_of p n ≡ measured_of (measure_of p) (as_float n)
unfolding loop_length_of measured_of measure_of
loop_length_measured p n = ap (λ (x : Float). max_of x one) (length_measured p.loop_length p.transport n)

-- ---- in binary32

length_fits : (l : TimeOrRatio) (t : Transport) (n : ℕ) → T (fits binary32 (carried l)) → T (fits binary32 (length_of l t n))
unfolding length_of time_length_of as_samples_of
length_fits (Time (QuarterNotes x)) t n h = mul-fits binary32 _ _
length_fits (Time (Samples x)) t n h = h
length_fits (Time (Seconds x)) t n h = mul-fits binary32 _ _
length_fits (Time (Bars x)) t n h = mul-fits binary32 _ _
length_fits (Ratio x) t n h = mul-fits binary32 _ _
length_fits (WholeBars x) t n h = mul-fits binary32 _ _

pub loop_length_fits : (p : Params) (n : ℕ) → T (fits binary32 (carried p.loop_length)) → T (fits binary32 (loop_length_of p n))
unfolding loop_length_of
loop_length_fits p n h = max_fits binary32 (length_of p.loop_length p.transport n) one (length_fits p.loop_length p.transport n h) (unfold fits in tt)
