-- A whole number that has more digits than a format keeps, as the nearest float: the digits from its top one on, rounded once by what stands below them, times a power of two.
-- Stated over any format, any number and any width. Assumes nothing.
use Rattle.std.proofs.Common.{◌≡◌, ℕ, suc, ◌+◌, ◌-◌, ◌*◌, ◌/◌, ◌%◌, ◌^◌, ◌<◌, ◌≤◌, true, false, pos, sym, refl, ap, ◌∙◌, true≢false, le_trans, le_of_eq, lt_of_lt_of_le, le_of_lt, add_assoc, mul-le-mul_right, zero-lt-suc, mul_assoc, mul_comm, one-mul, lt_of_not-le, mul-one, not-le_of_lt, arith, lit<, pow_pos, pow_mono, pow-add, shl_lt, shl_exact, shr_lt, eq-eqb, ne_eqb, le-leb}
use Prim.Native.Nat.{compare, Ordering}
use borrow.Author.Tests.{lt-leb}
use lib.Dec.{is_le, compare_is_eq}
use lib.Pow.{pow-lt}
use lib.Count.{count_leading_zeros, leading_top}
use lib.Ieee.{Format, prec, low, nearest, round, of_int}
use lib.Ieee.Fits.{two, two-le_pos, nearest-le}
use lib.Ieee.Nearest.{closest, closest_same}
use Rattle.binary32.proofs.Units.{grid_multiple}
use Rattle.binary32.proofs.Rounding.{rd, rd_at, rd_exact, round_kept, round_in_units}

-- ---- what `compare` answers
is_lt : (o : Ordering) → is_le o ≡ true → compare_is_eq o ≡ false → o ≡ Ordering.lt
is_lt Ordering.lt h k = refl
is_lt Ordering.eq h k = absurd (true≢false k)
is_lt Ordering.gt h k = absurd (true≢false (sym h))

is_eq : (o : Ordering) → compare_is_eq o ≡ true → o ≡ Ordering.eq
is_eq Ordering.lt h = absurd (true≢false (sym h))
is_eq Ordering.eq h = refl
is_eq Ordering.gt h = absurd (true≢false (sym h))

is_gt : (o : Ordering) → is_le o ≡ false → o ≡ Ordering.gt
is_gt Ordering.lt h = absurd (true≢false h)
is_gt Ordering.eq h = absurd (true≢false h)
is_gt Ordering.gt h = refl

apart : (a b : ℕ) → a < b → a ≡ b → ⊥
apart a b h e = omega arith

compare-lt : (a b : ℕ) → a < b → compare a b ≡ Ordering.lt
compare-lt a b h = is_lt (compare a b) (le-leb a b (le_of_lt h)) (ne_eqb a b (apart a b h))

compare-eq : (a b : ℕ) → a ≡ b → compare a b ≡ Ordering.eq
compare-eq a b h = is_eq (compare a b) (eq-eqb a b h)

compare-gt : (a b : ℕ) → b < a → compare a b ≡ Ordering.gt
compare-gt a b h = is_gt (compare a b) (lt-leb a b h)

-- ---- n / u as the nearest whole number, by twice the rest
module _ (n u : ℕ) where
  by : (o : Ordering) → compare (n % u * 2) u ≡ o → nearest (n / u) o ≡ closest n u
  by o e = ap (nearest (n / u)) (sym e)

  pub closest_below : n % u * 2 < u → n / u ≡ closest n u
  closest_below h = by Ordering.lt (compare-lt (n % u * 2) u h)

  pub closest_tie : n % u * 2 ≡ u → n / u + n / u % 2 ≡ closest n u
  closest_tie h = by Ordering.eq (compare-eq (n % u * 2) u h)

  pub closest_above : u < n % u * 2 → suc (n / u) ≡ closest n u
  closest_above h = by Ordering.gt (compare-gt (n % u * 2) u h)

-- ---- a unit 2 ^ d as the machine has it: a shifted 1
pub unit_shifted : (d : ℕ) → d < 64 → 1 * 2 ^ d % 2 ^ 64 ≡ 2 ^ d
unit_shifted d h = shl_exact 1 d 64 (lit< tt) (omega arith) ∙ one-mul (2 ^ d)

pub unit : (d : ℕ) → 0 < d → d < 64 → (1 < 1 * 2 ^ d % 2 ^ 64) × (1 * 2 ^ d % 2 ^ 64 ≤ 2 ^ 63)
unit d D h =
    let e : 1 * 2 ^ d % 2 ^ 64 ≡ 2 ^ d = unit_shifted d h in
    let k : d ≤ 63 = omega arith in
    (lt_of_lt_of_le (pow-lt D) (le_of_eq (sym e)), le_trans (le_of_eq e) (pow_mono k))

pub unit_closest : (n d r : ℕ) → d < 64 → r ≡ closest n (1 * 2 ^ d % 2 ^ 64) → r ≡ closest n (2 ^ d)
unit_closest n d r h e = e ∙ ap (closest n) (unit_shifted d h)

-- ---- what is kept of a number of p + d digits has p digits, or is the power of two to which a carry leads
pub top-le : (p n d : ℕ) → n < 2 ^ (p + d) → closest n (2 ^ d) ≤ 2 ^ p
top-le p n d h = le_trans (nearest-le (n / 2 ^ d) (compare (n % 2 ^ d * 2) (2 ^ d))) (shr_lt p d h)

-- ---- n rounds as the nearest multiple of 2 ^ d does, where as many digits as the format has stand from n's top one down to the place d
module _ (f : Format) (n d : ℕ) (lo : 2 ^ (prec f - 1 + d) ≤ n) (hi : n < 2 ^ (prec f + d)) where
  reaches : 2 ^ (prec f - 1 + (d + low f)) ≤ n * 2 ^ low f
  reaches = le_trans (le_of_eq (ap (λ (z : ℕ). 2 ^ z) (sym (add_assoc (prec f - 1) d (low f))) ∙ pow-add 2 (prec f - 1 + d) (low f))) (mul-le-mul_right (2 ^ low f) lo)

  stays : n * 2 ^ low f < 2 ^ (prec f + (d + low f))
  stays = lt_of_lt_of_le (shl_lt (prec f + d) (low f) hi) (le_of_eq (ap (λ (z : ℕ). 2 ^ z) (add_assoc (prec f) d (low f))))

  kept : closest (n * 2 ^ low f) (2 ^ (d + low f)) ≡ closest n (2 ^ d)
  kept = closest_same (n * 2 ^ low f) (2 ^ (d + low f)) n (2 ^ d) (pow_pos (d + low f)) (pow_pos d)
      (mul_assoc n (2 ^ low f) (2 ^ d) ∙ ap (λ (z : ℕ). n * z) (mul_comm (2 ^ low f) (2 ^ d) ∙ sym (pow-add 2 d (low f))))

  regroup : (q : ℕ) → q * 2 ^ (d + low f) ≡ q * 2 ^ d * 2 ^ low f
  regroup q = ap (λ (z : ℕ). q * z) (pow-add 2 d (low f)) ∙ sym (mul_assoc q (2 ^ d) (2 ^ low f))

  alike : rd f (closest n (2 ^ d) * 2 ^ d * 2 ^ low f) ≡ rd f (n * 2 ^ low f)
  alike =
      let q = closest n (2 ^ d) in
      ap (rd f) (sym (regroup q))
      ∙ rd_exact (grid_multiple f q (d + low f) (top-le (prec f) n d hi))
      ∙ ap (λ (z : ℕ). z * 2 ^ (d + low f)) (sym kept)
      ∙ sym (rd_at f (n * 2 ^ low f) (d + low f) reaches stays)

  pub top_rounds : of_int f (pos (closest n (2 ^ d) * 2 ^ d)) ≡ of_int f (pos n)
  unfolding of_int
  top_rounds = whole (closest n (2 ^ d) * 2 ^ d) ∙ round_kept f false (closest n (2 ^ d) * 2 ^ d * 2 ^ low f) (n * 2 ^ low f) alike ∙ sym (whole n)
    where
      whole : (w : ℕ) → round f false w 1 ≡ round f false (w * 2 ^ low f) (2 ^ low f)
      whole w = round_in_units f false w 1 (w * 2 ^ low f) (zero-lt-suc 0) (sym (mul-one (w * 2 ^ low f)))

-- ---- the place of the top digit, by the count of the zeros above it in w digits
module _ (w n : ℕ) (some : 0 < n) (fit : n < 2 ^ w) where
  place : (j : ℕ) × (count_leading_zeros w n + suc j ≡ w) × (2 ^ j ≤ n) × (n < 2 ^ suc j)
  place = leading_top w n some fit

  pub below_top : (k : ℕ) → w ≤ count_leading_zeros w n + k → n < 2 ^ k
  below_top k h = lt_of_lt_of_le place.3 (pow_mono (go place.0 place.1))
    where
      go : (j : ℕ) → count_leading_zeros w n + suc j ≡ w → suc j ≤ k
      go j e = omega arith

  pub from_top : (k : ℕ) → count_leading_zeros w n + k < w → 2 ^ k ≤ n
  from_top k h = le_trans (pow_mono (go place.0 place.1)) place.2
    where
      go : (j : ℕ) → count_leading_zeros w n + suc j ≡ w → k ≤ j
      go j e = omega arith

  -- a number of more than k digits leaves less than w - k zeros
  pub zeros_few : (k : ℕ) → 2 ^ k ≤ n → count_leading_zeros w n + k < w
  zeros_few k h = lt_of_not-le (λ (g : w ≤ count_leading_zeros w n + k). not-le_of_lt (below_top k g) h)

-- ---- all of it: of w digits, zeros stand above the top one, as many as the format has are kept, and d are dropped
pub top_float : (f : Format) (w n d : ℕ) → 0 < n → n < 2 ^ w → count_leading_zeros w n + (prec f + d) ≡ w → of_int f (pos (closest n (2 ^ d) * 2 ^ d)) ≡ of_int f (pos n)
top_float f w n d N W e =
    let P : 0 < prec f = two-le_pos (prec f) (two f) in
    top_rounds f n d (from_top w n N W (prec f - 1 + d) (omega arith)) (below_top w n N W (prec f + d) (le_of_eq (sym e)))
