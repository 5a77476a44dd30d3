-- The root of a float above zero: the definition's `round` gives the float that is nearest to the true root, and by no tie.
-- The whole part q of the root, in units of the smallest float, has many more digits than are kept, and is never the middle of two floats (`never_odd`).
-- Assumes nothing.
use Rattle.std.proofs.Common.{◌≡◌, ℕ, suc, ◌+◌, ◌-◌, ◌*◌, ◌/◌, ◌%◌, ◌^◌, ◌<◌, ◌≤◌, Bool, true, false, T, ◌⊎◌, sym, refl, ap, ◌∙◌, subst, ap₂, inl, inr, true≢false, zero-le, le_trans, lt_trans, le_of_eq, lt_of_lt_of_le, le_of_suc-le-suc, lt_of_le_of_lt, le_of_lt, lt_irrefl, mul-le-mul_right, mod-lt, zero-lt-suc, mul_assoc, suc-mul, mul_comm, div-lt_iff_lt-mul, add-mul, add_comm, lt_of_mul-lt-mul_right, eq-or-lt_of_le, mul-le-mul_left, mul-lt-mul_of_pos_right, mul-pos, lt_of_not-le, div-add-mod', le-div_iff_mul-le, zero-add, mul_right_comm, le_of_mul-le-mul_right, mul-div_cancel, mul_left_comm, arith, lit<, lit≤, le→leb, eqb→eq, ltb→lt, lt→ltb, pow_pos, pow_mono, pow-add}
use native.Mathlib.Nat.{mul-mul-mul_comm, two-pow-succ, pow-succ', mul-lt-mul_of_pos_left}
use native.Mathlib.Decide.{dec_le}
use lib.Arith.{lt_of_le-ne}
use lib.Ieee.{Float, nan, inf, fin, Format, binary32, prec, up, down, size, round, lt, eq, le, fits}
use lib.Ieee.Digits.{size-lt, size_reaches}
use lib.Ieee.Fits.{down_pos, two, two-le_pos, eq→eqb, round-fits}
use lib.Ieee.Exact.{HasValue}
use lib.Ieee.Scale.{finite, overflow}
use lib.Ieee.Nearest.{closest}
use lib.Ieee.Positive.{num, den, den_pos, positive, positive-finite, value_pos}
use Rattle.binary32.specs.Leaves.{zero32, sign_of, isqrt, root_of}
use Rattle.binary32.specs.Roots.{square, MiddleBelow, MiddleAbove, NearestRoot}
use Rattle.binary32.proofs.Values.{le_value, most}
use Rattle.binary32.proofs.Units.{Grid, Held, Units, grid_multiple, pow_over, on_grid, lt_units, eq_units, units_finite}
use Rattle.binary32.proofs.Rounding.{rd, rd_at, rd_le, round_value}
use Rattle.binary32.proofs.Tops.{closest_below, closest_above}
use Rattle.binary32.proofs.WholeRoots.{square_mono, square_lt, four_squares, isqrt_root, root_reaches, root_stays, never_odd, pow_lt_back}

-- ---- Where n keeps its digits down to the place k, what the format holds below n ends at n's kept digits, and what it holds above n begins at the next multiple of 2 ^ k
module _ (f : Format) (n k : ℕ) (lo : 2 ^ (prec f - 1 + k) ≤ n) where
  coarse : (y : ℕ) → Grid f y → 2 ^ (prec f - 1 + k) ≤ y → (r : ℕ) × (y ≡ r * 2 ^ k)
  coarse y g h = (g.digits * 2 ^ (g.shift - k), g.is ∙ pow_over g.digits g.shift k reaches)
    where
      fewer : suc g.shift ≤ k → prec f + g.shift ≤ prec f - 1 + k
      fewer l = let P : 0 < prec f = two-le_pos (prec f) (two f) in omega arith

      reaches : k ≤ g.shift
      reaches = le_of_suc-le-suc (lt_of_not-le (λ (l : suc g.shift ≤ k).
          lt_irrefl y (lt_of_lt_of_le (lt_of_le_of_lt (le_of_eq g.is) (lt_of_lt_of_le (mul-lt-mul_of_pos_right g.few (pow_pos g.shift)) (le_of_eq (sym (pow-add 2 (prec f) g.shift))))) (le_trans (pow_mono (fewer l)) h))))

  multiple_under : (r : ℕ) → r * 2 ^ k ≤ n → r * 2 ^ k ≤ n / 2 ^ k * 2 ^ k
  multiple_under r h = mul-le-mul_right (2 ^ k) ((le-div_iff_mul-le (pow_pos k)).1 h)

  grid_under : (y : ℕ) → Grid f y → y ≤ n → y ≤ n / 2 ^ k * 2 ^ k
  grid_under y g h = either (dec_le (2 ^ (prec f - 1 + k)) y)
    where
      base : 2 ^ (prec f - 1 + k) ≡ 2 ^ (prec f - 1) * 2 ^ k
      base = pow-add 2 (prec f - 1) k

      either : Dec (2 ^ (prec f - 1 + k) ≤ y) → y ≤ n / 2 ^ k * 2 ^ k
      either (yes l) =
          let r = coarse y g l in
          le_trans (le_of_eq r.1) (multiple_under r.0 (le_trans (le_of_eq (sym r.1)) h))
      either (no l) = le_trans (le_of_lt (lt_of_not-le l)) (le_trans (le_of_eq base) (multiple_under (2 ^ (prec f - 1)) (le_trans (le_of_eq (sym base)) lo)))

  grid_over : (y : ℕ) → Grid f y → n < y → suc (n / 2 ^ k) * 2 ^ k ≤ y
  grid_over y g h =
      let r = coarse y g (le_trans lo (le_of_lt h)) in
      le_trans (mul-le-mul_right (2 ^ k) ((div-lt_iff_lt-mul (pow_pos k)).1 (lt_of_lt_of_le h (le_of_eq r.1)))) (le_of_eq (sym r.1))

-- ---- Where n is not the middle of two neighbours, what it rounds to is nearer to both n and n + 1 than all else that the format holds
module _ (f : Format) (n i : ℕ) (lo : 2 ^ (prec f - 1 + suc i) ≤ n) (hi : n < 2 ^ (prec f + suc i)) (tieless : n % 2 ^ suc i * 2 ≡ 2 ^ suc i → ⊥) where
  abbrev unit : ℕ
  unit = 2 ^ suc i

  abbrev kept : ℕ
  kept = n / unit * unit

  abbrev rest : ℕ
  rest = n % unit

  whole : kept + rest ≡ n
  whole = div-add-mod' n unit

  even : unit ≡ 2 ^ i + 2 ^ i
  even = two-pow-succ i

  next : suc (n / unit) * unit ≡ kept + unit
  next = suc-mul (n / unit) unit

  abbrev Rounds : Type 0
  Rounds = ((rest * 2 < unit) × (rd f n ≡ kept)) ⊎ ((unit < rest * 2) × (rd f n ≡ kept + unit))

  rounds : Rounds
  rounds = either (dec_le unit (rest * 2))
    where
      at : rd f n ≡ closest n unit * unit
      at = rd_at f n (suc i) lo hi

      either : Dec (unit ≤ rest * 2) → Rounds
      either (yes h) =
          let l : unit < rest * 2 = lt_of_le-ne h (λ (e : unit ≡ rest * 2). tieless (sym e)) in
          inr (l, at ∙ ap (λ (z : ℕ). z * unit) (sym (closest_above n unit l)) ∙ next)
      either (no h) = inl (lt_of_not-le h, at ∙ ap (λ (z : ℕ). z * unit) (sym (closest_below n unit (lt_of_not-le h))))

  over : (y : ℕ) → Grid f y → n < y → kept + unit ≤ y
  over y g h = le_trans (le_of_eq (sym next)) (grid_over f n (suc i) lo y g h)

  pub nearer_below : (y : ℕ) → Grid f y → y < rd f n → y + rd f n < 2 * n
  nearer_below y g h = elim rounds [
    | inl d ↦ down kept (rd f n) rest whole d.1 h
    | inr d ↦ up kept unit (rd f n) rest whole d.0 d.1 (grid_under f n (suc i) lo y g (le_of_suc-le-suc (lt_of_not-le (λ (l : suc n ≤ y). lt_irrefl y (lt_of_lt_of_le h (le_trans (le_of_eq d.1) (over y g l)))))))
  ]
    where
      down : (k r t : ℕ) → k + t ≡ n → r ≡ k → y < r → y + r < 2 * n
      down k r t e a b = omega arith

      up : (k u r t : ℕ) → k + t ≡ n → u < t * 2 → r ≡ k + u → y ≤ k → y + r < 2 * n
      up k u r t e l a b = omega arith

  pub nearer_above : (y : ℕ) → Grid f y → rd f n < y → 2 * suc n ≤ y + rd f n
  nearer_above y g h = elim rounds [
    | inl d ↦ down kept unit (2 ^ i) (rd f n) rest whole even d.0 d.1 (over y g (lt_of_not-le (λ (l : y ≤ n). lt_irrefl y (lt_of_le_of_lt (grid_under f n (suc i) lo y g l) (lt_of_le_of_lt (le_of_eq (sym d.1)) h)))))
    | inr d ↦ up kept unit (rd f n) rest whole (mod-lt n (pow_pos (suc i))) d.1 h
  ]
    where
      down : (k u v r t : ℕ) → k + t ≡ n → u ≡ v + v → t * 2 < u → r ≡ k → k + u ≤ y → 2 * suc n ≤ y + r
      down k u v r t e b l a h = omega arith

      up : (k u r t : ℕ) → k + t ≡ n → t < u → r ≡ k + u → r < y → 2 * suc n ≤ y + r
      up k u r t e l a b = omega arith

-- ---- the whole part of a root, N having no more digits than a float, is never the middle of two neighbours
module _ (N c j i : ℕ) (is : N ≡ c * 2 ^ j) (few : c < 2 ^ 24) (lo : 2 ^ (23 + suc i) ≤ isqrt N) (hi : isqrt N < 2 ^ (24 + suc i)) (long : 26 ≤ i) where
  short : 2 * isqrt N + 1 ≤ 2 ^ i * 2 ^ i
  short = le_trans (go (isqrt N) (2 ^ (24 + suc i)) hi) (le_trans (le_of_eq (sym (two-pow-succ (24 + suc i)))) (le_trans (pow_mono {i = suc (24 + suc i)} {j = i + i} (omega arith)) (le_of_eq (pow-add 2 i i))))
    where
      go : (q p : ℕ) → q < p → 2 * q + 1 ≤ p + p
      go q p h = omega arith

  pub never_half : isqrt N % 2 ^ suc i * 2 ≡ 2 ^ suc i → ⊥
  never_half e =
      let q = isqrt N in
      let w = q / 2 ^ suc i in
      let h : q % 2 ^ suc i ≡ 2 ^ i = half (q % 2 ^ suc i) (2 ^ i) (e ∙ two-pow-succ i) in
      let o : q ≡ suc (2 * w) * 2 ^ i = sym (div-add-mod' q (2 ^ suc i)) ∙ ap₂ (λ (a b : ℕ). w * a + b) (pow-succ' 2 i) h ∙ odd w (2 ^ i) in
      let places : 23 + suc i ≡ 24 + i = omega arith in
      let many : 2 ^ 24 * 2 ^ i ≤ suc (2 * w) * 2 ^ i = le_trans (le_of_eq (sym (pow-add 2 24 i) ∙ ap (λ (z : ℕ). 2 ^ z) (sym places))) (le_trans lo (le_of_eq o)) in
      never_odd 24 c j w i few (le_of_mul-le-mul_right many (pow_pos i)) (subst (λ (z : ℕ). 2 * z + 1 ≤ 2 ^ i * 2 ^ i) o short) (ap isqrt (sym is) ∙ o)
    where
      half : (r v : ℕ) → r * 2 ≡ v + v → r ≡ v
      half r v e = omega arith

      odd : (w v : ℕ) → w * (2 * v) + v ≡ suc (2 * w) * v
      odd w v = ap (λ (z : ℕ). z + v) (sym (mul_assoc w 2 v) ∙ ap (λ (z : ℕ). z * v) (mul_comm w 2)) ∙ sym (suc-mul (2 * w) v)

-- ---- the root of n units
pub root_units : (x : Float) (n : ℕ) → HasValue x false n (2 ^ 149) → root_of x ≡ round binary32 false (isqrt (n * 2 ^ 149)) (2 ^ 149)
unfolding root_of
root_units nan n h = absurd h
root_units (inf s) n h = absurd h
root_units (fin true m e) n h = absurd (true≢false h.0)
root_units (fin false m e) n h =
    ap (λ (z : ℕ). round binary32 false (isqrt z) (2 ^ 149))
    (ap (λ (z : ℕ). z / down e) (sym (mul_assoc (m * up e) (2 ^ 149) (2 ^ 149)) ∙ ap (λ (z : ℕ). z * 2 ^ 149) h.1 ∙ mul_right_comm n (down e) (2 ^ 149))
    ∙ mul-div_cancel (n * 2 ^ 149) (down_pos e))

module _ (n : ℕ) (some : 0 < n) (g : Grid binary32 n) (under : n < overflow binary32) where
  abbrev N : ℕ
  N = n * 2 ^ 149

  abbrev q : ℕ
  q = isqrt N

  abbrev i : ℕ
  i = size q - 25

  reaches : 2 ^ 74 ≤ q
  reaches = root_reaches N (2 ^ 74) (le_trans (lit≤ tt) (mul-le-mul_right (2 ^ 149) some))

  stays : q < 2 ^ 213
  stays = root_stays N (2 ^ 213) (lt_of_lt_of_le (mul-lt-mul_of_pos_right under (pow_pos 149)) (lit≤ tt))

  digits : 74 < size q
  digits = pow_lt_back 74 (size q) (lt_of_le_of_lt reaches (size-lt q))

  lo : 2 ^ (23 + suc i) ≤ q
  lo = size_reaches q (23 + suc i) (omega (arith, digits))

  hi : q < 2 ^ (24 + suc i)
  hi = let e : size q ≡ 24 + suc i = omega (arith, digits) in subst (λ (z : ℕ). q < 2 ^ z) e (size-lt q)

  tieless : q % 2 ^ suc i * 2 ≡ 2 ^ suc i → ⊥
  tieless =
      let is : N ≡ g.digits * 2 ^ (g.shift + 149) = ap (λ (z : ℕ). z * 2 ^ 149) g.is ∙ mul_assoc g.digits (2 ^ g.shift) (2 ^ 149) ∙ ap (λ (z : ℕ). g.digits * z) (sym (pow-add 2 g.shift 149)) in
      never_half N g.digits (g.shift + 149) i is g.few lo hi (omega (arith, digits))

  middle_below : (y : ℕ) → Grid binary32 y → y < rd binary32 q → square (y + rd binary32 q) < 4 * N
  middle_below y h l = lt_of_lt_of_le (square_lt (nearer_below binary32 q i lo hi tieless y h l)) (le_trans (le_of_eq (four_squares q)) (mul-le-mul_left 4 (isqrt_root N).0))

  middle_above : (y : ℕ) → Grid binary32 y → rd binary32 q < y → 4 * N < square (y + rd binary32 q)
  middle_above y h l =
      lt_of_lt_of_le (mul-lt-mul_of_pos_left (isqrt_root N).1 (zero-lt-suc 3))
      (le_trans (le_of_eq (sym (four_squares (suc q)))) (square_mono (nearer_above binary32 q i lo hi tieless y h l)))

  root_finite : rd binary32 q < overflow binary32
  root_finite = lt_of_le_of_lt (rd_le (grid_multiple binary32 1 213 (lit≤ tt)) (le_of_lt stays)) (lit< tt)

-- ---- the same of fractions: where S / D is Z units and M / E is n units, of which L make 1
module _ (S D Z M E n L : ℕ) (s : S * L ≡ Z * D) (x : M * L ≡ n * E) (d : 0 < D) (e : 0 < E) where
  left : square S * E * square L ≡ square Z * (square D * E)
  left = mul_right_comm (S * S) E (L * L) ∙ ap (λ (z : ℕ). z * E) (mul-mul-mul_comm S S L L ∙ ap₂ (λ (a b : ℕ). a * b) s s ∙ mul-mul-mul_comm Z D Z D) ∙ mul_assoc (Z * Z) (D * D) E

  right : 4 * M * square D * square L ≡ 4 * (n * L) * (square D * E)
  right =
      let a : 4 * M * square D * square L ≡ M * L * (4 * (L * (D * D))) = simp (mul_assoc, mul_comm, mul_left_comm) in
      let b : n * E * (4 * (L * (D * D))) ≡ 4 * (n * L) * (square D * E) = simp (mul_assoc, mul_comm, mul_left_comm) in
      a ∙ ap (λ (z : ℕ). z * (4 * (L * (D * D)))) x ∙ b

  some_parts : 0 < square D * E
  some_parts = mul-pos (mul-pos d d) e

  fraction_below : square Z < 4 * (n * L) → square S * E < 4 * M * square D
  fraction_below h = lt_of_mul-lt-mul_right (square L) (lt_of_le_of_lt (le_of_eq left) (lt_of_lt_of_le (mul-lt-mul_of_pos_right h some_parts) (le_of_eq (sym right))))

  fraction_above : 4 * (n * L) < square Z → 4 * M * square D < square S * E
  fraction_above h = lt_of_mul-lt-mul_right (square L) (lt_of_le_of_lt (le_of_eq right) (lt_of_lt_of_le (mul-lt-mul_of_pos_right h some_parts) (le_of_eq (sym left))))

cross : (x : Float) (s : Bool) (n c : ℕ) → HasValue x s n c → num x * c ≡ n * den x
cross nan s n c h = absurd h
cross (inf t) s n c h = absurd h
cross (fin t m e) s n c h = h.1

cross_sum : (a b c d Y R L : ℕ) → a * L ≡ Y * c → b * L ≡ R * d → (a * d + b * c) * L ≡ (Y + R) * (c * d)
cross_sum a b c d Y R L h k =
    add-mul (a * d) (b * c) L
    ∙ ap₂ (λ (p q : ℕ). p + q)
    (mul_right_comm a d L ∙ ap (λ (z : ℕ). z * d) h ∙ mul_assoc Y c d)
    (mul_right_comm b c L ∙ ap (λ (z : ℕ). z * c) k ∙ mul_assoc R d c ∙ ap (λ (z : ℕ). R * z) (mul_comm d c))
    ∙ sym (add-mul Y R (c * d))

-- ---- a float that is not below zero, in units
module _ (y : Float) (h : T (fits binary32 y)) (t : T (finite y)) (l : T (le zero32 y)) where
  abbrev at : Held binary32 y
  at = on_grid binary32 y t h

  abbrev count : ℕ
  count = at.count

  counted : Units binary32 y count
  counted = record { sign = sign_of y; is = at.is; null = none (sign_of y) (subst T (le_value zero32 y false 0 (sign_of y) count (2 ^ 149) (pow_pos 149) (refl, refl) at.is) l) }
    where
      none : (s : Bool) → T (most false 0 s count) → T s → count ≡ 0
      none true h t = sym (zero-add count) ∙ eqb→eq (0 + count) 0 h
      none false h t = absurd t

positive_sign : (x : Float) → T (positive x) → sign_of x ≡ false
positive_sign nan p = refl
positive_sign (inf s) p = absurd p
positive_sign (fin true m e) p = absurd p
positive_sign (fin false m e) p = refl

-- ---- the theorem
module _ (x : Float) (p : T (positive x)) (h : T (fits binary32 x)) where
  abbrev held : Held binary32 x
  held = on_grid binary32 x (positive-finite x p) h

  abbrev n : ℕ
  n = held.count

  value : HasValue x false n (2 ^ 149)
  value = subst (λ (s : Bool). HasValue x s n (2 ^ 149)) (positive_sign x p) held.is

  above_zero : 0 < n
  above_zero = value_pos x n (2 ^ 149) p (pow_pos 149) value

  abbrev r : ℕ
  r = rd binary32 (isqrt (n * 2 ^ 149))

  root_value : HasValue (root_of x) false r (2 ^ 149)
  root_value = subst (λ (z : Float). HasValue z false r (2 ^ 149)) (sym (root_units x n value)) (round_value binary32 false (isqrt (n * 2 ^ 149)) (root_finite n above_zero held.grid held.under))

  root_counted : Units binary32 (root_of x) r
  root_counted = record { sign = false; is = root_value; null = λ t. absurd t }

  root_held : T (fits binary32 (root_of x))
  root_held = subst (λ (z : Float). T (fits binary32 z)) (sym (root_units x n value)) (round-fits binary32 false (isqrt (n * 2 ^ 149)) (2 ^ 149))

  root_bounded : T (finite (root_of x))
  root_bounded = units_finite root_counted

  root_not_below : T (le zero32 (root_of x))
  root_not_below = subst T (sym (le_value zero32 (root_of x) false 0 false r (2 ^ 149) (pow_pos 149) (refl, refl) root_value)) (le→leb 0 r zero-le)

  module _ (y : Float) (k : T (fits binary32 y)) (t : T (finite y)) (l : T (le zero32 y)) where
    abbrev m : ℕ
    m = count y k t l

    sums : (num y * den (root_of x) + num (root_of x) * den y) * 2 ^ 149 ≡ (m + r) * (den y * den (root_of x))
    sums = cross_sum (num y) (num (root_of x)) (den y) (den (root_of x)) m r (2 ^ 149) (cross y (sign_of y) m (2 ^ 149) (at y k t l).is) (cross (root_of x) false r (2 ^ 149) root_value)

    parts : 0 < den y * den (root_of x)
    parts = mul-pos (den_pos y) (den_pos (root_of x))

    below : T (lt y (root_of x)) → MiddleBelow y (root_of x) x
    below a =
        fraction_below _ _ (m + r) (num x) (den x) n (2 ^ 149) sums (cross x false n (2 ^ 149) value) parts (den_pos x)
        (middle_below n above_zero held.grid held.under m (at y k t l).grid (ltb→lt m r (subst T (lt_units (counted y k t l) root_counted) a)))

    above : T (lt (root_of x) y) → MiddleAbove y (root_of x) x
    above a =
        fraction_above _ _ (m + r) (num x) (den x) n (2 ^ 149) sums (cross x false n (2 ^ 149) value) parts (den_pos x)
        (middle_above n above_zero held.grid held.under m (at y k t l).grid (ltb→lt r m (subst T (lt_units root_counted (counted y k t l)) a)))

pub nearest : (x : Float) → T (positive x) → T (fits binary32 x) → NearestRoot x (root_of x)
nearest x p h = record { held = root_held x p h; bounded = root_bounded x p h; not-below = root_not_below x p h; below = below x p h; above = above x p h }

-- ---- no two floats are nearest: their middle would lie both below the root and above it
turned : (x r s : Float) → MiddleBelow r s x → MiddleAbove s r x → ⊥
turned x r s h k =
    let top : num r * den s + num s * den r ≡ num s * den r + num r * den s = add_comm (num r * den s) (num s * den r) in
    let h' = subst (λ (z : ℕ). square z * den x < 4 * num x * square (den r * den s)) top h in
    let k' = subst (λ (z : ℕ). 4 * num x * square z < square (num s * den r + num r * den s) * den x) (mul_comm (den s) (den r)) k in
    lt_irrefl (4 * num x * square (den r * den s)) (lt_trans k' h')

pub determined : (x r s : Float) → NearestRoot x r → NearestRoot x s → T (eq r s)
determined x r s p q = elim (eq-or-lt_of_le (le_of_suc-le-suc (lt_of_not-le over))) [
  | inl e ↦ subst T (sym (eq_units R S)) (eq→eqb e)
  | inr h ↦ absurd (turned x r s (q.below r p.held p.bounded p.not-below (less R S h)) (p.above s q.held q.bounded q.not-below (less R S h)))
]
  where
    R : Units binary32 r (count r p.held p.bounded p.not-below)
    R = counted r p.held p.bounded p.not-below

    S : Units binary32 s (count s q.held q.bounded q.not-below)
    S = counted s q.held q.bounded q.not-below

    less : {y z : Float} {a b : ℕ} → Units binary32 y a → Units binary32 z b → a < b → T (lt y z)
    less {y} {z} {a} {b} c d h = subst T (sym (lt_units c d)) (lt→ltb a b h)

    over : count s q.held q.bounded q.not-below < count r p.held p.bounded p.not-below → ⊥
    over h = turned x s r (p.below s q.held q.bounded q.not-below (less S R h)) (q.above r p.held p.bounded p.not-below (less S R h))
