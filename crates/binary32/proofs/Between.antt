-- The order of floats: of two that are not NaN one is at most the other, infinities included, and the order's chains.
-- What lies between two values that are not below zero is a whole number of units between theirs. Assumes nothing.
use Rattle.std.proofs.Common.{◌≡◌, ℕ, ◌+◌, ◌*◌, ◌^◌, ◌<◌, ◌≤◌, Bool, true, false, not, ◌&&◌, T, eqb, ltb, leb, ◌⊎◌, ℤ, sym, refl, ap, ◌∙◌, subst, inl, inr, mul_assoc, mul_comm, mul-pos, mul_left_comm, arith, le→leb, eqb→eq, ltb→lt, leb→le, nltb→le, T_not, pow_pos}
use mathlib.Core.Bool.{not-not, or-false}
use lib.Dec.{eqb_refl}
use lib.Arith.{le→nltb}
use lib.Ieee.{Float, nan, inf, fin, Format, low, up, down, lt, eq, le, ne, below, fits, is_nan}
use lib.Ieee.Fits.{eq→eqb, down_pos}
use lib.Ieee.Bits.{is_true}
use lib.Ieee.Exact.{HasValue}
use lib.Ieee.Scale.{finite}
use Rattle.binary32.proofs.Truth.{yes_or_no, same_test, or_l, or_r, or_split}
use Rattle.binary32.specs.Leaves.{sign_of}
use Rattle.binary32.proofs.Values.{scaled, common, lt_value, le_value, most}
use Rattle.binary32.proofs.Units.{Grid, on_grid, Units, lt_units, le_units, units_finite}

-- ---- what is compared is no NaN
pub lt_not_nan : (x y : Float) → T (lt x y) → T (not (is_nan x)) × T (not (is_nan y))
unfolding lt is_nan
lt_not_nan nan y h = absurd h
lt_not_nan (inf s) nan h = absurd h
lt_not_nan (inf s) (inf t) h = (tt, tt)
lt_not_nan (inf s) (fin t n d) h = (tt, tt)
lt_not_nan (fin s m e) nan h = absurd h
lt_not_nan (fin s m e) (inf t) h = (tt, tt)
lt_not_nan (fin s m e) (fin t n d) h = (tt, tt)

pub eq_not_nan : (x y : Float) → T (eq x y) → T (not (is_nan x)) × T (not (is_nan y))
unfolding eq is_nan
eq_not_nan nan y h = absurd h
eq_not_nan (inf s) nan h = absurd h
eq_not_nan (inf s) (inf t) h = (tt, tt)
eq_not_nan (inf s) (fin t n d) h = absurd h
eq_not_nan (fin s m e) nan h = absurd h
eq_not_nan (fin s m e) (inf t) h = absurd h
eq_not_nan (fin s m e) (fin t n d) h = (tt, tt)

pub le_split : (x y : Float) → T (le x y) → T (lt x y) ⊎ T (eq x y)
unfolding le
le_split x y h = or_split (lt x y) (eq x y) h

pub lt→le : (x y : Float) → T (lt x y) → T (le x y)
unfolding le
lt→le x y h = or_l (lt x y) (eq x y) h

pub eq→le : (x y : Float) → T (eq x y) → T (le x y)
unfolding le
eq→le x y h = or_r (lt x y) (eq x y) h

pub le_not_nan : (x y : Float) → T (le x y) → T (not (is_nan x)) × T (not (is_nan y))
le_not_nan x y h = elim (le_split x y h) [ inl t ↦ lt_not_nan x y t | inr t ↦ eq_not_nan x y t ]

-- ---- `le` is `lt` the other way, negated
leb_not : (a b : ℕ) → leb a b ≡ not (ltb b a)
leb_not a b = same_test (leb a b) (not (ltb b a)) (λ t. le→nltb b a (leb→le a b t)) (λ t. le→leb a b (nltb→le b a t))

none_not : (a b : ℕ) → eqb (a + b) 0 ≡ not (ltb 0 (b + a))
none_not a b =
    same_test (eqb (a + b) 0) (not (ltb 0 (b + a))) (λ (t : T (eqb (a + b) 0)). omega (arith, eqb→eq, le→nltb))
    (λ (t : T (not (ltb 0 (b + a)))). omega (arith, nltb→le, eq→eqb))

most_not_below : (s : Bool) (a : ℕ) (t : Bool) (b : ℕ) → most s a t b ≡ not (below t b s a)
most_not_below false a false b = leb_not a b
most_not_below false a true b = none_not a b
most_not_below true a false b = refl
most_not_below true a true b = leb_not b a

pub le_not_lt : (x y : Float) → T (not (is_nan x)) → T (not (is_nan y)) → le x y ≡ not (lt y x)
unfolding is_nan lt eq le
le_not_lt nan y p q = absurd p
le_not_lt (inf s) nan p q = absurd q
le_not_lt (inf true) (inf true) p q = refl
le_not_lt (inf true) (inf false) p q = refl
le_not_lt (inf false) (inf true) p q = refl
le_not_lt (inf false) (inf false) p q = refl
le_not_lt (inf s) (fin t n d) p q = or-false s ∙ sym (not-not s)
le_not_lt (fin s m e) nan p q = absurd q
le_not_lt (fin s m e) (inf t) p q = or-false (not t)
le_not_lt (fin s m e) (fin t n d) p q =
    let x = fin s m e in
    let y = fin t n d in
    let c = common x y tt tt in
    le_value x y s c.left t c.right c.over c.over_pos c.is_left c.is_right
    ∙ most_not_below s c.left t c.right
    ∙ ap not (sym (lt_value y x t c.right s c.left c.over c.over_pos c.is_right c.is_left))

pub total : (x y : Float) → T (not (is_nan x)) → T (not (is_nan y)) → T (not (lt y x)) → T (le x y)
total x y p q h = subst T (sym (le_not_lt x y p q)) h

-- ---- chains
most_trans : (s : Bool) (a : ℕ) (t : Bool) (b : ℕ) (u : Bool) (c : ℕ) → T (most s a t b) → T (most t b u c) → T (most s a u c)
most_trans false a false b false c h k = omega (arith, leb→le, le→leb)
most_trans false a false b true c h k = omega (arith, leb→le, eqb→eq, eq→eqb)
most_trans false a true b false c h k = omega (arith, eqb→eq, le→leb)
most_trans false a true b true c h k = omega (arith, leb→le, eqb→eq, eq→eqb)
most_trans true a t b false c h k = tt
most_trans true a false b true c h k = omega (arith, eqb→eq, le→leb)
most_trans true a true b true c h k = omega (arith, leb→le, le→leb)

bottom : (z : Float) → T (not (is_nan z)) → T (le (inf true) z)
unfolding is_nan le
bottom nan h = absurd h
bottom (inf true) h = tt
bottom (inf false) h = tt
bottom (fin s m e) h = tt

top : (x : Float) → T (not (is_nan x)) → T (le x (inf false))
unfolding is_nan le
top nan h = absurd h
top (inf true) h = tt
top (inf false) h = tt
top (fin s m e) h = tt

only_bottom : (x : Float) → T (le x (inf true)) → x ≡ inf true
unfolding le
only_bottom nan h = absurd h
only_bottom (inf true) h = refl
only_bottom (inf false) h = absurd h
only_bottom (fin s m e) h = absurd h

only_top : (z : Float) → T (le (inf false) z) → z ≡ inf false
unfolding le
only_top nan h = absurd h
only_top (inf true) h = absurd h
only_top (inf false) h = refl
only_top (fin s m e) h = absurd h

-- three finite values over one denominator
finite_trans : (s : Bool) (m : ℕ) (e : ℤ) (t : Bool) (n : ℕ) (d : ℤ) (u : Bool) (k : ℕ) (g : ℤ)
    → T (le (fin s m e) (fin t n d)) → T (le (fin t n d) (fin u k g)) → T (le (fin s m e) (fin u k g))
finite_trans s m e t n d u k g h l =
    let x = fin s m e in
    let y = fin t n d in
    let z = fin u k g in
    let a = m * up e * (down d * down g) in
    let b = n * up d * (down e * down g) in
    let i = k * up g * (down e * down d) in
    let c = down e * (down d * down g) in
    let C : 0 < c = mul-pos (down_pos e) (mul-pos (down_pos d) (down_pos g)) in
    let v : HasValue x s a c = scaled s m e (down d * down g) in
    let w : HasValue y t b c = subst (HasValue y t b) (mul_left_comm (down d) (down e) (down g)) (scaled t n d (down e * down g)) in
    let r : HasValue z u i c = subst (HasValue z u i) (mul_comm (down g) (down e * down d) ∙ mul_assoc (down e) (down d) (down g)) (scaled u k g (down e * down d)) in
    subst T (sym (le_value x z s a u i c C v r)) (most_trans s a t b u i (subst T (le_value x y s a t b c C v w) h) (subst T (le_value y z t b u i c C w r) l))

pub le_le_trans : (x y z : Float) → T (le x y) → T (le y z) → T (le x z)
unfolding le
le_le_trans nan y z h k = absurd h
le_le_trans (inf true) y z h k = bottom z (le_not_nan y z k).1
le_le_trans (inf false) y z h k = subst (λ (w : Float). T (le w z)) (only_top y h) k
le_le_trans (fin s m e) nan z h k = absurd h
le_le_trans (fin s m e) (inf true) z h k = absurd h
le_le_trans (fin s m e) (inf false) z h k = subst (λ (w : Float). T (le (fin s m e) w)) (sym (only_top z k)) tt
le_le_trans (fin s m e) (fin t n d) nan h k = absurd k
le_le_trans (fin s m e) (fin t n d) (inf true) h k = absurd k
le_le_trans (fin s m e) (fin t n d) (inf false) h k = tt
le_le_trans (fin s m e) (fin t n d) (fin u i g) h k = finite_trans s m e t n d u i g h k

-- no x is below y and y at most x
pub lt_le_clash : (x y : Float) → T (lt x y) → T (le y x) → ⊥
lt_le_clash x y h k = T_not (lt x y) (subst T (le_not_lt y x (lt_not_nan x y h).1 (lt_not_nan x y h).0) k) h

-- what is not below z is at least z
lt_by : (x z : Float) → T (not (is_nan x)) → T (not (is_nan z)) → (T (le z x) → ⊥) → T (lt x z)
lt_by x z p q n = elim (yes_or_no (lt x z)) [ inl t ↦ t | inr t ↦ absurd (n (total z x q p t)) ]

pub lt_le_trans : (x y z : Float) → T (lt x y) → T (le y z) → T (lt x z)
lt_le_trans x y z h k = lt_by x z (lt_not_nan x y h).0 (le_not_nan y z k).1 (λ (l : T (le z x)). lt_le_clash x y h (le_le_trans y z x k l))

pub le_lt_trans : (x y z : Float) → T (le x y) → T (lt y z) → T (lt x z)
le_lt_trans x y z h k = lt_by x z (le_not_nan x y h).0 (lt_not_nan y z k).1 (λ (l : T (le z x)). lt_le_clash y z k (le_le_trans z x y l h))

pub lt_lt_trans : (x y z : Float) → T (lt x y) → T (lt y z) → T (lt x z)
lt_lt_trans x y z h k = lt_le_trans x y z h (lt→le y z k)

pub ne_self : (x : Float) → ne x x ≡ is_nan x
unfolding ne is_nan
ne_self nan = refl
ne_self (inf true) = refl
ne_self (inf false) = refl
ne_self (fin true m e) = ap (λ (b : Bool). not (b && true)) (is_true (eqb (m * up e * down e) (m * up e * down e)) (eqb_refl (m * up e * down e)))
ne_self (fin false m e) = ap (λ (b : Bool). not (b && true)) (is_true (eqb (m * up e * down e) (m * up e * down e)) (eqb_refl (m * up e * down e)))

-- ---- at least a value that is not below zero

-- x is n units on the grid, n from a up
pub record From (f : Format) (x : Float) (a : ℕ) : Type 0 where
  pub count : ℕ
  pub is : Units f x count
  pub grid : Grid f count
  pub from : a ≤ count

-- a negative value that is at least one that is not below zero is -0
null_of : (s : Bool) (a : ℕ) (t : Bool) (n : ℕ) → (T s → a ≡ 0) → T (most s a t n) → T t → n ≡ 0
null_of s a false n z h t = absurd t
null_of false a true n z h t = omega (arith, eqb→eq)
null_of true a true n z h t = omega (arith, leb→le, z tt)

pub at_least : {f : Format} {x lo : Float} {a : ℕ} → T (fits f x) → T (finite x) → Units f lo a → T (le lo x) → From f x a
at_least {f} {x} {lo} {a} t q p h =
    let held = on_grid f x q t in
    let n = held.count in
    let u : Units f x n =
    record {
      sign = sign_of x;
      is = held.is;
      null = null_of p.sign a (sign_of x) n p.null (subst T (le_value lo x p.sign a (sign_of x) n (2 ^ low f) (pow_pos (low f)) p.is held.is) h);
    } in
    record { count = n; is = u; grid = held.grid; from = leb→le a n (subst T (le_units p u) h) }

-- ---- between two values that are not below zero

-- x is n units on the grid, n from a to b
pub record Whole (f : Format) (x : Float) (a b : ℕ) : Type 0 where
  pub count : ℕ
  pub is : Units f x count
  pub grid : Grid f count
  pub from : a ≤ count
  pub to : count ≤ b

pub between_finite : (x lo hi : Float) → T (finite lo) → T (finite hi) → T (le lo x) → T (le x hi) → T (finite x)
unfolding is_nan
between_finite nan lo hi p q h k = absurd (le_not_nan lo nan h).1
between_finite (inf true) lo hi p q h k = subst (λ (z : Float). T (finite z)) (only_bottom lo h) p
between_finite (inf false) lo hi p q h k = subst (λ (z : Float). T (finite z)) (only_top hi k) q
between_finite (fin s m e) lo hi p q h k = tt

-- hi may be an infinity
pub below_finite : (x lo hi : Float) → T (finite lo) → T (le lo x) → T (lt x hi) → T (finite x)
unfolding is_nan
below_finite nan lo hi p h k = absurd (le_not_nan lo nan h).1
below_finite (inf true) lo hi p h k = subst (λ (z : Float). T (finite z)) (only_bottom lo h) p
below_finite (inf false) lo hi p h k = absurd (lt_le_clash (inf false) hi k (top hi (lt_not_nan (inf false) hi k).1))
below_finite (fin s m e) lo hi p h k = tt

pub whole : {f : Format} {x lo hi : Float} {a b : ℕ} → T (fits f x) → Units f lo a → Units f hi b → T (le lo x) → T (le x hi) → Whole f x a b
whole {f} {x} {lo} {hi} {a} {b} t p q h k =
    let w = at_least t (between_finite x lo hi (units_finite p) (units_finite q) h k) p h in
    record { count = w.count; is = w.is; grid = w.grid; from = w.from; to = leb→le w.count b (subst T (le_units w.is q) k) }

-- the same for x below b units
pub whole_below : {f : Format} {x lo hi : Float} {a b : ℕ} → T (fits f x) → Units f lo a → Units f hi b → T (le lo x) → T (lt x hi) → (w : Whole f x a b) × (w.count < b)
whole_below {f} {x} {lo} {hi} {a} {b} t p q h k =
    let w = whole t p q h (lt→le x hi k) in
    (w, ltb→lt w.count b (subst T (lt_units w.is q) k))
