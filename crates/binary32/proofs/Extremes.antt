-- What holds of the smaller or the larger of two values. Assumes nothing.
use Rattle.std.proofs.Common.{◌≡◌, cond, not, T, refl, inl, inr, T_not}
use lib.Ieee.{Float, Format, lt, le, fits, is_nan}
use Rattle.binary32.specs.Leaves.{min_of, max_of}
use Rattle.binary32.proofs.Truth.{yes_or_no, cond_split}
use Rattle.binary32.proofs.Between.{lt→le, le_not_nan, lt_le_clash, total}

-- the first of two comes back only where it is no NaN, and not larger (smaller) than the second
module _ (P : Float → Type 0) (a b : Float) (second : P b) where
  pub smaller_of : (T (not (is_nan a)) → T (not (lt b a)) → P a) → P (min_of a b)
  unfolding min_of
  smaller_of first = cond_split P (is_nan a) b (cond (lt b a) b a) (λ n. second) (λ n. cond_split P (lt b a) b a (λ t. second) (λ t. first n t))

  pub larger_of : (T (not (is_nan a)) → T (not (lt a b)) → P a) → P (max_of a b)
  unfolding max_of
  larger_of first = cond_split P (is_nan a) b (cond (lt a b) b a) (λ n. second) (λ n. cond_split P (lt a b) b a (λ t. second) (λ t. first n t))

-- ---- the larger is no less than the second, no more than what bounds both, and a value of their format
le_self : (x : Float) → T (not (is_nan x)) → T (le x x)
le_self x p = elim (yes_or_no (lt x x)) [ inl t ↦ lt→le x x t | inr t ↦ total x x p p t ]

pub max_reaches : (x y : Float) → T (not (is_nan y)) → T (le y (max_of x y))
max_reaches x y q = larger_of (λ (z : Float). T (le y z)) x y (le_self y q) (λ p l. total y x q p l)

pub max_under : (x y z : Float) → (T (not (is_nan x)) → T (le x z)) → T (le y z) → T (le (max_of x y) z)
max_under x y z h k = larger_of (λ (w : Float). T (le w z)) x y k (λ p l. h p)

pub max_fits : (f : Format) (x y : Float) → T (fits f x) → T (fits f y) → T (fits f (max_of x y))
max_fits f x y p q = larger_of (λ (z : Float). T (fits f z)) x y q (λ n l. p)

-- ---- beside a value that is no NaN one test tells which it is
pub max_first : (x y : Float) → T (le y x) → max_of x y ≡ x
unfolding max_of
max_first x y h =
    cond_split (λ (z : Float). z ≡ x) (is_nan x) y (cond (lt x y) y x) (λ n. absurd (T_not (is_nan x) (le_not_nan y x h).1 n))
    (λ n. cond_split (λ (z : Float). z ≡ x) (lt x y) y x (λ t. absurd (lt_le_clash x y t h)) (λ t. refl))

pub max_second : (x y : Float) → T (not (is_nan y)) → T (not (le y x)) → max_of x y ≡ y
max_second x y q h = larger_of (λ (z : Float). z ≡ y) x y refl (λ p l. absurd (T_not (le y x) h (total y x q p l)))
