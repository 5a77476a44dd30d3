-- The smaller and the larger of two values that are no NaN. Assumes nothing.
use mathlib.Core.Path.{◌≡◌, refl}
use mathlib.Core.Logic.{◌⊎◌, inl, inr}
use mathlib.Core.Bool.{Bool, not, cond}
use lib.Dec.{T, T_not}
use lib.Ieee.{Float, le, lt, is_nan}
use Rattle.binary32.specs.Leaves.{min_of, max_of}
use Rattle.binary32.proofs.Truth.{yes_or_no, cond_split}
use Rattle.binary32.proofs.Between.{lt→le, total}

le_self : (x : Float) → T (not (is_nan x)) → T (le x x)
le_self x p = elim (yes_or_no (lt x x)) [ inl t ↦ lt→le x x t | inr t ↦ total x x p p t ]

-- what a test takes of the two: with R for the order, or for the order the other way
taken : (R : Float → Float → Type 0) (x y : Float) (b : Bool) → T (not (is_nan x)) → R x x → R y y → (T b → R y x) → (T (not b) → R x y)
    → let r = cond (is_nan x) y (cond b y x) in ((r ≡ x) ⊎ (r ≡ y)) × R r x × R r y
taken R x y b p xx yy yx xy =
    let P : Float → Type 0 = λ r. ((r ≡ x) ⊎ (r ≡ y)) × R r x × R r y in
    cond_split P (is_nan x) y (cond b y x) (λ n. absurd (T_not (is_nan x) p n))
    (λ n. cond_split P b y x (λ t. (inr refl, yx t, yy)) (λ t. (inl refl, xx, xy t)))

pub smaller_of_both : (x y : Float) → T (not (is_nan x)) → T (not (is_nan y))
    → ((min_of x y ≡ x) ⊎ (min_of x y ≡ y)) × T (le (min_of x y) x) × T (le (min_of x y) y)
unfolding min_of
smaller_of_both x y p q = taken (λ (a b : Float). T (le a b)) x y (lt y x) p (le_self x p) (le_self y q) (lt→le y x) (total x y p q)

pub larger_of_both : (x y : Float) → T (not (is_nan x)) → T (not (is_nan y))
    → ((max_of x y ≡ x) ⊎ (max_of x y ≡ y)) × T (le x (max_of x y)) × T (le y (max_of x y))
unfolding max_of
larger_of_both x y p q = taken (λ (a b : Float). T (le b a)) x y (lt x y) p (le_self x p) (le_self y q) (lt→le x y) (total y x q p)
