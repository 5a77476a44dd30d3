-- A test's answer as a fact, and back; and `||` taken apart.
-- `is_true`, `is_false` of lib.Ieee.Bits go from `T b` to an equation, `and_i`, `and_l`, `and_r` of lib.Ieee.Fits take `&&` apart, and lib.Dec has the tests on numbers.
-- Assumes nothing.
use Rattle.std.proofs.Common.{◌≡◌, Bool, true, false, cond, not, ◌||◌, T, ◌⊎◌, sym, refl, subst, inl, inr}

pub yes : {b : Bool} → b ≡ true → T b
yes h = subst T (sym h) tt

pub no : {b : Bool} → b ≡ false → T (not b)
no h = subst (λ (a : Bool). T (not a)) (sym h) tt

pub yes_or_no : (b : Bool) → T b ⊎ T (not b)
yes_or_no true = inl tt
yes_or_no false = inr tt

-- two tests that pass together are equal
pub same_test : (a b : Bool) → (T a → T b) → (T b → T a) → a ≡ b
same_test true true p q = refl
same_test true false p q = absurd (p tt)
same_test false true p q = absurd (q tt)
same_test false false p q = refl

pub or_l : (a b : Bool) → T a → T (a || b)
or_l true b t = tt
or_l false b t = absurd t

pub or_r : (a b : Bool) → T b → T (a || b)
or_r true b t = tt
or_r false b t = t

pub or_split : (a b : Bool) → T (a || b) → T a ⊎ T b
or_split true b t = inl tt
or_split false b t = inr t

-- what holds of either answer holds of the one that the test picks
pub cond_split : {A : Type 0} (P : A → Type 0) (b : Bool) (x y : A) → (T b → P x) → (T (not b) → P y) → P (cond b x y)
cond_split P true x y p q = p tt
cond_split P false x y p q = q tt
