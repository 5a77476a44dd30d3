-- Sums over the numbers below n, compared term by term. Assumes nothing.
use Rattle.std.proofs.Common.{◌≡◌, ℕ, zero, suc, ◌+◌, ◌<◌, ◌≤◌, ◌≢◌, ◌⊎◌, refl, ap, inl, inr, arith}
use Rattle.phrases.proofs.Below.{same_or}
use Rattle.phrases.specs.Gathering.{sum_below}

pub sum_same : (n : ℕ) (f g : ℕ → ℕ) → ((i : ℕ) → i < n → f i ≡ g i) → sum_below n f ≡ sum_below n g
unfolding sum_below
sum_same zero f g h = refl
sum_same (suc n) f g h = omega (arith, sum_same n f g (λ i l. h i (omega arith)), h n (omega arith))

pub sum_at : (n k : ℕ) (f : ℕ → ℕ) → k < n → f k ≤ sum_below n f
unfolding sum_below
sum_at zero k f l = absurd (omega arith)
sum_at (suc n) k f l = go (same_or k n) (sum_at n k f)
  where
    go : (k ≡ n) ⊎ (k ≢ n) → (k < n → f k ≤ sum_below n f) → f k ≤ sum_below n f + f n
    go (inl e) ih = omega (arith, ap f e)
    go (inr e) ih = omega (arith, ih (omega arith))

-- the most that n terms of at most one come to
pub sum_most : (n : ℕ) (f : ℕ → ℕ) → ((i : ℕ) → f i ≤ 1) → sum_below n f ≤ n
unfolding sum_below
sum_most zero f h = omega arith
sum_most (suc n) f h = omega (arith, sum_most n f h, h n)

pub sum_least : (n : ℕ) (f g : ℕ → ℕ) → ((i : ℕ) → i < n → f i ≤ g i) → sum_below n f ≤ sum_below n g
unfolding sum_below
sum_least zero f g h = omega arith
sum_least (suc n) f g h = omega (arith, sum_least n f g (λ i l. h i (omega arith)), h n (omega arith))

-- ---- with one term larger by d
pub sum_larger : (n k d : ℕ) (f g : ℕ → ℕ) → k < n → ((i : ℕ) → i < n → f i ≤ g i) → f k + d ≤ g k → sum_below n f + d ≤ sum_below n g
unfolding sum_below
sum_larger zero k d f g l h e = absurd (omega arith)
sum_larger (suc n) k d f g l h e = go (same_or k n) (sum_larger n k d f g)
  where
    go : (k ≡ n) ⊎ (k ≢ n) → (k < n → ((i : ℕ) → i < n → f i ≤ g i) → f k + d ≤ g k → sum_below n f + d ≤ sum_below n g) → sum_below n f + f n + d ≤ sum_below n g + g n
    go (inl c) ih = omega (arith, sum_least n f g (λ i l. h i (omega arith)), ap f c, ap g c)
    go (inr c) ih = omega (arith, ih (omega arith) (λ i l. h i (omega arith)) e, h n (omega arith))

pub sum_one : (n k d : ℕ) (f g : ℕ → ℕ) → k < n → ((i : ℕ) → i < n → i ≢ k → f i ≡ g i) → f k + d ≡ g k → sum_below n f + d ≡ sum_below n g
unfolding sum_below
sum_one zero k d f g l h e = absurd (omega arith)
sum_one (suc n) k d f g l h e = go (same_or k n) (sum_one n k d f g)
  where
    go : (k ≡ n) ⊎ (k ≢ n) → (k < n → ((i : ℕ) → i < n → i ≢ k → f i ≡ g i) → f k + d ≡ g k → sum_below n f + d ≡ sum_below n g) → sum_below n f + f n + d ≡ sum_below n g + g n
    go (inl c) ih = omega (arith, sum_same n f g (λ i l. h i (omega arith) (omega arith)), ap f c, ap g c)
    go (inr c) ih = omega (arith, ih (omega arith) (λ i l. h i (omega arith)) e, h n (omega arith) (omega arith))
