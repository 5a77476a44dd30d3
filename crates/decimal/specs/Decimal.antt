-- Decimal notation: a number's digits as bytes, and the number that digits stand for. Assumes nothing.
use Rattle.std.specs.Prelude.{Bool, true, false, ◌&&◌, List, [], ◌∷◌, ◌++◌, ℕ, zero, suc, ◌+◌, ◌-◌, ◌*◌, ◌/◌, ◌%◌, ltb, leb}

-- the byte of a digit: 48 is `0`, 57 is `9`
abbrev pub digit : ℕ → ℕ
digit d = 48 + d

-- the last k digits of n, or fewer where n has fewer: below 10 its one digit, otherwise the digits of n / 10 and then n
-- % 10
unfoldable pub digits : ℕ → ℕ → List ℕ
digits zero n = []
digits (suc k) n = elim (ltb n 10) [ true ↦ digit n ∷ [] | false ↦ digits k (n / 10) ++ (digit (n % 10) ∷ []) ]

-- the digits of n, the most significant first: n has at most n + 1 digits
unfoldable pub decimal : ℕ → List ℕ
decimal n = digits (suc n) n

-- each byte is that of a digit
unfoldable pub all_digits : List ℕ → Bool
all_digits [] = true
all_digits (b ∷ bs) = leb 48 b && leb b 57 && all_digits bs

-- the number that digits stand for, read from the left: each makes ten of what stands before it
unfoldable pub value_after : ℕ → List ℕ → ℕ
value_after n [] = n
value_after n (b ∷ bs) = value_after (n * 10 + (b - 48)) bs

unfoldable pub value : List ℕ → ℕ
value bs = value_after 0 bs
