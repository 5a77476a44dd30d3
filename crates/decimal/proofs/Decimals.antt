-- Laws of decimal notation: digits and nothing else, no leading zero, the number again when read, and no other such list.
-- Assumes nothing.
use mathlib.Core.Path.{◌≡◌, refl, sym, ap, ap₂, ◌∙◌}
use mathlib.Core.Logic.{◌≢◌}
use mathlib.Core.Bool.{Bool, true, false, ◌&&◌, and_assoc, and-eq-true_iff}
use mathlib.Core.List.{List, [], ◌∷◌, ◌++◌, append-nil}
use Prim.Native.Nat.{ℕ, zero, suc, ◌+◌, ◌-◌, ◌*◌, ◌/◌, ◌%◌, ◌^◌, ◌≤◌, ◌<◌}
use native.Mathlib.Omega.{arith}
use native.Mathlib.Nat.{pow-suc}
use lib.Dec.{ltb, leb}
use lib.ListN.{length, get_or, length-append, get_or-append}
use lib.Seq.{append_snoc}
use borrow.Author.Tests.{lt-ltb, le-ltb, ltb-true, ltb-false, le-leb, leb-true}
use Rattle.decimal.specs.Decimal.{digit, digits, decimal, all_digits, value_after, value}

-- ---- the two cases of a number, and what holds of every number by them

digits_one : (k n : ℕ) → n < 10 → digits (suc k) n ≡ digit n ∷ []
unfolding digits
digits_one k n h = simp (lt-ltb n 10 h, digits)

digits_more : (k n : ℕ) → 10 ≤ n → digits (suc k) n ≡ digits k (n / 10) ++ (digit (n % 10) ∷ [])
unfolding digits
digits_more k n h = simp (digits, le-ltb n 10 h)

module _ (P : ℕ → List ℕ → Type 0) (one : (n : ℕ) → n < 10 → P n (digit n ∷ []))
    (more : (n : ℕ) (ds : List ℕ) → 10 ≤ n → P (n / 10) ds → P n (ds ++ (digit (n % 10) ∷ []))) where
  by_digits : (k n : ℕ) → n < k → P n (digits k n)
  by_digits zero n h = absurd (omega arith)
  by_digits (suc k) n h = go (ltb n 10) refl (by_digits k (n / 10))
    where
      go : (b : Bool) → ltb n 10 ≡ b → (n / 10 < k → P (n / 10) (digits k (n / 10))) → P n (digits (suc k) n)
      go true e ih = let l = ltb-true n 10 e in rw (digits_one k n l) (one n l)
      go false e ih = let l = ltb-false n 10 e in rw (digits_more k n l) (more n _ l (ih (omega arith)))

  -- what holds of the one digit of each number below 10, and of n by n / 10, holds of each number
  pub decimal_by : (n : ℕ) → P n (decimal n)
  unfolding decimal
  decimal_by n = by_digits (suc n) n (omega arith)

-- more places than n has digits show the same digits
digits_same : (j k n : ℕ) → n < j → n < k → digits j n ≡ digits k n
digits_same zero k n h l = absurd (omega arith)
digits_same (suc j) zero n h l = absurd (omega arith)
digits_same (suc j) (suc k) n h l = go (ltb n 10) refl (digits_same j k (n / 10))
  where
    go : (b : Bool) → ltb n 10 ≡ b → (n / 10 < j → n / 10 < k → digits j (n / 10) ≡ digits k (n / 10)) → digits (suc j) n ≡ digits (suc k) n
    go true e ih = let s = ltb-true n 10 e in digits_one j n s ∙ sym (digits_one k n s)
    go false e ih =
        let s = ltb-false n 10 e in
        digits_more j n s
        ∙ ap (λ (ds : List ℕ). ds ++ (digit (n % 10) ∷ [])) (ih (omega arith) (omega arith))
        ∙ sym (digits_more k n s)

pub decimal_one : (n : ℕ) → n < 10 → decimal n ≡ digit n ∷ []
unfolding decimal
decimal_one n h = digits_one n n h

pub decimal_more : (n : ℕ) → 10 ≤ n → decimal n ≡ decimal (n / 10) ++ (digit (n % 10) ∷ [])
unfolding decimal
decimal_more n h =
    digits_more n n h
    ∙ ap (λ (ds : List ℕ). ds ++ (digit (n % 10) ∷ []))
    (digits_same n (suc (n / 10)) (n / 10) (omega arith) (omega arith))

pub decimal_length : (n : ℕ) → 10 ≤ n → length (decimal n) ≡ length (decimal (n / 10)) + 1
decimal_length n h = ap length (decimal_more n h) ∙ simp length-append

-- ---- read back, the digits give the number

value_last : (n b : ℕ) (ds : List ℕ) → value_after n (ds ++ (b ∷ [])) ≡ value_after n ds * 10 + (b - 48)
unfolding value_after
value_last n b [] = refl
value_last n b (d ∷ ds) = value_last (n * 10 + (d - 48)) b ds

pub decimal_value : (n : ℕ) → value (decimal n) ≡ n
unfolding value value_after
decimal_value = decimal_by (λ n ds. value ds ≡ n) (λ n h. omega arith) (λ n ds h is. omega (arith, value_last 0 (digit (n % 10)) ds))

-- ---- digits and nothing else

all_append : (xs ys : List ℕ) → all_digits (xs ++ ys) ≡ (all_digits xs && all_digits ys)
unfolding all_digits
all_append [] ys = refl
all_append (x ∷ xs) ys = simp (all_append xs ys, and_assoc)

pub decimal-digits : (n : ℕ) → all_digits (decimal n) ≡ true
unfolding all_digits
decimal-digits = decimal_by (λ n ds. all_digits ds ≡ true)
    (λ n h. simp (le-leb 48 (digit n) (omega arith), le-leb (digit n) 57 (omega arith)))
    (λ n ds h is. simp (all_append, is, le-leb 48 (digit (n % 10)) (omega arith), le-leb (digit (n % 10)) 57 (omega arith)))

-- ---- at least one digit, and a leading zero only for 0

pub decimal_some : (n : ℕ) → 0 < length (decimal n)
decimal_some = decimal_by (λ n ds. 0 < length ds) (λ n h. omega arith) (λ n ds h is. simp length-append (omega arith))

pub decimal_leads : (n : ℕ) → get_or (decimal n) 0 0 ≡ 48 → n ≡ 0
decimal_leads n e = (decimal_by (λ n ds. (0 < length ds) × (get_or ds 0 0 ≡ 48 → n ≡ 0))
    (λ n h. (omega arith, (λ e. omega arith)))
    (λ n ds h is. (simp length-append (omega arith), (λ e. let z = is.1 (sym (get_or-append ds _ 0 0 is.0) ∙ e) in omega arith))) n).1 e

-- ---- a number below 10 ^ (k + 1) has at most k + 1 digits

pub decimal_short : (k n : ℕ) → n < 10 ^ suc k → length (decimal n) ≤ suc k
decimal_short zero n h = rw (decimal_one n h) (omega arith)
decimal_short (suc k) n h = go (ltb n 10) refl (decimal_short k (n / 10))
  where
    go : (b : Bool) → ltb n 10 ≡ b → (n / 10 < 10 ^ suc k → length (decimal (n / 10)) ≤ suc k) → length (decimal n) ≤ suc (suc k)
    go true e ih = rw (decimal_one n (ltb-true n 10 e)) (omega arith)
    go false e ih =
        let shorter = ih (omega (arith, pow-suc 10 (suc k))) in
        simp (decimal_more n (ltb-false n 10 e), length-append) (omega arith)

-- and one from 10 ^ k on has at least k + 1 of them

ten_some : (k : ℕ) → 1 ≤ 10 ^ k
ten_some zero = omega arith
ten_some (suc k) = omega (arith, pow-suc 10 k, ten_some k)

pub decimal_long : (k n : ℕ) → 10 ^ k ≤ n → suc k ≤ length (decimal n)
decimal_long zero n h = decimal_some n
decimal_long (suc k) n h =
    let some : 1 ≤ 10 ^ k = ten_some k in
    let more : 10 ≤ n = omega (arith, pow-suc 10 k) in
    let shorter : suc k ≤ length (decimal (n / 10)) = decimal_long k (n / 10) (omega (arith, pow-suc 10 k)) in
    omega (arith, decimal_length n more)

pub decimal_sized : (k n : ℕ) → 10 ^ k ≤ n → n < 10 * 10 ^ k → length (decimal n) ≡ k + 1
decimal_sized k n low high = omega (arith, decimal_long k n low, decimal_short k n (omega (arith, pow-suc 10 k)))

-- ---- every list of digits with no leading zero is the decimal notation of what it stands for

first_digit : (b : ℕ) (bs : List ℕ) → all_digits (b ∷ bs) ≡ true → (48 ≤ b) × (b ≤ 57) × (all_digits bs ≡ true)
unfolding all_digits
first_digit b bs h =
    let rest = (and-eq-true_iff (leb 48 b && leb b 57) (all_digits bs)).0 h in
    let range = (and-eq-true_iff (leb 48 b) (leb b 57)).0 rest.0 in
    (leb-true 48 b range.0, leb-true b 57 range.1, rest.1)

-- more digits after those of a number above 0
decimal_longer : (n : ℕ) (bs : List ℕ) → 0 < n → all_digits bs ≡ true → decimal (value_after n bs) ≡ decimal n ++ bs
unfolding value_after
decimal_longer n [] h all = sym (append-nil (decimal n))
decimal_longer n (b ∷ bs) h all =
    let d = first_digit b bs all in
    let m = n * 10 + (b - 48) in
    let front : m / 10 ≡ n = omega arith in
    let last : digit (m % 10) ≡ b = omega arith in
    decimal_longer m bs (omega arith) d.2
    ∙ ap (λ (ds : List ℕ). ds ++ bs) (decimal_more m (omega arith) ∙ ap₂ (λ (k c : ℕ). decimal k ++ (c ∷ [])) front last)
    ∙ append_snoc (decimal n) b bs

-- one digit alone
decimal_byte : (b : ℕ) → 48 ≤ b → b ≤ 57 → decimal (0 * 10 + (b - 48)) ≡ b ∷ []
decimal_byte b l h =
    let same : digit (0 * 10 + (b - 48)) ≡ b = omega arith in
    decimal_one (0 * 10 + (b - 48)) (omega arith) ∙ ap (λ (c : ℕ). c ∷ []) same

pub decimal_only : (bs : List ℕ) → all_digits bs ≡ true → 0 < length bs → (get_or bs 0 0 ≡ 48 → length bs ≡ 1) → decimal (value bs) ≡ bs
unfolding value value_after
decimal_only [] all some lead = absurd (omega arith)
decimal_only (b ∷ []) all some lead = let d = first_digit b [] all in decimal_byte b d.0 d.1
decimal_only (b ∷ c ∷ bs) all some lead =
    let d = first_digit b (c ∷ bs) all in
    let above : b ≢ 48 = λ e. let z = lead e in omega arith in
    decimal_longer (0 * 10 + (b - 48)) (c ∷ bs) (omega arith) d.2
    ∙ ap (λ (ds : List ℕ). ds ++ (c ∷ bs)) (decimal_byte b d.0 d.1)
