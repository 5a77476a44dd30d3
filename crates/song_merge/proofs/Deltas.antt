-- A delta-time that is written is the quantity of its number, and no longer than any that spells as much. Assumes nothing.
use mathlib.Core.Path.{◌≡◌, subst}
use mathlib.Core.List.{List, [], ◌∷◌}
use Prim.Native.Nat.{ℕ, suc, ◌+◌, ◌/◌, ◌%◌, ◌^◌, ◌≤◌, ◌<◌}
use native.Mathlib.Omega.{arith}
use lib.Dec.{ltb}
use lib.ListN.{length, set}
use lib.Seq.{sets}
use borrow.Author.Tests.{ltb-true, ltb-false, lt-ltb, le-ltb}
use Rattle.smf.proofs.Inside.{both}
use Rattle.song_grammar.specs.Grammar.{Quantity}
use Rattle.song_grammar.specs.Grammar.Digits.{last, next}
use Rattle.song_grammar.proofs.Segments.{From}
use Rattle.song_grammar.proofs.Taken.{some_bytes}
use Rattle.song_grammar.proofs.Wholes.{Octets}
use Rattle.song_merge.specs.Written.{delta_bytes}

module _ (n : ℕ) where
  abbrev one : List ℕ
  one = n ∷ []

  abbrev two : List ℕ
  two = (128 + n / 128) ∷ (n % 128) ∷ []

  abbrev three : List ℕ
  three = (128 + n / 128 / 128) ∷ (128 + n / 128 % 128) ∷ (n % 128) ∷ []

  abbrev four : List ℕ
  four = (128 + n / 128 / 128 / 128) ∷ (128 + n / 128 / 128 % 128) ∷ (128 + n / 128 % 128) ∷ (n % 128) ∷ []

  by_size : (P : List ℕ → Type 0) → (n < 128 → P one) → (128 ≤ n → n < 16384 → P two) → (16384 ≤ n → n < 2097152 → P three) → (2097152 ≤ n → P four) → P (delta_bytes n)
  unfolding delta_bytes
  by_size P p₁ p₂ p₃ p₄ =
      both P (ltb n 128) _ _ (λ e. p₁ (ltb-true n 128 e))
      (λ e₁. both P (ltb n 16384) _ _ (λ e. p₂ (ltb-false n 128 e₁) (ltb-true n 16384 e))
      (λ e₂. both P (ltb n 2097152) _ _ (λ e. p₃ (ltb-false n 16384 e₂) (ltb-true n 2097152 e))
      (λ e₃. p₄ (ltb-false n 2097152 e₃))))

  pub quantity_of : n < 2 ^ 28 → Quantity (delta_bytes n) n
  quantity_of small =
      by_size (λ (l : List ℕ). Quantity l n)
      (λ h. subst (Quantity one) (omega arith) (last {v = 0} {b = n} h))
      (λ h k. subst (Quantity two) (omega arith) (next {v = 0} {b = 128 + n / 128} (omega arith) (last {b = n % 128} (omega arith))))
      (λ h k. subst (Quantity three) (omega arith) (next {v = 0} {b = 128 + n / 128 / 128} (omega arith) (next {b = 128 + n / 128 % 128} (omega arith) (last {b = n % 128} (omega arith)))))
      (λ h. subst (Quantity four) (omega arith) (next {v = 0} {b = 128 + n / 128 / 128 / 128} (omega arith) (next {b = 128 + n / 128 / 128 % 128} (omega arith) (next {b = 128 + n / 128 % 128} (omega arith) (last {b = n % 128} (omega arith))))))

  abbrev Long : ℕ → List ℕ → Type 0
  Long k l = length l ≤ k

  long_1 : n < 128 → Long 1 (delta_bytes n)
  long_1 s = by_size (Long 1) (λ h. omega arith) (λ h k. absurd (omega arith)) (λ h k. absurd (omega arith)) (λ h. absurd (omega arith))

  long_2 : n < 16384 → Long 2 (delta_bytes n)
  long_2 s = by_size (Long 2) (λ h. omega arith) (λ h k. omega arith) (λ h k. absurd (omega arith)) (λ h. absurd (omega arith))

  long_3 : n < 2097152 → Long 3 (delta_bytes n)
  long_3 s = by_size (Long 3) (λ h. omega arith) (λ h k. omega arith) (λ h k. omega arith) (λ h. absurd (omega arith))

  pub long_4 : Long 4 (delta_bytes n)
  long_4 = by_size (Long 4) (λ h. omega arith) (λ h k. omega arith) (λ h k. omega arith) (λ h. omega arith)

  pub some_delta : 1 ≤ length (delta_bytes n)
  some_delta = by_size (λ (l : List ℕ). 1 ≤ length l) (λ h. omega arith) (λ h k. omega arith) (λ h k. omega arith) (λ h. omega arith)

  -- ---- stored byte by byte
  module _ (l : List ℕ) (at : ℕ) where
    abbrev Stored : ℕ → List ℕ → Type 0
    Stored r out = (r ≡ at + length (delta_bytes n)) × (out ≡ sets l at (delta_bytes n))

    one_more : at + 1 ≡ suc at
    one_more = omega arith

    two_more : at + 2 ≡ suc (suc at)
    two_more = omega arith

    three_more : at + 3 ≡ suc (suc (suc at))
    three_more = omega arith

    pub stored_1 : n < 128 → Stored (at + 1) (set l at n)
    unfolding delta_bytes
    stored_1 h = (simp (lt-ltb _ _ h), simp (lt-ltb _ _ h))

    pub stored_2 : 128 ≤ n → n < 16384 → Stored (at + 2) (set (set l at (128 + n / 128)) (at + 1) (n % 128))
    unfolding delta_bytes
    stored_2 h k = (simp (le-ltb _ _ h, lt-ltb _ _ k), simp (le-ltb _ _ h, lt-ltb _ _ k, one_more))

    pub stored_3 : 16384 ≤ n → n < 2097152 → Stored (at + 3) (set (set (set l at (128 + n / 128 / 128)) (at + 1) (128 + n / 128 % 128)) (at + 2) (n % 128))
    unfolding delta_bytes
    stored_3 h k =
        let g : 128 ≤ n = omega arith in
        (simp (le-ltb _ _ g, le-ltb _ _ h, lt-ltb _ _ k), simp (le-ltb _ _ g, le-ltb _ _ h, lt-ltb _ _ k, one_more, two_more))

    pub stored_4 : 2097152 ≤ n → Stored (at + 4) (set (set (set (set l at (128 + n / 128 / 128 / 128)) (at + 1) (128 + n / 128 / 128 % 128)) (at + 2) (128 + n / 128 % 128)) (at + 3) (n % 128))
    unfolding delta_bytes
    stored_4 h =
        let g : 128 ≤ n = omega arith in
        let k : 16384 ≤ n = omega arith in
        (simp (le-ltb _ _ g, le-ltb _ _ k, le-ltb _ _ h), simp (le-ltb _ _ g, le-ltb _ _ k, le-ltb _ _ h, one_more, two_more, three_more))

-- a shorter wait takes no more bytes
pub shrinks : (m n : ℕ) → m ≤ n → length (delta_bytes m) ≤ length (delta_bytes n)
shrinks m n h =
    by_size n (λ (l : List ℕ). length (delta_bytes m) ≤ length l)
    (λ k. long_1 m (omega arith)) (λ _ k. long_2 m (omega arith)) (λ _ k. long_3 m (omega arith)) (λ k. long_4 m)

-- ---- one that stands in a list of bytes
module _ (f : List ℕ) (octets : Octets f) where
  pub digits_small : {bytes : List ℕ} {n : ℕ} → Quantity bytes n → (at mid : ℕ) → From f at bytes mid → n < 2 ^ 28
  digits_small (last h) at mid from = omega arith
  digits_small (next h (last k)) at mid from = omega (arith, octets at, from.0)
  digits_small (next h (next h' (last k))) at mid from = omega (arith, octets at, from.0, octets (at + 1), from.1.0)
  digits_small (next h (next h' (next h'' (last k)))) at mid from =
      omega (arith, octets at, from.0, octets (at + 1), from.1.0, octets (at + 1 + 1), from.1.1.0)

  -- no spelling of as much is shorter
  pub shortest : {bytes : List ℕ} {n : ℕ} → Quantity bytes n → (at mid : ℕ) → From f at bytes mid → (m : ℕ) → m ≤ n → length (delta_bytes m) ≤ length bytes
  shortest (last h) at mid from m k = long_1 m (omega arith)
  shortest (next h (last h')) at mid from m k = long_2 m (omega (arith, octets at, from.0))
  shortest (next h (next h' (last h''))) at mid from m k = long_3 m (omega (arith, octets at, from.0, octets (at + 1), from.1.0))
  shortest (next h (next h' (next h'' d))) at mid from m k = omega (arith, long_4 m, some_bytes [] 0 d)
