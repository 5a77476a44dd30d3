-- A loop over an array behind a reference, of which the first `count` are in use: how long the array is, is known once a turn has looked into it.
-- Over any element type and any result. Assumes nothing.
use mathlib.Core.Path.{◌≡◌, refl, ap, ◌∙◌}
use mathlib.Core.Bool.{Bool}
use mathlib.Core.List.{List, []}
use lib.Dec.{eqb}
use Prim.Native.Nat.{ℕ, zero, suc, ◌+◌, ◌≤◌, ◌<◌, min, zero-le}
use native.Mathlib.Omega.{arith}
use lib.ListN.{length, take}
use Rattle.voice.specs.declared.Voice.{Voice}
use Rattle.walks.proofs.Lists.Loops.{Walk, begins, ends, take_most}

-- the elements in use, where as many have been looked at
pub take_seen : {A : Type 0} (l : List A) (count size i : ℕ) → 0 < size → i ≡ min count size → (0 < i → length l ≡ size) → take i l ≡ take count l
take_seen l count size zero some e long =
    let none : count ≡ 0 = omega (arith, some, e) in
    let same : 0 ≡ count = omega (arith, none) in
    ap (λ (k : ℕ). take k l) same
take_seen l count size (suc i) some e long = ap (λ (k : ℕ). take k l) e ∙ take_most l count size (long (omega arith))

module _ {A R : Type 0} where
  -- up to i they have been looked at, and what is left tells what all tell
  pub record Seen (go : List A → R) (l : List A) (count size i : ℕ) : Type 0 where
    pub upto : i ≤ min count size
    pub long : 0 < i → length l ≡ size
    pub walk : length l ≡ size → Walk (go (take count l)) go l (min count size) i

  pub seen_none : (go : List A → R) (l : List A) (count size : ℕ) → Seen go l count size 0
  seen_none go l count size = record {
    upto = zero-le;
    long = λ h. absurd (omega (arith, h));
    walk = λ all. begins go l count (min count size) size all refl;
  }

  -- one more has been
  pub seen_next : {go : List A → R} {l : List A} {count size i : ℕ} → i < min count size → length l ≡ size → Walk (go (take count l)) go l (min count size) (i + 1) → Seen go l count size (i + 1)
  seen_next lt all w = record { upto = omega (arith, lt); long = λ h. all; walk = λ a. w }

  pub seen_all : {go : List A → R} {l : List A} {count size i : ℕ} → 0 < size → Seen go l count size i → min count size ≤ i → go [] ≡ go (take count l)
  seen_all {go} {l} {count} {size} {i} some s end = go_on i refl
    where
      go_on : (j : ℕ) → i ≡ j → go [] ≡ go (take count l)
      go_on zero e =
          let none : count ≡ 0 = omega (arith, some, end, e) in
          let same : 0 ≡ count = omega (arith, none) in
          ap (λ (k : ℕ). go (take k l)) same
      go_on (suc j) e = ends (s.walk (s.long (omega (arith, e)))) end

-- a voice has the phrase of number k
abbrev pub has : ℕ → Voice → Bool
has k v = eqb v.phrase k
