-- The one law that a loop over the front of a list goes by: what the rest of the walk gives, from the state now, is what the whole walk gives.
-- Over any element type and any result. Assumes nothing.
use mathlib.Core.Path.{◌≡◌, refl, sym, ap, ◌∙◌}
use mathlib.Core.List.{List, [], ◌∷◌, map}
use Prim.Native.Nat.{ℕ, zero, suc, ◌+◌, ◌≤◌, ◌<◌, min, zero-le}
use native.Mathlib.Nat.{le_trans, le_of_eq, le_of_lt}
use borrow.Author.Tests.{leb-true, leb-false}
use mathlib.Core.Bool.{Bool, true, false}
use lib.Dec.{leb}
use native.Mathlib.Omega.{arith}
use native.Mathlib.Numerals.{add-one}
use lib.ListN.{length, take, get_or, set, length-set, length-map}
use lib.Seq.{slice, slice-cons, slice_empty, take_all}

-- ---- a loop that counts i up to n over the list l: what is left to walk is `slice i n l`

-- an array's length, as owning it tells
pub long : {A B : Type 0} (f : A → B) (l : List A) (n : ℕ) → length (map f l) ≡ n → length l ≡ n
long f l n h = sym (length-map l f) ∙ h

module _ {A : Type 0} where
  -- a turn takes the first of what is left
  pub next : (l : List A) (i n : ℕ) (d : A) → i < n → n ≤ length l → slice i n l ≡ get_or l i d ∷ slice (i + 1) n l
  next l i n d h k = slice-cons i n l d h k ∙ ap (λ (j : ℕ). get_or l i d ∷ slice j n l) (sym (add-one i))

  -- a store at k, below j, leaves what stands from j on
  pub stored : (n : ℕ) (l : List A) (j k : ℕ) (a : A) → k < j → slice j n (set l k a) ≡ slice j n l
  stored zero l j k a h = refl
  stored (suc n) [] j k a h = refl
  stored (suc n) (x ∷ xs) zero k a h = absurd (omega arith)
  stored (suc n) (x ∷ xs) (suc j) zero a h = refl
  stored (suc n) (x ∷ xs) (suc j) (suc k) a h = stored n xs j k a (omega arith)

  module _ {R : Type 0} where
    -- The walk from i on, `go` of what is left, gives what the whole walk gives
    pub record Walk (goal : R) (go : List A → R) (l : List A) (n i : ℕ) : Type 0 where
      pub upto : i ≤ n
      pub within : n ≤ length l
      pub same : go (slice i n l) ≡ goal

    -- a turn, after which the rest of the walk is go'
    pub turns : {goal : R} {go go' : List A → R} {l : List A} {n i : ℕ} (d : A) → Walk goal go l n i → i < n
        → ((xs : List A) → go (get_or l i d ∷ xs) ≡ go' xs) → Walk goal go' l n (i + 1)
    turns {goal} {go} {go'} {l} {n} {i} d w h e = record {
      upto = omega arith;
      within = w.within;
      same = sym (e (slice (i + 1) n l)) ∙ sym (ap go (next l i n d h w.within)) ∙ w.same;
    }

    -- a turn that stores at k as well
    pub stores : {goal : R} {go go' : List A → R} {l : List A} {n i : ℕ} (d : A) (k : ℕ) (a : A) → Walk goal go l n i → i < n → k ≤ i
        → ((xs : List A) → go (get_or l i d ∷ xs) ≡ go' xs) → Walk goal go' (set l k a) n (i + 1)
    stores {goal} {go} {go'} {l} {n} {i} d k a w h b e =
        let v = turns {go' = go'} d w h e in
        record {
          upto = v.upto;
          within = omega (arith, length-set l k a);
          same = ap go' (stored n l (i + 1) k a (omega arith)) ∙ v.same;
        }

    -- the walk ends early
    pub stops : {goal : R} {go : List A → R} {r : R} {l : List A} {n i : ℕ} (d : A) → Walk goal go l n i → i < n
        → ((xs : List A) → go (get_or l i d ∷ xs) ≡ r) → r ≡ goal
    stops {go = go} {l = l} {n = n} {i = i} d w h e = sym (e (slice (i + 1) n l)) ∙ sym (ap go (next l i n d h w.within)) ∙ w.same

    -- the walk ends
    pub ends : {goal : R} {go : List A → R} {l : List A} {n i : ℕ} → Walk goal go l n i → n ≤ i → go [] ≡ goal
    ends {go = go} {l = l} {n = n} {i = i} w h =
        let e : i ≡ n = omega arith in
        sym (ap go (ap (λ (j : ℕ). slice j n l) e ∙ slice_empty n l)) ∙ w.same

-- ---- a loop over an array of which the first `count` are in use: it walks that many, and never more than the array has
pub take_most : {A : Type 0} (l : List A) (count size : ℕ) → length l ≡ size → take (min count size) l ≡ take count l
take_most l count size h = go (leb count size) refl
  where
    short : count ≤ size → min count size ≡ count
    short k = omega arith

    long : size ≤ count → min count size ≡ size
    long k = omega arith

    go : (b : Bool) → leb count size ≡ b → take (min count size) l ≡ take count l
    go true e = ap (λ (k : ℕ). take k l) (short (leb-true count size e))
    go false e =
        let k : size ≤ count = le_of_lt (leb-false count size e) in
        ap (λ (j : ℕ). take j l) (long k) ∙ take_all size l (le_of_eq h) ∙ sym (take_all count l (le_trans (le_of_eq h) k))

pub begins : {A R : Type 0} (go : List A → R) (l : List A) (count n size : ℕ) → length l ≡ size → n ≡ min count size → Walk (go (take count l)) go l n 0
begins go l count n size h e = record {
  upto = zero-le;
  within = omega arith;
  same = ap (λ (k : ℕ). go (take k l)) e ∙ ap go (take_most l count size h);
}

-- ---- within a list it does not matter what stands past its end
pub get_d_any : {A : Type 0} (l : List A) (i : ℕ) (d e : A) → i < length l → get_or l i d ≡ get_or l i e
get_d_any [] i d e h = absurd (omega arith)
get_d_any (x ∷ xs) zero d e h = refl
get_d_any (x ∷ xs) (suc i) d e h = get_d_any xs i d e (omega arith)
