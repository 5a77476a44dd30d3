-- Terms added to sums, part by part. Assumes nothing.
--     none, one     no term, and one more behind those added
--     restated, on  by other words for the terms, and one part behind another
use mathlib.Core.Path.{◌≡◌, refl, ap, ◌∙◌}
use Prim.Native.Nat.{ℕ, ◌+◌, ◌≤◌, ◌<◌}
use native.Mathlib.Nat.{ne_of_lt, ne_of_gt}
use native.Mathlib.Omega.{arith}
use mathlib.Core.Bool.{Bool, true, false}
use mathlib.Core.List.{List}
use lib.Dec.{ltb}
use lib.Ieee.{Float, nan, binary32, add}
use lib.ListN.{length, get_or, set, length-set}
use lib.Seq.{get_or-set_same, get_or-set_other}
use borrow.Author.Tests.{ltb-true, ltb-false}
use Rattle.pours.specs.Eases.{Added}

pub none : (term : ℕ → Float) (from : ℕ) (sums : List Float) → Added term from from sums sums
none term from sums = record { size = refl; inside = λ k low high. absurd (omega (arith, low, high)); low = λ k h. refl; high = λ k h. refl }

module _ {term : ℕ → Float} {from upto : ℕ} {x y : List Float} (a : Added term from upto x y) where
  pub one : (w : Float) → from ≤ upto → upto < length x → w ≡ add binary32 (get_or y upto nan) (term upto) → Added term from (upto + 1) x (set y upto w)
  one w some below is =
      let at : upto < length y = omega (arith, below, a.size) in
      record {
        size = length-set y upto w ∙ a.size;
        inside = λ k low high. go k low high (ltb k upto) refl at;
        low = λ k h. get_or-set_other y upto k w nan (ne_of_lt (omega (arith, h, some))) ∙ a.low k h;
        high = λ k h. get_or-set_other y upto k w nan (ne_of_gt (omega (arith, h))) ∙ a.high k (omega (arith, h));
      }
    where
      go : (k : ℕ) → from ≤ k → k < upto + 1 → (b : Bool) → ltb k upto ≡ b → upto < length y → get_or (set y upto w) k nan ≡ add binary32 (get_or x k nan) (term k)
      go k low high true e at = let h = ltb-true k upto e in get_or-set_other y upto k w nan (ne_of_lt h) ∙ a.inside k low h
      go k low high false e at =
          let last : k ≡ upto = omega (arith, high, ltb-false k upto e) in
          rw last (get_or-set_same y upto w nan at ∙ is ∙ ap (λ (z : Float). add binary32 z (term upto)) (a.high upto (omega arith)))

  pub restated : (other : ℕ → Float) → ((k : ℕ) → from ≤ k → k < upto → term k ≡ other k) → Added other from upto x y
  restated other same = record {
    size = a.size;
    inside = λ k low high. a.inside k low high ∙ ap (add binary32 (get_or x k nan)) (same k low high);
    low = a.low;
    high = a.high;
  }

  pub on : {end : ℕ} {z : List Float} → from ≤ upto → upto ≤ end → Added term upto end y z → Added term from end x z
  on {end} {z} some more b = record {
    size = b.size ∙ a.size;
    inside = λ k low high. go k low high (ltb k upto) refl;
    low = λ k h. b.low k (omega (arith, h, some)) ∙ a.low k h;
    high = λ k h. b.high k h ∙ a.high k (omega (arith, h, more));
  }
    where
      go : (k : ℕ) → from ≤ k → k < end → (t : Bool) → ltb k upto ≡ t → get_or z k nan ≡ add binary32 (get_or x k nan) (term k)
      go k low high true e = let h = ltb-true k upto e in b.low k h ∙ a.inside k low h
      go k low high false e =
          let h = ltb-false k upto e in
          b.inside k h high ∙ ap (λ (w : Float). add binary32 w (term k)) (a.high k h)
