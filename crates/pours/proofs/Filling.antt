-- Lists filled value by value, and what is fetched one by one. Assumes nothing.
--     filled       one more value is as it should be
--     nothing      before the first is fetched
--     one_more     what one more comes to, and what is left
--     played_next  one more sum of what is played
--     below_more   and that it stays below the whole length
use mathlib.Core.Path.{◌≡◌, refl, sym, ap, ◌∙◌, subst}
use Prim.Native.Nat.{ℕ, suc, ◌+◌, ◌≤◌, ◌<◌}
use native.Mathlib.Nat.{ne_of_lt, ne_of_gt}
use native.Mathlib.Omega.{arith}
use mathlib.Core.Bool.{Bool, true, false, ◌||◌, true≢false}
use mathlib.Core.List.{List}
use lib.Dec.{ltb}
use lib.Ieee.{Float, binary32, add, le}
use lib.ListN.{length, get_or, set, length-set}
use lib.Seq.{get_or-set_same, get_or-set_other}
use borrow.Author.Tests.{ltb-true, ltb-false}
use Rattle.binary32.specs.Leaves.{abs_of}
use Rattle.pours.specs.declared.Fetched.{Fetched}
use Rattle.pours.specs.Steady.{played_on, PlaysBelow, Fetches}

pub filled : (P : ℕ → ℕ → Type 0) (k : ℕ) (values : List ℕ) (x : ℕ) → k < length values → P k x → ((j : ℕ) → j < k → P j (get_or values j 0)) → (j : ℕ) → j < k + 1 → P j (get_or (set values k x) j 0)
filled P k values x room is before j below = go (ltb j k) refl
  where
    go : (b : Bool) → ltb j k ≡ b → P j (get_or (set values k x) j 0)
    go true e = let h = ltb-true j k e in subst (P j) (sym (get_or-set_other values k j x 0 (ne_of_lt h))) (before j h)
    go false e = let last : j ≡ k = omega (arith, below, ltb-false j k e) in rw last (subst (P k) (sym (get_or-set_same values k x 0 room)) is)

pub played_next : (by played : Float) (k : ℕ) (sum : Float) → sum ≡ played_on by played k → add binary32 sum by ≡ played_on by played (k + 1)
unfolding played_on
played_next by played k sum is = let next : suc k ≡ k + 1 = omega arith in ap (λ (z : Float). add binary32 z by) is ∙ ap (played_on by played) next

module _ (m : List ℕ) (played by : Float) (before : List ℕ) where
  pub nothing : Fetches m played by 0 before before (record { index = 0; played = played })
  unfolding played_on
  nothing = record { size = refl; values = λ k h. absurd (omega (arith, h)); index = λ k h. absurd (omega (arith, h)); far = refl }

  module _ (k : ℕ) (values : List ℕ) (r : Fetched) (f : Fetches m played by k before values r) (room : k < length before) (rest : (j : ℕ) → k ≤ j → get_or values j 0 ≡ get_or before j 0) where
    pub one_more : (index : ℕ) (x : ℕ) → index ≡ get_or values k 0 → x ≡ get_or m index 0
        → Fetches m played by (k + 1) before (set values k x) (record { index = index; played = add binary32 r.played by })
    one_more index x index_is x-is =
        let here : index ≡ get_or before k 0 = index_is ∙ rest k (omega arith) in
        record {
          size = length-set values k x ∙ f.size;
          values = filled (λ (j : ℕ) (y : ℕ). y ≡ get_or m (get_or before j 0) 0) k values x (omega (arith, room, f.size)) (x-is ∙ ap (λ (i : ℕ). get_or m i 0) here) f.values;
          index = λ j h. here ∙ ap (λ (i : ℕ). get_or before i 0) (omega (arith, h));
          far = played_next by played k r.played f.far;
        }

    pub left : (x : ℕ) (j : ℕ) → k + 1 ≤ j → get_or (set values k x) j 0 ≡ get_or before j 0
    left x j h = get_or-set_other values k j x 0 (ne_of_gt (omega (arith, h))) ∙ rest j (omega (arith, h))

-- ---- sums of what is played
or-false : (a b : Bool) → (a || b) ≡ false → (a ≡ false) × (b ≡ false)
or-false false b h = (refl, h)
or-false true b h = absurd (true≢false h)

pub below_more : (played by whole : Float) (k : ℕ) (sum size : Float) (over : Bool) → sum ≡ played_on by played k → size ≡ abs_of (add binary32 sum by) → (over ≡ false → PlaysBelow played by whole k) → (over || le whole size) ≡ false
    → PlaysBelow played by whole (k + 1)
below_more played by whole k sum size over is size_is before clear j below = go (ltb j k) refl
  where
    both : (over ≡ false) × (le whole size ≡ false)
    both = or-false over (le whole size) clear

    last : le whole (abs_of (played_on by played (suc k))) ≡ false
    last =
        let next : k + 1 ≡ suc k = omega arith in
        sym (ap (λ (z : Float). le whole z) (size_is ∙ ap abs_of (played_next by played k sum is ∙ ap (played_on by played) next))) ∙ both.1

    go : (b : Bool) → ltb j k ≡ b → le whole (abs_of (played_on by played (suc j))) ≡ false
    go true e = before both.0 j (ltb-true j k e)
    go false e = let at : j ≡ k = omega (arith, below, ltb-false j k e) in rw at last
