-- Three tests of the lower and the higher of two lengths and a start are the six of `good_clip`, NaNs included. Assumes nothing.
use mathlib.Core.Path.{◌≡◌}
use mathlib.Core.Bool.{Bool, not, ◌&&◌, cond}
use lib.Dec.{T}
use lib.Ieee.{Float, lt, le, is_nan}
use lib.Ieee.Fits.{and_i, and_l, and_r}
use Rattle.binary32.specs.Leaves.{zero32, one32}
use Rattle.binary32.proofs.Truth.{same_test, cond_split}
use Rattle.binary32.proofs.Between.{lt→le, lt_not_nan, le_not_nan, le_le_trans, total}
use Rattle.clip.specs.Refusals.{most32, good_length, good_clip}
use Rattle.clip.specs.declared.Clip.{Clip}
use Rattle.clip.proofs.Lengths.{good_parts, parts_good}

module _ (a b : Float) where
  abbrev lower : Float
  lower = cond (lt b a) b a

  abbrev higher : Float
  higher = cond (lt b a) a b

  -- ---- what bounds the picked one bounds both, unless the other is a NaN
  lower_no_nan : (z : Float) → T (le z lower) → T (not (is_nan a))
  lower_no_nan z = cond_split (λ (x : Float). T (le z x) → T (not (is_nan a))) (lt b a) b a (λ t h. (lt_not_nan b a t).1) (λ t h. (le_not_nan z a h).1)

  above_lower : (z : Float) → T (not (is_nan b)) → T (le z lower) → T (le z a) × T (le z b)
  above_lower z q =
      cond_split (λ (x : Float). T (le z x) → T (le z a) × T (le z b)) (lt b a) b a (λ t h. (le_le_trans z b a h (lt→le b a t), h))
      (λ t h. (h, le_le_trans z a b h (total a b (le_not_nan z a h).1 q t)))

  below_higher : (z : Float) → T (not (is_nan a)) → T (le higher z) → T (le a z) × T (le b z)
  below_higher z p =
      cond_split (λ (x : Float). T (le x z) → T (le a z) × T (le b z)) (lt b a) a b (λ t h. (h, le_le_trans b a z (lt→le b a t) h))
      (λ t h. (le_le_trans a b z (total a b p (le_not_nan b z h).0 t) h, h))

  -- ---- and what bounds both bounds the picked one
  lower_above : (z : Float) → T (le z a) → T (le z b) → T (le z lower)
  lower_above z h k = cond_split (λ (x : Float). T (le z x)) (lt b a) b a (λ t. k) (λ t. h)

  higher_below : (z : Float) → T (le a z) → T (le b z) → T (le higher z)
  higher_below z h k = cond_split (λ (x : Float). T (le x z)) (lt b a) a b (λ t. h) (λ t. k)

-- ---- the tests of `Clip::good`
module _ (c : Clip) where
  abbrev least : Float
  least = lower c.length c.data_length

  abbrev most : Float
  most = higher c.length c.data_length

  abbrev top : Float
  top = higher c.start most

  abbrev three : Bool
  three = le one32 least && (le zero32 c.start && le top most32)

  there : T three → T (good_clip c)
  unfolding good_length
  there h =
      let low : T (le one32 least) = and_l (le one32 least) (le zero32 c.start && le top most32) h in
      let starts = and_r (le one32 least) (le zero32 c.start && le top most32) h in
      let from = and_l (le zero32 c.start) (le top most32) starts in
      let tops = below_higher c.start most most32 (le_not_nan zero32 c.start from).1 (and_r (le zero32 c.start) (le top most32) starts) in
      let ends = below_higher c.length c.data_length most32 (lower_no_nan c.length c.data_length one32 low) tops.1 in
      let begins = above_lower c.length c.data_length one32 (le_not_nan c.data_length most32 ends.1).0 low in
      parts_good c
      (record {
        length = and_i (le one32 c.length) (le c.length most32) begins.0 ends.0;
        data_length = and_i (le one32 c.data_length) (le c.data_length most32) begins.1 ends.1;
        start_low = from;
        start_top = tops.0;
      })

  back : T (good_clip c) → T three
  unfolding good_length
  back h =
      let g = good_parts c h in
      let ends = higher_below c.length c.data_length most32 (and_r (le one32 c.length) (le c.length most32) g.length) (and_r (le one32 c.data_length) (le c.data_length most32) g.data_length) in
      and_i (le one32 least) (le zero32 c.start && le top most32)
      (lower_above c.length c.data_length one32 (and_l (le one32 c.length) (le c.length most32) g.length) (and_l (le one32 c.data_length) (le c.data_length most32) g.data_length))
      (and_i (le zero32 c.start) (le top most32) g.start_low (higher_below c.start most most32 g.start_top ends))

  -- each as a call answers it
  pub three_tests : (l m t : Float) → l ≡ least → m ≡ most → t ≡ higher c.start m → (le one32 l && (le zero32 c.start && le t most32)) ≡ good_clip c
  three_tests l m t is_least is_most is_top = simp (is_top, is_most, is_least) (same_test three (good_clip c) there back)
