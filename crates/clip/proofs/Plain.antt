-- True positions (request 8/12): a clip in loop mode, at speed 1, with shift 0 and with whole start, length and data length, sounds the sample (start + elapsed mod length) mod data length,
-- up to an elapsed count of 2 ^ 24. There all that the position is worked out by is exact. Assumes nothing.
use mathlib.Core.Path.{◌≡◌, sym, ap, ◌∙◌, subst}
use Prim.Native.Nat.{ℕ, ◌+◌, ◌-◌, ◌%◌, ◌^◌, ◌≤◌, zero-le}
use native.Mathlib.Nat.{le_trans, mod-lt, mod-le, mul-mod_left, mul-one, add-zero, zero-add}
use native.Mathlib.Omega.{arith}
use mathlib.Core.Bool.{Bool, true, ◌&&◌, cond}
use lib.Dec.{T, leb, leb→le, le→leb, lit≤}
use lib.Ieee.{Float, binary32, add, sub, mul, rem, le, eq}
use lib.Ieee.Fits.{and_i, and_l, and_r}
use lib.Ieee.Bits.{is_true}
use Rattle.binary32.specs.Leaves.{zero32, one32, as_float, as_whole, min_of}
use Rattle.binary32.specs.Wholes.{Is, is_whole_in}
use Rattle.binary32.proofs.Truth.{yes}
use Rattle.binary32.proofs.Floors.{floor_cast}
use Rattle.binary32.proofs.Parts.{whole_rest}
use Rattle.binary32.proofs.Wholes.{is_units, float_is, zero_is, one_is, add_is, sub_is, mul_is, rem_is, lt_is, le_is, min_is, equal_is, is_equal, cast_is, WholeIn, whole_in, in_whole}
use Rattle.clip.specs.Positions.{elapsed_at, lead_of, travel_at, looped_of, wrapped_of, placed_of, clip_offset_at, clip_to_data_of, offset_at, position_of, position_at, index_at}
use Rattle.clip.specs.Updates.{same_mode}
use Rattle.clip.specs.Plain.{PlainClip, plain_index, is_plain, plain_at}
use Rattle.clip.specs.declared.Mode.{Mode}
use Rattle.clip.specs.declared.Mode.TheVariants.{Loop}
use Rattle.clip.specs.declared.Clip.{Clip}
use Rattle.clip.proofs.Offsets.{offset_fits}
use Rattle.clip.proofs.Equal.{same_modes}

-- a speed of 1 has no lead
lead_none : (speed : Float) → Is speed 1 → lead_of speed ≡ zero32
unfolding lead_of
lead_none speed h = ap (λ (b : Bool). cond b one32 zero32) (lt_is 1 0 h zero_is (lit≤ tt) zero-le)

-- a whole number not below zero goes through the loop's rule as its remainder
looped_is : {x l : Float} (e n : ℕ) → Is x e → Is l n → e ≤ 2 ^ 24 → n ≤ 2 ^ 24 → 1 ≤ n → Is (looped_of x l) (e % n)
unfolding looped_of
looped_is {x} {l} e n p q h k N =
    let y = rem binary32 x l in
    let r : Is y (e % n) = rem_is e n p q h k N in
    subst (λ (b : Bool). Is (cond b y (add binary32 y l)) (e % n)) (sym (is_true (le zero32 y) (le_is 0 (e % n) zero_is r zero-le (le_trans (mod-le e n) h) zero-le))) r

module _ (c : Clip) (now start length total : ℕ) (P : PlainClip c start length total) (H : elapsed_at c now ≤ 2 ^ 24) where
  abbrev e : ℕ
  e = elapsed_at c now

  -- shift + (elapsed + 0) * 1
  travel_is : Is (travel_at c now) e
  unfolding travel_at
  travel_is =
      let y = add binary32 (as_float e) zero32 in
      let u : Is y e = subst (Is y) (add-zero e) (add_is e 0 (float_is e H) zero_is (omega (arith, H))) in
      let v : Is (mul binary32 y c.speed) e = subst (Is (mul binary32 y c.speed)) (mul-one e) (mul_is e 1 u P.speed H (lit≤ tt) (omega (arith, H))) in
      let w : Is (add binary32 c.shift (mul binary32 y c.speed)) e = subst (Is (add binary32 c.shift (mul binary32 y c.speed))) (zero-add e) (add_is 0 e P.shift v (omega (arith, H))) in
      subst (λ (r : Float). Is (add binary32 c.shift (mul binary32 (add binary32 (as_float e) r) c.speed)) e) (sym (lead_none c.speed P.speed)) w

  length_small : length ≤ 2 ^ 24
  length_small = le_trans P.length_top (lit≤ tt)

  -- the clamp at length - 1 takes nothing
  place_is : Is (clip_offset_at c now) (e % length)
  unfolding clip_offset_at placed_of wrapped_of
  place_is =
      let x = travel_at c now in
      let l = c.length in
      let r : Is (looped_of x l) (e % length) = looped_is e length travel_is P.length_is H length_small P.length_low in
      let last : Is (sub binary32 l one32) (length - 1) = sub_is length 1 P.length_is one_is P.length_low length_small in
      subst (λ (m : Mode). Is (min_of (wrapped_of m x l) (sub binary32 l one32)) (e % length)) (sym P.loops)
      (subst (λ (z : Float). Is z (e % length)) (sym (min_is (e % length) (length - 1) r last (omega (arith, mod-lt e P.length_low)) (omega (arith, length_small)))) r)

  pub offset_is : Is (offset_at c now) (plain_index start length total e)
  unfolding offset_at clip_to_data_of
  offset_is =
      rem_is (start + e % length) total (add_is start (e % length) P.start_is place_is small) P.total-is small (le_trans P.total_top (lit≤ tt)) P.total_low
    where
      small : start + e % length ≤ 2 ^ 24
      small = omega (arith, P.start_top, P.length_top, mod-lt e P.length_low)

  index_small : plain_index start length total e ≤ 2 ^ 24
  index_small = omega (arith, mod-lt (start + e % length) P.total_low, P.total_top)

  pub index_is : index_at c now ≡ plain_index start length total e
  unfolding index_at
  index_is =
      floor_cast 64 (offset_at c now) (offset_fits c now)
      ∙ cast_is (plain_index start length total e) index_small offset_is

  pub fraction_is : (position_at c now).fraction ≡ zero32
  unfolding position_of
  fraction_is = whole_rest (offset_fits c now) (is_units (plain_index start length total e) index_small offset_is) (mul-mod_left (plain_index start length total e) (2 ^ 149))

-- ---- the test
-- what it says of a clip
pub record Tested (c : Clip) : Type 0 where
  pub plain : PlainClip c (as_whole 64 c.start) (as_whole 64 c.length) (as_whole 64 c.data_length)
  pub start_inside : as_whole 64 c.start ≤ as_whole 64 c.data_length

pub tested : (c : Clip) → is_plain c ≡ true → Tested c
unfolding is_plain
tested c h =
    let a : Bool = same_mode c.mode Loop in
    let b : Bool = eq c.shift zero32 in
    let d : Bool = eq c.speed one32 in
    let s : Bool = is_whole_in 0 (2 ^ 22) c.start in
    let l : Bool = is_whole_in 1 (2 ^ 22) c.length in
    let t : Bool = is_whole_in 1 (2 ^ 22) c.data_length in
    let i : Bool = leb (as_whole 64 c.start) (as_whole 64 c.data_length) in
    let h₁ = yes h in
    let h₂ = and_r a (b && (d && (s && (l && (t && i))))) h₁ in
    let h₃ = and_r b (d && (s && (l && (t && i)))) h₂ in
    let h₄ = and_r d (s && (l && (t && i))) h₃ in
    let h₅ = and_r s (l && (t && i)) h₄ in
    let h₆ = and_r l (t && i) h₅ in
    let start : WholeIn 0 (2 ^ 22) c.start = whole_in 0 (2 ^ 22) c.start (and_l s (l && (t && i)) h₄) in
    let length : WholeIn 1 (2 ^ 22) c.length = whole_in 1 (2 ^ 22) c.length (and_l l (t && i) h₅) in
    let total : WholeIn 1 (2 ^ 22) c.data_length = whole_in 1 (2 ^ 22) c.data_length (and_l t i h₆) in
    record {
      plain = record {
        loops = same_modes c.mode Loop (and_l a (b && (d && (s && (l && (t && i))))) h₁);
        shift = equal_is 0 zero_is zero-le (and_l b (d && (s && (l && (t && i)))) h₂);
        speed = equal_is 1 one_is (lit≤ tt) (and_l d (s && (l && (t && i))) h₃);
        start_is = start.is;
        length_is = length.is;
        total-is = total.is;
        start_top = start.top;
        length_low = length.low;
        length_top = length.top;
        total_low = total.low;
        total_top = total.top;
      };
      start_inside = leb→le _ _ (and_r t i h₆);
    }

-- and that every such clip passes it
pub passes : (c : Clip) (start length total : ℕ) → PlainClip c start length total → start ≤ total → is_plain c ≡ true
unfolding is_plain
passes c start length total P h =
    let a : Bool = same_mode c.mode Loop in
    let b : Bool = eq c.shift zero32 in
    let d : Bool = eq c.speed one32 in
    let s : Bool = is_whole_in 0 (2 ^ 22) c.start in
    let l : Bool = is_whole_in 1 (2 ^ 22) c.length in
    let t : Bool = is_whole_in 1 (2 ^ 22) c.data_length in
    let i : Bool = leb (as_whole 64 c.start) (as_whole 64 c.data_length) in
    let m : as_whole 64 c.start ≡ start = cast_is start (le_trans P.start_top (lit≤ tt)) P.start_is in
    let n : as_whole 64 c.data_length ≡ total = cast_is total (le_trans P.total_top (lit≤ tt)) P.total-is in
    let inside : T i = le→leb (as_whole 64 c.start) (as_whole 64 c.data_length) (rw (m, n) h) in
    is_true (a && (b && (d && (s && (l && (t && i))))))
    (and_i a _ (subst (λ (m : Mode). T (same_mode m Loop)) (sym P.loops) tt)
    (and_i b _ (is_equal 0 P.shift zero_is zero-le)
    (and_i d _ (is_equal 1 P.speed one_is (lit≤ tt))
    (and_i s _ (in_whole 0 (2 ^ 22) start P.start_is zero-le P.start_top (lit≤ tt))
    (and_i l _ (in_whole 1 (2 ^ 22) length P.length_is P.length_low P.length_top (lit≤ tt))
    (and_i t i (in_whole 1 (2 ^ 22) total P.total-is P.total_low P.total_top (lit≤ tt)) inside))))))

-- ---- the request's own words: its premises are tested by `plain_at`
pub at_plain : (c : Clip) (now : ℕ) → plain_at c now ≡ true → (is_plain c ≡ true) × (elapsed_at c now ≤ 2 ^ 24)
unfolding plain_at
at_plain c now h =
    let a : Bool = is_plain c in
    let b : Bool = leb (elapsed_at c now) (2 ^ 24) in
    (is_true a (and_l a b (yes h)), leb→le (elapsed_at c now) (2 ^ 24) (and_r a b (yes h)))

pub true_index : (c : Clip) (now : ℕ) → plain_at c now ≡ true
    → index_at c now ≡ plain_index (as_whole 64 c.start) (as_whole 64 c.length) (as_whole 64 c.data_length) (elapsed_at c now)
true_index c now h =
    let k = at_plain c now h in
    index_is c now (as_whole 64 c.start) (as_whole 64 c.length) (as_whole 64 c.data_length) (tested c k.0).plain k.1

-- and between its sample and the next one it never is
pub true_fraction : (c : Clip) (now : ℕ) → plain_at c now ≡ true → (position_at c now).fraction ≡ zero32
true_fraction c now h =
    let k = at_plain c now h in
    fraction_is c now (as_whole 64 c.start) (as_whole 64 c.length) (as_whole 64 c.data_length) (tested c k.0).plain k.1
