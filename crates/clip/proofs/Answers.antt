-- When the calls under the Rust's names refuse a clip, and that the Rust's own checks within them never fail on a good clip: its assert in `data_to_clip` holds in each update,
-- and `update_speed` and `update_mode` always find the old offset, so that the panic of `update_speed` can't be met. Its assert in `clip_offset` is `clip_offset_inside`.
-- Assumes nothing.
use mathlib.Core.Path.{◌≡◌, ap, ◌∙◌}
use Prim.Native.Nat.{ℕ, ◌^◌, ◌≤◌}
use mathlib.Core.Bool.{Bool, true, false, not, ◌&&◌, cond, true≢false}
use lib.Dec.{T, leb, leb→le, le→leb}
use lib.Ieee.{Float, lt, le}
use lib.Ieee.Fits.{and_i, and_l, and_r}
use lib.Ieee.Bits.{is_true}
use Rattle.binary32.specs.Leaves.{zero32}
use Rattle.clip.specs.Positions.{clip_offset_at, offset_at}
use Rattle.clip.specs.Updates.{at_speed, at_mode, at_length, back_of, found_at}
use Rattle.clip.specs.Refusals.{good_length, good_clip, clip_refused_at, data_to_clip_of}
use Rattle.clip.specs.Bounds.{Sound, Within}
use Rattle.clip.specs.declared.Mode.{Mode}
use Rattle.clip.specs.declared.Clip.{Clip}
use Rattle.std.specs.Prelude.{Some, Ok, Err}
use Rattle.refusals.specs.declared.Refusal.TheVariants.{BadArgument}
use Rattle.clip.proofs.Offsets.{clip_offset_fits, clip_offset_inside, offset_within}
use Rattle.clip.proofs.WayBack.{never_missing}
use Rattle.clip.proofs.Kept.{at_length_good}

-- ---- refused exactly where document 01 says
pub answers : (c : Clip) (now : ℕ) → T (good_clip c) → c.since ≤ now → now ≤ 2 ^ 48 → clip_refused_at c now ≡ false
unfolding clip_refused_at
answers c now g a b =
    let p : Bool = good_clip c in
    let q : Bool = leb c.since now in
    let r : Bool = leb now (2 ^ 48) in
    ap not (is_true (p && q && r) (and_i (p && q) r (and_i p q g (le→leb c.since now a)) (le→leb now (2 ^ 48) b)))

pub answered : (c : Clip) (now : ℕ) → clip_refused_at c now ≡ false → T (good_clip c) × (c.since ≤ now) × (now ≤ 2 ^ 48)
unfolding clip_refused_at
answered c now h =
    let p : Bool = good_clip c in
    let q : Bool = leb c.since now in
    let r : Bool = leb now (2 ^ 48) in
    let t : T (p && q && r) = passed (p && q && r) h in
    (and_l p q (and_l (p && q) r t), leb→le c.since now (and_r p q (and_l (p && q) r t)), leb→le now (2 ^ 48) (and_r (p && q) r t))
  where
    passed : (b : Bool) → not b ≡ false → T b
    passed true e = tt
    passed false e = absurd (true≢false e)

-- ---- the old offset asked for in an update
pub asked : (c : Clip) (x : Float) → T (good_clip c) → Within x c.data_length → data_to_clip_of c x ≡ Ok (found_at c x)
unfolding data_to_clip_of
asked c x g w =
    let a : Bool = le zero32 x in
    let b : Bool = lt x c.data_length in
    ap (λ (t : Bool). cond t (Ok (found_at c x)) (Err BadArgument)) (is_true (good_clip c && (a && b)) (and_i (good_clip c) (a && b) g (and_i a b w.low w.high)))

module _ (c : Clip) (now : ℕ) (h : Sound c) where
  pub offset_found : found_at c (offset_at c now) ≡ Some (back_of c (offset_at c now))
  unfolding offset_at
  offset_found = never_missing c h (clip_offset_at c now) (clip_offset_fits c now) (clip_offset_inside c now h)

  pub speed_found : (speed : Float) → data_to_clip_of (at_speed c speed) (offset_at c now) ≡ Ok (Some (back_of c (offset_at c now)))
  unfolding good_clip found_at back_of
  speed_found speed = asked (at_speed c speed) (offset_at c now) h.good (offset_within c now h) ∙ ap Ok offset_found

  pub mode_found : (mode : Mode) → data_to_clip_of (at_mode c mode) (offset_at c now) ≡ Ok (Some (back_of c (offset_at c now)))
  unfolding good_clip found_at back_of
  mode_found mode = asked (at_mode c mode) (offset_at c now) h.good (offset_within c now h) ∙ ap Ok offset_found

  pub length_asked : (length : Float) → T (good_length length) → data_to_clip_of (at_length c length) (offset_at c now) ≡ Ok (found_at (at_length c length) (offset_at c now))
  length_asked length l = asked (at_length c length) (offset_at c now) (at_length_good c length l h.good) (offset_within c now h)
