-- A clip stays good, and its floats stay in binary32, through each update with good values; a clip made with good values is good. Assumes nothing.
use Prim.Native.Nat.{ℕ, ◌≤◌}
use native.Mathlib.Nat.{le_refl}
use mathlib.Core.Bool.{Bool, true, false, cond}
use lib.Dec.{T}
use lib.Ieee.{Float, binary32, add, sub, lt, le, eq, fits}
use lib.Ieee.Fits.{cond-fits, sub-fits}
use Rattle.binary32.specs.Leaves.{zero32}
use Rattle.binary32.proofs.Truth.{cond_split}
use Rattle.binary32.proofs.Units.{zero-fits}
use Rattle.clip.specs.Positions.{mirrored_of, offset_at}
use Rattle.clip.specs.Updates.{made_of, at_speed, at_mode, at_length, at_data_length, resumed, back_of, found_at, reversing_at, shift_for, settled_of, same_mode, with_speed, with_mode, with_length, with_data_length}
use Rattle.clip.specs.Refusals.{most32, good_length, good_clip}
use Rattle.clip.specs.Bounds.{Sound}
use Rattle.clip.specs.declared.Mode.{Mode}
use Rattle.clip.specs.declared.Clip.{Clip}
use Rattle.std.specs.Prelude.{Option, Some, None}
use Rattle.clip.proofs.Lengths.{good_parts, parts_good}
use Rattle.clip.proofs.Bounds.{mirrored_fits}

-- ---- what moves a clip keeps it sound
resumed_sound : (c : Clip) (shift : Float) (now : ℕ) → T (fits binary32 shift) → Sound c → Sound (resumed c shift now)
unfolding good_clip
resumed_sound c shift now t h =
    let f = h.fitting in
    record { fitting = record { start = f.start; speed = f.speed; length = f.length; data_length = f.data_length; shift = t }; good = h.good }

back_fits : (c : Clip) (x : Float) → T (fits binary32 (back_of c x))
unfolding back_of
back_fits c x =
    let y = add binary32 x c.data_length in
    cond-fits binary32 (le c.start x) (sub binary32 x c.start) (sub binary32 y c.start) (sub-fits binary32 x c.start) (sub-fits binary32 y c.start)

pub shift_fits : (c : Clip) (x : Float) (now : ℕ) → T (fits binary32 (shift_for c (found_at c x) now))
unfolding found_at shift_for
shift_fits c x now =
    let y = back_of c x in
    cond_split (λ (z : Option Float). T (fits binary32 (shift_for c z now))) (lt y c.length) (Some y) None
    (λ t. cond-fits binary32 (reversing_at c now) (mirrored_of y c.length) y (mirrored_fits y c.length) (back_fits c x))
    (λ t. zero-fits binary32 false)

settled_sound : (c : Clip) (offset : Float) (now : ℕ) → Sound c → Sound (settled_of c offset now)
unfolding settled_of
settled_sound c offset now h = resumed_sound c (shift_for c (found_at c offset) now) now (shift_fits c offset now) h

-- ---- one field changed
at_speed_sound : (c : Clip) (speed : Float) → T (fits binary32 speed) → Sound c → Sound (at_speed c speed)
unfolding good_clip
at_speed_sound c speed t h =
    let f = h.fitting in
    record { fitting = record { start = f.start; speed = t; length = f.length; data_length = f.data_length; shift = f.shift }; good = h.good }

at_mode_sound : (c : Clip) (mode : Mode) → Sound c → Sound (at_mode c mode)
unfolding good_clip
at_mode_sound c mode h =
    let f = h.fitting in
    record { fitting = record { start = f.start; speed = f.speed; length = f.length; data_length = f.data_length; shift = f.shift }; good = h.good }

pub at_length_good : (c : Clip) (length : Float) → T (good_length length) → T (good_clip c) → T (good_clip (at_length c length))
at_length_good c length l h =
    let g = good_parts c h in
    parts_good (at_length c length) (record { length = l; data_length = g.data_length; start_low = g.start_low; start_top = g.start_top })

at_length_sound : (c : Clip) (length : Float) → T (fits binary32 length) → T (good_length length) → Sound c → Sound (at_length c length)
at_length_sound c length t l h =
    let f = h.fitting in
    record {
      fitting = record { start = f.start; speed = f.speed; length = t; data_length = f.data_length; shift = f.shift };
      good = at_length_good c length l h.good;
    }

at_data_length_sound : (c : Clip) (length : Float) → T (fits binary32 length) → T (good_length length) → Sound c → Sound (at_data_length c length)
at_data_length_sound c length t l h =
    let f = h.fitting in
    let g = good_parts c h.good in
    record {
      fitting = record { start = f.start; speed = f.speed; length = f.length; data_length = t; shift = f.shift };
      good = parts_good (at_data_length c length) (record { length = g.length; data_length = l; start_low = g.start_low; start_top = g.start_top });
    }

-- ---- the updates
pub with_speed_sound : (c : Clip) (now : ℕ) (speed : Float) → T (fits binary32 speed) → Sound c → Sound (with_speed c now speed)
unfolding with_speed
with_speed_sound c now speed t h =
    cond_split Sound (eq speed c.speed) c (settled_of (at_speed c speed) (offset_at c now) now) (λ e. h)
    (λ e. settled_sound (at_speed c speed) (offset_at c now) now (at_speed_sound c speed t h))

pub with_mode_sound : (c : Clip) (now : ℕ) (mode : Mode) → Sound c → Sound (with_mode c now mode)
unfolding with_mode
with_mode_sound c now mode h =
    cond_split Sound (same_mode mode c.mode) c (settled_of (at_mode c mode) (offset_at c now) now) (λ e. h)
    (λ e. settled_sound (at_mode c mode) (offset_at c now) now (at_mode_sound c mode h))

pub with_length_sound : (c : Clip) (now : ℕ) (length : Float) → T (fits binary32 length) → T (good_length length) → Sound c → Sound (with_length c now length)
unfolding with_length
with_length_sound c now length t l h =
    cond_split Sound (eq length c.length) c (settled_of (at_length c length) (offset_at c now) now) (λ e. h)
    (λ e. settled_sound (at_length c length) (offset_at c now) now (at_length_sound c length t l h))

pub with_data_length_sound : (c : Clip) (now : ℕ) (length : Float) → T (fits binary32 length) → T (good_length length) → Sound c → Sound (with_data_length c now length)
unfolding with_data_length
with_data_length_sound c now length t l h =
    let d = at_data_length c length in
    let s = at_data_length_sound c length t l h in
    cond_split Sound (eq length c.data_length) c (cond (le length (offset_at c now)) (resumed d zero32 now) d) (λ e. h)
    (λ e. cond_split Sound (le length (offset_at c now)) (resumed d zero32 now) d (λ k. resumed_sound d zero32 now (zero-fits binary32 false) s) (λ k. s))

pub made_sound : (since : ℕ) (start speed length data_length : Float) (mode : Mode)
    → T (fits binary32 start) → T (fits binary32 speed) → T (fits binary32 length) → T (fits binary32 data_length)
    → T (le zero32 start) → T (le start most32) → T (good_length length) → T (good_length data_length) → Sound (made_of since start speed length data_length mode)
unfolding made_of
made_sound since start speed length data_length mode a b c d low top l k =
    record {
      fitting = record { start = a; speed = b; length = c; data_length = d; shift = zero-fits binary32 false };
      good = parts_good (made_of since start speed length data_length mode) (record { length = l; data_length = k; start_low = low; start_top = top });
    }

-- ---- `since` doesn't pass the time of the update
module _ (c : Clip) (now : ℕ) (h : c.since ≤ now) where
  settled_since : (b : Bool) (d : Clip) (offset : Float) → (cond b c (settled_of d offset now)).since ≤ now
  unfolding settled_of
  settled_since true d offset = h
  settled_since false d offset = le_refl now

  pub with_speed_since : (speed : Float) → (with_speed c now speed).since ≤ now
  unfolding with_speed
  with_speed_since speed = settled_since (eq speed c.speed) (at_speed c speed) (offset_at c now)

  pub with_mode_since : (mode : Mode) → (with_mode c now mode).since ≤ now
  unfolding with_mode
  with_mode_since mode = settled_since (same_mode mode c.mode) (at_mode c mode) (offset_at c now)

  pub with_length_since : (length : Float) → (with_length c now length).since ≤ now
  unfolding with_length
  with_length_since length = settled_since (eq length c.length) (at_length c length) (offset_at c now)

  pub with_data_length_since : (length : Float) → (with_data_length c now length).since ≤ now
  unfolding with_data_length
  with_data_length_since length = go (eq length c.data_length) (le length (offset_at c now))
    where
      go : (a b : Bool) → (cond a c (cond b (resumed (at_data_length c length) zero32 now) (at_data_length c length))).since ≤ now
      go true b = h
      go false true = le_refl now
      go false false = h
