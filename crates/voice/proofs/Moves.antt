-- A sound clip, brought up to a sample's length, speed, data length and mode, is sound at the data length that it was told. Assumes nothing.
use mathlib.Core.Path.{◌≡◌, refl, ◌∙◌, subst}
use Prim.Native.Nat.{ℕ, ◌*◌, ◌^◌, ◌≤◌}
use native.Mathlib.Nat.{lt_of_lt_of_le}
use mathlib.Core.Bool.{Bool, true, false, cond}
use lib.Dec.{T, eqb→eq}
use lib.Pow.{pow_pos}
use lib.IntN.{pos}
use lib.Ieee.{Float, binary32, mul, eq, le}
use lib.Ieee.Fits.{and_i, mul-fits, of_int-fits}
use Rattle.binary32.specs.Leaves.{as_float, zero32, one32}
use Rattle.binary32.proofs.Truth.{cond_split}
use Rattle.binary32.proofs.Units.{Units, eq_units, units_unique_above}
use Rattle.common_types.specs.declared.Params.{Params}
use Rattle.common_types.specs.Settings.{loop_length_of, speed_of}
use Rattle.common_types.proofs.LoopLengths.{loop_length_from_one, loop_length_to_most, loop_length_fits}
use Rattle.clip.specs.declared.Clip.{Clip}
use Rattle.clip.specs.declared.Mode.{Mode}
use Rattle.clip.specs.Positions.{offset_at}
use Rattle.clip.specs.Updates.{at_mode, at_data_length, resumed, settled_of, same_mode, with_speed, with_mode, with_length, with_data_length}
use Rattle.clip.specs.Refusals.{most32, good_length}
use Rattle.clip.specs.Bounds.{Sound}
use Rattle.clip.proofs.Lengths.{good_parts, length_units, float_units, float_length}
use Rattle.clip.proofs.Kept.{with_speed_sound, with_mode_sound, with_length_sound, with_data_length_sound, with_speed_since, with_mode_since, with_length_since, with_data_length_since}
use Rattle.voice.specs.Voices.{clip_mode_of, span_of, tick_of, moved_of}
use Rattle.voice.specs.Soundness.{Fits, SoundParams}
use Rattle.voice.specs.declared.Voice.{Voice}
use Rattle.voice.specs.declared.Moment.{Moment}

pub loop_length_good : (p : Params) (n : ℕ) → SoundParams p → n ≤ 2 ^ 22 → T (good_length (loop_length_of p n))
unfolding good_length
loop_length_good p n h k =
    let l = loop_length_of p n in
    and_i (le one32 l) (le l most32) (loop_length_from_one p n) (loop_length_to_most p n h.within k)

-- ---- the data length set is the data length, not merely equal to it as a float

equal_is : (x : Float) (n : ℕ) → Fits x → T (good_length x) → n ≤ 2 ^ 22 → T (eq (as_float n) x) → x ≡ as_float n
equal_is x n t g h e =
    let w = length_units x t g in
    let u = float_units n h in
    let same : n * 2 ^ 149 ≡ w.count = eqb→eq (n * 2 ^ 149) w.count (subst T (eq_units u w.is) e) in
    units_unique_above (lt_of_lt_of_le (pow_pos 149) w.from) t (of_int-fits binary32 (pos n)) w.is (subst (Units binary32 (as_float n)) same u)

with_data_length_is : (c : Clip) (now n : ℕ) → Sound c → n ≤ 2 ^ 22 → (with_data_length c now (as_float n)).data_length ≡ as_float n
unfolding with_data_length
with_data_length_is c now n h k =
    let d = at_data_length c (as_float n) in
    cond_split (λ (z : Clip). z.data_length ≡ as_float n) (eq (as_float n) c.data_length) c (cond (le (as_float n) (offset_at c now)) (resumed d zero32 now) d)
    (λ e. equal_is c.data_length n h.fitting.data_length (good_parts c h.good).data_length k e) (λ e. go (le (as_float n) (offset_at c now)))
  where
    go : (b : Bool) → (cond b (resumed (at_data_length c (as_float n)) zero32 now) (at_data_length c (as_float n))).data_length ≡ as_float n
    go true = refl
    go false = refl

with_mode_data : (c : Clip) (now : ℕ) (mode : Mode) → (with_mode c now mode).data_length ≡ c.data_length
unfolding with_mode settled_of
with_mode_data c now mode = go (same_mode mode c.mode)
  where
    go : (b : Bool) → (cond b c (settled_of (at_mode c mode) (offset_at c now) now)).data_length ≡ c.data_length
    go true = refl
    go false = refl

-- ---- the four updates of a sample
module _ (p : Params) (at : Moment) (ok : SoundParams p) (some : 1 ≤ at.data_len) (short : at.data_len ≤ 2 ^ 22) (v : Voice) (h : Sound v.clip2) where
  abbrev now : ℕ
  now = at.now

  abbrev n : ℕ
  n = at.data_len

  abbrev sized : Clip
  sized = with_length v.clip2 now (loop_length_of p n)

  sized_sound : Sound sized
  sized_sound = with_length_sound v.clip2 now (loop_length_of p n) (loop_length_fits p n ok.fitting) (loop_length_good p n ok short) h

  abbrev sped : Clip
  sped = with_speed sized now (mul binary32 v.speed (speed_of p))

  sped_sound : Sound sped
  sped_sound = with_speed_sound sized now (mul binary32 v.speed (speed_of p)) (mul-fits binary32 v.speed (speed_of p)) sized_sound

  abbrev told : Clip
  told = with_data_length sped now (as_float n)

  pub moved_sound : Sound (moved_of (tick_of p at) v)
  unfolding moved_of tick_of span_of
  moved_sound =
      with_mode_sound told now (clip_mode_of p.loop_mode)
      (with_data_length_sound sped now (as_float n) (of_int-fits binary32 (pos n)) (float_length n some short) sped_sound)

  pub moved_data_length : (moved_of (tick_of p at) v).data_length ≡ as_float n
  unfolding moved_of tick_of span_of
  moved_data_length = with_mode_data told now (clip_mode_of p.loop_mode) ∙ with_data_length_is sped now n sped_sound short

  pub moved_since : v.clip2.since ≤ now → (moved_of (tick_of p at) v).since ≤ now
  unfolding moved_of tick_of span_of
  moved_since k =
      with_mode_since told now
      (with_data_length_since sped now (with_speed_since sized now (with_length_since v.clip2 now k (loop_length_of p n)) (mul binary32 v.speed (speed_of p))) (as_float n))
      (clip_mode_of p.loop_mode)
