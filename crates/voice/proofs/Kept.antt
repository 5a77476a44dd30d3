-- A sound voice stays sound as the clock moves on and through all that is done to it, and a new voice is sound. Assumes nothing.
use mathlib.Core.Path.{◌≡◌}
use Prim.Native.Nat.{ℕ, ◌^◌, ◌≤◌, ◌<◌, zero-le}
use native.Mathlib.Nat.{le_refl, le_trans}
use mathlib.Core.Bool.{Bool, ◌&&◌}
use mathlib.Core.List.{List}
use lib.Dec.{T, leb, ltb, leb→le, le→leb, lt→ltb}
use lib.IntN.{pos}
use lib.Ieee.{Float, binary32, fits, mul}
use lib.Ieee.Bits.{is_true}
use lib.Ieee.Fits.{and_i, and_l, and_r, add-fits, mul-fits, of_int-fits}
use Rattle.binary32.specs.Leaves.{as_float, zero32}
use Rattle.binary32.proofs.Truth.{yes, cond_split}
use Rattle.common_types.specs.declared.Note.{Note}
use Rattle.common_types.specs.declared.Params.{Params}
use Rattle.common_types.specs.Settings.{speed_of, loop_length_of}
use Rattle.common_types.proofs.Limits.{within}
use Rattle.common_types.proofs.LoopLengths.{loop_length_fits}
use Rattle.volume.specs.declared.Volume.TheVariants.{Static}
use Rattle.volume.specs.Levels.{level_of, good_volume}
use Rattle.clip.specs.declared.Clip.{Clip}
use Rattle.clip.specs.Positions.{index_at, next_at}
use Rattle.clip.specs.Updates.{made_of}
use Rattle.clip.specs.Refusals.{good_clip}
use Rattle.clip.specs.Bounds.{Sound}
use Rattle.clip.proofs.Lengths.{float_length}
use Rattle.clip.proofs.Kept.{made_sound}
use Rattle.clip.proofs.Indices.{index_below, next_below}
use Rattle.voice.specs.Voices.{clip_mode_of, tick_of, should_remove_of, moved_of, value_of, product_of, sounded_of, finish_of, played_out_of, ended_of, volume_stepped, turn_of, fresh_of, at_speed_of, good_voice}
use Rattle.voice.specs.Soundness.{Fits, SoundParams, SoundPosition, SoundVolume, SoundVoice}
use Rattle.voice.specs.declared.Voice.{Voice}
use Rattle.voice.specs.declared.Moment.{Moment}
use Rattle.voice.proofs.PhraseKept.{good_phrase}
use Rattle.voice.proofs.Volumes.{static_sound, volume_later, volume_stepped_lem, volume_toward}
use Rattle.voice.proofs.Starts.{start_low, start_top}
use Rattle.voice.proofs.Moves.{loop_length_good, moved_sound, moved_data_length, moved_since}

-- ---- a sound voice by its parts
record Parts (now : ℕ) (v : Voice) : Type 0 where
  phrase : v.phrase < 8
  since : v.clip2.since ≤ now
  ended : v.finished_at ≤ now
  volume : SoundVolume now v.volume
  clip : Sound v.clip2
  floats : Fits v.loop_start_percent × Fits v.played × Fits v.last_sample_value × Fits v.speed

parts : {now : ℕ} {v : Voice} → SoundVoice now v → Parts now v
unfolding good_voice
parts {now} {v} h =
    let a : Bool = leb v.clip2.since now in
    let b : Bool = leb v.finished_at now in
    let c : Bool = good_volume now v.volume in
    let d : Bool = good_clip v.clip2 in
    let t : T (a && b && c && d) = and_r (ltb v.phrase 8) (a && b && c && d) (yes h.good) in
    let f = h.fitting in
    record {
      phrase = good_phrase now v h.good;
      since = leb→le v.clip2.since now (and_l a b (and_l (a && b) c (and_l (a && b && c) d t)));
      ended = leb→le v.finished_at now (and_r a b (and_l (a && b) c (and_l (a && b && c) d t)));
      volume = record { good = and_r (a && b) c (and_l (a && b && c) d t); fitting = f.volume };
      clip = record { fitting = f.clip; good = and_r (a && b && c) d t };
      floats = (f.start_percent, f.played, f.last_value, f.speed);
    }

joined : {now : ℕ} {v : Voice} → Parts now v → SoundVoice now v
unfolding good_voice
joined {now} {v} g =
    let a : Bool = leb v.clip2.since now in
    let b : Bool = leb v.finished_at now in
    let c : Bool = good_volume now v.volume in
    let d : Bool = good_clip v.clip2 in
    record {
      good = is_true (ltb v.phrase 8 && (a && b && c && d))
          (and_i (ltb v.phrase 8) (a && b && c && d) (lt→ltb v.phrase 8 g.phrase)
          (and_i (a && b && c) d (and_i (a && b) c (and_i a b (le→leb v.clip2.since now g.since) (le→leb v.finished_at now g.ended)) g.volume.good) g.clip.good));
      fitting = record {
        clip = g.clip.fitting;
        volume = g.volume.fitting;
        start_percent = g.floats.0;
        played = g.floats.1;
        last_value = g.floats.2;
        speed = g.floats.3;
      };
    }

pub clip_sound : (now : ℕ) (v : Voice) → SoundVoice now v → Sound v.clip2
clip_sound now v h = (parts h).clip

-- ---- what is done to a voice
module _ (now : ℕ) (v : Voice) (h : SoundVoice now v) where
  -- the clock moves on
  pub voice_later : (then : ℕ) → now ≤ then → SoundVoice then v
  voice_later then k =
      let g = parts h in
      joined (record {
        phrase = g.phrase;
        since = le_trans g.since k;
        ended = le_trans g.ended k;
        volume = volume_later v.volume now g.volume then k;
        clip = g.clip;
        floats = g.floats;
      })

  pub finish_sound : (decay : ℕ) → now ≤ 2 ^ 48 → decay ≤ 2 ^ 24 → SoundVoice now (finish_of now decay v)
  unfolding finish_of fits
  finish_sound decay a b =
      let g = parts h in
      joined (record {
        phrase = g.phrase;
        since = g.since;
        ended = le_refl now;
        volume = volume_toward v.volume now g.volume decay zero32 a b tt;
        clip = g.clip;
        floats = g.floats;
      })

  pub at_speed_sound : (speed : Float) → Fits speed → SoundVoice now (at_speed_of speed v)
  unfolding at_speed_of
  at_speed_sound speed t =
      let g = parts h in
      joined (record {
        phrase = g.phrase;
        since = g.since;
        ended = g.ended;
        volume = g.volume;
        clip = g.clip;
        floats = (g.floats.0, g.floats.1, g.floats.2, t);
      })

  pub stepped_sound : (t : ℕ) → SoundVoice now (volume_stepped t v)
  unfolding volume_stepped
  stepped_sound t =
      let g = parts h in
      joined (record {
        phrase = g.phrase;
        since = g.since;
        ended = g.ended;
        volume = volume_stepped_lem v.volume now g.volume t;
        clip = g.clip;
        floats = g.floats;
      })

-- ---- a sample
module _ (p : Params) (at : Moment) (ok : SoundParams p) (some : 1 ≤ at.data_len) (short : at.data_len ≤ 2 ^ 22) where
  abbrev now : ℕ
  now = at.now

  abbrev n : ℕ
  n = at.data_len

  -- the value that sounds is one recorded, and so is the next one
  module _ (v : Voice) (h : SoundVoice now v) where
    abbrev moved : Clip
    moved = moved_of (tick_of p at) v

    sound : Sound moved
    sound = moved_sound p at ok some short v (clip_sound now v h)

    data_length : moved.data_length ≡ as_float n
    data_length = moved_data_length p at ok some short v (clip_sound now v h)

    pub index_recorded : index_at moved now < n
    index_recorded = index_below moved now n sound data_length short

    pub next_recorded : next_at moved now < n
    next_recorded = next_below moved now n sound data_length short

  module _ (time : now ≤ 2 ^ 48) where
    module _ (m : List ℕ) (v : Voice) (h : SoundVoice now v) where
      sounded_sound : SoundVoice now (sounded_of (tick_of p at) m v)
      unfolding sounded_of product_of tick_of
      sounded_sound =
          let g = parts h in
          let t = tick_of p at in
          joined {v = sounded_of t m v} (record {
            phrase = g.phrase;
            since = moved_since p at ok some short v g.clip g.since;
            ended = g.ended;
            volume = g.volume;
            clip = moved_sound p at ok some short v g.clip;
            floats = (g.floats.0, add-fits binary32 v.played (mul binary32 v.speed t.speed), mul-fits binary32 (value_of t m (moved_of t v)) (level_of v.volume now), g.floats.3);
          })

      pub turn_sound : SoundVoice now (turn_of (tick_of p at) m v)
      unfolding turn_of ended_of tick_of
      turn_sound =
          let t = tick_of p at in
          let w = sounded_of t m v in
          let k = sounded_sound in
          stepped_sound now _
          (cond_split (SoundVoice now) (should_remove_of t v) v (ended_of t w) (λ e. h)
          (λ e. cond_split (SoundVoice now) (played_out_of t w) (finish_of now p.decay_samples w) w (λ f. finish_sound now w k p.decay_samples time (within p ok.within).decay) (λ f. k)))
          now

    -- a new voice, at a place from 0 to 1 of the recording
    pub fresh_sound : (position : Float) (note : Note) (velocity : Float) → at.phrase < 8 → SoundPosition position → Fits velocity → SoundVoice now (fresh_of p position note velocity at)
    unfolding fresh_of made_of speed_of fits
    fresh_sound position note velocity numbered place u =
        let l = loop_length_of p n in
        joined (record {
          phrase = numbered;
          since = le_refl now;
          ended = zero-le;
          volume = volume_toward (Static zero32) now (static_sound zero32 now tt) p.attack_samples velocity time (within p ok.within).attack u;
          clip = made_sound now (mul binary32 position (as_float n)) (speed_of p) l (as_float n) (clip_mode_of p.loop_mode)
              (mul-fits binary32 position (as_float n)) (mul-fits binary32 p.speed p.reverse_speed) (loop_length_fits p n ok.fitting) (of_int-fits binary32 (pos n))
              (start_low position n place short) (start_top position n place short) (loop_length_good p n ok short) (float_length n some short);
          floats = (place.fitting, tt, tt, tt);
        })
