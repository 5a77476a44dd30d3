-- Turns on either side of each condition of one that glides, a good voice's last phrase, and values between samples, computed. Assumes nothing.
use mathlib.Core.Path.{◌≡◌, refl}
use Prim.Native.Nat.{ℕ}
use mathlib.Core.Bool.{Bool, true, false}
use mathlib.Core.List.{List, [], ◌∷◌, map}
use lib.IntN.{negsuc}
use lib.Ieee.{Float, nan, fin, neg, of_int, of_bits, add, sub, mul, div, rem, lt, le, eq, is_nan, to_unsigned}
use Rattle.binary32.specs.Leaves.{zero32, one32, as_float, floor_of, min_of, crossing_of}
use Rattle.common_types.specs.declared.NoteOffBehaviour.{NoteOffBehaviour}
use Rattle.common_types.specs.declared.NoteOffBehaviour.TheVariants as off
use Rattle.volume.specs.declared.Volume.{Volume}
use Rattle.volume.specs.declared.Volume.TheVariants.{Static, Linear}
use Rattle.volume.specs.Levels.{level_of, stepped_of, keeps_of, good_volume}
use Rattle.clip.specs.declared.Clip.{Clip}
use Rattle.clip.specs.declared.Mode.{Mode}
use Rattle.clip.specs.declared.Mode.TheVariants.{Loop, PingPong}
use Rattle.clip.specs.Positions.{position_of, lead_of, travel_at, looped_of, wrapped_of, placed_of, clip_offset_at, clip_to_data_of, offset_at, index_at, one_further, next_at}
use Rattle.clip.specs.Refusals.{good_length, good_clip}
use Rattle.clip.specs.Updates.{made_of, with_length, with_speed, with_data_length, with_mode}
use Rattle.voice.specs.Voices.{late_of, over_of, should_remove_of, moved_of, between_of, value_of, product_of, sounded_of, played_out_of, ended_of, volume_stepped, turn_of, good_voice}
use Rattle.voice.specs.Agreeing.{agrees_of}
use Rattle.voice.specs.Gliding.{glides_of, glided_at}
use Rattle.voice.specs.declared.Voice.{Voice}
use Rattle.voice.specs.declared.Tick.{Tick}

-- whatever a turn computes by
unfoldable computing : Unit {0}
unfolding glides_of glided_at agrees_of keeps_of turn_of volume_stepped ended_of played_out_of should_remove_of over_of late_of sounded_of product_of value_of between_of position_of moved_of with_length with_speed with_data_length with_mode made_of index_at next_at one_further offset_at clip_to_data_of clip_offset_at placed_of wrapped_of looped_of travel_at lead_of level_of stepped_of floor_of min_of crossing_of of_int of_bits neg add sub mul div rem lt le eq is_nan to_unsigned
computing = tt

-- a tick at a time, on either setting, with a decay of 3
abbrev tick_at : ℕ → Bool → NoteOffBehaviour → Bool → Float → Float → Mode → Tick
tick_at now interpolates behaviour once length total mode = record {
  now = now;
  decay_samples = 3;
  span = record { length = length; whole_length = floor_of length; data_length = total };
  speed = one32;
  mode = mode;
  once = once;
  note_off_behavior = behaviour;
  interpolates = interpolates;
  phrase = 0;
}

-- at the clock 4, with the setting off, a loop length of 4 and 10 samples recorded, each of them 1
abbrev tick_with : NoteOffBehaviour → Bool → Float → Float → Mode → Tick
tick_with behaviour once length total mode = tick_at 4 false behaviour once length total mode

abbrev tick : NoteOffBehaviour → Bool → Tick
tick behaviour once = tick_with behaviour once (as_float 4) (as_float 10) Loop

abbrev ones : List ℕ
ones = map (λ (n : ℕ). 1065353216) (0 ∷ 1 ∷ 2 ∷ 3 ∷ [])

-- a voice of that phrase with so much played; its value before was 1
abbrev voice_on : ℕ → Clip → Volume → Float → Float → Bool → ℕ → Bool → Voice
voice_on phrase clip volume played speed finished time crossing = record {
  finished_at = time;
  last_sample_index = 0;
  clip2 = clip;
  volume = volume;
  loop_start_percent = zero32;
  played = played;
  last_sample_value = one32;
  speed = speed;
  note = record { note = 60; channel = 0 };
  finished = finished;
  is_at_zero_crossing = crossing;
  phrase = phrase;
}

abbrev loop_of4 : Clip
loop_of4 = made_of 0 zero32 one32 (as_float 4) (as_float 10) Loop

abbrev voice_with : Volume → Float → Float → Bool → ℕ → Bool → Voice
voice_with volume played speed finished time crossing = voice_on 0 loop_of4 volume played speed finished time crossing

abbrev sounding : Volume → Voice
sounding volume = voice_with volume one32 one32 false 0 false

abbrev finished : Volume → ℕ → Bool → Voice
finished volume time crossing = voice_with volume one32 one32 true time crossing

-- a ramp that isn't over after the step, and one that is
pub ramps : (glides_of (tick off.Decay false) ones (sounding (Static one32)) ≡ true)
    × (glides_of (tick off.Decay false) ones (sounding (Linear 0 5 one32 zero32)) ≡ true)
    × (glides_of (tick off.Decay false) ones (sounding (Linear 0 4 one32 zero32)) ≡ false)
unfolding computing
ramps = (refl, refl, refl)

-- each of the four updates, and a speed that is not a number
pub updates : (glides_of (tick_with off.Decay false (as_float 5) (as_float 10) Loop) ones (sounding (Static one32)) ≡ false)
    × (glides_of (tick_with off.Decay false (as_float 4) (as_float 9) Loop) ones (sounding (Static one32)) ≡ false)
    × (glides_of (tick_with off.Decay false (as_float 4) (as_float 10) PingPong) ones (sounding (Static one32)) ≡ false)
    × (glides_of (tick off.Decay false) ones (voice_with (Static one32) one32 zero32 false 0 false) ≡ false)
    × (glides_of (tick off.Decay false) ones (voice_with (Static one32) one32 nan false 0 false) ≡ false)
unfolding computing
updates = (refl, refl, refl, refl, refl)

-- play-once: a whole loop length is played after the turn, or not; a voice that is finished already isn't finished by it
pub once : (glides_of (tick off.Decay true) ones (voice_with (Static one32) (as_float 2) one32 false 0 false) ≡ true)
    × (glides_of (tick off.Decay true) ones (voice_with (Static one32) (as_float 3) one32 false 0 false) ≡ false)
    × (glides_of (tick off.Decay true) ones (voice_with (Static one32) (as_float 3) one32 true 0 false) ≡ true)
unfolding computing
once = (refl, refl, refl)

-- a finished voice that waits for its level: it glides until it is mute, whatever the clock and crossings say
pub in_decay : (glides_of (tick off.Decay false) ones (finished (Linear 3 6 one32 zero32) 0 true) ≡ true) × (glides_of (tick off.Decay false) ones (finished (Static zero32) 0 true) ≡ false)
unfolding computing
in_decay = (refl, refl)

-- one that waits for a crossing: it glides until its decay is over by the clock, or it stands at one before its turn or after it
pub to_a_crossing : (glides_of (tick off.ZeroCrossing false) ones (finished (Static one32) 2 false) ≡ true)
    × (glides_of (tick off.ZeroCrossing false) ones (finished (Static one32) 1 false) ≡ false)
    × (glides_of (tick off.ZeroCrossing false) ones (finished (Static one32) 2 true) ≡ false)
    × (glides_of (tick off.ZeroCrossing false) [] (finished (Static one32) 2 false) ≡ false)
    × (glides_of (tick off.Decay false) [] (finished (Static one32) 2 false) ≡ true)
unfolding computing
to_a_crossing = (refl, refl, refl, refl, refl)

-- ---- a voice in a record: there are eight phrases

-- sound but for its phrase
abbrev numbered : ℕ → Voice
numbered phrase = voice_on phrase loop_of4 (Static one32) one32 one32 false 0 false

pub last_phrase : (good_voice 4 (numbered 7) ≡ true) × (good_voice 4 (numbered 8) ≡ false)
unfolding good_voice good_volume good_clip good_length made_of of_int le
last_phrase = (refl, refl)

-- ---- values between samples, on either setting

abbrev half : Float
half = fin false 1 (negsuc 0)

-- what a voice at half speed and full level sounds by at a time, in a loop of 3 from `start`, of a recording of 4
abbrev heard : Bool → Float → List ℕ → ℕ → Float
heard interpolates start m now =
    (sounded_of (tick_at now interpolates off.Decay false (as_float 3) (as_float 4) Loop) m (voice_on 0 (made_of 0 start half (as_float 3) (as_float 4) Loop) (Static one32) one32 half false 0 false)
    ).last_sample_value

-- 1, 2, 4, 8
abbrev doubling : List ℕ
doubling = 0x3f80_0000 ∷ 0x4000_0000 ∷ 0x4080_0000 ∷ 0x4100_0000 ∷ []

-- midway between 1 and 2, at the 2, and from 0.5 on at the loop's end, midway between its third sample and its first
pub between_samples : (heard true zero32 doubling 1 ≡ fin false 3 (negsuc 0)) × (heard true zero32 doubling 2 ≡ as_float 2) × (heard true half doubling 4 ≡ fin false 5 (negsuc 0))
    × (heard false zero32 doubling 1 ≡ one32) × (heard false zero32 doubling 2 ≡ as_float 2) × (heard false half doubling 4 ≡ as_float 4)
unfolding computing
between_samples = (refl, refl, refl, refl, refl, refl)

-- at fraction 0: an infinite next sample makes it NaN, and -0 becomes +0, which is equal in value
pub at_fraction_zero : (heard true zero32 (0x3f80_0000 ∷ 0x7f80_0000 ∷ []) 0 ≡ nan) × (heard false zero32 (0x3f80_0000 ∷ 0x7f80_0000 ∷ []) 0 ≡ one32)
    × (heard true zero32 (0x8000_0000 ∷ []) 0 ≡ zero32) × (heard false zero32 (0x8000_0000 ∷ []) 0 ≡ neg zero32)
unfolding computing
at_fraction_zero = (refl, refl, refl, refl)
