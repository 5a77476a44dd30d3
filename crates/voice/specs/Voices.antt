-- What one voice does in one sample (document 01, module 6, and the Rust's play_voices, should_remove_voice,
-- finish_voice and start_playing). No voice reads another, so the Rust's passes over all voices are, for each, one
-- turn. Definitions only.
use Rattle.std.specs.Prelude.{ℕ, ◌-◌, Bool, true, false, not, ◌&&◌, ◌||◌, cond, List, leb, ltb, get_or, Float}
use Rattle.std.specs.Float.{binary32}
use Rattle.std.specs.Float.Ieee.{add, sub, mul, le}
use Rattle.binary32.specs.Leaves.{as_float, floor_of, abs_of, crossing_of, float_of, zero32, one32}
use Rattle.common_types.specs.declared.LoopMode.{LoopMode}
use Rattle.common_types.specs.declared.LoopMode.TheVariants as loop
use Rattle.common_types.specs.declared.NoteOffBehaviour.{NoteOffBehaviour}
use Rattle.common_types.specs.declared.NoteOffBehaviour.TheVariants as off
use Rattle.common_types.specs.declared.Note.{Note}
use Rattle.common_types.specs.declared.Params.{Params}
use Rattle.common_types.specs.declared.Measure.{Measure}
use Rattle.common_types.specs.Settings.{speed_of, loop_length_of, measured_of}
use Rattle.volume.specs.declared.Volume.{Volume}
use Rattle.volume.specs.declared.Volume.TheVariants.{Static}
use Rattle.volume.specs.Levels.{is_static_and_mute_of, level_of, toward_of, stepped_of, good_volume}
use Rattle.clip.specs.declared.Clip.{Clip}
use Rattle.clip.specs.declared.Mode.{Mode}
use Rattle.clip.specs.declared.Mode.TheVariants as mode
use Rattle.clip.specs.declared.Position.{Position}
use Rattle.clip.specs.Positions.{position_at, index_at, next_at}
use Rattle.clip.specs.Updates.{with_all}
use Rattle.clip.specs.Refusals.{good_clip}
use Rattle.voice.specs.declared.Voice.{Voice}
use Rattle.voice.specs.declared.Moment.{Moment}
use Rattle.voice.specs.declared.Span.{Span}
use Rattle.voice.specs.declared.Tick.{Tick}

-- ---- what the voices of one phrase share in one sample

-- play-once moves as a loop does
abbrev pub clip_mode_of : LoopMode → Mode
clip_mode_of loop.PlayOnce = mode.Loop
clip_mode_of loop.Loop = mode.Loop
clip_mode_of loop.PingPong = mode.PingPong

abbrev pub plays_once_of : LoopMode → Bool
plays_once_of loop.PlayOnce = true
plays_once_of loop.Loop = false
plays_once_of loop.PingPong = false

-- what depends on the recording: n samples
unfoldable pub span_of : Params → ℕ → Span
span_of p n = record {
  length = loop_length_of p n;
  whole_length = floor_of (loop_length_of p n);
  data_length = as_float n;
}

-- the same, by the measure of a loop length (the code's way: one measure serves every recording)
unfoldable pub span_by : Measure → ℕ → Span
span_by m n = record {
  length = measured_of m (as_float n);
  whole_length = floor_of (measured_of m (as_float n));
  data_length = as_float n;
}

abbrev pub tick_with : Span → Params → Moment → Tick
tick_with span p at = record {
  now = at.now;
  decay_samples = p.decay_samples;
  span = span;
  speed = speed_of p;
  mode = clip_mode_of p.loop_mode;
  once = plays_once_of p.loop_mode;
  note_off_behavior = p.note_off_behavior;
  interpolates = at.interpolates;
  phrase = at.phrase;
}

unfoldable pub tick_of : Params → Moment → Tick
tick_of p at = tick_with (span_of p at.data_len) p at

-- ---- when a voice goes

-- its decay is over by the clock, or it stands at a crossing
unfoldable pub late_of : Tick → Voice → Bool
late_of t v = leb t.decay_samples (t.now - v.finished_at) || v.is_at_zero_crossing

unfoldable pub over_of : NoteOffBehaviour → Bool → Bool → Bool
over_of off.Decay mute late = mute
over_of off.ZeroCrossing mute late = late
over_of off.DecayAndZeroCrossing mute late = mute || late

unfoldable pub should_remove_of : Tick → Voice → Bool
should_remove_of t v = v.finished && over_of t.note_off_behavior (is_static_and_mute_of v.volume) (late_of t v)

-- ---- how a voice sounds

-- the clip, brought up to this sample's length, speed, data length and mode, in that order
unfoldable pub moved_of : Tick → Voice → Clip
moved_of t v =
    with_all v.clip2 t.now t.span.length (mul binary32 v.speed t.speed) t.span.data_length t.mode

-- the value recorded at a place of the phrase
abbrev pub recorded_value_of : List ℕ → ℕ → Float
recorded_value_of m i = float_of (get_or m i 0)

-- "a + (b - a) * fraction" (request 7/12)
unfoldable pub between_of : Float → Float → Float → Float
between_of a b fraction = add binary32 a (mul binary32 (sub binary32 b a) fraction)

-- what is recorded at a position; with the setting on, between there and the sample at the index `next`
abbrev pub value_at : Tick → List ℕ → Position → ℕ → Float
value_at t m at next =
    cond t.interpolates (between_of (recorded_value_of m at.index) (recorded_value_of m next) at.fraction)
    (recorded_value_of m at.index)

-- where the clip is now: "b being the sample at the next index"
unfoldable pub value_of : Tick → List ℕ → Clip → Float
value_of t m c = value_at t m (position_at c t.now) (next_at c t.now)

-- a sample's value at the voice's level now
abbrev pub at_level_of : Tick → Voice → Float → Float
at_level_of t v sample = mul binary32 sample (level_of v.volume t.now)

-- the value where the clip is times the level now: the voice's term of the output
unfoldable pub product_of : Tick → List ℕ → Voice → Float
product_of t m v = at_level_of t v (value_of t m (moved_of t v))

-- the voice as it has sounded by that clip, at that index, with that value heard: every other field but how far it has
-- played is what it was
abbrev pub sounded_at : Tick → Voice → Clip → ℕ → Float → Voice
sounded_at t v clip index value = record {
  finished_at = v.finished_at;
  last_sample_index = index;
  clip2 = clip;
  volume = v.volume;
  loop_start_percent = v.loop_start_percent;
  played = add binary32 v.played (mul binary32 v.speed t.speed);
  last_sample_value = value;
  speed = v.speed;
  note = v.note;
  finished = v.finished;
  is_at_zero_crossing = crossing_of value v.last_sample_value;
  phrase = v.phrase;
}

unfoldable pub sounded_of : Tick → List ℕ → Voice → Voice
sounded_of t m v = sounded_at t v (moved_of t v) (index_at (moved_of t v) t.now) (product_of t m v)

-- ---- how a voice ends

-- finished at `now`: from here its level goes to 0 over the decay
unfoldable pub finish_of : ℕ → ℕ → Voice → Voice
finish_of now decay v = record {
  finished_at = now;
  last_sample_index = v.last_sample_index;
  clip2 = v.clip2;
  volume = toward_of v.volume now decay zero32;
  loop_start_percent = v.loop_start_percent;
  played = v.played;
  last_sample_value = v.last_sample_value;
  speed = v.speed;
  note = v.note;
  finished = true;
  is_at_zero_crossing = v.is_at_zero_crossing;
  phrase = v.phrase;
}

-- play-once has played a whole loop length
unfoldable pub played_out_of : Tick → Voice → Bool
played_out_of t v = t.once && not v.finished && le t.span.whole_length (abs_of v.played)

unfoldable pub ended_of : Tick → Voice → Voice
ended_of t v = cond (played_out_of t v) (finish_of t.now t.decay_samples v) v

-- the level's ramp has one sample less to go
unfoldable pub volume_stepped : ℕ → Voice → Voice
volume_stepped now v = record {
  finished_at = v.finished_at;
  last_sample_index = v.last_sample_index;
  clip2 = v.clip2;
  volume = stepped_of v.volume now;
  loop_start_percent = v.loop_start_percent;
  played = v.played;
  last_sample_value = v.last_sample_value;
  speed = v.speed;
  note = v.note;
  finished = v.finished;
  is_at_zero_crossing = v.is_at_zero_crossing;
  phrase = v.phrase;
}

-- the level after its step, on its way to 0 if the voice is played out
abbrev pub faded_of : Volume → Bool → Tick → Volume
faded_of volume out t = stepped_of (cond out (toward_of volume t.now t.decay_samples zero32) volume) t.now

-- a voice's whole sample: one that is to be removed is skipped, but for its level
unfoldable pub turn_of : Tick → List ℕ → Voice → Voice
turn_of t m v = volume_stepped t.now (cond (should_remove_of t v) v (ended_of t (sounded_of t m v)))

-- ---- a new voice, started at that moment, of its phrase
unfoldable pub fresh_of : Params → Float → Note → Float → Moment → Voice
fresh_of p position note velocity at = record {
  finished_at = 0;
  last_sample_index = 0;
  clip2 = record {
    since = at.now;
    start = mul binary32 position (as_float at.data_len);
    speed = speed_of p;
    length = loop_length_of p at.data_len;
    data_length = as_float at.data_len;
    shift = zero32;
    mode = clip_mode_of p.loop_mode;
  };
  volume = toward_of (Static zero32) at.now p.attack_samples velocity;
  loop_start_percent = position;
  played = zero32;
  last_sample_value = zero32;
  speed = one32;
  note = note;
  finished = false;
  is_at_zero_crossing = false;
  phrase = at.phrase;
}

-- ---- other values of a voice

-- what stands in a place that no voice has taken yet
unfoldable pub blank_voice : Voice
blank_voice = record {
  finished_at = 0;
  last_sample_index = 0;
  clip2 = record {
    since = 0;
    start = zero32;
    speed = zero32;
    length = one32;
    data_length = one32;
    shift = zero32;
    mode = mode.Loop;
  };
  volume = Static zero32;
  loop_start_percent = zero32;
  played = zero32;
  last_sample_value = zero32;
  speed = zero32;
  note = record { note = 0; channel = 0 };
  finished = true;
  is_at_zero_crossing = false;
  phrase = 0;
}

-- the voice at another speed of its own
unfoldable pub at_speed_of : Float → Voice → Voice
at_speed_of speed v = record {
  finished_at = v.finished_at;
  last_sample_index = v.last_sample_index;
  clip2 = v.clip2;
  volume = v.volume;
  loop_start_percent = v.loop_start_percent;
  played = v.played;
  last_sample_value = v.last_sample_value;
  speed = speed;
  note = v.note;
  finished = v.finished;
  is_at_zero_crossing = v.is_at_zero_crossing;
  phrase = v.phrase;
}

-- ---- a voice that may stand in a record whose clock is at `now`: "the number of its phrase .. is below eight" (request
-- 11/12), no time of its lies after the clock, its ramp is good, and so is its clip
unfoldable pub good_voice : ℕ → Voice → Bool
good_voice now v = ltb v.phrase 8 && (leb v.clip2.since now && leb v.finished_at now
    && good_volume now v.volume && good_clip v.clip2)
