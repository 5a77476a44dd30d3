-- What the host's three steps leave, by the definitions of the calls. Definitions only.
use Rattle.std.specs.Prelude.{ℕ, false, List, length, Float, Result}
use Rattle.refusals.specs.declared.Refusal.{Refusal}
use Rattle.binary32.specs.Leaves.{zero32, one32}
use Rattle.common_types.specs.Notes.{note_of}
use Rattle.common_types.specs.Settings.{default_params}
use Rattle.common_types.specs.declared.InitParams.{InitParams}
use Rattle.common_types.specs.declared.Note.{Note}
use Rattle.common_types.specs.declared.Params.{Params}
use Rattle.sampler.specs.Samplers.{
  set_up_of,
  start_recording_of,
  stop_recording_of,
  start_playing_of,
  stop_playing_of,
  Framed,
  framed_of,
}
use Rattle.sampler.specs.declared.Sampler.{Sampler}
use Rattle.questions.specs.Questions.{get_voice_info_of}
use Rattle.questions.specs.declared.VoiceInfos.{VoiceInfos}

abbrev pub no_passthru : InitParams
no_passthru = record { auto_passthru = false }

abbrev pub key : Note
key = note_of 60 0

-- the Rust's defaults, but no attack and no pass-through
abbrev pub settings : Params
settings = record {
  attack_samples = 0;
  decay_samples = default_params.decay_samples;
  transport = default_params.transport;
  loop_length = default_params.loop_length;
  speed = default_params.speed;
  reverse_speed = default_params.reverse_speed;
  volume = default_params.volume;
  auto_passthru = false;
  loop_mode = default_params.loop_mode;
  note_off_behavior = default_params.note_off_behavior;
}

-- set up with two channels, and a frame recorded
unfoldable pub frame_recorded : List Float → List ℕ → Framed
frame_recorded frame m = framed_of (start_recording_of (set_up_of 2 no_passthru (length m)).sampler).sampler frame settings m

-- the recording ended, and the key pressed at the recording's start, at its full level
unfoldable pub pressed_of : Sampler → Sampler
pressed_of s = (start_playing_of (stop_recording_of s).sampler zero32 key one32 settings).sampler

-- the key let go, and the voices of channel 0
unfoldable pub told_of : Sampler → Result VoiceInfos Refusal
told_of s = get_voice_info_of (stop_playing_of s key settings).sampler 0 settings 32
