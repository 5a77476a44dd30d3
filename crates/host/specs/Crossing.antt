-- What a host's numbers mean, and the plain numbers that answers become. Definitions only. Assumes nothing.
use Rattle.std.specs.Prelude.{◌≡◌, ℕ, min, Bool, ◌&&◌, cond, leb, eqb, Option, Some, None, Result, Ok, Err}
use Rattle.binary32.specs.Leaves.{zero32}
use Rattle.refusals.specs.declared.Refusal.{Refusal}
use Rattle.refusals.specs.Refusals.{number_of, code_of}
use Rattle.common_types.specs.Settings.{default_params}
use Rattle.common_types.specs.declared.Params.{Params}
use Rattle.sampler.specs.declared.Sampler.{Sampler}
use Rattle.sampler.specs.declared.Answer.{Answer}
use Rattle.sampler.specs.declared.SampleAnswer.{SampleAnswer}
use Rattle.sampler.specs.declared.Ran.{Ran}
use Rattle.sampler.specs.Samplers.{set_up_of}
use Rattle.smf.specs.declared.SongRefusal.{SongRefusal}
use Rattle.smf.specs.declared.SongRefusal.TheVariants as song
use Rattle.smf.specs.Cues.{cues_number}
use Rattle.listing.specs.Records.{length_by_kind, loop_mode_of, note_off_of}
use Rattle.host.specs.declared.settings.Settings.{Settings}
use Rattle.host.specs.declared.settings.Made.{Made}
use Rattle.host.specs.declared.answers.Count.{Count}
use Rattle.host.specs.declared.answers.Offset.{Offset}
use Rattle.host.specs.declared.answers.Summary.{Summary}
use Rattle.host.specs.declared.calls.Sampled.{Sampled}
use Rattle.host.specs.declared.calls.RunDone.{RunDone}
use Rattle.host.specs.declared.calls.RateRead.{RateRead}
use Rattle.host.specs.declared.settings.NewSampler.{NewSampler}
use Rattle.questions.specs.declared.WaveformSummary.{WaveformSummary}

-- ---- what a host gives

-- each byte is one that names something
unfoldable pub known : Settings → Bool
known s = ((leb s.length_kind 5 && leb s.loop_mode 2) && leb s.note_off 2) && leb s.auto_passthru 1

-- length, modes and pass-through by the event listing's numbers
unfoldable pub params_by : Settings → Params
params_by s = record {
  attack_samples = s.attack_samples;
  decay_samples = s.decay_samples;
  transport = record {
    sample_rate = s.sample_rate;
    tempo = s.tempo;
    time_sig_numerator = s.time_sig_numerator;
    time_sig_denominator = s.time_sig_denominator;
  };
  loop_length = length_by_kind s.length_kind s.length;
  speed = s.speed;
  reverse_speed = s.reverse_speed;
  volume = s.volume;
  auto_passthru = eqb s.auto_passthru 1;
  loop_mode = loop_mode_of s.loop_mode;
  note_off_behavior = note_off_of s.note_off;
}

-- 7 where a byte names nothing
unfoldable pub made_by : Settings → Made
made_by s = cond (known s) (record { params = params_by s; number = 0 }) (record { params = default_params; number = 7 })

-- the record that set-up gives, and its number
abbrev pub set_up_by : ℕ → Bool → ℕ → NewSampler
set_up_by n passthru size =
    let a = set_up_of n (record { auto_passthru = passthru }) size in
    record { sampler = a.sampler; number = code_of a.done }

-- a phrase's number is a byte to the engine, and none past 7 is a phrase's
abbrev pub phrase_byte : ℕ → ℕ
phrase_byte n = min n 255

-- ---- what it is answered

-- a call leaves its record, and the number of what it answers
abbrev pub Coded : Answer → Sampler → ℕ → Type 0
Coded a s number = (s ≡ a.sampler) × (number ≡ code_of a.done)

abbrev pub sampled_by : SampleAnswer → Sampled
sampled_by a = record { output = a.output; number = code_of a.done; moved = a.moved }

abbrev pub ran_by : Ran → RunDone
ran_by r = record { frames = r.frames; number = code_of r.done }

abbrev pub refused_by : Refusal → Count
refused_by refusal = record { count = 0; number = number_of refusal }

abbrev pub count_by : Result ℕ Refusal → Count
count_by (Ok n) = record { count = n; number = 0 }
count_by (Err refusal) = refused_by refusal

abbrev pub told_by : Result Bool Refusal → Count
told_by (Ok b) = record { count = cond b 1 0; number = 0 }
told_by (Err refusal) = refused_by refusal

abbrev pub offset_by : Result (Option ℕ) Refusal → Offset
offset_by (Ok (Some n)) = record { at = n; number = 0; found = 1 }
offset_by (Ok None) = record { at = 0; number = 0; found = 0 }
offset_by (Err refusal) = record { at = 0; number = number_of refusal; found = 0 }

abbrev pub summary_by : Result WaveformSummary Refusal → Summary
summary_by (Ok s) = record { smallest = s.smallest; largest = s.largest; number = 0 }
summary_by (Err refusal) = record { smallest = zero32; largest = zero32; number = number_of refusal }

abbrev pub rate_by : Result ℕ Refusal → RateRead
rate_by (Ok rate) = record { rate = rate; number = 0 }
rate_by (Err refusal) = record { rate = 0; number = number_of refusal }

-- a short list is told how many entries the song has
abbrev pub entries_in : Result ℕ SongRefusal → ℕ
entries_in (Ok n) = n
entries_in (Err song.BadRate) = 0
entries_in (Err (song.Faulty why)) = 0
entries_in (Err (song.Short n)) = n

abbrev pub entries_by : Result ℕ SongRefusal → Count
entries_by c = record { count = entries_in c; number = cues_number c }
