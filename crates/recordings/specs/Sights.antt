-- What the calls of recordings answer and leave by what is seen of a record: `proofs/Sights` proves that it is what they
-- answer and leave by the record. Definitions only. Assumes nothing.
use Rattle.std.specs.Prelude.{ℕ, ◌+◌, ◌%◌, ◌^◌, Bool, cond, not, ◌&&◌, ◌||◌, List, length, ◌==◌, nat_lt, Result, is_ok}
use Rattle.refusals.specs.declared.Refusal.{Refusal}
use Rattle.wave.specs.declared.Starts.{Starts}
use Rattle.wave.specs.declared.Layout.{Layout}
use Rattle.wave.specs.declared.Judged.{Judged}
use Rattle.wave.specs.Reader.{file_judged}
use Rattle.wave.specs.Memory.{bytes_of, loaded_of}
use Rattle.recorder.specs.Recording.{is_recording_of}
use Rattle.channel.specs.Heads.{begins_at, holds_of}
use Rattle.channel.specs.Channels.{beside_in}
use Rattle.sampler.specs.declared.Sampler.{Sampler}
use Rattle.sampler.specs.Refusals.{channel_at}
use Rattle.questions.specs.declared.Seen.{Seen}
use Rattle.questions.specs.Sights.{seen_of, good_in}
use Rattle.recordings.specs.Waves.{given, write_rows, wave_after_by, held_in, read_rows}
use Rattle.recordings.specs.declared.Surveyed.{Surveyed}
use Rattle.recordings.specs.declared.Loading.{Loading}

-- ---- writing

-- `starts_in`, `layout_in`
abbrev pub starts_seen : Seen → Starts
starts_seen t = record {
  first = t.first.start;
  second = cond (t.count == 2) (t.capacity + t.second.start) 0;
}

abbrev pub layout_seen : Seen → Layout
layout_seen t = record { channels = t.count; samples = t.first.data_len; starts = starts_seen t }

-- `any_recording`, `lengths_differ`: a second channel counts where there are two
abbrev pub records_seen : Seen → Bool
records_seen t = is_recording_of t.first.recorder || (t.count == 2 && is_recording_of t.second.recorder)

abbrev pub differ_seen : Seen → Bool
differ_seen t = t.count == 2 && not (t.second.data_len == t.first.data_len)

abbrev pub write_judged_seen : Seen → ℕ → ℕ → Result (Unit {0}) Refusal
write_judged_seen t room size = write_rows (good_in t size) (records_seen t) (differ_seen t) (layout_seen t) room

abbrev pub write_seen : Seen → ℕ → ℕ → Result ℕ Refusal
write_seen t room size = given (write_judged_seen t room size) (bytes_of (layout_seen t))

abbrev pub wave_left : Seen → ℕ → List ℕ → List ℕ → List ℕ
wave_left t rate m out = wave_after_by rate (layout_seen t) m out (write_judged_seen t (length out) (length m))

-- ---- reading
abbrev pub survey_of : Sampler → Surveyed
survey_of s = record {
  seen = seen_of s;
  first = beside_in s.capacity (channel_at s 0);
  second = beside_in s.capacity (channel_at s 1);
}

-- `against_any (Samples n)`, whether it is short
abbrev pub short_seen : ℕ → Surveyed → Bool
short_seen n t =
    nat_lt (holds_of t.first t.seen.capacity t.seen.first) n
    || (t.seen.count == 2 && nat_lt (holds_of t.second t.seen.capacity t.seen.second) n)

abbrev pub read_judged_seen : Surveyed → Judged → ℕ → Result (Unit {0}) Refusal
read_judged_seen t j size =
    read_rows (good_in t.seen size) (records_seen t.seen) j t.seen.count (short_seen (held_in j).samples t)

-- `beginnings_in`: of a good record the sum doesn't wrap
abbrev pub beginnings_seen : Surveyed → Starts
beginnings_seen t = record {
  first = begins_at t.first.behind t.seen.first;
  second =
      cond (t.seen.count == 2) ((t.seen.capacity + begins_at t.second.behind t.seen.second) % 2 ^ 64) 0;
}

-- what `read_wave_of` answers, and how many samples the record then has
abbrev pub loading_seen : Surveyed → List ℕ → ℕ → Result Loading Refusal
loading_seen t f size =
    let j = file_judged f in
    given (read_judged_seen t j size) (record { rate = (held_in j).rate; samples = (held_in j).samples })

-- `read_memory`
abbrev pub memory_left : Surveyed → List ℕ → List ℕ → List ℕ
memory_left t f m = cond (is_ok (read_judged_seen t (file_judged f) (length m))) (loaded_of f (beginnings_seen t) m) m
