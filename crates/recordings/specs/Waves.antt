-- Recordings out and in as WAVE files (request 10/12): what the two calls answer, and what they leave of the record and
-- of what is lent with it. A file's bytes are said in crate `wave`. Definitions only. Assumes nothing.
use Rattle.std.specs.Prelude.{ℕ, ◌+◌, Bool, true, false, cond, not, List, ◌++◌, length, drop, ◌==◌, nat_lt, Result, Ok, Err, is_ok}
use Rattle.std.specs.List.{list_any}
use Rattle.refusals.specs.declared.Refusal.{Refusal}
use Rattle.refusals.specs.declared.Refusal.TheVariants.{ShortList, Broken, Recording, OtherChannels, BadWave, NoRoom}
use Rattle.refusals.specs.Refusals.{code_of, row}
use Rattle.wave.specs.declared.Starts.{Starts}
use Rattle.wave.specs.declared.Layout.{Layout}
use Rattle.wave.specs.declared.Wave.{Wave}
use Rattle.wave.specs.declared.Judged.{Judged}
use Rattle.wave.specs.declared.Judged.TheVariants.{Is, Refused}
use Rattle.wave.specs.Files.{file_of}
use Rattle.wave.specs.Reader.{file_judged}
use Rattle.wave.specs.Memory.{frame_words, bytes_of, loaded_of}
use Rattle.channel.specs.declared.Channel.{Channel}
use Rattle.channel.specs.declared.Change.TheVariants.{Head}
use Rattle.channel.specs.declared.HeadChange.TheVariants.{Load}
use Rattle.sampler.specs.declared.Sampler.{Sampler}
use Rattle.channel.specs.declared.Ask.TheVariants.{Samples}
use Rattle.channel.specs.Channels.{begins_in}
use Rattle.sampler.specs.Refusals.{present, channel_at, good_with, any_recording, against_any}
use Rattle.sampler.specs.Samplers.{answer_of}
use Rattle.recordings.specs.declared.ReadAnswer.{ReadAnswer}

-- an answer where the call isn't refused
abbrev pub given : {A : Type 0} → Result (Unit {0}) Refusal → A → Result A Refusal
given (Ok done) answer = Ok answer
given (Err refusal) answer = Err refusal

-- ---- writing: "15, 16, 8", behind row 9

-- how long the recordings are: as channel 0's is, where row 16 doesn't answer
abbrev pub samples_of : Sampler → ℕ
samples_of s = (channel_at s 0).head.data_len

-- "16 for channels of different lengths"
abbrev pub lengths_differ : Sampler → Bool
lengths_differ s = list_any (λ (c : Channel). not (c.head.data_len == samples_of s)) (present s)

-- where each channel's recording begins in the memory: from its start on in its part (request 11/12); of one channel
-- there is no second
abbrev pub starts_in : Sampler → Starts
starts_in s = record {
  first = (channel_at s 0).head.start;
  second = cond (s.count == 2) (s.capacity + (channel_at s 1).head.start) 0;
}

-- where the recordings stand in it
abbrev pub layout_in : Sampler → Layout
layout_in s = record { channels = s.count; samples = samples_of s; starts = starts_in s }

-- "8 for a short output buffer"
abbrev pub write_rows : Bool → Bool → Bool → Layout → ℕ → Result (Unit {0}) Refusal
write_rows good recording differ l room =
    row (not good) Broken
    (row recording Recording (row differ OtherChannels (row (nat_lt room (bytes_of l)) ShortList (Ok tt))))

unfoldable pub write_judged : Sampler → ℕ → ℕ → Result (Unit {0}) Refusal
write_judged s room size = write_rows (good_with s size) (any_recording s) (lengths_differ s) (layout_in s) room

abbrev pub write_number : Sampler → ℕ → ℕ → ℕ
write_number s room size = code_of (write_judged s room size)

-- how many bytes are written
unfoldable pub write_wave_of : Sampler → ℕ → ℕ → Result ℕ Refusal
write_wave_of s room size = given (write_judged s room size) (bytes_of (layout_in s))

-- the file in the front of the list, whose rest is kept
abbrev pub wave_after_by : ℕ → Layout → List ℕ → List ℕ → Result (Unit {0}) Refusal → List ℕ
wave_after_by rate l m out done =
    cond (is_ok done) (file_of rate l.channels l.samples (frame_words l m) ++ drop (bytes_of l) out) out

unfoldable pub wave_after : Sampler → ℕ → List ℕ → List ℕ → List ℕ
wave_after s rate m out = wave_after_by rate (layout_in s) m out (write_judged s (length out) (length m))

-- ---- reading: "15, 17, 16, 18", behind row 9

-- "17 for a file cut short, of another form, or with sizes or a `fact` count that disagree"
abbrev pub bad_file : Judged → Bool
bad_file (Is w) = false
bad_file Refused = true

-- what a file holds; of a bad one nothing
abbrev pub held_in : Judged → Wave
held_in (Is w) = w
held_in Refused = record { rate = 0; channels = 0; samples = 0; first = 0 }

-- "16 for .. another channel count"; request 11/12: "18 means more than it may hold without moving another", on one of the
-- channels in use
abbrev pub read_rows : Bool → Bool → Judged → ℕ → Bool → Result (Unit {0}) Refusal
read_rows good recording j count short =
    row (not good) Broken
    (row recording Recording (row (bad_file j) BadWave
    (row (not ((held_in j).channels == count)) OtherChannels (row short NoRoom (Ok tt)))))

unfoldable pub read_judged : Sampler → Judged → ℕ → Result (Unit {0}) Refusal
read_judged s j size =
    let a = against_any (Samples (held_in j).samples) s in
    read_rows (good_with s size) a.blocked j s.count a.short

abbrev pub read_number : Sampler → Judged → ℕ → ℕ
read_number s j size = code_of (read_judged s j size)

-- the record: each channel's recording is as long as the file's. The answer is the file's rate
unfoldable pub read_wave_of : Sampler → List ℕ → ℕ → ReadAnswer
read_wave_of s f size =
    let j = file_judged f in
    let done = read_judged s j size in
    record {
      sampler = (answer_of done (Head (Load (held_in j).samples)) s).sampler;
      read = given done (held_in j).rate;
    }

-- where what is read for each channel begins: where a recording of its chosen phrase does
abbrev pub beginnings_in : Sampler → Starts
beginnings_in s = record {
  first = begins_in (channel_at s 0);
  second = cond (s.count == 2) (s.capacity + begins_in (channel_at s 1)) 0;
}

-- the memory: from there on it is the file's channel
unfoldable pub read_memory : Sampler → List ℕ → List ℕ → List ℕ
read_memory s f m = cond (is_ok (read_judged s (file_judged f) (length m))) (loaded_of f (beginnings_in s) m) m
