-- Request 10/12, after demand 3: "Recordings out and in as WAVE", said of the calls. What a good file is, is said of its
-- bytes alone in wave/specs/Grammar.antt (`IsWave`). Definitions only. Assumes nothing.
use Rattle.std.specs.Prelude.{◌≡◌, Bool, not, List, ℕ, ◌+◌, ◌*◌, ◌^◌, ◌<◌, eqb, ltb, length, take, drop, Result, Ok}
use Rattle.std.specs.List.{list_any}
use Rattle.walks.specs.Each.{Each}
use Rattle.refusals.specs.declared.Refusal.{Refusal}
use Rattle.octets.specs.Octets.{Bytes}
use Rattle.wave.specs.Files.{file_of}
use Rattle.wave.specs.Grammar.{IsWave}
use Rattle.wave.specs.Memory.{channel_words}
use Rattle.recorder.specs.declared.State.TheVariants.{Triggered, Idle}
use Rattle.channel.specs.declared.Head.{Head}
use Rattle.channel.specs.declared.Channel.{Channel}
use Rattle.channel.specs.Heads.{holds_of}
use Rattle.channel.specs.Channels.{with_head, recording_of, beside_in, begins_in}
use Rattle.sampler.specs.declared.Sampler.{Sampler}
use Rattle.sampler.specs.Refusals.{present, good_with, any_recording}
use Rattle.recordings.specs.Waves.{samples_of, lengths_differ}
use Rattle.promises.specs.Runs.{World, read_wave, asks, write_wave, code, row, chan, own_part}
use Rattle.promises.specs.Outcomes.{on, ListOutcome, ReadOutcome, Allows, left_by}

-- the recording of channel j, for demand 3 too
abbrev pub recording : World → ℕ → List ℕ
recording w j = recording_of (chan w j) (own_part w j)

-- the words of a file, frame by frame, are the recordings of so many channels
abbrev pub Filed : World → ℕ → ℕ → List ℕ → Type 0
Filed w channels samples words = (j : ℕ) → j < channels → recording w j ≡ channel_words channels samples j words

-- each word of a memory has 32 bits, as in every memory of a program
abbrev pub Words : List ℕ → Type 0
Words m = Each (λ (x : ℕ). x < 2 ^ 32) m

-- and each record two channels by its type
abbrev pub Two : World → Type 0
Two w = length w.sampler.channels ≡ 2

-- where the next sample would be written: the recorder's place, and while nothing is recorded the end of the data
abbrev pub write_place_of : Head → ℕ
write_place_of h = elim h.recorder.state [ Triggered write ↦ write | Idle ↦ h.data_len ]

-- one of the channels in use may not hold so many samples
abbrev pub no_room : Sampler → ℕ → Bool
no_room s samples =
    list_any (λ (c : Channel). ltb (holds_of (beside_in s.capacity c) s.capacity c.head) samples) (present s)

-- ---- what a write leaves

-- "58 bytes before the first sample", and then four a sample
abbrev pub bytes_in : World → ℕ
bytes_in w = 58 + 4 * (w.sampler.count * samples_of w.sampler)

pub record Written (w : World) (rate : ℕ) (out : List ℕ) (r : ListOutcome) : Type 0 where
  pub words : List ℕ
  -- the file stands in the front of the list, byte by byte as the request lays it out,
  pub file : take (bytes_in w) r.lent ≡ file_of rate w.sampler.count (samples_of w.sampler) words
  -- and it is a good one
  pub good : IsWave (take (bytes_in w) r.lent) rate w.sampler.count words
  pub samples : good.samples ≡ samples_of w.sampler
  -- it has the recordings;
  pub recordings : Filed w w.sampler.count (samples_of w.sampler) words
  -- the answer has the bytes written, and a longer list keeps its rest
  pub answer : r.answer ≡ Ok (bytes_in w)
  pub rest : drop (bytes_in w) r.lent ≡ drop (bytes_in w) out

-- ---- what a read leaves, from w to u

-- a head whose recording is so many samples from a place of its part on
abbrev pub beginning : ℕ → ℕ → Head → Head
beginning start samples
    h = record {
      now = h.now;
      data_len = samples;
      start = start;
      passthru_volume = h.passthru_volume;
      recorder = h.recorder;
      passthru_on = h.passthru_on;
      interpolates = h.interpolates;
      chosen = h.chosen;
    }

pub record Read (w u : World) (rate channels samples : ℕ) (words : List ℕ) (answer : Result ℕ Refusal) : Type 0 where
  -- the answer is the rate
  pub rated : answer ≡ Ok rate
  -- "Reading replaces the recording of each channel"; "Demand 3's recording is then the one read."
  pub recordings : Filed u channels samples words
  -- where the recording of a channel began, or behind the other phrases if it was empty (11/12); a part keeps what stands
  -- before and behind that, and the memory what stands behind the parts
  pub before : (j : ℕ) → j < channels → take (begins_in (chan w j)) (own_part u j) ≡ take (begins_in (chan w j)) (own_part w j)
  pub rest : (j : ℕ) → j < channels
      → drop (begins_in (chan w j) + samples) (own_part u j) ≡ drop (begins_in (chan w j) + samples) (own_part w j)
  pub behind : drop (channels * w.sampler.capacity) u.memory ≡ drop (channels * w.sampler.capacity) w.memory
  -- "and puts the write place at its end;"
  pub write_place : (j : ℕ) → j < channels → write_place_of (chan u j).head ≡ samples
  -- "voices already sounding go on as after any change of data": but for its place and its length nothing of a channel
  -- moves
  pub else_kept : (j : ℕ) → j < channels → chan u j
      ≡ with_head (beginning (begins_in (chan w j)) samples (chan w j).head) (chan w j)

-- ---- of every record and memory
pub record Recordings (w : World) : Type 0 where
  -- "Writing: 15, 16, 8."
  pub write_rows : (rate : ℕ) (out : List ℕ) → code w (asks (write_wave rate out))
      ≡ row (not (good_with w.sampler (length w.memory))) 9
      (row (any_recording w.sampler) 15
      (row (lengths_differ w.sampler) 16 (row (ltb (length out) (bytes_in w)) 8 0)))
  -- "Reading: 15, 17, 16, 18." 18 "means more than it may hold without moving another" (11/12: `Room`). Of a good file,
  -- which is never answered with 17,
  pub read_rows : (f : List ℕ) (rate channels : ℕ) (words : List ℕ) (g : IsWave f rate channels words)
      → code w (read_wave f)
      ≡ row (not (good_with w.sampler (length w.memory))) 9
      (row (any_recording w.sampler) 15
      (row (not (eqb channels w.sampler.count)) 16 (row (no_room w.sampler g.samples) 18 0)))
  -- and of any other, which always is, where 9 and 15 let it.
  pub bad_rows : (f : List ℕ) → Bytes f
      → ((rate channels : ℕ) (words : List ℕ) → IsWave f rate channels words → ⊥)
      → code w (read_wave f)
      ≡ row (not (good_with w.sampler (length w.memory))) 9 (row (any_recording w.sampler) 15 17)
  pub written : (rate : ℕ) (out : List ℕ) (r : ListOutcome) → Allows (on w (asks (write_wave rate out))) r
      → code w (asks (write_wave rate out)) ≡ 0 → rate < 2 ^ 32 → Words w.memory → Two w → Written w rate out r
  pub read : (f : List ℕ) (rate channels : ℕ) (words : List ℕ) (g : IsWave f rate channels words) (r : ReadOutcome)
      → Allows (on w (read_wave f)) r → code w (read_wave f) ≡ 0 → Two w
      → Read w (left_by w (read_wave f) r) rate channels g.samples words r.answer.read
  -- "Written and read back, every sample has the same bits, NaN included, and the rate, a 32-bit whole number from the
  -- caller, is the same": whatever record reads it.
  pub back : (rate : ℕ) (out : List ℕ) (r : ListOutcome) → Allows (on w (asks (write_wave rate out))) r
      → code w (asks (write_wave rate out)) ≡ 0 → rate < 2 ^ 32 → Words w.memory → Two w
      → (u : World) (q : ReadOutcome) → Allows (on u (read_wave (take (bytes_in w) r.lent))) q
      → code u (read_wave (take (bytes_in w) r.lent)) ≡ 0 → Two u
      → (q.answer.read ≡ Ok rate)
      × ((j : ℕ) → j < w.sampler.count
      → recording (left_by u (read_wave (take (bytes_in w) r.lent)) q) j ≡ recording w j)
