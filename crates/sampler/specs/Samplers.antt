-- What each call does to the record and the memory lent with it (document 01, module 6). On a refusal both hold what
-- they held. Definitions only.
use Rattle.std.specs.Prelude.{◌≡◌, ℕ, zero, suc, ◌+◌, ◌*◌, ◌≤◌, ◌<◌, Bool, cond, List, [], ◌∷◌, ◌++◌, map, length, take, drop, get_or, set, Float, Result, is_ok}
use Rattle.std.proofs.lemmas.List.Edits.{sets}
use Rattle.std.specs.Float.{binary32}
use Rattle.std.specs.Float.Ieee.{mul}
use Rattle.binary32.specs.Leaves.{zero32}
use Rattle.refusals.specs.declared.Refusal.{Refusal}
use Rattle.common_types.specs.declared.InitParams.{InitParams}
use Rattle.common_types.specs.declared.Params.{Params}
use Rattle.common_types.specs.declared.Note.{Note}
use Rattle.channel.specs.declared.Change.{Change}
use Rattle.channel.specs.declared.Change.TheVariants as change
use Rattle.channel.specs.declared.HeadChange.TheVariants.{
  StartRecording,
  StopRecording,
  Interpolate,
  Choose,
  Delete,
}
use Rattle.channel.specs.declared.Channel.{Channel}
use Rattle.channel.specs.declared.Played.{Played}
use Rattle.channel.specs.Channels.{channel_of, changed_of, gathered_in, gathered_memory, memory_of}
use Rattle.channel.specs.Channels.{process_sample_of as channel_sample_of}
use Rattle.sampler.specs.Refusals.{
  present,
  channel_at,
  capacity_of,
  set_up_judged,
  change_judged,
  gather_judged,
  sample_judged,
  frame_judged,
  run_judged,
  done_of,
}
use Rattle.sampler.specs.declared.Sampler.{Sampler}
use Rattle.sampler.specs.declared.Answer.{Answer}
use Rattle.sampler.specs.declared.SampleAnswer.{SampleAnswer}
use Rattle.sampler.specs.declared.Ran.{Ran}

abbrev pub with_channels : List Channel → Sampler → Sampler
with_channels cs s = record { channels = cs; count = s.count; capacity = s.capacity }

-- ---- set-up
abbrev pub sampler_of : ℕ → InitParams → ℕ → Sampler
sampler_of count p capacity = record { channels = channel_of p ∷ channel_of p ∷ []; count = count; capacity = capacity }

-- refused, it hands back a record of no channels, which every call answers with 9
unfoldable pub set_up_of : ℕ → InitParams → ℕ → Answer
set_up_of count p size = record {
  sampler = cond (is_ok (set_up_judged count size)) (sampler_of count p (capacity_of count size)) (sampler_of 0 p 0);
  done = set_up_judged count size;
}

-- ---- calls that change every channel, all or none
unfoldable pub each_of : Change → Sampler → Sampler
each_of change s = with_channels (sets s.channels 0 (map (changed_of change) (present s))) s

-- the change where it isn't refused
unfoldable pub answer_of : Result (Unit {0}) Refusal → Change → Sampler → Answer
answer_of done change s = record { sampler = cond (is_ok done) (each_of change s) s; done = done }

-- the call that makes it, under whatever name
abbrev pub change_of : Sampler → Change → Answer
change_of s change = answer_of (change_judged s change) change s

abbrev pub start_playing_of : Sampler → Float → Note → Float → Params → Answer
start_playing_of s position note velocity p = change_of s (change.Start p position note velocity)

abbrev pub stop_playing_of : Sampler → Note → Params → Answer
stop_playing_of s note p = change_of s (change.Stop p note)

abbrev pub set_note_speed_of : Sampler → Note → Float → Answer
set_note_speed_of s note speed = change_of s (change.Speed note speed)

abbrev pub start_recording_of : Sampler → Answer
start_recording_of s = change_of s (change.Head StartRecording)

abbrev pub stop_recording_of : Sampler → Answer
stop_recording_of s = change_of s (change.Head StopRecording)

-- request 7/12: "It is a setting per sampler"
abbrev pub set_interpolation_of : Sampler → Bool → Answer
set_interpolation_of s on = change_of s (change.Head (Interpolate on))

-- request 11/12: "Choice, delete and gather act on all channels or none"
abbrev pub choose_phrase_of : Sampler → ℕ → Answer
choose_phrase_of s k = change_of s (change.Head (Choose k))

abbrev pub delete_phrase_of : Sampler → ℕ → Answer
delete_phrase_of s k = change_of s (change.Head (Delete k))

abbrev pub reset_of : Sampler → Answer
reset_of s = change_of s change.Reset

-- ---- a sample of one channel

-- what a step of channel j asks: it is one of the two, and its part lies within memory of that size
pub record Ready (s : Sampler) (j size : ℕ) : Type 0 where
  pub below : j < 2
  pub part : j * s.capacity + s.capacity ≤ size

-- the same of the first n channels
pub record Steps (s : Sampler) (n size : ℕ) : Type 0 where
  pub below : n ≤ 2
  pub parts : n * s.capacity ≤ size

-- what k frames of a run of n entries ask: so many entries and, if there are frames, the steps of every channel in use
pub record Turns (s : Sampler) (k n size : ℕ) : Type 0 where
  pub steps : 0 < k → Steps s s.count size
  pub entries : k * s.count ≤ n

-- the j-th part of the memory, of the capacity's size
unfoldable pub part_of : Sampler → ℕ → List ℕ → List ℕ
part_of s j m = take s.capacity (drop (j * s.capacity) m)

unfoldable pub played_at : Sampler → ℕ → Params → Float → List ℕ → Played
played_at s j p x m = channel_sample_of p x (channel_at s j) (part_of s j m)

unfoldable pub channel_stepped_of : Sampler → ℕ → Params → Float → List ℕ → Sampler
channel_stepped_of s j p x m = with_channels (set s.channels j (played_at s j p x m).channel) s

unfoldable pub output_of : Sampler → ℕ → Params → Float → List ℕ → Float
output_of s j p x m = mul binary32 p.volume (played_at s j p x m).output

-- how many of channel j's voices move up as others leave (request 12/12)
unfoldable pub moved_at : Sampler → ℕ → Params → Float → List ℕ → ℕ
moved_at s j p x m = (played_at s j p x m).moved

-- the memory with channel j's part as the sample leaves it
unfoldable pub memory_at : Sampler → ℕ → Float → List ℕ → List ℕ
memory_at s j x m = take (j * s.capacity) m
    ++ (memory_of x (channel_at s j) (part_of s j m) ++ drop (j * s.capacity + s.capacity) m)

unfoldable pub process_sample_of : Sampler → ℕ → Float → Params → List ℕ → SampleAnswer
process_sample_of s j x p m =
    let done = sample_judged s j p (length m) in
    record {
      sampler = cond (is_ok done) (channel_stepped_of s j p x m) s;
      output = cond (is_ok done) (output_of s j p x m) zero32;
      done = done;
      moved = cond (is_ok done) (moved_at s j p x m) 0;
    }

unfoldable pub sample_memory : Sampler → ℕ → Float → Params → List ℕ → List ℕ
sample_memory s j x p m = cond (is_ok (sample_judged s j p (length m))) (memory_at s j x m) m

-- ---- a gather (request 11/12): the phrases of each channel in use are moved down in its part
pub record Gathered : Type 0 where
  pub sampler : Sampler
  pub memory : List ℕ

unfoldable pub gather_channel : ℕ → Gathered → Gathered
gather_channel j g =
    let s = g.sampler in
    record {
      sampler = with_channels (set s.channels j (gathered_in (channel_at s j) (part_of s j g.memory))) s;
      memory = take (j * s.capacity) g.memory
          ++ (gathered_memory (channel_at s j) (part_of s j g.memory) ++ drop (j * s.capacity + s.capacity) g.memory);
    }

-- n channels from j on
unfoldable pub gather_channels : ℕ → ℕ → Gathered → Gathered
gather_channels zero j g = g
gather_channels (suc n) j g = gather_channels n (j + 1) (gather_channel j g)

abbrev pub gathered_all : Sampler → List ℕ → Gathered
gathered_all s m = gather_channels s.count 0 (record { sampler = s; memory = m })

unfoldable pub gather_of : Sampler → List ℕ → Answer
gather_of s m =
    let done = gather_judged s (length m) in
    record { sampler = cond (is_ok done) (gathered_all s m).sampler s; done = done }

unfoldable pub gather_memory : Sampler → List ℕ → List ℕ
gather_memory s m = cond (is_ok (gather_judged s (length m))) (gathered_all s m).memory m

-- ---- a frame: a sample of each channel in turn, each entry replaced by its output
pub record Framed : Type 0 where
  pub sampler : Sampler
  pub frame : List Float
  pub memory : List ℕ

abbrev pub framed : Sampler → List Float → List ℕ → Framed
framed s frame m = record { sampler = s; frame = frame; memory = m }

-- the record, the frame and the memory are those
pub record Frames (f : Framed) (s : Sampler) (entries : List Float) (m : List ℕ) : Type 0 where
  pub sampler : s ≡ f.sampler
  pub frame : entries ≡ f.frame
  pub memory : m ≡ f.memory

unfoldable pub entry_of : Params → ℕ → Framed → Framed
entry_of p j f = record {
  sampler = channel_stepped_of f.sampler j p (get_or f.frame j zero32) f.memory;
  frame = set f.frame j (output_of f.sampler j p (get_or f.frame j zero32) f.memory);
  memory = memory_at f.sampler j (get_or f.frame j zero32) f.memory;
}

-- n entries from j on
unfoldable pub entries_of : Params → ℕ → ℕ → Framed → Framed
entries_of p zero j f = f
entries_of p (suc n) j f = entries_of p n (j + 1) (entry_of p j f)

unfoldable pub framed_of : Sampler → List Float → Params → List ℕ → Framed
framed_of s frame p m =
    let f = framed s frame m in
    cond (is_ok (frame_judged s (length frame) p (length m))) (entries_of p (length frame) 0 f) f

-- how many voices move up in these entries: the sum over their channels
unfoldable pub entries_moved : Params → ℕ → ℕ → Framed → ℕ
entries_moved p zero j f = 0
entries_moved p (suc n) j f =
    moved_at f.sampler j p (get_or f.frame j zero32) f.memory + entries_moved p n (j + 1) (entry_of p j f)

unfoldable pub frame_moved : Sampler → List Float → Params → List ℕ → ℕ
frame_moved s frame p m = cond (is_ok (frame_judged s (length frame) p (length m)))
    (entries_moved p (length frame) 0 (framed s frame m)) 0

-- ---- a run of frames (request 3/12): the front entries, one for each channel in use, as a frame, then the rest

-- k frames, and what stands behind them as it was
unfoldable pub frames_of : Params → ℕ → Framed → Framed
frames_of p zero f = f
frames_of p (suc k) f =
    let n = f.sampler.count in
    let g = entries_of p n 0 (framed f.sampler (take n f.frame) f.memory) in
    let rest = frames_of p k (framed g.sampler (drop n f.frame) g.memory) in
    framed rest.sampler (g.frame ++ rest.frame) rest.memory

-- the run as the call leaves it, with the record and the memory
unfoldable pub ran_of : Sampler → List Float → Params → List ℕ → Framed
ran_of s run p m = frames_of p (done_of s (length run) p (length m)) (framed s run m)

-- what the call answers for a run of n entries
unfoldable pub run_answer : Sampler → ℕ → Params → ℕ → Ran
run_answer s n p size = record { frames = done_of s n p size; done = run_judged s n p size }
