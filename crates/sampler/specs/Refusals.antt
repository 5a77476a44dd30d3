-- Document 01's table: how each call is refused, in the table's order, and its number, 0 where none of its rows holds.
-- Definitions only.
use Rattle.std.specs.Prelude.{ℕ, ◌-◌, ◌*◌, ◌/◌, ◌%◌, ◌^◌, min, max, Bool, true, false, not, ◌&&◌, ◌||◌, cond, List, leb, ltb, eqb, take, get_or, Float, Result, Ok, Err}
use Rattle.std.specs.Float.Ieee.{le}
use Rattle.std.specs.List.{list_any, list_all, fold}
use Rattle.binary32.specs.Leaves.{zero32, one32}
use Rattle.refusals.specs.declared.Refusal.{Refusal}
use Rattle.refusals.specs.declared.Refusal.TheVariants.{
  NoChannel,
  BadNote,
  BadPosition,
  BeyondLimits,
  Full,
  ClockEnd,
  Broken,
  BadRun,
  Recording,
  NoRoom,
  NoPhrase,
  PhraseInUse,
  PhraseRecording,
}
use Rattle.refusals.specs.Refusals.{code_of, row}
use Rattle.common_types.specs.declared.Params.{Params}
use Rattle.common_types.specs.declared.Note.{Note}
use Rattle.common_types.specs.Settings.{beyond_limits}
use Rattle.recorder.specs.Recording.{is_recording_of}
use Rattle.channel.specs.declared.Change.{Change}
use Rattle.channel.specs.declared.Change.TheVariants as change
use Rattle.channel.specs.declared.HeadChange.{HeadChange}
use Rattle.channel.specs.declared.HeadChange.TheVariants.{
  StartRecording,
  StopRecording,
  Interpolate,
  Load,
  Choose,
  Delete,
}
use Rattle.channel.specs.declared.Ask.{Ask}
use Rattle.channel.specs.declared.Against.{Against}
use Rattle.channel.specs.declared.Channel.{Channel}
use Rattle.channel.specs.Heads.{last_time}
use Rattle.channel.specs.Tables.{asks_of}
use Rattle.channel.specs.Channels.{channel_of, full_of, against_of, good_channel}
use Rattle.sampler.specs.declared.Sampler.{Sampler}
use Rattle.sampler.specs.declared.Asked.{Asked}
use Rattle.sampler.specs.declared.FrameAsked.{FrameAsked}
use Rattle.sampler.specs.declared.RunAsked.{RunAsked}
use Rattle.sampler.specs.declared.Ran.{Ran}

-- the channels that there are
abbrev pub present : Sampler → List Channel
present s = take s.count s.channels

-- channel j; past the last it is one that set-up makes
abbrev pub channel_at : Sampler → ℕ → Channel
channel_at s j = get_or s.channels j (channel_of (record { auto_passthru = false }))

-- ---- row 9: what set-up can give, and records
unfoldable pub good_sizes : ℕ → ℕ → Bool
good_sizes count capacity = (eqb count 1 || eqb count 2) && leb 1 capacity && leb capacity (2 ^ 22)

unfoldable pub good_sampler : Sampler → Bool
good_sampler s = good_sizes s.count s.capacity && list_all (good_channel s.capacity) (present s)

-- the lent memory's length divided by the channel count, rounded down, at most 2 ^ 22
unfoldable pub capacity_of : ℕ → ℕ → ℕ
capacity_of count size = min (size / count) (2 ^ 22)

-- a good record, and memory that is long enough for it
unfoldable pub good_with : Sampler → ℕ → Bool
good_with s size = good_sampler s && leb (s.count * s.capacity) size

-- ---- the other rows
abbrev pub no_channel : Sampler → ℕ → Bool
no_channel s j = not (ltb j s.count)

abbrev pub bad_note : Note → Bool
bad_note note = ltb 15 note.channel

-- NaN is not in 0 to 1
abbrev pub bad_position : Float → Bool
bad_position position = not (le zero32 position && le position one32)

abbrev pub any_full : Sampler → Bool
any_full s = list_any full_of (present s)

-- row 15 of request 10/12
abbrev pub records : Channel → Bool
records c = is_recording_of c.head.recorder

abbrev pub any_recording : Sampler → Bool
any_recording s = list_any records (present s)

-- what the channels in use have against what a change asks: one of them has something in its way, or too little room
unfoldable pub against_any : Ask → Sampler → Against
against_any a s = record {
  blocked = list_any (λ (c : Channel). (against_of s.capacity a c).blocked) (present s);
  short = list_any (λ (c : Channel). (against_of s.capacity a c).short) (present s);
}

-- the clock of a channel that would be stepped stands at its end
abbrev pub at_end : Channel → Bool
at_end c = leb last_time c.head.now

-- ---- what the rows of a call ask of the record. Each engine answers in its own way, and the rows stand once
abbrev pub asked_of : Sampler → Change → Asked
asked_of s x = record { good = good_sampler s; against = against_any (asks_of x) s }

-- a frame of n entries steps the first n channels
abbrev pub frame_asked_of : Sampler → ℕ → ℕ → FrameAsked
frame_asked_of s n size = record { good = good_with s size; count = s.count; ended = list_any at_end (take n s.channels) }

-- ---- how each call is judged: as the first `row` whose test holds refuses it, and done where none does. Its number is
-- the `code_of` that
unfoldable pub set_up_judged : ℕ → ℕ → Result (Unit {0}) Refusal
set_up_judged count size = row (not (good_sizes count (capacity_of count size))) Broken (Ok tt)

abbrev pub set_up_number : ℕ → ℕ → ℕ
set_up_number count size = code_of (set_up_judged count size)

unfoldable pub start_rows : Asked → Float → Note → Params → Result (Unit {0}) Refusal
start_rows a position note p =
    row (not a.good) Broken
    (row (bad_note note) BadNote
    (row (bad_position position) BadPosition
    (row (beyond_limits p) BeyondLimits (row a.against.blocked Full (Ok tt)))))

unfoldable pub stop_rows : Asked → Note → Params → Result (Unit {0}) Refusal
stop_rows a note p =
    row (not a.good) Broken (row (bad_note note) BadNote (row (beyond_limits p) BeyondLimits (Ok tt)))

unfoldable pub speed_rows : Asked → Note → Result (Unit {0}) Refusal
speed_rows a note = row (not a.good) Broken (row (bad_note note) BadNote (Ok tt))

-- what a change of the heads has behind row 9: start and stop of recording, and request 7/12's setting, nothing; a
-- recording that is loaded (10/12), "15 while recording" and "18 for more samples" than it may hold; a choice and a delete
-- (11/12) "19 for a phrase number of eight or more", then "21 for .. a new choice of phrase while recording", "20 for a
-- delete of a phrase in use or being recorded"
abbrev pub head_rows : Asked → HeadChange → Result (Unit {0}) Refusal
head_rows a StartRecording = Ok tt
head_rows a StopRecording = Ok tt
head_rows a (Interpolate on) = Ok tt
head_rows a (Load samples) = row a.against.blocked Recording (row a.against.short NoRoom (Ok tt))
head_rows a (Choose k) = row (leb 8 k) NoPhrase (row a.against.blocked PhraseRecording (Ok tt))
head_rows a (Delete k) = row (leb 8 k) NoPhrase (row a.against.blocked PhraseInUse (Ok tt))

-- a call that changes every channel, by its change
abbrev pub change_rows : Asked → Change → Result (Unit {0}) Refusal
change_rows a (change.Start p position note velocity) = start_rows a position note p
change_rows a (change.Stop p note) = stop_rows a note p
change_rows a (change.Speed note speed) = speed_rows a note
change_rows a (change.Head d) = row (not a.good) Broken (head_rows a d)
change_rows a change.Reset = row (not a.good) Broken (Ok tt)

abbrev pub change_judged : Sampler → Change → Result (Unit {0}) Refusal
change_judged s x = change_rows (asked_of s x) x

abbrev pub change_number : Sampler → Change → ℕ
change_number s x = code_of (change_judged s x)

unfoldable pub sample_judged : Sampler → ℕ → Params → ℕ → Result (Unit {0}) Refusal
sample_judged s j p size =
    row (not (good_with s size)) Broken
    (row (no_channel s j) NoChannel
    (row (beyond_limits p) BeyondLimits (row (at_end (channel_at s j)) ClockEnd (Ok tt))))

abbrev pub sample_number : Sampler → ℕ → Params → ℕ → ℕ
sample_number s j p size = code_of (sample_judged s j p size)

-- a frame of n entries
abbrev pub frame_rows : FrameAsked → ℕ → Params → Result (Unit {0}) Refusal
frame_rows a n p =
    row (not a.good) Broken
    (row (ltb a.count n) NoChannel (row (beyond_limits p) BeyondLimits (row a.ended ClockEnd (Ok tt))))

unfoldable pub frame_judged : Sampler → ℕ → Params → ℕ → Result (Unit {0}) Refusal
frame_judged s n p size = frame_rows (frame_asked_of s n size) n p

abbrev pub frame_number : Sampler → ℕ → Params → ℕ → ℕ
frame_number s n p size = code_of (frame_judged s n p size)

-- ---- a run of frames (request 3/12): each entry of it is one channel's, frame after frame

-- the largest clock of these channels
abbrev pub later_of : ℕ → Channel → ℕ
later_of time c = max time c.head.now

unfoldable pub latest_of : List Channel → ℕ
latest_of cs = fold later_of 0 cs

-- the frames that are left until the clock of a channel in use stands at its end
unfoldable pub frames_left : Sampler → ℕ
frames_left s = last_time - latest_of (present s)

-- what its rows ask
abbrev pub run_asked_of : Sampler → ℕ → RunAsked
run_asked_of s size = record { good = good_with s size; count = s.count; room = frames_left s }

-- a run of n entries: "9, then 10 for a length that isn't a whole number of frames, then 4, then 6"
abbrev pub run_rows : RunAsked → ℕ → Params → Result (Unit {0}) Refusal
run_rows a n p =
    row (not a.good) Broken
    (row (not (eqb (n % a.count) 0)) BadRun
    (row (beyond_limits p) BeyondLimits (row (ltb a.room (n / a.count)) ClockEnd (Ok tt))))

unfoldable pub run_judged : Sampler → ℕ → Params → ℕ → Result (Unit {0}) Refusal
run_judged s n p size = run_rows (run_asked_of s size) n p

abbrev pub run_number : Sampler → ℕ → Params → ℕ → ℕ
run_number s n p size = code_of (run_judged s n p size)

-- a run so judged has begun: it is done or, "the one refusal after work has begun", it meets a clock's end
abbrev pub begun : Result (Unit {0}) Refusal → Bool
begun done = eqb (code_of done) 0 || eqb (code_of done) 6

-- the frames of it that are done: with 6 those that there is room for, and with 9, 10 and 4 none
abbrev pub done_with : Result (Unit {0}) Refusal → RunAsked → ℕ → ℕ
done_with done a n = cond (begun done) (min (n / a.count) a.room) 0

unfoldable pub done_of : Sampler → ℕ → Params → ℕ → ℕ
done_of s n p size = done_with (run_judged s n p size) (run_asked_of s size) n

-- both
unfoldable pub run_done : RunAsked → ℕ → Params → Ran
run_done a n p = record { frames = done_with (run_rows a n p) a n; done = run_rows a n p }

-- a gather of the phrases (11/12): "21 for a gather .. while recording"
unfoldable pub gather_judged : Sampler → ℕ → Result (Unit {0}) Refusal
gather_judged s size = row (not (good_with s size)) Broken (row (any_recording s) PhraseRecording (Ok tt))

abbrev pub gather_number : Sampler → ℕ → ℕ
gather_number s size = code_of (gather_judged s size)

-- a question of one channel, before the rows of its own
abbrev pub question_rows : {A : Type 0} → Sampler → ℕ → Result A Refusal → Result A Refusal
question_rows s j rest = row (not (good_sampler s)) Broken (row (no_channel s j) NoChannel rest)

unfoldable pub channel_judged : Sampler → ℕ → Result (Unit {0}) Refusal
channel_judged s j = question_rows s j (Ok tt)

abbrev pub channel_number : Sampler → ℕ → ℕ
channel_number s j = code_of (channel_judged s j)
