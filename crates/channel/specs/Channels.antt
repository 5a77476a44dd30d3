-- What each call does to one channel (document 01, module 6, and the Rust's Channel). The voices are the first `count`
-- of 32 places; what stands in the others is kept as it was. `m` is the channel's part of the lent memory. Definitions
-- only.
use Rattle.std.specs.Prelude.{Option, Some, None, ℕ, ◌+◌, ◌-◌, Bool, false, not, ◌&&◌, cond, List, ◌++◌, map, leb, ltb, eqb, length, take, drop, get_or, set, replicate, Float}
use Rattle.std.proofs.lemmas.List.Edits.{sets}
use Rattle.std.specs.Float.{binary32}
use Rattle.std.specs.Float.Ieee.{add}
use Rattle.binary32.specs.Leaves.{bits_of, zero32, one32}
use Rattle.std.specs.Option.{option_map_or}
use Rattle.std.specs.List.{list_any, list_all, fold, position_from}
use Rattle.walks.specs.Walks.{without, behind}
use Rattle.common_types.specs.declared.InitParams.{InitParams}
use Rattle.common_types.specs.declared.Params.{Params}
use Rattle.common_types.specs.declared.Note.{Note}
use Rattle.phrases.specs.declared.Phrase.{Phrase}
use Rattle.phrases.specs.declared.Beside.{Beside}
use Rattle.phrases.specs.Phrases.{no_phrase, no_phrases, others_of, beside_of, stored_in}
use Rattle.phrases.specs.Gathering.{gathering_of}
use Rattle.recorder.specs.Recording.{recorded_of, data_after}
use Rattle.voice.specs.declared.Voice.{Voice}
use Rattle.voice.specs.declared.Moment.{Moment}
use Rattle.voice.specs.declared.Tick.{Tick}
use Rattle.voice.specs.Voices.{
  tick_of,
  should_remove_of,
  product_of,
  turn_of,
  finish_of,
  fresh_of,
  good_voice,
  blank_voice,
  at_speed_of,
}
use Rattle.channel.specs.Heads.{
  recording_in,
  phrase_by,
  begins_at,
  written_in,
  starting_at,
  head_of,
  head_changed_of,
  moment_on,
  moment_of,
  with_recorded,
  passthru_of,
  mixed_of,
  closed_of,
  good_head,
}
use Rattle.channel.specs.Tables.{
  place_of,
  with_recording,
  good_table,
  table_after,
  several_after,
  head_names,
  found_by,
  leaving_of,
  against_by,
}
use Rattle.channel.specs.declared.Head.{Head}
use Rattle.channel.specs.declared.Ask.{Ask}
use Rattle.channel.specs.declared.Against.{Against}
use Rattle.channel.specs.declared.Channel.{Channel}
use Rattle.channel.specs.declared.Change.{Change}
use Rattle.channel.specs.declared.Change.TheVariants as change
use Rattle.channel.specs.declared.HeadChange.{HeadChange}
use Rattle.channel.specs.declared.HeadChange.TheVariants.{StartRecording, StopRecording}
use Rattle.channel.specs.declared.Played.{Played}
use Rattle.channel.specs.declared.Turned.{Turned}

abbrev pub with_head : Head → Channel → Channel
with_head h
    c = record { voices = c.voices; table = c.table; count = c.count; head = h; several = c.several }

abbrev pub with_voices : List Voice → ℕ → Channel → Channel
with_voices vs n
    c = record { voices = vs; table = c.table; count = n; head = c.head; several = c.several }

-- the voices that there are
abbrev pub live : Channel → List Voice
live c = take c.count c.voices

-- ---- set-up and reset
unfoldable pub channel_of : InitParams → Channel
channel_of p = record {
  voices = replicate 32 blank_voice;
  table = no_phrases;
  count = 0;
  head = head_of (cond p.auto_passthru one32 zero32) false;
  several = false;
}

unfoldable pub reset_of : Channel → Channel
reset_of c = record {
  voices = c.voices;
  table = c.table;
  count = 0;
  head = head_of zero32 c.head.interpolates;
  several = false;
}

-- ---- phrases (request 11/12)

-- those that aren't chosen, by their numbers; then all of them
abbrev pub others_in : Channel → List Phrase
others_in c = others_of c.several c.head.chosen c.table

abbrev pub phrases_in : Channel → List Phrase
phrases_in c = with_recording c.head (others_in c)

-- the phrase of a number, and what its voices go by
abbrev pub phrase_at : Channel → ℕ → Phrase
phrase_at c k = phrase_by c.head k c.several (get_or c.table (place_of k) no_phrase)

abbrev pub moment_for : Channel → ℕ → Moment
moment_for c k = moment_on c.head k (phrase_at c k).length

-- what the others say to the chosen one
abbrev pub beside_in : ℕ → Channel → Beside
beside_in capacity c = beside_of c.head.start capacity (others_in c)

abbrev pub behind_in : Channel → ℕ
behind_in c = (beside_in 0 c).behind

-- where a recording begins that starts or is read
abbrev pub begins_in : Channel → ℕ
begins_in c = begins_at (behind_in c) c.head

-- a voice has the phrase of that number
unfoldable pub uses_of : ℕ → Channel → Bool
uses_of k c = list_any (λ (v : Voice). eqb v.phrase k) (live c)

-- what the channel has against what a change asks, in a record of that capacity
abbrev pub against_of : ℕ → Ask → Channel → Against
against_of capacity a c =
    let used = option_map_or (λ k. uses_of k c) (leaving_of a) false in
    against_by a c.head c.count used (beside_in capacity c) capacity

-- a change that touches no voice
unfoldable pub head_changed_in : HeadChange → Channel → Channel
head_changed_in d c = record {
  voices = c.voices;
  table = table_after d c.head c.several c.table;
  count = c.count;
  head = head_changed_of d (found_by d c.several (get_or c.table (place_of (head_names d)) no_phrase) (behind_in c))
      c.head;
  several = several_after d c.head c.several;
}

-- the phrases moved down in the channel's part m, and the part then
unfoldable pub gathered_in : Channel → List ℕ → Channel
gathered_in c m =
    let ps = (gathering_of (phrases_in c) m).phrases in
    record {
      voices = c.voices;
      table = cond c.several ps c.table;
      count = c.count;
      head = starting_at (get_or ps (place_of c.head.chosen) no_phrase).start c.head;
      several = c.several;
    }

unfoldable pub gathered_memory : Channel → List ℕ → List ℕ
gathered_memory c m = (gathering_of (phrases_in c) m).memory

-- ---- keys
abbrev pub unfinished_of : Voice → Bool
unfinished_of v = not v.finished

unfoldable pub any_unfinished_of : Channel → Bool
any_unfinished_of c = list_any unfinished_of (live c)

-- pass-through follows whether a voice is unfinished
unfoldable pub handled_of : Params → Channel → Channel
handled_of p c = with_head (passthru_of p (any_unfinished_of c) c.head) c

-- one voice more, at the end, where there is a place
unfoldable pub pushed_of : Voice → Channel → Channel
pushed_of v c = cond (ltb c.count 32) (with_voices (set c.voices c.count v) (c.count + 1) c) c

-- an empty recording takes no voice
unfoldable pub start_playing_of : Params → Float → Note → Float → Channel → Channel
start_playing_of p position note velocity c =
    cond (eqb c.head.data_len 0) c
    (handled_of p (pushed_of (fresh_of p position note velocity (moment_of c.head)) c))

abbrev pub same_note : Note → Note → Bool
same_note a b = eqb a.note b.note && eqb a.channel b.channel

-- the place of the first unfinished voice with that note
unfoldable pub wanted_of : Note → Voice → Bool
wanted_of note v = same_note v.note note && unfinished_of v

unfoldable pub find_of : Note → Channel → Option ℕ
find_of note c = position_from (wanted_of note) 0 (live c)

-- the voice at one of the 32 places is finished now
unfoldable pub finished_at_of : Params → Channel → Option ℕ → Channel
finished_at_of p c None = c
finished_at_of p c (Some i) =
    cond (ltb i 32)
    (handled_of p (with_voices
    (set c.voices i (finish_of c.head.now p.decay_samples (get_or c.voices i blank_voice))) c.count c))
    c

unfoldable pub stop_playing_of : Params → Note → Channel → Channel
stop_playing_of p note c = finished_at_of p c (find_of note c)

-- every voice with that note, finished or not
unfoldable pub sped_of : Note → Float → Voice → Voice
sped_of note speed v = cond (same_note v.note note) (at_speed_of speed v) v

unfoldable pub set_note_speed_of : Note → Float → Channel → Channel
set_note_speed_of note speed c = with_voices (sets c.voices 0 (map (sped_of note speed) (live c))) c.count c

-- ---- recording
abbrev pub start_recording_of : Channel → Channel
start_recording_of c = head_changed_in StartRecording c

abbrev pub stop_recording_of : Channel → Channel
stop_recording_of c = head_changed_in StopRecording c

-- ---- a sample

-- what a sample does with a voice: its turn; whether it leaves, once it has taken that; and the output so far, with what
-- the voice adds to it
pub record Turning : Type 0 where
  pub turn : Voice → Voice
  pub leaves : Voice → Bool
  pub adds : Float → Voice → Float

-- what is left of the voices after their turns
unfoldable pub kept_of : Turning → List Voice → List Voice
kept_of s vs = without s.leaves (map s.turn vs)

-- how many of them move up (request 12/12): the kept voices behind the first that leaves
unfoldable pub tidied_of : Turning → List Voice → ℕ
tidied_of s vs = length (behind s.leaves (map s.turn vs))

-- what they add, in turn
unfoldable pub heard_sum : Turning → List Voice → Float
heard_sum s vs = fold s.adds zero32 vs

unfoldable pub played_of : Turning → Channel → Played
played_of s c = record {
  channel = with_voices (sets c.voices 0 (kept_of s (live c))) (length (kept_of s (live c))) c;
  output = heard_sum s (live c);
  moved = tidied_of s (live c);
}

-- a voice that is to be removed is silent
unfoldable pub added_of : Bool → Float → Float → Float
added_of silent out value = cond silent out (add binary32 out value)

-- what a sample does with the voices of one recording
unfoldable pub turning_by : Tick → List ℕ → Turning
turning_by t m = record {
  turn = turn_of t m;
  leaves = should_remove_of t;
  adds = λ (out : Float) (v : Voice). added_of (should_remove_of t v) out (product_of t m v);
}

-- what it does with those of an empty one: nothing
unfoldable pub resting : Turning
resting = record { turn = λ (v : Voice). v; leaves = λ (v : Voice). false; adds = λ (out : Float) (v : Voice). out }

-- what it does with one voice, at its moment and with its recording
unfoldable pub turning_at : (Tick → List ℕ → Turning) → Params → Moment → List ℕ → Turning
turning_at by p at m = cond (eqb at.data_len 0) resting (by (tick_of p at) m)

-- what a voice's turn gives: the voice after it, whether it stays, and the output with what it adds
abbrev pub turned_of : Turning → Float → Voice → Turned
turned_of s out v = record { voice = s.turn v; stays = not (s.leaves (s.turn v)); output = s.adds out v }

-- each voice v has a moment of its own, `at v`, and a recording of its own, `m v`
unfoldable pub turning_of : (Tick → List ℕ → Turning) → Params → (Voice → Moment) → (Voice → List ℕ) → Turning
turning_of by p at m = record {
  turn = λ (v : Voice). (turning_at by p (at v) (m v)).turn v;
  leaves = λ (v : Voice). (turning_at by p (at v) (m v)).leaves v;
  adds = λ (out : Float) (v : Voice). (turning_at by p (at v) (m v)).adds out v;
}

-- each voice goes by its own phrase, and hears that of it which stands in the memory
unfoldable pub turning_in : Params → Channel → List ℕ → Turning
turning_in p c m =
    turning_of turning_by p (λ (v : Voice). moment_for c v.phrase) (λ (v : Voice). stored_in (phrase_at c v.phrase) m)

-- the channel once the sample x has been recorded, and its memory: the recorder is handed a part of it
unfoldable pub taken_of : List ℕ → Channel → Channel
taken_of m c =
    let r = written_in (behind_in c) c.head (length m) in
    with_head (with_recorded (recorded_of c.head.recorder c.head.data_len (r.to - r.from)) c.head) c

unfoldable pub memory_of : Float → Channel → List ℕ → List ℕ
memory_of x c m =
    let r = written_in (behind_in c) c.head (length m) in
    take r.from m
    ++ (data_after c.head.recorder (bits_of x) (take (r.to - r.from) (drop r.from m)) ++ drop r.to m)

-- records first, then plays, then adds the input at its level, and closes
unfoldable pub process_sample_of : Params → Float → Channel → List ℕ → Played
process_sample_of p x c m =
    let d = taken_of m c in
    let r = played_of (turning_in p d (memory_of x c m)) d in
    record {
      channel = with_head (closed_of p (any_unfinished_of r.channel) d.head) r.channel;
      output = mixed_of x r.output d.head;
      moved = r.moved;
    }

-- ---- what a call other than a sample does
unfoldable pub changed_of : Change → Channel → Channel
changed_of (change.Start p position note velocity) c = start_playing_of p position note velocity c
changed_of (change.Stop p note) c = stop_playing_of p note c
changed_of (change.Speed note speed) c = set_note_speed_of note speed c
changed_of (change.Head d) c = head_changed_in d c
changed_of change.Reset c = reset_of c

-- ---- questions

-- the recording, as bit patterns, while it records too
abbrev pub recording_of : Channel → List ℕ → List ℕ
recording_of c m = stored_in (recording_in c.head) m

-- row 5 by this channel: a recording that isn't empty, and 32 voices
unfoldable pub full_of : Channel → Bool
full_of c = not (eqb c.head.data_len 0) && leb 32 c.count

-- ---- a channel that may stand in a record of that capacity
unfoldable pub good_voices_of : Channel → Bool
good_voices_of c = list_all (good_voice c.head.now) (live c)

unfoldable pub good_channel : ℕ → Channel → Bool
good_channel capacity c = leb c.count 32 && good_head capacity c.head
    && (good_table capacity c.head c.several c.table && good_voices_of c)
