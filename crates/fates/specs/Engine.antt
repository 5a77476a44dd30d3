-- One channel's engine in parts: the voice that a start makes, the voices that a sample passes over, and those that
-- leave after it. Put together, the parts are what the contracts cite: promises/proofs/Engine shows it, and the fields
-- `does` and `hears` of Demand3 say it of every call. Taken apart, an engine with one wrong part can be tried against
-- the promises (must-fail/). Definitions only. Assumes nothing.
use Rattle.std.specs.Prelude.{ℕ, Bool, ◌&&◌, ◌||◌, cond, List, eqb, Float}
use Rattle.std.specs.Float.{binary32}
use Rattle.std.specs.Float.Ieee.{add, mul}
use Rattle.common_types.specs.declared.Params.{Params}
use Rattle.common_types.specs.declared.Note.{Note}
use Rattle.common_types.specs.declared.NoteOffBehaviour.{NoteOffBehaviour}
use Rattle.common_types.specs.declared.NoteOffBehaviour.TheVariants as off
use Rattle.volume.specs.Levels.{is_static_and_mute_of, level_of}
use Rattle.binary32.specs.Leaves.{zero32}
use Rattle.phrases.specs.Phrases.{stored_in}
use Rattle.voice.specs.declared.Voice.{Voice}
use Rattle.voice.specs.declared.Moment.{Moment}
use Rattle.voice.specs.declared.Tick.{Tick}
use Rattle.voice.specs.Voices.{late_of, should_remove_of, product_of, sounded_of, ended_of, volume_stepped, fresh_of}
use Rattle.channel.specs.declared.Channel.{Channel}
use Rattle.channel.specs.declared.Played.{Played}
use Rattle.channel.specs.Heads.{closed_of, moment_of}
use Rattle.channel.specs.Channels.{
  with_head,
  any_unfinished_of,
  handled_of,
  pushed_of,
  Turning,
  played_of,
  added_of,
  turning_of,
  phrase_at,
  moment_for,
  taken_of,
  memory_of,
}

-- ---- a start

-- the voice that it makes: the clip begins at the channel's count, and the phrase is the chosen one
abbrev pub born_of : Params → Float → Note → Float → Channel → Voice
born_of p position note velocity c = fresh_of p position note velocity (moment_of c.head)

-- an empty recording takes none
unfoldable pub begun_of : Params → Float → Note → Float → Channel → Channel
begun_of p position note velocity c = cond (eqb c.head.data_len 0) c
    (handled_of p (pushed_of (born_of p position note velocity c) c))

-- ---- a sample

-- a voice that is passed over adds nothing and doesn't move on
unfoldable pub passes_over : Tick → Voice → Bool
passes_over t v = should_remove_of t v

-- a voice after its turn
unfoldable pub voice_turned : Tick → List ℕ → Voice → Voice
voice_turned t m v = volume_stepped t.now (cond (passes_over t v) v (ended_of t (sounded_of t m v)))

-- the mode lets a finished voice go
unfoldable pub lets_go : NoteOffBehaviour → Tick → Voice → Bool
lets_go off.Decay t u = is_static_and_mute_of u.volume
lets_go off.ZeroCrossing t u = late_of t u
lets_go off.DecayAndZeroCrossing t u = is_static_and_mute_of u.volume || late_of t u

-- after its turn, only a finished voice leaves
unfoldable pub leaves_of : Tick → Voice → Bool
leaves_of t u = u.finished && lets_go t.note_off_behavior t u

-- what a sample does with the voices of one recording, by these parts
unfoldable pub turns_by : Tick → List ℕ → Turning
turns_by t m = record {
  turn = voice_turned t m;
  leaves = leaves_of t;
  adds = λ (out : Float) (v : Voice). added_of (passes_over t v) out (product_of t m v);
}

-- what a voice finds once the sample x has been recorded: its moment, and its recording, that of its phrase
unfoldable pub moment_at : List ℕ → Channel → Voice → Moment
moment_at m c v = moment_for (taken_of m c) v.phrase

unfoldable pub held_at : Float → List ℕ → Channel → Voice → List ℕ
held_at x m c v = stored_in (phrase_at (taken_of m c) v.phrase) (memory_of x c m)

-- what the sample does with each voice
abbrev pub turns_in : Params → Float → List ℕ → Channel → Turning
turns_in p x m c = turning_of turns_by p (moment_at m c) (held_at x m c)

-- records first, then its voices take their turns, then the input is added
unfoldable pub step_of : Params → Float → Channel → List ℕ → Played
step_of p x c m =
    let d = taken_of m c in
    let r = played_of (turns_in p x m c) d in
    record {
      channel = with_head (closed_of p (any_unfinished_of r.channel) d.head) r.channel;
      output = add binary32 (add binary32 zero32 r.output)
          (mul binary32 x (level_of d.head.passthru_volume d.head.now));
      moved = r.moved;
    }
