-- What the steps around the loop of a change on a lent channel work out. Definitions only.
use Rattle.std.specs.Prelude.{ℕ, ◌+◌, min, Bool, true, false, not, ◌&&◌, ◌||◌, cond, Option, Some, None, leb, eqb, Float}
use Rattle.std.specs.Bool.{beq}
use Rattle.binary32.specs.Leaves.{zero32, one32}
use Rattle.common_types.specs.declared.Params.{Params}
use Rattle.common_types.specs.declared.Note.{Note}
use Rattle.common_types.specs.Notes.{default_note}
use Rattle.volume.specs.Levels.{toward_of}
use Rattle.voice.specs.declared.Voice.{Voice}
use Rattle.voice.specs.Voices.{finish_of, fresh_of, blank_voice, at_speed_of}
use Rattle.channel.specs.declared.Head.{Head}
use Rattle.channel.specs.declared.Change.{Change}
use Rattle.channel.specs.declared.Change.TheVariants as change
use Rattle.phrases.specs.declared.Phrase.{Phrase}
use Rattle.phrases.specs.declared.Beside.{Beside}
use Rattle.channel.specs.Heads.{head_of, moment_of, head_changed_of, passes_of, with_passthru, passthru_of}
use Rattle.channel.specs.Tables.{found_by}
use Rattle.channel.specs.Channels.{unfinished_of, same_note}
use Rattle.lent_changes.specs.declared.Pass.{Pass}
use Rattle.lent_changes.specs.declared.Aside.{Aside}
use Rattle.lent_changes.specs.declared.Passing.{Passing}

-- so many voices are asked whether they are unfinished, and none is changed, as by a stop that has its voice
unfoldable pub asks_voices : ℕ → ℕ → Head → Pass
asks_voices turns count h =
    record {
      turns = turns;
      count = count;
      now = h.now;
      decay_samples = 0;
      speed = zero32;
      note = default_note;
      stop = true;
      fresh = false;
      found = true;
      unfinished = false;
    }

-- none is asked, and a new voice is stored behind them
unfoldable pub stores_behind : ℕ → Head → Pass
stores_behind count h =
    record {
      turns = 0;
      count = count + 1;
      now = h.now;
      decay_samples = 0;
      speed = zero32;
      note = default_note;
      stop = true;
      fresh = true;
      found = true;
      unfinished = true;
    }

-- every voice is gone through, and those with the note are changed
unfoldable pub going_of : ℕ → Head → Note → Bool → ℕ → Float → Pass
going_of count h note stop decay speed =
    record {
      turns = min count 32;
      count = count;
      now = h.now;
      decay_samples = decay;
      speed = speed;
      note = note;
      stop = stop;
      fresh = false;
      found = false;
      unfinished = false;
    }

-- a start on no recording changes nothing; with 32 voices it stores none, but asks them all
unfoldable pub start_pass : ℕ → Head → Pass
start_pass count h = cond (eqb h.data_len 0) (asks_voices 0 count h)
    (cond (leb 32 count) (asks_voices 32 count h) (stores_behind count h))

-- where a change begins
unfoldable pub pass_of : Change → Head → ℕ → Pass
pass_of (change.Start q position note velocity) h count = start_pass count h
pass_of (change.Stop q note) h count = going_of count h note true q.decay_samples zero32
pass_of (change.Speed note speed) h count = going_of count h note false 0 speed
pass_of (change.Head d) h count = asks_voices 0 count h
pass_of change.Reset h count = asks_voices 0 0 h

-- whether a voice is changed: the first with the note that a stop finds unfinished, each with the note otherwise
unfoldable pub hits_of : Pass → Voice → Bool
hits_of p v = same_note v.note p.note && (not p.stop || (not p.found && unfinished_of v))

-- what it becomes
unfoldable pub remade_of : Pass → Voice → Voice
remade_of p v = cond p.stop (finish_of p.now p.decay_samples v) (at_speed_of p.speed v)

-- what is known once a voice has been gone through
unfoldable pub passed_of : Pass → Voice → Bool → Pass
passed_of p v hit =
    record {
      turns = p.turns;
      count = p.count;
      now = p.now;
      decay_samples = p.decay_samples;
      speed = p.speed;
      note = p.note;
      stop = p.stop;
      fresh = p.fresh;
      found = p.found || hit;
      unfinished = p.unfinished || (not hit && unfinished_of v);
    }

-- the voice that a start stores
unfoldable pub started_voice : Change → Head → Voice
started_voice (change.Start q position note velocity) h = fresh_of q position note velocity (moment_of h)
started_voice (change.Stop q note) h = blank_voice
started_voice (change.Speed note speed) h = blank_voice
started_voice (change.Head d) h = blank_voice
started_voice change.Reset h = blank_voice

-- pass-through follows, or nothing does
unfoldable pub handled_if : Bool → Head → Params → Bool → Head
handled_if on h q unfinished = cond on (passthru_of q unfinished h) h

-- what is read of the table before a change: the entry of the number that it names, whether it is looked at, and how far
-- the phrases reach that aren't chosen
abbrev pub aside_of : Phrase → Bool → Beside → Aside
aside_of entry several b = record { entry = entry; several = several; behind = b.behind }

-- the head at the end
unfoldable pub head_ended : Pass → Change → Head → Aside → Head
head_ended p (change.Start q position note velocity) h a = handled_if (not (eqb h.data_len 0)) h q p.unfinished
head_ended p (change.Stop q note) h a = handled_if p.found h q p.unfinished
head_ended p (change.Speed note speed) h a = h
head_ended p (change.Head d) h a = head_changed_of d (found_by d a.several a.entry a.behind) h
head_ended p change.Reset h a = head_of zero32 h.interpolates

-- The same in two steps: the ramp of pass-through that begins, if one does, and the head but for it.
-- a ramp begins if it is asked for, and pass-through is not yet as wanted
unfoldable pub passing_if : Bool → Head → Params → Bool → Option Passing
passing_if asked h q unfinished =
    let on = passes_of q unfinished in
    let passing : Passing = record { on = on; samples = cond on q.attack_samples q.decay_samples } in
    cond (asked && not (beq on h.passthru_on)) (Some passing) None

unfoldable pub passing_of : Pass → Change → Head → Option Passing
passing_of p (change.Start q position note velocity) h = passing_if (not (eqb h.data_len 0)) h q p.unfinished
passing_of p (change.Stop q note) h = passing_if p.found h q p.unfinished
passing_of p (change.Speed note speed) h = None
passing_of p (change.Head d) h = None
passing_of p change.Reset h = None

unfoldable pub altered_of : Change → Head → Aside → Head
altered_of (change.Start q position note velocity) h a = h
altered_of (change.Stop q note) h a = h
altered_of (change.Speed note speed) h a = h
altered_of (change.Head d) h a = head_changed_of d (found_by d a.several a.entry a.behind) h
altered_of change.Reset h a = head_of zero32 h.interpolates

unfoldable pub handled_by : Option Passing → Head → Head
handled_by None h = h
handled_by (Some q) h = with_passthru q.on (toward_of h.passthru_volume h.now q.samples (cond q.on one32 zero32)) h
