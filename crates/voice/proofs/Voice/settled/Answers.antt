-- `Voice::settled` meets its contract: played out or not, its fields are those of the voice ended and stepped. Assumes nothing.
use mathlib.Core.Path.{◌≡◌, sym}
use mathlib.Core.Bool.{Bool, true, false, cond, ◌||◌}
use Rattle.voice.specs.declared.Voice.{Voice}
use Rattle.voice.specs.declared.Tick.{Tick}
use Rattle.voice.specs.Voices.{played_out_of, ended_of, finish_of, volume_stepped, faded_of}
use Rattle.voice.proofs.Voice.settled.Goals as goal

-- the voice with the fields that being played out changes
abbrev settled_by : Tick → Voice → Bool → Voice
settled_by t v out = record {
  finished_at = cond out t.now v.finished_at;
  last_sample_index = v.last_sample_index;
  clip2 = v.clip2;
  volume = faded_of v.volume out t;
  loop_start_percent = v.loop_start_percent;
  played = v.played;
  last_sample_value = v.last_sample_value;
  speed = v.speed;
  note = v.note;
  finished = out || v.finished;
  is_at_zero_crossing = v.is_at_zero_crossing;
  phrase = v.phrase;
}

by_case : (t : Tick) (v : Voice) (out : Bool) → played_out_of t v ≡ out → settled_by t v out ≡ volume_stepped t.now (ended_of t v)
unfolding volume_stepped ended_of finish_of
by_case t v true h = simp h
by_case t v false h = simp h

pub returns : goal.returns
returns c =
    let a = c.args in
    let e = c.played_out-out.ensures in
    simp (c.time_of.ensures, c.faded.ensures) (by_case a.t a.self c.played_out-out.result (sym e))
