-- The head at the end of a change, in two steps: what pass-through does, on the head but for it. Assumes nothing.
use mathlib.Core.Path.{◌≡◌, refl}
use mathlib.Core.Bool.{Bool, true, false, not, ◌&&◌, beq, cond}
use lib.Dec.{eqb}
use Rattle.std.specs.Prelude.{Some, None}
use Rattle.common_types.specs.declared.Params.{Params}
use Rattle.channel.specs.declared.Head.{Head}
use Rattle.channel.specs.declared.Change.{Change}
use Rattle.channel.specs.declared.Change.TheVariants as change
use Rattle.channel.specs.Heads.{passes_of, with_passthru, ramp_of, passthru_of}
use Rattle.lent_changes.specs.declared.Pass.{Pass}
use Rattle.lent_changes.specs.declared.Aside.{Aside}
use Rattle.lent_changes.specs.Changes.{passing_if, passing_of, altered_of, handled_by, handled_if, head_ended}

-- pass-through where it may follow
passed_if : (asked : Bool) (h : Head) (q : Params) (unfinished : Bool) → handled_by (passing_if asked h q unfinished) h ≡ handled_if asked h q unfinished
unfolding handled_by passing_if handled_if passthru_of ramp_of
passed_if asked h q unfinished = go asked (passes_of q unfinished) h.passthru_on
  where
    go : (asked on was : Bool)
        → handled_by (cond (asked && not (beq on was)) (Some (record { on = on; samples = cond on q.attack_samples q.decay_samples })) None) h
        ≡ cond asked (cond (beq on was) h (with_passthru on (ramp_of h.passthru_volume h.now q on) h)) h
    go false on was = refl
    go true true true = refl
    go true true false = refl
    go true false true = refl
    go true false false = refl

pub ended_by : (p : Pass) (d : Change) (h : Head) (a : Aside) → handled_by (passing_of p d h) (altered_of d h a) ≡ head_ended p d h a
unfolding handled_by passing_of altered_of head_ended
ended_by p (change.Start q position note velocity) h a = passed_if (not (eqb h.data_len 0)) h q p.unfinished
ended_by p (change.Stop q note) h a = passed_if p.found h q p.unfinished
ended_by p (change.Speed note speed) h a = refl
ended_by p (change.Head d) h a = refl
ended_by p change.Reset h a = refl
