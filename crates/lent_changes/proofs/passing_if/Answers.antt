-- `passing_if` meets its contract. Assumes nothing.
use Rattle.std.proofs.Common.{◌≡◌, ℕ, Bool, true, false, cond, not, ◌&&◌, Option, Some, None, sym, refl}
use Rattle.std.specs.Bool.{beq}
use Rattle.common_types.specs.declared.Params.{Params}
use Rattle.channel.specs.declared.Head.{Head}
use Rattle.channel.specs.Heads.{passes_of}
use Rattle.lent_changes.specs.Changes.{passing_if}
use Rattle.lent_changes.proofs.passing_if.Goals as goal

-- by the test that the code makes
made : (asked : Bool) (h : Head) (q : Params) (unfinished on test : Bool) (n : ℕ) → on ≡ passes_of q unfinished → n ≡ cond on q.attack_samples q.decay_samples
    → (asked && not (beq on h.passthru_on)) ≡ test → passing_if asked h q unfinished ≡ cond test (Some (record { on = on; samples = n })) None
unfolding passing_if
made asked h q unfinished on test n e s t = rw (← e, t, s)

pub returns-then-asked-on : goal.returns-then-asked-on
returns-then-asked-on c =
    sym (made c.args.asked c.args.head c.args.params c.args.unfinished c.passes-on.result true c.ramp_samples.result c.passes-on.ensures c.ramp_samples.ensures c.if-asked-on.true)

pub returns : goal.returns
returns c = sym (made c.args.asked c.args.head c.args.params c.args.unfinished c.passes-on.result false _ c.passes-on.ensures refl c.if-asked-on.false)
