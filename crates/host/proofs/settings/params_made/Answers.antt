-- `params_made` meets its contract: each byte is known, or one isn't. Assumes nothing.
use Rattle.host.specs.Crossing.{made_by}
use Rattle.host.proofs.settings.params_made.Goals as goal

pub returns-then-is_known : goal.returns-then-is_known
unfolding made_by
returns-then-is_known c = simp (c.params_by.ensures, ← c.is_known.ensures, c.if-is_known.true)

pub returns-else-is_known : goal.returns-else-is_known
unfolding made_by
returns-else-is_known c = simp (c.default.ensures, ← c.is_known.ensures, c.if-is_known.false)
