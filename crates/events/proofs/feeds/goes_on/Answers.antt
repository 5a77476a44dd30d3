-- `goes_on` meets its contract. Assumes nothing.
use mathlib.Core.Path.{◌∙◌}
use Rattle.events.specs.Feeds.{ready_of}
use Rattle.events.proofs.Bytes.{tail-is}
use Rattle.events.proofs.feeds.goes_on.Goals as goal

pub returns : goal.returns
unfolding ready_of
returns c = let a = c.args in c.ready.ensures ∙ rw (tail-is a.fed.used a.input.now)
