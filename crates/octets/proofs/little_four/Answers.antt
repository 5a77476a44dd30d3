-- `little_four` meets its contract: it is `of_four` of the bytes turned round. Assumes nothing.
use mathlib.Core.Path.{sym, ◌∙◌}
use Rattle.octets.proofs.Orders.{turned}
use Rattle.octets.proofs.little_four.Goals as goal

pub returns : goal.returns
returns c = c.of_four.ensures ∙ sym (turned _)
