-- `little_two` meets its contract: it is `of_two` of the bytes turned round. Assumes nothing.
use mathlib.Core.Path.{sym, ◌∙◌}
use Rattle.octets.proofs.Orders.{turned}
use Rattle.octets.proofs.little_two.Goals as goal

pub returns-clause-value : goal.returns-clause-value
returns-clause-value c = c.of_two.ensures.value ∙ sym (turned _)
