-- `put_word` meets its contract. Assumes nothing.
use mathlib.Core.Path.{sym, ◌∙◌}
use borrow.Author.Tests.{leb-true}
use Rattle.wave.proofs.Calls.{word_done, word_left}
use Rattle.wave.proofs.put_word.Goals as goal

pub put_four-requires : goal.put_four-requires
put_four-requires c = leb-true _ _ (sym c.ends_by.ensures ∙ c.if-ends_by.true)

pub returns-then-ends_by : goal.returns-then-ends_by
returns-then-ends_by c = c.put_four.ensures ∙ word_done _ _ _ (leb-true _ _ (sym c.ends_by.ensures ∙ c.if-ends_by.true))

pub returns-else-ends_by : goal.returns-else-ends_by
returns-else-ends_by c = word_left _ _ _ (sym c.ends_by.ensures ∙ c.if-ends_by.false)
