-- `one_more` meets its contract. Assumes nothing.
use Rattle.std.proofs.Common.{sym, ◌∙◌, arith, rules}
use Rattle.songs.specs.Plays.{one_more_refused}
use Rattle.songs.proofs.one_more.Goals as goal

pub returns-then-is_ok : goal.returns-then-is_ok
unfolding one_more_refused
returns-then-is_ok c = simp (sym c.is_ok.ensures.value ∙ c.if-is_ok.true) (omega arith)

pub returns-else-is_ok : goal.returns-else-is_ok
unfolding one_more_refused
returns-else-is_ok c = simp (sym c.is_ok.ensures.value ∙ c.if-is_ok.false, c.wrapping_add_usize.ensures.value)
