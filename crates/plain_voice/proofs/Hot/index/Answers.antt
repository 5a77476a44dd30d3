-- `Hot::index` meets its contract: the index is in this round of the data, or in the next. Assumes nothing.
use Rattle.std.proofs.Common.{sym, ◌∙◌, lit<}
use Rattle.std.proofs.lemmas.Option.{same_Some}
use Rattle.plain_voice.proofs.Hots.{index-first, index_next}
use Rattle.plain_voice.proofs.Hot.index.Goals as goal

pub returns-then-s-total : goal.returns-then-s-total
returns-then-s-total c i is beat = let a = c.agrees.ensures c.if-not-agrees.false beat in (a, sym (same_Some _ _ is) ∙ index-first a (lit< tt) c.if-s-total.true)

pub returns-then-r-total : goal.returns-then-r-total
returns-then-r-total c i is beat = let a = c.agrees.ensures c.if-not-agrees.false beat in (a, sym (same_Some _ _ is) ∙ index_next a (lit< tt) c.if-s-total.false c.if-r-total.true)
