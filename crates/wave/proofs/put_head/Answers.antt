-- `put_head` meets its contract. Assumes nothing.
use mathlib.Core.Path.{sym, ◌∙◌}
use Rattle.wave.proofs.Calls.{head_true, head_done, head_left}
use Rattle.wave.proofs.put_head.Goals as goal

pub put_header-requires : goal.put_header-requires
put_header-requires c = let h = head_true _ _ _ (sym c.head_fits.ensures ∙ c.if-head_fits.true) in (h.block_fits, h.size_fits, h.room_fits)

pub returns-then-head_fits : goal.returns-then-head_fits
returns-then-head_fits c = c.put_header.ensures ∙ head_done _ _ _ _ (sym c.head_fits.ensures ∙ c.if-head_fits.true)

pub returns-else-head_fits : goal.returns-else-head_fits
returns-else-head_fits c = head_left _ _ _ _ (sym c.head_fits.ensures ∙ c.if-head_fits.false)
