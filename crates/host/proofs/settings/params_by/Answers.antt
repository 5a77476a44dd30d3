-- `params_by` meets its contract: each field from its own. Assumes nothing.
use Rattle.host.specs.Crossing.{params_by}
use Rattle.host.proofs.settings.params_by.Goals as goal

pub returns : goal.returns
unfolding params_by
returns c = simp (c.note_off.ensures, c.loop_mode.ensures, c.loop_length.ensures)
