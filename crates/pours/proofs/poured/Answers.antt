-- `poured` meets its contract: either way does. Assumes nothing.
use Rattle.pours.proofs.poured.Goals as goal

pub plainly-requires : goal.plainly-requires
plainly-requires c = (c.eases.ensures c.if-eases.true c.requires.0, c.requires.1)
