-- `one_byte` meets its contract. Assumes nothing.
use mathlib.Core.Path.{refl}
use Rattle.smf.specs.Events.{is_one_byte}
use Rattle.smf.proofs.events.one_byte.Goals as goal

pub returns : goal.returns
unfolding is_one_byte
returns c = refl
