-- `Volume::is_static_and_mute` meets its contract: each arm is its case of the definition. Assumes nothing.
use lib.Ieee.{of_bits}
use Rattle.volume.proofs.Volume.is_static_and_mute.Goals as goal

pub returns-in-Static : goal.returns-in-Static
unfolding of_bits
returns-in-Static c = simp c.in-Static.is
