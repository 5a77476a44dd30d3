-- `still_apart` meets its contract. Assumes nothing.
use Rattle.lent_channel.proofs.still_apart.Goals as goal

pub returns : goal.returns
returns c = simp c.apart.ensures
