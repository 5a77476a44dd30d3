-- `player_for` meets its contract: set-up learns the length of the part that is lent. Assumes nothing.
use mathlib.Core.Path.{sym, ◌∙◌}
use lib.Seq.{length-take-le}
use native.Mathlib.Omega.{arith}
use Rattle.listing.specs.Steps.{player_of}
use Rattle.listing.proofs.player_for.Goals as goal

pub slice_bounds-new-end : goal.slice_bounds-new-end
slice_bounds-new-end c = sym (length-take-le _ _ (omega arith))

pub returns : goal.returns
unfolding player_of
returns c = let size = length-take-le c.lent-n.result c.args.memory.now (omega arith) ∙ c.lent-n.ensures in
    simp (c.default.ensures, c.new-a.ensures, c.channels.ensures.value, size)
