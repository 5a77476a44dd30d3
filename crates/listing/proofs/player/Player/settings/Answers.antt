-- `Player::settings` meets its contract: row 4 decides. Assumes nothing.
use Rattle.listing.specs.Steps.{settings_of}
use Rattle.listing.proofs.player.Player.settings.Goals as goal

pub returns-then-beyond_limits : goal.returns-then-beyond_limits
unfolding settings_of
returns-then-beyond_limits c = simp (← c.beyond_limits.ensures, c.if-beyond_limits.true, c.answered.ensures)

pub returns-else-beyond_limits : goal.returns-else-beyond_limits
unfolding settings_of
returns-else-beyond_limits c = simp (← c.beyond_limits.ensures, c.if-beyond_limits.false, c.answered-else-beyond_limits.ensures)
