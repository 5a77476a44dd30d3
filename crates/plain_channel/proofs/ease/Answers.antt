-- `ease` meets its contract: voices are poured one after the other until one doesn't ease. Assumes nothing.
use Rattle.plain_channel.proofs.Pouring.{still_first}
use Rattle.plain_channel.proofs.ease.Goals as goal

pub loop-i-init : goal.loop-i-init
loop-i-init c = still_first c.requires
