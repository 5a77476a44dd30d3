-- A side's positions: the one at a place, and a side with another there. Assumes nothing.
use Prim.Native.Nat.{ℕ}
use lib.ListN.{get_or, set}
use Rattle.plain_voice.specs.declared.Hot.{Hot}
use Rattle.plain_voice.specs.Hots.{cold}
use Rattle.plain_channel.specs.declared.Side.{Side}
use Rattle.plain_channel.specs.Sides.{with_hots}

abbrev pub hot_at : Side → ℕ → Hot
hot_at k i = get_or k.hots i cold

abbrev pub with_hot : Side → ℕ → Hot → Side
with_hot k i y = with_hots (set k.hots i y) k
