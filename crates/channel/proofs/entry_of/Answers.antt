-- `entry_of` meets its contract: what a change of the head stores has a place below eight. Assumes nothing.
use mathlib.Core.Path.{sym, subst}
use Prim.Native.Nat.{◌<◌}
use Rattle.channel.specs.declared.Entry.{Entry}
use Rattle.channel.proofs.Entries.{head_entry_below}
use Rattle.channel.proofs.entry_of.Goals as goal

pub returns-in-Head-clause-place_bound : goal.returns-in-Head-clause-place_bound
returns-in-Head-clause-place_bound c = subst (λ (e : Entry). e.place < 8) (sym c.head_entry.ensures) (head_entry_below _ _ _ _)
