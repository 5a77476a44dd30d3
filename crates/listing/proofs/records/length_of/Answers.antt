-- `length_of` meets its contract: the table of lengths. Assumes nothing.
use mathlib.Core.Path.{sym, ap}
use Prim.Native.Nat.{ℕ, ◌+◌, ◌*◌}
use lib.ListN.{get_or, get_or-eq_default}
use Rattle.listing.specs.Records.{channel_count, lengths, kind_length}
use Rattle.listing.proofs.records.length_of.Goals as goal

pub returns-then-at-lt8 : goal.returns-then-at-lt8
unfolding kind_length
returns-then-at-lt8 c = ap (λ (n : ℕ). get_or (lengths n) c.args.kind 0) c.frame_length.ensures

pub returns-else-at-lt8 : goal.returns-else-at-lt8
unfolding kind_length
returns-else-at-lt8 c = sym (get_or-eq_default (lengths (1 + 4 * channel_count c.args.h)) 0 c.if-at-lt8.false)
