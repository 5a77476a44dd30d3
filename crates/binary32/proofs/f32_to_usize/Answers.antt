-- `binary32::f32_to_usize` meets its contract: from 0 to below 2^23 by that of `low_whole`, and beyond each end of the range the laws of `Casts` hold.
-- Assumes nothing.
use Rattle.std.proofs.Common.{T, T_not}
use lib.Dec.{not_T}
use lib.Ieee.{lt, le, of_bits}
use lib.Ieee.Bits.{is_false}
use Rattle.binary32.proofs.Truth.{yes, no}
use Rattle.binary32.proofs.Casts.{past_end, before_start, above_minus_one, nan_cast}
use Rattle.binary32.specs.Leaves.{zero32}
use Rattle.binary32.proofs.Between.{lt→le}
use Rattle.binary32.proofs.f32_to_usize.Goals as goal

pub truncating_f32_to_u64-requires : goal.truncating_f32_to_u64-requires
unfolding of_bits
truncating_f32_to_u64-requires c = record { lower_bound = above_minus_one 23 c.args.x _ c.if-x.false c.if-x-3.true; upper_bound = yes c.if-x-3.true }

pub returns-else-x-2 : goal.returns-else-x-2
unfolding of_bits
returns-else-x-2 c =
    let x = c.args.x in
    before_start 64 x (is_false (lt zero32 x) (not_T (lt zero32 x) (λ (h : T (lt zero32 x)). T_not (le zero32 x) (no c.if-x-2.false) (lt→le zero32 x h))))

pub returns-then-x-4 : goal.returns-then-x-4
returns-then-x-4 c = nan_cast 64 c.args.x c.if-x-4.true

pub returns-else-x-4 : goal.returns-else-x-4
unfolding of_bits
returns-else-x-4 c = past_end 64 c.args.x c.if-x-4.false c.if-x-3.false
