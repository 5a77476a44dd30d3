-- `binary32::remainder` meets its contract: by the sign of x, and by the size of y. Assumes nothing.
use Rattle.std.proofs.Common.{sym, ap, ◌∙◌, rules}
use lib.Ieee.{binary32, rem, lt, neg, of_bits}
use Rattle.binary32.specs.Leaves.{zero32}
use Rattle.binary32.proofs.Truth.{yes}
use Rattle.binary32.proofs.Quotients.{rem_turned}
use Rattle.binary32.proofs.Rests.{rem_size_only, zero_rest, no_divisor, neg_above}
use Rattle.binary32.proofs.remainder.Goals as goal

pub rest-requires-then-x-2-clause-dividend : goal.rest-requires-then-x-2-clause-dividend
unfolding of_bits
rest-requires-then-x-2-clause-dividend c = yes (neg_above c.args.x c.if-x-2.true)

pub returns-then-x : goal.returns-then-x
returns-then-x c = c.rest.ensures ∙ ap (rem binary32 c.args.x) c.abs-by.ensures ∙ rem_size_only c.args.x c.args.y

pub returns-then-x-2 : goal.returns-then-x-2
returns-then-x-2 c =
    rem_turned binary32 c.args.x c.args.y _ (c.rest-then-x-2.ensures ∙ ap (rem binary32 (neg c.args.x)) c.abs-by.ensures ∙ rem_size_only (neg c.args.x) c.args.y)

pub returns-else-x-2 : goal.returns-else-x-2
unfolding of_bits
returns-else-x-2 c = zero_rest c.args.x c.args.y (search rules) c.if-x.false c.if-x-2.false (ap (lt zero32) (sym c.abs-by.ensures) ∙ c.if-by.true)

pub returns-else-by : goal.returns-else-by
unfolding of_bits
returns-else-by c = c.not_a_number.ensures ∙ no_divisor c.args.x c.args.y (ap (lt zero32) (sym c.abs-by.ensures) ∙ c.if-by.false)
