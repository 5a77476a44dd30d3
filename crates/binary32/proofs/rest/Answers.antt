-- `binary32::rest` meets its contract: of patterns that are finite it is `rest_of`, and the infinities have laws of their own. Assumes nothing.
use Rattle.std.proofs.Common.{sym, ap, ap₂, ◌∙◌, rules}
use lib.Ieee.{Float, binary32, rem, of_bits}
use lib.Ieee.Bits.{is_true}
use Rattle.binary32.proofs.Patterns.{value_back}
use Rattle.binary32.proofs.RootCases.{above_pattern}
use Rattle.binary32.proofs.Rests.{infinite_above, by_infinity, of_infinity}
use Rattle.binary32.proofs.rest.Goals as goal

pub rest_of-requires : goal.rest_of-requires
unfolding of_bits
rest_of-requires c = (c.if-a-lt2139095040.true, above_pattern c.args.y (search rules) (is_true _ c.requires.divisor), c.if-b-lt2139095040.true)

pub returns-then-b-lt2139095040 : goal.returns-then-b-lt2139095040
returns-then-b-lt2139095040 c = c.rest_of.ensures ∙ ap₂ (rem binary32) (value_back c.args.x (search rules)) (value_back c.args.y (search rules))

pub returns-else-b-lt2139095040 : goal.returns-else-b-lt2139095040
unfolding of_bits
returns-else-b-lt2139095040 c =
    by_infinity c.args.x (is_true _ c.requires.dividend) c.if-a-lt2139095040.true
    ∙ ap (rem binary32 c.args.x) (sym (infinite_above c.args.y (search rules) (is_true _ c.requires.divisor) c.if-b-lt2139095040.false))

pub returns-else-a-lt2139095040 : goal.returns-else-a-lt2139095040
unfolding of_bits
returns-else-a-lt2139095040 c =
    c.not_a_number.ensures ∙ of_infinity c.args.y
    ∙ ap (λ (z : Float). rem binary32 z c.args.y) (sym (infinite_above c.args.x (search rules) (is_true _ c.requires.dividend) c.if-a-lt2139095040.false))
