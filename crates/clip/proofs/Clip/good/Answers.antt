-- `Clip::good` meets its contract: its three tests are together those of `good_clip`. Assumes nothing.
use lib.Ieee.{of_bits}
use Rattle.clip.proofs.Goods.{three_tests}
use Rattle.clip.proofs.Clip.good.Goals as goal

pub returns : goal.returns
unfolding of_bits
returns c =
    let least = c.lower-least in
    let most = c.higher-most in
    let top = c.higher-top in
    three_tests c.args.self least.result most.result top.result least.ensures most.ensures top.ensures
