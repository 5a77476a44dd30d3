-- `put_sizes` meets its contract. Assumes nothing.
use Rattle.wave.proofs.Rows.{sizes_put}
use Rattle.wave.proofs.headers.put_sizes.Goals as goal

pub returns : goal.returns
returns c = sizes_put c.args.out.now c.args.samples c.args.bytes c.put_four.ensures c.put_four-2.ensures c.put_four-3.ensures c.put_four-4.ensures c.put_four-5.ensures
