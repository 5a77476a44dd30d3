-- `put_riff` meets its contract. Assumes nothing.
use Rattle.wave.proofs.Rows.{riff_put}
use Rattle.wave.proofs.headers.put_riff.Goals as goal

pub returns : goal.returns
returns c = riff_put c.args.out.now c.args.bytes c.put_four.ensures c.put_four-2.ensures c.put_four-3.ensures
