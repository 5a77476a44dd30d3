-- `put_header` meets its contract. Assumes nothing.
use Rattle.wave.proofs.Rows.{header_put}
use Rattle.wave.proofs.headers.put_header.Goals as goal

pub returns : goal.returns
returns c = header_put c.args.out.now c.args.rate c.args.channels c.args.samples c.put_riff.ensures c.put_format.ensures c.put_sizes.ensures
