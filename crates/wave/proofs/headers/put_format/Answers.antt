-- `put_format` meets its contract. Assumes nothing.
use native.Mathlib.Omega.{arith}
use Rattle.wave.proofs.Rows.{format_put}
use Rattle.wave.proofs.headers.put_format.Goals as goal

pub put_two-requires-5 : goal.put_two-requires-5
put_two-requires-5 c = omega (arith, c.requires.1, c.put_four.auto.out, c.put_four-2.auto.out, c.put_two.auto.out, c.put_two-2.auto.out, c.put_four-3.auto.out, c.put_four-4.auto.out, c.put_two-3.auto.out, c.put_two-4.auto.out)

pub returns : goal.returns
returns c = format_put c.args.out.now c.args.rate c.args.channels _ c.byte_rate.ensures c.put_four.ensures c.put_four-2.ensures c.put_two.ensures c.put_two-2.ensures c.put_four-3.ensures c.put_four-4.ensures c.put_two-3.ensures c.put_two-4.ensures c.put_two-5.ensures
