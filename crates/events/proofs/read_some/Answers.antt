-- `read_some` meets its contract: what stands before the part that it reads to stays. Assumes nothing.
use Rattle.std.proofs.Common.{ℕ, arith, length-take, length-drop}
use lib.Seq.{length-take-le, take_at}
use Rattle.events.proofs.read_some.Goals as goal

pub returns-in-Ok : goal.returns-in-Ok
returns-in-Ok g c = record {
  result_in_bounds = omega (arith, c.in-Ok.ensures.bound.0, c.read.auto.buf, length-take {A = ℕ}, length-drop {A = ℕ});
  input_unchanged = take_at _ _ _ (length-take-le _ _ c.requires);
}
