-- `put_words` meets its contract. The invariant: the frames up to here are written (`Copies: written_to`). Assumes nothing.
use mathlib.Core.Path.{ap, ◌∙◌}
use native.Mathlib.Omega.{arith}
use lib.ListN.{length}
use Rattle.wave.proofs.Copies.{length_written, written_none, written_next, written_all}
use Rattle.wave.proofs.words.put_words.Goals as goal

pub loop-i-init : goal.loop-i-init
loop-i-init c = record { within = omega arith; is_written = written_none _ _ _ }

pub put_frame-requires : goal.put_frame-requires
put_frame-requires c = let kept = ap length c.loop-i.invariant.is_written ∙ length_written _ _ _ _ in record { memory_value = c.requires.memory_value; samples_in_bounds = omega arith; i_lt_samples = c.loop-i-test.true }

pub loop-i-preserved : goal.loop-i-preserved
loop-i-preserved c = record { within = omega arith; is_written = c.put_frame.ensures ∙ written_next _ _ _ _ _ c.loop-i.invariant.is_written }

pub returns : goal.returns
returns c = c.loop-i.invariant.is_written ∙ written_all _ _ _ _ (omega arith)
