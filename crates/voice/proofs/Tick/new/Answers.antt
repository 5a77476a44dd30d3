-- `Tick::new` meets its contract: by their measure the parameters give the same length. Assumes nothing.
use mathlib.Core.Path.{◌∙◌}
use Rattle.voice.proofs.Measured.{tick_measured}
use Rattle.voice.proofs.Tick.new.Goals as goal

pub returns : goal.returns
returns c = c.measured.ensures ∙ tick_measured c.args.params _ c.measure.ensures c.args.at
