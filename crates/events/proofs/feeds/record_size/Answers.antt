-- `record_size` meets its contract. Assumes nothing.
use mathlib.Core.Path.{ap}
use Prim.Native.Nat.{ℕ, ◌+◌}
use Rattle.events.proofs.Bytes.{no_rest}
use Rattle.events.proofs.feeds.record_size.Goals as goal

pub returns-then-input-lt2 : goal.returns-then-input-lt2
returns-then-input-lt2 c = no_rest c.args.input.now c.if-input-lt2.true

pub returns : goal.returns
returns c = ap (λ (n : ℕ). 2 + n) c.rest.ensures.value
