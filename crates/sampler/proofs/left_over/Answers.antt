-- `left_over` meets its contract: what is left of a number by 0 is the number. Assumes nothing.
use mathlib.Core.Path.{sym, ap, ◌∙◌}
use Prim.Native.Nat.{ℕ, ◌%◌}
use native.Mathlib.Nat.{mod-zero}
use Rattle.sampler.proofs.left_over.Goals as goal

pub returns-then-count-eq0 : goal.returns-then-count-eq0
returns-then-count-eq0 c = sym (ap (λ (n : ℕ). c.args.entries % n) c.if-count-eq0.true ∙ mod-zero c.args.entries)
