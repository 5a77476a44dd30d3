-- `index_at` meets its contract: it is `plain_index`, remainder by remainder. Assumes nothing.
use mathlib.Core.Path.{ap, ◌∙◌}
use Prim.Native.Nat.{ℕ, ◌+◌, ◌%◌}
use native.Mathlib.Nat.{mod-lt}
use native.Mathlib.Omega.{arith}
use Rattle.pours.proofs.index_at.Goals as goal

pub overflow_add-h-2 : goal.overflow_add-h-2
overflow_add-h-2 c = record { fits = omega (arith, c.rest-place.ensures, mod-lt (c.args.h.place + c.args.k) c.requires.1, c.requires) }

pub returns : goal.returns
returns c = let a = c.args in c.rest.ensures ∙ ap (λ (r : ℕ). (a.h.start + r) % a.b.total) c.rest-place.ensures
