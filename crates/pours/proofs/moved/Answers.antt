-- `moved` meets its contract: below the loop's end there is nothing to divide. Assumes nothing.
use mathlib.Core.Path.{refl, sym, ap, ap₂, ◌∙◌}
use Prim.Native.Nat.{ℕ, ◌+◌, ◌≤◌}
use native.Mathlib.Nat.{add-zero, mod-lt, mod-eq_of_lt, div-eq_of_lt, div-le_self}
use native.Mathlib.Omega.{arith}
use mathlib.Core.Bool.{true}
use Rattle.pours.specs.Eases.{moved_on}
use Rattle.pours.proofs.moved.Goals as goal

pub returns-then-s-round : goal.returns-then-s-round
unfolding moved_on
returns-then-s-round c =
    let h = c.args.h in
    ap₂ (λ (p l : ℕ). record { place = p; lap = l; start = h.start; plain = true })
    (sym (mod-eq_of_lt c.if-s-round.true)) (sym (ap (λ (q : ℕ). h.lap + q) (div-eq_of_lt c.if-s-round.true) ∙ add-zero h.lap))

pub overflow_cast-result-2 : goal.overflow_cast-result-2
overflow_cast-result-2 c =
    let a = c.args in
    let some : 1 ≤ a.round = omega (arith, c.requires.0) in
    record { fits = omega (arith, mod-lt (a.h.place + a.n) some, c.requires) }

pub overflow_cast-result-3 : goal.overflow_cast-result-3
overflow_cast-result-3 c = let a = c.args in record { fits = omega (arith, div-le_self (a.h.place + a.n) a.round, c.requires) }

pub overflow_add-result : goal.overflow_add-result
overflow_add-result c = let a = c.args in record { fits = omega (arith, div-le_self (a.h.place + a.n) a.round, c.requires) }

pub returns : goal.returns
unfolding moved_on
returns c = refl
