-- `add_at` meets its contract: a steady level is the same at each time, and a ramp's goes by how many samples there were. Assumes nothing.
use mathlib.Core.Path.{◌≡◌, sym, ap, ◌∙◌, subst}
use Prim.Native.Nat.{ℕ, ◌+◌, ◌-◌}
use native.Mathlib.Nat.{zero-add}
use native.Mathlib.Omega.{arith}
use lib.Ieee.{Float}
use Rattle.binary32.specs.Leaves.{as_float}
use Rattle.volume.specs.declared.Volume.{Volume}
use Rattle.pours.specs.Eases.{term_at, Added}
use Rattle.pours.specs.Steady.{leveled}
use Rattle.pours.proofs.Added.{restated}
use Rattle.pours.proofs.Placing.{steady_by, level_by}
use Rattle.pours.proofs.add_at.Goals as goal

pub returns-then-elapsed-n : goal.returns-then-elapsed-n
returns-then-elapsed-n c =
    let a = c.args in
    restated c.add_ramp.ensures (leveled a.values.now a.volume a.time)
    (λ k low high. ap (λ (x : Float). term_at a.values.now x k) (level_by a.volume _ _ _ _ _ a.time k c.in-Linear.is (c.usize_to_f32-over.ensures ∙ ap as_float c.since.ensures) c.if-time_start-time.true))

at : (k : ℕ) → 0 + (k - 0) ≡ k
at k = omega arith

pub returns-in-Static : goal.returns-in-Static
returns-in-Static c =
    let a = c.args in
    let added = restated c.pour.ensures (leveled a.values.now a.volume a.time)
    (λ k low high. ap (term_at a.values.now c.in-Static.level) (at k) ∙ ap (λ (x : Float). term_at a.values.now x k) (steady_by a.volume _ (a.time + k) c.in-Static.is)) in
    subst (λ (e : ℕ). Added (leveled a.values.now a.volume a.time) 0 e a.sums.now c.pour.new.sums) (zero-add a.n) added

pub returns-after-time_start-time : goal.returns-after-time_start-time
returns-after-time_start-time c =
    let a = c.args in
    subst (λ (z : Volume). Added (leveled a.values.now z a.time) 0 a.n a.sums.now c.add_levels.new.sums) (sym c.in-Linear.is) c.add_levels.ensures
