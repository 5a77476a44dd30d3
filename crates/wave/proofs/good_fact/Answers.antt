-- `good_fact` meets its contract. Assumes nothing.
-- all but the last test held
use Rattle.wave.specs.Reader.{good_fact}
use borrow.Author.Tests.{eq-eqb, ne_eqb}
use mathlib.Core.Path.{◌≡◌, sym, ap, ◌∙◌}
use mathlib.Core.List.{List}
use Prim.Native.Nat.{ℕ, ◌+◌}
use lib.Dec.{eqb}
use Rattle.wave.specs.Fields.{four_at}
use Rattle.wave.proofs.good_fact.Goals as goal

fact_last : (f : List ℕ) (at samples : ℕ) → (at ≡ 0 → ⊥) → four_at f (at + 4) ≡ 4 → good_fact f at samples ≡ eqb (four_at f (at + 8)) samples
unfolding good_fact
fact_last f at samples some size = simp (ne_eqb _ _ some, eq-eqb _ _ size)

pub returns-then-at-eq0 : goal.returns-then-at-eq0
unfolding good_fact
returns-then-at-eq0 c = simp (eq-eqb _ _ c.if-at-eq0.true)

pub returns-then-four_at-ne4 : goal.returns-then-four_at-ne4
unfolding good_fact
returns-then-four_at-ne4 c = simp (ne_eqb _ _ c.if-at-eq0.false, ← c.four_at.ensures, ne_eqb _ _ c.if-four_at-ne4.true)

pub returns : goal.returns
returns c = ap (λ (n : ℕ). eqb n c.args.samples) c.four_at-2.ensures ∙ sym (fact_last _ _ _ c.if-at-eq0.false (sym c.four_at.ensures ∙ c.if-four_at-ne4.false))
