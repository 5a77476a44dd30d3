-- `good_format` meets its contract. Assumes nothing.
-- all but the last test held
use Rattle.wave.specs.Reader.{channels_at, good_format}
use borrow.Author.Tests.{le-leb, lt-leb, eq-eqb, ne_eqb}
use mathlib.Core.Path.{◌≡◌, sym, ap, ◌∙◌}
use mathlib.Core.List.{List}
use Prim.Native.Nat.{ℕ, ◌+◌, ◌*◌, ◌≤◌}
use native.Mathlib.Omega.{arith}
use lib.Dec.{eqb}
use Rattle.wave.specs.Fields.{two_at, four_at}
use Rattle.wave.proofs.good_format.Goals as goal

format_last : (f : List ℕ) (at : ℕ) → four_at f (at + 4) ≡ 18 → two_at f (at + 8) ≡ 3 → 1 ≤ channels_at f at → two_at f (at + 20) ≡ 4 * channels_at f at
    → two_at f (at + 22) ≡ 32 → good_format f at ≡ eqb (two_at f (at + 24)) 0
unfolding good_format
format_last f at size tag some block bits = simp (eq-eqb _ _ size, eq-eqb _ _ tag, le-leb _ _ some, eq-eqb _ _ block, eq-eqb _ _ bits)

pub returns-then-four_at-ne18 : goal.returns-then-four_at-ne18
unfolding good_format
returns-then-four_at-ne18 c = simp (← c.four_at.ensures, ne_eqb _ _ c.if-four_at-ne18.true)

pub returns-then-two_at-ne3 : goal.returns-then-two_at-ne3
unfolding good_format
returns-then-two_at-ne3 c = simp (← c.four_at.ensures, eq-eqb _ _ c.if-four_at-ne18.false, ← c.two_at.ensures.value, ne_eqb _ _ c.if-two_at-ne3.true)

pub returns-then-channels-lt1 : goal.returns-then-channels-lt1
unfolding good_format
returns-then-channels-lt1 c = simp (← c.four_at.ensures, eq-eqb _ _ c.if-four_at-ne18.false, ← c.two_at.ensures.value, eq-eqb _ _ c.if-two_at-ne3.false, ← c.two_at-channels.ensures.value, lt-leb _ _ c.if-channels-lt1.true)

pub returns-then-two_at-channels : goal.returns-then-two_at-channels
unfolding good_format
returns-then-two_at-channels c = simp (← c.four_at.ensures, eq-eqb _ _ c.if-four_at-ne18.false, ← c.two_at.ensures.value, eq-eqb _ _ c.if-two_at-ne3.false, ← c.two_at-channels.ensures.value, le-leb _ _ c.if-channels-lt1.false, ← c.two_at-2.ensures.value, ne_eqb _ _ c.if-two_at-channels.true)

pub returns-then-two_at-ne32 : goal.returns-then-two_at-ne32
unfolding good_format
returns-then-two_at-ne32 c = simp (← c.four_at.ensures, eq-eqb _ _ c.if-four_at-ne18.false, ← c.two_at.ensures.value, eq-eqb _ _ c.if-two_at-ne3.false, ← c.two_at-channels.ensures.value, le-leb _ _ c.if-channels-lt1.false, ← c.two_at-2.ensures.value, eq-eqb _ _ c.if-two_at-channels.false, ← c.two_at-3.ensures.value, ne_eqb _ _ c.if-two_at-ne32.true)

pub returns : goal.returns
returns c = ap (λ (n : ℕ). eqb n 0) c.two_at-4.ensures.value ∙ sym (format_last _ _ (sym c.four_at.ensures ∙ c.if-four_at-ne18.false) (sym c.two_at.ensures.value ∙ c.if-two_at-ne3.false) (omega (arith, c.two_at-channels.ensures.value, c.if-channels-lt1.false)) (sym c.two_at-2.ensures.value ∙ c.if-two_at-channels.false ∙ ap (λ (n : ℕ). 4 * n) c.two_at-channels.ensures.value) (sym c.two_at-3.ensures.value ∙ c.if-two_at-ne32.false))
