-- `fits_memory` meets its contract. Assumes nothing.
use mathlib.Core.Path.{sym, ◌∙◌}
use Rattle.wave.proofs.Layouts.{fits_one, fits_two, fits_none}
use Rattle.wave.proofs.words.fits_memory.Goals as goal

pub returns-then-l-eq1 : goal.returns-then-l-eq1
returns-then-l-eq1 c = c.ends_by.ensures ∙ sym (fits_one _ _ c.if-l-eq1.true)

pub returns-then-l-ne2 : goal.returns-then-l-ne2
returns-then-l-ne2 c = sym (fits_none _ _ c.if-l-eq1.false c.if-l-ne2.true)

pub returns-then-ends_by : goal.returns-then-ends_by
returns-then-ends_by c = c.ends_by-then-ends_by.ensures ∙ sym (fits_two _ _ c.if-l-ne2.false (sym c.ends_by-2.ensures ∙ c.if-ends_by.true))

pub returns-else-ends_by : goal.returns-else-ends_by
returns-else-ends_by c = sym (fits_two _ _ c.if-l-ne2.false (sym c.ends_by-2.ensures ∙ c.if-ends_by.false))
