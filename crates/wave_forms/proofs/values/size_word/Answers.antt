-- `values::size_word` meets its contract. Assumes nothing.
use mathlib.Core.Path.{◌∙◌}
use native.Mathlib.Omega.{arith}
use Rattle.wave_forms.proofs.Doubles.{low_word, some_word, top_word}
use Rattle.wave_forms.proofs.values.size_word.Goals as goal

pub returns-then-field-eq2047 : goal.returns-then-field-eq2047
returns-then-field-eq2047 c = record { value = top_word _ _ c.if-field-eq2047.true (c.requires.2 c.if-field-eq2047.true); upper_bound = omega arith }

pub returns-then-field-eq0 : goal.returns-then-field-eq0
returns-then-field-eq0 c = record { value = low_word _ _ _ c.if-field-eq0.true c.narrowed.ensures.value; upper_bound = c.narrowed.ensures.upper_bound }

pub returns-else-field-eq0 : goal.returns-else-field-eq0
returns-else-field-eq0 c = record { value = c.narrowed-else-field-eq0.ensures.value ∙ some_word _ _ c.if-field-eq0.false c.if-field-eq2047.false; upper_bound = c.narrowed-else-field-eq0.ensures.upper_bound }
