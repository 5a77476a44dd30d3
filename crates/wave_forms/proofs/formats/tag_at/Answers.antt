-- `formats::tag_at` meets its contract. Assumes nothing.
use Rattle.wave_forms.specs.Reader.{tag_at}
use Rattle.wave_forms.proofs.formats.tag_at.Goals as goal

pub returns-then-plain_at : goal.returns-then-plain_at
unfolding tag_at
returns-then-plain_at c = simp (← c.plain_at.ensures, c.if-plain_at.true, c.two_at.ensures.value)

pub returns-then-extensible_at : goal.returns-then-extensible_at
unfolding tag_at
returns-then-extensible_at c = simp (← c.plain_at.ensures, c.if-plain_at.false, ← c.extensible_at.ensures, c.if-extensible_at.true, c.two_at-then-extensible_at.ensures.value)

pub returns : goal.returns
unfolding tag_at
returns c = simp (← c.plain_at.ensures, c.if-plain_at.false, ← c.extensible_at.ensures, c.if-extensible_at.false)
