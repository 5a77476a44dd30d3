-- `formats::form_at` meets its contract. Assumes nothing.
use Rattle.wave_forms.specs.Reader.{form_at}
use Rattle.wave_forms.proofs.formats.form_at.Goals as goal

pub returns : goal.returns
unfolding form_at
returns c = simp (c.tag_at.ensures, c.two_at.ensures.value, c.four_at.ensures, c.two_at-2.ensures.value, c.two_at-3.ensures.value)
