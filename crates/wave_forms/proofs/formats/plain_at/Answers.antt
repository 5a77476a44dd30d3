-- `formats::plain_at` meets its contract. Assumes nothing.
use Rattle.wave_forms.specs.Reader.{bare_format}
use Rattle.wave_forms.proofs.formats.plain_at.Goals as goal

pub returns : goal.returns
unfolding bare_format
returns c = simp (c.four_at-size.ensures, c.two_at.ensures.value)
