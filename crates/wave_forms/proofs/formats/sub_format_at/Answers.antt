-- `formats::sub_format_at` meets its contract. Assumes nothing.
use Rattle.wave_forms.specs.Reader.{sub_format_at}
use Rattle.wave_forms.proofs.formats.sub_format_at.Goals as goal

pub returns : goal.returns
unfolding sub_format_at
returns c = simp (c.four_at.ensures, c.four_at-2.ensures, c.four_at-3.ensures, c.two_at.ensures.value)
