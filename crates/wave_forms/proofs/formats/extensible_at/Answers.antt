-- `formats::extensible_at` meets its contract. Assumes nothing.
use Rattle.wave_forms.specs.Reader.{extensible_at}
use Rattle.wave_forms.proofs.formats.extensible_at.Goals as goal

pub returns : goal.returns
unfolding extensible_at
returns c = simp (c.four_at.ensures, c.two_at.ensures.value, c.two_at-2.ensures.value, c.two_at-3.ensures.value, c.two_at-4.ensures.value, c.sub_format_at.ensures)
