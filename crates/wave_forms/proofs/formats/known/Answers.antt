-- `formats::known` meets its contract. Assumes nothing.
use mathlib.Core.Path.{refl}
use Rattle.wave_forms.specs.Reader.{known_form}
use Rattle.wave_forms.proofs.formats.known.Goals as goal

pub returns : goal.returns
unfolding known_form
returns c = refl
