-- `Judged::number` meets its contract. Assumes nothing.
use Rattle.wave.specs.Reader.{judged_number}
use Rattle.wave.proofs.Judged.number.Goals as goal

pub returns-in-Is : goal.returns-in-Is
unfolding judged_number
returns-in-Is c = simp c.in-Is.is

pub returns-in-Refused : goal.returns-in-Refused
unfolding judged_number
returns-in-Refused c = simp c.in-Refused.is
