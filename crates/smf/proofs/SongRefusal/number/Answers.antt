-- `SongRefusal::number` meets its contract. Assumes nothing.
use Rattle.smf.proofs.SongRefusal.number.Goals as goal

pub returns-in-BadRate : goal.returns-in-BadRate
returns-in-BadRate c = simp c.in-BadRate.is

pub returns-in-Faulty : goal.returns-in-Faulty
returns-in-Faulty c = simp (c.refusal.ensures, c.in-Faulty.is)

pub returns-in-Short : goal.returns-in-Short
returns-in-Short c = simp c.in-Short.is
