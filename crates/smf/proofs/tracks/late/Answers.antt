-- `late` meets its contract. Assumes nothing.
use Rattle.smf.specs.Cues.{too_late}
use Rattle.smf.proofs.tracks.late.Goals as goal

pub returns-in-Note : goal.returns-in-Note
unfolding too_late
returns-in-Note c = simp c.in-Note.is

pub returns-in-Tempo : goal.returns-in-Tempo
unfolding too_late
returns-in-Tempo c = simp c.in-Tempo.is

pub returns-in-Other : goal.returns-in-Other
unfolding too_late
returns-in-Other c = simp c.in-Other.is
