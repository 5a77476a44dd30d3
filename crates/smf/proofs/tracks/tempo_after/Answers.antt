-- `tempo_after` meets its contract. Assumes nothing.
use Rattle.smf.specs.Cues.{tempo_after}
use Rattle.smf.proofs.tracks.tempo_after.Goals as goal

pub returns-in-Note : goal.returns-in-Note
unfolding tempo_after
returns-in-Note c = simp c.in-Note.is

pub returns-in-Tempo : goal.returns-in-Tempo
unfolding tempo_after
returns-in-Tempo c = simp c.in-Tempo.is

pub returns-in-Other : goal.returns-in-Other
unfolding tempo_after
returns-in-Other c = simp c.in-Other.is
