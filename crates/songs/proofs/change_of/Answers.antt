-- `change_of` meets its contract. Assumes nothing.
use lib.Ieee.{of_bits, of_int}
use Rattle.std.proofs.Common.{rules}
use Rattle.songs.specs.Plays.{change_by}
use Rattle.songs.proofs.change_of.Goals as goal

pub returns-then-cue : goal.returns-then-cue
unfolding change_by of_bits of_int
returns-then-cue c = simp (c.if-cue.true, c.copied.ensures, c.from-note.ensures)

pub returns-else-cue : goal.returns-else-cue
unfolding change_by
returns-else-cue c = simp (c.if-cue.false, c.copied-else-cue.ensures, c.from-note.ensures)
