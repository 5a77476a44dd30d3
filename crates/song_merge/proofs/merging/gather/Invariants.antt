-- What the tracks so far come to, and what is left of them (`Gathering: Round`).
use mathlib.Core.Path.{◌≡◌}
use lib.ListN.{length}
use Rattle.song_merge.proofs.Gathering.{Round}
use Rattle.song_merge.proofs.merging.gather.Given as goal

abbrev pub invariant-loop-i : goal.invariant-loop-i
invariant-loop-i l = record {
  round : Round l.file l.count l.at (length l.initial.spare) l.initial.out l.out l.place l.end l.i;
  same_length : length l.spare ≡ length l.initial.spare;
}
