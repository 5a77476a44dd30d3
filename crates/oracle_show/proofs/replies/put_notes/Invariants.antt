use Rattle.std.proofs.Common.{◌≡◌, ◌+◌, ◌*◌, min, length}
use Rattle.oracle_show.proofs.replies.put_notes.Given as goal

abbrev pub invariant-loop-note : goal.invariant-loop-note
invariant-loop-note l = length l.out ≡ min (length l.fn.out + 17 * l.note-index) 65536
