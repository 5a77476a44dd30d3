use Rattle.std.proofs.Common.{◌+◌, ◌*◌, ◌≤◌, length}
use Rattle.oracle_show.proofs.record.put_channel.Given as goal

abbrev pub invariant-loop-k : goal.invariant-loop-k
invariant-loop-k l = (l.k ≤ 8) × (length l.out ≤ length l.fn.out + 168 + 38 * l.k)

abbrev pub invariant-loop-voice : goal.invariant-loop-voice
invariant-loop-voice l = length l.out ≤ length l.initial.out + 203 * l.voice-index
