-- The samples up to here are stored.
use mathlib.Core.Path.{◌≡◌}
use Prim.Native.Nat.{ℕ, ◌+◌, ◌*◌, ◌≤◌}
use lib.ListN.{get_or}
use lib.Seq.{sets}
use Rattle.wave.specs.Fields.{listed}
use Rattle.wave.specs.Reader.{words_in}
use Rattle.wave.proofs.words.take_channel.Given as goal

abbrev pub invariant-loop-i : goal.invariant-loop-i
invariant-loop-i l = record {
  within : l.i ≤ l.w.samples;
  is_stored : l.memory ≡ sets l.initial.memory l.start (listed (λ (n : ℕ). get_or (words_in l.file l.w) (n * l.w.channels + l.j) 0) 0 l.i);
}
