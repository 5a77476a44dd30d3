-- The bytes from here on are read (`Copies: Read`).
use Rattle.wave_forms.proofs.Copies.{Read}
use Rattle.wave_forms.proofs.numbers.number_at.Given as goal

abbrev pub invariant-loop-i : goal.invariant-loop-i
invariant-loop-i l = Read l.file l.at l.bytes l.i l.n
