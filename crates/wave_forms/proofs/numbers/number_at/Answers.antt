-- `numbers::number_at` meets its contract. The invariant: the bytes from here on are read (`Copies: Read`). Assumes nothing.
use native.Mathlib.Omega.{arith}
use Rattle.wave_forms.proofs.Copies.{read_none, read_all, read_next, next_fits}
use Rattle.wave_forms.proofs.numbers.number_at.Goals as goal

pub loop-i-init : goal.loop-i-init
loop-i-init c = read_none _ _ _

pub overflow_mul-n : goal.overflow_mul-n
overflow_mul-n c = let room = next_fits _ _ _ _ _ c.loop-i.invariant (omega arith) 0 (omega arith) c.requires.1 in omega arith

pub overflow_add-at : goal.overflow_add-at
overflow_add-at c = let r = c.loop-i.invariant in omega (arith, r.inside)

pub overflow_add-n : goal.overflow_add-n
overflow_add-n c = record { fits = next_fits _ _ _ _ _ c.loop-i.invariant (omega arith) _ (omega arith) c.requires.1 }

pub loop-i-preserved : goal.loop-i-preserved
loop-i-preserved c = read_next _ _ _ _ _ c.loop-i.invariant (omega arith) _ c.byte_at.ensures (omega arith)

pub returns : goal.returns
returns c = let both = read_all _ _ _ _ _ c.loop-i.invariant (omega arith) in record { value = both.0; upper_bound = both.1 }
