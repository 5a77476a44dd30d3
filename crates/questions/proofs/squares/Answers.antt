-- `squares` meets its contract, by the law of loops. Assumes nothing.
use mathlib.Core.Path.{refl, sym, ap}
use mathlib.Core.List.{List, map}
use Prim.Native.Nat.{ℕ}
use lib.Ieee.{Float, of_bits}
use Rattle.binary32.specs.Leaves.{float_of, zero32}
use Rattle.std.specs.List.{fold}
use Rattle.walks.proofs.Lists.Loops.{turns, ends}
use Rattle.questions.specs.Waveforms.{with_square}
use Rattle.questions.proofs.Filling.{from_start}
use borrow.Author.Rules.{rules}
use Rattle.questions.proofs.squares.Goals as goal

pub loop-bits-init : goal.loop-bits-init
unfolding of_bits
loop-bits-init c = from_start (λ (xs : List ℕ). fold with_square zero32 (map float_of xs)) _ _ refl

pub loop-bits-preserved : goal.loop-bits-preserved
loop-bits-preserved c =
    turns 0 c.loop-bits.invariant (search rules) (λ xs. ap (λ (x : Float). fold with_square (with_square c.loop-bits.total x) (map float_of xs)) (sym c.from_bits-x.ensures))

pub returns : goal.returns
returns c = ends c.loop-bits.invariant c.loop-bits-test.false
