-- `walk` meets its contract. The invariant: the walk from here on, with a step for each byte that is left, meets what the whole walk does. Assumes nothing.
-- the size that was read, and its pad byte
use Rattle.std.proofs.Common.{rules}
use Rattle.std.specs.Prelude.{None, Option}
use mathlib.Core.Path.{◌≡◌, refl, sym, ap, ◌∙◌}
use mathlib.Core.List.{List}
use Prim.Native.Nat.{ℕ, pred, ◌+◌, ◌%◌}
use native.Mathlib.Omega.{arith}
use lib.ListN.{length}
use Rattle.wave.specs.Fields.{four_at}
use Rattle.wave.specs.Reader.{padded_at, met_of, walk_of}
use Rattle.wave.specs.declared.chunks.Places.{Places}
use Rattle.wave.proofs.Walks.{walk_over, walk_short, walk_cut, walk-next}
use Rattle.wave.proofs.chunks.walk.Goals as goal

padded_is : (f : List ℕ) (at : ℕ) {size : ℕ} → size ≡ four_at f (at + 4) → size + size % 2 ≡ padded_at f at
unfolding padded_at
padded_is f at e = rw e

-- the id that was read, and what it meets
meets : (f : List ℕ) (at : ℕ) (p : Places) {id : ℕ} {m : Option Places} → id ≡ four_at f at → m ≡ met_of id at p → met_of (four_at f at) at p ≡ m
meets f at p e g = ap (λ (n : ℕ). met_of n at p) (sym e) ∙ sym g

pub loop-at-init : goal.loop-at-init
unfolding walk_of
loop-at-init c = (length c.args.file.now, omega arith, refl)

pub overflow_sub-all : goal.overflow_sub-all
overflow_sub-all c = omega arith

pub returns-then-all-at-lt8 : goal.returns-then-all-at-lt8
returns-then-all-at-lt8 c = sym (walk_short _ _ _ _ c.loop-at-test.true c.loop-at.invariant.1 c.if-all-at-lt8.true) ∙ c.loop-at.invariant.2

pub overflow_add-at : goal.overflow_add-at
overflow_add-at c = omega arith

pub four_at-size-requires : goal.four_at-size-requires
four_at-size-requires c = omega arith

pub overflow_add-padded : goal.overflow_add-padded
overflow_add-padded c = omega arith

pub overflow_sub-all-in-loop-at : goal.overflow_sub-all-in-loop-at
overflow_sub-all-in-loop-at c = omega arith

pub overflow_sub-all-in-loop-at-2 : goal.overflow_sub-all-in-loop-at-2
overflow_sub-all-in-loop-at-2 c = omega arith

pub returns-then-all-at : goal.returns-then-all-at
returns-then-all-at c = let padded = padded_is _ _ c.four_at-size.ensures in sym (walk_cut _ _ _ _ c.loop-at-test.true c.loop-at.invariant.1 c.if-all-at-lt8.false (omega arith)) ∙ c.loop-at.invariant.2

pub four_at-requires : goal.four_at-requires
four_at-requires c = omega arith

pub returns-in_err-places : goal.returns-in_err-places
returns-in_err-places c = let padded = padded_is _ _ c.four_at-size.ensures in let e : c.from_residual.result ≡ None = search rules in e ∙ sym (walk-next _ _ _ _ c.loop-at-test.true c.loop-at.invariant.1 c.if-all-at-lt8.false (omega arith) _ (meets _ _ _ c.four_at.ensures c.meet.ensures ∙ c.in_err-places.was)) ∙ c.loop-at.invariant.2

pub overflow_add-at-in-loop-at : goal.overflow_add-at-in-loop-at
overflow_add-at-in-loop-at c = omega arith

pub overflow_add-at-in-loop-at-2 : goal.overflow_add-at-in-loop-at-2
overflow_add-at-in-loop-at-2 c = omega arith

pub loop-at-smaller : goal.loop-at-smaller
loop-at-smaller c = omega arith

pub loop-at-preserved : goal.loop-at-preserved
loop-at-preserved c = let padded = padded_is _ _ c.four_at-size.ensures in (
  pred c.loop-at.invariant.0,
  omega arith,
  rw padded (sym (walk-next _ _ _ _ c.loop-at-test.true c.loop-at.invariant.1 c.if-all-at-lt8.false (omega arith) _ (meets _ _ _ c.four_at.ensures c.meet.ensures ∙ c.in_ok-places.was)) ∙ c.loop-at.invariant.2),
)

pub returns : goal.returns
returns c = sym (walk_over _ _ _ _ c.loop-at-test.false) ∙ c.loop-at.invariant.2
