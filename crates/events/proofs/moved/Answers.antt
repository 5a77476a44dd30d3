-- `moved` meets its contract. The invariant: so many bytes stand in front, and those from there on are as they were. Assumes nothing.
use Prim.Native.Nat.{ℕ, ◌-◌}
use mathlib.Core.Path.{◌≡◌, refl, sym, ap, ◌∙◌}
use native.Mathlib.Omega.{arith}
use lib.ListN.{take, drop}
use Rattle.events.proofs.Bytes.{moved_front, moved_ahead, front_left}
use borrow.Author.Rules.{rules}
use Rattle.events.proofs.moved.Goals as goal

pub loop-i-init : goal.loop-i-init
loop-i-init c = (omega arith, refl, refl, refl)

pub loop-i-preserved : goal.loop-i-preserved
loop-i-preserved c =
    let l = c.loop-i in (
      search rules,
      search rules,
      moved_front l.input c.args.input.now c.args.used l.i (omega arith) l.invariant.1 l.invariant.2 l.invariant.3,
      moved_ahead l.input c.args.input.now c.args.used l.i (omega arith) l.invariant.1 l.invariant.2 l.invariant.3,
    )

pub returns : goal.returns
returns c =
    let l = c.loop-i in
    let a = c.args in
    let all : a.have - a.used ≡ l.i = omega arith in record {
      upper_bound = omega arith;
      input_after =
          ap (λ (n : ℕ). take n l.input) all ∙ l.invariant.2 ∙ ap (λ (n : ℕ). take n (drop a.used a.input.now)) (sym all)
          ∙ sym (front_left a.used a.have a.input.now c.requires.used_le_have c.requires.have_in_bounds);
    }
