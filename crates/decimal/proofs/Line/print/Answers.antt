-- `Line::print` meets its contract: what it copies is the line's text. Assumes nothing.
use mathlib.Core.Path.{sym, ap, ◌∙◌}
use Prim.Native.Nat.{◌≤◌}
use native.Mathlib.Omega.{arith}
use borrow.Author.Tests.{le-leb, lt-leb}
use lib.ListN.{length}
use Rattle.walks.proofs.Lists.Runs.{run_front}
use Rattle.decimal.specs.Lines.{text_of}
use Rattle.decimal.proofs.Lines.{prints, prints_none}
use Rattle.decimal.proofs.Line.print.Goals as goal

pub returns-then-lent-text-clause-value : goal.returns-then-lent-text-clause-value
returns-then-lent-text-clause-value c = sym (lt-leb _ _ (omega (arith, ap length c.text-text.ensures)))

pub returns-then-lent-text-clause-lent_after : goal.returns-then-lent-text-clause-lent_after
returns-then-lent-text-clause-lent_after c =
    sym (prints_none (text_of c.args.self) c.args.lent.now (omega (arith, ap length c.text-text.ensures)))

pub returns-clause-value : goal.returns-clause-value
returns-clause-value c = sym (le-leb _ _ (omega (arith, ap length c.text-text.ensures)))

pub returns-clause-lent_after : goal.returns-clause-lent_after
returns-clause-lent_after c =
    let fits : length (text_of c.args.self) ≤ length c.args.lent.now = omega (arith, ap length c.text-text.ensures) in
    c.write_bytes.ensures.text_after
    ∙ rw c.text-text.ensures (run_front c.args.lent.now (text_of c.args.self) fits ∙ sym (prints (text_of c.args.self) c.args.lent.now fits))
