-- `binary32::root_of` meets its contract: the law `pattern_root`, with the exponent's field below 1 and above. Assumes nothing.
use Rattle.std.proofs.Common.{◌≡◌, ℕ, ◌+◌, ◌-◌, ◌*◌, ◌/◌, ◌%◌, ◌^◌, sym, ap, ◌∙◌, arith}
use Rattle.binary32.specs.Leaves.{float_of, root_of}
use Rattle.binary32.proofs.RootCases.{pattern_root}
use Rattle.binary32.proofs.root_of.Goals as goal

pub returns-then-pattern-lt8388608 : goal.returns-then-pattern-lt8388608
returns-then-pattern-lt8388608 c =
    let b = c.args.pattern in
    let e : 0 * 2 ^ 23 + b ≡ b = omega arith in
    c.scaled_root.ensures ∙ sym (pattern_root b 0 (omega arith) (omega arith) (λ z. omega arith)) ∙ ap (λ (z : ℕ). root_of (float_of z)) e

pub returns-else-pattern-lt8388608 : goal.returns-else-pattern-lt8388608
returns-else-pattern-lt8388608 c =
    let b = c.args.pattern in
    let m = b % 0x80_0000 + 0x80_0000 in
    let drop = b / 0x80_0000 - 1 in
    let e : drop * 2 ^ 23 + m ≡ b = omega arith in
    c.scaled_root-else-pattern-lt8388608.ensures ∙ sym (pattern_root m drop (omega arith) (omega arith) (λ z. omega arith)) ∙ ap (λ (z : ℕ). root_of (float_of z)) e
