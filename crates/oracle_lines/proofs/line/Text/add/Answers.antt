-- What is behind the added bytes is still 0.
use Rattle.std.proofs.Common.{rules, arith}
use Rattle.oracle_lines.proofs.Rooms.{IsRoom-put_mid}
use Rattle.oracle_lines.proofs.line.Text.add.Goals as goal

pub invariant_of-self : goal.invariant_of-self
invariant_of-self c =
    IsRoom-put_mid 65536 c.self.inside.length _ _ c.self.inside.bytes _ c.self.invariant (omega arith) (search rules) (search rules)
