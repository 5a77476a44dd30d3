-- What was written is 0 then, as what is behind it was.
use Rattle.std.proofs.Common.{rules}
use Rattle.oracle_lines.proofs.Rooms.{IsRoom-emptied}
use Rattle.oracle_lines.proofs.line.Text.write.Goals as goal

pub invariant_of-self : goal.invariant_of-self
invariant_of-self g c = IsRoom-emptied 65536 c.self.inside.length c.self.inside.bytes _ c.self.invariant (search rules)
