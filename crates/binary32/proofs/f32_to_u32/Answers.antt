-- `binary32::f32_to_u32` meets its contract: `narrow` from 64 bits to 32. Assumes nothing.
use Rattle.std.proofs.Common.{arith, lit≤}
use Rattle.binary32.proofs.Casts.{narrow}
use Rattle.binary32.proofs.f32_to_u32.Goals as goal

pub returns-then-n-lt4294967295 : goal.returns-then-n-lt4294967295
returns-then-n-lt4294967295 c = omega (arith, c.f32_to_usize-n.ensures, narrow 32 64 (lit≤ tt) c.args.x)

pub returns-else-n-lt4294967295 : goal.returns-else-n-lt4294967295
returns-else-n-lt4294967295 c = omega (arith, c.f32_to_usize-n.ensures, narrow 32 64 (lit≤ tt) c.args.x)
