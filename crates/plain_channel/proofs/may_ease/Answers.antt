-- `may_ease` meets its contract. Assumes nothing.
-- the clock's test
use mathlib.Core.Path.{◌≡◌, refl, sym}
use mathlib.Core.Bool.{Bool, true, false}
use Prim.Native.Nat.{ℕ, ◌+◌, ◌-◌, ◌≤◌, ◌<◌}
use native.Mathlib.Omega.{arith}
use lib.Dec.{leb}
use borrow.Author.Tests.{leb-true, leb-false, le-leb, lt-leb}
use Rattle.channel.specs.Heads.{last_time}
use Rattle.plain_channel.specs.Ahead.{may_ease}
use Rattle.plain_channel.proofs.may_ease.Goals as goal

same_test : (t n : ℕ) → n ≤ last_time → (b : Bool) → leb t (last_time - n) ≡ b → b ≡ leb (t + n) last_time
same_test t n fits true e = sym (le-leb (t + n) last_time (let u : t ≤ last_time - n = leb-true t (last_time - n) e in omega (arith, u, fits)))
same_test t n fits false e = sym (lt-leb (t + n) last_time (let u : last_time - n < t = leb-false t (last_time - n) e in omega (arith, u, fits)))

-- there are more samples than the clock has
too_many : (t n : ℕ) → last_time < n → leb (t + n) last_time ≡ false
too_many t n many = lt-leb (t + n) last_time (omega (arith, many))

pub returns-then-is_recording : goal.returns-then-is_recording
unfolding may_ease
returns-then-is_recording c = simp (← c.is_recording.ensures, c.if-is_recording.true)

pub returns-then-n-gt-LAST_TIME : goal.returns-then-n-gt-LAST_TIME
unfolding may_ease
returns-then-n-gt-LAST_TIME c = simp (← c.is_recording.ensures, c.if-is_recording.false, too_many c.args.head.now _ c.if-n-gt-LAST_TIME.true)

pub returns : goal.returns
unfolding may_ease
returns c = simp (← c.is_recording.ensures, c.if-is_recording.false, same_test c.args.head.now _ c.if-n-gt-LAST_TIME.false _ refl)
