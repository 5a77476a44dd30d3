-- A whole number that a format holds exactly, as a float, times a power of two, and as the operand of a cast. Stated over any format. Assumes nothing.
use Rattle.std.proofs.Common.{◌≡◌, ℕ, ◌*◌, ◌^◌, ◌≤◌, false, T, pos, refl, ap, zero-lt-suc, one-mul, le→leb}
use lib.Ieee.{fin, Format, prec, mul, of_int, in_float}
use lib.Ieee.Exact.{HasValue}
use lib.Ieee.Back.{round_whole}
use Rattle.binary32.proofs.Values.{mul_value}

pub of_int_whole : (f : Format) (a : ℕ) → a ≤ 2 ^ prec f → HasValue (of_int f (pos a)) false a 1
unfolding of_int
of_int_whole f a h = round_whole f false a h

power_value : (t : ℕ) → HasValue (fin false 1 (pos t)) false (2 ^ t) 1
power_value t = (refl, ap (λ (z : ℕ). z * 1) (one-mul (2 ^ t)))

-- its product with a power of two is the float nearest to the whole number that the two make
pub of_int_scaled : (f : Format) (a t : ℕ) → a ≤ 2 ^ prec f → mul f (of_int f (pos a)) (fin false 1 (pos t)) ≡ of_int f (pos (a * 2 ^ t))
unfolding of_int
of_int_scaled f a t h = mul_value f (of_int f (pos a)) (fin false 1 (pos t)) false a 1 false (2 ^ t) 1 (zero-lt-suc 0) (zero-lt-suc 0) (of_int_whole f a h) (power_value t)

-- ---- a whole number that a cast takes
pub castable : (f : Format) (n : ℕ) → n ≤ 2 ^ prec f → T (in_float f (pos n))
unfolding in_float
castable f n h = le→leb n (2 ^ prec f) h
