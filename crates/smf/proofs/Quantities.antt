-- Variable-length quantities, byte by byte, and that the place behind one lies behind its first byte and not past the end. Assumes nothing.
use Rattle.std.specs.Prelude.{Result, Ok, Err}
use mathlib.Core.Path.{◌≡◌, refl}
use mathlib.Core.Bool.{Bool, true, false, cond}
use mathlib.Core.List.{List}
use Prim.Native.Nat.{ℕ, zero, suc, ◌+◌, ◌-◌, ◌*◌, ◌^◌, ◌≤◌, ◌<◌}
use native.Mathlib.Nat.{pow-suc, pow-le-pow_right}
use native.Mathlib.Numerals.{add-one}
use native.Mathlib.Omega.{arith}
use lib.Dec.{ltb}
use borrow.Author.Tests.{ltb-true, lt-ltb, le-ltb}
use Rattle.octets.specs.Octets.{byte_at}
use Rattle.smf.specs.Faults.{fault_at}
use Rattle.smf.specs.Fields.{digit_at, quantity_from}
use Rattle.smf.specs.declared.faults.Reason.TheVariants.{Missing, LongQuantity}
use Rattle.smf.specs.declared.faults.Fault.{Fault}

module _ (f : List ℕ) (end v at : ℕ) where
  pub quantity_missing : (n : ℕ) → end ≤ at → quantity_from n f end v at ≡ Err (fault_at Missing at)
  unfolding quantity_from
  quantity_missing zero h = simp (le-ltb _ _ h)
  quantity_missing (suc n) h = simp (le-ltb _ _ h)

  pub quantity_last : (n : ℕ) → at < end → byte_at f at < 128 → quantity_from n f end v at ≡ Ok (v * 128 + byte_at f at, at + 1)
  unfolding quantity_from
  quantity_last zero h k = simp (lt-ltb _ _ h, lt-ltb _ _ k)
  quantity_last (suc n) h k = simp (lt-ltb _ _ h, lt-ltb _ _ k)

  pub quantity_long : at < end → 128 ≤ byte_at f at → quantity_from 0 f end v at ≡ Err (fault_at LongQuantity at)
  unfolding quantity_from
  quantity_long h k = simp (lt-ltb _ _ h, le-ltb _ _ k)

  pub quantity_more : (n : ℕ) → at < end → 128 ≤ byte_at f at → quantity_from (suc n) f end v at ≡ quantity_from n f end (v * 128 + (byte_at f at - 128)) (at + 1)
  unfolding quantity_from
  quantity_more n h k = simp (lt-ltb _ _ h, le-ltb _ _ k)

-- ---- the value so far fits: seven bits a byte
pub value_more : (used v b : ℕ) → v < 128 ^ used → b < 128 → v * 128 + b < 128 ^ (used + 1)
value_more used v b h k = rw (add-one used) (omega (arith, pow-suc 128 used))

pub value_small : (used v : ℕ) → used ≤ 3 → v < 128 ^ used → v < 2097152
value_small used v h k = omega (arith, pow-le-pow_right {n = 128} (omega arith) {i = used} {j = 3} h)

-- ---- where it ends
abbrev pub Within : ℕ → ℕ → Result (ℕ × ℕ) Fault → Type 0
Within end at (Ok (v, next)) = (at < next) × (next ≤ end)
Within end at (Err why) = Unit {0}

later : (end at : ℕ) (q : Result (ℕ × ℕ) Fault) → Within end (at + 1) q → Within end at q
later end at (Ok (v, next)) h = (omega arith, h.1)
later end at (Err why) h = tt

digit_within : (f : List ℕ) (end v at : ℕ) (more : Result (ℕ × ℕ) Fault) → Within end at more → Within end at (digit_at f end v at more)
digit_within f end v at more h = go (ltb at end) refl (ltb (byte_at f at) 128)
  where
    go : (b : Bool) → ltb at end ≡ b → (d : Bool)
        → Within end at (cond b (cond d (Ok (v * 128 + byte_at f at, at + 1)) more) (Err (fault_at Missing at)))
    go true e true = (omega arith, omega (arith, ltb-true at end e))
    go true e false = h
    go false e d = tt

pub quantity_within : (n : ℕ) (f : List ℕ) (end v at : ℕ) → Within end at (quantity_from n f end v at)
unfolding quantity_from
quantity_within zero f end v at = digit_within f end v at (Err (fault_at LongQuantity at)) tt
quantity_within (suc n) f end v at =
    digit_within f end v at (quantity_from n f end (v * 128 + (byte_at f at - 128)) (at + 1))
    (later end at (quantity_from n f end (v * 128 + (byte_at f at - 128)) (at + 1)) (quantity_within n f end (v * 128 + (byte_at f at - 128)) (at + 1)))
