-- The numbers in a Standard MIDI File 1.0: of two, three or four bytes, "the most significant first", and
-- variable-length quantities. Definitions only.
use Rattle.std.specs.Prelude.{Result, Ok, Err, cond, List, [], ◌∷◌, ℕ, zero, suc, ◌+◌, ◌-◌, ◌*◌, ltb}
use Rattle.octets.specs.Octets.{byte_at, number_of}
use Rattle.smf.specs.Faults.{fault_at}
use Rattle.smf.specs.declared.faults.Reason.TheVariants.{Missing, LongQuantity}
use Rattle.smf.specs.declared.faults.Fault.{Fault}

unfoldable pub two_at : List ℕ → ℕ → ℕ
two_at f at = number_of (byte_at f at ∷ byte_at f (at + 1) ∷ [])

unfoldable pub three_at : List ℕ → ℕ → ℕ
three_at f at = number_of (byte_at f at ∷ byte_at f (at + 1) ∷ byte_at f (at + 2) ∷ [])

unfoldable pub four_at : List ℕ → ℕ → ℕ
four_at f at = number_of (byte_at f at ∷ byte_at f (at + 1) ∷ byte_at f (at + 2) ∷ byte_at f (at + 3) ∷ [])

-- ---- "Variable-length quantity": "7 bits per byte, most significant bits first. All bytes except the last have bit 7
-- set, and the last byte has bit 7 clear"; 0FFFFFFF is the largest, so there are four bytes at most

-- the byte at a place before `end`, after bytes that make v; where it isn't the last, `more`
abbrev pub digit_at : List ℕ → ℕ → ℕ → ℕ → Result (ℕ × ℕ) Fault → Result (ℕ × ℕ) Fault
digit_at f end v at more =
    cond (ltb at end) (cond (ltb (byte_at f at) 128) (Ok (v * 128 + byte_at f at, at + 1)) more)
    (Err (fault_at Missing at))

-- the first number is how many bytes may follow this one
unfoldable pub quantity_from : ℕ → List ℕ → ℕ → ℕ → ℕ → Result (ℕ × ℕ) Fault
quantity_from zero f end v at = digit_at f end v at (Err (fault_at LongQuantity at))
quantity_from (suc n) f end v at = digit_at f end v at (quantity_from n f end (v * 128 + (byte_at f at - 128)) (at + 1))

abbrev pub quantity_at : List ℕ → ℕ → ℕ → Result (ℕ × ℕ) Fault
quantity_at f end at = quantity_from 3 f end 0 at
