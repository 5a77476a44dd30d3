-- What is wrong with a bad header or record, in the order in which it is looked for. There is a fault exactly where
-- `good_header` or `good_record` fails: `proofs/Faultless: header-faultless`, `record-faultless`. Definitions only.
use Rattle.std.specs.Prelude.{ℕ, ◌+◌, ◌-◌, Bool, true, false, not, cond, Option, Some, None, ◌||◌, List, eqb, leb, ltb, length}
use Rattle.octets.specs.Octets.{byte_at}
use Rattle.listing.specs.Records.{half_at, kind_of, kind_length, last_length_kind}
use Rattle.listing.specs.declared.records.Header.{Header}
use Rattle.listing.specs.declared.faults.HeaderFault.{HeaderFault}
use Rattle.listing.specs.declared.faults.HeaderFault.TheVariants as header
use Rattle.listing.specs.declared.faults.RecordFault.{RecordFault}
use Rattle.listing.specs.declared.faults.RecordFault.TheVariants as fault

-- ---- a header
unfoldable pub header_fault_of : List ℕ → Option HeaderFault
header_fault_of b =
    cond (eqb (length b) 0) (Some header.Empty)
    (cond (not (eqb (length b) 3)) (Some header.Cut)
    (cond (not (eqb (byte_at b 0) 1 || eqb (byte_at b 0) 2)) (Some (header.Version (byte_at b 0)))
    (cond (not (eqb (byte_at b 1) 1 || eqb (byte_at b 1) 2)) (Some (header.Channels (byte_at b 1)))
    (cond (not (leb (byte_at b 2) 1)) (Some (header.Passthru (byte_at b 2)))
    None))))

abbrev pub header_faultless : Option HeaderFault → Bool
header_faultless None = true
header_faultless (Some why) = false

-- ---- a record

-- of parameters that are all there: pass-through, loop mode, length kind, note-off mode
unfoldable pub settings_fault_of : Header → List ℕ → Option RecordFault
settings_fault_of h r =
    cond (not (leb (byte_at r 11) 1)) (Some (fault.Passthru (byte_at r 11)))
    (cond (not (leb (byte_at r 12) 2)) (Some (fault.LoopMode (byte_at r 12)))
    (cond (not (leb (byte_at r 13) (last_length_kind h))) (Some (fault.LengthKind (byte_at r 13) (last_length_kind h)))
    (cond (not (leb (byte_at r 26) 2)) (Some (fault.NoteOff (byte_at r 26)))
    None)))

-- of a record that is all there: its kind, the length of its kind, its settings
unfoldable pub kind_fault_of : Header → List ℕ → Option RecordFault
kind_fault_of h r =
    cond (ltb 7 (kind_of r)) (Some (fault.Kind (kind_of r)))
    (cond (not (eqb (half_at r 0) (kind_length h (kind_of r))))
    (Some (fault.Length (kind_of r) (half_at r 0) (kind_length h (kind_of r))))
    (cond (eqb (kind_of r) 0) (settings_fault_of h r)
    None))

-- of any: its two bytes of length, a length of 0, one that no kind has, and bytes that are not there
unfoldable pub record_fault_of : Header → List ℕ → Option RecordFault
record_fault_of h r =
    cond (ltb (length r) 2) (Some fault.NoLength)
    (cond (eqb (half_at r 0) 0) (Some fault.NoKind)
    (cond (ltb 45 (half_at r 0)) (Some (fault.TooLong (half_at r 0)))
    (cond (not (eqb (length r) (half_at r 0 + 2))) (Some (fault.Cut (length r - 2) (half_at r 0)))
    (kind_fault_of h r))))

abbrev pub record_faultless : Option RecordFault → Bool
record_faultless None = true
record_faultless (Some why) = false
