-- The header of a song of format 1, front to back, each field judged once its last byte is read. Definitions only.
use Rattle.std.specs.Prelude.{Result, Ok, Err, Bool, not, cond, List, ℕ, ◌+◌, ltb, leb, eqb, length}
use Rattle.smf.specs.Faults.{fault_at}
use Rattle.smf.specs.Fields.{two_at, four_at}
use Rattle.smf.specs.Files.{header_type}
use Rattle.smf.specs.declared.faults.Fault.{Fault}
use Rattle.smf.specs.declared.faults.Reason.{Reason}
use Rattle.smf.specs.declared.faults.Reason.TheVariants.{
  Missing,
  NoHeader,
  ShortHeader,
  OtherFormat,
  OtherTrackCount,
  SmpteDivision,
  NoDivision,
}
use Rattle.song_merge.specs.declared.chunks.Opened.{Opened}

-- what is read of a header or what is wrong with it
abbrev pub Opening : Type 0
Opening = Result Opened Fault

abbrev pub opened : ℕ → ℕ → ℕ → Opening
opened division count next = Ok (record { division = division; count = count; next = next })

-- a rule that a field breaks, and what follows where it doesn't
abbrev pub unless : Bool → Reason → ℕ → Opening → Opening
unless broken why at next = cond broken (Err (fault_at why at)) next

-- a field that ends before the place n
abbrev pub up_to : List ℕ → ℕ → Opening → Opening
up_to f n next = unless (ltb (length f) n) Missing (length f) next

unfoldable pub fields_of : List ℕ → ℕ → Opening
fields_of f size =
    up_to f 10 (unless (not (eqb (two_at f 8) 1)) OtherFormat 9
    (up_to f 12 (unless (eqb (two_at f 10) 0) OtherTrackCount 11
    (up_to f 14 (unless (leb 0x8000 (two_at f 12)) SmpteDivision 13 (unless (eqb (two_at f 12) 0) NoDivision 13
    (up_to f (8 + size) (opened (two_at f 12) (two_at f 10) (8 + size)))))))))

unfoldable pub opening_of : List ℕ → Opening
opening_of f =
    up_to f 4 (unless (not (eqb (four_at f 0) header_type)) NoHeader 3
    (up_to f 8 (unless (ltb (four_at f 4) 6) ShortHeader 7 (fields_of f (four_at f 4)))))
