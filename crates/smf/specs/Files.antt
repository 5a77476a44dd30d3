-- A Standard MIDI File 1.0 of format 0, front to back: the header chunk, the one track chunk and its events, and the
-- chunks of other types, which are skipped. Each field is judged once its last byte is read; a byte that is due and
-- isn't there is a fault where it would stand. Definitions only.
use Rattle.std.specs.Prelude.{Option, Some, None, Result, Ok, Err, Bool, not, cond, List, ℕ, zero, suc, ◌+◌, min, ltb, leb, eqb, length}
use Rattle.smf.specs.Faults.{fault_at}
use Rattle.smf.specs.Fields.{two_at, four_at}
use Rattle.smf.specs.Events.{step_at}
use Rattle.smf.specs.declared.faults.Reason.{Reason}
use Rattle.smf.specs.declared.faults.Reason.TheVariants.{
  Missing,
  NoHeader,
  ShortHeader,
  OtherFormat,
  OtherTrackCount,
  SmpteDivision,
  NoDivision,
  SecondHeader,
  SecondTrack,
  NoTrack,
  NoEndOfTrack,
  BehindEndOfTrack,
}
use Rattle.smf.specs.declared.events.Event.{Event}
use Rattle.smf.specs.declared.events.Step.{Step}
use Rattle.smf.specs.declared.events.Step.TheVariants as step
use Rattle.smf.specs.declared.faults.Fault.{Fault}

-- ---- the header chunk: "<chunk type><length><format><ntrks><division>"

-- `MThd` and `MTrk`, as numbers of four bytes
abbrev pub header_type : ℕ
header_type = 0x4d546864

abbrev pub track_type : ℕ
track_type = 0x4d54726b

-- a rule that a field breaks, and what follows where it doesn't
abbrev pub unless : Bool → Reason → ℕ → Result (ℕ × ℕ) Fault → Result (ℕ × ℕ) Fault
unless broken why at next = cond broken (Err (fault_at why at)) next

-- a field that ends before the place n
abbrev pub up_to : List ℕ → ℕ → Result (ℕ × ℕ) Fault → Result (ℕ × ℕ) Fault
up_to f n next = unless (ltb (length f) n) Missing (length f) next

-- format 0 has one track; a division with bit 15 set is SMPTE's; the header may be longer than the six bytes that are
-- known
unfoldable pub fields_of : List ℕ → ℕ → Result (ℕ × ℕ) Fault
fields_of f size =
    up_to f 10 (unless (not (eqb (two_at f 8) 0)) OtherFormat 9
    (up_to f 12 (unless (not (eqb (two_at f 10) 1)) OtherTrackCount 11
    (up_to f 14 (unless (leb 0x8000 (two_at f 12)) SmpteDivision 13 (unless (eqb (two_at f 12) 0) NoDivision 13
    (up_to f (8 + size) (Ok (two_at f 12, 8 + size)))))))))

unfoldable pub header_of : List ℕ → Result (ℕ × ℕ) Fault
header_of f =
    up_to f 4 (unless (not (eqb (four_at f 0) header_type)) NoHeader 3
    (up_to f 8 (unless (ltb (four_at f 4) 6) ShortHeader 7 (fields_of f (four_at f 4)))))

-- ---- chunks: "a 4-character type and a 32-bit length, which is the number of bytes in the chunk". "Your programs
-- should
-- expect alien chunks and treat them as if they weren't there"

-- the chunk at a place: a track, or else what is found behind it
unfoldable pub chunk_at : List ℕ → ℕ → (ℕ → Result (Option ℕ) Fault) → Result (Option ℕ) Fault
chunk_at f at behind =
    cond (leb (length f) at) (Ok None)
    (cond (ltb (length f) (at + 4)) (Err (fault_at Missing (length f)))
    (cond (eqb (four_at f at) header_type) (Err (fault_at SecondHeader (at + 3)))
    (cond (eqb (four_at f at) track_type) (Ok (Some at))
    (cond (ltb (length f) (at + 8)) (Err (fault_at Missing (length f)))
    (cond (ltb (length f) (at + 8 + four_at f (at + 4))) (Err (fault_at Missing (length f)))
    (behind (at + 8 + four_at f (at + 4))))))))

-- the place of the next track chunk, in n steps at most
unfoldable pub track_from : ℕ → List ℕ → ℕ → Result (Option ℕ) Fault
track_from zero f at = (Ok None)
track_from (suc n) f at = chunk_at f at (track_from n f)

-- a chunk has at least eight bytes, so a step for each byte is enough
unfoldable pub track_at : List ℕ → ℕ → Result (Option ℕ) Fault
track_at f at = track_from (length f) f at

-- no second track
abbrev pub no_second : Result (Option ℕ) Fault → Result (Unit {0}) Fault
no_second (Err why) = Err why
no_second (Ok (Some place)) = Err (fault_at SecondTrack (place + 3))
no_second (Ok None) = (Ok tt)

unfoldable pub rest_at : List ℕ → ℕ → Result (Unit {0}) Fault
rest_at f at = no_second (track_at f at)

-- behind End of Track the track chunk, which ends at `full`, is over, and what follows is good
unfoldable pub behind_track : List ℕ → ℕ → ℕ → Result (Unit {0}) Fault
behind_track f full at =
    cond (ltb at (min full (length f))) (Err (fault_at BehindEndOfTrack at))
    (cond (ltb (length f) full) (Err (fault_at Missing (length f))) (rest_at f full))

-- ---- the events of a track, with their delta-times and the places behind them, up to the end of the file or the first
-- fault

pub data Events : Type 0 where
  then : ℕ → Event → ℕ → Events → Events
  over : Result (Unit {0}) Fault → Events

-- what a step finds, and the events behind it, from a running status and a place on
unfoldable pub events_on : List ℕ → ℕ → (ℕ → ℕ → Events) → Result Step Fault → Events
events_on f full behind (Err why) = over (Err why)
events_on f full behind (Ok (step.End next)) = over (behind_track f full next)
events_on f full behind (Ok (step.Is delta event status next)) = then delta event next (behind status next)

-- in n steps at most
unfoldable pub events_from : ℕ → List ℕ → ℕ → ℕ → ℕ → Events
events_from zero f full running at = over (Err (fault_at NoEndOfTrack at))
events_from (suc n) f full running at = events_on f full (events_from n f full) (step_at f (min full (length f)) running at)

-- an event has at least a byte, so a step for each byte of the file is enough
abbrev pub chunk_events : List ℕ → ℕ → ℕ → Events
chunk_events f full at = events_from (length f) f full 0 at

-- the track chunk at a place
unfoldable pub track_of : List ℕ → ℕ → Events
track_of f at =
    cond (ltb (length f) (at + 8)) (over (Err (fault_at Missing (length f))))
    (chunk_events f (at + 8 + four_at f (at + 4)) (at + 8))

-- the file's, where its header ends at a place
abbrev pub events_in : List ℕ → Result (Option ℕ) Fault → Events
events_in f (Err why) = over (Err why)
events_in f (Ok None) = over (Err (fault_at NoTrack (length f)))
events_in f (Ok (Some place)) = track_of f place

unfoldable pub events_of : List ℕ → ℕ → Events
events_of f at = events_in f (track_at f at)
