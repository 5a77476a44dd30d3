-- What can be wrong with a Standard MIDI File, where, and the number of the refusal: 12 for a file that breaks the
-- document, 13 for one of another format or with a SMPTE division, 14 for a start or stop later than any frame.
-- Definitions only.
use Rattle.std.specs.Prelude.{ℕ}
use Rattle.smf.specs.declared.faults.Reason.{Reason}
use Rattle.smf.specs.declared.faults.Reason.TheVariants.{
  Missing,
  NoHeader,
  ShortHeader,
  OtherFormat,
  OtherTrackCount,
  SmpteDivision,
  NoDivision,
  SecondHeader,
  SecondTrack,
  NoTrack,
  NoEndOfTrack,
  BehindEndOfTrack,
  LongQuantity,
  NoRunningStatus,
  SystemStatus,
  NoDataByte,
  NoMetaType,
  ShortTempo,
  LateFrame,
}
use Rattle.smf.specs.declared.faults.Fault.{Fault}

abbrev pub fault_at : Reason → ℕ → Fault
fault_at why place = record { reason = why; at = place }

unfoldable pub refusal_of : Reason → ℕ
refusal_of Missing = 12
refusal_of NoHeader = 12
refusal_of ShortHeader = 12
refusal_of OtherFormat = 13
refusal_of OtherTrackCount = 12
refusal_of SmpteDivision = 13
refusal_of NoDivision = 12
refusal_of SecondHeader = 12
refusal_of SecondTrack = 12
refusal_of NoTrack = 12
refusal_of NoEndOfTrack = 12
refusal_of BehindEndOfTrack = 12
refusal_of LongQuantity = 12
refusal_of NoRunningStatus = 12
refusal_of SystemStatus = 12
refusal_of NoDataByte = 12
refusal_of NoMetaType = 12
refusal_of ShortTempo = 12
refusal_of LateFrame = 14
