-- What stands in a track of a Standard MIDI File 1.0: "<MTrk event> = <delta-time><event>", "<event> = <MIDI event> |
-- <sysex event> | <meta-event>". `end` is where the track ends, or the file before it. Definitions only.
use Rattle.std.specs.Prelude.{Result, Ok, Err, Bool, cond, ◌&&◌, ◌||◌, List, ℕ, ◌+◌, ◌-◌, ◌*◌, ◌%◌, ltb, leb, eqb}
use Rattle.octets.specs.Octets.{byte_at}
use Rattle.smf.specs.Faults.{fault_at}
use Rattle.smf.specs.Fields.{three_at, quantity_at}
use Rattle.smf.specs.declared.faults.Reason.TheVariants.{
  Missing,
  NoEndOfTrack,
  NoRunningStatus,
  SystemStatus,
  NoDataByte,
  NoMetaType,
  ShortTempo,
}
use Rattle.smf.specs.declared.events.Event.{Event}
use Rattle.smf.specs.declared.events.Event.TheVariants.{Note, Tempo, Other}
use Rattle.smf.specs.declared.events.Read.{Read}
use Rattle.smf.specs.declared.events.Read.TheVariants.{Is, End}
use Rattle.smf.specs.declared.events.Step.{Step}
use Rattle.smf.specs.declared.events.Step.TheVariants as step
use Rattle.smf.specs.declared.faults.Fault.{Fault}

-- ---- MIDI events: a status byte from 80 to EF, which may be left out where it is the same as before ("running
-- status"),
-- and data bytes below 80

unfoldable pub data_at : List ℕ → ℕ → ℕ → Result ℕ Fault
data_at f end at =
    cond (ltb at end) (cond (ltb (byte_at f at) 128) (Ok (byte_at f at)) (Err (fault_at NoDataByte at)))
    (Err (fault_at Missing at))

-- program change, Cx, and channel pressure, Dx, have one data byte; the others have two
unfoldable pub is_one_byte : ℕ → Bool
is_one_byte status = leb 192 status && ltb status 224

-- note on, 9x, and note off, 8x, as one number: the note, the channel, and the velocity, which is 0 for a note off
abbrev pub packed : ℕ → ℕ → ℕ → ℕ
packed note channel velocity = note * 256 + channel + velocity * 65536

unfoldable pub message_of : ℕ → ℕ → ℕ → Event
message_of status note velocity =
    cond (ltb status 144) (Note (packed note (status % 16) 0))
    (cond (ltb status 160) (Note (packed note (status % 16) velocity)) Other)

-- what a data byte is read for
abbrev pub with_data : Result ℕ Fault → (ℕ → Result Read Fault) → Result Read Fault
with_data (Ok byte) found = found byte
with_data (Err why) found = Err why

-- from the first data byte on; the status is the running status afterwards
unfoldable pub channel_event : List ℕ → ℕ → ℕ → ℕ → Result Read Fault
channel_event f end status at =
    with_data (data_at f end at) (λ first. cond (is_one_byte status) (Ok (Is Other status (at + 1)))
    (with_data (data_at f end (at + 1)) (λ second. Ok (Is (message_of status first second) status (at + 2)))))

-- ---- "Sysex events and meta-events cancel any running status which was in effect"

-- what is skipped by its size
abbrev pub past : ℕ → ℕ → ℕ → Result Read Fault → Result Read Fault
past end size at found = cond (leb size (end - at)) found (Err (fault_at Missing end))

-- what a quantity is read for, and the place behind it
abbrev pub with_quantity : Result (ℕ × ℕ) Fault → (ℕ → ℕ → Result Read Fault) → Result Read Fault
with_quantity (Ok (value, next)) found = found value next
with_quantity (Err why) found = Err why

-- F0 <length> <bytes>, F7 <length> <bytes>: from the length on
unfoldable pub sysex_at : List ℕ → ℕ → ℕ → Result Read Fault
sysex_at f end at = with_quantity (quantity_at f end at) (λ size next. past end size next (Ok (Is Other 0 (next + size))))

-- FF 51 03 tttttt, microseconds a quarter note: from the data on. More bytes than the three that are known are skipped
unfoldable pub tempo_of : List ℕ → ℕ → ℕ → ℕ → Result Read Fault
tempo_of f end size at =
    cond (ltb size 3) (Err (fault_at ShortTempo (at - 1)))
    (past end size at (Ok (Is (Tempo (three_at f at)) 0 (at + size))))

-- FF <type> <length> <bytes>: from the data on. FF 2F is End of Track
unfoldable pub meta_of : List ℕ → ℕ → ℕ → ℕ → ℕ → Result Read Fault
meta_of f end type size at =
    cond (eqb type 0x51) (tempo_of f end size at)
    (past end size at (cond (eqb type 0x2f) (Ok (End (at + size))) (Ok (Is Other 0 (at + size)))))

-- from the type on, which is "always less than 128"
unfoldable pub meta_at : List ℕ → ℕ → ℕ → Result Read Fault
meta_at f end at =
    cond (ltb at end)
    (cond (ltb (byte_at f at) 128)
    (with_quantity (quantity_at f end (at + 1)) (λ size next. meta_of f end (byte_at f at) size next))
    (Err (fault_at NoMetaType at)))
    (Err (fault_at Missing at))

-- ---- an event

-- from behind its status byte on: F1 to F6 and F8 to FE have no place in a file
unfoldable pub status_of : List ℕ → ℕ → ℕ → ℕ → Result Read Fault
status_of f end status at =
    cond (ltb status 240) (channel_event f end status at)
    (cond (eqb status 255) (meta_at f end at)
    (cond (eqb status 240 || eqb status 247) (sysex_at f end at) (Err (fault_at SystemStatus (at - 1)))))

-- `running` is the running status, 0 where there is none
unfoldable pub event_at : List ℕ → ℕ → ℕ → ℕ → Result Read Fault
event_at f end running at =
    cond (ltb at end)
    (cond (leb 128 (byte_at f at)) (status_of f end (byte_at f at) (at + 1))
    (cond (eqb running 0) (Err (fault_at NoRunningStatus at)) (channel_event f end running at)))
    (Err (fault_at Missing at))

-- a delta-time and an event
abbrev pub step_timed : ℕ → Result Read Fault → Result Step Fault
step_timed delta (Ok (Is event status next)) = Ok (step.Is delta event status next)
step_timed delta (Ok (End next)) = Ok (step.End next)
step_timed delta (Err why) = Err why

abbrev pub with_delta : Result (ℕ × ℕ) Fault → (ℕ → Result Read Fault) → Result Step Fault
with_delta (Ok (delta, next)) found = step_timed delta (found next)
with_delta (Err why) found = Err why

unfoldable pub step_at : List ℕ → ℕ → ℕ → ℕ → Result Step Fault
step_at f end running at =
    cond (ltb at end) (with_delta (quantity_at f end at) (event_at f end running)) (Err (fault_at NoEndOfTrack at))
