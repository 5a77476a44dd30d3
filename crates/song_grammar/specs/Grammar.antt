-- A good Standard MIDI File 1.0 of format 0 as a grammar over lists of bytes. It is written from the document, whose
-- words are quoted, and from request 6/12 where the document leaves something open. It names none of the definitions by
-- which the reader is specified (smf/specs: Fields, Events, Files): it is what they are held to. Definitions only.
use Rattle.std.specs.Prelude.{◌≡◌, List, [], ◌∷◌, ◌++◌, ◌≢◌, ℕ, suc, ◌+◌, ◌-◌, ◌*◌, ◌≤◌, ◌<◌, length}
use Rattle.octets.specs.Octets.{number_of}
use Rattle.smf.specs.Promised.{Timed}
use Rattle.smf.specs.declared.events.Event.{Event}
use Rattle.smf.specs.declared.events.Event.TheVariants.{Note, Tempo, Other}

-- ---- "Variable-length quantity": "7 bits per byte, most significant bits first. All bytes except the last have bit 7
-- set, and the last byte has bit 7 clear". "The largest number which is allowed is 0FFFFFFF", so there are four bytes
-- at most.

-- bytes behind some that make v: all together make n, and behind the first of them `more` may stand
pub data Digits : ℕ → ℕ → List ℕ → ℕ → Type 0 where
  last : {more v b : ℕ} → b < 128 → Digits more v (b ∷ []) (v * 128 + b)
  next : {more v b n : ℕ} {bytes : List ℕ} → 128 ≤ b → Digits more (v * 128 + (b - 128)) bytes n
      → Digits (suc more) v (b ∷ bytes) n

abbrev pub Quantity : List ℕ → ℕ → Type 0
Quantity bytes n = Digits 3 0 bytes n

-- ---- "<MIDI event> is any MIDI channel message": a status byte, and what stands behind it

pub data Message : ℕ → List ℕ → Event → Type 0 where
  -- 8n kk vv, note off: a stop, whatever its velocity
  note_off : {channel key velocity : ℕ} → channel < 16 → key < 128 → velocity < 128
      → Message (0x80 + channel) (key ∷ velocity ∷ []) (Note (key * 256 + channel))
  -- 9n kk vv, note on: a start; with velocity 0 a stop
  note_on : {channel key velocity : ℕ} → channel < 16 → key < 128 → velocity < 128
      → Message (0x90 + channel) (key ∷ velocity ∷ []) (Note (key * 256 + channel + velocity * 65536))
  -- An kk vv, polyphonic key pressure
  key_pressure : {channel key value : ℕ} → channel < 16 → key < 128 → value < 128
      → Message (0xA0 + channel) (key ∷ value ∷ []) Other
  -- Bn cc vv, control change
  control : {channel number value : ℕ} → channel < 16 → number < 128 → value < 128
      → Message (0xB0 + channel) (number ∷ value ∷ []) Other
  -- Cn pp, program change
  program : {channel number : ℕ} → channel < 16 → number < 128 → Message (0xC0 + channel) (number ∷ []) Other
  -- Dn vv, channel pressure
  pressure : {channel value : ℕ} → channel < 16 → value < 128 → Message (0xD0 + channel) (value ∷ []) Other
  -- En ll mm, pitch wheel change
  pitch_wheel : {channel low high : ℕ} → channel < 16 → low < 128 → high < 128
      → Message (0xE0 + channel) (low ∷ high ∷ []) Other

-- ---- "<event> = <MIDI event> | <sysex event> | <meta-event>", behind a running status (0: none). The last number is
-- the running status behind it: "Sysex events and meta-events cancel any running status which was in effect"
pub data OneEvent (running : ℕ) : List ℕ → Event → ℕ → Type 0 where
  -- a channel message with its status byte, or without: "status bytes of MIDI channel messages may be omitted if the
  -- preceding event is a MIDI channel message with the same status"
  told : {status : ℕ} {bytes : List ℕ} {e : Event} → Message status bytes e
      → OneEvent running (status ∷ bytes) e status
  again : {bytes : List ℕ} {e : Event} → Message running bytes e → OneEvent running bytes e running
  -- "F0 <length> <bytes to be transmitted after F0>"
  sysex : {size : List ℕ} (body : List ℕ) → Quantity size (length body)
      → OneEvent running (0xF0 ∷ (size ++ body)) Other 0
  -- "F7 <length> <all bytes to be transmitted>"
  escape : {size : List ℕ} (body : List ℕ) → Quantity size (length body)
      → OneEvent running (0xF7 ∷ (size ++ body)) Other 0
  -- "FF 51 03 tttttt: Set Tempo, in microseconds per MIDI quarter-note". A length may be "bigger than they expected. If
  -- so, they must ignore everything past what they know about"
  tempo : {size : List ℕ} (a b c : ℕ) (more : List ℕ) → Quantity size (3 + length more)
      → OneEvent running (0xFF ∷ 0x51 ∷ (size ++ (a ∷ b ∷ c ∷ more))) (Tempo (number_of (a ∷ b ∷ c ∷ []))) 0
  -- "FF <type> <length> <bytes>", the type "always less than 128"; all but Set Tempo and End of Track
  meta : {type : ℕ} {size : List ℕ} (body : List ℕ) → type < 128 → type ≢ 0x51 → type ≢ 0x2F
      → Quantity size (length body) → OneEvent running (0xFF ∷ type ∷ (size ++ body)) Other 0

-- ---- "<MTrk event> = <delta-time><event>": those of a track behind a running status. The last is "FF 2F 00: End of
-- Track", of any length
pub data Track : ℕ → List ℕ → List Timed → Type 0 where
  ended : {running ticks : ℕ} {delta size : List ℕ} (body : List ℕ) → Quantity delta ticks → Quantity size (length body)
      → Track running (delta ++ (0xFF ∷ 0x2F ∷ (size ++ body))) []
  then : {running ticks status : ℕ} {delta event rest : List ℕ} {e : Event} {ts : List Timed}
      → Quantity delta ticks → OneEvent running event e status → Track status rest ts
      → Track running (delta ++ (event ++ rest)) (record { delta = ticks; event = e } ∷ ts)

-- ---- "Each chunk has a 4-character type and a 32-bit length, which is the number of bytes in the chunk"
pub data Chunk (type body : List ℕ) : List ℕ → Type 0 where
  chunk : (a b c d : ℕ) → number_of (a ∷ b ∷ c ∷ d ∷ []) ≡ length body → Chunk type body (type ++ (a ∷ b ∷ c ∷ d ∷ body))

-- the characters `MThd` and `MTrk`
abbrev pub MThd : List ℕ
MThd = 0x4D ∷ 0x54 ∷ 0x68 ∷ 0x64 ∷ []

abbrev pub MTrk : List ℕ
MTrk = 0x4D ∷ 0x54 ∷ 0x72 ∷ 0x6B ∷ []

-- "<Header Chunk> = <chunk type> <length> <format> <ntrks> <division>": format 0, one track, and the ticks of a quarter
-- note, with bit 15 clear; "it is important to read and honor the length, even if it is longer than 6"
pub data Header : List ℕ → ℕ → Type 0 where
  header : {high low : ℕ} {more bytes : List ℕ} → high < 0x80 → 0 < number_of (high ∷ low ∷ [])
      → Chunk MThd (0 ∷ 0 ∷ 0 ∷ 1 ∷ high ∷ low ∷ more) bytes → Header bytes (number_of (high ∷ low ∷ []))

-- "Your programs should expect alien chunks and treat them as if they weren't there"
pub data Aliens : List ℕ → Type 0 where
  none : Aliens []
  alien : {a b c d : ℕ} {body bytes rest : List ℕ}
      → a ∷ b ∷ c ∷ d ∷ [] ≢ MThd → a ∷ b ∷ c ∷ d ∷ [] ≢ MTrk
      → Chunk (a ∷ b ∷ c ∷ d ∷ []) body bytes → Aliens rest → Aliens (bytes ++ rest)

-- a file, the ticks of its quarter note and its events
pub data File : List ℕ → ℕ → List Timed → Type 0 where
  file : {head before body track behind : List ℕ} {division : ℕ} {ts : List Timed}
      → Header head division → Aliens before → Chunk MTrk body track → Track 0 body ts → Aliens behind
      → File (head ++ (before ++ (track ++ behind))) division ts
