-- A key: its note and its MIDI channel, and the two packed into one number (document 01, module 1). Definitions only.
-- Assumes nothing.
use Rattle.std.specs.Prelude.{ℕ, ◌+◌, ◌*◌, ◌/◌, ◌%◌}
use Rattle.common_types.specs.declared.Note.{Note}

abbrev pub note_of : ℕ → ℕ → Note
note_of note channel = record { note = note; channel = channel }

-- the Rust's default
abbrev pub default_note : Note
default_note = note_of 0 0

-- note times 256 plus channel
abbrev pub into_u64_of : Note → ℕ
into_u64_of n = n.note * 256 + n.channel

-- The way back drops all but the lowest 16 bits.
abbrev pub from_u64_of : ℕ → Note
from_u64_of value = note_of (value / 256 % 256) (value % 256)
