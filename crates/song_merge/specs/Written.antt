-- The bytes that are written. Definitions only.
use Rattle.std.specs.Prelude.{cond, List, [], ◌∷◌, ◌++◌, ℕ, ◌+◌, ◌-◌, ◌/◌, ◌%◌, ltb}
use Rattle.octets.specs.Octets.{byte_at, bytes_at}
use Rattle.song_merge.specs.declared.cursors.Cursor.{Cursor}

-- a delta-time in as few bytes as it has room in
unfoldable pub delta_bytes : ℕ → List ℕ
delta_bytes n =
    cond (ltb n 128) (n ∷ [])
    (cond (ltb n 16384) ((128 + n / 128) ∷ (n % 128) ∷ [])
    (cond (ltb n 2097152) ((128 + n / 128 / 128) ∷ (128 + n / 128 % 128) ∷ (n % 128) ∷ [])
    ((128 + n / 128 / 128 / 128) ∷ (128 + n / 128 / 128 % 128) ∷ (128 + n / 128 % 128) ∷ (n % 128) ∷ [])))

-- the event before which a cursor stands, with its status byte
abbrev pub event_of : List ℕ → Cursor → List ℕ
event_of f c = bytes_at (c.next - c.from) f c.from

unfoldable pub whole_event : List ℕ → Cursor → List ℕ
whole_event f c = cond (ltb (byte_at f c.from) 128) (c.before ∷ event_of f c) (event_of f c)

abbrev pub event_bytes : List ℕ → Cursor → List ℕ
event_bytes f c = delta_bytes c.wait ++ whole_event f c

abbrev pub end_bytes : ℕ → List ℕ
end_bytes wait = delta_bytes wait ++ (0xFF ∷ 0x2F ∷ 0 ∷ [])

-- all that stands before the events of a track of so many bytes: `MThd`, 6, format 0 with one track, the division,
-- `MTrk` and the size
abbrev pub heading_bytes : ℕ → ℕ → List ℕ
heading_bytes division size =
    0x4D ∷ 0x54 ∷ 0x68 ∷ 0x64 ∷ 0 ∷ 0 ∷ 0 ∷ 6 ∷ 0 ∷ 0 ∷ 0 ∷ 1 ∷ (division / 256) ∷ (division % 256)
    ∷ 0x4D ∷ 0x54 ∷ 0x72 ∷ 0x6B ∷ (size / 256 / 256 / 256) ∷ (size / 256 / 256 % 256) ∷ (size / 256 % 256)
    ∷ (size % 256) ∷ []
