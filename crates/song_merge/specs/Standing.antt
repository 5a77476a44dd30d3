-- Where a track stands in a list of bytes, how many bytes it takes to write it, and a cursor before its events.
-- Definitions only.
use Rattle.std.specs.Prelude.{◌≡◌, Bool, true, false, List, [], ◌∷◌, ◌++◌, ℕ, ◌+◌, ◌-◌, ◌^◌, ◌≤◌, ◌<◌, length}
use Rattle.octets.specs.Octets.{byte_at, bytes_at}
use Rattle.smf.specs.Fields.{four_at}
use Rattle.smf.specs.Promised.{Timed}
use Rattle.smf.specs.declared.events.Event.{Event}
use Rattle.song_grammar.specs.Grammar.{Quantity, OneEvent, Track}
use Rattle.song_merge.specs.declared.cursors.Cursor.{Cursor}
use Rattle.song_merge.specs.Written.{event_of, event_bytes, end_bytes}

-- the bytes from a place up to another are a track
abbrev pub TrackStands : List ℕ → ℕ → ℕ → List Timed → Type 0
TrackStands f at end ts = Track 0 (bytes_at (end - at) f at) ts

-- a track, which with every status byte written out has k bytes at most
pub data TrackSized : ℕ → List ℕ → List Timed → ℕ → Type 0 where
  ended : {running ticks k : ℕ} {delta size : List ℕ} (body : List ℕ) → Quantity delta ticks
      → Quantity size (length body) → length delta + 3 ≤ k
      → TrackSized running (delta ++ (0xFF ∷ 0x2F ∷ (size ++ body))) [] k
  then : {running ticks status k j : ℕ} {delta event rest : List ℕ} {e : Event} {ts : List Timed}
      → Quantity delta ticks → OneEvent running event e status
      → (byte_at event 0 < 128 → length delta + length event + 1 ≤ k) → length delta + length event ≤ k
      → TrackSized status rest ts j
      → TrackSized running (delta ++ (event ++ rest)) (record { delta = ticks; event = e } ∷ ts) (k + j)

-- the bytes from a place up to another are such a track, behind a running status
abbrev pub Held : List ℕ → ℕ → ℕ → ℕ → List Timed → ℕ → Type 0
Held f running at end ts k = TrackSized running (bytes_at (end - at) f at) ts k

-- a cursor before an event of a track that ends at `end`, and those behind it
pub record Before (f : List ℕ) (end : ℕ) (c : Cursor) (t : Timed) (ts : List Timed) (k : ℕ) : Type 0 where
  pub going : c.ended ≡ false
  pub wait : c.wait ≡ t.delta
  pub event : OneEvent c.before (event_of f c) t.event c.after
  pub left : ℕ
  pub rest : Held f c.after c.next end ts left
  pub size : length (event_bytes f c) + left ≤ k

-- what a cursor stands before: such an event, or the end
abbrev pub Views : List ℕ → ℕ → Cursor → List Timed → ℕ → Type 0
Views f end c [] k = (c.ended ≡ true) × (length (end_bytes c.wait) ≤ k)
Views f end c (t ∷ ts) k = Before f end c t ts k

-- a cursor that was made at a place lies behind it and before the end, or at it where the track is over
pub record CursorPlaced (end at : ℕ) (c : Cursor) : Type 0 where
  pub small : c.wait < 2 ^ 28
  pub up : c.from ≤ c.next
  pub low : at ≤ c.next
  pub going : c.ended ≡ false → (at < c.next) × (c.next ≤ end)

-- whether a track stands from a place to another
pub record WholeTrack (f : List ℕ) (at end : ℕ) (r : Bool) : Type 0 where
  pub told : r ≡ true → (ts : List Timed) × TrackStands f at end ts
  pub taken : (ts : List Timed) → TrackStands f at end ts → r ≡ true

-- the end of the track chunk at a place, or 0
pub record ChunkEnd (f : List ℕ) (at r : ℕ) : Type 0 where
  pub told : 0 < r → (r ≡ at + 8 + four_at f (at + 4)) × (r ≤ length f) × (ts : List Timed) × TrackStands f (at + 8) r ts
  pub taken : (ts : List Timed) (end : ℕ) → end ≡ at + 8 + four_at f (at + 4) → end ≤ length f
      → TrackStands f (at + 8) end ts → r ≡ end
