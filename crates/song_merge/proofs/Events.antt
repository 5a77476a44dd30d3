-- An event that is written: its bytes, and what it is in a track. Assumes nothing.
use mathlib.Core.Path.{◌≡◌, refl, ap, ◌∙◌}
use mathlib.Core.List.{List, ◌∷◌, ◌++◌}
use Prim.Native.Nat.{ℕ, zero, suc, ◌+◌, ◌-◌, ◌≤◌, ◌<◌}
use native.Mathlib.Omega.{arith}
use native.Mathlib.Numerals.{add-one}
use lib.ListN.{length, set, length-append}
use lib.Seq.{sets}
use lib.Dec.{ltb}
use borrow.Author.Tests.{ltb-true, ltb-false, lt-ltb, le-ltb}
use Rattle.octets.specs.Octets.{byte_at, bytes_at}
use Rattle.smf.specs.declared.events.Event.{Event}
use Rattle.smf.proofs.Inside.{both}
use Rattle.song_grammar.specs.Grammar.{Message, OneEvent}
use Rattle.song_grammar.specs.Grammar.Message.{note_off, note_on, key_pressure, control, program, pressure, pitch_wheel}
use Rattle.song_grammar.specs.Grammar.OneEvent.{told, again, sysex, escape, tempo, meta}
use Rattle.song_merge.specs.declared.cursors.Cursor.{Cursor}
use Rattle.song_merge.specs.Written.{delta_bytes, event_of, whole_event, event_bytes}
use Rattle.song_merge.proofs.Bytes.{bytes_long}
use Rattle.song_merge.proofs.Deltas.{long_4}

module _ (f : List ℕ) (c : Cursor) where
  -- ---- its bytes
  pub with_status : byte_at f c.from < 128 → whole_event f c ≡ c.before ∷ event_of f c
  unfolding whole_event
  with_status h = simp (lt-ltb _ _ h)

  pub as_it_is : 128 ≤ byte_at f c.from → whole_event f c ≡ event_of f c
  unfolding whole_event
  as_it_is h = simp (le-ltb _ _ h)

  long : length (event_of f c) ≡ c.next - c.from
  long = bytes_long f (c.next - c.from) c.from

  -- ---- stored
  abbrev Stored : List ℕ → ℕ → List ℕ → ℕ → Type 0
  Stored l at x r = (r ≡ at + length (whole_event f c)) × (x ≡ sets l at (whole_event f c))

  pub stored_with : (l : List ℕ) (at : ℕ) {x : List ℕ} → byte_at f c.from < 128 → x ≡ sets (set l at c.before) (at + 1) (event_of f c) → Stored l at x (at + 1 + (c.next - c.from))
  stored_with l at h e = (
    rw (with_status h) (omega (arith, long)),
    rw (with_status h) (e ∙ ap (λ (n : ℕ). sets (set l at c.before) n (event_of f c)) (add-one at)),
  )

  pub stored_as_is : (l : List ℕ) (at : ℕ) {x : List ℕ} → 128 ≤ byte_at f c.from → x ≡ sets l at (event_of f c) → Stored l at x (at + (c.next - c.from))
  stored_as_is l at h e = (rw (as_it_is h) (omega (arith, long)), rw (as_it_is h) e)

  pub told_long : c.next - c.from ≤ length (whole_event f c)
  unfolding whole_event
  told_long = both (λ (l : List ℕ). c.next - c.from ≤ length l) (ltb (byte_at f c.from) 128) _ _ (λ _. omega (arith, long)) (λ _. omega (arith, long))

  pub event_short : length (event_bytes f c) ≤ 5 + (c.next - c.from)
  unfolding whole_event
  event_short =
      let d = delta_bytes c.wait in
      let short = long_4 c.wait in
      both (λ (l : List ℕ). length (d ++ l) ≤ 5 + (c.next - c.from)) (ltb (byte_at f c.from) 128) _ _
      (λ _. omega (arith, long, length-append d (c.before ∷ event_of f c)))
      (λ _. omega (arith, long, length-append d (event_of f c)))

-- ---- what it is, behind any running status
message_high : {status : ℕ} {bytes : List ℕ} {e : Event} → Message status bytes e → (128 ≤ status) × (byte_at bytes 0 < 128) × (0 < length bytes)
message_high (note_off h k l) = (omega arith, k, omega arith)
message_high (note_on h k l) = (omega arith, k, omega arith)
message_high (key_pressure h k l) = (omega arith, k, omega arith)
message_high (control h k l) = (omega arith, k, omega arith)
message_high (program h k) = (omega arith, k, omega arith)
message_high (pressure h k) = (omega arith, k, omega arith)
message_high (pitch_wheel h k l) = (omega arith, k, omega arith)

pub record Told (running : ℕ) (bytes : List ℕ) (e : Event) (status : ℕ) : Type 0 where
  pub some : 0 < length bytes
  pub with_it : byte_at bytes 0 < 128 → (128 ≤ running) × ((r : ℕ) → OneEvent r (running ∷ bytes) e status)
  pub without : 128 ≤ byte_at bytes 0 → (r : ℕ) → OneEvent r bytes e status

pub told_of : {running : ℕ} {bytes : List ℕ} {e : Event} {status : ℕ} → OneEvent running bytes e status → Told running bytes e status
told_of (told m) = record { some = omega arith; with_it = λ h. absurd (omega (arith, (message_high m).0)); without = λ _ r. told m }
told_of (again m) = record {
  some = (message_high m).2;
  with_it = λ _. ((message_high m).0, λ r. told m);
  without = λ h. absurd (omega (arith, (message_high m).1));
}
told_of (sysex body q) = record { some = omega arith; with_it = λ h. absurd (omega arith); without = λ _ r. sysex body q }
told_of (escape body q) = record { some = omega arith; with_it = λ h. absurd (omega arith); without = λ _ r. escape body q }
told_of (tempo a b c more q) = record { some = omega arith; with_it = λ h. absurd (omega arith); without = λ _ r. tempo a b c more q }
told_of (meta body small no_tempo no_end q) = record { some = omega arith; with_it = λ h. absurd (omega arith); without = λ _ r. meta body small no_tempo no_end q }

first_byte : (f : List ℕ) (k at : ℕ) → 0 < length (bytes_at k f at) → byte_at (bytes_at k f at) 0 ≡ byte_at f at
unfolding bytes_at
first_byte f zero at h = absurd (omega arith)
first_byte f (suc k) at h = refl

-- with its status byte
module _ (f : List ℕ) (c : Cursor) (e : Event) (o : OneEvent c.before (event_of f c) e c.after) where
  abbrev Is : List ℕ → Type 0
  Is l = (128 ≤ byte_at l 0) × ((r : ℕ) → OneEvent r l e c.after)

  pub told_is : Is (whole_event f c)
  unfolding whole_event
  told_is =
      let t = told_of o in
      let first = first_byte f (c.next - c.from) c.from t.some in
      both Is (ltb (byte_at f c.from) 128) _ _ (λ h. t.with_it (omega (arith, ltb-true (byte_at f c.from) 128 h)))
      (λ h. let k : 128 ≤ byte_at (event_of f c) 0 = omega (arith, ltb-false (byte_at f c.from) 128 h) in (k, t.without k))
