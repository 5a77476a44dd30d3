-- What a cursor sees. Assumes nothing.
use Rattle.std.specs.Prelude.{Result, Ok, Err}
use mathlib.Core.Path.{◌≡◌, refl, sym, ap, ◌∙◌, subst}
use mathlib.Core.Bool.{true, false}
use mathlib.Core.List.{List, [], ◌∷◌, ◌++◌}
use Prim.Native.Nat.{ℕ, ◌+◌, ◌-◌, ◌^◌, ◌≤◌, ◌<◌}
use native.Mathlib.Omega.{arith}
use lib.Dec.{ltb}
use lib.ListN.{length, length-append}
use borrow.Author.Tests.{ltb-true}
use Rattle.octets.specs.Octets.{byte_at, bytes_at}
use Rattle.smf.specs.Fields.{quantity_at}
use Rattle.smf.specs.Events.{event_at}
use Rattle.smf.specs.Promised.{Timed}
use Rattle.smf.specs.declared.events.Read.{Read}
use Rattle.smf.specs.declared.events.Read.TheVariants.{Is, End}
use Rattle.smf.proofs.Inside.{both, Inside, event_inside, quantity_ends}
use Rattle.song_grammar.specs.Grammar.{OneEvent}
use Rattle.song_grammar.proofs.Segments.{From, from_length, split}
use Rattle.song_grammar.proofs.Shown.{Counts, counts}
use Rattle.song_grammar.proofs.Taken.{some_bytes, digits_taken, event_taken, end_event}
use Rattle.song_grammar.proofs.Wholes.{Octets}
use Rattle.song_merge.specs.declared.cursors.Cursor.{Cursor}
use Rattle.song_merge.specs.Written.{delta_bytes, whole_event, event_bytes}
use Rattle.song_merge.specs.Standing.{TrackSized, Held, Before, Views, CursorPlaced}
use Rattle.song_merge.specs.Standing.TrackSized.{ended, then}
use Rattle.song_merge.proofs.Bytes.{bytes_from, bytes_are, bytes_long}
use Rattle.song_merge.proofs.Deltas.{digits_small, shortest}
use Rattle.smf.specs.declared.faults.Fault.{Fault}

-- ---- the cursor that is made
abbrev pub over_at : ℕ → ℕ → Cursor
over_at wait at = record { ended = true; wait = wait; before = 0; after = 0; from = at; next = at }

abbrev pub going_at : ℕ → ℕ → ℕ → ℕ → ℕ → Cursor
going_at wait running status from behind = record { ended = false; wait = wait; before = running; after = status; from = from; next = behind }

abbrev pub look_read : ℕ → ℕ → ℕ → ℕ → Result Read Fault → Cursor
look_read running at wait from (Ok (Is event status behind)) = going_at wait running status from behind
look_read running at wait from (Ok (End behind)) = over_at wait at
look_read running at wait from (Err why) = over_at 0 at

abbrev pub look_quantity : List ℕ → ℕ → ℕ → ℕ → Result (ℕ × ℕ) Fault → Cursor
look_quantity f end running at (Ok (wait, from)) = look_read running at wait from (event_at f end running from)
look_quantity f end running at (Err why) = over_at 0 at

abbrev pub look_of : List ℕ → ℕ → ℕ → ℕ → Cursor
look_of f end running at = look_quantity f end running at (quantity_at f end at)

head_small : (f event : List ℕ) (at behind : ℕ) → From f at event behind → byte_at f at < 128 → byte_at event 0 < 128
head_small f [] at behind h small = omega arith
head_small f (b ∷ event) at behind h small = omega (arith, h.0)

module _ (f : List ℕ) (octets : Octets f) (end running at : ℕ) where
  -- what it takes to write the event
  fit : (mid behind : ℕ) (delta event : List ℕ) (ticks status k j : ℕ) → (byte_at event 0 < 128 → length delta + length event + 1 ≤ k) → length delta + length event ≤ k
      → From f mid event behind → length (delta_bytes ticks) ≤ length delta → length (event_bytes f (going_at ticks running status mid behind)) + j ≤ k + j
  unfolding whole_event
  fit mid behind delta event ticks status k j told fits there short =
      let d = delta_bytes ticks in
      let l = bytes_at (behind - mid) f mid in
      let long = from_length f mid event behind there in
      let same = bytes_long f (behind - mid) mid in
      both (λ (b : List ℕ). length (d ++ b) + j ≤ k + j) (ltb (byte_at f mid) 128) _ _
      (λ e. let t = told (head_small f event mid behind there (ltb-true (byte_at f mid) 128 e)) in omega (arith, length-append d (running ∷ l)))
      (λ e. omega (arith, length-append d l))

  -- ---- it sees what stands there
  looks : {bytes : List ℕ} {ts : List Timed} {k : ℕ} → TrackSized running bytes ts k → From f at bytes end → Views f end (look_of f end running at) ts k
  looks (ended {ticks = ticks} {k = k} {delta} {size} body q r fits) from =
      let apart = split f at delta (0xFF ∷ 0x2F ∷ (size ++ body)) end from in
      let up = apart.up in
      let read = digits_taken f end q at apart.mid apart.left (omega arith) in
      let event = end_event f end running apart.mid end size body r apart.right (omega arith) in
      let is : look_of f end running at ≡ over_at ticks at = ap (look_quantity f end running at) read ∙ ap (look_read running at ticks apart.mid) event in
      let short = shortest f octets q at apart.mid apart.left ticks (omega arith) in
      subst (λ (c : Cursor). Views f end c [] k) (sym is) (refl, omega (arith, length-append (delta_bytes ticks) (0xFF ∷ 0x2F ∷ 0 ∷ [])))
  looks (then {ticks = ticks} {status = status} {k = k} {j = j} {delta = delta} {event = event} {rest = rest} {e = e} {ts = ts} q o told fits more) from =
      let apart = split f at delta (event ++ rest) end from in
      let second = split f apart.mid event rest end apart.right in
      let up = second.up in
      let place = second.place in
      let read = digits_taken f end q at apart.mid apart.left (omega arith) in
      let heard = event_taken f end o apart.mid second.mid second.left up in
      let c = going_at ticks running status apart.mid second.mid in
      let is : look_of f end running at ≡ c = ap (look_quantity f end running at) read ∙ ap (look_read running at ticks apart.mid) heard in
      let bytes = bytes_are f event apart.mid second.mid second.left in
      let short = shortest f octets q at apart.mid apart.left ticks (omega arith) in
      subst (λ (c : Cursor). Before f end c (record { delta = ticks; event = e }) ts (k + j)) (sym is)
      (record {
        going = refl;
        wait = refl;
        event = subst (λ (l : List ℕ). OneEvent running l e status) (sym bytes) o;
        left = j;
        rest = subst (λ (l : List ℕ). TrackSized status l ts j) (sym (bytes_are f rest second.mid end second.right)) more;
        size = fit apart.mid second.mid delta event ticks status k j told fits second.left short;
      })

  -- ---- and lies where it should
  read_placed : (wait from : ℕ) → at < from → wait < 2 ^ 28 → (r : Result Read Fault) → Inside end from r → CursorPlaced end at (look_read running at wait from r)
  read_placed wait from h small (Ok (Is event status behind)) k = record { small = small; up = omega arith; low = omega arith; going = λ _. (omega arith, k.1) }
  read_placed wait from h small (Ok (End behind)) k = record { small = small; up = omega arith; low = omega arith; going = λ e. let z : ◌≡◌ {A = ℕ} 0 1 = cc in absurd (omega arith) }
  read_placed wait from h small (Err why) k = record { small = omega arith; up = omega arith; low = omega arith; going = λ e. let z : ◌≡◌ {A = ℕ} 0 1 = cc in absurd (omega arith) }

  placed : CursorPlaced end at (look_of f end running at)
  placed = go (quantity_at f end at) refl
    where
      go : (q : Result (ℕ × ℕ) Fault) → quantity_at f end at ≡ q → CursorPlaced end at (look_quantity f end running at q)
      go (Ok (wait, from)) is =
          let ends = quantity_ends f end at wait from is in
          let c = subst (Counts f end 3 0 at) is (counts f end 3 0 at (omega arith)) in
          read_placed wait from ends.0 (digits_small f octets c.is at from c.there) (event_at f end running from) (event_inside f end running from)
      go (Err why) is = record { small = omega arith; up = omega arith; low = omega arith; going = λ e. let z : ◌≡◌ {A = ℕ} 0 1 = cc in absurd (omega arith) }

  some : {bytes : List ℕ} {ts : List Timed} {k : ℕ} → TrackSized running bytes ts k → 0 < length bytes
  some (ended {delta = delta} {size = size} body q r fits) = omega (arith, some_bytes f end q, length-append delta (0xFF ∷ 0x2F ∷ (size ++ body)))
  some (then {delta = delta} {event = event} {rest = rest} q o told fits more) = omega (arith, some_bytes f end q, length-append delta (event ++ rest))

  -- a cursor that is the one that is made
  pub shown : (c : Cursor) → look_of f end running at ≡ c → CursorPlaced end at c × ((ts : List Timed) (k : ℕ) → Held f running at end ts k → Views f end c ts k)
  shown c is = (subst (CursorPlaced end at) is placed, λ ts k h. subst (λ (c : Cursor). Views f end c ts k) is (looks h (bytes_from f at end (omega (arith, some h, bytes_long f (end - at) at)))))
