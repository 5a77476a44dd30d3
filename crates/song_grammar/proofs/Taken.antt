-- What the grammar spells, the reader takes: quantities and events. Assumes nothing.
use Rattle.std.specs.Prelude.{Result, Ok}
use mathlib.Core.Path.{◌≡◌, refl, sym, ap, ◌∙◌, subst}
use mathlib.Core.Bool.{true, false}
use mathlib.Core.List.{List, [], ◌∷◌, ◌++◌}
use mathlib.Core.Logic.{◌⊎◌, inl, inr}
use Prim.Native.Nat.{ℕ, ◌+◌, ◌-◌, ◌*◌, ◌%◌, ◌≤◌, ◌<◌}
use native.Mathlib.Omega.{arith}
use lib.ListN.{length}
use borrow.Author.Tests.{lt-ltb, le-ltb, le-leb, lt-leb, ne_eqb}
use Rattle.octets.specs.Octets.{byte_at, number_of}
use Rattle.smf.specs.Fields.{quantity_from, quantity_at}
use Rattle.smf.specs.Events.{data_at, is_one_byte, message_of, channel_event, sysex_at, tempo_of, meta_of, meta_at, status_of, event_at, step_timed, step_at}
use Rattle.smf.specs.declared.events.Event.{Event}
use Rattle.smf.specs.declared.events.Event.TheVariants.{Note, Tempo, Other}
use Rattle.smf.specs.declared.events.Read.{Read}
use Rattle.smf.specs.declared.events.Read.TheVariants.{Is, End}
use Rattle.smf.specs.declared.events.Step.TheVariants as step
use Rattle.smf.proofs.Quantities.{quantity_last, quantity_more}
use Rattle.song_grammar.specs.Grammar.{Digits, Quantity, Message, OneEvent}
use Rattle.song_grammar.specs.Grammar.Digits.{last, next}
use Rattle.song_grammar.specs.Grammar.Message.{note_off, note_on, key_pressure, control, program, pressure, pitch_wheel}
use Rattle.song_grammar.specs.Grammar.OneEvent.{told, again, sysex, escape, tempo, meta}
use Rattle.song_grammar.proofs.Segments.{From, from_length, Split, split, three_is}
use Rattle.smf.specs.declared.faults.Fault.{Fault}

module _ (f : List ℕ) (end : ℕ) where
  pub digits_taken : {more v n : ℕ} {bytes : List ℕ} → Digits more v bytes n → (at behind : ℕ) → From f at bytes behind → behind ≤ end
      → quantity_from more f end v at ≡ Ok (n, behind)
  digits_taken (last {more} {v} {b} small) at behind h k = quantity_last f end v at more (omega arith) (omega arith) ∙ cc
  digits_taken (next {more} {v} {b} {n} {bytes} high rest) at behind h k =
      let long = from_length f (at + 1) bytes behind h.1 in
      quantity_more f end v at more (omega arith) (omega arith)
      ∙ ap (λ (d : ℕ). quantity_from more f end (v * 128 + (d - 128)) (at + 1)) h.0
      ∙ digits_taken rest (at + 1) behind h.1 k

  pub some_bytes : {more v n : ℕ} {bytes : List ℕ} → Digits more v bytes n → 0 < length bytes
  some_bytes (last h) = omega arith
  some_bytes (next h rest) = omega arith

  -- ---- channel messages
  data_taken : (at : ℕ) → at < end → byte_at f at < 128 → data_at f end at ≡ Ok (byte_at f at)
  unfolding data_at
  data_taken at h k = simp (lt-ltb _ _ h, lt-ltb _ _ k)

  one_taken : (status at : ℕ) → is_one_byte status ≡ true → at < end → byte_at f at < 128 → channel_event f end status at ≡ Ok (Is Other status (at + 1))
  unfolding channel_event
  one_taken status at one h k = rw (data_taken at h k, one)

  two_taken : (status at : ℕ) → is_one_byte status ≡ false → at + 1 < end → byte_at f at < 128 → byte_at f (at + 1) < 128
      → channel_event f end status at ≡ Ok (Is (message_of status (byte_at f at) (byte_at f (at + 1))) status (at + 2))
  unfolding channel_event
  two_taken status at two h k l = rw (data_taken at (omega arith) k, two, data_taken (at + 1) h l)

pub one_byte : (status : ℕ) → 192 ≤ status → status < 224 → is_one_byte status ≡ true
unfolding is_one_byte
one_byte status h k = simp (le-leb _ _ h, lt-ltb _ _ k)

pub two_below : (status : ℕ) → status < 192 → is_one_byte status ≡ false
unfolding is_one_byte
two_below status h = simp (lt-leb _ _ h)

pub two_above : (status : ℕ) → 224 ≤ status → is_one_byte status ≡ false
unfolding is_one_byte
two_above status h =
    let k : 192 ≤ status = omega arith in
    simp (le-leb _ _ k, le-ltb _ _ h)

module _ (channel key velocity : ℕ) (h : channel < 16) where
  pub off_means : message_of (0x80 + channel) key velocity ≡ Note (key * 256 + channel)
  unfolding message_of
  off_means =
      let low : 0x80 + channel < 144 = omega arith in
      let same : key * 256 + (0x80 + channel) % 16 + 0 ≡ key * 256 + channel = omega arith in
      simp (lt-ltb _ _ low) (ap Note same)

  pub on_means : message_of (0x90 + channel) key velocity ≡ Note (key * 256 + channel + velocity * 65536)
  unfolding message_of
  on_means =
      let low : 144 ≤ 0x90 + channel = omega arith in
      let high : 0x90 + channel < 160 = omega arith in
      let same : key * 256 + (0x90 + channel) % 16 + velocity * 65536 ≡ key * 256 + channel + velocity * 65536 = omega arith in
      simp (le-ltb _ _ low, lt-ltb _ _ high) (ap Note same)

pub other_means : (status x y : ℕ) → 160 ≤ status → message_of status x y ≡ Other
unfolding message_of
other_means status x y h =
    let k : 144 ≤ status = omega arith in
    simp (le-ltb _ _ k, le-ltb _ _ h)

module _ (f : List ℕ) (end : ℕ) where
  -- a message that is taken: its status, and its first byte
  pub record Heard (status at behind : ℕ) (e : Event) : Type 0 where
    pub read : channel_event f end status at ≡ Ok (Is e status behind)
    pub low : 128 ≤ status
    pub high : status < 240
    pub small : byte_at f at < 128
    pub inside : at < behind

  two_heard : (status at behind x y : ℕ) (e : Event) → is_one_byte status ≡ false → 128 ≤ status → status < 240 → x < 128 → y < 128 → message_of status x y ≡ e
      → From f at (x ∷ y ∷ []) behind → behind ≤ end → Heard status at behind e
  two_heard status at behind x y e two low high h k means from room =
      let first = from.0 in
      let second = from.1.0 in
      let there : at + 1 + 1 ≡ behind = from.1.1 in
      let place : at + 2 ≡ behind = omega arith in
      record {
        read =
            two_taken f end status at two (omega arith) (omega arith) (omega arith)
            ∙ ap (λ (b : ℕ). Ok (Is (message_of status b (byte_at f (at + 1))) status (at + 2))) first
            ∙ ap (λ (b : ℕ). Ok (Is (message_of status x b) status (at + 2))) second
            ∙ ap (λ (m : Event). Ok (Is m status (at + 2))) means
            ∙ ap (λ (n : ℕ). Ok (Is e status n)) place;
        low = low;
        high = high;
        small = omega arith;
        inside = omega arith;
      }

  one_heard : (status at behind x : ℕ) → 192 ≤ status → status < 224 → x < 128 → From f at (x ∷ []) behind → behind ≤ end → Heard status at behind Other
  one_heard status at behind x low high h from room =
      let first = from.0 in
      let there : at + 1 ≡ behind = from.1 in
      record {
        read = one_taken f end status at (one_byte status low high) (omega arith) (omega arith) ∙ ap (λ (n : ℕ). Ok (Is Other status n)) there;
        low = omega arith;
        high = omega arith;
        small = omega arith;
        inside = omega arith;
      }

  pub message_taken : {status : ℕ} {bytes : List ℕ} {e : Event} → Message status bytes e → (at behind : ℕ) → From f at bytes behind → behind ≤ end
      → Heard status at behind e
  message_taken (note_off {channel = c} {key = x} {velocity = y} h k l) at behind from room =
      two_heard (0x80 + c) at behind x y _ (two_below (0x80 + c) (omega arith)) (omega arith) (omega arith) k l (off_means c x y h) from room
  message_taken (note_on {channel = c} {key = x} {velocity = y} h k l) at behind from room =
      two_heard (0x90 + c) at behind x y _ (two_below (0x90 + c) (omega arith)) (omega arith) (omega arith) k l (on_means c x y h) from room
  message_taken (key_pressure {channel = c} {key = x} {value = y} h k l) at behind from room =
      two_heard (0xA0 + c) at behind x y _ (two_below (0xA0 + c) (omega arith)) (omega arith) (omega arith) k l (other_means (0xA0 + c) x y (omega arith)) from room
  message_taken (control {channel = c} {number = x} {value = y} h k l) at behind from room =
      two_heard (0xB0 + c) at behind x y _ (two_below (0xB0 + c) (omega arith)) (omega arith) (omega arith) k l (other_means (0xB0 + c) x y (omega arith)) from room
  message_taken (program {channel = c} {number = x} h k) at behind from room = one_heard (0xC0 + c) at behind x (omega arith) (omega arith) k from room
  message_taken (pressure {channel = c} {value = x} h k) at behind from room = one_heard (0xD0 + c) at behind x (omega arith) (omega arith) k from room
  message_taken (pitch_wheel {channel = c} {low = x} {high = y} h k l) at behind from room =
      two_heard (0xE0 + c) at behind x y _ (two_above (0xE0 + c) (omega arith)) (omega arith) (omega arith) k l (other_means (0xE0 + c) x y (omega arith)) from room

  -- ---- events, from behind the status byte on
  status_on : (running at : ℕ) → at < end → 128 ≤ byte_at f at → event_at f end running at ≡ status_of f end (byte_at f at) (at + 1)
  unfolding event_at
  status_on running at h k = simp (lt-ltb _ _ h, le-leb _ _ k)

  told_taken : (running at behind : ℕ) (e : Event) → at < end → Heard (byte_at f at) (at + 1) behind e → event_at f end running at ≡ Ok (Is e (byte_at f at) behind)
  unfolding status_of
  told_taken running at behind e h m =
      let low = m.low in
      let high = m.high in
      status_on running at h low ∙ (simp (lt-ltb _ _ high) m.read)

  again_taken : (running at behind : ℕ) (e : Event) → at < end → Heard running at behind e → event_at f end running at ≡ Ok (Is e running behind)
  unfolding event_at
  again_taken running at behind e h m =
      let some : running ≡ 0 → ⊥ = (λ z. let low = m.low in omega arith) in
      let small = m.small in
      simp (lt-ltb _ _ h, lt-leb 128 (byte_at f at) small, ne_eqb _ _ some) m.read

  -- a size and as many bytes
  module _ (at behind n : ℕ) (size body : List ℕ) (q : Quantity size n) (from : From f at (size ++ body) behind) (room : behind ≤ end) where
    pub cut : Split f at size body behind
    cut = split f at size body behind from

    pub sized : quantity_at f end at ≡ Ok (n, cut.mid)
    sized = digits_taken f end q at cut.mid cut.left (let u = cut.up in omega arith)

    pub covered : (n ≡ length body) → (n ≤ end - cut.mid) × (cut.mid + n ≡ behind)
    covered e =
        let k = from_length f cut.mid body behind cut.right in
        (omega arith, omega arith)

    sysex_taken : n ≡ length body → sysex_at f end at ≡ Ok (Is Other 0 behind)
    unfolding sysex_at
    sysex_taken e =
        let k = covered e in
        let fits = k.0 in
        rw sized (simp (le-leb _ _ fits) (ap (λ (m : ℕ). Ok (Is Other 0 m)) k.1))

  -- ---- meta-events, from the type on
  meta_on : (at n mid : ℕ) → at < end → byte_at f at < 128 → quantity_at f end (at + 1) ≡ Ok (n, mid) → meta_at f end at ≡ meta_of f end (byte_at f at) n mid
  unfolding meta_at
  meta_on at n mid h k q = rw (lt-ltb _ _ h, lt-ltb _ _ k, q)

  module _ (at behind type n : ℕ) (size body : List ℕ) (q : Quantity size n) (from : From f at (type ∷ (size ++ body)) behind) (room : behind ≤ end) (small : type < 128) where
    abbrev mid : ℕ
    mid = (cut (at + 1) behind n size body q from.1 room).mid

    body_on : meta_at f end at ≡ meta_of f end type n mid
    body_on =
        let is = from.0 in
        let s = cut (at + 1) behind n size body q from.1 room in
        let place = s.place in
        let up = s.up in
        meta_on at n mid (omega arith) (omega arith) (sized (at + 1) behind n size body q from.1 room)
        ∙ ap (λ (t : ℕ). meta_of f end t n mid) is

    module _ (e : n ≡ length body) where
      meta_taken : (type ≡ 0x51 → ⊥) → (type ≡ 0x2F → ⊥) → meta_at f end at ≡ Ok (Is Other 0 behind)
      unfolding meta_of
      meta_taken no_tempo no_end =
          let k = covered (at + 1) behind n size body q from.1 room e in
          let fits = k.0 in
          body_on ∙ (simp (ne_eqb _ _ no_tempo, le-leb _ _ fits, ne_eqb _ _ no_end) (ap (λ (m : ℕ). Ok (Is Other 0 m)) k.1))

      end_taken : type ≡ 0x2F → meta_at f end at ≡ Ok (End behind)
      unfolding meta_of
      end_taken is =
          let k = covered (at + 1) behind n size body q from.1 room e in
          let fits = k.0 in
          body_on ∙ (ap (λ (t : ℕ). meta_of f end t n mid) is) ∙ (simp (le-leb _ _ fits) (ap (λ (n : ℕ). Ok (End n)) k.1))

  tempo_taken : (at behind : ℕ) (a b c : ℕ) (size more : List ℕ) → Quantity size (3 + length more) → From f at (0x51 ∷ (size ++ (a ∷ b ∷ c ∷ more))) behind → behind ≤ end
      → meta_at f end at ≡ Ok (Is (Tempo (number_of (a ∷ b ∷ c ∷ []))) 0 behind)
  unfolding meta_of tempo_of
  tempo_taken at behind a b c size more q from room =
      let body = a ∷ b ∷ c ∷ more in
      let s = cut (at + 1) behind (3 + length more) size body q from.1 room in
      let k = covered (at + 1) behind (3 + length more) size body q from.1 room (omega arith) in
      let fits = k.0 in
      let long : 3 ≤ 3 + length more = omega arith in
      body_on at behind 0x51 (3 + length more) size body q from room (omega arith)
      ∙ (simp (le-ltb _ _ long, le-leb _ _ fits)
      (ap (λ (t : ℕ). Ok (Is (Tempo t) 0 (s.mid + (3 + length more)))) (three_is f s.mid a b c more behind s.right)
      ∙ ap (λ (m : ℕ). Ok (Is (Tempo (number_of (a ∷ b ∷ c ∷ []))) 0 m)) k.1))

  -- ---- an event
  other_taken : (running at : ℕ) (r : Result Read Fault) → at < end → byte_at f at ≡ 0xFF → meta_at f end (at + 1) ≡ r → event_at f end running at ≡ r
  unfolding status_of
  other_taken running at r h is e = status_on running at h (omega arith) ∙ ap (λ (s : ℕ). status_of f end s (at + 1)) is ∙ e

  exclusive_taken : (running at status : ℕ) (r : Result Read Fault) → at < end → byte_at f at ≡ status → (status ≡ 0xF0) ⊎ (status ≡ 0xF7) → sysex_at f end (at + 1) ≡ r
      → event_at f end running at ≡ r
  unfolding status_of
  exclusive_taken running at status r h is (inl z) e = status_on running at h (omega arith) ∙ ap (λ (s : ℕ). status_of f end s (at + 1)) (is ∙ z) ∙ e
  exclusive_taken running at status r h is (inr z) e = status_on running at h (omega arith) ∙ ap (λ (s : ℕ). status_of f end s (at + 1)) (is ∙ z) ∙ e

  pub event_taken : {running status : ℕ} {bytes : List ℕ} {e : Event} → OneEvent running bytes e status → (at behind : ℕ) → From f at bytes behind
      → behind ≤ end → event_at f end running at ≡ Ok (Is e status behind)
  event_taken {running} (told {status} {bytes} {e} m) at behind from room =
      let is = from.0 in
      let k = from_length f (at + 1) bytes behind from.1 in
      let h = message_taken m (at + 1) behind from.1 room in
      told_taken running at behind e (let i = h.inside in omega arith) (subst (λ (s : ℕ). Heard s (at + 1) behind e) (sym is) h)
      ∙ ap (λ (s : ℕ). Ok (Is e s behind)) is
  event_taken {running} (again {bytes} {e} m) at behind from room =
      let h = message_taken m at behind from room in
      again_taken running at behind e (let i = h.inside in omega arith) h
  event_taken {running} (sysex {size} body q) at behind from room =
      let k = from_length f (at + 1) (size ++ body) behind from.1 in
      exclusive_taken running at 0xF0 _ (omega arith) from.0 (inl refl) (sysex_taken (at + 1) behind (length body) size body q from.1 room refl)
  event_taken {running} (escape {size} body q) at behind from room =
      let k = from_length f (at + 1) (size ++ body) behind from.1 in
      exclusive_taken running at 0xF7 _ (omega arith) from.0 (inr refl) (sysex_taken (at + 1) behind (length body) size body q from.1 room refl)
  event_taken {running} (tempo {size} a b c more q) at behind from room =
      let k = from_length f (at + 1) (0x51 ∷ (size ++ (a ∷ b ∷ c ∷ more))) behind from.1 in
      other_taken running at _ (omega arith) from.0 (tempo_taken (at + 1) behind a b c size more q from.1 room)
  event_taken {running} (meta {type} {size} body small no_tempo no_end q) at behind from room =
      let k = from_length f (at + 1) (type ∷ (size ++ body)) behind from.1 in
      other_taken running at _ (omega arith) from.0 (meta_taken (at + 1) behind type (length body) size body q from.1 room small refl no_tempo no_end)

  pub end_event : (running at behind : ℕ) (size body : List ℕ) → Quantity size (length body) → From f at (0xFF ∷ 0x2F ∷ (size ++ body)) behind → behind ≤ end
      → event_at f end running at ≡ Ok (End behind)
  end_event running at behind size body r from room =
      let k = from_length f (at + 1) (0x2F ∷ (size ++ body)) behind from.1 in
      other_taken running at (Ok (End behind)) (omega arith) from.0
      (end_taken (at + 1) behind 0x2F (length body) size body r from.1 room (omega arith) refl refl)

  -- ---- with its delta-time
  step_on : (running at ticks mid : ℕ) → at < end → quantity_at f end at ≡ Ok (ticks, mid) → step_at f end running at ≡ step_timed ticks (event_at f end running mid)
  unfolding step_at
  step_on running at ticks mid h q = rw (lt-ltb _ _ h, q)

  module _ {ticks : ℕ} (running at behind : ℕ) (delta event : List ℕ) (q : Quantity delta ticks) (from : From f at (delta ++ event) behind) (room : behind ≤ end) where
    apart : Split f at delta event behind
    apart = split f at delta event behind from

    on : step_at f end running at ≡ step_timed ticks (event_at f end running apart.mid)
    on =
        let some = some_bytes f end q in
        let place = apart.place in
        let up = apart.up in
        step_on running at ticks apart.mid (omega arith) (digits_taken f end q at apart.mid apart.left (omega arith))

    pub step_taken : {status : ℕ} {e : Event} → OneEvent running event e status → step_at f end running at ≡ Ok (step.Is ticks e status behind)
    step_taken o = on ∙ ap (step_timed ticks) (event_taken o apart.mid behind apart.right room)

    pub end_step : (size body : List ℕ) → Quantity size (length body) → event ≡ 0xFF ∷ 0x2F ∷ (size ++ body) → step_at f end running at ≡ Ok (step.End behind)
    end_step size body r is =
        let right : From f apart.mid (0xFF ∷ 0x2F ∷ (size ++ body)) behind = subst (λ (l : List ℕ). From f apart.mid l behind) is apart.right in
        on ∙ ap (step_timed ticks) (end_event running apart.mid behind size body r right room)
