-- What the reader takes, the grammar spells, and what stands before a fault is the beginning of something that it spells: quantities and events.
-- Assumes nothing.
use Rattle.std.specs.Prelude.{Result, Ok, Err}
use mathlib.Core.Path.{◌≡◌, refl, sym, subst}
use mathlib.Core.Bool.{Bool, true, false, cond, ◌||◌}
use mathlib.Core.List.{List, [], ◌∷◌, ◌++◌, append_assoc}
use mathlib.Core.Logic.{◌⊎◌, inl, inr}
use Prim.Native.Nat.{ℕ, zero, suc, ◌+◌, ◌-◌, ◌*◌, ◌≤◌, ◌<◌}
use native.Mathlib.Omega.{arith}
use lib.Dec.{ltb, leb, eqb}
use lib.ListN.{length, length-append}
use borrow.Author.Tests.{ltb-true, ltb-false, leb-true, leb-false, eqb-true, eqb-false}
use Rattle.octets.specs.Octets.{byte_at, number_of}
use Rattle.smf.specs.Faults.{refusal_of}
use Rattle.smf.specs.Fields.{three_at, quantity_from, quantity_at}
use Rattle.smf.specs.Events.{data_at, is_one_byte, message_of, with_data, channel_event, past, with_quantity, sysex_at, tempo_of, meta_of, meta_at, status_of, event_at}
use Rattle.smf.specs.declared.faults.Fault.{Fault}
use Rattle.smf.specs.declared.events.Event.{Event}
use Rattle.smf.specs.declared.events.Event.TheVariants.{Tempo, Other}
use Rattle.smf.specs.declared.events.Read.{Read}
use Rattle.smf.specs.declared.events.Read.TheVariants.{Is, End}
use Rattle.smf.proofs.Inside.{both, quantity_ends}
use Rattle.song_grammar.specs.Grammar.{Digits, Quantity, Message, OneEvent}
use Rattle.song_grammar.specs.Grammar.Digits.{last, next}
use Rattle.song_grammar.specs.Grammar.Message.{note_off, note_on, key_pressure, control, program, pressure, pitch_wheel}
use Rattle.song_grammar.specs.Grammar.OneEvent.{told, again, sysex, escape, tempo, meta}
use Rattle.song_grammar.proofs.Segments.{From, join, three_is, bytes_at, bytes_length, bytes_from}
use Rattle.song_grammar.proofs.Taken.{one_byte, two_below, two_above, off_means, on_means, other_means}

-- bytes of which P holds, from a place to a place
pub record Spelt (f : List ℕ) (P : List ℕ → Type 0) (at behind : ℕ) : Type 0 where
  pub bytes : List ℕ
  pub is : P bytes
  pub there : From f at bytes behind

-- ---- quantities

-- the beginning of one, which is not of a tempo that is too short
abbrev pub QuantityPart : ℕ → ℕ → List ℕ → Type 0
QuantityPart more v bytes = (rest : List ℕ) × (n : ℕ) × Digits more v (bytes ++ rest) n × (3 ≤ n)

-- a fault that is answered by 12
abbrev pub Plain : Fault → Type 0
Plain why = refusal_of why.reason ≡ 12

-- bytes up to such a fault, which lies inside
abbrev pub Cut : List ℕ → ℕ → (List ℕ → Type 0) → ℕ → Fault → Type 0
Cut f end P at why = Spelt f P at why.at × (why.at ≤ end) × Plain why

module _ (f : List ℕ) (end : ℕ) where
  abbrev pub Counts : ℕ → ℕ → ℕ → Result (ℕ × ℕ) Fault → Type 0
  Counts more v at (Ok (n, behind)) = Spelt f (λ (bytes : List ℕ). Digits more v bytes n) at behind
  Counts more v at (Err why) = Cut f end (QuantityPart more v) at why

  counts_more : (more v at : ℕ) (q : Result (ℕ × ℕ) Fault) → 128 ≤ byte_at f at → Counts more (v * 128 + (byte_at f at - 128)) (at + 1) q → Counts (suc more) v at q
  counts_more more v at (Ok (n, behind)) h s = record { bytes = byte_at f at ∷ s.bytes; is = next h s.is; there = (refl, s.there) }
  counts_more more v at (Err why) h (s, room, plain) = (
    record {
      bytes = byte_at f at ∷ s.bytes;
      is = (s.is.0, s.is.1, next h s.is.2, s.is.3);
      there = (refl, s.there);
    },
    room,
    plain,
  )

  nothing_yet : (more v at : ℕ) → Spelt f (QuantityPart more v) at at
  nothing_yet more v at = record { bytes = []; is = (3 ∷ [], v * 128 + 3, last {b = 3} (omega arith), omega arith); there = refl }

  -- one without its last byte
  pub all_but_last : {more v n : ℕ} {bytes : List ℕ} → Digits more v bytes n → (at behind : ℕ) → From f at bytes behind → Spelt f (QuantityPart more v) at (behind - 1)
  all_but_last (last {more} {v} {b} small) at behind h = subst (Spelt f (QuantityPart more v) at) (let e = h.1 in omega arith) (nothing_yet more v at)
  all_but_last (next {more} {v} {b} {n} {bytes} high d) at behind h =
      let s = all_but_last d (at + 1) behind h.1 in
      record { bytes = b ∷ s.bytes; is = (s.is.0, s.is.1, next high s.is.2, s.is.3); there = (h.0, s.there) }

  pub counts : (more v at : ℕ) → at ≤ end → Counts more v at (quantity_from more f end v at)
  unfolding quantity_from refusal_of
  counts zero v at room =
      both (Counts zero v at) (ltb at end) _ _
      (λ _. both (Counts zero v at) (ltb (byte_at f at) 128) _ _
      (λ small. record { bytes = byte_at f at ∷ []; is = last (ltb-true (byte_at f at) 128 small); there = (refl, refl) })
      (λ _. (nothing_yet zero v at, room, refl)))
      (λ _. (nothing_yet zero v at, room, refl))
  counts (suc more) v at room =
      both (Counts (suc more) v at) (ltb at end) _ _
      (λ inside. both (Counts (suc more) v at) (ltb (byte_at f at) 128) _ _
      (λ small. record { bytes = byte_at f at ∷ []; is = last (ltb-true (byte_at f at) 128 small); there = (refl, refl) })
      (λ high. counts_more more v at (quantity_from more f end (v * 128 + (byte_at f at - 128)) (at + 1)) (ltb-false (byte_at f at) 128 high)
      (counts more (v * 128 + (byte_at f at - 128)) (at + 1) (omega (arith, ltb-true at end inside)))))
      (λ _. (nothing_yet (suc more) v at, room, refl))

-- ---- channel messages
never : {A : Type 0} {b : Bool} → b ≡ true → b ≡ false → A
never {b = b} h k = let z : ◌≡◌ {A = ℕ} 0 1 = cc in absurd (omega arith)

two_high : (status : ℕ) → 192 ≤ status → is_one_byte status ≡ false → 224 ≤ status
two_high status h e = go (ltb status 224) refl
  where
    go : (b : Bool) → ltb status 224 ≡ b → 224 ≤ status
    go true top = never (one_byte status h (ltb-true status 224 top)) e
    go false top = ltb-false status 224 top

one_range : (status : ℕ) → is_one_byte status ≡ true → (192 ≤ status) × (status < 224)
one_range status e = go (ltb status 192) refl (ltb status 224) refl
  where
    go : (b : Bool) → ltb status 192 ≡ b → (c : Bool) → ltb status 224 ≡ c → (192 ≤ status) × (status < 224)
    go true low c top = never e (two_below status (ltb-true status 192 low))
    go false low true top = (ltb-false status 192 low, ltb-true status 224 top)
    go false low false top = never e (two_above status (ltb-false status 224 top))

module _ (status x y : ℕ) (h : x < 128) (k : y < 128) where
  abbrev Two : ℕ → Type 0
  Two s = Message s (x ∷ y ∷ []) (message_of s x y)

  -- of a status that is so many more than the first of its kind
  moved : (first : ℕ) → first ≤ status → ((channel : ℕ) → channel ≡ status - first → Two (first + channel)) → Two status
  moved first low m =
      let same : first + (status - first) ≡ status = omega arith in
      subst Two same (m (status - first) refl)

  pub two_message : 128 ≤ status → status < 240 → is_one_byte status ≡ false → Two status
  unfolding is_one_byte
  two_message low high two =
      go (ltb status 144) refl (ltb status 160) refl (ltb status 176) refl (ltb status 192) refl
    where
      go : (b₁ : Bool) → ltb status 144 ≡ b₁ → (b₂ : Bool) → ltb status 160 ≡ b₂ → (b₃ : Bool) → ltb status 176 ≡ b₃ → (b₄ : Bool) → ltb status 192 ≡ b₄ → Two status
      go true e₁ b₂ e₂ b₃ e₃ b₄ e₄ =
          let top = ltb-true status 144 e₁ in
          moved 0x80 low (λ c is. subst (Message (0x80 + c) (x ∷ y ∷ [])) (sym (off_means c x y (omega arith))) (note_off (omega arith) h k))
      go false e₁ true e₂ b₃ e₃ b₄ e₄ =
          let top = ltb-true status 160 e₂ in
          let bottom = ltb-false status 144 e₁ in
          moved 0x90 bottom (λ c is. subst (Message (0x90 + c) (x ∷ y ∷ [])) (sym (on_means c x y (omega arith))) (note_on (omega arith) h k))
      go false e₁ false e₂ true e₃ b₄ e₄ =
          let top = ltb-true status 176 e₃ in
          let bottom = ltb-false status 160 e₂ in
          moved 0xA0 bottom (λ c is. subst (Message (0xA0 + c) (x ∷ y ∷ [])) (sym (other_means (0xA0 + c) x y (omega arith))) (key_pressure (omega arith) h k))
      go false e₁ false e₂ false e₃ true e₄ =
          let top = ltb-true status 192 e₄ in
          let bottom = ltb-false status 176 e₃ in
          moved 0xB0 bottom (λ c is. subst (Message (0xB0 + c) (x ∷ y ∷ [])) (sym (other_means (0xB0 + c) x y (omega arith))) (control (omega arith) h k))
      go false e₁ false e₂ false e₃ false e₄ =
          let bottom : 224 ≤ status = two_high status (ltb-false status 192 e₄) two in
          moved 0xE0 bottom (λ c is. subst (Message (0xE0 + c) (x ∷ y ∷ [])) (sym (other_means (0xE0 + c) x y (omega arith))) (pitch_wheel (omega arith) h k))

module _ (status x : ℕ) (h : x < 128) where
  pub one_message : is_one_byte status ≡ true → Message status (x ∷ []) Other
  one_message one = go (one_range status one) (ltb status 208) refl
    where
      go : (192 ≤ status) × (status < 224) → (b : Bool) → ltb status 208 ≡ b → Message status (x ∷ []) Other
      go range true e =
          let top = ltb-true status 208 e in
          let same : 0xC0 + (status - 0xC0) ≡ status = omega arith in
          subst (λ (s : ℕ). Message s (x ∷ []) Other) same (program (omega arith) h)
      go range false e =
          let bottom = ltb-false status 208 e in
          let same : 0xD0 + (status - 0xD0) ≡ status = omega arith in
          subst (λ (s : ℕ). Message s (x ∷ []) Other) same (pressure (omega arith) h)

-- what begins a message, or an event
abbrev pub MessagePart : ℕ → List ℕ → Type 0
MessagePart status bytes = (rest : List ℕ) × (e : Event) × Message status (bytes ++ rest) e

module _ (f : List ℕ) (end : ℕ) where
  abbrev pub Hears : ℕ → ℕ → Result Read Fault → Type 0
  Hears status at (Ok (Is e s behind)) = (s ≡ status) × Spelt f (λ (bytes : List ℕ). Message status bytes e) at behind
  Hears status at (Ok (End behind)) = ⊥
  Hears status at (Err why) = Cut f end (MessagePart status) at why

  abbrev Byte : ℕ → Result ℕ Fault → Type 0
  Byte at (Ok b) = (byte_at f at ≡ b) × (b < 128) × (at < end)
  Byte at (Err why) = (why.at ≡ at) × Plain why

  byte : (at : ℕ) → Byte at (data_at f end at)
  unfolding data_at refusal_of
  byte at =
      both (Byte at) (ltb at end) _ _
      (λ inside. both (Byte at) (ltb (byte_at f at) 128) _ _ (λ e. (refl, ltb-true (byte_at f at) 128 e, ltb-true at end inside)) (λ _. (refl, refl)))
      (λ _. (refl, refl))

  module _ (status at : ℕ) (low : 128 ≤ status) (high : status < 240) (room : at ≤ end) where
    -- a message of this status that begins so
    begins_none : MessagePart status []
    begins_none = go (is_one_byte status) refl
      where
        go : (b : Bool) → is_one_byte status ≡ b → MessagePart status []
        go true e = (0 ∷ [], Other, one_message status 0 (omega arith) e)
        go false e = (0 ∷ 0 ∷ [], message_of status 0 0, two_message status 0 0 (omega arith) (omega arith) low high e)

    second : (x : ℕ) → x < 128 → byte_at f at ≡ x → at < end → is_one_byte status ≡ false → (d : Result ℕ Fault) → Byte (at + 1) d
        → Hears status at (with_data d (λ y. Ok (Is (message_of status x y) status (at + 2))))
    second x small is inside two (Ok y) b = (
      refl,
      record {
        bytes = x ∷ y ∷ [];
        is = two_message status x y small b.1 low high two;
        there = (is, (b.0, omega arith));
      },
    )
    second x small is inside two (Err why) b = (
      record {
        bytes = x ∷ [];
        is = (0 ∷ [], message_of status x 0, two_message status x 0 small (omega arith) low high two);
        there = (is, sym b.0);
      },
      omega arith,
      b.1,
    )

    first : (d : Result ℕ Fault) → Byte at d
        → Hears status at (with_data d (λ x. cond (is_one_byte status) (Ok (Is Other status (at + 1))) (with_data (data_at f end (at + 1)) (λ y. Ok (Is (message_of status x y) status (at + 2))))))
    first (Ok x) b =
        both (Hears status at) (is_one_byte status) _ _
        (λ one. (refl, record { bytes = x ∷ []; is = one_message status x b.1 one; there = (b.0, refl) }))
        (λ two. second x b.1 b.0 b.2 two (data_at f end (at + 1)) (byte (at + 1)))
    first (Err why) b = (record { bytes = []; is = begins_none; there = sym b.0 }, omega arith, b.1)

    pub hears : Hears status at (channel_event f end status at)
    unfolding channel_event
    hears = first (data_at f end at) (byte at)

-- ---- a size and so many bytes

-- the beginning of them, where they are to be as many as `least`
abbrev pub SizedPart : ℕ → List ℕ → Type 0
SizedPart least bytes = (rest size body : List ℕ) × (bytes ++ rest ≡ size ++ body) × Quantity size (length body) × (least ≤ length body)

module _ (f : List ℕ) (least : ℕ) where
  size_cut : (at behind : ℕ) → least ≤ 3 → Spelt f (QuantityPart 3 0) at behind → Spelt f (SizedPart least) at behind
  size_cut at behind few s =
      let body = bytes_at f 0 s.is.1 in
      let n : length body ≡ s.is.1 = bytes_length f 0 s.is.1 in
      record {
        bytes = s.bytes;
        is = (
          s.is.0 ++ body,
          s.bytes ++ s.is.0,
          body,
          sym (append_assoc s.bytes s.is.0 body),
          subst (Quantity (s.bytes ++ s.is.0)) (sym n) s.is.2,
          (let big = s.is.3 in omega arith),
        );
        there = s.there;
      }

  body_cut : (at mid end n : ℕ) → Spelt f (λ (bytes : List ℕ). Quantity bytes n) at mid → mid ≤ end → end - mid < n → least ≤ n → Spelt f (SizedPart least) at end
  body_cut at mid end n s up short few =
      let have = bytes_at f mid (end - mid) in
      let lack = bytes_at f 0 (n - (end - mid)) in
      let size : length (have ++ lack) ≡ n = omega (arith, length-append have lack, bytes_length f mid (end - mid), bytes_length f 0 (n - (end - mid))) in
      let stop : mid + (end - mid) ≡ end = omega arith in
      record {
        bytes = s.bytes ++ have;
        is = (
          lack,
          s.bytes,
          have ++ lack,
          append_assoc s.bytes have lack,
          subst (Quantity s.bytes) (sym size) s.is,
          omega arith,
        );
        there = join f at s.bytes mid have end s.there (subst (From f mid have) stop (bytes_from f mid (end - mid)));
      }

-- ---- events

-- End of Track
pub data EndBytes : List ℕ → Type 0 where
  end_bytes : {size : List ℕ} (body : List ℕ) → Quantity size (length body) → EndBytes (0xFF ∷ 0x2F ∷ (size ++ body))

-- the beginning of an event, or of End of Track
pub data EventPart (running : ℕ) (bytes : List ℕ) : Type 0 where
  of_event : (rest : List ℕ) {e : Event} {status : ℕ} → OneEvent running (bytes ++ rest) e status → EventPart running bytes
  of_end : (rest : List ℕ) → EndBytes (bytes ++ rest) → EventPart running bytes

abbrev pub Running : ℕ → Type 0
Running s = (s ≡ 0) ⊎ ((128 ≤ s) × (s < 240))

none_yet : (running : ℕ) → EventPart running []
none_yet running = of_event (0xC0 ∷ 0 ∷ []) (told (program {channel = 0} {number = 0} (omega arith) (omega arith)))

-- a tempo of these bytes
tempo_of_lem : (running : ℕ) (size body : List ℕ) → 3 ≤ length body → Quantity size (length body) → (e : Event) × OneEvent running (0xFF ∷ 0x51 ∷ (size ++ body)) e 0
tempo_of_lem running size [] h q = absurd (omega arith)
tempo_of_lem running size (a ∷ []) h q = absurd (omega arith)
tempo_of_lem running size (a ∷ b ∷ []) h q = absurd (omega arith)
tempo_of_lem running size (a ∷ b ∷ c ∷ more) h q =
    let n : length (a ∷ b ∷ c ∷ more) ≡ 3 + length more = omega arith in
    (Tempo (number_of (a ∷ b ∷ c ∷ [])), tempo a b c more (subst (Quantity size) n q))

module _ (f : List ℕ) (end running : ℕ) where
  tempo_at : (mid behind : ℕ) (size body : List ℕ) → From f mid body behind → 3 ≤ length body → Quantity size (length body)
      → OneEvent running (0xFF ∷ 0x51 ∷ (size ++ body)) (Tempo (three_at f mid)) 0
  tempo_at mid behind size [] from h q = absurd (omega arith)
  tempo_at mid behind size (a ∷ []) from h q = absurd (omega arith)
  tempo_at mid behind size (a ∷ b ∷ []) from h q = absurd (omega arith)
  tempo_at mid behind size (a ∷ b ∷ c ∷ more) from h q =
      let n : length (a ∷ b ∷ c ∷ more) ≡ 3 + length more = omega arith in
      subst (λ (t : ℕ). OneEvent running (0xFF ∷ 0x51 ∷ (size ++ (a ∷ b ∷ c ∷ more))) (Tempo t) 0)
      (sym (three_is f mid a b c more behind from))
      (tempo a b c more (subst (Quantity size) n q))

  abbrev pub Shows : ℕ → Result Read Fault → Type 0
  Shows at (Ok (Is e s behind)) = Running s × Spelt f (λ (bytes : List ℕ). OneEvent running bytes e s) at behind
  Shows at (Ok (End behind)) = Spelt f EndBytes at behind
  Shows at (Err why) = Cut f end (EventPart running) at why

  -- a system exclusive, from its length on
  module _ (at : ℕ) (first : ℕ) (is : byte_at f at ≡ first) (made : (size body : List ℕ) → Quantity size (length body) → OneEvent running (first ∷ (size ++ body)) Other 0) where
    exclusive_part : (behind : ℕ) → Spelt f (SizedPart 0) (at + 1) behind → Spelt f (EventPart running) at behind
    exclusive_part behind s =
        let (rest, size, body, e, q, least) = s.is in
        record {
          bytes = first ∷ s.bytes;
          is = of_event rest (subst (λ (l : List ℕ). OneEvent running (first ∷ l) Other 0) (sym e) (made size body q));
          there = (is, s.there);
        }

    exclusive : (q : Result (ℕ × ℕ) Fault) → Counts f end 3 0 (at + 1) q → ((n mid : ℕ) → q ≡ Ok (n, mid) → mid ≤ end)
        → Shows at (with_quantity q (λ size next. past end size next (Ok (Is Other 0 (next + size)))))
    unfolding refusal_of
    exclusive (Ok (n, mid)) c up =
        both (Shows at) (leb n (end - mid)) _ _
        (λ fits. (
          inl refl,
          record {
            bytes = first ∷ (c.bytes ++ bytes_at f mid n);
            is = made c.bytes (bytes_at f mid n) (subst (Quantity c.bytes) (sym (bytes_length f mid n)) c.is);
            there = (is, join f (at + 1) c.bytes mid (bytes_at f mid n) (mid + n) c.there (bytes_from f mid n));
          },
        ))
        (λ short. (exclusive_part end (body_cut f 0 (at + 1) mid end n c (up n mid refl) (leb-false n (end - mid) short) (omega arith)), omega arith, refl))
    exclusive (Err why) c up = (exclusive_part why.at (size_cut f 0 (at + 1) why.at (omega arith) c.0), c.1, c.2)

    pub shows_exclusive : at < end → Shows at (sysex_at f end (at + 1))
    unfolding sysex_at
    shows_exclusive inside = exclusive (quantity_at f end (at + 1)) (counts f end 3 0 (at + 1) (omega arith)) (λ n mid e. (quantity_ends f end (at + 1) n mid e).1)

  -- a meta-event, from its type on
  module _ (at type : ℕ) (is : byte_at f at ≡ 0xFF) (is' : byte_at f (at + 1) ≡ type) (small : type < 128) where
    abbrev Whole : List ℕ → Type 0
    Whole rest = EventPart running (0xFF ∷ type ∷ rest)

    meta_part : (behind : ℕ) → Spelt f Whole (at + 1 + 1) behind → Spelt f (EventPart running) at behind
    meta_part behind s = record { bytes = 0xFF ∷ type ∷ s.bytes; is = s.is; there = (is, (is', s.there)) }

    -- by what the type is
    tempo_part : type ≡ 0x51 → (bytes : List ℕ) → SizedPart 3 bytes → Whole bytes
    tempo_part t bytes (rest, size, body, e, q, least) =
        let (m, o) = tempo_of_lem running size body least q in
        of_event rest
        (subst (λ (k : ℕ). OneEvent running (0xFF ∷ k ∷ (bytes ++ rest)) m 0) (sym t)
        (subst (λ (l : List ℕ). OneEvent running (0xFF ∷ 0x51 ∷ l) m 0) (sym e) o))

    end_part : type ≡ 0x2F → (bytes : List ℕ) → SizedPart 0 bytes → Whole bytes
    end_part t bytes (rest, size, body, e, q, least) =
        of_end rest
        (subst (λ (k : ℕ). EndBytes (0xFF ∷ k ∷ (bytes ++ rest))) (sym t)
        (subst (λ (l : List ℕ). EndBytes (0xFF ∷ 0x2F ∷ l)) (sym e) (end_bytes body q)))

    other_part : (type ≡ 0x51 → ⊥) → (type ≡ 0x2F → ⊥) → (bytes : List ℕ) → SizedPart 0 bytes → Whole bytes
    other_part no_tempo no_end bytes (rest, size, body, e, q, least) =
        of_event rest (subst (λ (l : List ℕ). OneEvent running (0xFF ∷ type ∷ l) Other 0) (sym e) (meta body small no_tempo no_end q))

    rest_part : eqb type 0x51 ≡ false → (bytes : List ℕ) → SizedPart 0 bytes → Whole bytes
    rest_part t bytes p = go (eqb type 0x2F) refl
      where
        go : (c : Bool) → eqb type 0x2F ≡ c → Whole bytes
        go true k = end_part (eqb-true type 0x2F k) bytes p
        go false k = other_part (eqb-false type 0x51 t) (eqb-false type 0x2F k) bytes p

    any_part : (bytes : List ℕ) → SizedPart 3 bytes → Whole bytes
    any_part bytes p = go (eqb type 0x51) refl
      where
        go : (b : Bool) → eqb type 0x51 ≡ b → Whole bytes
        go true t = tempo_part (eqb-true type 0x51 t) bytes p
        go false t = rest_part t bytes (p.0, p.1, p.2, p.3, p.4, omega arith)

    part_as : {P : List ℕ → Type 0} (behind : ℕ) → ((bytes : List ℕ) → P bytes → Whole bytes) → Spelt f P (at + 1 + 1) behind → Spelt f (EventPart running) at behind
    part_as behind g s = meta_part behind (record { bytes = s.bytes; is = g s.bytes s.is; there = s.there })

    -- from the data on
    module _ (n mid : ℕ) (c : Spelt f (λ (bytes : List ℕ). Quantity bytes n) (at + 1 + 1) mid) (up : mid ≤ end) where
      abbrev body : List ℕ
      body = bytes_at f mid n

      sized : Quantity c.bytes (length body)
      sized = subst (Quantity c.bytes) (sym (bytes_length f mid n)) c.is

      there : From f at (0xFF ∷ type ∷ (c.bytes ++ body)) (mid + n)
      there = (is, (is', join f (at + 1 + 1) c.bytes mid body (mid + n) c.there (bytes_from f mid n)))

      shows_tempo : eqb type 0x51 ≡ true → Shows at (tempo_of f end n mid)
      unfolding tempo_of refusal_of
      shows_tempo t =
          let same = eqb-true type 0x51 t in
          both (Shows at) (ltb n 3) _ _
          (λ _. (part_as (mid - 1) (tempo_part same) (size_cut f 3 (at + 1 + 1) (mid - 1) (omega arith) (all_but_last f end c.is (at + 1 + 1) mid c.there)), omega arith, refl))
          (λ long.
          let three : 3 ≤ n = ltb-false n 3 long in
          both (Shows at) (leb n (end - mid)) _ _
          (λ fits. (
            inl refl,
            record {
              bytes = 0xFF ∷ type ∷ (c.bytes ++ body);
              is = subst (λ (k : ℕ). OneEvent running (0xFF ∷ k ∷ (c.bytes ++ body)) (Tempo (three_at f mid)) 0) (sym same)
                  (tempo_at mid (mid + n) c.bytes body (bytes_from f mid n) (omega (arith, bytes_length f mid n)) sized);
              there = there;
            },
          ))
          (λ short. (part_as end (tempo_part same) (body_cut f 3 (at + 1 + 1) mid end n c up (leb-false n (end - mid) short) three), omega arith, refl)))

      shows_rest : eqb type 0x51 ≡ false → Shows at (past end n mid (cond (eqb type 0x2F) (Ok (End (mid + n))) (Ok (Is Other 0 (mid + n)))))
      unfolding refusal_of
      shows_rest t =
          both (Shows at) (leb n (end - mid)) _ _
          (λ fits. both (Shows at) (eqb type 0x2F) _ _
          (λ k. record {
            bytes = 0xFF ∷ type ∷ (c.bytes ++ body);
            is = subst (λ (k : ℕ). EndBytes (0xFF ∷ k ∷ (c.bytes ++ body))) (sym (eqb-true type 0x2F k)) (end_bytes body sized);
            there = there;
          })
          (λ k. (
            inl refl,
            record {
              bytes = 0xFF ∷ type ∷ (c.bytes ++ body);
              is = meta body small (eqb-false type 0x51 t) (eqb-false type 0x2F k) sized;
              there = there;
            },
          )))
          (λ short. (part_as end (rest_part t) (body_cut f 0 (at + 1 + 1) mid end n c up (leb-false n (end - mid) short) (omega arith)), omega arith, refl))

      shows_body : Shows at (meta_of f end type n mid)
      unfolding meta_of
      shows_body = both (Shows at) (eqb type 0x51) _ _ shows_tempo shows_rest

    shows_sized : (q : Result (ℕ × ℕ) Fault) → Counts f end 3 0 (at + 1 + 1) q → ((n mid : ℕ) → q ≡ Ok (n, mid) → mid ≤ end)
        → Shows at (with_quantity q (λ size next. meta_of f end type size next))
    shows_sized (Ok (n, mid)) c up = shows_body n mid c (up n mid refl)
    shows_sized (Err why) c up = (part_as why.at any_part (size_cut f 3 (at + 1 + 1) why.at (omega arith) c.0), c.1, c.2)

  shows_meta : (at : ℕ) → byte_at f at ≡ 0xFF → at < end → Shows at (meta_at f end (at + 1))
  unfolding meta_at refusal_of
  shows_meta at is inside =
      both (Shows at) (ltb (at + 1) end) _ _
      (λ more. both (Shows at) (ltb (byte_at f (at + 1)) 128) _ _
      (λ small. shows_sized at (byte_at f (at + 1)) is refl (ltb-true (byte_at f (at + 1)) 128 small) (quantity_at f end (at + 1 + 1)) (counts f end 3 0 (at + 1 + 1) (omega (arith, ltb-true (at + 1) end more)))
      (λ n mid e. (quantity_ends f end (at + 1 + 1) n mid e).1))
      (λ _. (no_type, omega arith, refl)))
      (λ _. (no_type, omega arith, refl))
    where
      no_type : Spelt f (EventPart running) at (at + 1)
      no_type = record { bytes = 0xFF ∷ []; is = of_end (0x2F ∷ 0 ∷ []) (end_bytes [] (last {b = 0} (omega arith))); there = (is, refl) }

  -- ---- an event
  told_shown : (at : ℕ) (r : Result Read Fault) → 128 ≤ byte_at f at → byte_at f at < 240 → Hears f end (byte_at f at) (at + 1) r → Shows at r
  told_shown at (Ok (Is e s behind)) low high h = (
    inr (rw h.0 (low, high)),
    record {
      bytes = byte_at f at ∷ h.1.bytes;
      is = subst (λ (k : ℕ). OneEvent running (byte_at f at ∷ h.1.bytes) e k) (sym h.0) (told h.1.is);
      there = (refl, h.1.there);
    },
  )
  told_shown at (Ok (End behind)) low high h = absurd h
  told_shown at (Err why) low high (h, room, plain) = (
    record {
      bytes = byte_at f at ∷ h.bytes;
      is = of_event h.is.0 (told h.is.2);
      there = (refl, h.there);
    },
    room,
    plain,
  )

  again_shown : (at : ℕ) (r : Result Read Fault) → 128 ≤ running → running < 240 → Hears f end running at r → Shows at r
  again_shown at (Ok (Is e s behind)) low high h = (
    inr (rw h.0 (low, high)),
    record {
      bytes = h.1.bytes;
      is = subst (OneEvent running h.1.bytes e) (sym h.0) (again h.1.is);
      there = h.1.there;
    },
  )
  again_shown at (Ok (End behind)) low high h = absurd h
  again_shown at (Err why) low high (h, room, plain) = (record { bytes = h.bytes; is = of_event h.is.0 (again h.is.2); there = h.there }, room, plain)

  shows_status : (at : ℕ) → 128 ≤ byte_at f at → at < end → Shows at (status_of f end (byte_at f at) (at + 1))
  unfolding status_of refusal_of
  shows_status at low inside =
      both (Shows at) (ltb (byte_at f at) 240) _ _
      (λ e. let high = ltb-true (byte_at f at) 240 e in told_shown at (channel_event f end (byte_at f at) (at + 1)) low high (hears f end (byte_at f at) (at + 1) low high (omega arith)))
      (λ _. both (Shows at) (eqb (byte_at f at) 255) _ _ (λ e. shows_meta at (eqb-true (byte_at f at) 255 e) inside)
      (λ _. both (Shows at) (eqb (byte_at f at) 240 || eqb (byte_at f at) 247) _ _ (λ e. which (eqb (byte_at f at) 240) refl (eqb (byte_at f at) 247) refl e)
      (λ _. (record { bytes = []; is = none_yet running; there = omega arith }, omega arith, refl))))
    where
      which : (b : Bool) → eqb (byte_at f at) 240 ≡ b → (c : Bool) → eqb (byte_at f at) 247 ≡ c → (b || c) ≡ true → Shows at (sysex_at f end (at + 1))
      which true e c k h = shows_exclusive at 0xF0 (eqb-true (byte_at f at) 240 e) (λ size body q. sysex body q) inside
      which false e true k h = shows_exclusive at 0xF7 (eqb-true (byte_at f at) 247 k) (λ size body q. escape body q) inside
      which false e false k h = never h refl

  pub shows : (at : ℕ) → Running running → at ≤ end → Shows at (event_at f end running at)
  unfolding event_at refusal_of
  shows at r room =
      both (Shows at) (ltb at end) _ _
      (λ inside. both (Shows at) (leb 128 (byte_at f at)) _ _ (λ e. shows_status at (leb-true 128 (byte_at f at) e) (ltb-true at end inside))
      (λ _. both (Shows at) (eqb running 0) _ _ (λ _. (none_here, room, refl)) (λ e. go r (eqb-false running 0 e))))
      (λ _. (none_here, room, refl))
    where
      none_here : Spelt f (EventPart running) at at
      none_here = record { bytes = []; is = none_yet running; there = refl }

      go : Running running → (running ≡ 0 → ⊥) → Shows at (channel_event f end running at)
      go (inl z) some = absurd (some z)
      go (inr k) some = again_shown at (channel_event f end running at) k.0 k.1 (hears f end running at k.0 k.1 room)
