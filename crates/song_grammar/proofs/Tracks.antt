-- What the reader takes, the grammar spells, and what stands before a fault is the beginning of something that it spells: tracks. Assumes nothing.
use Rattle.std.specs.Prelude.{Result, Ok, Err}
use mathlib.Core.Path.{◌≡◌, refl, sym, ap, ◌∙◌, subst}
use mathlib.Core.List.{List, [], ◌∷◌, ◌++◌, append-nil, append_assoc}
use mathlib.Core.Logic.{◌⊎◌, inl, inr, ◌≢◌}
use Prim.Native.Nat.{ℕ, zero, suc, ◌+◌, ◌-◌, ◌*◌, ◌≤◌, ◌<◌, min}
use native.Mathlib.Omega.{arith}
use lib.Dec.{ltb}
use lib.ListN.{length, length-append}
use borrow.Author.Tests.{ltb-true, ltb-false}
use Rattle.smf.specs.Faults.{fault_at, refusal_of}
use Rattle.smf.specs.Fields.{quantity_at}
use Rattle.smf.specs.Events.{event_at, step_timed, with_delta, step_at}
use Rattle.smf.specs.Files.{Events, rest_at, behind_track, events_on, events_from}
use Rattle.smf.specs.Files.Events.{then, over}
use Rattle.smf.specs.Times.{frame_at}
use Rattle.smf.specs.Cues.{Song, tempo_after, too_late, song_from}
use Rattle.smf.specs.Promised.{Timed, timed_of}
use Rattle.smf.specs.declared.faults.Reason.TheVariants.{LateFrame}
use Rattle.smf.specs.declared.faults.Fault.{Fault}
use Rattle.smf.specs.declared.events.Event.{Event}
use Rattle.smf.specs.declared.events.Read.{Read}
use Rattle.smf.specs.declared.events.Read.TheVariants.{Is, End}
use Rattle.smf.specs.declared.events.Step.{Step}
use Rattle.smf.specs.declared.events.Step.TheVariants as step
use Rattle.smf.proofs.Inside.{both, quantity_ends, step-ends}
use Rattle.song_grammar.specs.Grammar.{Quantity, OneEvent, Track}
use Rattle.song_grammar.specs.Grammar.Digits.{last}
use Rattle.song_grammar.specs.Grammar.Track.{ended, then as event_then}
use Rattle.song_grammar.proofs.Segments.{From, join}
use Rattle.song_grammar.proofs.Shown.{Spelt, Cut, QuantityPart, Counts, counts, EndBytes, EndBytes.end_bytes, EventPart, EventPart.of_event, EventPart.of_end, Running, Shows, shows}
use Rattle.song_grammar.proofs.Taken.{some_bytes}
use Rattle.song_grammar.proofs.Wholes.{last_of}

-- ---- a delta-time and an event

abbrev pub TimedBytes : ℕ → List ℕ → ℕ → Event → ℕ → Type 0
TimedBytes running bytes ticks e status = (delta event : List ℕ) × (bytes ≡ delta ++ event) × Quantity delta ticks × OneEvent running event e status

-- has a byte
pub some_timed : {running ticks status : ℕ} {bytes : List ℕ} {e : Event} → TimedBytes running bytes ticks e status → 0 < length bytes
some_timed (delta, event, is, q, o) = omega (arith, some_bytes [] 0 q, ap length is, length-append delta event)

-- and begins a track
pub event_before : {running ticks status : ℕ} {bytes : List ℕ} {e : Event} → TimedBytes running bytes ticks e status → {rest : List ℕ} {ts : List Timed} → Track status rest ts
    → Track running (bytes ++ rest) (record { delta = ticks; event = e } ∷ ts)
event_before {running} {ticks} {status} {bytes} {e} (delta, event, is, q, o) {rest} {ts} t =
    subst (λ (l : List ℕ). Track running l (record { delta = ticks; event = e } ∷ ts))
    (sym (append_assoc delta event rest) ∙ ap (λ (l : List ℕ). l ++ rest) (sym is))
    (event_then q o t)

-- the beginning of a track
abbrev pub TrackPart : ℕ → List ℕ → Type 0
TrackPart running bytes = (rest : List ℕ) × (ts : List Timed) × Track running (bytes ++ rest) ts

-- a track that ends at once
abbrev pub at_once : List ℕ
at_once = 0 ∷ 0xFF ∷ 0x2F ∷ 0 ∷ []

zero_quantity : Quantity (0 ∷ []) 0
zero_quantity = last {b = 0} (omega arith)

pub ends_at_once : (running : ℕ) → Track running at_once []
ends_at_once running = ended [] zero_quantity zero_quantity

module _ {running ticks : ℕ} {delta : List ℕ} (q : Quantity delta ticks) where
  end_track : {bytes : List ℕ} → EndBytes bytes → Track running (delta ++ bytes) []
  end_track (end_bytes body r) = ended body q r

  event_part : {bytes : List ℕ} → EventPart running bytes → TrackPart running (delta ++ bytes)
  event_part {bytes} (of_event rest {e} {status} o) = (
    rest ++ at_once,
    record { delta = ticks; event = e } ∷ [],
    subst (λ (l : List ℕ). Track running l (record { delta = ticks; event = e } ∷ [])) (simp append_assoc) (event_then q o (ends_at_once status)),
  )
  event_part {bytes} (of_end rest o) = (rest, [], subst (λ (l : List ℕ). Track running l []) (simp append_assoc) (end_track o))

-- the beginning of one behind an event
part_behind : {running ticks status : ℕ} {first : List ℕ} {e : Event} → TimedBytes running first ticks e status → (bytes : List ℕ) → TrackPart status bytes → TrackPart running (first ++ bytes)
part_behind {running} {ticks} {status} {first} {e} timed bytes (rest, ts, t) = (
  rest,
  record { delta = ticks; event = e } ∷ ts,
  subst (λ (l : List ℕ). Track running l (record { delta = ticks; event = e } ∷ ts)) (sym (append_assoc first bytes rest)) (event_before timed t),
)

delta_part : (running : ℕ) (bytes : List ℕ) → QuantityPart 3 0 bytes → TrackPart running bytes
delta_part running bytes (rest, n, q, big) = (
  rest ++ (0xFF ∷ 0x2F ∷ 0 ∷ []),
  [],
  subst (λ (l : List ℕ). Track running l []) (append_assoc bytes rest (0xFF ∷ 0x2F ∷ 0 ∷ [])) (ended [] q zero_quantity),
)

module _ (f : List ℕ) (end : ℕ) where
  abbrev pub Steps : ℕ → ℕ → Result Step Fault → Type 0
  Steps running at (Ok (step.Is ticks e status behind)) = Running status × Spelt f (λ (bytes : List ℕ). TimedBytes running bytes ticks e status) at behind
  Steps running at (Ok (step.End behind)) = Spelt f (λ (bytes : List ℕ). Track running bytes []) at behind
  Steps running at (Err why) = Cut f end (TrackPart running) at why

  module _ (running at : ℕ) where
    after_delta : (ticks mid : ℕ) → Spelt f (λ (bytes : List ℕ). Quantity bytes ticks) at mid → (r : Result Read Fault) → Shows f end running mid r → Steps running at (step_timed ticks r)
    after_delta ticks mid d (Ok (Is e status behind)) s = (
      s.0,
      record {
        bytes = d.bytes ++ s.1.bytes;
        is = (d.bytes, s.1.bytes, refl, d.is, s.1.is);
        there = join f at d.bytes mid s.1.bytes behind d.there s.1.there;
      },
    )
    after_delta ticks mid d (Ok (End behind)) s = record {
      bytes = d.bytes ++ s.bytes;
      is = end_track d.is s.is;
      there = join f at d.bytes mid s.bytes behind d.there s.there;
    }
    after_delta ticks mid d (Err why) (s, room, plain) = (
      record {
        bytes = d.bytes ++ s.bytes;
        is = event_part d.is s.is;
        there = join f at d.bytes mid s.bytes why.at d.there s.there;
      },
      room,
      plain,
    )

    with_delta_lem : Running running → (q : Result (ℕ × ℕ) Fault) → Counts f end 3 0 at q → ((n mid : ℕ) → q ≡ Ok (n, mid) → mid ≤ end) → Steps running at (with_delta q (event_at f end running))
    with_delta_lem r (Ok (ticks, mid)) c up = after_delta ticks mid c (event_at f end running mid) (shows f end running mid r (up ticks mid refl))
    with_delta_lem r (Err why) (c, room, plain) up = (record { bytes = c.bytes; is = delta_part running c.bytes c.is; there = c.there }, room, plain)

    pub nothing_yet : Spelt f (TrackPart running) at at
    nothing_yet = record { bytes = []; is = (at_once, [], ends_at_once running); there = refl }

    pub steps : Running running → at ≤ end → Steps running at (step_at f end running at)
    unfolding step_at refusal_of
    steps r room =
        both (Steps running at) (ltb at end) _ _
        (λ _. with_delta_lem r (quantity_at f end at) (counts f end 3 0 at room) (λ n mid e. (quantity_ends f end at n mid e).1))
        (λ _. (nothing_yet, room, refl))

-- ---- a track
module _ (f : List ℕ) (full : ℕ) where
  -- all of it, and what the file has behind it
  pub record Closes (P : List ℕ → Type 0) (at : ℕ) (v : Result (Unit {0}) Fault) : Type 0 where
    pub spelt : Spelt f P at full
    pub inside : full ≤ length f
    pub behind : rest_at f full ≡ v

  abbrev pub Tracked : ℕ → ℕ → Events → Type 0
  Tracked running at (over (Ok done)) = Closes (λ (bytes : List ℕ). Track running bytes []) at (Ok tt)
  Tracked running at (over (Err why)) = Cut f (min full (length f)) (TrackPart running) at why ⊎ Closes (λ (bytes : List ℕ). Track running bytes []) at (Err why)
  Tracked running at (then ticks e next rest) =
      (status : ℕ) × Spelt f (λ (bytes : List ℕ). TimedBytes running bytes ticks e status) at next × (next ≤ min full (length f)) × Tracked status next rest

  module _ (running at : ℕ) where
    whole_part : (behind : ℕ) → Spelt f (λ (bytes : List ℕ). Track running bytes []) at behind → Spelt f (TrackPart running) at behind
    whole_part behind s = record {
      bytes = s.bytes;
      is = ([], [], subst (λ (l : List ℕ). Track running l []) (sym (append-nil s.bytes)) s.is);
      there = s.there;
    }

    closed : (v : Result (Unit {0}) Fault) → Closes (λ (bytes : List ℕ). Track running bytes []) at v → Tracked running at (over v)
    closed (Ok done) c = c
    closed (Err why) c = inr c

    ends : (next : ℕ) → next ≤ min full (length f) → Spelt f (λ (bytes : List ℕ). Track running bytes []) at next → Tracked running at (over (behind_track f full next))
    unfolding behind_track refusal_of
    ends next room s =
        both (λ (v : Result (Unit {0}) Fault). Tracked running at (over v)) (ltb next (min full (length f))) _ _ (λ _. inl (whole_part next s, omega arith, refl))
        (λ late. let k = ltb-false next (min full (length f)) late in
        both (λ (v : Result (Unit {0}) Fault). Tracked running at (over v)) (ltb (length f) full) _ _
        (λ short. let l = ltb-true (length f) full short in inl (subst (Spelt f (TrackPart running) at) (omega arith) (whole_part next s), omega arith, refl))
        (λ whole. let l = ltb-false (length f) full whole in
        closed (rest_at f full) (record { spelt = subst (Spelt f (λ (bytes : List ℕ). Track running bytes []) at) (omega arith) s; inside = l; behind = refl })))

  pub tracked : (n running at : ℕ) → Running running → at ≤ min full (length f) → Tracked running at (events_from n f full running at)
  unfolding events_from events_on refusal_of
  tracked zero running at r room = inl (nothing_yet f (min full (length f)) running at, omega arith, refl)
  tracked (suc n) running at r room =
      go (step_at f (min full (length f)) running at) refl (steps f (min full (length f)) running at r room) (λ status next k up. tracked n status next k up)
    where
      go : (s : Result Step Fault) → step_at f (min full (length f)) running at ≡ s → Steps f (min full (length f)) running at s
          → ((status next : ℕ) → Running status → next ≤ min full (length f) → Tracked status next (events_from n f full status next)) → Tracked running at (events_on f full (events_from n f full) s)
      go (Ok (step.Is ticks e status behind)) is s more =
          let up = (step-ends f (min full (length f)) running at (Ok (step.Is ticks e status behind)) is).1 in
          (status, s.1, up, more status behind s.0 up)
      go (Ok (step.End behind)) is s more = ends running at behind (step-ends f (min full (length f)) running at (Ok (step.End behind)) is).1 s
      go (Err why) is s more = inl s

  -- ---- a good one
  pub good_track : (running at : ℕ) (es : Events) → Tracked running at es → last_of es ≡ (Ok tt) → Closes (λ (bytes : List ℕ). Track running bytes (timed_of es)) at (Ok tt)
  unfolding last_of timed_of
  good_track running at (over (Ok done)) t e = t
  good_track running at (over (Err why)) t e = let z : ◌≡◌ {A = ℕ} 0 1 = cc in absurd (omega arith)
  good_track running at (then ticks m next rest) (status, s, room, more) e =
      let c = good_track status next rest more e in
      record {
        spelt = record {
          bytes = s.bytes ++ c.spelt.bytes;
          is = event_before s.is c.spelt.is;
          there = join f at s.bytes next c.spelt.bytes full s.there c.spelt.there;
        };
        inside = c.inside;
        behind = c.behind;
      }

  -- ---- a broken one: a start or a stop that is late is broken at its last byte
  without_last : (at : ℕ) (bytes : List ℕ) (next : ℕ) → 0 < length bytes → From f at bytes next
      → Spelt f (λ (part : List ℕ). (b : ℕ) × (part ++ (b ∷ []) ≡ bytes)) at (next - 1)
  without_last at [] next h k = absurd (omega arith)
  without_last at (b ∷ []) next h k = record { bytes = []; is = (b, refl); there = (let e : at + 1 ≡ next = k.1 in omega arith) }
  without_last at (b ∷ c ∷ bytes) next h k =
      let s = without_last (at + 1) (c ∷ bytes) next (omega arith) k.1 in
      record { bytes = b ∷ s.bytes; is = (s.is.0, ap (λ (l : List ℕ). b ∷ l) s.is.1); there = (k.0, s.there) }

  late_part : (running at ticks : ℕ) (e : Event) (status next : ℕ) → Spelt f (λ (bytes : List ℕ). TimedBytes running bytes ticks e status) at next
      → Spelt f (TrackPart running) at (next - 1)
  late_part running at ticks e status next s =
      let w = without_last at s.bytes next (some_timed s.is) s.there in
      record {
        bytes = w.bytes;
        is = (
          w.is.0 ∷ at_once,
          record { delta = ticks; event = e } ∷ [],
          subst (λ (l : List ℕ). Track running l (record { delta = ticks; event = e } ∷ []))
              (ap (λ (l : List ℕ). l ++ at_once) (sym w.is.1) ∙ append_assoc w.bytes (w.is.0 ∷ []) at_once)
              (event_before s.is (ends_at_once status)),
        );
        there = w.there;
      }

  abbrev pub Breaks : ℕ → ℕ → Fault → Type 0
  Breaks running at why =
      (Spelt f (TrackPart running) at why.at × (why.at ≤ min full (length f)) × (refusal_of why.reason ≢ 13))
      ⊎ Closes (λ (bytes : List ℕ). (ts : List Timed) × Track running bytes ts) at (Err why)

  -- behind an event
  later : (running at ticks : ℕ) (e : Event) (status next : ℕ) → Spelt f (λ (bytes : List ℕ). TimedBytes running bytes ticks e status) at next
      → (why : Fault) → Breaks status next why → Breaks running at why
  later running at ticks e status next s why (inl (c, room, plain)) =
      inl (
        record {
          bytes = s.bytes ++ c.bytes;
          is = part_behind s.is c.bytes c.is;
          there = join f at s.bytes next c.bytes why.at s.there c.there;
        },
        room,
        plain,
      )
  later running at ticks e status next s why (inr c) =
      let (ts, t) = c.spelt.is in
      inr (record {
        spelt = record {
          bytes = s.bytes ++ c.spelt.bytes;
          is = (record { delta = ticks; event = e } ∷ ts, event_before s.is t);
          there = join f at s.bytes next c.spelt.bytes full s.there c.spelt.there;
        };
        inside = c.inside;
        behind = c.behind;
      })

  pub broken_track : (rate division tempo sum running at : ℕ) (es : Events) → Tracked running at es → (why : Fault)
      → (song_from rate division tempo sum es).verdict ≡ Err why → Breaks running at why
  unfolding song_from refusal_of
  broken_track rate division tempo sum running at (over (Ok done)) t why = λ e. let z : ◌≡◌ {A = ℕ} 0 1 = cc in absurd (omega arith)
  broken_track rate division tempo sum running at (over (Err w)) t why =
      λ e. subst (Breaks running at) (cc) (already t)
    where
      already : Tracked running at (over (Err w)) → Breaks running at w
      already (inl (c, room, plain)) = inl (c, room, λ z. omega arith)
      already (inr c) = inr (record {
        spelt = record { bytes = c.spelt.bytes; is = ([], c.spelt.is); there = c.spelt.there };
        inside = c.inside;
        behind = c.behind;
      })
  broken_track rate division tempo sum running at (then ticks m next rest) (status, s, room, more) why =
      both (λ (song : Song). song.verdict ≡ Err why → Breaks running at why) (too_late (frame_at rate division (sum + ticks * tempo)) m) _ _
      (λ _ e.
      let is : fault_at LateFrame (next - 1) ≡ why = cc in
      subst (Breaks running at) is (inl (late_part running at ticks m status next s, omega arith, (λ z. omega arith))))
      (λ _ e. later running at ticks m status next s why (broken_track rate division (tempo_after tempo m) (sum + ticks * tempo) status next rest more why e))
