-- A track that stands in a list of bytes: read step by step, written out, and copied. Assumes nothing.
use Rattle.std.specs.Prelude.{Result, Ok, Err}
use mathlib.Core.Path.{◌≡◌, refl, sym, ap, ◌∙◌, subst}
use mathlib.Core.Bool.{Bool, true, false}
use mathlib.Core.List.{List, [], ◌∷◌, ◌++◌}
use mathlib.Core.Logic.{◌⊎◌, inl, inr}
use Prim.Native.Nat.{ℕ, ◌+◌, ◌-◌, ◌*◌, ◌≤◌, ◌<◌}
use native.Mathlib.Omega.{arith}
use lib.Dec.{eqb}
use lib.ListN.{length, length-append}
use lib.Seq.{sets}
use borrow.Author.Tests.{eqb-true, eq-eqb}
use Rattle.octets.specs.Octets.{bytes_at}
use Rattle.smf.specs.Fields.{four_at}
use Rattle.smf.specs.Events.{step_at}
use Rattle.smf.specs.Promised.{Timed}
use Rattle.smf.specs.declared.faults.Fault.{Fault}
use Rattle.smf.specs.declared.events.Event.{Event}
use Rattle.smf.specs.declared.events.Step.{Step}
use Rattle.smf.specs.declared.events.Step.TheVariants as step
use Rattle.smf.proofs.Inside.{step-ends}
use Rattle.song_grammar.specs.Grammar.{Track}
use Rattle.song_grammar.specs.Grammar.Digits.{last}
use Rattle.song_grammar.specs.Grammar.Track.{ended, then}
use Rattle.song_grammar.proofs.Segments.{From, join, split}
use Rattle.song_grammar.proofs.Shown.{Running}
use Rattle.song_grammar.proofs.Taken.{some_bytes, step_taken, end_step}
use Rattle.song_grammar.proofs.Tracks.{event_before, Steps, steps}
use Rattle.song_merge.specs.Written.{delta_bytes, end_bytes}
use Rattle.song_merge.specs.Merges.{merged_of}
use Rattle.song_merge.specs.Standing.{TrackStands, TrackSized, Held, WholeTrack, ChunkEnd}
use Rattle.song_merge.specs.Standing.TrackSized.{ended as sized_ended, then as sized_then}
use Rattle.song_merge.specs.Gathers.{Joined, Grown, Started}
use Rattle.song_merge.proofs.Bytes.{bytes_from, bytes_are, bytes_long, from_sets, sets_long}
use Rattle.song_merge.proofs.Events.{told_of}

-- ---- read step by step
module _ (f : List ℕ) (end : ℕ) where
  -- from a place up to the end
  abbrev pub Rest : ℕ → ℕ → List Timed → Type 0
  Rest running place ts = Track running (bytes_at (end - place) f place) ts

  pub record Onward (running place : ℕ) (ticks : ℕ) (e : Event) (status mid : ℕ) : Type 0 where
    pub others : List Timed
    pub is : step_at f end running place ≡ Ok (step.Is ticks e status mid)
    pub rest : Rest status mid others

  pub moves : {running : ℕ} {bytes : List ℕ} {ts : List Timed} → Track running bytes ts → (place : ℕ) → From f place bytes end
      → (step_at f end running place ≡ Ok (step.End end)) ⊎ ((ticks : ℕ) × (e : Event) × (status : ℕ) × (mid : ℕ) × Onward running place ticks e status mid)
  moves {running} (ended {delta = delta} {size = size} body q r) place from =
      inl (end_step f end running place end delta (0xFF ∷ 0x2F ∷ (size ++ body)) q from (omega arith) size body r refl)
  moves {running} (then {ticks = ticks} {status = status} {delta = delta} {event = event} {rest = rest} {e = e} {ts = ts} q o more) place from =
      let apart = split f place delta (event ++ rest) end from in
      let second = split f apart.mid event rest end apart.right in
      let up = second.up in
      let first = join f place delta apart.mid event second.mid apart.left second.left in
      inr (
        ticks,
        e,
        status,
        second.mid,
        record {
          others = ts;
          is = step_taken f end running place second.mid delta event q first up o;
          rest = subst (λ (l : List ℕ). Track status l ts) (sym (bytes_are f rest second.mid end second.right)) more;
        },
      )

  pub some_track : {running : ℕ} {bytes : List ℕ} {ts : List Timed} → Track running bytes ts → 0 < length bytes
  some_track (ended {delta = delta} {size = size} body q r) = omega (arith, some_bytes f end q, length-append delta (0xFF ∷ 0x2F ∷ (size ++ body)))
  some_track (then {delta = delta} {event = event} {rest = rest} q o more) = omega (arith, some_bytes f end q, length-append delta (event ++ rest))

  -- where a track stands there is a place for it
  pub there : (running place : ℕ) (ts : List Timed) → Rest running place ts → From f place (bytes_at (end - place) f place) end
  there running place ts t = bytes_from f place end (omega (arith, some_track t, bytes_long f (end - place) place))

  -- what is known at a place of a walk that began at another
  pub record Walks (at running place : ℕ) : Type 0 where
    pub valid : Running running
    pub room : place ≤ end
    pub back : (ts : List Timed) → Rest running place ts → (us : List Timed) × TrackStands f at end us
    pub on : (us : List Timed) → TrackStands f at end us → (ts : List Timed) × Rest running place ts

  pub walks : (at : ℕ) → at ≤ end → Walks at 0 at
  walks at room = record { valid = inl refl; room = room; back = λ ts t. (ts, t); on = λ us t. (us, t) }

  module _ (at running place : ℕ) (w : Walks at running place) where
    abbrev Here : Result Step Fault
    Here = step_at f end running place

    wrong : (r : Bool) → r ≡ false → ((ts : List Timed) → Rest running place ts → ⊥) → WholeTrack f at end r
    wrong r e h = record {
      told = λ k. absurd (let z : ◌≡◌ {A = ℕ} 0 1 = cc in omega arith);
      taken = λ us t. let o = w.on us t in absurd (h o.0 o.1);
    }

    pub walks_on : (ticks : ℕ) (e : Event) (status next : ℕ) → Here ≡ Ok (step.Is ticks e status next) → Walks at status next
    walks_on ticks e status next is =
        let s = subst (Steps f end running place) is (steps f end running place w.valid w.room) in
        let up = (step-ends f end running place (Ok (step.Is ticks e status next)) is).1 in
        record {
          valid = s.0;
          room = up;
          back = λ ts t.
              let all = join f place s.1.bytes next (bytes_at (end - next) f next) end s.1.there (there status next ts t) in
              w.back (record { delta = ticks; event = e } ∷ ts)
              (subst (λ (l : List ℕ). Track running l (record { delta = ticks; event = e } ∷ ts)) (sym (bytes_are f (s.1.bytes ++ bytes_at (end - next) f next) place end all)) (event_before s.1.is t));
          on = λ us t. let o = w.on us t in follow o.0 o.1 (moves o.1 place (there running place o.0 o.1));
        }
      where
        follow : (ts : List Timed) → Rest running place ts
            → (Here ≡ Ok (step.End end)) ⊎ ((ticks : ℕ) × (e : Event) × (status : ℕ) × (mid : ℕ) × Onward running place ticks e status mid)
            → (ts : List Timed) × Rest status next ts
        follow ts t (inl over) = absurd (let z : ◌≡◌ {A = ℕ} 0 1 = cc in omega arith)
        follow ts t (inr (ticks', e', status', mid, o)) =
            let read = o.is in
            let s : status' ≡ status = cc in
            let n : mid ≡ next = cc in
            (o.others, subst (λ (k : ℕ). Rest status k o.others) n (subst (λ (k : ℕ). Rest k mid o.others) s o.rest))

    pub walks_over : (next : ℕ) → Here ≡ Ok (step.End next) → WholeTrack f at end (eqb next end)
    walks_over next is =
        let s = subst (Steps f end running place) is (steps f end running place w.valid w.room) in
        record {
          told = λ k.
              let same = eqb-true next end k in
              w.back [] (subst (λ (l : List ℕ). Track running l []) (sym (bytes_are f s.bytes place end (subst (From f place s.bytes) same s.there))) s.is);
          taken = λ us t. let o = w.on us t in follow (moves o.1 place (there running place o.0 o.1));
        }
      where
        follow : (Here ≡ Ok (step.End end)) ⊎ ((ticks : ℕ) × (e : Event) × (status : ℕ) × (mid : ℕ) × Onward running place ticks e status mid) → eqb next end ≡ true
        follow (inl over) = let n : next ≡ end = cc in eq-eqb next end n
        follow (inr (ticks, e, status, mid, o)) = let read = o.is in absurd (let z : ◌≡◌ {A = ℕ} 0 1 = cc in omega arith)

    pub walks_broken : (why : Fault) → Here ≡ Err why → WholeTrack f at end false
    walks_broken why is = wrong false refl (λ ts t. follow (moves t place (there running place ts t)))
      where
        follow : (Here ≡ Ok (step.End end)) ⊎ ((ticks : ℕ) × (e : Event) × (status : ℕ) × (mid : ℕ) × Onward running place ticks e status mid) → ⊥
        follow (inl over) = let z : ◌≡◌ {A = ℕ} 0 1 = cc in omega arith
        follow (inr (ticks, e, status, mid, o)) = let read = o.is in let z : ◌≡◌ {A = ℕ} 0 1 = cc in omega arith

-- ---- the chunk at a place
module _ (f : List ℕ) (at : ℕ) where
  abbrev pub full : ℕ
  full = at + 8 + four_at f (at + 4)

  pub no_chunk : length f < full → ChunkEnd f at 0
  no_chunk h = record { told = λ z. absurd (omega arith); taken = λ ts end e room t. absurd (omega arith) }

  module _ (end : ℕ) (is : end ≡ full) (b : Bool) (w : WholeTrack f (at + 8) end b) where
    pub a_chunk : end ≤ length f → b ≡ true → ChunkEnd f at end
    a_chunk room e = record {
      told = λ z. let t = w.told e in (is, room, t.0, t.1);
      taken = λ ts n e' r t. is ∙ sym e';
    }

    pub a_broken : b ≡ false → ChunkEnd f at 0
    a_broken e = record {
      told = λ z. absurd (omega arith);
      taken = λ ts n e' r t.
          let k = w.taken ts (subst (λ (m : ℕ). TrackStands f (at + 8) m ts) (e' ∙ sym is) t) in
          absurd (let z : ◌≡◌ {A = ℕ} 0 1 = cc in omega arith);
    }

-- ---- written out it has no more than twice its bytes
module _ (f : List ℕ) where
  pub sized_of : {running : ℕ} {bytes : List ℕ} {ts : List Timed} → Track running bytes ts → TrackSized running bytes ts (2 * length bytes)
  sized_of (ended {delta = delta} {size = size} body q r) =
      sized_ended {k = 2 * length (delta ++ (0xFF ∷ 0x2F ∷ (size ++ body)))} body q r
      (omega (arith, some_bytes f 0 q, some_bytes f 0 r, length-append delta (0xFF ∷ 0x2F ∷ (size ++ body)), length-append size body))
  sized_of (then {running = running} {ticks = ticks} {delta = delta} {event = event} {rest = rest} {e = e} {ts = ts} q o more) =
      let some = some_bytes f 0 q in
      let d = (told_of o).some in
      let n : 2 * (length delta + length event) + 2 * length rest ≡ 2 * length (delta ++ (event ++ rest)) = omega (arith, length-append delta (event ++ rest), length-append event rest) in
      subst (TrackSized running (delta ++ (event ++ rest)) (record { delta = ticks; event = e } ∷ ts)) n
      (sized_then {k = 2 * (length delta + length event)} {j = 2 * length rest} q o (λ _. omega arith) (omega arith) (sized_of more))

pub track_of : {running : ℕ} {bytes : List ℕ} {ts : List Timed} {k : ℕ} → TrackSized running bytes ts k → Track running bytes ts
track_of (sized_ended body q r fits) = ended body q r
track_of (sized_then q o told fits more) = then q o (track_of more)

pub some_sized : {running : ℕ} {bytes : List ℕ} {ts : List Timed} {k : ℕ} → TrackSized running bytes ts k → 0 < length bytes
some_sized s = some_track [] 0 (track_of s)

-- ---- one without events
pub not_started : (out : List ℕ) → length out < 29 → Started out 0
not_started out h = record {
  within = omega arith;
  some = λ z. absurd (omega arith);
  empty = λ z. absurd (omega arith);
  long = omega arith;
  room = λ r. absurd (omega arith);
}

pub started : (l out : List ℕ) (r : ℕ) → 29 ≤ length l → r ≡ 22 + length (end_bytes 0) → out ≡ sets l 22 (end_bytes 0) → Started out r
unfolding delta_bytes
started l out r room er eo =
    let kept = sets_long l (end_bytes 0) 22 eo in
    let there : From out 22 (end_bytes 0) r = subst (λ (x : List ℕ). From x 22 (end_bytes 0) r) (sym eo) (subst (From (sets l 22 (end_bytes 0)) 22 (end_bytes 0)) (sym er) (from_sets (end_bytes 0) l 22 (omega arith))) in
    record {
      within = omega arith;
      some = λ _. omega arith;
      empty = λ _. subst (λ (b : List ℕ). TrackSized 0 b [] 4) (sym (bytes_are out (end_bytes 0) 22 r there)) (sized_ended {k = 4} {delta = 0 ∷ []} {size = 0 ∷ []} [] (last {b = 0} (omega arith)) (last {b = 0} (omega arith)) (omega arith));
      long = omega arith;
      room = λ _. omega arith;
    }

-- ---- in the place of the first of two
module _ (before : List ℕ) (a_end : ℕ) (f : List ℕ) (at end spare : ℕ) where
  no_growth : (out : List ℕ) → ((ts us : List Timed) (j k : ℕ) → Held before 0 22 a_end ts j → Held f 0 at end us k → j + k + 5 ≤ spare → 22 + j + k ≤ length out → ⊥) → Grown before a_end f at end spare out 0
  no_growth out h = record {
    within = omega arith;
    some = λ z. absurd (omega arith);
    merged = λ ts us j k hx hy z. absurd (omega arith);
    long = λ ts us j k hx hy. omega arith;
    room = λ ts us j k hx hy r s. absurd (h ts us j k hx hy r s);
  }

  pub none_before : (out : List ℕ) → a_end ≡ 0 → Grown before a_end f at end spare out 0
  none_before out e = no_growth out (λ ts us j k hx hy r s. omega (arith, some_sized hx, bytes_long before (a_end - 22) 22))

  module _ (lent : List ℕ) (size : ℕ) (j : Joined before a_end f at end lent size) (kept : length lent ≡ spare) where
    pub no_join : (out : List ℕ) → size ≡ 0 → Grown before a_end f at end spare out 0
    no_join out e = no_growth out (λ ts us m k hx hy r s. omega (arith, j.room ts us m k hx hy (omega arith)))

    pub no_place : (out : List ℕ) → length out < 22 + size → Grown before a_end f at end spare out 0
    no_place out h = no_growth out (λ ts us m k hx hy r s. omega (arith, j.long ts us m k hx hy))

    pub grows : (out : List ℕ) → 0 < size → 0 < a_end → 22 + size ≤ length before → out ≡ sets before 22 (bytes_at size lent 0) → Grown before a_end f at end spare out (22 + size)
    grows out some first room eo =
        let long = bytes_long lent size 0 in
        let same = sets_long before (bytes_at size lent 0) 22 eo in
        let end_is : 22 + length (bytes_at size lent 0) ≡ 22 + size = omega arith in
        let there : From out 22 (bytes_at size lent 0) (22 + size) = subst (λ (x : List ℕ). From x 22 (bytes_at size lent 0) (22 + size)) (sym eo) (subst (From (sets before 22 (bytes_at size lent 0)) 22 (bytes_at size lent 0)) end_is (from_sets (bytes_at size lent 0) before 22 (omega arith))) in
        let bytes = bytes_are out (bytes_at size lent 0) 22 (22 + size) there in
        let none : size - 0 ≡ size = omega arith in
        record {
          within = omega arith;
          some = λ _. (omega arith, first);
          merged = λ ts us m k hx hy z.
              subst (λ (b : List ℕ). TrackSized 0 b (merged_of ts us) (m + k)) (ap (λ (n : ℕ). bytes_at n lent 0) none ∙ sym bytes) (j.merged ts us m k hx hy some);
          long = λ ts us m k hx hy. omega (arith, j.long ts us m k hx hy);
          room = λ ts us m k hx hy r s. omega arith;
        }
