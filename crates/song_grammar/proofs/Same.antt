-- Files with the same bytes up to a fault are told the same fault. Assumes nothing.
use Rattle.std.specs.Prelude.{Option, Some, None, Result, Ok, Err}
use mathlib.Core.Path.{◌≡◌, refl, sym, ap, ◌∙◌, subst}
use mathlib.Core.Bool.{Bool, true, false, cond, not}
use mathlib.Core.List.{List}
use mathlib.Core.Logic.{inl, inr}
use Prim.Native.Nat.{ℕ, zero, suc, ◌+◌, ◌-◌, ◌*◌, ◌≤◌, ◌<◌, min}
use native.Mathlib.Omega.{arith}
use lib.Dec.{ltb, leb, eqb}
use lib.ListN.{length, take, length-take}
use lib.Seq.{take_all, get_or-take}
use borrow.Author.Tests.{ltb-true, ltb-false, lt-ltb, le-ltb, lt-leb}
use Rattle.octets.specs.Octets.{byte_at}
use Rattle.smf.specs.Faults.{fault_at}
use Rattle.smf.specs.Fields.{two_at, four_at}
use Rattle.smf.specs.Events.{step_at}
use Rattle.smf.specs.Files.{Events, header_type, track_type, up_to, unless, fields_of, header_of, chunk_at, track_from, track_at, no_second, rest_at, behind_track, events_on, events_from, track_of, events_in, events_of}
use Rattle.smf.specs.Files.Events.{over}
use Rattle.smf.specs.Times.{first_tempo, frame_at}
use Rattle.smf.specs.Cues.{Entry, Song, event_entries, empty_with, entries_first, tempo_after, too_late, song_from, song_in, song_of}
use Rattle.smf.specs.declared.faults.Reason.{Reason}
use Rattle.smf.specs.declared.faults.Reason.TheVariants.{Missing, NoHeader, ShortHeader, OtherFormat, OtherTrackCount, SmpteDivision, NoDivision, SecondHeader, BehindEndOfTrack, LateFrame}
use Rattle.smf.specs.declared.faults.Fault.{Fault}
use Rattle.smf.specs.declared.events.Step.{Step}
use Rattle.smf.specs.declared.events.Step.TheVariants as step
use Rattle.smf.proofs.Inside.{both, step-ends}
use Rattle.song_grammar.proofs.Segments.{from_length}
use Rattle.song_grammar.proofs.Wholes.{Octets}
use Rattle.song_grammar.proofs.Shown.{Running}
use Rattle.song_grammar.proofs.Tracks.{tracked, Breaks, broken_track, Steps, steps}
use Rattle.song_grammar.proofs.Chunks.{Searched, search, Opens, opens}
use Rattle.song_grammar.proofs.Alike.{same_cond, InStep, same_step}

module _ (k : ℕ) where
  abbrev InOpening : Result (ℕ × ℕ) Fault → Type 0
  InOpening (Ok (division, next)) = next ≤ suc k
  InOpening (Err why) = why.at ≤ k

  abbrev InFound : ℕ → Result (Option ℕ) Fault → Type 0
  InFound size (Ok (Some place)) = place + 4 ≤ suc k
  InFound size (Ok None) = size ≤ k
  InFound size (Err why) = why.at ≤ k

pub fault_is : {v w : Fault} → ◌≡◌ {A = Result (Unit {0}) Fault} (Err v) (Err w) → v ≡ w
fault_is e = cc

carried : (why : Fault) (b : Bool) (v : Result (Unit {0}) Fault) (es : List Entry) (y y' : Song) → (y.verdict ≡ Err why → y'.verdict ≡ Err why)
    → (cond b (empty_with v) (entries_first es y)).verdict ≡ Err why → (cond b (empty_with v) (entries_first es y')).verdict ≡ Err why
carried why true v es y y' more e = e
carried why false v es y y' more e = more e

module _ (k : ℕ) (f g : List ℕ) (same : (i : ℕ) → i ≤ k → byte_at g i ≡ byte_at f i) (long : k < length f) (long' : k < length g) where
  same_two : (at : ℕ) → at + 2 ≤ suc k → two_at g at ≡ two_at f at
  unfolding two_at
  same_two at h = rw (same at (omega arith), same (at + 1) (omega arith))

  same_four : (at : ℕ) → at + 4 ≤ suc k → four_at g at ≡ four_at f at
  unfolding four_at
  same_four at h = rw (same at (omega arith), same (at + 1) (omega arith), same (at + 2) (omega arith), same (at + 3) (omega arith))

  -- a field that ends before a place: both files have it
  has_both : {A : Type 0} (P : A → Type 0) (x : ℕ) (short short' o o' : A) → (P short → length f ≤ k) → (x ≤ length f → P o → x ≤ suc k) → (x ≤ length f → P o → o' ≡ o)
      → P (cond (ltb (length f) x) short o) → cond (ltb (length g) x) short' o' ≡ cond (ltb (length f) x) short o
  has_both P x short short' o o' missing reach is = go (ltb (length f) x) refl
    where
      go : (b : Bool) → ltb (length f) x ≡ b → P (cond b short o) → cond (ltb (length g) x) short' o' ≡ cond b short o
      go true e h = absurd (omega (arith, missing h))
      go false e h =
          let up = ltb-false (length f) x e in
          rw (le-ltb (length g) x (omega (arith, reach up h))) (is up h)

  -- ---- the header: what is read from a place on, if it is read by k, reaches that place, and is the same
  Stage : ℕ → Result (ℕ × ℕ) Fault → Result (ℕ × ℕ) Fault → Type 0
  Stage y o o' = (InOpening k o → y ≤ suc k) × (InOpening k o → o' ≡ o)

  stage_up_to : (y x : ℕ) (o o' : Result (ℕ × ℕ) Fault) → y ≤ x → Stage x o o' → Stage y (up_to f x o) (up_to g x o')
  unfolding Stage
  stage_up_to y x o o' less s = (
    both (λ (r : Result (ℕ × ℕ) Fault). InOpening k r → y ≤ suc k) (ltb (length f) x) _ _ (λ _ h. absurd (omega arith)) (λ _ h. omega (arith, s.0 h)),
    has_both (InOpening k) x _ _ o o' (λ h. h) (λ _. s.0) (λ _. s.1),
  )

  stage_unless : (y : ℕ) (b b' : Bool) (why : Reason) (at : ℕ) (o o' : Result (ℕ × ℕ) Fault) → y ≤ suc at → (y ≤ suc k → b' ≡ b) → (b ≡ false → Stage y o o')
      → Stage y (unless b why at o) (unless b' why at o')
  unfolding Stage
  stage_unless y b b' why at o o' less test s =
      let reach = both (λ (r : Result (ℕ × ℕ) Fault). InOpening k r → y ≤ suc k) b (Err (fault_at why at)) o (λ _ h. omega arith) (λ e h. (s e).0 h) in
      (reach, λ h. same_cond (InOpening k) b b' _ _ _ _ (test (reach h)) h (λ _ _. refl) (λ e h'. (s e).1 h'))

  stage_fields : (size : ℕ) → 6 ≤ size → Stage 8 (fields_of f size) (fields_of g size)
  unfolding fields_of Stage
  stage_fields size six =
      stage_up_to 8 10 _ _ (omega arith)
      (stage_unless 10 _ _ OtherFormat 9 _ _ (omega arith) (λ r. ap (λ (n : ℕ). not (eqb n 0)) (same_two 8 r))
      (λ _. stage_up_to 10 12 _ _ (omega arith)
      (stage_unless 12 _ _ OtherTrackCount 11 _ _ (omega arith) (λ r. ap (λ (n : ℕ). not (eqb n 1)) (same_two 10 r))
      (λ _. stage_up_to 12 14 _ _ (omega arith)
      (stage_unless 14 _ _ SmpteDivision 13 _ _ (omega arith) (λ r. ap (λ (n : ℕ). leb 0x8000 n) (same_two 12 r))
      (λ _. stage_unless 14 _ _ NoDivision 13 _ _ (omega arith) (λ r. ap (λ (n : ℕ). eqb n 0) (same_two 12 r))
      (λ _. stage_up_to 14 (8 + size) _ _ (omega arith)
      (λ h. h, λ h. ap (λ (n : ℕ). Ok (n, 8 + size)) (same_two 12 (omega arith))))))))))

  stage_header : Stage 0 (header_of f) (header_of g)
  unfolding header_of Stage
  stage_header =
      stage_up_to 0 4 _ _ (omega arith)
      (stage_unless 4 _ _ NoHeader 3 _ _ (omega arith) (λ r. ap (λ (n : ℕ). not (eqb n header_type)) (same_four 0 r))
      (λ _. stage_up_to 4 8 _ _ (omega arith)
      (stage_unless 8 _ _ ShortHeader 7 _ _ (omega arith) (λ r. ap (λ (n : ℕ). ltb n 6) (same_four 4 r))
      (λ e.
      let s = stage_fields (four_at f 4) (ltb-false (four_at f 4) 6 e) in
      (s.0, λ h. ap (fields_of g) (same_four 4 (s.0 h)) ∙ s.1 h)))))

  -- ---- chunks
  module _ (octets : Octets f) where
    reach_search : (at : ℕ) → at ≤ length f → (r : Result (Option ℕ) Fault) → Searched f octets at r → InFound k (length f) r → at ≤ k
    reach_search at room (Ok (Some place)) (s, type, inside) h = omega (arith, from_length f at s.bytes place s.there)
    reach_search at room (Ok None) s h = omega arith
    reach_search at room (Err why) s h = omega (arith, from_length f at s.spelt.bytes s.start s.spelt.there, s.low)

    -- the chunk behind one that is passed
    module _ (n at : ℕ) (fuel : length f - at ≤ suc n) where
      abbrev behind : ℕ
      behind = at + 8 + four_at f (at + 4)

      abbrev P : Result (Option ℕ) Fault → Type 0
      P = InFound k (length f)

      reach_behind : behind ≤ length f → P (track_from n f behind) → behind ≤ k
      reach_behind up h = reach_search behind up (track_from n f behind) (search f octets n behind up (omega arith)) h

      reach_eight : P (cond (ltb (length f) behind) (Err (fault_at Missing (length f))) (track_from n f behind)) → at + 8 ≤ suc k
      reach_eight = both (λ (r : Result (Option ℕ) Fault). P r → at + 8 ≤ suc k) (ltb (length f) behind) _ _ (λ _ h. absurd (omega arith)) (λ e h. omega (arith, reach_behind (ltb-false (length f) behind e) h))

      reach_four : P (cond (eqb (four_at f at) header_type) (Err (fault_at SecondHeader (at + 3)))
          (cond (eqb (four_at f at) track_type) (Ok (Some at))
          (cond (ltb (length f) (at + 8)) (Err (fault_at Missing (length f)))
          (cond (ltb (length f) behind) (Err (fault_at Missing (length f))) (track_from n f behind))))) → at + 4 ≤ suc k
      reach_four =
          both (λ (r : Result (Option ℕ) Fault). P r → at + 4 ≤ suc k) (eqb (four_at f at) header_type) _ _ (λ _ h. omega arith)
          (λ _. both (λ (r : Result (Option ℕ) Fault). P r → at + 4 ≤ suc k) (eqb (four_at f at) track_type) _ _ (λ _ h. h)
          (λ _. both (λ (r : Result (Option ℕ) Fault). P r → at + 4 ≤ suc k) (ltb (length f) (at + 8)) _ _ (λ _ h. absurd (omega arith)) (λ _ h. omega (arith, reach_eight h))))

    same_search : (n n' at : ℕ) → at ≤ length f → length f - at ≤ n → length g - at ≤ n' → InFound k (length f) (track_from n f at) → track_from n' g at ≡ track_from n f at
    unfolding track_from chunk_at
    same_search zero n' at room fuel fuel' h = absurd (omega arith)
    same_search (suc n) zero at room fuel fuel' h =
        absurd (omega (arith, reach_search at room (track_from (suc n) f at) (search f octets (suc n) at room fuel) h))
    same_search (suc n) (suc n') at room fuel fuel' h =
        let low = reach_search at room (track_from (suc n) f at) (search f octets (suc n) at room fuel) h in
        let here : at < length f = omega arith in
        let here' : at < length g = omega arith in
        same_cond (InFound k (length f)) (leb (length f) at) (leb (length g) at) _ _ _ _ (lt-leb (length g) at here' ∙ sym (lt-leb (length f) at here)) h (λ _ _. refl)
        (λ _ h₁. has_both (InFound k (length f)) (at + 4) _ _ _ _ (λ z. z) (λ _. reach_four n at fuel)
        (λ _ h₂. rw (same_four at (reach_four n at fuel h₂))
        (same_cond (InFound k (length f)) (eqb (four_at f at) header_type) (eqb (four_at f at) header_type) _ _ _ _ refl h₂ (λ _ _. refl)
        (λ _ h₃. same_cond (InFound k (length f)) (eqb (four_at f at) track_type) (eqb (four_at f at) track_type) _ _ _ _ refl h₃ (λ _ _. refl)
        (λ _ h₄. has_both (InFound k (length f)) (at + 8) _ _ _ _ (λ z. z) (λ _. reach_eight n at fuel)
        (λ _ h₅. rw (same_four (at + 4) (omega (arith, reach_eight n at fuel h₅)))
        (has_both (InFound k (length f)) (behind n at fuel) _ _ _ _ (λ z. z) (λ up h₆. omega (arith, reach_behind n at fuel up h₆))
        (λ up h₆. same_search n n' (behind n at fuel) up (omega arith) (omega arith) h₆) h₅)) h₄))))
        h₁)

    -- behind a track
    rest_low : (at : ℕ) → at ≤ length f → (why : Fault) → rest_at f at ≡ Err why → at ≤ why.at
    unfolding rest_at track_at
    rest_low at room why = go (track_from (length f) f at) (search f octets (length f) at room (omega arith))
      where
        go : (r : Result (Option ℕ) Fault) → Searched f octets at r → no_second r ≡ Err why → at ≤ why.at
        go (Ok (Some place)) (s, type, inside) e = omega (arith, from_length f at s.bytes place s.there, ap (λ (w : Fault). w.at) (fault_is e))
        go (Ok None) s e = let z : ◌≡◌ {A = ℕ} 0 1 = cc in absurd (omega arith)
        go (Err w) s e = omega (arith, from_length f at s.spelt.bytes s.start s.spelt.there, s.low, ap (λ (w : Fault). w.at) (fault_is e))

    same_rest : (at : ℕ) → at ≤ length f → (why : Fault) → why.at ≤ k → rest_at f at ≡ Err why → (at ≤ k) × (rest_at g at ≡ Err why)
    unfolding rest_at track_at
    same_rest at room why by = go (track_from (length f) f at) refl (search f octets (length f) at room (omega arith))
      where
        told : (r : Result (Option ℕ) Fault) → track_from (length f) f at ≡ r → Searched f octets at r → InFound k (length f) r → no_second r ≡ Err why
            → (at ≤ k) × (no_second (track_from (length g) g at) ≡ Err why)
        told r is s h e = (
          reach_search at room r s h,
          ap no_second (same_search (length f) (length g) at room (omega arith) (omega arith) (subst (InFound k (length f)) (sym is) h) ∙ is) ∙ e,
        )

        go : (r : Result (Option ℕ) Fault) → track_from (length f) f at ≡ r → Searched f octets at r → no_second r ≡ Err why → (at ≤ k) × (no_second (track_from (length g) g at) ≡ Err why)
        go (Ok (Some place)) is s e = told (Ok (Some place)) is s (let p = ap (λ (w : Fault). w.at) (fault_is e) in omega arith) e
        go (Ok None) is s e = let z : ◌≡◌ {A = ℕ} 0 1 = cc in absurd (omega arith)
        go (Err w) is s e = told (Err w) is s (let p = ap (λ (w : Fault). w.at) (fault_is e) in omega arith) e

    same_behind : (full next : ℕ) → next ≤ min full (length f) → (why : Fault) → why.at ≤ k → behind_track f full next ≡ Err why
        → (next ≤ k) × (behind_track g full next ≡ Err why)
    unfolding behind_track
    same_behind full next room why by = go (ltb next (min full (length f))) refl (ltb (length f) full) refl
      where
        go : (a : Bool) → ltb next (min full (length f)) ≡ a → (b : Bool) → ltb (length f) full ≡ b
            → cond a (Err (fault_at BehindEndOfTrack next)) (cond b (Err (fault_at Missing (length f))) (rest_at f full)) ≡ Err why
            → (next ≤ k) × (behind_track g full next ≡ Err why)
        go true ea b eb e =
            let l = ltb-true next (min full (length f)) ea in
            let p = ap (λ (w : Fault). w.at) (fault_is e) in
            let there : next < min full (length g) = omega arith in
            (omega arith, rw (lt-ltb next (min full (length g)) there) e)
        go false ea true eb e = let p = ap (λ (w : Fault). w.at) (fault_is e) in absurd (omega arith)
        go false ea false eb e =
            let l = ltb-false next (min full (length f)) ea in
            let whole = ltb-false (length f) full eb in
            let r = same_rest full whole why by e in
            let low = r.0 in
            let past : min full (length g) ≤ next = omega arith in
            let whole' : full ≤ length g = omega arith in
            (omega arith, rw (le-ltb next (min full (length g)) past, le-ltb (length g) full whole') r.1)

    -- ---- the track
    module _ (rate division full : ℕ) where
      -- a fault from a place on lies there or behind it
      track_reach : (n running at tempo sum : ℕ) → Running running → at ≤ min full (length f) → (why : Fault) → why.at ≤ k
          → (song_from rate division tempo sum (events_from n f full running at)).verdict ≡ Err why → at ≤ why.at
      track_reach n running at tempo sum r room why by e =
          go (broken_track f full rate division tempo sum running at (events_from n f full running at) (tracked f full n running at r room) why e)
        where
          go : Breaks f full running at why → at ≤ why.at
          go (inl (c, inside, plain)) = omega (arith, from_length f at c.bytes why.at c.there)
          go (inr c) = omega (arith, from_length f at c.spelt.bytes full c.spelt.there, rest_low full c.inside why c.behind)

      alike : min (suc k) (min full (length g)) ≡ min (suc k) (min full (length f))
      alike = omega arith

      same_track : (n n' running at tempo sum : ℕ) → Running running → at ≤ min full (length f) → min full (length f) - at < n → min full (length g) - at < n'
          → (why : Fault) → why.at ≡ k → (song_from rate division tempo sum (events_from n f full running at)).verdict ≡ Err why
          → (song_from rate division tempo sum (events_from n' g full running at)).verdict ≡ Err why
      unfolding events_from events_on song_from
      same_track zero n' running at tempo sum r room fuel fuel' why is = λ e. absurd (omega arith)
      same_track (suc n) zero running at tempo sum r room fuel fuel' why is = λ e. absurd (omega arith)
      same_track (suc n) (suc n') running at tempo sum r room fuel fuel' why is =
          go (step_at f (min full (length f)) running at) refl (steps f (min full (length f)) running at r room)
          (λ status next tempo' sum' r' up less low. same_track n n' status next tempo' sum' r' up (omega arith) (omega arith) why is)
        where
          there : (s : Result Step Fault) → step_at f (min full (length f)) running at ≡ s → InStep k s → step_at g (min full (length g)) running at ≡ s
          there s e h = same_step k f g same (min full (length f)) (min full (length g)) alike running at (subst (InStep k) (sym e) h) ∙ e

          go : (s : Result Step Fault) → step_at f (min full (length f)) running at ≡ s → Steps f (min full (length f)) running at s
              → ((status next tempo' sum' : ℕ) → Running status → next ≤ min full (length f) → at < next → next ≤ suc k
              → (song_from rate division tempo' sum' (events_from n f full status next)).verdict ≡ Err why
              → (song_from rate division tempo' sum' (events_from n' g full status next)).verdict ≡ Err why)
              → (song_from rate division tempo sum (events_on f full (events_from n f full) s)).verdict ≡ Err why
              → (song_from rate division tempo sum (events_on g full (events_from n' g full) (step_at g (min full (length g)) running at))).verdict ≡ Err why
          go (Err w) at_step s more e = rw (there (Err w) at_step (let p = ap (λ (w : Fault). w.at) (fault_is e) in omega arith)) e
          go (Ok (step.End next)) at_step s more e =
              let b = same_behind full next (step-ends f (min full (length f)) running at (Ok (step.End next)) at_step).1 why (omega arith) e in
              let low = b.0 in
              rw (there (Ok (step.End next)) at_step (omega arith)) b.1
          go (Ok (step.Is d m status next)) at_step s more e =
              let ends = step-ends f (min full (length f)) running at (Ok (step.Is d m status next)) at_step in
              let up = ends.1 in
              let less = ends.0 in
              let frame = frame_at rate division (sum + d * tempo) in
              let low : next ≤ suc k =
              both (λ (song : Song). song.verdict ≡ Err why → next ≤ suc k) (too_late frame m) _ _
              (λ _ e'. let p = ap (λ (w : Fault). w.at) (fault_is e') in omega arith)
              (λ _ e'. omega (arith, track_reach n status next (tempo_after tempo m) (sum + d * tempo) s.0 up why (omega arith) e'))
              e in
              rw (there (Ok (step.Is d m status next)) at_step low)
              (carried why (too_late frame m) (Err (fault_at LateFrame (next - 1))) (event_entries frame m)
              (song_from rate division (tempo_after tempo m) (sum + d * tempo) (events_from n f full status next))
              (song_from rate division (tempo_after tempo m) (sum + d * tempo) (events_from n' g full status next))
              (more status next (tempo_after tempo m) (sum + d * tempo) s.0 up less low) e)

    -- ---- the file from behind its header on
    module _ (rate division : ℕ) (why : Fault) (is : why.at ≡ k) where
      abbrev Breaking : List ℕ → Events → Type 0
      Breaking l es = (song_from rate division first_tempo 0 es).verdict ≡ Err why

      track_told : (place : ℕ) → place + 4 ≤ length f → Breaking f (track_of f place) → (place + 8 ≤ k) × Breaking g (track_of g place)
      unfolding track_of song_from
      track_told place room = go (ltb (length f) (place + 8)) refl
        where
          full : ℕ
          full = place + 8 + four_at f (place + 4)

          go : (b : Bool) → ltb (length f) (place + 8) ≡ b
              → Breaking f (cond b (over (Err (fault_at Missing (length f)))) (events_from (length f) f (place + 8 + four_at f (place + 4)) 0 (place + 8)))
              → (place + 8 ≤ k) × Breaking g (track_of g place)
          go true b e = let p = ap (λ (w : Fault). w.at) (fault_is e) in absurd (omega arith)
          go false b e =
              let eight = ltb-false (length f) (place + 8) b in
              let low : place + 8 ≤ k = omega (arith, track_reach rate division (place + 8 + four_at f (place + 4)) (length f) 0 (place + 8) first_tempo 0 (inl refl) (omega arith) why (omega arith) e) in
              let eight' : place + 8 ≤ length g = omega arith in (
                low,
                rw (le-ltb (length g) (place + 8) eight', same_four (place + 4) (omega arith))
                    (same_track rate division (place + 8 + four_at f (place + 4)) (length f) (length g) 0 (place + 8) first_tempo 0 (inl refl) (omega arith) (omega arith) (omega arith) why is e),
              )

      pub events_told : (next : ℕ) → next ≤ length f → Breaking f (events_of f next) → (next ≤ k) × Breaking g (events_of g next)
      unfolding events_of track_at song_from
      events_told next room = go (track_from (length f) f next) refl (search f octets (length f) next room (omega arith))
        where
          same_found : (r : Result (Option ℕ) Fault) → track_from (length f) f next ≡ r → InFound k (length f) r → track_from (length g) g next ≡ r
          same_found r e h = same_search (length f) (length g) next room (omega arith) (omega arith) (subst (InFound k (length f)) (sym e) h) ∙ e

          go : (r : Result (Option ℕ) Fault) → track_from (length f) f next ≡ r → Searched f octets next r → Breaking f (events_in f r)
              → (next ≤ k) × Breaking g (events_in g (track_from (length g) g next))
          go (Ok (Some place)) at_place s e =
              let t = track_told place s.2 e in
              let low = t.0 in
              let reads : InFound k (length f) (Ok (Some place)) = omega arith in
              (reach_search next room (Ok (Some place)) s reads, rw (same_found (Ok (Some place)) at_place reads) t.1)
          go (Ok None) at-end s e = let p = ap (λ (w : Fault). w.at) (fault_is e) in absurd (omega arith)
          go (Err w) at_fault s e =
              let p = ap (λ (w : Fault). w.at) (fault_is e) in
              let reads : InFound k (length f) (Err w) = omega arith in
              (reach_search next room (Err w) s reads, rw (same_found (Err w) at_fault reads) e)

    song_told : (rate : ℕ) (why : Fault) → why.at ≡ k → (song_of rate f).verdict ≡ Err why → (song_of rate g).verdict ≡ Err why
    unfolding song_of Stage
    song_told rate why is = go (header_of f) refl (opens f octets)
      where
        same_header : (o : Result (ℕ × ℕ) Fault) → header_of f ≡ o → InOpening k o → header_of g ≡ o
        same_header o e h = stage_header.1 (subst (InOpening k) (sym e) h) ∙ e

        go : (o : Result (ℕ × ℕ) Fault) → header_of f ≡ o → Opens f octets o → (song_in rate f o).verdict ≡ Err why → (song_in rate g (header_of g)).verdict ≡ Err why
        go (Err w) there s e =
            let p = ap (λ (w : Fault). w.at) (fault_is e) in
            rw (same_header (Err w) there (omega arith)) e
        go (Ok (division, next)) there s e =
            let t = events_told rate division why is next s.1 e in
            let low = t.0 in
            rw (same_header (Ok (division, next)) there (omega arith)) t.1

-- ---- a file that ends at the fault, or before it, is the same file
pub same_fault : (rate : ℕ) (f g : List ℕ) → Octets f → (why : Fault) → (song_of rate f).verdict ≡ Err why → take (suc why.at) g ≡ take (suc why.at) f
    → (song_of rate g).verdict ≡ Err why
same_fault rate f g octets why e same = go (ltb why.at (length f)) refl
  where
    sizes : min (suc why.at) (length g) ≡ min (suc why.at) (length f)
    sizes = sym (length-take (suc why.at) g) ∙ ap length same ∙ length-take (suc why.at) f

    bytes : (i : ℕ) → i ≤ why.at → byte_at g i ≡ byte_at f i
    bytes i h =
        let less : i < suc why.at = omega arith in
        sym (get_or-take (suc why.at) g i 0 less) ∙ ap (λ (l : List ℕ). byte_at l i) same ∙ get_or-take (suc why.at) f i 0 less

    go : (b : Bool) → ltb why.at (length f) ≡ b → (song_of rate g).verdict ≡ Err why
    go true b = let inside = ltb-true why.at (length f) b in song_told why.at f g bytes inside (let s = sizes in omega arith) octets rate why refl e
    go false b =
        let short = ltb-false why.at (length f) b in
        let s = sizes in
        let is : g ≡ f = sym (take_all (suc why.at) g (omega arith)) ∙ same ∙ take_all (suc why.at) f (omega arith) in
        ap (λ (l : List ℕ). (song_of rate l).verdict) is ∙ e
