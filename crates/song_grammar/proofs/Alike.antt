-- Files with the same bytes up to a place are read alike up to it: events. Assumes nothing.
use Rattle.std.specs.Prelude.{Result, Ok, Err}
use mathlib.Core.Path.{◌≡◌, refl, ap}
use mathlib.Core.Bool.{Bool, true, false, cond, ◌||◌}
use mathlib.Core.List.{List}
use Prim.Native.Nat.{ℕ, zero, suc, ◌+◌, ◌-◌, ◌*◌, ◌≤◌, min}
use native.Mathlib.Omega.{arith}
use lib.Dec.{ltb, leb, eqb}
use borrow.Author.Tests.{ltb-true, ltb-false, leb-true, lt-ltb, le-ltb, le-leb}
use Rattle.octets.specs.Octets.{byte_at}
use Rattle.smf.specs.Faults.{fault_at}
use Rattle.smf.specs.Fields.{three_at, quantity_from, quantity_at}
use Rattle.smf.specs.Events.{data_at, is_one_byte, message_of, with_data, channel_event, past, with_quantity, sysex_at, tempo_of, meta_of, meta_at, status_of, event_at, step_timed, with_delta, step_at}
use Rattle.smf.specs.declared.faults.Reason.TheVariants.{Missing, NoMetaType}
use Rattle.smf.specs.declared.events.Event.TheVariants.{Tempo, Other}
use Rattle.smf.specs.declared.events.Read.{Read}
use Rattle.smf.specs.declared.events.Read.TheVariants.{Is, End}
use Rattle.smf.specs.declared.events.Step.{Step}
use Rattle.smf.specs.declared.events.Step.TheVariants as step
use Rattle.smf.proofs.Inside.{both, quantity_ends}
use Rattle.smf.specs.declared.faults.Fault.{Fault}

-- a test that comes out alike, and what follows from it
pub same_cond : {A : Type 0} (P : A → Type 0) (b b' : Bool) (x y x' y' : A) → b' ≡ b → P (cond b x y) → (b ≡ true → P x → x' ≡ x) → (b ≡ false → P y → y' ≡ y)
    → cond b' x' y' ≡ cond b x y
same_cond P true b' x y x' y' e h k l = rw e (k refl h)
same_cond P false b' x y x' y' e h k l = rw e (l refl h)

-- ends that are the same up to a place
pub test : (k end end' : ℕ) → min (suc k) end' ≡ min (suc k) end → (i : ℕ) → i ≤ k → ltb i end' ≡ ltb i end
test k end end' alike i h = go (ltb i end) refl
  where
    go : (b : Bool) → ltb i end ≡ b → ltb i end' ≡ b
    go true e = lt-ltb i end' (let l = ltb-true i end e in omega arith)
    go false e = le-ltb i end' (let l = ltb-false i end e in omega arith)

-- what is read by the place k
module _ (k : ℕ) where
  abbrev pub InQuantity : Result (ℕ × ℕ) Fault → Type 0
  InQuantity (Ok (n, next)) = next ≤ suc k
  InQuantity (Err why) = why.at ≤ k

  abbrev pub InRead : Result Read Fault → Type 0
  InRead (Ok (Is e s next)) = next ≤ suc k
  InRead (Ok (End next)) = next ≤ suc k
  InRead (Err why) = why.at ≤ k

  abbrev pub InStep : Result Step Fault → Type 0
  InStep (Ok (step.Is d e s next)) = next ≤ suc k
  InStep (Ok (step.End next)) = next ≤ suc k
  InStep (Err why) = why.at ≤ k

module _ (k : ℕ) (f g : List ℕ) (same : (i : ℕ) → i ≤ k → byte_at g i ≡ byte_at f i) (end end' : ℕ) (alike : min (suc k) end' ≡ min (suc k) end) where
  -- ---- quantities
  reach_quantity : (n v at : ℕ) → InQuantity k (quantity_from n f end v at) → at ≤ k
  unfolding quantity_from
  reach_quantity zero v at =
      both (λ (q : Result (ℕ × ℕ) Fault). InQuantity k q → at ≤ k) (ltb at end) _ _
      (λ _. both (λ (q : Result (ℕ × ℕ) Fault). InQuantity k q → at ≤ k) (ltb (byte_at f at) 128) _ _ (λ _ h. omega arith) (λ _ h. h))
      (λ _ h. h)
  reach_quantity (suc n) v at =
      both (λ (q : Result (ℕ × ℕ) Fault). InQuantity k q → at ≤ k) (ltb at end) _ _
      (λ _. both (λ (q : Result (ℕ × ℕ) Fault). InQuantity k q → at ≤ k) (ltb (byte_at f at) 128) _ _ (λ _ h. omega arith)
      (λ _ h. omega (arith, reach_quantity n (v * 128 + (byte_at f at - 128)) (at + 1) h)))
      (λ _ h. h)

  same_quantity : (n v at : ℕ) → InQuantity k (quantity_from n f end v at) → quantity_from n g end' v at ≡ quantity_from n f end v at
  unfolding quantity_from
  same_quantity zero v at h =
      let low = reach_quantity zero v at h in
      rw (same at low) (same_cond (InQuantity k) (ltb at end) (ltb at end') _ _ _ _ (test k end end' alike at low) h (λ _ _. refl) (λ _ _. refl))
  same_quantity (suc n) v at h =
      let low = reach_quantity (suc n) v at h in
      rw (same at low)
      (same_cond (InQuantity k) (ltb at end) (ltb at end') _ _ _ _ (test k end end' alike at low) h
      (λ _ h'. same_cond (InQuantity k) (ltb (byte_at f at) 128) (ltb (byte_at f at) 128) _ _ _ _ refl h' (λ _ _. refl)
      (λ _ h''. same_quantity n (v * 128 + (byte_at f at - 128)) (at + 1) h''))
      (λ _ _. refl))

  -- ---- channel messages
  same_data : (at : ℕ) → at ≤ k → data_at g end' at ≡ data_at f end at
  unfolding data_at
  same_data at low = rw (same at low, test k end end' alike at low)

  abbrev At : ℕ → Result ℕ Fault → Type 0
  At at (Ok b) = Unit {0}
  At at (Err why) = why.at ≡ at

  data_at_lem : (at : ℕ) → At at (data_at f end at)
  unfolding data_at
  data_at_lem at = both (At at) (ltb at end) _ _ (λ _. both (At at) (ltb (byte_at f at) 128) _ _ (λ _. tt) (λ _. refl)) (λ _. refl)

  reach_second : (status at x : ℕ) (d : Result ℕ Fault) → At (at + 1) d → InRead k (with_data d (λ y. Ok (Is (message_of status x y) status (at + 2)))) → at + 1 ≤ k
  reach_second status at x (Ok y) there h = omega arith
  reach_second status at x (Err why) there h = omega arith

  reach_first : (status at : ℕ) (d : Result ℕ Fault) → At at d
      → InRead k (with_data d (λ x. cond (is_one_byte status) (Ok (Is Other status (at + 1))) (with_data (data_at f end (at + 1)) (λ y. Ok (Is (message_of status x y) status (at + 2)))))) → at ≤ k
  reach_first status at (Ok x) there =
      both (λ (r : Result Read Fault). InRead k r → at ≤ k) (is_one_byte status) _ _ (λ _ h. omega arith)
      (λ _ h. omega (arith, reach_second status at x (data_at f end (at + 1)) (data_at_lem (at + 1)) h))
  reach_first status at (Err why) there = λ h. omega arith

  reach_channel : (status at : ℕ) → InRead k (channel_event f end status at) → at ≤ k
  unfolding channel_event
  reach_channel status at h = reach_first status at (data_at f end at) (data_at_lem at) h

  same_channel : (status at : ℕ) → InRead k (channel_event f end status at) → channel_event g end' status at ≡ channel_event f end status at
  unfolding channel_event
  same_channel status at h = rw (same_data at (reach_first status at (data_at f end at) (data_at_lem at) h)) (go (data_at f end at) h)
    where
      go : (d : Result ℕ Fault) → InRead k (with_data d (λ x. cond (is_one_byte status) (Ok (Is Other status (at + 1))) (with_data (data_at f end (at + 1)) (λ y. Ok (Is (message_of status x y) status (at + 2))))))
          → with_data d (λ x. cond (is_one_byte status) (Ok (Is Other status (at + 1))) (with_data (data_at g end' (at + 1)) (λ y. Ok (Is (message_of status x y) status (at + 2)))))
          ≡ with_data d (λ x. cond (is_one_byte status) (Ok (Is Other status (at + 1))) (with_data (data_at f end (at + 1)) (λ y. Ok (Is (message_of status x y) status (at + 2)))))
      go (Ok x) h =
          same_cond (InRead k) (is_one_byte status) (is_one_byte status) _ _ _ _ refl h (λ _ _. refl)
          (λ _ h'. rw (same_data (at + 1) (reach_second status at x (data_at f end (at + 1)) (data_at_lem (at + 1)) h')))
      go (Err why) h = refl

  -- ---- what is skipped
  module _ (size mid : ℕ) (r r' : Result Read Fault) (up : mid ≤ end) (ends : InRead k r → mid + size ≤ suc k) where
    reach_past : InRead k (past end size mid r) → mid ≤ suc k
    reach_past = both (λ (r : Result Read Fault). InRead k r → mid ≤ suc k) (leb size (end - mid)) _ _ (λ _ h. omega (arith, ends h)) (λ _ h. omega arith)

    same_past : (InRead k r → r' ≡ r) → InRead k (past end size mid r) → past end' size mid r' ≡ past end size mid r
    same_past is = go (leb size (end - mid)) refl
      where
        go : (b : Bool) → leb size (end - mid) ≡ b → InRead k (cond b r (Err (fault_at Missing end))) → past end' size mid r' ≡ cond b r (Err (fault_at Missing end))
        go true e h = rw (le-leb size (end' - mid) (let l = leb-true size (end - mid) e in let n = ends h in omega arith)) (is h)
        go false e h =
            let z : end' ≡ end = omega arith in
            rw z (rw e)

  with_quantity_lem : (at : ℕ) (F G : ℕ → ℕ → Result Read Fault) → ((n mid : ℕ) → quantity_at f end at ≡ Ok (n, mid) → InRead k (F n mid) → (mid ≤ suc k) × (G n mid ≡ F n mid))
      → InRead k (with_quantity (quantity_at f end at) F) → (at ≤ k) × (with_quantity (quantity_at g end' at) G ≡ with_quantity (quantity_at f end at) F)
  with_quantity_lem at F G each h =
      let w = go (quantity_at f end at) refl h in
      (reach_quantity 3 0 at w.0, rw (same_quantity 3 0 at w.0) w.1)
    where
      go : (q : Result (ℕ × ℕ) Fault) → quantity_at f end at ≡ q → InRead k (with_quantity q F) → InQuantity k q × (with_quantity q G ≡ with_quantity q F)
      go (Ok (n, mid)) e h = each n mid e h
      go (Err why) e h = (h, refl)

  same_sysex : (at : ℕ) → InRead k (sysex_at f end at) → (at ≤ k) × (sysex_at g end' at ≡ sysex_at f end at)
  unfolding sysex_at
  same_sysex at h =
      with_quantity_lem at _ _
      (λ n mid e h'.
      let up = (quantity_ends f end at n mid e).1 in
      (reach_past n mid (Ok (Is Other 0 (mid + n))) (Ok (Is Other 0 (mid + n))) up (λ z. z) h', same_past n mid (Ok (Is Other 0 (mid + n))) (Ok (Is Other 0 (mid + n))) up (λ z. z) (λ _. refl) h'))
      h

  -- ---- meta-events
  same_three : (mid n : ℕ) → 3 ≤ n → mid + n ≤ suc k → three_at g mid ≡ three_at f mid
  unfolding three_at
  same_three mid n long room = rw (same mid (omega arith), same (mid + 1) (omega arith), same (mid + 2) (omega arith))

  module _ (n mid : ℕ) (up : mid ≤ end) where
    abbrev tempo : List ℕ → Result Read Fault
    tempo l = Ok (Is (Tempo (three_at l mid)) 0 (mid + n))

    reach_tempo : InRead k (tempo_of f end n mid) → mid ≤ suc k
    unfolding tempo_of
    reach_tempo = both (λ (r : Result Read Fault). InRead k r → mid ≤ suc k) (ltb n 3) _ _ (λ _ h. omega arith) (λ _ h. reach_past n mid (tempo f) (tempo f) up (λ z. z) h)

    same_tempo : InRead k (tempo_of f end n mid) → tempo_of g end' n mid ≡ tempo_of f end n mid
    unfolding tempo_of
    same_tempo h =
        same_cond (InRead k) (ltb n 3) (ltb n 3) _ _ _ _ refl h (λ _ _. refl)
        (λ long h'. same_past n mid (tempo f) (tempo g) up (λ z. z) (λ z. ap (λ (t : ℕ). Ok (Is (Tempo t) 0 (mid + n))) (same_three mid n (ltb-false n 3 long) z)) h')

    module _ (type : ℕ) where
      abbrev other : Result Read Fault
      other = cond (eqb type 0x2F) (Ok (End (mid + n))) (Ok (Is Other 0 (mid + n)))

      other_ends : InRead k other → mid + n ≤ suc k
      other_ends = both (λ (r : Result Read Fault). InRead k r → mid + n ≤ suc k) (eqb type 0x2F) _ _ (λ _ h. h) (λ _ h. h)

      same_body : InRead k (meta_of f end type n mid) → (mid ≤ suc k) × (meta_of g end' type n mid ≡ meta_of f end type n mid)
      unfolding meta_of
      same_body h = (
        both (λ (r : Result Read Fault). InRead k r → mid ≤ suc k) (eqb type 0x51) _ _ (λ _ h'. reach_tempo h') (λ _ h'. reach_past n mid other other up other_ends h') h,
        same_cond (InRead k) (eqb type 0x51) (eqb type 0x51) _ _ _ _ refl h (λ _ h'. same_tempo h') (λ _ h'. same_past n mid other other up other_ends (λ _. refl) h'),
      )

  same_meta : (at : ℕ) → InRead k (meta_at f end at) → (at ≤ k) × (meta_at g end' at ≡ meta_at f end at)
  unfolding meta_at
  same_meta at h =
      let low = reach h in (
        low,
        rw (same at low)
            (same_cond (InRead k) (ltb at end) (ltb at end') _ _ _ _ (test k end end' alike at low) h
            (λ _ h'. same_cond (InRead k) (ltb (byte_at f at) 128) (ltb (byte_at f at) 128) _ _ _ _ refl h' (λ _ h''. (sized h'').1) (λ _ _. refl))
            (λ _ _. refl)),
      )
    where
      sized : InRead k (with_quantity (quantity_at f end (at + 1)) (λ size next. meta_of f end (byte_at f at) size next))
          → (at + 1 ≤ k)
          × (with_quantity (quantity_at g end' (at + 1)) (λ size next. meta_of g end' (byte_at f at) size next)
          ≡ with_quantity (quantity_at f end (at + 1)) (λ size next. meta_of f end (byte_at f at) size next))
      sized = with_quantity_lem (at + 1) _ _ (λ n mid e h'. same_body n mid (quantity_ends f end (at + 1) n mid e).1 (byte_at f at) h')

      reach : InRead k (cond (ltb at end) (cond (ltb (byte_at f at) 128) (with_quantity (quantity_at f end (at + 1)) (λ size next. meta_of f end (byte_at f at) size next)) (Err (fault_at NoMetaType at))) (Err (fault_at Missing at))) → at ≤ k
      reach =
          both (λ (r : Result Read Fault). InRead k r → at ≤ k) (ltb at end) _ _
          (λ _. both (λ (r : Result Read Fault). InRead k r → at ≤ k) (ltb (byte_at f at) 128) _ _ (λ _ h'. omega (arith, (sized h').0)) (λ _ h'. h'))
          (λ _ h'. h')

  -- ---- events
  same_status : (s at : ℕ) → InRead k (status_of f end s (at + 1)) → (at ≤ k) × (status_of g end' s (at + 1) ≡ status_of f end s (at + 1))
  unfolding status_of
  same_status s at h = (
    both (λ (r : Result Read Fault). InRead k r → at ≤ k) (ltb s 240) _ _ (λ _ h'. omega (arith, reach_channel s (at + 1) h'))
        (λ _. both (λ (r : Result Read Fault). InRead k r → at ≤ k) (eqb s 255) _ _ (λ _ h'. omega (arith, (same_meta (at + 1) h').0))
        (λ _. both (λ (r : Result Read Fault). InRead k r → at ≤ k) (eqb s 240 || eqb s 247) _ _ (λ _ h'. omega (arith, (same_sysex (at + 1) h').0)) (λ _ h'. omega arith)))
        h,
    same_cond (InRead k) (ltb s 240) (ltb s 240) _ _ _ _ refl h (λ _ h'. same_channel s (at + 1) h')
        (λ _ h'. same_cond (InRead k) (eqb s 255) (eqb s 255) _ _ _ _ refl h' (λ _ h''. (same_meta (at + 1) h'').1)
        (λ _ h''. same_cond (InRead k) (eqb s 240 || eqb s 247) (eqb s 240 || eqb s 247) _ _ _ _ refl h'' (λ _ h₃. (same_sysex (at + 1) h₃).1) (λ _ _. refl))),
  )

  same_event : (running at : ℕ) → InRead k (event_at f end running at) → (at ≤ k) × (event_at g end' running at ≡ event_at f end running at)
  unfolding event_at
  same_event running at h =
      let low =
      both (λ (r : Result Read Fault). InRead k r → at ≤ k) (ltb at end) _ _
      (λ _. both (λ (r : Result Read Fault). InRead k r → at ≤ k) (leb 128 (byte_at f at)) _ _ (λ _ h'. (same_status (byte_at f at) at h').0)
      (λ _. both (λ (r : Result Read Fault). InRead k r → at ≤ k) (eqb running 0) _ _ (λ _ h'. h') (λ _ h'. reach_channel running at h')))
      (λ _ h'. h')
      h in (
        low,
        rw (same at low)
            (same_cond (InRead k) (ltb at end) (ltb at end') _ _ _ _ (test k end end' alike at low) h
            (λ _ h'. same_cond (InRead k) (leb 128 (byte_at f at)) (leb 128 (byte_at f at)) _ _ _ _ refl h' (λ _ h''. (same_status (byte_at f at) at h'').1)
            (λ _ h''. same_cond (InRead k) (eqb running 0) (eqb running 0) _ _ _ _ refl h'' (λ _ _. refl) (λ _ h₃. same_channel running at h₃)))
            (λ _ _. refl)),
      )

  -- ---- with their delta-times
  timed_in : (d : ℕ) (r : Result Read Fault) → InStep k (step_timed d r) → InRead k r
  timed_in d (Ok (Is e s next)) h = h
  timed_in d (Ok (End next)) h = h
  timed_in d (Err why) h = h

  with_delta_lem : (running : ℕ) (at : ℕ) → InStep k (with_delta (quantity_at f end at) (event_at f end running))
      → (at ≤ k) × (with_delta (quantity_at g end' at) (event_at g end' running) ≡ with_delta (quantity_at f end at) (event_at f end running))
  with_delta_lem running at h =
      let w = go (quantity_at f end at) h in
      (reach_quantity 3 0 at w.0, rw (same_quantity 3 0 at w.0) w.1)
    where
      go : (q : Result (ℕ × ℕ) Fault) → InStep k (with_delta q (event_at f end running)) → InQuantity k q × (with_delta q (event_at g end' running) ≡ with_delta q (event_at f end running))
      go (Ok (d, mid)) h =
          let e = same_event running mid (timed_in d (event_at f end running mid) h) in
          let low = e.0 in
          (omega arith, ap (step_timed d) e.1)
      go (Err why) h = (h, refl)

  pub same_step : (running at : ℕ) → InStep k (step_at f end running at) → step_at g end' running at ≡ step_at f end running at
  unfolding step_at
  same_step running at h =
      let low = both (λ (s : Result Step Fault). InStep k s → at ≤ k) (ltb at end) _ _ (λ _ h'. (with_delta_lem running at h').0) (λ _ h'. h') h in
      same_cond (InStep k) (ltb at end) (ltb at end') _ _ _ _ (test k end end' alike at low) h (λ _ h'. (with_delta_lem running at h').1) (λ _ _. refl)
