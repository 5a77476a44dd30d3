-- What a change in place leaves of a channel, from what its loop knows: `rest_of` is what the rest of the walk gives. It is `changed_of` from the start (`whole_change`). A change of voices is worked out with the table as it was (`rest_in`), and what is stored in the table is `channel/proofs/Entries`. Assumes nothing.
use mathlib.Core.Path.{◌≡◌, refl, sym, ap, subst, ◌∙◌}
use Prim.Native.Nat.{ℕ, suc, ◌+◌, ◌≤◌, ◌<◌, min}
use native.Mathlib.Nat.{le_of_eq, add-zero, zero-add}
use native.Mathlib.Numerals.{add-one}
use native.Mathlib.Omega.{arith}
use mathlib.Core.Bool.{Bool, true, false, not, ◌&&◌, ◌||◌, cond, true≢false}
use mathlib.Core.List.{List, [], ◌∷◌, ◌++◌, map}
use borrow.Author.Tests.{leb-true, leb-false, le-ltb, lt-ltb}
use lib.Dec.{leb, ltb, eqb}
use lib.Ieee.{Float}
use lib.ListN.{length, length-set, take, drop, get_or, set, take-append-drop}
use lib.Seq.{sets, sets-eq, length-take-le, set-get_or, get_or-set_same, take-set-lt, drop-set-lt, get_or-take, take_all}
use Rattle.binary32.specs.Leaves.{zero32}
use Rattle.std.specs.List.{list_any}
use Rattle.std.specs.List.{position_from}
use Rattle.walks.proofs.Tests.{and-true, or-false}
use Rattle.walks.proofs.Lists.Fronts.{any_next}
use Rattle.walks.proofs.Lists.Loops.{take_most}
use Rattle.common_types.specs.declared.Params.{Params}
use Rattle.common_types.specs.declared.Note.{Note}
use Rattle.phrases.specs.declared.Phrase.{Phrase}
use Rattle.phrases.specs.Phrases.{no_phrase}
use Rattle.voice.specs.declared.Voice.{Voice}
use Rattle.voice.specs.Voices.{finish_of, fresh_of, blank_voice}
use Rattle.channel.specs.declared.Change.{Change}
use Rattle.channel.specs.declared.Change.TheVariants as change
use Rattle.channel.specs.declared.Channel.{Channel}
use Rattle.channel.specs.declared.Entry.{Entry}
use Rattle.std.specs.Prelude.{Option, Some, None}
use Rattle.channel.specs.Heads.{moment_of}
use Rattle.channel.specs.Tables.{place_of, names_of, entry_stored, stored_by}
use Rattle.channel.specs.Channels.{with_voices, beside_in, unfinished_of, same_note, wanted_of, sped_of, any_unfinished_of, handled_of, pushed_of, start_playing_of, find_of, finished_at_of, stop_playing_of, set_note_speed_of, head_changed_in, reset_of, changed_of}
use Rattle.channel.proofs.Entries.{stored, several_stored}
use Rattle.lent_changes.specs.declared.Pass.{Pass}
use Rattle.lent_changes.specs.declared.Aside.{Aside}
use Rattle.lent_changes.specs.Changes.{asks_voices, stores_behind, going_of, start_pass, pass_of, hits_of, remade_of, passed_of, started_voice, handled_if, aside_of, head_ended}

-- ---- what becomes of the voices gone through, and what is known afterwards
abbrev pub outs_of : Pass → List Voice → List Voice
outs_of p [] = []
outs_of p (v ∷ vs) = cond (hits_of p v) (remade_of p v) v ∷ outs_of (passed_of p v (hits_of p v)) vs

abbrev pub last_of : Pass → List Voice → Pass
last_of p [] = p
last_of p (v ∷ vs) = last_of (passed_of p v (hits_of p v)) vs

module _ (x : Change) (h : Channel) where
  -- what is read of the table, and what is stored in it
  abbrev pub named : Phrase
  named = get_or h.table (place_of (names_of x)) no_phrase

  abbrev pub aside : Aside
  aside = aside_of named h.several (beside_in 0 h)

  abbrev pub entry : Entry
  entry = entry_stored x h.head h.several named

  abbrev stored_in : Channel
  stored_in = record { voices = h.voices; table = stored_by entry h.table; count = h.count; head = h.head; several = entry.several }

  -- the channel after the loop: the new voice, the count and the head; its table is c's
  abbrev final_in : Channel → Pass → List Voice → Channel
  final_in c p l =
      record { voices = cond p.fresh (set l h.count (started_voice x h.head)) l; table = c.table; count = p.count; head = head_ended p x h.head aside; several = c.several }

  abbrev rest_in : Channel → Pass → List Voice → ℕ → List Voice → Channel
  rest_in c p l i vs = final_in c (last_of p vs) (sets l i (outs_of p vs))

  abbrev pub rest_of : Pass → List Voice → ℕ → List Voice → Channel
  rest_of p l i vs = rest_in stored_in p l i vs

  -- where it begins
  abbrev first : Pass
  first = pass_of x h.head h.count

  abbrev is_whole_in : Channel → Channel
  is_whole_in c = rest_in c first h.voices 0 (take first.turns h.voices)

  -- what is stored is what the change makes of the table; one that leaves it may be worked out with the table as it was
  module _ (eight : length h.table ≡ 8) where
    with_stored : is_whole_in stored_in ≡ is_whole_in (changed_of x h)
    with_stored =
        ap (λ (t : List Phrase). is_whole_in (record { voices = h.voices; table = t; count = h.count; head = h.head; several = entry.several })) (stored h x eight)
        ∙ ap (λ (b : Bool). is_whole_in (record { voices = h.voices; table = (changed_of x h).table; count = h.count; head = h.head; several = b })) (several_stored h x named)

    with_own : is_whole_in h ≡ changed_of x h → is_whole_in stored_in ≡ changed_of x h
    with_own e = with_stored ∙ ap is_whole_in (sym e) ∙ e

  -- a turn with the test's outcome c, as it is worked out
  abbrev turned : Pass → Voice → Bool → List Voice → ℕ → List Voice → Channel
  turned p v c l i vs = rest_of (passed_of p v c) (set l i (cond c (remade_of p v) v)) (suc i) vs

  pub rest_hit : (p p' : Pass) (v w : Voice) (hit : Bool) (l : List Voice) (i : ℕ) (vs : List Voice) → hit ≡ hits_of p v → w ≡ remade_of p v → p' ≡ passed_of p v hit → hit ≡ true
      → rest_of p l i (v ∷ vs) ≡ rest_of p' (set l i w) (i + 1) vs
  rest_hit p p' v w hit l i vs e_hit e_w e_p y =
      ap (λ (c : Bool). turned p v c l i vs) (sym e_hit ∙ y)
      ∙ ap (λ (u : Voice). rest_of (passed_of p v true) (set l i u) (suc i) vs) (sym e_w)
      ∙ ap (λ (u : Pass). rest_of u (set l i w) (suc i) vs) (sym (e_p ∙ ap (passed_of p v) y))
      ∙ ap (λ (j : ℕ). rest_of p' (set l i w) j vs) (sym (add-one i))

  pub rest_miss : (p p' : Pass) (hit : Bool) (l : List Voice) (i : ℕ) (d : Voice) (vs : List Voice) → hit ≡ hits_of p (get_or l i d) → p' ≡ passed_of p (get_or l i d) hit → hit ≡ false
      → rest_of p l i (get_or l i d ∷ vs) ≡ rest_of p' l (i + 1) vs
  rest_miss p p' hit l i d vs e_hit e_p y =
      ap (λ (c : Bool). turned p (get_or l i d) c l i vs) (sym e_hit ∙ y)
      ∙ ap (λ (k : List Voice). rest_of (passed_of p (get_or l i d) false) k (suc i) vs) (set-get_or l i d)
      ∙ ap (λ (u : Pass). rest_of u l (suc i) vs) (sym (e_p ∙ ap (passed_of p (get_or l i d)) y))
      ∙ ap (λ (j : ℕ). rest_of p' l j vs) (sym (add-one i))

-- ---- where it begins
few : (count : ℕ) → min count 32 ≤ 32
few count = omega arith

pub few_turns : (x : Change) (h : Channel) → (pass_of x h.head h.count).turns ≤ 32
unfolding pass_of start_pass asks_voices stores_behind going_of
few_turns (change.Start q position note velocity) h = go (eqb h.head.data_len 0) (leb 32 h.count)
  where
    go : (a b : Bool) → (cond a (asks_voices 0 h.count h.head) (cond b (asks_voices 32 h.count h.head) (stores_behind h.count h.head))).turns ≤ 32
    go true b = omega arith
    go false true = omega arith
    go false false = omega arith
few_turns (change.Stop q note) h = few h.count
few_turns (change.Speed note speed) h = few h.count
few_turns (change.Head d) h = omega arith
few_turns change.Reset h = omega arith

-- a new voice has a place
pub fresh_room : (x : Change) (h : Channel) → (pass_of x h.head h.count).fresh ≡ true → h.count < 32
unfolding pass_of start_pass asks_voices stores_behind going_of
fresh_room (change.Start q position note velocity) h y = go (eqb h.head.data_len 0) (leb 32 h.count) refl y
  where
    go : (a b : Bool) → leb 32 h.count ≡ b → (cond a (asks_voices 0 h.count h.head) (cond b (asks_voices 32 h.count h.head) (stores_behind h.count h.head))).fresh ≡ true → h.count < 32
    go true b e y = absurd (true≢false (sym y))
    go false true e y = absurd (true≢false (sym y))
    go false false e y = leb-false 32 h.count e
fresh_room (change.Stop q note) h y = absurd (true≢false (sym y))
fresh_room (change.Speed note speed) h y = absurd (true≢false (sym y))
fresh_room (change.Head d) h y = absurd (true≢false (sym y))
fresh_room change.Reset h y = absurd (true≢false (sym y))

-- ---- lists
-- the front of another list that has the same rest
fronts : (l k : List Voice) (n : ℕ) → n ≤ length l → length k ≡ length l → drop n l ≡ drop n k → sets l 0 (take n k) ≡ k
fronts l k n h e d =
    let len : length (take n k) ≡ n = length-take-le n k (omega arith) in
    sets-eq (take n k) l 0 (omega arith) ∙ ap (λ (j : ℕ). take n k ++ drop j l) (zero-add (length (take n k)) ∙ len) ∙ ap (λ (r : List Voice). take n k ++ r) d ∙ take-append-drop n k

or_assoc : (a b c : Bool) → ((a || b) || c) ≡ (a || (b || c))
or_assoc true b c = refl
or_assoc false b c = refl

and-false : (a : Bool) → (a && false) ≡ false
and-false true = refl
and-false false = refl

-- ---- a stop, from whether it has its voice and whether one is unfinished
module _ (turns count now decay : ℕ) (speed : Float) (note : Note) (fresh : Bool) where
  abbrev stop : Bool → Bool → Pass
  stop found unfinished = record { turns = turns; count = count; now = now; decay_samples = decay; speed = speed; note = note; stop = true; fresh = fresh; found = found; unfinished = unfinished }

  -- it changes no voice that has one
  no_hit : (u : Bool) (v : Voice) → hits_of (stop true u) v ≡ false
  unfolding hits_of
  no_hit u v = and-false (same_note v.note note)

  outs_found : (u : Bool) (vs : List Voice) → outs_of (stop true u) vs ≡ vs
  unfolding passed_of
  outs_found u [] = refl
  outs_found u (v ∷ vs) =
      ap (λ (c : Bool). cond c (remade_of (stop true u) v) v ∷ outs_of (passed_of (stop true u) v c) vs) (no_hit u v)
      ∙ ap (λ (l : List Voice). v ∷ l) (outs_found (u || unfinished_of v) vs)

  last_found : (u : Bool) (vs : List Voice) → last_of (stop true u) vs ≡ stop true (u || list_any unfinished_of vs)
  unfolding passed_of
  last_found u [] = ap (stop true) (or-false u)
  last_found u (v ∷ vs) =
      ap (λ (c : Bool). last_of (passed_of (stop true u) v c) vs) (no_hit u v) ∙ last_found (u || unfinished_of v) vs ∙ ap (stop true) (or_assoc u (unfinished_of v) (list_any unfinished_of vs))

  -- what it comes to: no voice is wanted, or the first that is has been finished
  data Comes (k : ℕ) (u : Bool) (vs : List Voice) : Type 0 where
    none_wanted : position_from (wanted_of note) k vs ≡ None → outs_of (stop false u) vs ≡ vs → (last_of (stop false u) vs).found ≡ false → (last_of (stop false u) vs).fresh ≡ fresh → (last_of (stop false u) vs).count ≡ count → Comes k u vs
    one_wanted : (j : ℕ) → position_from (wanted_of note) k vs ≡ Some (k + j) → j < length vs → outs_of (stop false u) vs ≡ set vs j (finish_of now decay (get_or vs j blank_voice)) → last_of (stop false u) vs ≡ stop true (u || list_any unfinished_of (outs_of (stop false u) vs)) → Comes k u vs

  abbrev outs_at : Bool → Voice → List Voice → Bool → List Voice
  outs_at u v vs c = cond c (remade_of (stop false u) v) v ∷ outs_of (passed_of (stop false u) v c) vs

  abbrev last_at : Bool → Voice → List Voice → Bool → Pass
  last_at u v vs c = last_of (passed_of (stop false u) v c) vs

  -- until it has its voice, it changes the one that is wanted
  hit_is : (u : Bool) (v : Voice) → hits_of (stop false u) v ≡ wanted_of note v
  unfolding hits_of wanted_of
  hit_is u v = refl

  comes : (k : ℕ) (u : Bool) (vs : List Voice) → Comes k u vs
  unfolding passed_of remade_of finish_of
  comes k u [] = none_wanted refl refl refl refl refl
  comes k u (v ∷ vs) = go (wanted_of note v) refl (comes (k + 1) (u || unfinished_of v) vs)
    where
      found : Bool → Option ℕ
      found c = cond c (Some k) (position_from (wanted_of note) (k + 1) vs)

      go : (c : Bool) → wanted_of note v ≡ c → Comes (k + 1) (u || unfinished_of v) vs → Comes k u (v ∷ vs)
      go true e rest =
          let e_hit : hits_of (stop false u) v ≡ true = hit_is u v ∙ e in
          let outs : outs_of (stop false u) (v ∷ vs) ≡ finish_of now decay v ∷ vs = ap (outs_at u v vs) e_hit ∙ ap (λ (l : List Voice). finish_of now decay v ∷ l) (outs_found (u || false) vs) in
          one_wanted 0 (ap found e ∙ ap Some (sym (add-zero k))) (omega arith) outs
          (ap (last_at u v vs) e_hit ∙ last_found (u || false) vs ∙ ap (stop true) (or_assoc u false (list_any unfinished_of vs)) ∙ ap (λ (l : List Voice). stop true (u || list_any unfinished_of l)) (sym outs))
      go false e (none_wanted s outs f g n) =
          let e_hit : hits_of (stop false u) v ≡ false = hit_is u v ∙ e in
          none_wanted (ap found e ∙ s) (ap (outs_at u v vs) e_hit ∙ ap (λ (l : List Voice). v ∷ l) outs)
          (ap (λ (c : Bool). (last_at u v vs c).found) e_hit ∙ f) (ap (λ (c : Bool). (last_at u v vs c).fresh) e_hit ∙ g) (ap (λ (c : Bool). (last_at u v vs c).count) e_hit ∙ n)
      go false e (one_wanted j s lt outs last) =
          let e_hit : hits_of (stop false u) v ≡ false = hit_is u v ∙ e in
          let here : outs_of (stop false u) (v ∷ vs) ≡ v ∷ outs_of (stop false (u || unfinished_of v)) vs = ap (outs_at u v vs) e_hit in
          one_wanted (suc j) (ap found e ∙ s ∙ ap Some (omega arith)) (omega (arith, lt)) (here ∙ ap (λ (l : List Voice). v ∷ l) outs)
          (ap (last_at u v vs) e_hit ∙ last ∙ ap (stop true) (or_assoc u (unfinished_of v) (list_any unfinished_of (outs_of (stop false (u || unfinished_of v)) vs))) ∙ ap (λ (l : List Voice). stop true (u || list_any unfinished_of l)) (sym here))

-- ---- the calls
module _ (h : Channel) (all : length h.voices ≡ 32) where
  abbrev l : List Voice
  l = h.voices

  abbrev n : ℕ
  n = min h.count 32

  within : n ≤ length l
  within = omega (arith, all)

  module _ (q : Params) (note : Note) where
    abbrev p : Bool → Bool → Pass
    p = stop n h.count h.head.now q.decay_samples zero32 note false

    abbrev vs : List Voice
    vs = take n l

    finds : find_of note h ≡ position_from (wanted_of note) 0 vs
    unfolding find_of
    finds = ap (position_from (wanted_of note) 0) (sym (take_most l h.count 32 all))

    abbrev made : Bool → ℕ → Bool → Bool → List Voice → Channel
    made fresh count found unfinished k = record { voices = cond fresh (set k h.count blank_voice) k; table = h.table; count = count; head = handled_if found h.head q unfinished; several = h.several }

    stop_comes : Comes n h.count h.head.now q.decay_samples zero32 note false 0 false vs → rest_in (change.Stop q note) h h (p false false) l 0 vs ≡ finished_at_of q h (find_of note h)
    unfolding finished_at_of handled_of any_unfinished_of handled_if head_ended started_voice
    stop_comes (none_wanted s outs f g k) =
        let r = last_of (p false false) vs in
        ap (λ (b : List Voice). made r.fresh r.count r.found r.unfinished (sets l 0 b)) outs
        ∙ ap (made r.fresh r.count r.found r.unfinished) (fronts l l n within refl refl)
        ∙ ap (λ (b : Bool). made b r.count r.found r.unfinished l) g
        ∙ ap (λ (c : ℕ). made false c r.found r.unfinished l) k
        ∙ ap (λ (b : Bool). made false h.count b r.unfinished l) f
        ∙ sym (ap (finished_at_of q h) (finds ∙ s))
    stop_comes (one_wanted j s lt outs last) =
        let below : j < n = subst (λ (m : ℕ). j < m) (length-take-le n l within) lt in
        let w : Voice = finish_of h.head.now q.decay_samples (get_or l j blank_voice) in
        let out : outs_of (p false false) vs ≡ take n (set l j w)
        = outs ∙ ap (λ (u : Voice). set vs j (finish_of h.head.now q.decay_samples u)) (get_or-take n l j blank_voice below) ∙ sym (take-set-lt n l j w below) in
        let u : Bool = list_any unfinished_of (outs_of (p false false) vs) in
        ap (λ (r : Pass). made r.fresh r.count r.found r.unfinished (sets l 0 (outs_of (p false false) vs))) last
        ∙ ap (λ (b : List Voice). made false h.count true (list_any unfinished_of b) (sets l 0 b)) out
        ∙ ap (made false h.count true (list_any unfinished_of (take n (set l j w)))) (fronts l (set l j w) n within (length-set l j w) (sym (drop-set-lt n l j w below)))
        ∙ ap (λ (b : List Voice). made false h.count true (list_any unfinished_of b) (set l j w)) (take_most (set l j w) h.count 32 (length-set l j w ∙ all))
        ∙ sym (ap (finished_at_of q h) (finds ∙ s ∙ ap Some (zero-add j)) ∙ ap (λ (b : Bool). cond b (handled_of q (with_voices (set l j w) h.count h)) h) (lt-ltb j 32 (omega (arith, below))))

  -- every voice with the note has its speed
  module _ (note : Note) (speed : Float) where
    abbrev sped : Bool → Bool → Pass
    sped found unfinished = record { turns = n; count = h.count; now = h.head.now; decay_samples = 0; speed = speed; note = note; stop = false; fresh = false; found = found; unfinished = unfinished }

    outs_sped : (f u : Bool) (vs : List Voice) → outs_of (sped f u) vs ≡ map (sped_of note speed) vs
    unfolding passed_of sped_of hits_of remade_of
    outs_sped f u [] = refl
    outs_sped f u (v ∷ vs) =
        ap (λ (c : Bool). cond c (remade_of (sped f u) v) v ∷ outs_of (passed_of (sped f u) v (hits_of (sped f u) v)) vs) (sym (and-true (same_note v.note note)))
        ∙ ap (λ (k : List Voice). sped_of note speed v ∷ k) (outs_sped (f || hits_of (sped f u) v) (u || (not (hits_of (sped f u) v) && unfinished_of v)) vs)

    kept_sped : (f u : Bool) (vs : List Voice) → ((last_of (sped f u) vs).fresh ≡ false) × ((last_of (sped f u) vs).count ≡ h.count)
    unfolding passed_of
    kept_sped f u [] = (refl, refl)
    kept_sped f u (v ∷ vs) = kept_sped (f || hits_of (sped f u) v) (u || (not (hits_of (sped f u) v) && unfinished_of v)) vs

    abbrev with_speed : Bool → ℕ → List Voice → Channel
    with_speed fresh count k = record { voices = cond fresh (set k h.count blank_voice) k; table = h.table; count = count; head = h.head; several = h.several }

    speed_comes : rest_in (change.Speed note speed) h h (sped false false) l 0 (take n l) ≡ set_note_speed_of note speed h
    unfolding set_note_speed_of head_ended started_voice
    speed_comes =
        let r = last_of (sped false false) (take n l) in
        ap (λ (b : Bool). with_speed b r.count (sets l 0 (outs_of (sped false false) (take n l)))) (kept_sped false false (take n l)).0
        ∙ ap (λ (c : ℕ). with_speed false c (sets l 0 (outs_of (sped false false) (take n l)))) (kept_sped false false (take n l)).1
        ∙ ap (λ (k : List Voice). with_speed false h.count (sets l 0 k)) (outs_sped false false (take n l))
        ∙ ap (λ (k : List Voice). with_speed false h.count (sets l 0 (map (sped_of note speed) k))) (take_most l h.count 32 all)

  module _ (q : Params) (position : Float) (note : Note) (velocity : Float) where
    abbrev x : Change
    x = change.Start q position note velocity

    abbrev new : Voice
    new = fresh_of q position note velocity (moment_of h.head)

    abbrev pass : Bool → Bool → Pass
    pass a b = cond a (asks_voices 0 h.count h.head) (cond b (asks_voices 32 h.count h.head) (stores_behind h.count h.head))

    abbrev from : Pass → Channel
    from p = rest_in x h h p l 0 (take p.turns l)

    -- the head, by whether the recording is empty
    abbrev heads : List Voice → ℕ → Bool → Bool → Channel
    heads k count empty unfinished = record { voices = k; table = h.table; count = count; head = handled_if (not empty) h.head q unfinished; several = h.several }

    abbrev starts : Bool → Bool → Channel
    starts empty room = cond empty h (handled_of q (cond room (with_voices (set l h.count new) (h.count + 1) h) h))

    -- the new voice is unfinished
    sounds : h.count < 32 → any_unfinished_of (with_voices (set l h.count new) (h.count + 1) h) ≡ true
    unfolding any_unfinished_of fresh_of
    sounds room =
        let k = set l h.count new in
        let inside : h.count < length k = omega (arith, room, length-set l h.count new, all) in
        ap (λ (m : ℕ). list_any unfinished_of (take m k)) (add-one h.count) ∙ sym (any_next unfinished_of blank_voice h.count k inside)
        ∙ ap (λ (v : Voice). list_any unfinished_of (take h.count k) || unfinished_of v) (get_or-set_same l h.count new blank_voice (omega (arith, room, all))) ∙ or-true (list_any unfinished_of (take h.count k))
      where
        or-true : (a : Bool) → (a || true) ≡ true
        or-true true = refl
        or-true false = refl

    start_comes : (a b : Bool) → eqb h.head.data_len 0 ≡ a → leb 32 h.count ≡ b → from (pass a b) ≡ starts a (ltb h.count 32)
    unfolding asks_voices stores_behind handled_of handled_if head_ended started_voice any_unfinished_of fresh_of
    start_comes true b e d = ap (λ (c : Bool). heads l h.count c false) e
    start_comes false true e d =
        let over : 32 ≤ h.count = leb-true 32 h.count d in
        let p = stop 32 h.count h.head.now 0 zero32 (asks_voices 32 h.count h.head).note false in
        ap (λ (r : Pass). final_in x h h r (sets l 0 (outs_of (p true false) (take 32 l)))) (last_found 32 h.count h.head.now 0 zero32 (asks_voices 32 h.count h.head).note false false (take 32 l))
        ∙ ap (λ (k : List Voice). heads (sets l 0 k) h.count (eqb h.head.data_len 0) (list_any unfinished_of (take 32 l))) (outs_found 32 h.count h.head.now 0 zero32 (asks_voices 32 h.count h.head).note false false (take 32 l))
        ∙ ap (λ (k : List Voice). heads k h.count (eqb h.head.data_len 0) (list_any unfinished_of (take 32 l))) (fronts l l 32 (omega (arith, all)) refl refl)
        ∙ ap (λ (c : Bool). heads l h.count c (list_any unfinished_of (take 32 l))) e
        ∙ ap (λ (k : List Voice). heads l h.count false (list_any unfinished_of k)) (take_all 32 l (le_of_eq all) ∙ sym (take_all h.count l (omega (arith, all, over))))
        ∙ sym (ap (starts false) (le-ltb h.count 32 over))
    start_comes false false e d =
        let room : h.count < 32 = leb-false 32 h.count d in
        ap (λ (c : Bool). heads (set l h.count new) (h.count + 1) c true) e
        ∙ ap (heads (set l h.count new) (h.count + 1) false) (sym (sounds room))
        ∙ sym (ap (starts false) (lt-ltb h.count 32 room))

-- the walk gives what the change is
pub whole_change : (x : Change) (h : Channel) → length h.voices ≡ 32 → length h.table ≡ 8
    → rest_of x h (pass_of x h.head h.count) h.voices 0 (take (pass_of x h.head h.count).turns h.voices) ≡ changed_of x h
unfolding changed_of pass_of start_pass asks_voices going_of start_playing_of pushed_of stop_playing_of head_changed_in reset_of head_ended started_voice names_of
whole_change (change.Start q position note velocity) h all eight =
    with_own (change.Start q position note velocity) h eight (start_comes h all q position note velocity (eqb h.head.data_len 0) (leb 32 h.count) refl refl)
whole_change (change.Stop q note) h all eight =
    with_own (change.Stop q note) h eight (stop_comes h all q note (comes (min h.count 32) h.count h.head.now q.decay_samples zero32 note false 0 false (take (min h.count 32) h.voices)))
whole_change (change.Speed note speed) h all eight = with_own (change.Speed note speed) h eight (speed_comes h all note speed)
whole_change (change.Head d) h all eight = with_stored (change.Head d) h eight
whole_change change.Reset h all eight = with_stored change.Reset h eight
