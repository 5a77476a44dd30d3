-- Request 12/12: the count in a sample's answer and in a frame's is that of the voices that `follow` moves up, and is at most 31 and 62; and one walk leaves what taking voices away one at a time leaves. Assumes nothing.
use mathlib.Core.Path.{◌≡◌, refl, sym, ap, ◌∙◌, subst}
use mathlib.Core.Bool.{Bool, true, false, not, cond, true≢false}
use mathlib.Core.Logic.{◌≢◌, ◌↔◌}
use mathlib.Core.List.{List, [], ◌∷◌, ◌++◌, map}
use mathlib.Core.Option.{Option, some}
use Prim.Native.Nat.{ℕ, zero, suc, ◌+◌, ◌*◌, ◌≤◌, ◌<◌, zero-le}
use native.Mathlib.Nat.{le_trans, le_of_eq, le_refl, zero-add}
use native.Mathlib.Omega.{arith}
use borrow.Author.Tests.{lt-ltb, le-ltb, ltb-true, ltb-false, eq-eqb}
use lib.Dec.{eqb, ltb, leb}
use lib.ListN.{length, take, get_or, get_elem?, length-map}
use lib.Seq.{length-take-le, take_all}
use lib.Ieee.{Float, binary32, mul}
use Rattle.std.specs.Prelude.{is_ok}
use Rattle.refusals.specs.declared.Refusal.TheVariants.{Broken}
use Rattle.refusals.proofs.Codes.{done_at, zero_at, passed, refused_at}
use Rattle.binary32.specs.Leaves.{zero32}
use Rattle.common_types.specs.declared.Params.{Params}
use Rattle.walks.specs.Walks.{without, behind}
use Rattle.walks.proofs.Lists.Each.{fewer}
use Rattle.walks.proofs.Lists.Every.{both}
use Rattle.walks.proofs.Lists.Looks.{never, look_below, look_some, look_map, look_unmap, without_fewer}
use Rattle.voice.specs.declared.Voice.{Voice}
use Rattle.voice.specs.Voices.{blank_voice}
use Rattle.channel.specs.declared.Channel.{Channel}
use Rattle.channel.specs.declared.Played.{Played}
use Rattle.channel.specs.Channels.{live, Turning, kept_of, tidied_of}
use Rattle.channel.specs.Channels.{process_sample_of as channel_sample_of}
use Rattle.channel.proofs.Samples.{moved_few}
use Rattle.sampler.specs.declared.Sampler.{Sampler}
use Rattle.sampler.specs.declared.SampleAnswer.{SampleAnswer}
use Rattle.sampler.specs.Refusals.{channel_at, good_sampler, good_with, sample_judged, sample_number, frame_judged, frame_number}
use Rattle.sampler.specs.Samplers.{part_of, played_at, moved_at, process_sample_of, framed, entries_moved, frame_moved}
use Rattle.sampler.proofs.Rows.{is_true, frame_steps}
use Rattle.sampler.proofs.Entries.{sample_reaches, frame_reaches}
use Rattle.fates.specs.Engine.{turns_in}
use Rattle.fates.specs.Events.{Event, idle, changes, gathers, sounds, act, is_reset, empty_at}
use Rattle.fates.specs.Places.{Place, at, gone, voice_at, fate_of, follow}
use Rattle.fates.proofs.Own.{own_leaves, step_moved, step_output}
use Rattle.fates.proofs.Lives.{live_sounded}
use Rattle.fates.proofs.Tracks.{at_same, gone_never}
use Rattle.promises.specs.Runs.{World, Call, sample, frame, call_judged, code, chan, own_part, done_to, event}
use Rattle.promises.specs.Tidies.{moves_up, up_of, up_in, sum_from, remove_at, places_of, taken_away}
use Rattle.promises.specs.Demands.{Tidying, all_turned, OldRemoval}
use Rattle.promises.proofs.Calls.{Standing}
use Rattle.promises.proofs.Demand3.{next, standing_demand3}
use Rattle.promises.proofs.Engine.{step_same}
use Rattle.promises.proofs.Apart.{frame_moved_lem}
use Rattle.sampler.proofs.Channels.{few_live}

-- ---- lists
ltb_suc : (a b : ℕ) → ltb (suc a) (suc b) ≡ ltb a b
ltb_suc a b = go (ltb a b) refl
  where
    go : (z : Bool) → ltb a b ≡ z → ltb (suc a) (suc b) ≡ z
    go true e = lt-ltb (suc a) (suc b) (let u = ltb-true a b e in omega arith)
    go false e = le-ltb (suc a) (suc b) (let u = ltb-false a b e in omega arith)

ltb_self : (n : ℕ) → ltb n n ≡ false
ltb_self n = le-ltb n n (le_refl n)

module _ {A : Type 0} where
  take_one_more : (l : List A) (n : ℕ) (d : A) → n < length l → take (suc n) l ≡ take n l ++ (get_or l n d ∷ [])
  take_one_more [] n d h = absurd (omega arith)
  take_one_more (x ∷ l) zero d h = refl
  take_one_more (x ∷ l) (suc n) d h = ap (λ (k : List A). x ∷ k) (take_one_more l n d (omega arith))

  look_take : (l : List A) (n i : ℕ) (x : A) → get_elem? (take n l) i ≡ some x → (i < n) × (get_elem? l i ≡ some x)
  look_take l zero i x e = absurd (never x e)
  look_take [] (suc n) i x e = absurd (never x e)
  look_take (y ∷ l) (suc n) zero x e = (omega arith, e)
  look_take (y ∷ l) (suc n) (suc i) x e =
      let r = look_take l n i x e in
      (omega (arith, r.0), r.1)

  look_before : (l : List A) (n i : ℕ) (x : A) → i < n → get_elem? l i ≡ some x → get_elem? (take n l) i ≡ some x
  look_before l zero i x h e = absurd (omega arith)
  look_before [] (suc n) i x h e = absurd (never x e)
  look_before (y ∷ l) (suc n) zero x h e = e
  look_before (y ∷ l) (suc n) (suc i) x h e = look_before l n i x (omega arith) e

  map_last : {B : Type 0} (f : A → B) (l : List A) (x : A) → map f (l ++ (x ∷ [])) ≡ map f l ++ (f x ∷ [])
  map_last f [] x = refl
  map_last {B} f (y ∷ l) x = ap (λ (k : List B). f y ∷ k) (map_last f l x)

  module _ (p : A → Bool) where
    -- one more at the end is kept, or not
    without_last : (l : List A) (x : A) → length (without p (l ++ (x ∷ []))) ≡ length (without p l) + cond (p x) 0 1
    unfolding without
    without_last [] x = go (p x)
      where
        go : (b : Bool) → length (cond b [] (x ∷ [])) ≡ 0 + cond b 0 1
        go true = refl
        go false = refl
    without_last (y ∷ l) x = go (p y) (without_last l x)
      where
        go : (b : Bool) → length (without p (l ++ (x ∷ []))) ≡ length (without p l) + cond (p x) 0 1
            → length (cond b (without p (l ++ (x ∷ []))) (y ∷ without p (l ++ (x ∷ [])))) ≡ length (cond b (without p l) (y ∷ without p l)) + cond (p x) 0 1
        go true h = h
        go false h = omega (arith, h)

    -- and stands behind one that isn't kept where one before it isn't
    behind_last : (l : List A) (x : A) → length (behind p (l ++ (x ∷ []))) ≡ length (behind p l) + cond (p x) 0 (cond (ltb (length (without p l)) (length l)) 1 0)
    unfolding without behind
    behind_last [] x = go (p x)
      where
        go : (b : Bool) → length (cond {A = List A} b [] []) ≡ 0 + cond b 0 (cond (ltb 0 0) 1 0)
        go true = refl
        go false = refl
    behind_last (y ∷ l) x = go (p y) (behind_last l x)
      where
        go : (b : Bool) → length (behind p (l ++ (x ∷ []))) ≡ length (behind p l) + cond (p x) 0 (cond (ltb (length (without p l)) (length l)) 1 0)
            → length (cond b (without p (l ++ (x ∷ []))) (behind p (l ++ (x ∷ []))))
            ≡ length (cond b (without p l) (behind p l)) + cond (p x) 0 (cond (ltb (length (cond b (without p l) (y ∷ without p l))) (suc (length l))) 1 0)
        go true h =
            without_last l x
            ∙ ap (λ (z : Bool). length (without p l) + cond (p x) 0 (cond z 1 0)) (sym (lt-ltb (length (without p l)) (suc (length l)) (omega (arith, fewer p l))))
        go false h = h ∙ ap (λ (z : Bool). length (behind p l) + cond (p x) 0 (cond z 1 0)) (sym (ltb_suc (length (without p l)) (length l)))

    -- where fewer are kept, one isn't
    one_gone : (l : List A) → length (without p l) < length l → (i : ℕ) × (x : A) × (get_elem? l i ≡ some x) × (p x ≡ true)
    unfolding without
    one_gone [] h = absurd (omega arith)
    one_gone (x ∷ l) h = go (p x) refl h (λ k. one_gone l k)
      where
        go : (b : Bool) → p x ≡ b → length (cond b (without p l) (x ∷ without p l)) < suc (length l) → (length (without p l) < length l → (i : ℕ) × (y : A) × (get_elem? l i ≡ some y) × (p y ≡ true))
            → (i : ℕ) × (y : A) × (get_elem? (x ∷ l) i ≡ some y) × (p y ≡ true)
        go true e h f = (0, x, refl, e)
        go false e h f =
            let r = f (omega arith) in
            (suc r.0, r.1, r.2, r.3)

    -- where each is kept, none stands behind one that isn't
    behind_none : (l : List A) → ((n : ℕ) (x : A) → get_elem? l n ≡ some x → p x ≡ false) → behind p l ≡ []
    unfolding behind
    behind_none [] h = refl
    behind_none (y ∷ l) h =
        ap (λ (b : Bool). cond b (without p l) (behind p l)) (h 0 y refl) ∙ behind_none l (λ n x e. h (suc n) x e)

    -- ---- one walk, or one at a time
    away_behind : (xs : List A) (i : ℕ) (y : A) (l : List A) → taken_away (places_of p (suc i) xs) (y ∷ l) ≡ y ∷ taken_away (places_of p i xs) l
    unfolding places_of taken_away remove_at
    away_behind [] i y l = refl
    away_behind (x ∷ xs) i y l = go (p x) (away_behind xs (suc i) y l)
      where
        go : (b : Bool) → taken_away (places_of p (suc (suc i)) xs) (y ∷ l) ≡ y ∷ taken_away (places_of p (suc i) xs) l
            → taken_away (cond b (suc i ∷ places_of p (suc (suc i)) xs) (places_of p (suc (suc i)) xs)) (y ∷ l) ≡ y ∷ taken_away (cond b (i ∷ places_of p (suc i) xs) (places_of p (suc i) xs)) l
        go true h = ap (remove_at (suc i)) h
        go false h = h

    pub old_removal : (xs : List A) → taken_away (places_of p 0 xs) xs ≡ without p xs
    unfolding places_of taken_away remove_at without
    old_removal [] = refl
    old_removal (x ∷ xs) = go (p x) (away_behind xs 0 x xs ∙ ap (λ (l : List A). x ∷ l) (old_removal xs))
      where
        go : (b : Bool) → taken_away (places_of p 1 xs) (x ∷ xs) ≡ x ∷ without p xs
            → taken_away (cond b (0 ∷ places_of p 1 xs) (places_of p 1 xs)) (x ∷ xs) ≡ cond b (without p xs) (x ∷ without p xs)
        go true h = ap (remove_at 0) h
        go false h = h

-- ---- places
up_none : (to : ℕ → Place) (n : ℕ) → ((i : ℕ) → moves_up (to i) i ≡ false) → up_of to n ≡ 0
unfolding up_of
up_none to zero h = refl
up_none to (suc n) h = ap (λ (b : Bool). up_of to n + cond b 1 0) (h n) ∙ omega (arith, up_none to n h)

stays_put : (n : ℕ) → up_of (λ (k : ℕ). at k) n ≡ 0
unfolding moves_up
stays_put n = up_none (λ (k : ℕ). at k) n ltb_self

idle_up : (c : Channel) (n : ℕ) → up_of (follow idle c) n ≡ 0
unfolding follow
idle_up c n = stays_put n

module _ (turns : Turning) (vs : List Voice) where
  abbrev to : ℕ → Place
  to n = fate_of turns vs n (get_elem? vs n)

  -- the voices before place n after their turns, and the one at it
  abbrev front : ℕ → List Voice
  front n = map turns.turn (take n vs)

  abbrev here : ℕ → Voice
  here n = turns.turn (get_or vs n blank_voice)

  front_on : (n : ℕ) → n < length vs → front (suc n) ≡ front n ++ (here n ∷ [])
  front_on n h = ap (map turns.turn) (take_one_more vs n blank_voice h) ∙ map_last turns.turn (take n vs) (get_or vs n blank_voice)

  -- a voice moves up where it stays and one before it leaves
  up_here : (n : ℕ) → n < length vs
      → cond {A = ℕ} (moves_up (to n) n) 1 0 ≡ cond (turns.leaves (here n)) 0 (cond (ltb (length (without turns.leaves (front n))) (length (front n))) 1 0)
  unfolding fate_of moves_up kept_of
  up_here n h = ap (λ (o : Option Voice). cond (moves_up (fate_of turns vs n o) n) 1 0) (look_some vs n blank_voice h) ∙ go (turns.leaves (here n))
    where
      long : length (front n) ≡ n
      long = length-map (take n vs) turns.turn ∙ length-take-le n vs (omega arith)

      go : (b : Bool) → cond {A = ℕ} (moves_up (cond b gone (at (length (without turns.leaves (front n))))) n) 1 0
          ≡ cond b 0 (cond (ltb (length (without turns.leaves (front n))) (length (front n))) 1 0)
      go true = refl
      go false = ap (λ (k : ℕ). cond (ltb (length (without turns.leaves (front n))) k) 1 0) (sym long)

  fates_up : (n : ℕ) → n ≤ length vs → up_of to n ≡ length (behind turns.leaves (front n))
  unfolding up_of behind
  fates_up zero h = refl
  fates_up (suc n) h =
      ap (λ (k : ℕ). k + cond (moves_up (to n) n) 1 0) (fates_up n (omega arith))
      ∙ ap (λ (k : ℕ). length (behind turns.leaves (front n)) + k) (up_here n h)
      ∙ sym (behind_last turns.leaves (front n) (here n))
      ∙ sym (ap (λ (l : List Voice). length (behind turns.leaves l)) (front_on n h))

  all_up : up_of to (length vs) ≡ tidied_of turns vs
  unfolding tidied_of
  all_up = fates_up (length vs) (le_refl (length vs)) ∙ ap (λ (l : List Voice). length (behind turns.leaves (map turns.turn l))) (take_all (length vs) vs (le_refl (length vs)))

-- a voice that stays stands before its own place exactly where one before it leaves
module _ (turns : Turning) (vs : List Voice) where
  fate_is : (n : ℕ) (v : Voice) → get_elem? vs n ≡ some v → fate_of turns vs n (get_elem? vs n) ≡ cond (turns.leaves (turns.turn v)) gone (at (length (without turns.leaves (front turns vs n))))
  unfolding fate_of kept_of
  fate_is n v e = ap (fate_of turns vs n) e

  front_long : (n : ℕ) → n ≤ length vs → length (front turns vs n) ≡ n
  front_long n h = length-map (take n vs) turns.turn ∙ length-take-le n vs h

  stays_at : (b : Bool) (a k : ℕ) → cond b gone (at a) ≡ at k → a ≡ k
  stays_at true a k h = absurd (gone_never k h)
  stays_at false a k h = at_same a k h

  leaves_so : (b : Bool) (a : ℕ) → cond b gone (at a) ≡ gone → b ≡ true
  leaves_so true a h = refl
  leaves_so false a h = absurd (gone_never a (sym h))

  fate_first : (n k : ℕ) (v : Voice) → get_elem? vs n ≡ some v → fate_of turns vs n (get_elem? vs n) ≡ at k
      → (k < n) ↔ ((i : ℕ) × (i < n) × (fate_of turns vs i (get_elem? vs i) ≡ gone))
  fate_first n k v e h = (to_gone, from_gone)
    where
      long : length (front turns vs n) ≡ n
      long = front_long n (omega (arith, look_below vs n v e))

      place : length (without turns.leaves (front turns vs n)) ≡ k
      place = stays_at (turns.leaves (turns.turn v)) _ k (sym (fate_is n v e) ∙ h)

      to_gone : k < n → (i : ℕ) × (i < n) × (fate_of turns vs i (get_elem? vs i) ≡ gone)
      to_gone o =
          let r = one_gone turns.leaves (front turns vs n) (omega (arith, o, place, long)) in
          let u = look_unmap turns.turn (take n vs) r.0 r.1 r.2 in
          let s = look_take vs n r.0 u.0 u.1 in
          (r.0, s.0, fate_is r.0 u.0 s.1 ∙ ap (λ (b : Bool). cond b gone (at (length (without turns.leaves (front turns vs r.0))))) (sym (ap turns.leaves u.2) ∙ r.3))

      from_gone : (i : ℕ) × (i < n) × (fate_of turns vs i (get_elem? vs i) ≡ gone) → k < n
      from_gone (i, o, g) =
          let s = look_some vs i blank_voice (omega (arith, o, look_below vs n v e)) in
          let q = leaves_so (turns.leaves (turns.turn (get_or vs i blank_voice))) _ (sym (fate_is i (get_or vs i blank_voice) s) ∙ g) in
          let f = without_fewer turns.leaves (front turns vs n) i (turns.turn (get_or vs i blank_voice)) (look_map turns.turn (take n vs) i (get_or vs i blank_voice) (look_before vs n i (get_or vs i blank_voice) o s)) q in
          omega (arith, f, place, long)

each_stays : (turns : Turning) (vs : List Voice) → ((n : ℕ) (v : Voice) → get_elem? vs n ≡ some v → fate_of turns vs n (get_elem? vs n) ≢ gone)
    → (n : ℕ) (u : Voice) → get_elem? (map turns.turn vs) n ≡ some u → turns.leaves u ≡ false
unfolding fate_of
each_stays turns vs h n u e =
    let v = look_unmap turns.turn vs n u e in
    ap turns.leaves v.2 ∙ go (turns.leaves (turns.turn v.0)) refl (subst (λ (o : Option Voice). fate_of turns vs n o ≢ gone) v.1 (h n v.0 v.1))
  where
    go : (b : Bool) → turns.leaves (turns.turn (look_unmap turns.turn vs n u e).0) ≡ b
        → cond (turns.leaves (turns.turn (look_unmap turns.turn vs n u e).0)) gone (at (length (kept_of turns (take n vs)))) ≢ gone → turns.leaves (turns.turn (look_unmap turns.turn vs n u e).0) ≡ false
    go false e' k = e'
    go true e' k = absurd (k (ap (λ (b : Bool). cond b gone (at (length (kept_of turns (take n vs))))) e'))

-- ---- a sample of a channel
module _ (p : Params) (x : Float) (m : List ℕ) (c : Channel) where
  sounds_up : up_of (follow (sounds p x m) c) (length (live c)) ≡ (channel_sample_of p x c m).moved
  unfolding follow
  sounds_up = all_up (turns_in p x m c) (live c) ∙ sym (step_moved p x m c) ∙ ap (λ (r : Played). r.moved) (step_same p x c m)

  -- where none leaves
  sounds_none : ((n : ℕ) (v : Voice) → voice_at c n ≡ some v → follow (sounds p x m) c n ≢ gone) → up_of (follow (sounds p x m) c) (length (live c)) ≡ 0
  unfolding follow tidied_of
  sounds_none h =
      let turns = turns_in p x m c in
      all_up turns (live c) ∙ ap length (behind_none turns.leaves (map turns.turn (live c)) (each_stays turns (live c) h))

  -- and on an empty recording none does
  silent : ((n : ℕ) (v : Voice) → voice_at c n ≡ some v → empty_at m c v ≡ true) → up_of (follow (sounds p x m) c) (length (live c)) ≡ 0
  unfolding follow fate_of
  silent empty =
      sounds_none (λ n v s g.
      let stays : follow (sounds p x m) c n ≡ at (length (kept_of (turns_in p x m c) (take n (live c)))) = rw (s, own_leaves p x m c v, empty n v s) in
      gone_never _ (sym g ∙ stays))

-- ---- calls
event_none : (e : Event) (c : Channel) → ((n : ℕ) (v : Voice) → voice_at c n ≡ some v → follow e c n ≢ gone) → up_of (follow e c) (length (live c)) ≡ 0
unfolding follow moves_up
event_none idle c h = idle_up c (length (live c))
event_none (changes d) c h = up_none (follow (changes d) c) (length (live c)) (λ n. go n (is_reset (changes d)))
  where
    go : (n : ℕ) (b : Bool) → moves_up (cond b gone (at n)) n ≡ false
    go n true = refl
    go n false = ltb_self n
event_none (gathers m) c h = idle_up c (length (live c))
event_none (sounds p x m) c h = sounds_none p x m c h

-- nothing leaves where all stay at their places
put_first : (n k : ℕ) → at n ≡ at k → (k < n) ↔ ((i : ℕ) × (i < n) × (at i ≡ gone))
put_first n k h = ((λ o. absurd (omega (arith, o, at_same n k h))), (λ g. absurd (gone_never g.0 (sym g.2))))

event_first : (e : Event) (c : Channel) (n k : ℕ) (v : Voice) → voice_at c n ≡ some v → follow e c n ≡ at k → (k < n) ↔ ((i : ℕ) × (i < n) × (follow e c i ≡ gone))
unfolding follow
event_first idle c n k v e h = put_first n k h
event_first (changes d) c n k v e h = go (is_reset (changes d)) h
  where
    go : (b : Bool) → cond b gone (at n) ≡ at k → (k < n) ↔ ((i : ℕ) × (i < n) × (cond b gone (at i) ≡ gone))
    go true h = absurd (gone_never k h)
    go false h = put_first n k h
event_first (gathers m) c n k v e h = put_first n k h
event_first (sounds p x m) c n k v e h = fate_first (turns_in p x m c) (live c) n k v e h

-- ---- sums
module _ (f g : ℕ → ℕ) where
  sum_same : (n i : ℕ) → ((j : ℕ) → j < i + n → f j ≡ g j) → sum_from f n i ≡ sum_from g n i
  unfolding sum_from
  sum_same zero i h = refl
  sum_same (suc n) i h = λ t. h i (omega arith) t + sum_same n (i + 1) (λ j k. h j (omega arith)) t

sum_few : (f : ℕ → ℕ) (n i : ℕ) → ((j : ℕ) → j < i + n → f j ≤ 31) → sum_from f n i ≤ n * 31
unfolding sum_from
sum_few f zero i h = zero-le
sum_few f (suc n) i h = let a = h i (omega arith) in let b = sum_few f n (i + 1) (λ j k. h j (omega arith)) in omega arith

sum_none : (n i : ℕ) → sum_from (λ (j : ℕ). 0) n i ≡ 0
unfolding sum_from
sum_none zero i = refl
sum_none (suc n) i = zero-add _ ∙ sum_none n (i + 1)

-- ---- of a good record each channel has at most 32 voices
live_few : (s : Sampler) (size : ℕ) → good_with s size ≡ true → (j : ℕ) → j < s.count → length (live (channel_at s j)) ≤ 32
unfolding good_with
live_few s size g j h = few_live s j (both (good_sampler s) (leb (s.count * s.capacity) size) g).0 h

sample_good : (s : Sampler) (j : ℕ) (p : Params) (size : ℕ) → sample_number s j p size ≡ 0 → good_with s size ≡ true
unfolding sample_judged
sample_good s j p size h = is_true (good_with s size) (passed (not (good_with s size)) Broken _ h).0

frame_good : (s : Sampler) (n : ℕ) (p : Params) (size : ℕ) → frame_number s n p size ≡ 0 → good_with s size ≡ true
unfolding frame_judged
frame_good s n p size h = is_true (good_with s size) (passed (not (good_with s size)) Broken _ h).0

module _ (w : World) where
  abbrev s : Sampler
  s = w.sampler

  abbrev mem : List ℕ
  mem = w.memory

  -- the count of the sample of channel j, made on the channel as it is
  abbrev own : Params → Float → ℕ → ℕ
  own p x j = (channel_sample_of p x (channel_at s j) (part_of s j mem)).moved

  own_few : (p : Params) (x : Float) (j : ℕ) → good_with s (length mem) ≡ true → j < s.count → own p x j ≤ 31
  own_few p x j g h = moved_few p x (channel_at s j) (part_of s j mem) (live_few s (length mem) g j h)

  sample_up : (j : ℕ) (x : Float) (p : Params) → (process_sample_of s j x p mem).moved ≡ up_in w (sample j x p) j
  unfolding process_sample_of moved_at played_at event call_judged done_to
  sample_up j x p = go (is_ok (sample_judged s j p (length mem))) (eqb j j) (eq-eqb j j refl)
    where
      go : (a b : Bool) → b ≡ true → cond a (own p x j) 0 ≡ up_of (follow (cond a (cond b (sounds p x (own_part w j)) idle) idle) (chan w j)) (length (live (chan w j)))
      go false b e = sym (idle_up (chan w j) (length (live (chan w j))))
      go true true e = sym (sounds_up p x (own_part w j) (chan w j))
      go true false e = absurd (true≢false (sym e))

  sample_few : (j : ℕ) (x : Float) (p : Params) → (process_sample_of s j x p mem).moved ≤ 31
  unfolding process_sample_of moved_at played_at
  sample_few j x p = go (is_ok (sample_judged s j p (length mem))) refl
    where
      go : (a : Bool) → is_ok (sample_judged s j p (length mem)) ≡ a → cond a (own p x j) 0 ≤ 31
      go false e = zero-le
      go true e =
          let z = zero_at (sample_judged s j p (length mem)) e in
          own_few p x j (sample_good s j p (length mem) z) (sample_reaches s p (length mem) j z).0.below

  module _ (xs : List Float) (p : Params) where
    abbrev each : ℕ → ℕ
    each j = own p (get_or xs j zero32) j

    accepted_sum : frame_number s (length xs) p (length mem) ≡ 0 → frame_moved s xs p mem ≡ sum_from each (length xs) 0
    unfolding frame_moved
    accepted_sum z =
        ap (λ (b : Bool). cond b (entries_moved p (length xs) 0 (framed s xs mem)) 0) (done_at (frame_judged s (length xs) p (length mem)) z) ∙ frame_moved_lem s xs p mem (frame_steps s (length xs) p (length mem) z)

    refused_sum : is_ok (frame_judged s (length xs) p (length mem)) ≡ false → frame_moved s xs p mem ≡ 0
    unfolding frame_moved
    refused_sum e = ap (λ (b : Bool). cond b (entries_moved p (length xs) 0 (framed s xs mem)) 0) e

    frame_up : frame_moved s xs p mem ≡ sum_from (up_in w (frame xs p)) (length xs) 0
    unfolding event call_judged done_to
    frame_up = go (is_ok (frame_judged s (length xs) p (length mem))) refl
      where
        here : (j : ℕ) (b : Bool) → b ≡ true → each j ≡ up_of (follow (cond b (sounds p (get_or xs j zero32) (own_part w j)) idle) (chan w j)) (length (live (chan w j)))
        here j true e = sym (sounds_up p (get_or xs j zero32) (own_part w j) (chan w j))
        here j false e = absurd (true≢false (sym e))

        go : (a : Bool) → is_ok (frame_judged s (length xs) p (length mem)) ≡ a
            → frame_moved s xs p mem ≡ sum_from (λ (j : ℕ). up_of (follow (cond a (cond (ltb j (length xs)) (sounds p (get_or xs j zero32) (own_part w j)) idle) idle) (chan w j)) (length (live (chan w j)))) (length xs) 0
        go false e = refused_sum e ∙ sym (sum_none (length xs) 0) ∙ sum_same _ _ (length xs) 0 (λ j k. sym (idle_up (chan w j) (length (live (chan w j)))))
        go true e = accepted_sum (zero_at _ e) ∙ sum_same _ _ (length xs) 0 (λ j k. here j (ltb j (length xs)) (lt-ltb j (length xs) (omega (arith, zero-add (length xs)))))

    frame_few : frame_moved s xs p mem ≤ 62
    frame_few = go (is_ok (frame_judged s (length xs) p (length mem))) refl
      where
        go : (a : Bool) → is_ok (frame_judged s (length xs) p (length mem)) ≡ a → frame_moved s xs p mem ≤ 62
        go false e = le_trans (le_of_eq (refused_sum e)) zero-le
        go true e =
            let z = zero_at (frame_judged s (length xs) p (length mem)) e in
            let few = sum_few each (length xs) 0 (λ j k. own_few p (get_or xs j zero32) j (frame_good s (length xs) p (length mem) z) (le_trans k (le_trans (le_of_eq (zero-add (length xs))) (frame_reaches s p (length mem) (length xs) z).0))) in
            omega (arith, few, accepted_sum z, (frame_steps s (length xs) p (length mem) z).below)

  refused_none : (c : Call) → code w c ≢ 0 → (j : ℕ) → up_in w c j ≡ 0
  unfolding event
  refused_none c n j = ap (λ (b : Bool). up_of (follow (cond b (done_to w c j) idle) (chan w j)) (length (live (chan w j)))) (refused_at (call_judged w c) n) ∙ idle_up (chan w j) (length (live (chan w j)))

  empty_none : (j : ℕ) (x : Float) (p : Params) → ((n : ℕ) (v : Voice) → voice_at (chan w j) n ≡ some v → empty_at (own_part w j) (chan w j) v ≡ true) → up_in w (sample j x p) j ≡ 0
  unfolding event done_to
  empty_none j x p e = go (is_ok (call_judged w (sample j x p))) (eqb j j)
    where
      go : (a b : Bool) → up_of (follow (cond a (cond b (sounds p x (own_part w j)) idle) idle) (chan w j)) (length (live (chan w j))) ≡ 0
      go false b = idle_up (chan w j) (length (live (chan w j)))
      go true false = idle_up (chan w j) (length (live (chan w j)))
      go true true = silent p x (own_part w j) (chan w j) e

-- ---- all of it
pub tidying : (w : World) → Tidying w
unfolding call_judged
tidying w = record {
  kept_behind = λ j x p r h. ap (λ (a : SampleAnswer). a.moved) h.0 ∙ sample_up w j x p;
  behind_first = λ c j n k v e h. event_first (event w c j) (chan w j) n k v e h;
  bound = λ j x p r h. le_trans (le_of_eq (ap (λ (a : SampleAnswer). a.moved) h.0)) (sample_few w j x p);
  frame_sum = λ xs p r h. h.2 ∙ frame_up w xs p;
  frame_bound = λ xs p r h. le_trans (le_of_eq h.2) (frame_few w xs p);
  none = λ c j h. event_none (event w c j) (chan w j) h;
  refused = λ c n j. refused_none w c n j;
  empty = λ j x p h. empty_none w j x p h;
}

-- ---- the old removal, of an accepted sample
pub standing_old : (w : World) → Standing w → (j : ℕ) → j < w.sampler.count → OldRemoval w j
unfolding act kept_of
standing_old w st j k = record {
  lists = λ s p x m e.
      ap live (next w st j k s ∙ ap (λ (d : Event). act d (chan w j)) e) ∙ live_sounded p x m (chan w j) (st.housing j k)
      ∙ sym (old_removal (turns_in p x m (chan w j)).leaves (all_turned p x m (chan w j)));
  outputs = λ s p x m e. (standing_demand3 w st j k).hears s p x m e ∙ ap (mul binary32 p.volume) (step_output p x m (chan w j));
}
