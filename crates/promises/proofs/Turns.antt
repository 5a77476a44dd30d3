-- A run of frames is its frame calls, one after the other: testing record, memory and parameters once equals testing them at each frame. Assumes nothing.
use mathlib.Core.Path.{◌≡◌, refl, sym, ap, ◌∙◌, subst}
use mathlib.Core.Logic.{◌⊎◌, inl, inr}
use mathlib.Core.Bool.{Bool, true, false, not, cond, ◌||◌}
use mathlib.Core.List.{List, [], ◌∷◌, ◌++◌, append_assoc}
use Prim.Native.Nat.{ℕ, zero, suc, ◌+◌, ◌-◌, ◌*◌, ◌/◌, ◌%◌, ◌≤◌, ◌<◌, min, max, zero-le}
use native.Mathlib.Nat.{le_refl, le_trans, le_of_eq, suc-mul, zero-mul, zero-add, min-le_right}
use native.Mathlib.Omega.{arith}
use borrow.Author.Tests.{leb-false, ltb-true, lt-leb, lt-ltb, le-ltb}
use lib.Dec.{leb, ltb, eqb}
use lib.ListN.{length, take, drop, get_or, length-drop}
use lib.Seq.{length-take-le, get_or-take, drop-drop}
use lib.Ieee.{Float}
use Rattle.std.specs.List.{list_any, fold}
use Rattle.std.specs.Prelude.{Result, Ok}
use Rattle.refusals.specs.declared.Refusal.{Refusal}
use Rattle.refusals.specs.declared.Refusal.TheVariants.{BeyondLimits, ClockEnd, Broken, BadRun}
use Rattle.refusals.specs.Refusals.{code_of, row}
use Rattle.refusals.proofs.Codes.{done_at, coded}
use Rattle.walks.proofs.Lists.Every.{both}
use Rattle.binary32.specs.Leaves.{zero32}
use Rattle.binary32.proofs.Truth.{no}
use Rattle.common_types.specs.declared.Params.{Params}
use Rattle.common_types.specs.Settings.{beyond_limits}
use Rattle.voice.specs.Soundness.{FittingParams}
use Rattle.channel.specs.declared.Channel.{Channel}
use Rattle.channel.specs.Heads.{last_time}
use Rattle.channel.specs.Channels.{channel_of}
use Rattle.channel.specs.Channels.{process_sample_of as channel_sample_of}
use Rattle.channel.proofs.Parts.{parts}
use Rattle.sampler.specs.declared.Sampler.{Sampler}
use Rattle.sampler.specs.Refusals.{present, channel_at, good_sampler, good_with, at_end, later_of, latest_of, frames_left, frame_judged, run_judged, run_number, done_of, begun}
use Rattle.sampler.specs.Samplers.{Steps, Turns, part_of, Framed, framed, entry_of, entries_of, framed_of, frames_of, ran_of}
use Rattle.sampler.specs.Soundness.{FittingSampler, SoundSampler}
use Rattle.sampler.proofs.Rows.{fitting}
use Rattle.sampler.proofs.RunRows.{run_begins, done_turns}
use Rattle.sampler.proofs.Entries.{Kept, kept_refl, kept_trans, kept_entries, memory_at_length, entries_keep}
use Rattle.sampler.proofs.Kept.{channel_sound, frame_kept}
use Rattle.fates.specs.Events.{sounds, act}
use Rattle.fates.specs.Places.{Housed}
use Rattle.fates.proofs.Clocks.{clock_moves}
use Rattle.fates.proofs.Housing.{housed}
use Rattle.promises.specs.Runs.{World, frame, call_judged, code, after, run, chan, own_part, done_to, event, Made, one, frames, frames_done, frame_calls, spread, made, makes, played_in, played_by, Accepted}
use Rattle.promises.specs.Demands.{InTurn}
use Rattle.promises.proofs.Apart.{frame_channel}
use Rattle.promises.proofs.Calls.{Standing, chan_after, kept, kept_run, standing_after}
use Rattle.promises.proofs.Accepted.{any_at, any_none}
use Rattle.promises.proofs.Engine.{sounds_same}
use Rattle.promises.proofs.Whole.{memory_after}

-- ---- the largest clock
abbrev none : Channel
none = channel_of (record { auto_passthru = false })

latest_most : (b t : ℕ) (cs : List Channel) → t ≤ b → ((j : ℕ) → j < length cs → (get_or cs j none).head.now ≤ b) → fold later_of t cs ≤ b
latest_most b t [] h k = h
latest_most b t (c ∷ cs) h k = latest_most b (max t c.head.now) cs (omega (arith, k 0 (omega arith))) (λ j q. k (suc j) (omega arith))

latest_from : (t : ℕ) (cs : List Channel) → t ≤ fold later_of t cs
latest_from t [] = le_refl t
latest_from t (c ∷ cs) = omega (arith, latest_from (max t c.head.now) cs)

latest_at : (t : ℕ) (cs : List Channel) (j : ℕ) → j < length cs → (get_or cs j none).head.now ≤ fold later_of t cs
latest_at t [] j h = absurd (omega arith)
latest_at t (c ∷ cs) zero h = omega (arith, latest_from (max t c.head.now) cs)
latest_at t (c ∷ cs) (suc j) h = latest_at (max t c.head.now) cs j (omega arith)

-- the same of the channels in use
module _ (w : World) (st : Standing w) where
  in_use : length (present w.sampler) ≡ w.sampler.count
  in_use = length-take-le w.sampler.count w.sampler.channels (omega (arith, st.two, st.few))

  latest : ℕ
  latest = latest_of (present w.sampler)

  at_most : (b : ℕ) → ((j : ℕ) → j < w.sampler.count → (chan w j).head.now ≤ b) → latest ≤ b
  unfolding latest latest_of
  at_most b h =
      latest_most b 0 (present w.sampler) zero-le
      (λ j k. subst (λ (c : Channel). c.head.now ≤ b) (sym (get_or-take w.sampler.count w.sampler.channels j none (omega (arith, in_use)))) (h j (omega (arith, in_use))))

  at_least : (j : ℕ) → j < w.sampler.count → (chan w j).head.now ≤ latest
  unfolding latest latest_of
  at_least j k =
      subst (λ (c : Channel). c.head.now ≤ fold later_of 0 (present w.sampler)) (get_or-take w.sampler.count w.sampler.channels j none k)
      (latest_at 0 (present w.sampler) j (omega (arith, in_use)))

  -- some room: no clock stands at its end
  early : 0 < frames_left w.sampler → (j : ℕ) → j < w.sampler.count → (chan w j).head.now < last_time
  unfolding frames_left latest
  early h j k = omega (arith, at_least j k)

  none_at_end : 0 < frames_left w.sampler → list_any at_end (present w.sampler) ≡ false
  none_at_end h =
      any_none at_end (present w.sampler) none
      (λ j k. ap at_end (get_or-take w.sampler.count w.sampler.channels j none (omega (arith, in_use))) ∙ lt-leb last_time (chan w j).head.now (early h j (omega (arith, in_use))))

  -- no room: some clock does
  some_at_end : frames_left w.sampler ≡ 0 → list_any at_end (present w.sampler) ≡ true
  unfolding frames_left latest
  some_at_end h = go (list_any at_end (present w.sampler)) refl
    where
      below : list_any at_end (present w.sampler) ≡ false → (j : ℕ) → j < w.sampler.count → (chan w j).head.now ≤ last_time - 1
      below e j k =
          let b : (chan w j).head.now < last_time
          = leb-false last_time (chan w j).head.now (ap at_end (sym (get_or-take w.sampler.count w.sampler.channels j none k)) ∙ any_at at_end (present w.sampler) j none e (omega (arith, in_use))) in
          omega arith

      go : (b : Bool) → list_any at_end (present w.sampler) ≡ b → b ≡ true
      go true e = refl
      go false e = absurd (omega (arith, at_most (last_time - 1) (below e)))

-- ---- a record on which frame calls with these parameters are refused only for the clock
record Open (w : World) (p : Params) : Type 0 where
  standing : Standing w
  sound : SoundSampler w.sampler
  good : good_with w.sampler (length w.memory) ≡ true
  within : beyond_limits p ≡ false
  floats : FittingParams p

module _ (w : World) (p : Params) (o : Open w p) (xs : List Float) (n : length xs ≡ w.sampler.count) where
  rows : (b : Bool) → list_any at_end (present w.sampler) ≡ b → code w (frame xs p) ≡ cond b 6 0
  unfolding call_judged frame_judged
  rows b e =
      let few : ltb w.sampler.count (length xs) ≡ false = le-ltb w.sampler.count (length xs) (le_of_eq n) in
      let ends : list_any at_end (take (length xs) w.sampler.channels) ≡ b = ap (λ (k : ℕ). list_any at_end (take k w.sampler.channels)) n ∙ e in
      rw (o.good, few, o.within, ends) (coded b ClockEnd (Ok tt))

  refused : frames_left w.sampler ≡ 0 → code w (frame xs p) ≡ 6
  refused z = rows true (some_at_end w o.standing z)

  module _ (room : 0 < frames_left w.sampler) where
    accepted : code w (frame xs p) ≡ 0
    accepted = rows false (none_at_end w o.standing room)

    abbrev on : World
    on = after w (frame xs p)

    framed_is : framed_of w.sampler xs p w.memory ≡ entries_of p (length xs) 0 (framed w.sampler xs w.memory)
    unfolding framed_of call_judged
    framed_is = rw (done_at (call_judged w (frame xs p)) accepted)

    same_count : on.sampler.count ≡ w.sampler.count
    same_count = (kept w (frame xs p)).count

    standing_on : Standing on
    standing_on = standing_after w (frame xs p) o.standing

    sounded : (j : ℕ) → j < w.sampler.count → event w (frame xs p) j ≡ sounds p (get_or xs j zero32) (own_part w j)
    unfolding event done_to
    sounded j k = rw (done_at (call_judged w (frame xs p)) accepted, lt-ltb j (length xs) (omega (arith, n)))

    clock_on : (j : ℕ) → j < w.sampler.count → (chan on j).head.now ≡ (chan w j).head.now + 1
    clock_on j k =
        ap (λ (c : Channel). c.head.now) (chan_after w o.standing.two o.standing.few j k (frame xs p) ∙ ap (λ e. act e (chan w j)) (sounded j k))
        ∙ clock_moves p (get_or xs j zero32) (own_part w j) (chan w j) (early w o.standing room j k)

    some : 0 < w.sampler.count
    some = (fitting w.sampler (length w.memory) o.good).some

    latest_on : latest on standing_on ≡ latest w o.standing + 1
    latest_on =
        let up : latest on standing_on ≤ latest w o.standing + 1
        = at_most on standing_on (latest w o.standing + 1) (λ j k. omega (arith, clock_on j (omega (arith, same_count)), at_least w o.standing j (omega (arith, same_count)))) in
        let one : (chan w 0).head.now + 1 ≤ latest on standing_on = omega (arith, clock_on 0 some, at_least on standing_on 0 (omega (arith, same_count, some))) in
        let down : latest w o.standing ≤ latest on standing_on - 1
        = at_most w o.standing (latest on standing_on - 1) (λ j k. omega (arith, clock_on j k, at_least on standing_on j (omega (arith, same_count)))) in
        omega arith

    room_on : suc (frames_left on.sampler) ≡ frames_left w.sampler
    unfolding frames_left latest
    room_on = omega (arith, latest_on)

    open_on : Open on p
    unfolding good_with after
    open_on =
        let k = kept w (frame xs p) in
        let s = frame_kept w.sampler o.sound xs p w.memory o.floats in
        let g = (both (good_sampler w.sampler) (leb (w.sampler.count * w.sampler.capacity) (length w.memory)) o.good).1 in
        record {
          standing = standing_on;
          sound = s;
          good = rw s.good (subst (λ (z : ℕ). leb z (length (after w (frame xs p)).memory) ≡ true) (sym (λ t. k.count t * k.capacity t)) (subst (λ (z : ℕ). leb (w.sampler.count * w.sampler.capacity) z ≡ true) (sym (memory_after w (frame xs p))) g));
          within = o.within;
          floats = o.floats;
        }

-- ---- k frames
abbrev world_of : Framed → World
world_of f = record { sampler = f.sampler; memory = f.memory }

record Done (w : World) (p : Params) (n k : ℕ) (xs : List Float) : Type 0 where
  leaves : world_of (frames_of p k (framed w.sampler xs w.memory)) ≡ run w (frame_calls p n k xs)
  entries : (frames_of p k (framed w.sampler xs w.memory)).frame ≡ played_by w (frame_calls p n k xs) ++ drop (k * n) xs
  accepted : Accepted w (frame_calls p n k xs)
  room : k + frames_left (run w (frame_calls p n k xs)).sampler ≡ frames_left w.sampler
  still : Open w p → Open (run w (frame_calls p n k xs)) p

done_none : (w : World) (p : Params) (n : ℕ) (xs : List Float) → Done w p n 0 xs
unfolding frames_of frame_calls run played_by Accepted
done_none w p n xs = record {
  leaves = refl;
  entries = ap (λ (a : ℕ). drop a xs) (sym (zero-mul n));
  accepted = tt;
  room = zero-add (frames_left w.sampler);
  still = λ o. o;
}

-- one frame more, in front
module _ (p : Params) (n k : ℕ) (w : World) (xs : List Float) (e : w.sampler.count ≡ n) (o : Open w p) (h : suc k ≤ frames_left w.sampler) (l : suc k * n ≤ length xs) where
  abbrev ys : List Float
  ys = take n xs

  long : suc k * n ≡ n + k * n
  long = suc-mul k n ∙ omega arith

  ys_long : length ys ≡ n
  ys_long = length-take-le n xs (omega (arith, long, l))

  ys_count : length ys ≡ w.sampler.count
  ys_count = ys_long ∙ sym e

  some_room : 0 < frames_left w.sampler
  some_room = omega (arith, h)

  abbrev next : World
  next = after w (frame ys p)

  abbrev f : Framed
  f = framed_of w.sampler ys p w.memory

  next_count : next.sampler.count ≡ n
  next_count = same_count w p o ys ys_count some_room ∙ e

  next_open : Open next p
  next_open = open_on w p o ys ys_count some_room

  next_room : k ≤ frames_left next.sampler
  next_room = omega (arith, h, room_on w p o ys ys_count some_room)

  next_entries : k * n ≤ length (drop n xs)
  next_entries = omega (arith, length-drop n xs, long, l)

  first : entries_of p w.sampler.count 0 (framed w.sampler (take w.sampler.count xs) w.memory) ≡ f
  first =
      ap (λ (c : ℕ). entries_of p c 0 (framed w.sampler (take c xs) w.memory)) e
      ∙ ap (λ (c : ℕ). entries_of p c 0 (framed w.sampler (take n xs) w.memory)) (sym ys_long)
      ∙ sym (framed_is w p o ys ys_count some_room)

  all : frames_of p (suc k) (framed w.sampler xs w.memory)
      ≡ (let r = frames_of p k (framed f.sampler (drop n xs) f.memory) in framed r.sampler (f.frame ++ r.frame) r.memory)
  unfolding frames_of
  all =
      ap (λ (g : Framed). let r = frames_of p k (framed g.sampler (drop w.sampler.count xs) g.memory) in framed r.sampler (g.frame ++ r.frame) r.memory) first
      ∙ ap (λ (c : ℕ). let r = frames_of p k (framed f.sampler (drop c xs) f.memory) in framed r.sampler (f.frame ++ r.frame) r.memory) e

  behind : drop (k * n) (drop n xs) ≡ drop (suc k * n) xs
  behind = drop-drop (k * n) n xs ∙ ap (λ (a : ℕ). drop a xs) (sym long)

  one_more : Done next p n k (drop n xs) → Done w p n (suc k) xs
  unfolding frame_calls run played_by played_in Accepted after
  one_more ih = record {
    leaves = ap world_of all ∙ ih.leaves;
    entries = ap (λ (g : Framed). g.frame) all
        ∙ ap (λ (l : List Float). f.frame ++ l) ih.entries
        ∙ sym (append_assoc f.frame (played_by next (frame_calls p n k (drop n xs))) (drop (k * n) (drop n xs)))
        ∙ ap (λ (l : List Float). (f.frame ++ played_by next (frame_calls p n k (drop n xs))) ++ l) behind;
    accepted = (accepted w p o ys ys_count some_room, ih.accepted);
    room = omega (arith, ih.room, room_on w p o ys ys_count some_room);
    still = λ q. ih.still (open_on w p q ys ys_count some_room);
  }

frames_done_lem : (p : Params) (n k : ℕ) (w : World) (xs : List Float) → w.sampler.count ≡ n → Open w p → k ≤ frames_left w.sampler → k * n ≤ length xs → Done w p n k xs
frames_done_lem p n zero w xs e o h l = done_none w p n xs
frames_done_lem p n (suc k) w xs e o h l =
    one_more p n k w xs e o h l
    (frames_done_lem p n k (next p n k w xs e o h l) (drop n xs) (next_count p n k w xs e o h l) (next_open p n k w xs e o h l) (next_room p n k w xs e o h l) (next_entries p n k w xs e o h l))

-- ---- rows 9 and 4 of a run are those of a frame
alike_rows : (a b c d e : Bool) (n : ℕ) → code_of (row a Broken (row b BadRun (row c BeyondLimits (row d ClockEnd (Ok (tt {0})))))) ≡ n → (n ≡ 9) ⊎ (n ≡ 4) → code_of (row a Broken (row c BeyondLimits (row e ClockEnd (Ok (tt {0}))))) ≡ n
alike_rows true b c d e n h k = h
alike_rows false true c d e n h (inl k) = absurd (omega arith)
alike_rows false true c d e n h (inr k) = absurd (omega arith)
alike_rows false false true d e n h k = h
alike_rows false false false true e n h (inl k) = absurd (omega arith)
alike_rows false false false true e n h (inr k) = absurd (omega arith)
alike_rows false false false false e n h (inl k) = absurd (omega arith)
alike_rows false false false false e n h (inr k) = absurd (omega arith)

alike : (w : World) (xs : List Float) (p : Params) (n : ℕ) → run_number w.sampler (length xs) p (length w.memory) ≡ n → (n ≡ 9) ⊎ (n ≡ 4)
    → (ys : List Float) → length ys ≡ w.sampler.count → code w (frame ys p) ≡ n
unfolding call_judged frame_judged run_judged
alike w xs p n h k ys l =
    let few : ltb w.sampler.count (length ys) ≡ false = le-ltb w.sampler.count (length ys) (le_of_eq l) in
    rw few
    (alike_rows (not (good_with w.sampler (length w.memory))) (not (eqb (length xs % w.sampler.count) 0)) (beyond_limits p) (ltb (frames_left w.sampler) (length xs / w.sampler.count)) (list_any at_end (take (length ys) w.sampler.channels)) n h k)

-- ---- with 6 the frames that are done use up the room
module _ (w : World) (xs : List Float) (p : Params) (six : run_number w.sampler (length xs) p (length w.memory) ≡ 6) where
  pub six_works : begun (run_judged w.sampler (length xs) p (length w.memory)) ≡ true
  six_works = ap (λ (n : ℕ). eqb n 0 || eqb n 6) six

  tests : (a b c d : Bool) → code_of (row a Broken (row b BadRun (row c BeyondLimits (row d ClockEnd (Ok (tt {0})))))) ≡ 6 → d ≡ true
  tests true b c d h = absurd (omega arith)
  tests false true c d h = absurd (omega arith)
  tests false false true d h = absurd (omega arith)
  tests false false false true h = refl
  tests false false false false h = absurd (omega arith)

  more : frames_left w.sampler < length xs / w.sampler.count
  unfolding run_judged
  more = ltb-true (frames_left w.sampler) (length xs / w.sampler.count) (tests (not (good_with w.sampler (length w.memory))) (not (eqb (length xs % w.sampler.count) 0)) (beyond_limits p) (ltb (frames_left w.sampler) (length xs / w.sampler.count)) six)

  pub all_room : frames_done w xs p ≡ frames_left w.sampler
  unfolding done_of
  all_room = rw six_works (short (length xs / w.sampler.count) (frames_left w.sampler) more)
    where
      short : (a b : ℕ) → b < a → min a b ≡ b
      short a b h = omega arith

-- ---- a run
sound_stands : (w : World) → SoundSampler w.sampler → w.sampler.count ≤ 2 → Standing w
sound_stands w h few = record {
  two = h.fitting.seats;
  few = few;
  housing = λ j k. let c = parts (channel_sound w.sampler h j k) in record { places = c.places; room = c.few };
}

module _ (w : World) (fits : FittingSampler w.sampler) (xs : List Float) (p : Params) (floats : FittingParams p) where
  judgement : Result (Unit {0}) Refusal
  judgement = run_judged w.sampler (length xs) p (length w.memory)

  opens : begun judgement ≡ true → Open w p
  unfolding judgement good_with
  opens e =
      let b = run_begins w.sampler (length xs) p (length w.memory) e in
      let g = (both (good_sampler w.sampler) (leb (w.sampler.count * w.sampler.capacity) (length w.memory)) b.good).0 in
      let s : SoundSampler w.sampler = record { good = g; fitting = fits } in
      record { standing = sound_stands w s (fitting w.sampler (length w.memory) b.good).few; sound = s; good = b.good; within = b.within; floats = floats }

  done_least : frames_done w xs p ≤ frames_left w.sampler
  unfolding done_of
  done_least = go (begun (run_judged w.sampler (length xs) p (length w.memory)))
    where
      go : (b : Bool) → cond b (min (length xs / w.sampler.count) (frames_left w.sampler)) 0 ≤ frames_left w.sampler
      go true = min-le_right (length xs / w.sampler.count) (frames_left w.sampler)
      go false = zero-le

  done : Done w p w.sampler.count (frames_done w xs p) xs
  unfolding judgement done_of
  done = go (begun judgement) refl
    where
      nothing : begun judgement ≡ false → frames_done w xs p ≡ 0
      nothing e = rw e

      go : (b : Bool) → begun judgement ≡ b → Done w p w.sampler.count (frames_done w xs p) xs
      go true e = frames_done_lem p w.sampler.count (frames_done w xs p) w xs refl (opens e) done_least (done_turns w.sampler (length xs) p (length w.memory)).entries
      go false e = subst (λ (k : ℕ). Done w p w.sampler.count k xs) (sym (nothing e)) (done_none w p w.sampler.count xs)

  pub in_turn : InTurn w xs p
  unfolding spread made ran_of judgement
  in_turn = record {
    leaves = done.leaves;
    entries = done.entries;
    accepted = done.accepted;
    next = λ e ys l.
        let cs = frame_calls p w.sampler.count (frames_done w xs p) xs in
        refused (run w cs) p (done.still (opens (six_works w xs p e))) ys (l ∙ sym (kept_run w cs).count) (omega (arith, done.room, all_room w xs p e));
    alike = alike w xs p;
  }

-- ---- what a run of any parameters keeps
kept_frames : (p : Params) (k : ℕ) (f : Framed) → Kept f.sampler (frames_of p k f).sampler
unfolding frames_of
kept_frames p zero f = kept_refl f.sampler
kept_frames p (suc k) f =
    let n = f.sampler.count in
    let g = entries_of p n 0 (framed f.sampler (take n f.frame) f.memory) in
    kept_trans f.sampler g.sampler _ (kept_entries p n 0 (framed f.sampler (take n f.frame) f.memory)) (kept_frames p k (framed g.sampler (drop n f.frame) g.memory))

pub kept_made : (w : World) (h : Made) → Kept w.sampler (made w h).sampler
unfolding made ran_of
kept_made w (one c) = kept w c
kept_made w (frames xs p) = kept_frames p (frames_done w xs p) (framed w.sampler xs w.memory)

-- it stands, and its memory keeps its length
record Stands (f g : Framed) : Type 0 where
  standing : Standing (world_of g)
  whole : length g.memory ≡ length f.memory

module _ (p : Params) (ok : beyond_limits p ≡ false) where
  entries_stand : (s : Sampler) (ys : List Float) (m : List ℕ) → Standing (world_of (framed s ys m)) → length ys ≤ s.count → Steps s (length ys) (length m)
      → Stands (framed s ys m) (entries_of p (length ys) 0 (framed s ys m))
  unfolding entry_of
  entries_stand s ys m st few h =
      let k = kept_entries p (length ys) 0 (framed s ys m) in
      record {
        standing = record {
          two = k.channels ∙ st.two;
          few = omega (arith, k.count, st.few);
          housing = λ j i. subst Housed (sym (frame_channel s ys p m h j (omega (arith, k.count, st.two, st.few)))) (seat j (omega (arith, k.count)) (ltb j (length ys)));
        };
        whole = entries_keep (λ (f : Framed). length f.memory ≡ length m) p (λ t j f r e. kept_length j f r.part e) (no ok) (length ys) 0 (framed s ys m)
            (le_trans (le_of_eq (zero-add (length ys))) few) (le_trans (le_of_eq (ap (λ (z : ℕ). z * s.capacity) (zero-add (length ys)))) h.parts) refl;
      }
    where
      seat : (j : ℕ) → j < s.count → (b : Bool) → Housed (cond b (channel_sample_of p (get_or ys j zero32) (channel_at s j) (part_of s j m)).channel (channel_at s j))
      seat j i true = subst Housed (sym (sounds_same p (get_or ys j zero32) (channel_at s j) (part_of s j m))) (housed (sounds p (get_or ys j zero32) (part_of s j m)) (channel_at s j) (st.housing j i))
      seat j i false = st.housing j i

      kept_length : (j : ℕ) (f : Framed) → j * f.sampler.capacity + f.sampler.capacity ≤ length f.memory → length f.memory ≡ length m → length (entry_of p j f).memory ≡ length m
      kept_length j f r e = memory_at_length f.sampler j f.memory r (get_or f.frame j zero32) ∙ e

  frames_stand : (k : ℕ) (f : Framed) → Standing (world_of f) → Turns f.sampler k (length f.frame) (length f.memory) → Stands f (frames_of p k f)
  unfolding frames_of
  frames_stand zero f st h = record { standing = st; whole = refl }
  frames_stand (suc k) f st h =
      let n = f.sampler.count in
      let s = f.sampler in
      let ys = take n f.frame in
      let long : suc k * n ≡ n + k * n = suc-mul k n ∙ omega arith in
      let l : length ys ≡ n = length-take-le n f.frame (omega (arith, long, h.entries)) in
      let t : Steps s n (length f.memory) = h.steps (omega arith) in
      let a = subst (λ (c : ℕ). Stands (framed s ys f.memory) (entries_of p c 0 (framed s ys f.memory))) l
      (entries_stand s ys f.memory st (le_of_eq l) (subst (λ (c : ℕ). Steps s c (length f.memory)) (sym l) t)) in
      let g = entries_of p n 0 (framed s ys f.memory) in
      let q = kept_entries p n 0 (framed s ys f.memory) in
      let b = frames_stand k (framed g.sampler (drop n f.frame) g.memory) a.standing
      (record {
        steps = λ z. record {
          below = omega (arith, q.count, t.below);
          parts = subst (λ (e : ℕ). e ≤ length g.memory) (sym (λ i. q.count i * q.capacity i)) (le_trans t.parts (le_of_eq (sym a.whole)));
        };
        entries = le_trans (le_of_eq (ap (λ (c : ℕ). k * c) q.count)) (omega (arith, long, h.entries, length-drop n f.frame));
      }) in
      record { standing = b.standing; whole = b.whole ∙ a.whole }

run_stands : (w : World) (xs : List Float) (p : Params) → Standing w → Stands (framed w.sampler xs w.memory) (ran_of w.sampler xs p w.memory)
unfolding ran_of done_of frames_of
run_stands w xs p st = go (begun (run_judged w.sampler (length xs) p (length w.memory))) refl
  where
    f : Framed
    f = framed w.sampler xs w.memory

    turns : (b : Bool) → begun (run_judged w.sampler (length xs) p (length w.memory)) ≡ b
        → Turns w.sampler (cond b (min (length xs / w.sampler.count) (frames_left w.sampler)) 0) (length xs) (length w.memory)
    turns b e = subst (λ (z : Bool). Turns w.sampler (cond z (min (length xs / w.sampler.count) (frames_left w.sampler)) 0) (length xs) (length w.memory)) e (done_turns w.sampler (length xs) p (length w.memory))

    go : (b : Bool) → begun (run_judged w.sampler (length xs) p (length w.memory)) ≡ b
        → Stands f (frames_of p (cond b (min (length xs / w.sampler.count) (frames_left w.sampler)) 0) f)
    go true e = frames_stand p (run_begins w.sampler (length xs) p (length w.memory) e).within (min (length xs / w.sampler.count) (frames_left w.sampler)) f st (turns true e)
    go false e = record { standing = st; whole = refl }

pub standing_made : (w : World) (h : Made) → Standing w → Standing (made w h)
unfolding made
standing_made w (one c) st = standing_after w c st
standing_made w (frames xs p) st = (run_stands w xs p st).standing

pub standing_makes : (w : World) (hs : List Made) → Standing w → Standing (makes w hs)
unfolding makes
standing_makes w [] st = st
standing_makes w (h ∷ hs) st = standing_makes (made w h) hs (standing_made w h st)

pub kept_makes : (w : World) (hs : List Made) → Kept w.sampler (makes w hs).sampler
unfolding makes
kept_makes w [] = kept_refl w.sampler
kept_makes w (h ∷ hs) = kept_trans w.sampler (made w h).sampler (makes (made w h) hs).sampler (kept_made w h) (kept_makes (made w h) hs)
