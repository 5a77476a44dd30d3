-- What each call leaves of one channel's side. Assumes nothing.
use mathlib.Core.Path.{◌≡◌, refl, sym, ap, ◌∙◌, subst}
use mathlib.Core.Logic.{◌≢◌}
use mathlib.Core.Bool.{Bool, true, false, cond, true≢false}
use mathlib.Core.List.{List, [], ◌∷◌}
use Prim.Native.Nat.{ℕ, zero, suc, ◌+◌, ◌*◌, ◌≤◌, ◌<◌, min}
use native.Mathlib.Omega.{arith}
use borrow.Author.Tests.{eqb-true, eqb-false, ltb-true, ltb-false, lt-ltb}
use lib.Dec.{eqb, ltb}
use lib.ListN.{length, get_or, set, length-set}
use lib.Seq.{get_or-set_same, get_or-set_other}
use lib.Ieee.{Float}
use Rattle.std.specs.Prelude.{is_ok}
use Rattle.refusals.proofs.Codes.{zero_at, done_is}
use Rattle.binary32.specs.Leaves.{zero32}
use Rattle.common_types.specs.declared.Params.{Params}
use Rattle.walks.proofs.Tests.{either}
use Rattle.voice.specs.Voices.{blank_voice}
use Rattle.plain_voice.specs.Hots.{cold, hot_at}
use Rattle.channel.specs.declared.Channel.{Channel}
use Rattle.channel.specs.declared.Change.{Change}
use Rattle.plain_channel.specs.declared.Side.{Side}
use Rattle.plain_channel.specs.Sides.{cold_side, with_hots, taken_at, side_after}
use Rattle.sampler.specs.declared.Sampler.{Sampler}
use Rattle.sampler.specs.Refusals.{channel_at, sample_judged, frame_judged}
use Rattle.sampler.specs.Samplers.{change_of, Steps, part_of, channel_stepped_of, Framed, framed, entry_of}
use Rattle.sampler.proofs.Rows.{frame_steps}
use Rattle.plain_sampler.specs.declared.Backing.{Backing}
use Rattle.plain_sampler.specs.Backings.{side_at, with_side, change_backing, side_stepped, sample_backing, entries_backing, frame_backing}
use Rattle.fates.specs.Events.{idle, sounds, is_sample}
use Rattle.promises.specs.Runs.{World, Call, change, sample, frame, read_wave, gather, asks, chan, done_to, event, call_judged}
use Rattle.promises.proofs.Apart.{part_apart, channel_apart}
use Rattle.plain_promises.specs.Backed.{beside_after}
use Rattle.plain_promises.specs.Members.{hot_in}

-- ---- one side stored
side_own : (k : Backing) (j : ℕ) (s : Side) → j < length k.sides → side_at (with_side k j s) j ≡ s
side_own k j s h = get_or-set_same k.sides j s cold_side h

side_apart : (k : Backing) (i j : ℕ) (s : Side) → j ≢ i → side_at (with_side k i s) j ≡ side_at k j
side_apart k i j s h = get_or-set_other k.sides i j s cold_side h

-- ---- a change takes at one place, and leaves the others
taken_left : (c : Channel) (at : ℕ) (s : Side) (n : ℕ) → n ≢ at → get_or (taken_at c at s).hots n cold ≡ get_or s.hots n cold
unfolding taken_at
taken_left c at s n h =
    let x = hot_at c.head.interpolates (get_or c.voices at blank_voice).clip2 c.head.now in
    either (λ (r : Side). get_or r.hots n cold) (ltb at (min c.count 32)) (with_hots (set s.hots at x) s) s (get_or s.hots n cold) (get_or-set_other s.hots at n x cold h) refl

pub taken_own : (c : Channel) (at : ℕ) (s : Side) → at < c.count → at < 32 → length s.hots ≡ 32
    → get_or (taken_at c at s).hots at cold ≡ hot_at c.head.interpolates (get_or c.voices at blank_voice).clip2 c.head.now
unfolding taken_at
taken_own c at s h k e =
    let x = hot_at c.head.interpolates (get_or c.voices at blank_voice).clip2 c.head.now in
    ap (λ (b : Bool). get_or (cond b (with_hots (set s.hots at x) s) s).hots at cold) (lt-ltb at (min c.count 32) (omega arith)) ∙ get_or-set_same s.hots at x cold (omega (arith, e))

module _ (s : Sampler) (d : Change) (k : Backing) (two : length k.sides ≡ 2) where
  abbrev t : Sampler
  t = (change_of s d).sampler

  abbrev first : Side
  first = taken_at (channel_at t 0) (channel_at s 0).count (side_at k 0)

  pub change_side : (j : ℕ) → j < 2 → side_at (change_backing s d k) j ≡ taken_at (channel_at t j) (channel_at s j).count (side_at k j)
  unfolding change_backing
  change_side zero h = side_apart (with_side k 0 first) 1 0 _ (λ e. omega arith) ∙ side_own k 0 first (omega (arith, two))
  change_side (suc zero) h =
      side_own (with_side k 0 first) 1 _ (omega (arith, two, length-set k.sides 0 first)) ∙ ap (taken_at (channel_at t 1) (channel_at s 1).count) (side_apart k 0 1 first (λ e. omega arith))
  change_side (suc (suc j)) h = absurd (omega arith)

-- ---- a sample of one channel
module _ (s : Sampler) (i : ℕ) (p : Params) (x : Float) (m : List ℕ) (k : Backing) where
  stepped_own : i < length k.sides → side_at (side_stepped s i p x m k) i ≡ side_after p x (channel_at s i) (part_of s i m) (side_at k i)
  unfolding side_stepped
  stepped_own h = side_own k i _ h

  stepped_apart : (j : ℕ) → j ≢ i → side_at (side_stepped s i p x m k) j ≡ side_at k j
  unfolding side_stepped
  stepped_apart j h = side_apart k i j _ h

  stepped_length : length (side_stepped s i p x m k).sides ≡ length k.sides
  unfolding side_stepped
  stepped_length = length-set k.sides i _

-- ---- a frame: past its last entry a side is as it was
entries_past : (p : Params) (n i : ℕ) (f : Framed) (k : Backing) (j : ℕ) → i + n ≤ j → side_at (entries_backing p n i f k) j ≡ side_at k j
unfolding entries_backing
entries_past p zero i f k j h = refl
entries_past p (suc n) i f k j h =
    entries_past p n (i + 1) (entry_of p i f) _ j (omega arith) ∙ stepped_apart f.sampler i p (get_or f.frame i zero32) f.memory k j (λ e. omega arith)

-- and any other is what its own entry makes of it, on what the frame found
module _ (s : Sampler) (a b : Float) (p : Params) (m : List ℕ) (reach : 0 * s.capacity + s.capacity ≤ length m) (k : Backing) (two : length k.sides ≡ 2) where
  abbrev f : Framed
  f = entry_of p 0 (framed s (a ∷ b ∷ []) m)

  abbrev l : Backing
  l = side_stepped s 0 p a m k

  second_own : side_at (side_stepped f.sampler 1 p (get_or f.frame 1 zero32) f.memory l) 1 ≡ side_after p b (channel_at s 1) (part_of s 1 m) (side_at k 1)
  unfolding entry_of channel_stepped_of part_of
  second_own =
      stepped_own f.sampler 1 p (get_or f.frame 1 zero32) f.memory l (omega (arith, two, stepped_length s 0 p a m k))
      ∙ (λ t. side_after p b (channel_apart s 0 p a m 1 (λ e. omega arith) t) (part_apart s 0 m reach a 1 (λ e. omega arith) t) (stepped_apart s 0 p a m k 1 (λ e. omega arith) t))

frame_own : (s : Sampler) (xs : List Float) (p : Params) (m : List ℕ) → Steps s (length xs) (length m) → (k : Backing) → length k.sides ≡ 2 → (j : ℕ) → j < length xs
    → side_at (entries_backing p (length xs) 0 (framed s xs m) k) j ≡ side_after p (get_or xs j zero32) (channel_at s j) (part_of s j m) (side_at k j)
unfolding entries_backing
frame_own s [] p m st k two j h = absurd (omega arith)
frame_own s (a ∷ []) p m st k two zero h = stepped_own s 0 p a m k (omega (arith, two))
frame_own s (a ∷ []) p m st k two (suc j) h = absurd (omega arith)
frame_own s (a ∷ b ∷ []) p m st k two zero h = stepped_apart _ 1 p _ _ _ 0 (λ e. omega arith) ∙ stepped_own s 0 p a m k (omega (arith, two))
frame_own s (a ∷ b ∷ []) p m st k two (suc zero) h = second_own s a b p m (omega (arith, st.parts)) k two
frame_own s (a ∷ b ∷ []) p m st k two (suc (suc j)) h = absurd (omega arith)
frame_own s (a ∷ b ∷ c ∷ xs) p m st k two j h = absurd (omega (arith, st.below))

-- ---- every call
module _ (w : World) (k : Backing) (two : length k.sides ≡ 2) (j : ℕ) (below : j < 2) where
  abbrev s : Sampler
  s = w.sampler

  abbrev m : List ℕ
  m = w.memory

  -- a sample of the channel, alone or in a frame
  module _ (p : Params) (x : Float) (own : List ℕ) where
    not_idle : idle ≡ sounds p x own → ⊥
    unfolding is_sample
    not_idle h = true≢false (sym (ap is_sample h))

    -- the same sample
    same_side : (q : Params) (y : Float) (part : List ℕ) → sounds q y part ≡ sounds p x own → side_after q y (chan w j) part (side_at k j) ≡ side_after p x (chan w j) own (side_at k j)
    same_side q y part h =
        let a : q ≡ p = cc in
        let b : y ≡ x = cc in
        let c : part ≡ own = cc in
        λ t. side_after (a t) (b t) (chan w j) (c t) (side_at k j)

    sample_side : (i : ℕ) (y : Float) (q : Params) → event w (sample i y q) j ≡ sounds p x own → side_at (sample_backing s i y q m k) j ≡ side_after p x (chan w j) own (side_at k j)
    unfolding event call_judged done_to sample_backing
    sample_side i y q h =
        subst (λ (z : Bool). side_at (cond z (side_stepped s i q y m k) k) j ≡ side_after p x (chan w j) own (side_at k j)) (done_is (sample_judged s i q (length m)))
        (go (is_ok (sample_judged s i q (length m))) (eqb i j) refl h)
      where
        go : (a b : Bool) → eqb i j ≡ b → cond a (cond b (sounds q y (part_of s j m)) idle) idle ≡ sounds p x own
            → side_at (cond a (side_stepped s i q y m k) k) j ≡ side_after p x (chan w j) own (side_at k j)
        go false b e h = absurd (not_idle h)
        go true false e h = absurd (not_idle h)
        go true true e h =
            subst (λ (z : ℕ). side_at (side_stepped s z q y m k) j ≡ side_after q y (chan w j) (part_of s j m) (side_at k j)) (sym (eqb-true i j e)) (stepped_own s j q y m k (omega (arith, two, below)))
            ∙ same_side q y (part_of s j m) h

    frame_side : (xs : List Float) (q : Params) → event w (frame xs q) j ≡ sounds p x own → side_at (frame_backing s xs q m k) j ≡ side_after p x (chan w j) own (side_at k j)
    unfolding event call_judged done_to frame_backing
    frame_side xs q h =
        subst (λ (z : Bool). side_at (cond z (entries_backing q (length xs) 0 (framed s xs m) k) k) j ≡ side_after p x (chan w j) own (side_at k j)) (done_is (frame_judged s (length xs) q (length m)))
        (go (is_ok (frame_judged s (length xs) q (length m))) refl (ltb j (length xs)) refl h)
      where
        go : (a : Bool) → is_ok (frame_judged s (length xs) q (length m)) ≡ a → (b : Bool) → ltb j (length xs) ≡ b
            → cond a (cond b (sounds q (get_or xs j zero32) (part_of s j m)) idle) idle ≡ sounds p x own
            → side_at (cond a (entries_backing q (length xs) 0 (framed s xs m) k) k) j ≡ side_after p x (chan w j) own (side_at k j)
        go false e b f h = absurd (not_idle h)
        go true e false f h = absurd (not_idle h)
        go true e true f h =
            frame_own s xs q m (frame_steps s (length xs) q (length m) (zero_at _ e)) k two j (ltb-true j (length xs) f) ∙ same_side q (get_or xs j zero32) (part_of s j m) h

    no_sample : (c : Call) → is_sample (done_to w c j) ≡ false → event w c j ≡ sounds p x own → ⊥
    unfolding event is_sample
    no_sample c q h = go (is_ok (call_judged w c)) h
      where
        go : (b : Bool) → cond b (done_to w c j) idle ≡ sounds p x own → ⊥
        go true h = true≢false (sym (ap is_sample h) ∙ q)
        go false h = not_idle h

    pub sounds_side : (c : Call) → event w c j ≡ sounds p x own → side_at (beside_after w c k) j ≡ side_after p x (chan w j) own (side_at k j)
    unfolding beside_after done_to is_sample
    sounds_side (change d) h = absurd (no_sample (change d) refl h)
    sounds_side (sample i y q) h = sample_side i y q h
    sounds_side (frame xs q) h = frame_side xs q h
    sounds_side (read_wave f) h = absurd (no_sample (read_wave f) refl h)
    sounds_side gather h = absurd (no_sample gather refl h)
    sounds_side (asks q) h = absurd (no_sample (asks q) refl h)

  -- what is no sample of it leaves the positions beside its voices
  quiet_sample : (i : ℕ) (y : Float) (q : Params) → is_sample (event w (sample i y q) j) ≡ false → side_at (sample_backing s i y q m k) j ≡ side_at k j
  unfolding event call_judged done_to sample_backing is_sample
  quiet_sample i y q h =
      subst (λ (z : Bool). side_at (cond z (side_stepped s i q y m k) k) j ≡ side_at k j) (done_is (sample_judged s i q (length m)))
      (go (is_ok (sample_judged s i q (length m))) (eqb i j) refl h)
    where
      go : (a b : Bool) → eqb i j ≡ b → is_sample (cond a (cond b (sounds q y (part_of s j m)) idle) idle) ≡ false → side_at (cond a (side_stepped s i q y m k) k) j ≡ side_at k j
      go false b e h = refl
      go true false e h = stepped_apart s i q y m k j (λ z. eqb-false i j e (sym z))
      go true true e h = absurd (true≢false h)

  quiet_frame : (xs : List Float) (q : Params) → is_sample (event w (frame xs q) j) ≡ false → side_at (frame_backing s xs q m k) j ≡ side_at k j
  unfolding event call_judged done_to frame_backing is_sample
  quiet_frame xs q h =
      subst (λ (z : Bool). side_at (cond z (entries_backing q (length xs) 0 (framed s xs m) k) k) j ≡ side_at k j) (done_is (frame_judged s (length xs) q (length m)))
      (go (is_ok (frame_judged s (length xs) q (length m))) (ltb j (length xs)) refl h)
    where
      go : (a b : Bool) → ltb j (length xs) ≡ b → is_sample (cond a (cond b (sounds q (get_or xs j zero32) (part_of s j m)) idle) idle) ≡ false
          → side_at (cond a (entries_backing q (length xs) 0 (framed s xs m) k) k) j ≡ side_at k j
      go false b e h = refl
      go true false e h = entries_past q (length xs) 0 (framed s xs m) k j (omega (arith, ltb-false j (length xs) e))
      go true true e h = absurd (true≢false h)

  pub quiet_hot : (c : Call) → is_sample (event w c j) ≡ false → (n : ℕ) → n < (chan w j).count → hot_in (beside_after w c k) j n ≡ hot_in k j n
  unfolding beside_after
  quiet_hot (change d) h n l = ap (λ (r : Side). get_or r.hots n cold) (change_side s d k two j below) ∙ taken_left (channel_at (change_of s d).sampler j) (chan w j).count (side_at k j) n (λ e. omega arith)
  quiet_hot (sample i y q) h n l = ap (λ (r : Side). get_or r.hots n cold) (quiet_sample i y q h)
  quiet_hot (frame xs q) h n l = ap (λ (r : Side). get_or r.hots n cold) (quiet_frame xs q h)
  quiet_hot (read_wave f) h n l = refl
  quiet_hot gather h n l = refl
  quiet_hot (asks q) h n l = refl
