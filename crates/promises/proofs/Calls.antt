-- A call is, on each channel, one event: what it leaves of channel j is what the event makes of it. So a run of calls is, on each channel, a run of events. Assumes nothing.
use mathlib.Core.Path.{◌≡◌, refl, sym, ap, ◌∙◌, subst}
use mathlib.Core.Bool.{Bool, true, false, not, cond}
use mathlib.Core.List.{List, [], ◌∷◌, map}
use Prim.Native.Nat.{ℕ, zero, suc, ◌≤◌, ◌<◌}
use native.Mathlib.Omega.{arith}
use borrow.Author.Tests.{eqb-true, eqb-false}
use lib.Dec.{eqb, ltb}
use lib.ListN.{length, drop, get_or, length-map, get_or-append, get_or-map}
use lib.Seq.{length-sets, length-take-le, get_or-take}
use lib.Ieee.{Float}
use Rattle.std.specs.Prelude.{Result, Ok, is_ok}
use Rattle.refusals.specs.declared.Refusal.{Refusal}
use Rattle.refusals.specs.declared.Refusal.TheVariants.{Broken}
use Rattle.refusals.proofs.Codes.{done_at, zero_at}
use Rattle.refusals.proofs.Numbers.{refused_code}
use Rattle.refusals.specs.Refusals.{row}
use Rattle.walks.proofs.Lists.Loops.{get_d_any}
use Rattle.walks.proofs.Lists.Runs.{run_front}
use Rattle.common_types.specs.declared.InitParams.{InitParams}
use Rattle.common_types.specs.declared.Params.{Params}
use Rattle.binary32.specs.Leaves.{zero32}
use Rattle.channel.specs.declared.Channel.{Channel}
use Rattle.channel.specs.declared.Change.{Change}
use Rattle.channel.specs.Channels.{channel_of, changed_of}
use Rattle.channel.specs.Channels.{process_sample_of as channel_sample_of}
use Rattle.sampler.specs.declared.Sampler.{Sampler}
use Rattle.sampler.specs.Refusals.{present, channel_at, good_sizes, capacity_of, set_up_judged, set_up_number, gather_judged, sample_judged, frame_judged}
use Rattle.sampler.specs.Samplers.{sampler_of, set_up_of, each_of, answer_of, part_of, channel_stepped_of, process_sample_of, gather_of, Framed, framed, entries_of, framed_of}
use Rattle.sampler.proofs.Rows.{sizes_count, frame_steps}
use Rattle.sampler.proofs.Entries.{Kept, kept_refl, kept_trans, kept_step, kept_entries}
use Rattle.sampler.proofs.Gathered.{gather_same, gather_refused, gather_channel_lem}
use Rattle.fates.specs.Events.{idle, changes, gathers, sounds, act, acts}
use Rattle.fates.specs.Places.{Housed}
use Rattle.wave.specs.Reader.{file_judged}
use Rattle.recordings.specs.Waves.{read_wave_of, read_judged}
use Rattle.promises.specs.Runs.{World, set_up, Call, change, sample, frame, read_wave, gather, asks, call_judged, after, run, chan, done_to, event, events, question_judged}
use Rattle.promises.proofs.Engine.{changes_same, sounds_same}
use Rattle.fates.proofs.Housing.{housed, housed_new}
use Rattle.promises.proofs.Apart.{channel_apart, channel_own, frame_channel}

-- two channels in the record, of which the first `count` are in use, each with its 32 places
pub record Standing (w : World) : Type 0 where
  pub two : length w.sampler.channels ≡ 2
  pub few : w.sampler.count ≤ 2
  pub housing : (j : ℕ) → j < w.sampler.count → Housed (chan w j)

-- ---- a change of each channel
each_channel : (d : Change) (s : Sampler) → length s.channels ≡ 2 → s.count ≤ 2 → (j : ℕ) → j < s.count → channel_at (each_of d s) j ≡ changed_of d (channel_at s j)
unfolding each_of
each_channel d s two few j h =
    let none : Channel = channel_of (record { auto_passthru = false }) in
    let cs : List Channel = map (changed_of d) (present s) in
    let l : length (present s) ≡ s.count = length-take-le s.count s.channels (omega arith) in
    let n : length cs ≡ s.count = length-map (present s) (changed_of d) ∙ l in
    ap (λ (r : List Channel). get_or r j none) (run_front s.channels cs (omega arith))
    ∙ get_or-append cs (drop (length cs) s.channels) none j (omega arith)
    ∙ get_d_any cs j none (changed_of d none) (omega arith)
    ∙ get_or-map (changed_of d) (present s) j none
    ∙ ap (changed_of d) (get_or-take s.count s.channels j none h)

answer_channel : (done : Result (Unit {0}) Refusal) (d : Change) (s : Sampler) → length s.channels ≡ 2 → s.count ≤ 2 → (j : ℕ) → j < s.count
    → channel_at (answer_of done d s).sampler j ≡ act (cond (is_ok done) (changes d) idle) (channel_at s j)
unfolding answer_of act
answer_channel done d s two few j h = go (is_ok done)
  where
    go : (b : Bool) → channel_at (cond b (each_of d s) s) j ≡ act (cond b (changes d) idle) (channel_at s j)
    go true = each_channel d s two few j h ∙ sym (changes_same d (channel_at s j))
    go false = refl

-- ---- every call
module _ (w : World) (two : length w.sampler.channels ≡ 2) (few : w.sampler.count ≤ 2) (j : ℕ) (h : j < w.sampler.count) where
  sample_channel : (i : ℕ) (x : Float) (p : Params) → chan (after w (sample i x p)) j ≡ act (event w (sample i x p) j) (chan w j)
  unfolding after event call_judged done_to process_sample_of act
  sample_channel i x p = go (is_ok (sample_judged s i p (length m))) refl
    where
      s : Sampler
      s = w.sampler

      m : List ℕ
      m = w.memory

      which : (b : Bool) → eqb i j ≡ b → channel_at (channel_stepped_of s i p x m) j ≡ act (cond b (sounds p x (part_of s j m)) idle) (channel_at s j)
      which true e =
          subst (λ (y : ℕ). channel_at (channel_stepped_of s y p x m) j ≡ (channel_sample_of p x (channel_at s j) (part_of s j m)).channel) (sym (eqb-true i j e)) (channel_own s j p x m (omega arith))
          ∙ sounds_same p x (channel_at s j) (part_of s j m)
      which false e = channel_apart s i p x m j (λ q. eqb-false i j e (sym q))

      go : (b : Bool) → is_ok (sample_judged s i p (length m)) ≡ b
          → channel_at (cond b (channel_stepped_of s i p x m) s) j ≡ act (cond b (cond (eqb i j) (sounds p x (part_of s j m)) idle) idle) (channel_at s j)
      go true e = which (eqb i j) refl
      go false e = refl

  frame_channels : (xs : List Float) (p : Params) → chan (after w (frame xs p)) j ≡ act (event w (frame xs p) j) (chan w j)
  unfolding after event call_judged done_to framed_of act
  frame_channels xs p = go (is_ok (frame_judged s (length xs) p (length m))) refl
    where
      s : Sampler
      s = w.sampler

      m : List ℕ
      m = w.memory

      which : (b : Bool) → channel_at (entries_of p (length xs) 0 (framed s xs m)).sampler j ≡ cond b (channel_sample_of p (get_or xs j zero32) (channel_at s j) (part_of s j m)).channel (channel_at s j)
          → channel_at (entries_of p (length xs) 0 (framed s xs m)).sampler j ≡ act (cond b (sounds p (get_or xs j zero32) (part_of s j m)) idle) (channel_at s j)
      which true e = e ∙ sounds_same p (get_or xs j zero32) (channel_at s j) (part_of s j m)
      which false e = e

      go : (b : Bool) → is_ok (frame_judged s (length xs) p (length m)) ≡ b
          → channel_at (cond b (entries_of p (length xs) 0 (framed s xs m)) (framed s xs m)).sampler j
          ≡ act (cond b (cond (ltb j (length xs)) (sounds p (get_or xs j zero32) (part_of s j m)) idle) idle) (channel_at s j)
      go true e = which (ltb j (length xs)) (frame_channel s xs p m (frame_steps s (length xs) p (length m) (zero_at _ e)) j (omega arith))
      go false e = refl

  gather_done : chan (after w gather) j ≡ act (event w gather j) (chan w j)
  unfolding after event call_judged done_to act
  gather_done = go (is_ok (gather_judged s (length m))) refl
    where
      s : Sampler
      s = w.sampler

      m : List ℕ
      m = w.memory

      go : (b : Bool) → is_ok (gather_judged s (length m)) ≡ b → channel_at (gather_of s m).sampler j ≡ act (cond b (gathers (part_of s j m)) idle) (channel_at s j)
      go true e = gather_channel_lem s m (zero_at _ e) j h (omega arith)
      go false e = ap (λ (r : Sampler). channel_at r j) (gather_refused s m (refused_code _ e))

  nothing : (b : Bool) → chan w j ≡ act (cond b idle idle) (chan w j)
  unfolding act
  nothing true = refl
  nothing false = refl

  pub chan_after : (c : Call) → chan (after w c) j ≡ act (event w c j) (chan w j)
  unfolding after event call_judged done_to act read_wave_of
  chan_after (change d) = answer_channel _ _ w.sampler two few j h
  chan_after (sample i x p) = sample_channel i x p
  chan_after (frame xs p) = frame_channels xs p
  chan_after (read_wave f) = answer_channel (read_judged w.sampler (file_judged f) (length w.memory)) _ w.sampler two few j h
  chan_after gather = gather_done
  chan_after (asks q) = nothing (is_ok (question_judged w q))

-- ---- what no call changes
kept_if : (s r q : Sampler) (b : Bool) → Kept s r → Kept s q → Kept s (cond b r q)
kept_if s r q true h k = h
kept_if s r q false h k = k

kept_answer : (done : Result (Unit {0}) Refusal) (d : Change) (s : Sampler) → Kept s (answer_of done d s).sampler
unfolding answer_of each_of
kept_answer done d s =
    kept_if s (each_of d s) s (is_ok done) (record { channels = length-sets s.channels 0 (map (changed_of d) (present s)); count = refl; capacity = refl }) (kept_refl s)

pub kept : (w : World) (c : Call) → Kept w.sampler (after w c).sampler
unfolding after process_sample_of framed_of read_wave_of
kept w (change d) = kept_answer _ _ w.sampler
kept w (sample j x p) = kept_if w.sampler _ _ (is_ok (sample_judged w.sampler j p (length w.memory))) (kept_step w.sampler j p x w.memory) (kept_refl w.sampler)
kept w (frame xs p) = go (is_ok (frame_judged w.sampler (length xs) p (length w.memory)))
  where
    f : Framed
    f = framed w.sampler xs w.memory

    go : (b : Bool) → Kept w.sampler (cond b (entries_of p (length xs) 0 f) f).sampler
    go true = kept_entries p (length xs) 0 f
    go false = kept_refl w.sampler
kept w (read_wave f) = kept_answer _ _ w.sampler
kept w gather = gather_same w.sampler w.memory
kept w (asks q) = kept_refl w.sampler

-- ---- from set-up on
pub standing_after : (w : World) (c : Call) → Standing w → Standing (after w c)
standing_after w c s =
    let k = kept w c in
    record {
      two = k.channels ∙ s.two;
      few = omega (arith, k.count, s.few);
      housing = λ j h.
          let i : j < w.sampler.count = omega (arith, k.count) in
          subst Housed (sym (chan_after w s.two s.few j i c)) (housed (event w c j) (chan w j) (s.housing j i));
    }

pub standing_run : (w : World) (cs : List Call) → Standing w → Standing (run w cs)
unfolding run
standing_run w [] s = s
standing_run w (c ∷ cs) s = standing_run (after w c) cs (standing_after w c s)

pub standing_new : (count : ℕ) (p : InitParams) (m : List ℕ) → Standing (set_up count p m)
unfolding set_up set_up_of set_up_judged
standing_new count p m = go (good_sizes count (capacity_of count (length m))) refl
  where
    seat : (j : ℕ) → j < 2 → Housed (get_or (channel_of p ∷ channel_of p ∷ []) j (channel_of (record { auto_passthru = false })))
    seat zero h = housed_new p
    seat (suc zero) h = housed_new p
    seat (suc (suc j)) h = absurd (omega arith)

    go : (b : Bool) → good_sizes count (capacity_of count (length m)) ≡ b
        → Standing (record { sampler = cond (is_ok (row (not b) Broken (Ok (tt {0})))) (sampler_of count p (capacity_of count (length m))) (sampler_of 0 p 0); memory = m })
    go true e =
        let few : count ≤ 2 = sizes_count count (capacity_of count (length m)) e in
        record { two = refl; few = few; housing = λ j h. seat j (omega arith) }
    go false e = record { two = refl; few = omega arith; housing = λ j h. absurd (omega arith) }

-- ---- runs
pub chan_run : (w : World) → Standing w → (j : ℕ) → j < w.sampler.count → (cs : List Call) → chan (run w cs) j ≡ acts (events w cs j) (chan w j)
unfolding run events acts
chan_run w s j h [] = refl
chan_run w s j h (c ∷ cs) =
    chan_run (after w c) (standing_after w c s) j (omega (arith, (kept w c).count)) cs
    ∙ ap (acts (events (after w c) cs j)) (chan_after w s.two s.few j h c)

pub kept_run : (w : World) (cs : List Call) → Kept w.sampler (run w cs).sampler
unfolding run
kept_run w [] = kept_refl w.sampler
kept_run w (c ∷ cs) = kept_trans w.sampler (after w c).sampler (run (after w c) cs).sampler (kept w c) (kept_run (after w c) cs)

-- an accepted set-up makes what it was asked for
module _ (count : ℕ) (p : InitParams) (m : List ℕ) (ok : set_up_number count (length m) ≡ 0) where
  made : (set_up count p m).sampler ≡ sampler_of count p (capacity_of count (length m))
  unfolding set_up set_up_of
  made = rw (done_at (set_up_judged count (length m)) ok)

  pub count_kept : (cs : List Call) → (run (set_up count p m) cs).sampler.count ≡ count
  count_kept cs = (kept_run (set_up count p m) cs).count ∙ ap (λ (s : Sampler). s.count) made

  pub capacity_kept : (cs : List Call) → (run (set_up count p m) cs).sampler.capacity ≡ capacity_of count (length m)
  capacity_kept cs = (kept_run (set_up count p m) cs).capacity ∙ ap (λ (s : Sampler). s.capacity) made
