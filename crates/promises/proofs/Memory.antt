-- What a call leaves of channel j's part of the memory: as it was, but where the call is a sample of the channel. Assumes nothing.
use mathlib.Core.Path.{◌≡◌, refl, sym, ap, ◌∙◌, subst}
use mathlib.Core.Bool.{Bool, true, false, cond, true≢false}
use mathlib.Core.List.{List, [], ◌∷◌}
use Prim.Native.Nat.{ℕ, ◌*◌}
use borrow.Author.Tests.{eqb-true, eqb-false}
use lib.Dec.{eqb, ltb}
use lib.ListN.{length, take, drop, get_or}
use lib.Ieee.{Float}
use Rattle.std.specs.Prelude.{is_ok}
use Rattle.refusals.proofs.Codes.{zero_at}
use Rattle.common_types.specs.declared.Params.{Params}
use Rattle.binary32.specs.Leaves.{zero32}
use Rattle.std.specs.List.{list_any}
use Rattle.walks.proofs.Tests.{neither}
use Rattle.channel.specs.declared.Channel.{Channel}
use Rattle.channel.specs.Channels.{memory_of}
use Rattle.sampler.specs.declared.Sampler.{Sampler}
use Rattle.sampler.specs.Refusals.{channel_at, sample_judged, frame_judged}
use Rattle.sampler.specs.Samplers.{part_of, memory_at, sample_memory, Framed, framed, entries_of, framed_of}
use Rattle.sampler.proofs.Rows.{sample_ready, frame_steps}
use Rattle.fates.specs.Events.{Event, idle, changes, gathers, sounds, is_sample}
use Rattle.promises.specs.Runs.{World, Call, change, sample, frame, read_wave, gather, asks, call_judged, after, chan, own_part, done_to, event, events, run, rewrites}
use Rattle.promises.proofs.Apart.{part_apart, part_own, frame_part}
use Rattle.promises.proofs.Calls.{kept}

-- what an event makes of the part m of its channel c, where it is no gather
abbrev part_by : Event → Channel → List ℕ → List ℕ
part_by idle c m = m
part_by (changes d) c m = m
part_by (gathers k) c m = m
part_by (sounds p x k) c m = memory_of x c k

-- parts are told by the capacity alone
same_part : (s r : Sampler) (j : ℕ) (m : List ℕ) → r.capacity ≡ s.capacity → part_of r j m ≡ part_of s j m
unfolding part_of
same_part s r j m e = ap (λ (n : ℕ). take n (drop (j * n) m)) e

still : (b : Bool) (e : Event) (c : Channel) (m : List ℕ) → part_by e c m ≡ m → m ≡ part_by (cond b e idle) c m
still true e c m h = sym h
still false e c m h = refl

module _ (w : World) (j : ℕ) where
  s : Sampler
  s = w.sampler

  m : List ℕ
  m = w.memory

  sample_part : (i : ℕ) (x : Float) (p : Params) → part_of s j (sample_memory s i x p m) ≡ part_by (event w (sample i x p) j) (chan w j) (own_part w j)
  unfolding sample_memory event call_judged done_to s m
  sample_part i x p = go (is_ok (sample_judged s i p (length m))) refl (eqb i j) refl
    where
      go : (a : Bool) → is_ok (sample_judged s i p (length m)) ≡ a → (b : Bool) → eqb i j ≡ b
          → part_of s j (cond a (memory_at s i x m) m) ≡ part_by (cond a (cond b (sounds p x (part_of s j m)) idle) idle) (channel_at s j) (part_of s j m)
      go false e b f = refl
      go true e true f =
          let r = (sample_ready s i p (length m) (zero_at _ e)).part in
          subst (λ (k : ℕ). part_of s k (memory_at s i x m) ≡ memory_of x (channel_at s k) (part_of s k m)) (eqb-true i j f) (part_own s i m r x)
      go true e false f = part_apart s i m (sample_ready s i p (length m) (zero_at _ e)).part x j (λ q. eqb-false i j f (sym q))

  frame_parts : (xs : List Float) (p : Params) → own_part (after w (frame xs p)) j ≡ part_by (event w (frame xs p) j) (chan w j) (own_part w j)
  unfolding after framed_of event call_judged done_to s m
  frame_parts xs p = go (is_ok (frame_judged s (length xs) p (length m))) refl
    where
      f : Framed
      f = framed s xs m

      which : (b : Bool) → part_of (entries_of p (length xs) 0 f).sampler j (entries_of p (length xs) 0 f).memory ≡ cond b (memory_of (get_or xs j zero32) (channel_at s j) (part_of s j m)) (part_of s j m)
          → part_of (entries_of p (length xs) 0 f).sampler j (entries_of p (length xs) 0 f).memory ≡ part_by (cond b (sounds p (get_or xs j zero32) (part_of s j m)) idle) (channel_at s j) (part_of s j m)
      which true e = e
      which false e = e

      go : (a : Bool) → is_ok (frame_judged s (length xs) p (length m)) ≡ a
          → part_of (cond a (entries_of p (length xs) 0 f) f).sampler j (cond a (entries_of p (length xs) 0 f) f).memory
          ≡ part_by (cond a (cond (ltb j (length xs)) (sounds p (get_or xs j zero32) (part_of s j m)) idle) idle) (channel_at s j) (part_of s j m)
      go true e = which (ltb j (length xs)) (frame_part s xs p m (frame_steps s (length xs) p (length m) (zero_at _ e)) j)
      go false e = refl

  -- of a call that is neither a read nor a gather
  part_after : (c : Call) → rewrites c ≡ false → own_part (after w c) j ≡ part_by (event w c j) (chan w j) (own_part w j)
  unfolding after event done_to rewrites s m
  part_after (change d) r = same_part s _ j m (kept w (change d)).capacity ∙ still (is_ok (call_judged w (change d))) (changes d) (chan w j) (own_part w j) refl
  part_after (sample i x p) r = same_part s _ j (sample_memory s i x p m) (kept w (sample i x p)).capacity ∙ sample_part i x p
  part_after (frame xs p) r = frame_parts xs p
  part_after (read_wave f) r = absurd (true≢false r)
  part_after gather r = absurd (true≢false r)
  part_after (asks q) r = still (is_ok (call_judged w (asks q))) idle (chan w j) (own_part w j) refl

  not_sampled : (e : Event) (c : Channel) (k : List ℕ) → is_sample e ≡ false → part_by e c k ≡ k
  unfolding is_sample
  not_sampled idle c k h = refl
  not_sampled (changes d) c k h = refl
  not_sampled (gathers l) c k h = refl
  not_sampled (sounds p x l) c k h = absurd (true≢false h)

  pub part_unwritten : (c : Call) → is_sample (event w c j) ≡ false → rewrites c ≡ false → own_part (after w c) j ≡ own_part w j
  part_unwritten c h r = part_after c r ∙ not_sampled (event w c j) (chan w j) (own_part w j) h

  unsampled : (b : Bool) (e : Event) → is_sample e ≡ false → is_sample (cond b e idle) ≡ false
  unfolding is_sample
  unsampled true e h = h
  unsampled false e h = refl

  -- neither of these is a sample
  no_rewrite : (c : Call) (p : Params) (x : Float) (k : List ℕ) → event w c j ≡ sounds p x k → rewrites c ≡ false
  unfolding event done_to rewrites is_sample
  no_rewrite (change d) p x k h = refl
  no_rewrite (sample i y q) p x k h = refl
  no_rewrite (frame xs q) p x k h = refl
  no_rewrite (read_wave f) p x k h = sym (ap is_sample h) ∙ unsampled (is_ok (call_judged w (read_wave f))) (done_to w (read_wave f) j) refl
  no_rewrite gather p x k h = sym (ap is_sample h) ∙ unsampled (is_ok (call_judged w gather)) (done_to w gather j) refl
  no_rewrite (asks q) p x k h = refl

  pub part_written : (c : Call) (p : Params) (x : Float) (k : List ℕ) → event w c j ≡ sounds p x k → own_part (after w c) j ≡ memory_of x (chan w j) k
  part_written c p x k h = part_after c (no_rewrite c p x k h) ∙ ap (λ (e : Event). part_by e (chan w j) (own_part w j)) h

-- several calls
pub parts_unwritten : (w : World) (cs : List Call) (j : ℕ) → list_any is_sample (events w cs j) ≡ false → list_any rewrites cs ≡ false → own_part (run w cs) j ≡ own_part w j
unfolding run events
parts_unwritten w [] j h r = refl
parts_unwritten w (c ∷ cs) j h r =
    let a = neither (is_sample (event w c j)) _ h in
    let b = neither (rewrites c) _ r in
    parts_unwritten (after w c) cs j a.1 b.1 ∙ part_unwritten w j c a.0 b.0
