-- One number is chosen on all channels (request 11/12: "Choice, delete and gather act on all channels or none"): a choice sets it on all that are in use, a reset sets it to 0, and nothing else moves it. Assumes nothing.
use mathlib.Core.Path.{◌≡◌, refl, sym, ap, ◌∙◌, subst}
use mathlib.Core.Bool.{Bool, true, false, cond}
use mathlib.Core.List.{List, [], ◌∷◌}
use Prim.Native.Nat.{ℕ, zero, suc, ◌<◌}
use native.Mathlib.Omega.{arith}
use lib.Dec.{eqb, ltb}
use lib.ListN.{length, get_or}
use Rattle.std.specs.Prelude.{is_ok}
use Rattle.walks.specs.Each.{Each}
use Rattle.common_types.specs.declared.InitParams.{InitParams}
use Rattle.channel.specs.declared.Head.{Head}
use Rattle.channel.specs.declared.Channel.{Channel}
use Rattle.channel.specs.declared.Change.TheVariants as set
use Rattle.channel.specs.Heads.{head_of, chosen_after, head_changed_of, closed_of}
use Rattle.channel.specs.Channels.{channel_of, find_of, stop_playing_of, set_note_speed_of, head_changed_in, reset_of, gathered_in, played_of, taken_of}
use Rattle.channel.proofs.Heads.{passthru_holds}
use Rattle.sampler.specs.Refusals.{set_up_judged, set_up_number, capacity_of}
use Rattle.sampler.specs.Samplers.{sampler_of, set_up_of}
use Rattle.fates.specs.Engine.{step_of}
use Rattle.fates.specs.Events.{Event, idle, changes, gathers, sounds, act}
use Rattle.fates.proofs.Clocks.{finished_holds, started_holds}
use Rattle.promises.specs.Runs.{World, set_up, Call, change, sample, frame, read_wave, gather, asks, call_judged, after, run, chan, done_to, event, Made, makes, FittingMade}
use Rattle.promises.specs.Phrases.{chosen, Eight}
use Rattle.promises.proofs.Calls.{Standing, chan_after, kept, standing_after, standing_new}
use Rattle.promises.proofs.Makes.{spreads}

-- ---- the number after an event
unfoldable pub number_after : Event → ℕ → ℕ
number_after idle k = k
number_after (changes (set.Start p position note velocity)) k = k
number_after (changes (set.Stop p note)) k = k
number_after (changes (set.Speed note speed)) k = k
number_after (changes (set.Head d)) k = chosen_after d k
number_after (changes set.Reset) k = 0
number_after (gathers m) k = k
number_after (sounds p x m) k = k

abbrev number : Head → ℕ
number h = h.chosen

pub number_after_lem : (e : Event) (c : Channel) → (act e c).head.chosen ≡ number_after e c.head.chosen
unfolding act number_after stop_playing_of set_note_speed_of head_changed_in head_changed_of gathered_in head_of reset_of step_of played_of taken_of closed_of
number_after_lem idle c = refl
number_after_lem (changes (set.Start p position note velocity)) c = started_holds number (λ on v h. refl) p position note velocity c
number_after_lem (changes (set.Stop p note)) c = finished_holds number (λ on v h. refl) p c (find_of note c)
number_after_lem (changes (set.Speed note speed)) c = refl
number_after_lem (changes (set.Head d)) c = refl
number_after_lem (changes set.Reset) c = refl
number_after_lem (gathers m) c = refl
number_after_lem (sounds p x m) c = passthru_holds number (λ on v h. refl) p _ _

-- ---- and after a call, the same on every channel
abbrev number_by : Bool → Call → ℕ → ℕ
number_by accepted (change (set.Head d)) k = cond accepted (chosen_after d k) k
number_by accepted (change (set.Start p position note velocity)) k = k
number_by accepted (change (set.Stop p note)) k = k
number_by accepted (change (set.Speed note s)) k = k
number_by accepted (change set.Reset) k = cond accepted 0 k
number_by accepted (sample j x p) k = k
number_by accepted (frame xs p) k = k
number_by accepted (read_wave f) k = k
number_by accepted gather k = k
number_by accepted (asks q) k = k

still : (e : Event) (b : Bool) (k : ℕ) → number_after e k ≡ k → number_after (cond b e idle) k ≡ k
unfolding number_after
still e true k h = h
still e false k h = refl

by_event : (w : World) (c : Call) (j k : ℕ) → number_after (event w c j) k ≡ number_by (is_ok (call_judged w c)) c k
unfolding event done_to number_after chosen_after
by_event w (change (set.Start p position note velocity)) j k = still _ (is_ok (call_judged w (change (set.Start p position note velocity)))) k refl
by_event w (change (set.Stop p note)) j k = still _ (is_ok (call_judged w (change (set.Stop p note)))) k refl
by_event w (change (set.Speed note s)) j k = still _ (is_ok (call_judged w (change (set.Speed note s)))) k refl
by_event w (change (set.Head d)) j k = go (is_ok (call_judged w (change (set.Head d))))
  where
    go : (b : Bool) → number_after (cond b (done_to w (change (set.Head d)) j) idle) k ≡ cond b (chosen_after d k) k
    go true = refl
    go false = refl
by_event w (change set.Reset) j k = go (is_ok (call_judged w (change set.Reset)))
  where
    go : (b : Bool) → number_after (cond b (done_to w (change set.Reset) j) idle) k ≡ cond b 0 k
    go true = refl
    go false = refl
by_event w (sample i x p) j k = still _ (is_ok (call_judged w (sample i x p))) k (still _ (eqb i j) k refl)
by_event w (frame xs p) j k = still _ (is_ok (call_judged w (frame xs p))) k (still _ (ltb j (length xs)) k refl)
by_event w (read_wave f) j k = still _ (is_ok (call_judged w (read_wave f))) k refl
by_event w gather j k = still _ (is_ok (call_judged w gather)) k refl
by_event w (asks q) j k = still idle (is_ok (call_judged w (asks q))) k refl

abbrev Same : World → Type 0
Same w = (i j : ℕ) → i < w.sampler.count → j < w.sampler.count → chosen w i ≡ chosen w j

same_after : (w : World) → Standing w → Same w → (c : Call) → Same (after w c)
same_after w st same c i j h k =
    let a : i < w.sampler.count = omega (arith, (kept w c).count) in
    let b : j < w.sampler.count = omega (arith, (kept w c).count) in
    next i a ∙ ap (number_by (is_ok (call_judged w c)) c) (same i j a b) ∙ sym (next j b)
  where
    next : (i : ℕ) → i < w.sampler.count → chosen (after w c) i ≡ number_by (is_ok (call_judged w c)) c (chosen w i)
    next i a = ap (λ (d : Channel). d.head.chosen) (chan_after w st.two st.few i a c) ∙ number_after_lem (event w c i) (chan w i) ∙ by_event w c i (chosen w i)

same_run : (w : World) → Standing w → Same w → (cs : List Call) → Same (run w cs)
unfolding run
same_run w st same [] = same
same_run w st same (c ∷ cs) = same_run (after w c) (standing_after w c st) (same_after w st same c) cs

-- ---- from set-up on, where it is number 0
new_number : (count : ℕ) (p : InitParams) (m : List ℕ) (j : ℕ) → chosen (set_up count p m) j ≡ 0
unfolding set_up set_up_of channel_of head_of
new_number count p m j = go (is_ok (set_up_judged count (length m))) j
  where
    go : (b : Bool) (j : ℕ) → (get_or (cond b (sampler_of count p (capacity_of count (length m))) (sampler_of 0 p 0)).channels j (channel_of (record { auto_passthru = false }))).head.chosen ≡ 0
    go true zero = refl
    go true (suc zero) = refl
    go true (suc (suc j)) = refl
    go false zero = refl
    go false (suc zero) = refl
    go false (suc (suc j)) = refl

pub eight : (count : ℕ) (p : InitParams) (m : List ℕ) → set_up_number count (length m) ≡ 0 → (hs : List Made) → Each FittingMade hs → Eight (makes (set_up count p m) hs)
unfolding makes Each
eight count p m ok hs f = record {
  same_chosen = subst Same (sym (spreads count p m ok [] hs tt f))
      (same_run (set_up count p m) (standing_new count p m) (λ i j h k. new_number count p m i ∙ sym (new_number count p m j)) _);
}
