-- "It is a setting per sampler" (request 7/12): every channel has the setting of the last accepted call that sets it. Assumes nothing.
use mathlib.Core.Path.{◌≡◌, refl, ap, ◌∙◌}
use Prim.Native.Nat.{ℕ, zero, suc, ◌<◌}
use native.Mathlib.Omega.{arith}
use mathlib.Core.Bool.{Bool, true, false, cond}
use mathlib.Core.List.{List, [], ◌∷◌}
use lib.Dec.{eqb, ltb}
use lib.ListN.{length, get_or}
use Rattle.std.specs.Prelude.{is_ok}
use Rattle.common_types.specs.declared.InitParams.{InitParams}
use Rattle.channel.specs.declared.Channel.{Channel}
use Rattle.channel.specs.declared.Change.TheVariants.{Start, Stop, Speed, Head, Reset}
use Rattle.channel.specs.Heads.{head_of, interpolates_after}
use Rattle.channel.specs.Channels.{channel_of}
use Rattle.sampler.specs.Refusals.{set_up_judged, set_up_number, capacity_of}
use Rattle.sampler.specs.Samplers.{sampler_of, set_up_of}
use Rattle.fates.specs.Events.{Event, idle, setting_after}
use Rattle.fates.proofs.Clocks.{setting_after_lem}
use Rattle.promises.specs.Runs.{World, set_up, Call, change, sample, frame, read_wave, gather, asks, call_judged, after, run, chan, done_to, event, setting_by, setting_in}
use Rattle.promises.proofs.Calls.{Standing, count_kept, standing_after, standing_new}
use Rattle.promises.proofs.Demand3.{next, still}

-- a refused call does nothing, and so does one that isn't of this channel
kept : (e : Event) (b on : Bool) → setting_after e on ≡ on → setting_after (cond b e idle) on ≡ on
unfolding setting_after
kept e true on h = h
kept e false on h = refl

by_event : (w : World) (c : Call) (j : ℕ) (on : Bool) → setting_after (event w c j) on ≡ setting_by (is_ok (call_judged w c)) c on
unfolding event done_to setting_after interpolates_after
by_event w (change (Start p position note velocity)) j on = kept _ (is_ok (call_judged w (change (Start p position note velocity)))) on refl
by_event w (change (Stop p note)) j on = kept _ (is_ok (call_judged w (change (Stop p note)))) on refl
by_event w (change (Speed note s)) j on = kept _ (is_ok (call_judged w (change (Speed note s)))) on refl
by_event w (change (Head d)) j on = go (is_ok (call_judged w (change (Head d))))
  where
    go : (b : Bool) → setting_after (cond b (done_to w (change (Head d)) j) idle) on ≡ cond b (interpolates_after d on) on
    go true = refl
    go false = refl
by_event w (change Reset) j on = kept _ (is_ok (call_judged w (change Reset))) on refl
by_event w (sample i x p) j on = kept _ (is_ok (call_judged w (sample i x p))) on (kept _ (eqb i j) on refl)
by_event w (frame xs p) j on = kept _ (is_ok (call_judged w (frame xs p))) on (kept _ (ltb j (length xs)) on refl)
by_event w (read_wave f) j on = kept _ (is_ok (call_judged w (read_wave f))) on refl
by_event w gather j on = kept _ (is_ok (call_judged w gather)) on refl
by_event w (asks q) j on = kept idle (is_ok (call_judged w (asks q))) on refl

setting_run : (w : World) → Standing w → (j : ℕ) → j < w.sampler.count → (cs : List Call) → (chan (run w cs) j).head.interpolates ≡ setting_in w (chan w j).head.interpolates cs
unfolding run setting_in
setting_run w st j k [] = refl
setting_run w st j k (c ∷ cs) =
    let on : Bool = (chan w j).head.interpolates in
    let one : (chan (after w c) j).head.interpolates ≡ setting_by (is_ok (call_judged w c)) c on =
    ap (λ (d : Channel). d.head.interpolates) (next w st j k c) ∙ setting_after_lem (event w c j) (chan w j) ∙ by_event w c j on in
    setting_run (after w c) (standing_after w c st) j (still w st j k c) cs ∙ ap (λ (b : Bool). setting_in (after w c) b cs) one

-- off at set-up, on every channel
new_setting : (count : ℕ) (p : InitParams) (m : List ℕ) (j : ℕ) → (chan (set_up count p m) j).head.interpolates ≡ false
unfolding set_up set_up_of channel_of head_of
new_setting count p m j = go (is_ok (set_up_judged count (length m))) j
  where
    go : (b : Bool) (j : ℕ) → (get_or (cond b (sampler_of count p (capacity_of count (length m))) (sampler_of 0 p 0)).channels j (channel_of (record { auto_passthru = false }))).head.interpolates ≡ false
    go true zero = refl
    go true (suc zero) = refl
    go true (suc (suc j)) = refl
    go false zero = refl
    go false (suc zero) = refl
    go false (suc (suc j)) = refl

pub one_setting : (count : ℕ) (p : InitParams) (m : List ℕ) → set_up_number count (length m) ≡ 0 → (cs : List Call) (j : ℕ) → j < count → (chan (run (set_up count p m) cs) j).head.interpolates ≡ setting_in (set_up count p m) false cs
unfolding run
one_setting count p m ok cs j k =
    setting_run (set_up count p m) (standing_new count p m) j (omega (arith, count_kept count p m ok [])) cs ∙ ap (λ (b : Bool). setting_in (set_up count p m) b cs) (new_setting count p m j)
