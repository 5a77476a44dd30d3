-- A channel's clock: a sample moves it on by one below its end, a reset sets it to 0, and nothing else changes it. So events in which it stands still hold no sample. And its setting, which only a change that sets it moves. Assumes nothing.
use mathlib.Core.Path.{◌≡◌, refl, sym, ◌∙◌, subst}
use mathlib.Core.Bool.{Bool, false, true≢false}
use mathlib.Core.List.{List, [], ◌∷◌}
use Prim.Native.Nat.{ℕ, ◌+◌, ◌≤◌, ◌<◌}
use native.Mathlib.Nat.{le_refl, le_trans, le_of_eq}
use native.Mathlib.Omega.{arith}
use lib.Dec.{eqb, ltb}
use lib.Ieee.{Float}
use Rattle.std.specs.List.{list_any}
use Rattle.common_types.specs.declared.Params.{Params}
use Rattle.common_types.specs.declared.Note.{Note}
use Rattle.voice.specs.declared.Voice.{Voice}
use Rattle.volume.specs.declared.Volume.{Volume}
use Rattle.channel.specs.declared.Head.{Head}
use Rattle.channel.specs.declared.Channel.{Channel}
use Rattle.channel.specs.declared.Change.TheVariants as change
use Rattle.std.specs.Prelude.{Option, Some, None}
use Rattle.channel.specs.Heads.{last_time, next_time, with_passthru, head_of}
use Rattle.channel.specs.Channels.{
  any_unfinished_of,
  handled_of,
  pushed_of,
  find_of,
  finished_at_of,
  stop_playing_of,
  set_note_speed_of,
  head_changed_in,
  gathered_in,
  reset_of,
  taken_of,
}
use Rattle.channel.proofs.Heads.{head_change_now, head_change_setting, passthru_holds, next_later, next_one, closed_now, closed_setting}
use Rattle.fates.specs.Engine.{begun_of, step_of}
use Rattle.fates.specs.Events.{Event, idle, changes, gathers, sounds, act, acts, setting_after, is_reset, is_sample}
use Rattle.walks.proofs.Tests.{neither, either}

-- what of a head pass-through doesn't touch, a start and a stop hold
module _ {A : Type 0} (f : Head → A) (same : (on : Bool) (v : Volume) (h : Head) → f (with_passthru on v h) ≡ f h) where
  handled_holds : (p : Params) (c : Channel) → f (handled_of p c).head ≡ f c.head
  unfolding handled_of
  handled_holds p c = passthru_holds f same p (any_unfinished_of c) c.head

  pushed_holds : (v : Voice) (c : Channel) → f (pushed_of v c).head ≡ f c.head
  unfolding pushed_of
  pushed_holds v c = either (λ (d : Channel). f d.head) (ltb c.count 32) _ c (f c.head) refl refl

  pub finished_holds : (p : Params) (c : Channel) (found : Option ℕ) → f (finished_at_of p c found).head ≡ f c.head
  unfolding finished_at_of
  finished_holds p c None = refl
  finished_holds p c (Some i) = either (λ (d : Channel). f d.head) (ltb i 32) _ c (f c.head) (handled_holds p _) refl

  pub started_holds : (p : Params) (position : Float) (note : Note) (velocity : Float) (c : Channel) → f (begun_of p position note velocity c).head ≡ f c.head
  unfolding begun_of
  started_holds p position note velocity c =
      either (λ (d : Channel). f d.head) (eqb c.head.data_len 0) c _ (f c.head) refl (handled_holds p _ ∙ pushed_holds _ c)

abbrev clock : Head → ℕ
clock h = h.now

abbrev setting : Head → Bool
setting h = h.interpolates

sounded_clock : (p : Params) (x : Float) (m : List ℕ) (c : Channel) → (step_of p x c m).channel.head.now ≡ next_time c.head.now
unfolding step_of taken_of
sounded_clock p x m c = closed_now p _ (taken_of m c).head

-- ---- the setting
pub setting_after_lem : (e : Event) (c : Channel) → (act e c).head.interpolates ≡ setting_after e c.head.interpolates
unfolding act setting_after stop_playing_of set_note_speed_of head_changed_in gathered_in head_of reset_of step_of taken_of
setting_after_lem idle c = refl
setting_after_lem (changes (change.Start p position note velocity)) c = started_holds setting (λ on v h. refl) p position note velocity c
setting_after_lem (changes (change.Stop p note)) c = finished_holds setting (λ on v h. refl) p c (find_of note c)
setting_after_lem (changes (change.Speed note speed)) c = refl
setting_after_lem (changes (change.Head d)) c = head_change_setting d c
setting_after_lem (changes change.Reset) c = refl
setting_after_lem (gathers m) c = refl
setting_after_lem (sounds p x m) c = closed_setting p _ (taken_of m c).head

-- ---- one event
pub clock_still : (e : Event) (c : Channel) → is_reset e ≡ false → is_sample e ≡ false → (act e c).head.now ≡ c.head.now
unfolding act is_reset is_sample stop_playing_of set_note_speed_of head_changed_in gathered_in
clock_still idle c r q = refl
clock_still (changes (change.Start p position note velocity)) c r q = started_holds clock (λ on v h. refl) p position note velocity c
clock_still (changes (change.Stop p note)) c r q = finished_holds clock (λ on v h. refl) p c (find_of note c)
clock_still (changes (change.Speed note speed)) c r q = refl
clock_still (changes (change.Head d)) c r q = head_change_now d c
clock_still (changes change.Reset) c r q = absurd (true≢false r)
clock_still (gathers m) c r q = refl
clock_still (sounds p x m) c r q = absurd (true≢false q)

pub clock_moves : (p : Params) (x : Float) (m : List ℕ) (c : Channel) → c.head.now < last_time → (act (sounds p x m) c).head.now ≡ c.head.now + 1
unfolding act
clock_moves p x m c h = sounded_clock p x m c ∙ next_one c.head.now h

clock_up : (e : Event) (c : Channel) → is_reset e ≡ false → c.head.now ≤ (act e c).head.now
unfolding act is_sample gathered_in
clock_up idle c r = le_refl c.head.now
clock_up (changes d) c r = le_of_eq (sym (clock_still (changes d) c r refl))
clock_up (gathers m) c r = le_refl c.head.now
clock_up (sounds p x m) c r = subst (λ (n : ℕ). c.head.now ≤ n) (sym (sounded_clock p x m c)) (next_later c.head.now)

-- ---- any events without a reset
pub clock_later : (es : List Event) (c : Channel) → list_any is_reset es ≡ false → c.head.now ≤ (acts es c).head.now
unfolding acts
clock_later [] c r = le_refl c.head.now
clock_later (e ∷ es) c r =
    let a = neither (is_reset e) (list_any is_reset es) r in
    le_trans (clock_up e c a.0) (clock_later es (act e c) a.1)

pub clock_stands : (es : List Event) (c : Channel) → list_any is_reset es ≡ false → list_any is_sample es ≡ false → (acts es c).head.now ≡ c.head.now
unfolding acts
clock_stands [] c r q = refl
clock_stands (e ∷ es) c r q =
    let a = neither (is_reset e) (list_any is_reset es) r in
    let b = neither (is_sample e) (list_any is_sample es) q in
    clock_stands es (act e c) a.1 b.1 ∙ clock_still e c a.0 b.0

-- a clock that stands still has met no sample
pub no_sample : (es : List Event) (c : Channel) → list_any is_reset es ≡ false → c.head.now < last_time → (acts es c).head.now ≡ c.head.now → list_any is_sample es ≡ false
unfolding acts is_sample is_reset
no_sample [] c r h k = refl
no_sample (idle ∷ es) c r h k = no_sample es (act idle c) r (subst (λ (n : ℕ). n < last_time) (sym (clock_still idle c refl refl)) h) (k ∙ sym (clock_still idle c refl refl))
no_sample (changes d ∷ es) c r h k =
    let a = neither (is_reset (changes d)) (list_any is_reset es) r in
    let e = clock_still (changes d) c a.0 refl in
    no_sample es (act (changes d) c) a.1 (subst (λ (n : ℕ). n < last_time) (sym e) h) (k ∙ sym e)
no_sample (gathers m ∷ es) c r h k = no_sample es (act (gathers m) c) r (subst (λ (n : ℕ). n < last_time) (sym (clock_still (gathers m) c refl refl)) h) (k ∙ sym (clock_still (gathers m) c refl refl))
no_sample (sounds p x m ∷ es) c r h k =
    let a = neither (is_reset (sounds p x m)) (list_any is_reset es) r in
    absurd (omega (arith, clock_moves p x m c h, clock_later es (act (sounds p x m) c) a.1))
