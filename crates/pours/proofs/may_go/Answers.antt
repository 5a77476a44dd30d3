-- `may_go` meets its contract, by the behaviour. Assumes nothing.
-- of a finished voice, by what its behaviour is
use mathlib.Core.Path.{◌≡◌, refl, sym, ap, ap₂, ◌∙◌}
use mathlib.Core.Bool.{Bool, true, false, ◌&&◌, ◌||◌}
use borrow.Author.Tests.{not-true, not-false}
use Rattle.common_types.specs.declared.NoteOffBehaviour.{NoteOffBehaviour}
use Rattle.volume.specs.Levels.{is_static_and_mute_of}
use Rattle.voice.specs.declared.Voice.{Voice}
use Rattle.voice.specs.Voices.{over_of}
use Rattle.pours.specs.Steady.{may_go}
use Rattle.pours.proofs.may_go.Goals as goal

by_behaviour : (v : Voice) (b given : NoteOffBehaviour) → v.finished ≡ true → b ≡ given → over_of given (is_static_and_mute_of v.volume) true ≡ may_go b v
by_behaviour v b given finished is = sym (ap₂ (λ (f : Bool) (x : NoteOffBehaviour). f && over_of x (is_static_and_mute_of v.volume) true) finished is)

or-true : (a : Bool) → true ≡ (a || true)
or-true true = refl
or-true false = refl

pub returns-then-not-v : goal.returns-then-not-v
returns-then-not-v c =
    let a = c.args in
    sym (ap (λ (f : Bool). f && over_of a.behavior (is_static_and_mute_of a.v.volume) true) (not-true a.v.finished c.if-not-v.true))

pub returns-in-Decay : goal.returns-in-Decay
unfolding over_of
returns-in-Decay c =
    let a = c.args in
    c.is_static_and_mute.ensures ∙ by_behaviour a.v a.behavior _ (not-false a.v.finished c.if-not-v.false) c.in-Decay.is

pub returns-in-ZeroCrossing : goal.returns-in-ZeroCrossing
unfolding over_of
returns-in-ZeroCrossing c =
    let a = c.args in
    by_behaviour a.v a.behavior _ (not-false a.v.finished c.if-not-v.false) c.in-ZeroCrossing.is

pub returns-in-DecayAndZeroCrossing : goal.returns-in-DecayAndZeroCrossing
unfolding over_of
returns-in-DecayAndZeroCrossing c =
    let a = c.args in
    or-true (is_static_and_mute_of a.v.volume) ∙ by_behaviour a.v a.behavior _ (not-false a.v.finished c.if-not-v.false) c.in-DecayAndZeroCrossing.is
