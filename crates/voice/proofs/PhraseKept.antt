-- A new voice is of the phrase at its start, and stays so through all that is done to it; one that may stand in a record has a number of a phrase. Assumes nothing.
use mathlib.Core.Path.{◌≡◌, refl, ◌∙◌}
use Prim.Native.Nat.{ℕ, ◌<◌}
use mathlib.Core.Bool.{Bool, true, ◌&&◌}
use mathlib.Core.List.{List}
use lib.Dec.{leb, ltb, ltb→lt}
use lib.Ieee.{Float}
use lib.Ieee.Fits.{and_l}
use Rattle.binary32.proofs.Truth.{yes, cond_split}
use Rattle.common_types.specs.declared.Note.{Note}
use Rattle.common_types.specs.declared.Params.{Params}
use Rattle.volume.specs.Levels.{good_volume}
use Rattle.clip.specs.Refusals.{good_clip}
use Rattle.voice.specs.Voices.{tick_of, should_remove_of, sounded_of, finish_of, played_out_of, ended_of, volume_stepped, turn_of, fresh_of, blank_voice, at_speed_of, good_voice}
use Rattle.voice.specs.declared.Voice.{Voice}
use Rattle.voice.specs.declared.Moment.{Moment}
use Rattle.voice.specs.declared.Tick.{Tick}

pub good_phrase : (now : ℕ) (v : Voice) → good_voice now v ≡ true → v.phrase < 8
unfolding good_voice
good_phrase now v h =
    let rest : Bool = leb v.clip2.since now && leb v.finished_at now && good_volume now v.volume && good_clip v.clip2 in
    ltb→lt v.phrase 8 (and_l (ltb v.phrase 8) rest (yes h))

pub tick_phrase : (p : Params) (at : Moment) → (tick_of p at).phrase ≡ at.phrase
unfolding tick_of
tick_phrase p at = refl

pub fresh_phrase : (p : Params) (position : Float) (note : Note) (velocity : Float) (at : Moment) → (fresh_of p position note velocity at).phrase ≡ at.phrase
unfolding fresh_of
fresh_phrase p position note velocity at = refl

pub blank_phrase : blank_voice.phrase ≡ 0
unfolding blank_voice
blank_phrase = refl

pub finish_phrase : (now decay : ℕ) (v : Voice) → (finish_of now decay v).phrase ≡ v.phrase
unfolding finish_of
finish_phrase now decay v = refl

pub at_speed_phrase : (speed : Float) (v : Voice) → (at_speed_of speed v).phrase ≡ v.phrase
unfolding at_speed_of
at_speed_phrase speed v = refl

pub stepped_phrase : (now : ℕ) (v : Voice) → (volume_stepped now v).phrase ≡ v.phrase
unfolding volume_stepped
stepped_phrase now v = refl

-- ---- in a turn
pub ended_phrase : (t : Tick) (v : Voice) → (ended_of t v).phrase ≡ v.phrase
unfolding ended_of
ended_phrase t v =
    cond_split (λ (w : Voice). w.phrase ≡ v.phrase) (played_out_of t v) (finish_of t.now t.decay_samples v) v (λ e. finish_phrase t.now t.decay_samples v) (λ e. refl)

module _ (t : Tick) (m : List ℕ) (v : Voice) where
  pub sounded_phrase : (sounded_of t m v).phrase ≡ v.phrase
  unfolding sounded_of
  sounded_phrase = refl

  pub turn_phrase : (turn_of t m v).phrase ≡ v.phrase
  unfolding turn_of
  turn_phrase =
      let w : Voice = ended_of t (sounded_of t m v) in
      stepped_phrase t.now _
      ∙ cond_split (λ (z : Voice). z.phrase ≡ v.phrase) (should_remove_of t v) v w (λ e. refl) (λ e. ended_phrase t (sounded_of t m v) ∙ sounded_phrase)
