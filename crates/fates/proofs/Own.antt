-- What a voice finds goes by its phrase, which no event changes; what a sample does with a voice, by what that voice finds; and what it gives of all voices. Assumes nothing.
use mathlib.Core.Path.{◌≡◌, refl, sym, ap, ◌∙◌, subst}
use mathlib.Core.Bool.{Bool, true, false, ◌||◌, cond}
use mathlib.Core.List.{List}
use Prim.Native.Nat.{ℕ}
use lib.Dec.{eqb}
use lib.ListN.{length}
use lib.Ieee.{Float, binary32, add, mul}
use Rattle.common_types.specs.declared.Params.{Params}
use Rattle.volume.specs.Levels.{level_of}
use Rattle.binary32.specs.Leaves.{zero32}
use Rattle.phrases.specs.declared.Phrase.{Phrase}
use Rattle.phrases.specs.Phrases.{is_over_by, stored_in}
use Rattle.phrases.proofs.Rooms.{stored_length}
use Rattle.voice.specs.declared.Voice.{Voice}
use Rattle.voice.specs.declared.Moment.{Moment}
use Rattle.voice.specs.declared.Tick.{Tick}
use Rattle.voice.specs.Voices.{sounded_of, ended_of, finish_of, at_speed_of}
use Rattle.voice.proofs.PhraseKept.{finish_phrase, at_speed_phrase, stepped_phrase, ended_phrase, sounded_phrase}
use Rattle.channel.specs.declared.Channel.{Channel}
use Rattle.channel.specs.declared.Change.TheVariants as change
use Rattle.channel.specs.Channels.{live, same_note, find_of, sped_of, tidied_of, heard_sum, played_of, added_of, resting, turning_at, turning_of, phrase_at, moment_for, taken_of, memory_of}
use Rattle.channel.proofs.Samples.{memory_kept}
use Rattle.fates.specs.Engine.{passes_over, voice_turned, leaves_of, turns_by, moment_at, held_at, turns_in, step_of}
use Rattle.fates.specs.Events.{Event, idle, changes, gathers, sounds, length_at, empty_at, tick_at, SampledIn}
use Rattle.fates.specs.Places.{finds_at, becomes}
use Rattle.fates.specs.Sounding.{term_of}
use Rattle.walks.proofs.Tests.{either}

-- ---- voices of one phrase find the same
pub moment_kept : (m : List ℕ) (c : Channel) (v w : Voice) → w.phrase ≡ v.phrase → moment_at m c w ≡ moment_at m c v
unfolding moment_at
moment_kept m c v w e = ap (λ (k : ℕ). moment_for (taken_of m c) k) e

held_kept : (x : Float) (m : List ℕ) (c : Channel) (v w : Voice) → w.phrase ≡ v.phrase → held_at x m c w ≡ held_at x m c v
unfolding held_at
held_kept x m c v w e = ap (λ (k : ℕ). stored_in (phrase_at (taken_of m c) k) (memory_of x c m)) e

pub finds_kept : (m : List ℕ) (c : Channel) (v w : Voice) → w.phrase ≡ v.phrase → empty_at m c v ≡ false → empty_at m c w ≡ false
finds_kept m c v w k e = ap (λ (at : Moment). eqb at.data_len 0) (moment_kept m c v w k) ∙ e

pub sampled_kept : {e : Event} {c : Channel} {p : Params} (v w : Voice) → w.phrase ≡ v.phrase → SampledIn e c p v → SampledIn e c p w
sampled_kept {e} {c} {p} v w k s = record { input = s.input; memory = s.memory; sample = s.sample; finds = finds_kept s.memory c v w k s.finds }

-- ---- it is its own phrase that a voice goes by
pub moment_own : (m : List ℕ) (c : Channel) (v : Voice) → (moment_at m c v).phrase ≡ v.phrase
unfolding moment_at
moment_own m c v = refl

-- and where that lies within the memory, the voice has as many samples as its moment says
pub held_length : (x : Float) (m : List ℕ) (c : Channel) (v : Voice) → is_over_by (length m) (phrase_at (taken_of m c) v.phrase) ≡ true
    → length (held_at x m c v) ≡ length_at m c v
unfolding moment_at held_at
held_length x m c v ends =
    let own : Phrase = phrase_at (taken_of m c) v.phrase in
    stored_length own (memory_of x c m) (subst (λ (n : ℕ). is_over_by n own ≡ true) (sym (memory_kept x c m)) ends)

-- ---- its turn leaves a voice its phrase
turned_phrase : (t : Tick) (m : List ℕ) (v : Voice) → (voice_turned t m v).phrase ≡ v.phrase
unfolding voice_turned
turned_phrase t m v =
    stepped_phrase t.now _
    ∙ either (λ (w : Voice). w.phrase) (passes_over t v) v (ended_of t (sounded_of t m v)) v.phrase refl (ended_phrase t (sounded_of t m v) ∙ sounded_phrase t m v)

-- ---- one voice
module _ (p : Params) (x : Float) (m : List ℕ) (c : Channel) (v : Voice) where
  abbrev t : Tick
  t = tick_at p m c v

  abbrev own : List ℕ
  own = held_at x m c v

  pub own_turn : (turns_in p x m c).turn v ≡ cond (empty_at m c v) v (voice_turned t own v)
  unfolding turning_of turning_at turns_by resting
  own_turn = go (empty_at m c v)
    where
      go : (b : Bool) → (cond b resting (turns_by t own)).turn v ≡ cond b v (voice_turned t own v)
      go true = refl
      go false = refl

  pub own_adds : (out : Float) → (turns_in p x m c).adds out v ≡ added_of (empty_at m c v || passes_over t v) out (term_of p x m c v)
  unfolding turning_of turning_at turns_by resting added_of
  own_adds out = go (empty_at m c v)
    where
      go : (b : Bool) → (cond b resting (turns_by t own)).adds out v ≡ added_of (b || passes_over t v) out (term_of p x m c v)
      go true = refl
      go false = refl

  own_phrase : ((turns_in p x m c).turn v).phrase ≡ v.phrase
  own_phrase = ap (λ (w : Voice). w.phrase) own_turn ∙ either (λ (w : Voice). w.phrase) (empty_at m c v) v (voice_turned t own v) v.phrase refl (turned_phrase t own v)

  -- once it has taken its turn
  pub own_leaves : (turns_in p x m c).leaves ((turns_in p x m c).turn v) ≡ cond (empty_at m c v) false (leaves_of t (voice_turned t own v))
  unfolding turning_of turning_at turns_by resting
  own_leaves =
      let u = (turns_in p x m c).turn v in
      (λ i. (turning_at turns_by p (moment_kept m c v u own_phrase i) (held_kept x m c v u own_phrase i)).leaves u) ∙ go (empty_at m c v)
    where
      go : (b : Bool) → (cond b resting (turns_by t own)).leaves ((cond b resting (turns_by t own)).turn v) ≡ cond b false (leaves_of t (voice_turned t own v))
      go true = refl
      go false = refl

-- ---- no event changes a voice's phrase
pub becomes_phrase : (e : Event) (c : Channel) (n : ℕ) (v : Voice) → (becomes e c n v).phrase ≡ v.phrase
unfolding becomes sped_of
becomes_phrase idle c n v = refl
becomes_phrase (changes (change.Start p position note velocity)) c n v = refl
becomes_phrase (changes (change.Stop p note)) c n v =
    either (λ (w : Voice). w.phrase) (finds_at (find_of note c) n) (finish_of c.head.now p.decay_samples v) v v.phrase (finish_phrase c.head.now p.decay_samples v) refl
becomes_phrase (changes (change.Speed note speed)) c n v = either (λ (w : Voice). w.phrase) (same_note v.note note) (at_speed_of speed v) v v.phrase (at_speed_phrase speed v) refl
becomes_phrase (changes (change.Head d)) c n v = refl
becomes_phrase (changes change.Reset) c n v = refl
becomes_phrase (gathers m) c n v = refl
becomes_phrase (sounds p x m) c n v = own_phrase p x m c v

-- so it finds in a sample what it would have found as it was before the event
pub becomes_moment : (e : Event) (c : Channel) (n : ℕ) (v : Voice) (m : List ℕ) (d : Channel) → moment_at m d (becomes e c n v) ≡ moment_at m d v
becomes_moment e c n v m d = moment_kept m d v (becomes e c n v) (becomes_phrase e c n v)

-- ---- all voices
module _ (p : Params) (x : Float) (m : List ℕ) (c : Channel) where
  pub step_moved : (step_of p x c m).moved ≡ tidied_of (turns_in p x m c) (live c)
  unfolding step_of played_of taken_of
  step_moved = refl

  pub step_output : (step_of p x c m).output
      ≡ add binary32 (add binary32 zero32 (heard_sum (turns_in p x m c) (live c))) (mul binary32 x (level_of c.head.passthru_volume c.head.now))
  unfolding step_of played_of taken_of
  step_output = refl
