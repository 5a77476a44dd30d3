-- A sound channel stays sound through every change, and what set-up and reset make is sound. Assumes nothing.
use mathlib.Core.Path.{◌≡◌, refl, sym, ◌∙◌, subst}
use Prim.Native.Nat.{ℕ, ◌+◌, ◌^◌, ◌≤◌, zero-le}
use native.Mathlib.Nat.{le_trans, le_of_eq}
use native.Mathlib.Omega.{arith}
use mathlib.Core.Bool.{Bool, true, false}
use mathlib.Core.List.{List, map}
use borrow.Author.Tests.{ltb-true, ltb-false}
use lib.Dec.{ltb, eqb, ltb→lt}
use lib.ListN.{length, take, get_or, set, length-set, length-replicate}
use lib.Seq.{sets, length-sets, take-set-le}
use lib.Ieee.{Float, binary32, fits}
use lib.Ieee.Fits.{cond-fits}
use Rattle.binary32.proofs.Truth.{cond_split}
use Rattle.walks.specs.Each.{Each}
use Rattle.walks.proofs.Lists.Each.{each_set, each_push, each_map, front_map}
use Rattle.common_types.specs.declared.InitParams.{InitParams}
use Rattle.common_types.specs.declared.Params.{Params}
use Rattle.common_types.specs.declared.Note.{Note}
use Rattle.common_types.proofs.Limits.{within}
use Rattle.binary32.specs.Leaves.{zero32, one32}
use Rattle.phrases.specs.Phrases.{no_phrase}
use Rattle.voice.specs.declared.Voice.{Voice}
use Rattle.voice.specs.Voices.{finish_of, fresh_of, at_speed_of, blank_voice}
use Rattle.voice.specs.Soundness.{Fits, SoundParams, SoundPosition, SoundVoice}
use Rattle.voice.proofs.Kept.{finish_sound, at_speed_sound, fresh_sound}
use Rattle.channel.specs.Heads.{moment_of, passthru_of}
use Rattle.channel.specs.Tables.{good_table}
use Rattle.channel.specs.Channels.{with_voices, live, channel_of, reset_of, any_unfinished_of, handled_of, pushed_of, start_playing_of, same_note, find_of, finished_at_of, stop_playing_of, sped_of, set_note_speed_of, changed_of}
use Rattle.channel.specs.Soundness.{SoundChannel, SoundChange}
use Rattle.channel.specs.declared.Channel.{Channel}
use Rattle.channel.specs.declared.Change.{Change}
use Rattle.channel.specs.declared.Change.TheVariants as change
use Rattle.std.specs.Prelude.{Option, Some, None}
use Rattle.channel.proofs.Heads.{new_sound, passthru_now, passthru_table, passthru_sound}
use Rattle.channel.proofs.Changes.{head_change_sound}
use Rattle.channel.proofs.Parts.{parts, joined, head_changed, voices_changed, data_within, room, voice_at, some}

-- ---- what set-up and reset make
pub reset_sound : (capacity : ℕ) (c : Channel) → length c.voices ≡ 32 → length c.table ≡ 8 → SoundChannel capacity (reset_of c)
unfolding reset_of Each fits good_table
reset_sound capacity c h e = joined (record { few = zero-le; places = h; entries = e; table = refl; voices = tt; head = new_sound capacity zero32 c.head.interpolates tt })

pub new_channel_sound : (capacity : ℕ) (p : InitParams) → SoundChannel capacity (channel_of p)
unfolding channel_of Each fits good_table
new_channel_sound capacity p =
    joined (record { few = zero-le; places = length-replicate 32 blank_voice; entries = length-replicate 8 no_phrase; table = refl; voices = tt; head = new_sound capacity _ false (cond-fits binary32 p.auto_passthru one32 zero32 tt tt) })

handled_sound : (capacity : ℕ) (c : Channel) → SoundChannel capacity c → (p : Params) → SoundParams p → SoundChannel capacity (handled_of p c)
unfolding handled_of
handled_sound capacity c s p ok =
    let u = any_unfinished_of c in
    head_changed capacity c s (passthru_of p u c.head) (passthru_sound capacity c.head (parts s).head p ok u) (le_of_eq (sym (passthru_now p u c.head)))
    (passthru_table capacity c.several c.table p u c.head ∙ (parts s).table)

module _ (capacity : ℕ) (c : Channel) (s : SoundChannel capacity c) where
  -- ---- keys
  pushed_sound : (v : Voice) → SoundVoice c.head.now v → SoundChannel capacity (pushed_of v c)
  unfolding pushed_of
  pushed_sound v h =
      cond_split (SoundChannel capacity) (ltb c.count 32) (with_voices (set c.voices c.count v) (c.count + 1) c) c
      (λ t. let k = ltb→lt c.count 32 t in
      voices_changed capacity c s (set c.voices c.count v) (c.count + 1) (omega arith) (length-set c.voices c.count v) (each_push (SoundVoice c.head.now) c.voices c.count v (parts s).voices h))
      (λ t. s)

  -- the voice at a place finished; a place past the voices is none of them
  abbrev finished_at : ℕ → ℕ → List Voice
  finished_at decay i = set c.voices i (finish_of c.head.now decay (get_or c.voices i blank_voice))

  finished_voices : (decay i : ℕ) → decay ≤ 2 ^ 24 → Each (SoundVoice c.head.now) (take c.count (finished_at decay i))
  finished_voices decay i h = go (ltb i c.count) refl
    where
      go : (b : Bool) → ltb i c.count ≡ b → Each (SoundVoice c.head.now) (take c.count (finished_at decay i))
      go true e =
          let v = get_or c.voices i blank_voice in
          each_set (SoundVoice c.head.now) c.voices c.count i (finish_of c.head.now decay v) (parts s).voices
          (finish_sound c.head.now v (voice_at capacity c s i blank_voice (ltb-true i c.count e)) decay (parts s).head.time h)
      go false e = rw (take-set-le c.count c.voices i (finish_of c.head.now decay (get_or c.voices i blank_voice)) (ltb-false i c.count e)) (parts s).voices

  finished_sound : (p : Params) → SoundParams p → (f : Option ℕ) → SoundChannel capacity (finished_at_of p c f)
  unfolding finished_at_of
  finished_sound p ok None = s
  finished_sound p ok (Some i) =
      let vs = finished_at p.decay_samples i in
      cond_split (SoundChannel capacity) (ltb i 32) (handled_of p (with_voices vs c.count c)) c
      (λ t. handled_sound capacity (with_voices vs c.count c)
      (voices_changed capacity c s vs c.count (parts s).few (length-set c.voices i _) (finished_voices p.decay_samples i (within p ok.within).decay)) p ok)
      (λ t. s)

  sped_sound : (note : Note) (speed : Float) → Fits speed → SoundChannel capacity (set_note_speed_of note speed c)
  unfolding set_note_speed_of
  sped_sound note speed t =
      let S = SoundVoice c.head.now in
      let g = parts s in
      let vs = map (sped_of note speed) (live c) in
      voices_changed capacity c s (sets c.voices 0 vs) c.count g.few (length-sets c.voices 0 vs)
      (subst (Each S) (sym (front_map (sped_of note speed) c.voices c.count (room capacity c s)))
      (each_map S S (sped_of note speed) one (live c) g.voices))
    where
      one : (v : Voice) → SoundVoice c.head.now v → SoundVoice c.head.now (sped_of note speed v)
      one v h = unfold sped_of in cond_split (SoundVoice c.head.now) (same_note v.note note) (at_speed_of speed v) v (λ e. at_speed_sound c.head.now v h speed t) (λ e. h)

  started_sound : capacity ≤ 2 ^ 22 → (p : Params) → SoundParams p → (position : Float) → SoundPosition position → (note : Note) (velocity : Float) → Fits velocity
      → SoundChannel capacity (start_playing_of p position note velocity c)
  unfolding start_playing_of
  started_sound small p ok position at note velocity t =
      let n = c.head.data_len in
      let v = fresh_of p position note velocity (moment_of c.head) in
      cond_split (SoundChannel capacity) (eqb n 0) c (handled_of p (pushed_of v c)) (λ e. s)
      (λ e. handled_sound capacity (pushed_of v c)
      (pushed_sound v (fresh_sound p (moment_of c.head) ok (some n e) (le_trans (data_within capacity c s) small) (parts s).head.time position note velocity (parts s).head.numbered at t)) p ok)

  -- ---- every change
  pub change_sound : capacity ≤ 2 ^ 22 → (x : Change) → SoundChange capacity c x → SoundChannel capacity (changed_of x c)
  unfolding changed_of SoundChange stop_playing_of
  change_sound small (change.Start p position note velocity) ok = started_sound small p ok.0 position ok.1 note velocity ok.2
  change_sound small (change.Stop p note) ok = finished_sound p ok (find_of note c)
  change_sound small (change.Speed note speed) ok = sped_sound note speed ok
  change_sound small (change.Head d) ok = head_change_sound capacity c s small d ok
  change_sound small change.Reset ok = reset_sound capacity c (parts s).places (parts s).entries
