-- A sound channel stays sound through a sample, whose clock is then one more; its memory keeps its length; and each voice sounds by a value recorded. Assumes nothing.
use mathlib.Core.Path.{◌≡◌, refl, sym, ap, ◌∙◌, subst}
use Prim.Native.Nat.{ℕ, ◌-◌, ◌^◌, ◌≤◌, ◌<◌}
use native.Mathlib.Nat.{le_trans, le_of_eq}
use native.Mathlib.Omega.{arith}
use mathlib.Core.Bool.{Bool, true, false}
use mathlib.Core.List.{List, map}
use lib.Dec.{leb, eqb}
use borrow.Author.Tests.{leb-true, leb-false}
use lib.ListN.{length, take, drop, get_or, length-map}
use lib.Seq.{sets, length-sets}
use lib.Ieee.{Float}
use Rattle.binary32.specs.Leaves.{bits_of}
use Rattle.binary32.proofs.Truth.{cond_split}
use Rattle.walks.specs.Walks.{without}
use Rattle.walks.specs.Each.{Each}
use Rattle.walks.proofs.Lists.Each.{each_without, each_map, front_sets, fewer, behind_fewer}
use Rattle.common_types.specs.declared.Params.{Params}
use Rattle.phrases.specs.declared.Phrase.{Phrase}
use Rattle.phrases.specs.Phrases.{stored_in, good_phrases}
use Rattle.phrases.proofs.Rooms.{inside_ends}
use Rattle.clip.specs.Positions.{index_at}
use Rattle.recorder.specs.Recording.{data_after}
use Rattle.recorder.proofs.Memory.{memory_length}
use Rattle.voice.specs.declared.Voice.{Voice}
use Rattle.voice.specs.Voices.{tick_of, moved_of}
use Rattle.voice.specs.Soundness.{SoundParams, SoundVoice}
use Rattle.voice.proofs.Kept.{index_recorded, turn_sound}
use Rattle.channel.specs.Heads.{written_in, closed_of}
use Rattle.channel.specs.Tables.{good_table}
use Rattle.channel.specs.Channels.{live, behind_in, any_unfinished_of, Turning, kept_of, tidied_of, played_of, turning_by, resting, turning_at, turning_of, phrase_at, moment_for, turning_in, taken_of, memory_of, process_sample_of}
use Rattle.channel.specs.Soundness.{SoundChannel}
use Rattle.channel.specs.declared.Head.{Head}
use Rattle.channel.specs.declared.Channel.{Channel}
use Rattle.channel.proofs.Heads.{recorded_sound, grown, grown_left, grown_own, next_later, closed_now, closed_table, closed_sound}
use Rattle.channel.proofs.Parts.{parts, head_changed, voices_changed, phrase_within, room, live_count, voice_at, some}
use Rattle.channel.proofs.Anew.{anew, anew_shorter, anew_behind, recording_changed}
use Rattle.channel.proofs.Rooms.{written_length}

-- ---- recorded first
pub taken_sound : (capacity : ℕ) (c : Channel) → SoundChannel capacity c → capacity ≤ 2 ^ 22 → (m : List ℕ) → length m ≡ capacity → SoundChannel capacity (taken_of m c)
unfolding taken_of
taken_sound capacity c s small m size =
    let h = c.head in
    let k = (parts s).head in
    rw size (recording_changed capacity c s (grown capacity h k (behind_in c)) (grown_left capacity h k (behind_in c)) (go (leb (behind_in c) h.start) refl))
  where
    n : ℕ
    n = (grown capacity c.head (parts s).head (behind_in c)).data_len

    go : (b : Bool) → leb (behind_in c) c.head.start ≡ b → good_phrases capacity (anew capacity c s (record { start = c.head.start; length = n })) ≡ true
    go true e =
        let k = recorded_sound capacity c.head (parts s).head (grown capacity c.head (parts s).head (behind_in c)) (grown_left capacity c.head (parts s).head (behind_in c)) in
        let p : Phrase = record { start = c.head.start; length = n } in
        anew_behind capacity c s small p (inside_ends p capacity k.inside) (leb-true (behind_in c) c.head.start e)
    go false e = anew_shorter capacity c s n (grown_own capacity c.head (parts s).head (behind_in c) (leb-false (behind_in c) c.head.start e))

pub memory_kept : (x : Float) (c : Channel) (m : List ℕ) → length (memory_of x c m) ≡ length m
unfolding memory_of
memory_kept x c m =
    let r = written_in (behind_in c) c.head (length m) in
    let part = take (r.to - r.from) (drop r.from m) in
    written_length (behind_in c) c.head m (data_after c.head.recorder (bits_of x) part) (memory_length c.head.recorder (bits_of x) part)

-- ---- then played
pub played_head : (s : Turning) (c : Channel) → (played_of s c).channel.head ≡ c.head
unfolding played_of
played_head s c = refl

module _ (capacity : ℕ) (c : Channel) (h : SoundChannel capacity c) (p : Params) (ok : SoundParams p) (small : capacity ≤ 2 ^ 22) where
  phrase_short : (k : ℕ) → (phrase_at c k).length ≤ 2 ^ 22
  phrase_short k = le_trans (phrase_within capacity c h k) small

  -- the value that a voice sounds by, on any phrase, is one recorded
  pub voice_recorded : (i : ℕ) (d : Voice) → i < c.count → (k : ℕ) → 1 ≤ (phrase_at c k).length
      → index_at (moved_of (tick_of p (moment_for c k)) (get_or c.voices i d)) c.head.now < (phrase_at c k).length
  voice_recorded i d below k full = index_recorded p (moment_for c k) ok full (phrase_short k) (get_or c.voices i d) (voice_at capacity c h i d below)

  -- a channel stays sound where each voice does
  played_sound : (s : Turning) → ((v : Voice) → SoundVoice c.head.now v → SoundVoice c.head.now (s.turn v)) → SoundChannel capacity (played_of s c).channel
  unfolding played_of kept_of
  played_sound s turns =
      let g = parts h in
      let S = SoundVoice c.head.now in
      let us = map s.turn (live c) in
      let vs = without s.leaves us in
      let few : length vs ≤ c.count = le_trans (fewer s.leaves us) (le_of_eq (length-map (live c) s.turn ∙ live_count capacity c h)) in
      voices_changed capacity c h (sets c.voices 0 vs) (length vs) (le_trans few g.few) (length-sets c.voices 0 vs)
      (subst (Each S) (sym (front_sets c.voices vs (le_trans few (room capacity c h)))) (each_without S s.leaves us (each_map S S s.turn turns (live c) g.voices)))

  module _ (m : List ℕ) where
    -- and each does: on an empty phrase it takes no turn
    turning_sound : (v : Voice) → SoundVoice c.head.now v → SoundVoice c.head.now ((turning_in p c m).turn v)
    unfolding turning_in turning_of turning_at turning_by resting
    turning_sound v k =
        let at = moment_for c v.phrase in
        let own = stored_in (phrase_at c v.phrase) m in
        cond_split (λ (s : Turning). SoundVoice c.head.now (s.turn v)) (eqb at.data_len 0) resting (turning_by (tick_of p at) own)
        (λ e. k) (λ e. turn_sound p at ok (some at.data_len e) (phrase_short v.phrase) (parts h).head.time own v k)

    turned_sound : SoundChannel capacity (played_of (turning_in p c m) c).channel
    turned_sound = played_sound (turning_in p c m) turning_sound

-- ---- of 32 voices at most 31 move up: one has left
tidied_few : (s : Turning) (vs : List Voice) → length vs ≤ 32 → tidied_of s vs ≤ 31
unfolding tidied_of
tidied_few s vs few = omega (arith, few, length-map vs s.turn, behind_fewer s.leaves (map s.turn vs))

pub moved_few : (p : Params) (x : Float) (c : Channel) (m : List ℕ) → length (live c) ≤ 32 → (process_sample_of p x c m).moved ≤ 31
unfolding process_sample_of played_of taken_of
moved_few p x c m few = tidied_few (turning_in p (taken_of m c) (memory_of x c m)) (live c) few

-- ---- and closed
module _ (capacity : ℕ) (c : Channel) (sound : SoundChannel capacity c) (p : Params) (ok : SoundParams p) (small : capacity ≤ 2 ^ 22) (x : Float) (m : List ℕ) (size : length m ≡ capacity) where
  pub sample_sound : SoundChannel capacity (process_sample_of p x c m).channel
  unfolding process_sample_of
  sample_sound =
      let d = taken_of m c in
      let k = taken_sound capacity c sound small m size in
      let s = turning_in p d (memory_of x c m) in
      let r = (played_of s d).channel in
      let u = any_unfinished_of r in
      let t = turned_sound capacity d k p ok small (memory_of x c m) in
      head_changed capacity r t (closed_of p u d.head) (closed_sound p u d.head capacity ok (parts k).head)
      (subst (λ (h : Head). h.now ≤ (closed_of p u d.head).now) (sym (played_head s d))
      (subst (λ (n : ℕ). d.head.now ≤ n) (sym (closed_now p u d.head)) (next_later d.head.now)))
      (closed_table p u d.head capacity r.several r.table ∙ ap (λ (h : Head). good_table capacity h r.several r.table) (sym (played_head s d)) ∙ (parts t).table)
