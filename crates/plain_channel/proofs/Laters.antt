-- The channel of the next sample, whatever its voices are: its clock is one more, and its phrases and its setting are what they were. So what a voice does from there on is what it does from here on, but for its first turn. Assumes nothing.
use mathlib.Core.Path.{◌≡◌, refl, sym, ap, ap₂, ◌∙◌, subst}
use Prim.Native.Nat.{ℕ, zero, suc, ◌+◌, ◌≤◌, ◌<◌}
use native.Mathlib.Omega.{arith}
use mathlib.Core.Bool.{Bool}
use mathlib.Core.List.{List, [], ◌∷◌, ◌++◌, map}
use lib.Dec.{eqb}
use lib.ListN.{length, get_or}
use Rattle.common_types.specs.declared.Params.{Params}
use Rattle.volume.specs.Levels.{stepped_of}
use Rattle.phrases.specs.declared.Phrase.{Phrase}
use Rattle.phrases.specs.Phrases.{no_phrase, stored_in}
use Rattle.voice.specs.declared.Voice.{Voice}
use Rattle.voice.specs.declared.Moment.{Moment}
use Rattle.voice.specs.declared.Tick.{Tick}
use Rattle.voice.specs.Voices.{tick_of, turn_of}
use Rattle.voice.proofs.Gliding.{holds}
use Rattle.voice.proofs.PhraseKept.{turn_phrase}
use Rattle.plain_voice.specs.declared.Hot.{Hot}
use Rattle.plain_voice.specs.Hots.{judged_of}
use Rattle.pours.specs.Pours.{later, turns_of, GlidesOn, judged_on}
use Rattle.channel.specs.declared.Head.{Head}
use Rattle.channel.specs.declared.Channel.{Channel}
use Rattle.channel.specs.Tables.{place_of}
use Rattle.channel.specs.Heads.{with_passthru, phrase_by, last_time, closed_of}
use Rattle.channel.specs.Channels.{with_head, with_voices, phrase_at, moment_for}
use Rattle.channel.proofs.Heads.{passthru_holds, next_one, closed_now, closed_setting}
use Rattle.plain_channel.specs.Ahead.{tick_in, recording_held, on_by, hot_on_by, hots_on, Easy}

-- gliding turns neither finish a voice nor make it unfinished
pub turns_finished : (t : Tick) (m : List ℕ) (n : ℕ) (v : Voice) → GlidesOn t m n v → (turns_of t m n v).finished ≡ v.finished
unfolding turns_of GlidesOn
turns_finished t m zero v g = refl
turns_finished t m (suc n) v g = turns_finished (later 1 t) m n (turn_of t m v) g.1 ∙ (holds t m v g.0).finished

module _ (p : Params) (u : Bool) (h : Head) where
  -- ---- the end of a sample leaves recorder and phrases
  pub closed_recorder : (closed_of p u h).recorder ≡ h.recorder
  unfolding closed_of
  closed_recorder = passthru_holds (λ (g : Head). g.recorder) (λ on v g. refl) p u _

  closed_phrase : (k : ℕ) (several : Bool) (entry : Phrase) → phrase_by (closed_of p u h) k several entry ≡ phrase_by h k several entry
  unfolding closed_of phrase_by
  closed_phrase k several entry = passthru_holds (λ (g : Head). phrase_by g k several entry) (λ on v g. refl) p u (with_passthru h.passthru_on (stepped_of h.passthru_volume h.now) h)

module _ (p : Params) (m : List ℕ) (d : Channel) (early : d.head.now < last_time) (vs : List Voice) (count : ℕ) (u : Bool) where
  abbrev next : Channel
  next = with_head (closed_of p u d.head) (with_voices vs count d)

  pub next_now : next.head.now ≡ d.head.now + 1
  next_now = closed_now p u d.head ∙ next_one d.head.now early

  next_phrase : (k : ℕ) → phrase_at next k ≡ phrase_at d k
  next_phrase k = closed_phrase p u d.head k d.several (get_or d.table (place_of k) no_phrase)

  -- ---- what a voice goes by that is of the same phrase
  next_tick : (v w : Voice) → w.phrase ≡ v.phrase → tick_in p next w ≡ later 1 (tick_in p d v)
  unfolding tick_of
  next_tick v w same =
      let at : Moment = record { now = d.head.now + 1; data_len = (phrase_at d v.phrase).length; interpolates = d.head.interpolates; phrase = v.phrase } in
      let then : moment_for next v.phrase ≡ at =
      λ i. record { now = next_now i; data_len = (next_phrase v.phrase i).length; interpolates = closed_setting p u d.head i; phrase = v.phrase } in
      ap (λ (k : ℕ). tick_of p (moment_for next k)) same ∙ ap (tick_of p) then

  next_held : (v w : Voice) → w.phrase ≡ v.phrase → recording_held m next w ≡ recording_held m d v
  next_held v w same = ap (λ (k : ℕ). stored_in (phrase_at next k) m) same ∙ ap (λ (q : Phrase). stored_in q m) (next_phrase v.phrase)

  -- ---- a voice that has taken its turn
  module _ (v : Voice) where
    abbrev t : Tick
    t = tick_in p d v

    abbrev held : List ℕ
    held = recording_held m d v

    abbrev w : Voice
    w = turn_of t held v

    stays_of : w.phrase ≡ v.phrase
    stays_of = turn_phrase t held v

    pub next_on : (n : ℕ) → on_by p m next n (on_by p m d 1 v) ≡ on_by p m d (suc n) v
    unfolding turns_of
    next_on n = ap₂ (λ (s : Tick) (l : List ℕ). turns_of s l n w) (next_tick v w stays_of) (next_held v w stays_of)

    pub next_hot : (n : ℕ) (h : Hot) → hot_on_by p m next n (on_by p m d 1 v) (hot_on_by p m d 1 v h) ≡ hot_on_by p m d (suc n) v h
    unfolding turns_of judged_on
    next_hot n h = ap₂ (λ (s : Tick) (l : List ℕ). judged_on s l n w (judged_of h t.interpolates w.clip2 t.now)) (next_tick v w stays_of) (next_held v w stays_of)

    pub next_easy : (n : ℕ) → Easy p m (suc n) d v → Easy p m n next (on_by p m d 1 v)
    unfolding turns_of GlidesOn
    next_easy n easy = record {
      full = ap (λ (k : ℕ). eqb (phrase_at next k).length 0) stays_of ∙ ap (λ (q : Phrase). eqb q.length 0) (next_phrase v.phrase) ∙ easy.full;
      glides = subst (λ (s : Tick). GlidesOn s (recording_held m next w) n w) (sym (next_tick v w stays_of)) (subst (λ (l : List ℕ). GlidesOn (later 1 t) l n w) (sym (next_held v w stays_of)) easy.glides.1);
    }

  -- ---- and the positions of such voices, before others
  pub next_hots : (n : ℕ) (vs : List Voice) (hs rest : List Hot) → length vs ≤ length hs → hots_on p m next n (map (on_by p m d 1) vs) (hots_on p m d 1 vs hs ++ rest) ≡ hots_on p m d (suc n) vs hs ++ rest
  unfolding hots_on
  next_hots n [] hs rest room = refl
  next_hots n (v ∷ vs) [] rest room = absurd (omega (arith, room))
  next_hots n (v ∷ vs) (h ∷ hs) rest room = λ i. next_hot v n h i ∷ next_hots n vs hs rest (omega (arith, room)) i
