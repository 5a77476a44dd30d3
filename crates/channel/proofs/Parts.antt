-- A sound channel by its parts, and with another head, recording or voices. Assumes nothing.
use mathlib.Core.Path.{◌≡◌, refl, sym, ◌∙◌, subst}
use Prim.Native.Nat.{ℕ, zero, suc, ◌≤◌, ◌<◌, zero-le}
use native.Mathlib.Nat.{le_trans, le_of_eq}
use native.Mathlib.Omega.{arith}
use mathlib.Core.Bool.{Bool, true, false, not, ◌&&◌}
use mathlib.Core.List.{List}
use lib.Dec.{T, leb, ltb, eqb, leb→le, le→leb}
use lib.ListN.{length, take, get_or}
use lib.Seq.{get_or-take, length-take-le}
use borrow.Author.Tests.{ltb-true, ltb-false}
use lib.Ieee.Bits.{is_true}
use lib.Ieee.Fits.{and_i, and_l, and_r}
use Rattle.binary32.proofs.Truth.{yes}
use Rattle.std.specs.List.{list_all}
use Rattle.walks.specs.Each.{Each}
use Rattle.walks.proofs.Lists.Each.{each_at, each_every, each_weaker, every_each}
use Rattle.phrases.specs.declared.Phrase.{Phrase}
use Rattle.phrases.specs.Phrases.{no_phrase, is_over_by, good_phrases}
use Rattle.phrases.proofs.Rooms.{ends_inside, inside_ends}
use Rattle.phrases.proofs.Apart.{good_within}
use Rattle.recorder.proofs.Good.{good_length}
use Rattle.voice.specs.declared.Voice.{Voice}
use Rattle.voice.specs.Voices.{good_voice}
use Rattle.voice.specs.Soundness.{FittingVoice, SoundVoice}
use Rattle.voice.proofs.Kept.{voice_later}
use Rattle.channel.specs.Heads.{recording_in, good_head}
use Rattle.channel.specs.Tables.{place_of, good_table}
use Rattle.channel.specs.Channels.{with_head, with_voices, live, phrases_in, phrase_at, good_voices_of, good_channel}
use Rattle.channel.specs.Soundness.{SoundChannel}
use Rattle.channel.specs.declared.Head.{Head}
use Rattle.channel.specs.declared.Channel.{Channel}
use Rattle.channel.proofs.Heads.{SoundHead, head_parts, head_good}
use Rattle.channel.proofs.Tables.{all_good, all_length, phrase_all, phrase_past}

-- ---- a sound channel by its parts
pub record Parts (capacity : ℕ) (c : Channel) : Type 0 where
  pub few : c.count ≤ 32
  pub places : length c.voices ≡ 32
  pub entries : length c.table ≡ 8
  pub table : good_table capacity c.head c.several c.table ≡ true
  pub voices : Each (SoundVoice c.head.now) (live c)
  pub head : SoundHead capacity c.head

pub parts : {capacity : ℕ} {c : Channel} → SoundChannel capacity c → Parts capacity c
unfolding good_channel good_voices_of
parts {capacity} {c} h =
    let a : Bool = leb c.count 32 in
    let b : Bool = good_head capacity c.head in
    let e : Bool = good_table capacity c.head c.several c.table in
    let d : Bool = list_all (good_voice c.head.now) (live c) in
    let t : T (a && b && (e && d)) = yes h.good in
    let u : T (e && d) = and_r (a && b) (e && d) t in
    record {
      few = leb→le c.count 32 (and_l a b (and_l (a && b) (e && d) t));
      places = h.fitting.places;
      entries = h.fitting.entries;
      table = is_true e (and_l e d u);
      voices = every_each FittingVoice (SoundVoice c.head.now) (good_voice c.head.now) (λ v g f. record { good = g; fitting = f }) (live c) (is_true d (and_r e d u)) h.fitting.voices;
      head = head_parts capacity c.head (is_true b (and_r a b (and_l (a && b) (e && d) t))) h.fitting.passthru;
    }

pub joined : {capacity : ℕ} {c : Channel} → Parts capacity c → SoundChannel capacity c
unfolding good_channel good_voices_of
joined {capacity} {c} g =
    let a : Bool = leb c.count 32 in
    let b : Bool = good_head capacity c.head in
    let e : Bool = good_table capacity c.head c.several c.table in
    let d : Bool = list_all (good_voice c.head.now) (live c) in
    let S = SoundVoice c.head.now in
    record {
      good = is_true (a && b && (e && d))
          (and_i (a && b) (e && d) (and_i a b (le→leb c.count 32 g.few) (yes (head_good capacity c.head g.head)))
          (and_i e d (yes g.table) (yes (each_every S (good_voice c.head.now) (live c) (λ v s. s.good) g.voices))));
      fitting = record {
        places = g.places;
        entries = g.entries;
        voices = each_weaker S FittingVoice (λ v s. s.fitting) (live c) g.voices;
        passthru = g.head.volume.fitting;
      };
    }

-- ---- another head, whose clock isn't earlier, and another table; other voices
module _ (capacity : ℕ) (c : Channel) (s : SoundChannel capacity c) where
  pub table_changed : (h : Head) → SoundHead capacity h → c.head.now ≤ h.now → (several : Bool) (table : List Phrase) → length table ≡ 8
      → good_table capacity h several table ≡ true → SoundChannel capacity (record { voices = c.voices; table = table; count = c.count; head = h; several = several })
  table_changed h k later several table eight good =
      let g = parts s in
      joined (record {
        few = g.few;
        places = g.places;
        entries = eight;
        table = good;
        voices = each_weaker (SoundVoice c.head.now) (SoundVoice h.now) (λ v w. voice_later c.head.now v w h.now later) (live c) g.voices;
        head = k;
      })

  pub head_changed : (h : Head) → SoundHead capacity h → c.head.now ≤ h.now → good_table capacity h c.several c.table ≡ true → SoundChannel capacity (with_head h c)
  head_changed h k later good = table_changed h k later c.several c.table (parts s).entries good

  -- ---- all its phrases: each lies within the capacity, and no two have a sample in common
  pub phrases_good : good_phrases capacity (phrases_in c) ≡ true
  phrases_good =
      let g = parts s in
      all_good c.head c.several c.table capacity (inside_ends (recording_in c.head) capacity g.head.inside) g.table

  pub phrases_length : length (phrases_in c) ≡ 8
  phrases_length = all_length c.head c.several c.table (parts s).entries

  pub phrase_of_all : (k : ℕ) → k < 8 → phrase_at c k ≡ get_or (phrases_in c) k no_phrase
  phrase_of_all k l = phrase_all c.head c.several c.table (parts s).entries k l

  pub phrase_inside : (k : ℕ) → is_over_by capacity (phrase_at c k) ≡ true
  phrase_inside k = go (ltb k 8) refl
    where
      go : (b : Bool) → ltb k 8 ≡ b → is_over_by capacity (phrase_at c k) ≡ true
      go true e = let l = ltb-true k 8 e in rw (phrase_of_all k l) (good_within capacity (phrases_in c) phrases_good k l)
      go false e = rw (phrase_past c.head c.several c.table k (get_or c.table (place_of k) no_phrase) (ltb-false k 8 e) (parts s).head.numbered) (inside_ends no_phrase capacity zero-le)

  pub phrase_within : (k : ℕ) → (phrase_at c k).length ≤ capacity
  phrase_within k = omega (arith, ends_inside (phrase_at c k) capacity (phrase_inside k))

  pub voices_changed : (vs : List Voice) (n : ℕ) → n ≤ 32 → length vs ≡ length c.voices → Each (SoundVoice c.head.now) (take n vs) → SoundChannel capacity (with_voices vs n c)
  voices_changed vs n few same sound =
      let g = parts s in
      joined (record { few = few; places = same ∙ g.places; entries = g.entries; table = g.table; voices = sound; head = g.head })

  -- a recording is within its memory
  pub data_within : c.head.data_len ≤ capacity
  data_within = good_length c.head.recorder c.head.data_len capacity (parts s).head.recorder

  pub room : c.count ≤ length c.voices
  room = le_trans (parts s).few (le_of_eq (sym (parts s).places))

  pub live_count : length (live c) ≡ c.count
  live_count = length-take-le c.count c.voices room

  -- each voice that there is
  pub voice_at : (i : ℕ) (d : Voice) → i < c.count → SoundVoice c.head.now (get_or c.voices i d)
  voice_at i d below =
      subst (SoundVoice c.head.now) (get_or-take c.count c.voices i d below)
      (each_at (SoundVoice c.head.now) (live c) i d (parts s).voices (subst (λ (n : ℕ). i < n) (sym live_count) below))

-- a recording that isn't empty
pub some : (n : ℕ) → T (not (eqb n 0)) → 1 ≤ n
some zero e = absurd e
some (suc n) e = omega arith
