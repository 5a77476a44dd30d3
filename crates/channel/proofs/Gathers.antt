-- A channel whose phrases are gathered: it stays sound, and each phrase keeps its samples and its length. Assumes nothing.
use mathlib.Core.Path.{◌≡◌, refl, sym, ap, ◌∙◌}
use mathlib.Core.Bool.{Bool, true, false, cond}
use mathlib.Core.List.{List}
use Prim.Native.Nat.{ℕ, ◌<◌}
use native.Mathlib.Nat.{le_refl}
use native.Mathlib.Omega.{arith}
use lib.ListN.{length, get_or, set, length-set, length-replicate}
use lib.Seq.{set-get_or, set-set, ext_get_or}
use Rattle.phrases.specs.declared.Phrase.{Phrase}
use Rattle.phrases.specs.Phrases.{no_phrase, no_phrases, no_samples, is_over_by, stored_in, others_of, good_phrases}
use Rattle.phrases.specs.Gathering.{gathering_of}
use Rattle.phrases.proofs.Rooms.{ends_inside}
use Rattle.phrases.proofs.Table.{none_at, set_entry, others_at}
use Rattle.phrases.proofs.Apart.{good_within}
use Rattle.phrases.proofs.Gathered.{gather_many, gather_length, gather_empty, gather_size, gather_keeps, gathered_good}
use Rattle.walks.proofs.Tests.{either}
use Rattle.channel.specs.Heads.{recording_in}
use Rattle.channel.specs.Tables.{place_of}
use Rattle.channel.specs.Channels.{phrases_in, phrase_at, gathered_in, gathered_memory}
use Rattle.channel.specs.Soundness.{SoundChannel}
use Rattle.channel.specs.declared.Head.{Head}
use Rattle.channel.specs.declared.Channel.{Channel}
use Rattle.channel.proofs.Tables.{place_below, table_good}
use Rattle.channel.proofs.Parts.{parts, table_changed, phrases_good, phrases_length, phrase_of_all}
use Rattle.channel.proofs.Anew.{recording_of_all, other_of_all}

module _ (c : Channel) (m : List ℕ) (s : SoundChannel (length m) c) where
  abbrev h : Head
  h = c.head

  -- the phrases moved
  abbrev ps : List Phrase
  ps = (gathering_of (phrases_in c) m).phrases

  many : length (phrases_in c) ≡ 8
  many = phrases_length (length m) c s

  fine : good_phrases (length m) (phrases_in c) ≡ true
  fine = phrases_good (length m) c s

  -- the recording is the one at its number
  own : recording_in (gathered_in c m).head ≡ get_or ps h.chosen no_phrase
  unfolding gathered_in
  own =
      let l = (parts s).head.numbered in
      let at : place_of h.chosen ≡ h.chosen = place_below h.chosen l in
      let long : h.data_len ≡ (get_or ps h.chosen no_phrase).length =
      ap (λ (p : Phrase). p.length) (sym (recording_of_all (length m) c s)) ∙ sym (gather_length (phrases_in c) m many fine h.chosen l) in
      λ i. record { start = (get_or ps (at i) no_phrase).start; length = long i }

  -- and all are those moved
  pub phrases_gathered : phrases_in (gathered_in c m) ≡ (gathering_of (phrases_in c) m).phrases
  unfolding gathered_in others_of no_samples
  phrases_gathered =
      ap (λ (p : Phrase). set (others_of c.several h.chosen (cond c.several ps c.table)) h.chosen p) own ∙ go c.several refl
    where
      go : (b : Bool) → c.several ≡ b → set (others_of b h.chosen (cond b ps c.table)) h.chosen (get_or ps h.chosen no_phrase) ≡ ps
      go true e = set-set ps h.chosen no_phrase (get_or ps h.chosen no_phrase) ∙ set-get_or ps h.chosen no_phrase
      go false e =
          let p : Phrase = get_or ps h.chosen no_phrase in
          let eight : length (set no_phrases h.chosen p) ≡ 8 = length-set no_phrases h.chosen p ∙ length-replicate 8 no_phrase in
          ext_get_or no_phrase (set no_phrases h.chosen p) ps (eight ∙ sym (gather_many (phrases_in c) m many fine))
          (λ i l. set_entry (λ (q : Phrase). q ≡ get_or ps i no_phrase) no_phrases h.chosen i p (omega (arith, eight, length-replicate 8 no_phrase)) (λ a. ap (λ (j : ℕ). get_or ps j no_phrase) (sym a))
          (λ d. let none : get_or (phrases_in c) i no_phrase ≡ no_phrase = other_of_all (length m) c s i d ∙ others_at h.chosen c.table c.several i d ∙ ap (λ (b : Bool). cond b (get_or c.table i no_phrase) no_phrase) e in
          none_at i ∙ sym (gather_empty (phrases_in c) m many fine i (omega (arith, eight)) (ap no_samples none) ∙ none)))

  pub gathered_sound : SoundChannel (length m) (gathered_in c m)
  unfolding gathered_in
  gathered_sound =
      let g = (parts s).head in
      let good : good_phrases (length m) (phrases_in (gathered_in c m)) ≡ true = rw phrases_gathered (gathered_good (phrases_in c) m many fine) in
      let ends : is_over_by (length m) (recording_in (gathered_in c m).head) ≡ true = rw own (good_within (length m) ps (gathered_good (phrases_in c) m many fine) h.chosen g.numbered) in
      table_changed (length m) c s (gathered_in c m).head
      (record { time = g.time; numbered = g.numbered; inside = ends_inside (recording_in (gathered_in c m).head) (length m) ends; volume = g.volume; recorder = g.recorder })
      (le_refl h.now) c.several (cond c.several ps c.table) (either length c.several ps c.table 8 (gather_many (phrases_in c) m many fine) (parts s).entries)
      (table_good (gathered_in c m).head c.several (cond c.several ps c.table) (length m) good)

  pub gathered_memory_length : length (gathered_memory c m) ≡ length m
  unfolding gathered_memory
  gathered_memory_length = gather_size (phrases_in c) m many fine

  module _ (k : ℕ) (l : k < 8) where
    pub gathered_phrase : phrase_at (gathered_in c m) k ≡ get_or (gathering_of (phrases_in c) m).phrases k no_phrase
    gathered_phrase = phrase_of_all (length m) (gathered_in c m) gathered_sound k l ∙ ap (λ (qs : List Phrase). get_or qs k no_phrase) phrases_gathered

    pub gathered_phrase_length : (phrase_at (gathered_in c m) k).length ≡ (phrase_at c k).length
    gathered_phrase_length =
        ap (λ (p : Phrase). p.length) gathered_phrase
        ∙ gather_length (phrases_in c) m many fine k l
        ∙ ap (λ (p : Phrase). p.length) (sym (phrase_of_all (length m) c s k l))

    pub gathered_stored : stored_in (phrase_at (gathered_in c m) k) (gathered_memory c m) ≡ stored_in (phrase_at c k) m
    unfolding gathered_memory
    gathered_stored =
        ap (λ (p : Phrase). stored_in p (gathering_of (phrases_in c) m).memory) gathered_phrase
        ∙ gather_keeps (phrases_in c) m many fine k l
        ∙ ap (λ (p : Phrase). stored_in p m) (sym (phrase_of_all (length m) c s k l))
