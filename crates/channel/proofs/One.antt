-- A channel of one phrase, which begins the memory: it has the whole of it, stays so unless another is chosen, and has nothing to gather. Assumes nothing.
use mathlib.Core.Path.{◌≡◌, refl, sym, ap, ◌∙◌}
use mathlib.Core.Bool.{Bool, true, false, not, ◌&&◌, cond}
use mathlib.Core.List.{List}
use Prim.Native.Nat.{ℕ, ◌-◌, min, zero-le}
use native.Mathlib.Omega.{arith}
use lib.Dec.{eqb}
use lib.ListN.{length, get_or}
use borrow.Author.Tests.{ne_eqb, eq-eqb, le-leb, eqb-true, eqb-false}
use Rattle.walks.proofs.Tests.{either, or-false}
use Rattle.phrases.specs.declared.Phrase.{Phrase}
use Rattle.phrases.specs.declared.Beside.{Beside}
use Rattle.phrases.specs.Phrases.{no_phrase, empty_from, reach_of, no_samples, others_of, good_phrases, beside_with, beside_of}
use Rattle.phrases.specs.Gathering.{gathering_of, sum_below, samples_if, samples_before}
use Rattle.phrases.proofs.Table.{others_at}
use Rattle.phrases.proofs.Gathered.{settled_phrases, settled_memory}
use Rattle.phrases.proofs.Gathered.Sums.{sum_same}
use Rattle.phrases.proofs.Gathered.Turns.{Settled, if-behind}
use Rattle.recorder.specs.Recording.{is_recording_of}
use Rattle.channel.specs.Heads.{recording_in, starting_at, phrase_by, begins_at, written_in, holds_of, phrase_after, chosen_after, head_changed_of}
use Rattle.channel.specs.Tables.{place_of, several_after, found_by}
use Rattle.channel.specs.Channels.{phrases_in, phrase_at, beside_in, behind_in, begins_in, head_changed_in, gathered_in, gathered_memory}
use Rattle.channel.specs.Soundness.{SoundChannel}
use Rattle.channel.specs.declared.Channel.{Channel}
use Rattle.channel.specs.declared.HeadChange.{HeadChange}
use Rattle.channel.specs.declared.HeadChange.TheVariants.{StartRecording, StopRecording, Interpolate, Load, Choose, Delete}
use Rattle.channel.proofs.Tables.{place_below}
use Rattle.channel.proofs.Parts.{parts, phrases_good, phrases_length}
use Rattle.channel.proofs.Anew.{recording_of_all, other_of_all}

-- none begins before the first place
before_none : (ps : List Phrase) → samples_before 0 ps ≡ 0
unfolding samples_before sum_below
before_none ps = sum_same 8 (λ (i : ℕ). samples_if 0 (get_or ps i no_phrase)) (λ (i : ℕ). 0) (λ i l. if-behind 0 (get_or ps i no_phrase) zero-le)

module _ (c : Channel) (one : c.several ≡ false) where
  pub one_others : (k : ℕ) → (k ≡ c.head.chosen → ⊥) → phrase_at c k ≡ no_phrase
  unfolding phrase_by
  one_others k d = rw (ne_eqb k c.head.chosen d, one)

  pub one_recording : (k : ℕ) → k ≡ c.head.chosen → phrase_at c k ≡ recording_in c.head
  unfolding phrase_by
  one_recording k e = rw (eq-eqb k c.head.chosen e)

  pub one_beside : (capacity : ℕ) → beside_in capacity c ≡ record { behind = 0; next = capacity }
  unfolding others_of beside_of beside_with reach_of no_samples
  one_beside capacity = rw one

  module _ (front : c.head.start ≡ 0) where
    one_behind : behind_in c ≡ 0
    one_behind = ap (λ (b : Beside). b.behind) (one_beside 0)

    pub one_begins : begins_in c ≡ 0
    unfolding begins_at
    one_begins = either (λ (n : ℕ). n) (eqb c.head.data_len 0 && not (is_recording_of c.head.recorder)) (behind_in c) c.head.start 0 one_behind front

    pub one_written : (size : ℕ) → written_in (behind_in c) c.head size ≡ record { from = 0; to = size }
    unfolding written_in
    one_written size =
        let low : min c.head.start size ≡ 0 = omega arith in
        rw (le-leb (behind_in c) c.head.start (omega (arith, one_behind))) (ap (λ (n : ℕ). record { from = n; to = size }) low)

    pub one_holds : (capacity : ℕ) → holds_of (beside_in capacity c) capacity c.head ≡ capacity
    unfolding holds_of
    one_holds capacity =
        let behind : (beside_in capacity c).behind ≡ 0 = ap (λ (b : Beside). b.behind) (one_beside capacity) in
        let next : (beside_in capacity c).next ≡ capacity = ap (λ (b : Beside). b.next) (one_beside capacity) in
        either (λ (n : ℕ). n) (eqb c.head.data_len 0) (capacity - (beside_in capacity c).behind) ((beside_in capacity c).next - c.head.start) capacity (omega arith) (omega arith)

    -- ---- it stays so, unless another is chosen
    pub one_stays : (d : HeadChange) → chosen_after d c.head.chosen ≡ c.head.chosen → ((head_changed_in d c).several ≡ false) × ((head_changed_in d c).head.start ≡ 0)
    unfolding head_changed_in head_changed_of several_after phrase_after chosen_after found_by
    one_stays StartRecording same = (one, one_begins)
    one_stays StopRecording same = (one, front)
    one_stays (Interpolate on) same = (one, front)
    one_stays (Load samples) same = (one, one_begins)
    one_stays (Choose k) same = rw (eq-eqb k c.head.chosen same) (sym (or-false c.several) ∙ one, front)
    one_stays (Delete k) same = (one, either (λ (p : Phrase). p.start) (eqb k c.head.chosen) (empty_from c.head.start) (recording_in c.head) 0 front front)

    -- and there is nothing to gather
    module _ (m : List ℕ) (s : SoundChannel (length m) c) where
      many : length (phrases_in c) ≡ 8
      many = phrases_length (length m) c s

      fine : good_phrases (length m) (phrases_in c) ≡ true
      fine = phrases_good (length m) c s

      begins : (k : ℕ) → (get_or (phrases_in c) k no_phrase).start ≡ 0
      begins k = go (eqb k c.head.chosen) refl
        where
          go : (b : Bool) → eqb k c.head.chosen ≡ b → (get_or (phrases_in c) k no_phrase).start ≡ 0
          go true e = ap (λ (j : ℕ). (get_or (phrases_in c) j no_phrase).start) (eqb-true k c.head.chosen e) ∙ ap (λ (p : Phrase). p.start) (recording_of_all (length m) c s) ∙ front
          go false e =
              let d : k ≡ c.head.chosen → ⊥ = eqb-false k c.head.chosen e in
              ap (λ (p : Phrase). p.start) (other_of_all (length m) c s k d ∙ others_at c.head.chosen c.table c.several k d ∙ ap (λ (b : Bool). cond b (get_or c.table k no_phrase) no_phrase) one)

      settled : Settled (phrases_in c)
      settled k l some = rw (begins k) (before_none (phrases_in c))

      pub one_gathers : gathered_in c m ≡ c
      unfolding gathered_in
      one_gathers =
          let l = (parts s).head.numbered in
          let start : (get_or (gathering_of (phrases_in c) m).phrases (place_of c.head.chosen) no_phrase).start ≡ c.head.start =
          ap (λ (ps : List Phrase). (get_or ps (place_of c.head.chosen) no_phrase).start) (settled_phrases (phrases_in c) m many fine settled)
          ∙ ap (λ (k : ℕ). (get_or (phrases_in c) k no_phrase).start) (place_below c.head.chosen l)
          ∙ ap (λ (p : Phrase). p.start) (recording_of_all (length m) c s) in
          λ i. record {
            voices = c.voices;
            table = cond (one i) (gathering_of (phrases_in c) m).phrases c.table;
            count = c.count;
            head = starting_at (start i) c.head;
            several = c.several;
          }

      pub one_memory : gathered_memory c m ≡ m
      unfolding gathered_memory
      one_memory = settled_memory (phrases_in c) m many fine settled
