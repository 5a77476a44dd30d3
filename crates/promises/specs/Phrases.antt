-- Request 11/12, after demand 3: "Eight phrases a channel", said of the calls. That demands 2 and 3 "read per phrase, the
-- recording being that of the voice's phrase", stands in demand 3 itself (`held_at`, `empty_at` of a voice), and which
-- records the phrases break in `Broken.antt`. Definitions only. Assumes nothing.
use Rattle.std.specs.Prelude.{◌≡◌, Bool, false, not, ◌&&◌, ◌||◌, ◌⊎◌, ◌≢◌, List, [], ◌∷◌, ℕ, ◌+◌, ◌≤◌, ◌<◌, leb, eqb, length, take, drop, Float}
use Rattle.std.specs.List.{list_any}
use Rattle.walks.specs.Each.{Each}
use Rattle.common_types.specs.declared.Params.{Params}
use Rattle.binary32.specs.Leaves.{bits_of}
use Rattle.phrases.specs.declared.Phrase.{Phrase}
use Rattle.phrases.specs.Phrases.{stored_in}
use Rattle.phrases.specs.Gathering.{samples_of_all, samples_before}
use Rattle.recorder.specs.Recording.{recorded_of, data_after}
use Rattle.voice.specs.declared.Voice.{Voice}
use Rattle.channel.specs.declared.Channel.{Channel}
use Rattle.channel.specs.declared.Change.TheVariants.{Head}
use Rattle.channel.specs.declared.HeadChange.TheVariants.{Choose}
use Rattle.channel.specs.Heads.{with_recorded, holds_of, moment_of}
use Rattle.channel.specs.Channels.{with_head, live, phrase_at, moment_for, beside_in, uses_of, taken_of, memory_of}
use Rattle.sampler.specs.declared.Answer.{Answer}
use Rattle.sampler.specs.Refusals.{present, good_sampler, good_with, records, any_recording}
use Rattle.sampler.specs.Soundness.{FittingSampler}
use Rattle.fates.specs.Events.{Event, changes, sounds, act}
use Rattle.promises.specs.Runs.{
  World,
  Call,
  start_recording,
  choose_phrase,
  delete_phrase,
  read_wave,
  gather,
  code,
  row,
  chan,
  own_part,
  event,
}
use Rattle.promises.specs.Outcomes.{on, Outcome, ReadOutcome, GatherOutcome, Allows, left_by}
use Rattle.promises.specs.Recordings.{write_place_of}

-- phrase k of channel j, its samples, and the number that is chosen there
abbrev pub phrase : World → ℕ → ℕ → Phrase
phrase w j k = phrase_at (chan w j) k

abbrev pub samples_in : World → ℕ → ℕ → List ℕ
samples_in w j k = stored_in (phrase w j k) (own_part w j)

abbrev pub chosen : World → ℕ → ℕ
chosen w j = (chan w j).head.chosen

abbrev pub end_of : Phrase → ℕ
end_of p = p.start + p.length

-- ---- what an accepted call leaves of channel j, from w to u

-- but for its phrases and the write place nothing of a channel moves
pub record OnlyPhrases (c d : Channel) : Type 0 where
  pub voices : d.voices ≡ c.voices
  pub count : d.count ≡ c.count
  pub clock : d.head.now ≡ c.head.now
  pub recorder : d.head.recorder ≡ c.head.recorder
  pub passthru : d.head.passthru_volume ≡ c.head.passthru_volume

-- a choice moves no phrase. "While nothing records, a choice .. puts the write place at the end of the chosen phrase's
-- data"
pub record Chosen (w u : World) (j k : ℕ) : Type 0 where
  pub number : chosen u j ≡ k
  pub phrases : (i : ℕ) → i < 8 → phrase u j i ≡ phrase w j i
  pub write_place : records (chan w j) ≡ false → write_place_of (chan u j).head ≡ (phrase w j k).length
  pub else_kept : OnlyPhrases (chan w j) (chan u j)

-- a deleted phrase is empty, and the others are as they were
pub record Deleted (w u : World) (j k : ℕ) : Type 0 where
  pub empty : (phrase u j k).length ≡ 0
  pub others : (i : ℕ) → i < 8 → i ≢ k → phrase u j i ≡ phrase w j i
  pub number : chosen u j ≡ chosen w j
  pub write_place : records (chan w j) ≡ false → write_place_of (chan u j).head ≡ (phrase u j (chosen u j)).length
  pub else_kept : OnlyPhrases (chan w j) (chan u j)

-- the phrases of channel j, by their numbers
abbrev pub all_phrases : World → ℕ → List Phrase
all_phrases w j = phrase w j 0 ∷ phrase w j 1 ∷ phrase w j 2 ∷ phrase w j 3 ∷ phrase w j 4 ∷ phrase w j 5
    ∷ phrase w j 6 ∷ phrase w j 7 ∷ []

-- "A gather call moves phrases down, in order, each sample keeping its bits, so that all free room is one stretch behind
-- them": each begins where those end that began before it, so they stand without gaps from the part's beginning on; what
-- stands behind them is as it was
pub record MovedDown (w u : World) (j : ℕ) : Type 0 where
  pub keeps : (k : ℕ) → k < 8 → samples_in u j k ≡ samples_in w j k
  pub lengths : (k : ℕ) → k < 8 → (phrase u j k).length ≡ (phrase w j k).length
  pub down : (k : ℕ) → k < 8 → (phrase w j k).length ≢ 0
      → (phrase u j k).start ≡ samples_before (phrase w j k).start (all_phrases w j)
  pub empty : (k : ℕ) → k < 8 → (phrase w j k).length ≡ 0 → phrase u j k ≡ phrase w j k
  pub free : drop (samples_of_all (all_phrases w j)) (own_part u j) ≡ drop (samples_of_all (all_phrases w j)) (own_part w j)
  pub number : chosen u j ≡ chosen w j
  pub else_kept : OnlyPhrases (chan w j) (chan u j)

-- the phrases that aren't chosen are as they were, and so are their samples
abbrev pub OthersKept : World → World → ℕ → Type 0
OthersKept w u j = (k : ℕ) → k < 8 → k ≢ chosen w j
    → (phrase u j k ≡ phrase w j k) × (samples_in u j k ≡ samples_in w j k)

-- "An empty phrase begins behind the others when recording into it starts": no other reaches further, and one of them
-- ends there, or all are empty
pub record Behind (w : World) (j start : ℕ) : Type 0 where
  pub behind : (k : ℕ) → k < 8 → k ≢ chosen w j → (phrase w j k).length ≢ 0 → end_of (phrase w j k) ≤ start
  pub there : (start ≡ 0)
      ⊎ ((k : ℕ) × (k < 8) × (k ≢ chosen w j) × ((phrase w j k).length ≢ 0) × (start ≡ end_of (phrase w j k)))

-- ---- rows

-- it is recording another phrase; a voice has the phrase, or it is being recorded
abbrev pub records_other : ℕ → Channel → Bool
records_other k c = records c && not (eqb k c.head.chosen)

abbrev pub in_use : ℕ → Channel → Bool
in_use k c = uses_of k c || (records c && eqb k c.head.chosen)

-- ---- of every record and memory; what a call leaves, of a record that has two channels and tables of eight entries, as
-- every one of a program has (`FittingSampler`)
pub record Phrases (w : World) : Type 0 where
  -- "19 for a phrase number of eight or more, 20 for a delete of a phrase in use or being recorded, 21 for a gather or a
  -- new choice of phrase while recording; 19 precedes the others, 9 precedes all."
  pub choose_rows : (k : ℕ) → code w (choose_phrase k)
      ≡ row (not (good_sampler w.sampler)) 9
      (row (leb 8 k) 19 (row (list_any (records_other k) (present w.sampler)) 21 0))
  pub delete_rows : (k : ℕ) → code w (delete_phrase k)
      ≡ row (not (good_sampler w.sampler)) 9 (row (leb 8 k) 19 (row (list_any (in_use k) (present w.sampler)) 20 0))
  pub gather_rows : code w gather
      ≡ row (not (good_with w.sampler (length w.memory))) 9 (row (any_recording w.sampler) 21 0)
  -- "Choice, delete and gather act on all channels or none."
  pub choice : (k : ℕ) (r : Answer) → Allows (on w (choose_phrase k)) r → code w (choose_phrase k) ≡ 0
      → FittingSampler w.sampler → (j : ℕ) → j < w.sampler.count → Chosen w (left_by w (choose_phrase k) r) j k
  pub delete : (k : ℕ) (r : Answer) → Allows (on w (delete_phrase k)) r → code w (delete_phrase k) ≡ 0
      → FittingSampler w.sampler → (j : ℕ) → j < w.sampler.count → Deleted w (left_by w (delete_phrase k) r) j k
  pub gathering : (r : GatherOutcome) → Allows (on w gather) r → code w gather ≡ 0
      → FittingSampler w.sampler → (j : ℕ) → j < w.sampler.count → MovedDown w (left_by w gather r) j
  -- No sample and no read of one phrase changes another's recording.
  pub sample_apart : (c : Call) (r : Outcome (on w c)) → Allows (on w c) r → FittingSampler w.sampler
      → (j : ℕ) → j < w.sampler.count → (p : Params) (x : Float) (m : List ℕ) → event w c j ≡ sounds p x m
      → OthersKept w (left_by w c r) j
  pub read_apart : (f : List ℕ) (r : ReadOutcome) → Allows (on w (read_wave f)) r → code w (read_wave f) ≡ 0
      → FittingSampler w.sampler → (j : ℕ) → j < w.sampler.count → OthersKept w (left_by w (read_wave f) r) j
  pub begins : (r : Answer) → Allows (on w start_recording) r → code w start_recording ≡ 0
      → FittingSampler w.sampler → (j : ℕ) → j < w.sampler.count
      → (phrase w j (chosen w j)).length ≡ 0 → records (chan w j) ≡ false
      → Behind w j (phrase (left_by w start_recording r) j (chosen w j)).start
  -- "Recording over a phrase that isn't last may replace samples but not lengthen it": where another reaches further than
  -- its start
  pub not_lengthened : (c : Call) (r : Outcome (on w c)) → Allows (on w c) r → FittingSampler w.sampler
      → (j : ℕ) → j < w.sampler.count → (p : Params) (x : Float) (m : List ℕ) → event w c j ≡ sounds p x m
      → (k : ℕ) → k < 8 → k ≢ chosen w j → (phrase w j k).length ≢ 0
      → (phrase w j (chosen w j)).start < end_of (phrase w j k)
      → (phrase (left_by w c r) j (chosen w j)).length ≡ (phrase w j (chosen w j)).length

-- ---- of those that calls leave: one number is chosen on all channels
pub record Eight (w : World) : Type 0 where
  pub same_chosen : (i j : ℕ) → i < w.sampler.count → j < w.sampler.count → chosen w i ≡ chosen w j

-- ---- "With one phrase, number 0, everything equals the base."

-- number 0 alone, from the part's beginning on
pub record OnePhrase (c : Channel) : Type 0 where
  pub number : c.head.chosen ≡ 0
  pub start : c.head.start ≡ 0
  pub alone : c.several ≡ false
  pub voices : Each (λ (v : Voice). v.phrase ≡ 0) (live c)

-- what a channel had before there were phrases: the recorder writes to all of its part, every voice goes by the head's
-- moment and hears what is recorded from the part's beginning on, and a read may have the capacity
pub record AsBefore (c : Channel) (m : List ℕ) : Type 0 where
  pub taken : taken_of m c
      ≡ with_head (with_recorded (recorded_of c.head.recorder c.head.data_len (length m)) c.head) c
  pub memory : (x : Float) → memory_of x c m ≡ data_after c.head.recorder (bits_of x) m
  pub moment : (v : Voice) → v.phrase ≡ 0 → moment_for c v.phrase ≡ moment_of c.head
  pub recording : (v : Voice) → v.phrase ≡ 0 → stored_in (phrase_at c v.phrase) m ≡ take c.head.data_len m
  pub room : (capacity : ℕ) → holds_of (beside_in capacity c) capacity c.head ≡ capacity

pub record Base : Type 0 where
  pub as_before : (c : Channel) (m : List ℕ) → OnePhrase c → AsBefore c m
  -- it stays one phrase, unless another is chosen
  pub stays : (c : Channel) (e : Event) → OnePhrase c → ((k : ℕ) → e ≢ changes (Head (Choose k))) → OnePhrase (act e c)
