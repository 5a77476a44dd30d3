-- What is known of a channel of a good record: it is a good one, with at most 32 voices, and its recording has room in the capacity. Assumes nothing.
use mathlib.Core.Path.{◌≡◌, refl, sym, ap, ◌∙◌, subst}
use mathlib.Core.Bool.{Bool, true, false, not, ◌&&◌, cond}
use Prim.Native.Nat.{ℕ, ◌+◌, ◌-◌, ◌≤◌, ◌<◌, zero-le}
use native.Mathlib.Omega.{arith}
use borrow.Author.Tests.{ltb-true, ltb-false, leb-true, eqb-true, eqb-false}
use lib.Dec.{leb, ltb, eqb}
use lib.ListN.{length, get_or, length-take, get_or-eq_default}
use lib.Seq.{get_or-take}
use Rattle.std.specs.List.{list_all}
use Rattle.walks.proofs.Lists.Every.{both, every_at}
use Rattle.channel.specs.declared.Channel.{Channel}
use Rattle.volume.specs.Levels.{good_volume}
use Rattle.binary32.proofs.Truth.{cond_split}
use Rattle.recorder.specs.Recording.{is_recording_of, good_recorder}
use Rattle.phrases.specs.declared.Phrase.{Phrase}
use Rattle.phrases.specs.Phrases.{no_phrase, is_over_by, good_phrases}
use Rattle.phrases.proofs.Rooms.{ends_inside, inside_ends}
use Rattle.phrases.proofs.Table.{others_length, others_chosen}
use Rattle.phrases.proofs.Apart.{good_within}
use Rattle.phrases.proofs.Reaches.{behind_same, behind_within, next_within}
use Rattle.channel.specs.declared.Head.{Head}
use Rattle.channel.specs.Heads.{last_time, recording_in, begins_at, holds_of, good_head}
use Rattle.channel.specs.Tables.{good_table}
use Rattle.channel.specs.Channels.{live, others_in, phrases_in, beside_in, behind_in, begins_in, channel_of, good_voices_of, good_channel}
use Rattle.channel.proofs.Tables.{all_good, all_other}
use Rattle.channel.proofs.Kept.{new_channel_sound}
use Rattle.sampler.specs.Refusals.{present, channel_at, good_sizes, good_sampler}
use Rattle.sampler.specs.declared.Sampler.{Sampler}

-- a good record's channels are good; so is the one past them
pub good_at : (s : Sampler) (j : ℕ) → good_sampler s ≡ true → j < s.count → good_channel s.capacity (channel_at s j) ≡ true
unfolding good_sampler
good_at s j good k = go (ltb j (length s.channels)) refl
  where
    new : Channel
    new = channel_of (record { auto_passthru = false })

    every_good : list_all (good_channel s.capacity) (present s) ≡ true
    every_good = (both (good_sizes s.count s.capacity) _ good).1

    go : (b : Bool) → ltb j (length s.channels) ≡ b → good_channel s.capacity (channel_at s j) ≡ true
    go true e =
        ap (good_channel s.capacity) (sym (get_or-take s.count s.channels j new k))
        ∙ every_at (good_channel s.capacity) (present s) j new every_good (omega (arith, length-take s.count s.channels, ltb-true j (length s.channels) e))
    go false e = ap (good_channel s.capacity) (get_or-eq_default s.channels new (ltb-false j (length s.channels) e)) ∙ (new_channel_sound s.capacity _).good

pub head_and_count : (capacity : ℕ) (c : Channel) → good_channel capacity c ≡ true → (leb c.count 32 ≡ true) × (good_head capacity c.head ≡ true)
unfolding good_channel
head_and_count capacity c h =
    both (leb c.count 32) (good_head capacity c.head)
    (both (leb c.count 32 && good_head capacity c.head) (good_table capacity c.head c.several c.table && good_voices_of c) h).0

pub few_voices : (s : Sampler) (j : ℕ) → good_sampler s ≡ true → j < s.count → (channel_at s j).count ≤ 32
few_voices s j good k = leb-true _ 32 (head_and_count s.capacity (channel_at s j) (good_at s j good k)).0

pub few_live : (s : Sampler) (j : ℕ) → good_sampler s ≡ true → j < s.count → length (live (channel_at s j)) ≤ 32
few_live s j good k = omega (arith, few_voices s j good k, length-take (channel_at s j).count (channel_at s j).voices)

-- its recording ends by the capacity
ends_by : (capacity : ℕ) (h : Head) → good_head capacity h ≡ true → is_over_by capacity (recording_in h) ≡ true
unfolding good_head
ends_by capacity h good =
    let time : Bool = leb h.now last_time in
    let chosen : Bool = ltb h.chosen 8 in
    let ends : Bool = is_over_by capacity (recording_in h) in
    let volume : Bool = good_volume h.now h.passthru_volume in
    let first = (both (time && (chosen && ends)) volume (both ((time && (chosen && ends)) && volume) (good_recorder h.recorder h.data_len capacity) good).0).0 in
    (both chosen ends (both time (chosen && ends) first).1).1

pub recording_within : (s : Sampler) (j : ℕ) → good_sampler s ≡ true → j < s.count
    → (channel_at s j).head.start + (channel_at s j).head.data_len ≤ s.capacity
recording_within s j good k =
    let h = (channel_at s j).head in
    ends_inside (recording_in h) s.capacity (ends_by s.capacity h (head_and_count s.capacity (channel_at s j) (good_at s j good k)).1)

pub short_data : (s : Sampler) (j : ℕ) → good_sampler s ≡ true → j < s.count → (channel_at s j).head.data_len ≤ s.capacity
short_data s j good k = omega (arith, recording_within s j good k)

-- ---- where a recording of a good channel begins, and how many samples may be read to it
module _ (capacity : ℕ) (c : Channel) (good : good_channel capacity c ≡ true) (eight : length c.table ≡ 8) where
  ends : is_over_by capacity (recording_in c.head) ≡ true
  ends = ends_by capacity c.head (head_and_count capacity c good).1

  inside : c.head.start + c.head.data_len ≤ capacity
  inside = ends_inside (recording_in c.head) capacity ends

  all_fine : good_phrases capacity (phrases_in c) ≡ true
  unfolding good_channel
  all_fine =
      let table : Bool = good_table capacity c.head c.several c.table in
      all_good c.head c.several c.table capacity ends
      (both table (good_voices_of c) (both (leb c.count 32 && good_head capacity c.head) (table && good_voices_of c) good).1).0

  other_ends : (k : ℕ) → k < 8 → is_over_by capacity (get_or (others_in c) k no_phrase) ≡ true
  other_ends k l = go (eqb k c.head.chosen) refl
    where
      go : (b : Bool) → eqb k c.head.chosen ≡ b → is_over_by capacity (get_or (others_in c) k no_phrase) ≡ true
      go true e =
          rw (eqb-true k c.head.chosen e, others_chosen c.head.chosen c.table c.several) (inside_ends no_phrase capacity zero-le)
      go false e =
          subst (λ (p : Phrase). is_over_by capacity p ≡ true) (all_other c.head c.several c.table k (eqb-false k c.head.chosen e)) (good_within capacity (phrases_in c) all_fine k l)

  others_within : behind_in c ≤ capacity
  others_within =
      behind_within c.head.start 0 (others_in c) capacity (λ k l. other_ends k (omega (arith, others_length c.head.chosen c.table c.several eight)))

  pub begins_within : begins_in c ≤ capacity
  unfolding begins_at
  begins_within =
      cond_split (λ (n : ℕ). n ≤ capacity) (eqb c.head.data_len 0 && not (is_recording_of c.head.recorder)) (behind_in c) c.head.start
      (λ t. others_within) (λ t. omega (arith, inside))

  pub read_within : is_recording_of c.head.recorder ≡ false → (n : ℕ) → n ≤ holds_of (beside_in capacity c) capacity c.head → begins_in c + n ≤ capacity
  unfolding begins_at holds_of
  read_within idle n few = rw idle (go (eqb c.head.data_len 0) few)
    where
      go : (b : Bool) → n ≤ cond b (capacity - (beside_in capacity c).behind) ((beside_in capacity c).next - c.head.start) → cond (b && not false) (behind_in c) c.head.start + n ≤ capacity
      go true h = omega (arith, h, others_within, behind_same c.head.start c.head.start 0 capacity (others_in c))
      go false h = omega (arith, h, inside, next_within c.head.start capacity (others_in c))
