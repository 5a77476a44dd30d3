-- Every record that set-up and calls reach is sound, and its channels' parts lie within memory as long as set-up's: so row 9 never answers it. Assumes nothing.
use mathlib.Core.Path.{◌≡◌, sym, ◌∙◌}
use mathlib.Core.Logic.{◌≢◌}
use mathlib.Core.Bool.{Bool, true, false, not, true≢false}
use Prim.Native.Nat.{ℕ, zero, suc, ◌*◌, ◌/◌, ◌^◌, ◌≤◌, min, zero-le}
use native.Mathlib.Nat.{le_trans, le_of_eq, zero-mul, min-le_left}
use native.Mathlib.Omega.{arith}
use borrow.Author.Tests.{leb-true, le-leb}
use Rattle.std.specs.Prelude.{Result, Ok, is_ok}
use lib.Dec.{T, leb, ltb, eqb, T_not}
use lib.ListN.{length, take}
use lib.Ieee.Fits.{eq→eqb}
use Rattle.std.specs.List.{list_any}
use Rattle.walks.proofs.Lists.Every.{both}
use Rattle.binary32.proofs.Truth.{cond_split}
use Rattle.refusals.specs.declared.Refusal.{Refusal}
use Rattle.refusals.specs.declared.Refusal.TheVariants.{NoChannel, BadNote, BadPosition, BeyondLimits, Full, ClockEnd, Broken, Recording, NoRoom, NoPhrase, PhraseInUse, PhraseRecording}
use Rattle.refusals.specs.Refusals.{number_of, code_of, row}
use Rattle.refusals.proofs.Codes.{done_at}
use Rattle.common_types.specs.Settings.{beyond_limits}
use Rattle.channel.specs.declared.Change.{Change}
use Rattle.channel.specs.declared.Change.TheVariants as change
use Rattle.channel.specs.declared.HeadChange.{HeadChange}
use Rattle.channel.specs.declared.HeadChange.TheVariants.{StartRecording, StopRecording, Interpolate, Load, Choose, Delete}
use Rattle.sampler.specs.Refusals.{capacity_of, good_sampler, good_with, no_channel, bad_note, bad_position, any_recording, at_end, channel_at, asked_of, start_rows, stop_rows, speed_rows, head_rows, change_rows, change_judged, set_up_judged, gather_judged, sample_judged, frame_judged, channel_judged}
use Rattle.sampler.specs.Samplers.{set_up_of, each_of, answer_of, channel_stepped_of, process_sample_of, Gathered, gather_channel, Framed, entry_of}
use Rattle.sampler.specs.Soundness.{SoundSampler, Reached, Unbroken}
use Rattle.sampler.specs.declared.Sampler.{Sampler}
use Rattle.sampler.specs.declared.Asked.{Asked}
use Rattle.sampler.proofs.Rows.{quotient_test}
use Rattle.sampler.proofs.Entries.{frame_keeps}
use Rattle.sampler.proofs.Gathered.{gather_keeps}
use Rattle.sampler.proofs.Kept.{set_up_sound, change_kept, sample_kept, frame_kept, gather_kept}

pub reached_sound : (size : ℕ) (s : Sampler) → Reached size s → SoundSampler s
reached_sound size _ (Reached.new count p z) = set_up_sound count p size z
reached_sound size _ (Reached.changed s x r f) = change_kept s (reached_sound size s r) x f
reached_sound size _ (Reached.sampled s j x p m r f) = sample_kept s (reached_sound size s r) j x p m f
reached_sound size _ (Reached.framed s frame p m r f) = frame_kept s (reached_sound size s r) frame p m f
reached_sound size _ (Reached.gathered s m r) = gather_kept s (reached_sound size s r) m

-- ---- the parts lie within the memory
abbrev Within : ℕ → Sampler → Type 0
Within size s = s.count * s.capacity ≤ size

capacity_within : (count size : ℕ) → count * capacity_of count size ≤ size
unfolding capacity_of
capacity_within zero size = le_trans (le_of_eq (zero-mul _)) zero-le
capacity_within (suc n) size =
    let c = min (size / suc n) (2 ^ 22) in
    leb-true (suc n * c) size (sym (quotient_test (suc n) c size (λ e. omega arith)) ∙ le-leb c (size / suc n) (min-le_left (size / suc n) (2 ^ 22)))

reached_within : (size : ℕ) (s : Sampler) → Reached size s → Within size s
unfolding set_up_of answer_of each_of process_sample_of channel_stepped_of entry_of gather_channel
reached_within size _ (Reached.new count p z) = rw (done_at (set_up_judged count size) z) (capacity_within count size)
reached_within size _ (Reached.changed s x r f) =
    let h = reached_within size s r in
    cond_split (Within size) (is_ok (change_judged s x)) (each_of x s) s (λ t. h) (λ t. h)
reached_within size _ (Reached.sampled s j x p m r f) =
    let h = reached_within size s r in
    cond_split (Within size) (is_ok (sample_judged s j p (length m))) (channel_stepped_of s j p x m) s (λ t. h) (λ t. h)
reached_within size _ (Reached.framed s frame p m r f) = frame_keeps (λ (g : Framed). Within size g.sampler) p (λ k j g i h. h) s frame m (reached_within size s r)
reached_within size _ (Reached.gathered s m r) = gather_keeps (λ (g : Gathered). Within size g.sampler) (λ j g i h. h) s m (reached_within size s r)

-- ---- row 9

-- a row that doesn't hold, and rows with other numbers
module _ {A : Type 0} where
  pub passes : (good : Bool) (rest : Result A Refusal) → good ≡ true → code_of rest ≢ 9 → code_of (row (not good) Broken rest) ≢ 9
  passes true rest g h = h
  passes false rest g h = absurd (true≢false (sym g))

  pub another : (test : Bool) (f : Refusal) (rest : Result A Refusal) → T (not (eqb (number_of f) 9)) → code_of rest ≢ 9 → code_of (row test f rest) ≢ 9
  another true f rest k h e = T_not (eqb (number_of f) 9) k (eq→eqb e)
  another false f rest k h e = h e

pub none : ◌≢◌ {A = ℕ} 0 9
none e = omega arith

-- by what the rows of a change ask
head_unbroken : (a : Asked) (d : HeadChange) → code_of (head_rows a d) ≢ 9
head_unbroken a StartRecording = none
head_unbroken a StopRecording = none
head_unbroken a (Interpolate on) = none
head_unbroken a (Load samples) = another a.against.blocked Recording _ tt (another a.against.short NoRoom (Ok tt) tt none)
head_unbroken a (Choose k) = another (leb 8 k) NoPhrase _ tt (another a.against.blocked PhraseRecording (Ok tt) tt none)
head_unbroken a (Delete k) = another (leb 8 k) NoPhrase _ tt (another a.against.blocked PhraseInUse (Ok tt) tt none)

change_unbroken : (a : Asked) → a.good ≡ true → (x : Change) → code_of (change_rows a x) ≢ 9
unfolding start_rows stop_rows speed_rows
change_unbroken a g (change.Start p position note velocity) =
    passes a.good _ g (another (bad_note note) BadNote _ tt (another (bad_position position) BadPosition _ tt (another (beyond_limits p) BeyondLimits _ tt (another a.against.blocked Full (Ok tt) tt none))))
change_unbroken a g (change.Stop p note) = passes a.good _ g (another (bad_note note) BadNote _ tt (another (beyond_limits p) BeyondLimits (Ok tt) tt none))
change_unbroken a g (change.Speed note speed) = passes a.good _ g (another (bad_note note) BadNote (Ok tt) tt none)
change_unbroken a g (change.Head d) = passes a.good (head_rows a d) g (head_unbroken a d)
change_unbroken a g change.Reset = passes a.good (Ok tt) g none

pub good_unbroken : (s : Sampler) (size : ℕ) → good_with s size ≡ true → Unbroken s size
unfolding good_with sample_judged frame_judged gather_judged channel_judged
good_unbroken s size h =
    let good = (both (good_sampler s) (leb (s.count * s.capacity) size) h).0 in
    record {
      change = λ x. change_unbroken (asked_of s x) good x;
      sample = λ j p. passes (good_with s size) _ h (another (no_channel s j) NoChannel _ tt (another (beyond_limits p) BeyondLimits _ tt (another (at_end (channel_at s j)) ClockEnd (Ok tt) tt none)));
      frame = λ n p. passes (good_with s size) _ h (another (ltb s.count n) NoChannel _ tt (another (beyond_limits p) BeyondLimits _ tt (another (list_any at_end (take n s.channels)) ClockEnd (Ok tt) tt none)));
      gather = passes (good_with s size) _ h (another (any_recording s) PhraseRecording (Ok tt) tt none);
      question = λ j. passes (good_sampler s) _ good (another (no_channel s j) NoChannel (Ok tt) tt none);
    }

-- with memory at least as long as set-up's
pub reached_unbroken : (size : ℕ) (s : Sampler) → Reached size s → (lent : ℕ) → size ≤ lent → Unbroken s lent
unfolding good_with
reached_unbroken size s r lent h =
    good_unbroken s lent (rw (reached_sound size s r).good (le-leb (s.count * s.capacity) lent (le_trans (reached_within size s r) h)))
