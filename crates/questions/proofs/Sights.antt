-- What a question answers of what is seen of a record is what it answers of the record: where it shows a head, the channel is one of the two. Assumes nothing.
use mathlib.Core.Path.{◌≡◌, refl, ap}
use mathlib.Core.Bool.{Bool, true, false, not}
use mathlib.Core.List.{List}
use Prim.Native.Nat.{ℕ, zero, suc, ◌<◌}
use native.Mathlib.Omega.{arith}
use borrow.Author.Tests.{ltb-true}
use lib.Dec.{ltb}
use lib.ListN.{length}
use Rattle.std.specs.Prelude.{Ok}
use Rattle.refusals.specs.declared.Refusal.TheVariants.{NoChannel, Broken}
use Rattle.refusals.specs.Refusals.{row}
use Rattle.recorder.specs.Recording.{last_recorded_offset_of}
use Rattle.recorder.specs.Recording.{is_recording_of as records_of}
use Rattle.recorder.specs.ErrorText.{error_text}
use Rattle.channel.specs.declared.Head.{Head}
use Rattle.sampler.specs.declared.Sampler.{Sampler}
use Rattle.sampler.specs.Refusals.{channel_at, good_sampler}
use Rattle.sampler.proofs.Rows.{good_sizes_lem, sizes_count}
use Rattle.questions.specs.Questions.{get_frames_processed_of, get_data_len_of, is_recording_of, get_last_recorded_offset_of, list_counted_by, list_after_by, list_counted, list_after, print_error_info_of, error_text_after}
use Rattle.questions.specs.Sights.{seen_of, head_in, frames_in, length_in, records_in, offset_in, error_in, error_after}

module _ (s : Sampler) where
  head_is : (j : ℕ) → j < 2 → head_in (seen_of s) j ≡ (channel_at s j).head
  unfolding head_in
  head_is zero h = refl
  head_is (suc zero) h = refl
  head_is (suc (suc j)) h = absurd (omega arith)

  module _ (j : ℕ) where
    -- an answer F shows the head of a channel that is there, on a good record
    shown : {R : Type 0} (F : Bool → Bool → Head → R) → ((b : Bool) (h k : Head) → F false b h ≡ F false b k) → ((h k : Head) → F true false h ≡ F true false k)
        → F (good_sampler s) (ltb j s.count) (head_in (seen_of s) j) ≡ F (good_sampler s) (ltb j s.count) (channel_at s j).head
    shown F broken absent = go (good_sampler s) (ltb j s.count) refl refl
      where
        go : (good there : Bool) → good_sampler s ≡ good → ltb j s.count ≡ there → F good there (head_in (seen_of s) j) ≡ F good there (channel_at s j).head
        go false there g e = broken there _ _
        go true false g e = absent _ _
        go true true g e = ap (F true true) (head_is j (let low = ltb-true j s.count e in omega (arith, sizes_count _ _ (good_sizes_lem s g))))

    pub frames_seen : frames_in (seen_of s) j ≡ get_frames_processed_of s j
    frames_seen = shown (λ good there h. row (not good) Broken (row (not there) NoChannel (Ok h.now))) (λ b h k. refl) (λ h k. refl)

    pub length_seen : length_in (seen_of s) j ≡ get_data_len_of s j
    length_seen = shown (λ good there h. row (not good) Broken (row (not there) NoChannel (Ok h.data_len))) (λ b h k. refl) (λ h k. refl)

    pub recording_seen : records_in (seen_of s) j ≡ is_recording_of s j
    recording_seen = shown (λ good there h. row (not good) Broken (row (not there) NoChannel (Ok ((records_of h.recorder))))) (λ b h k. refl) (λ h k. refl)

    pub offset_seen : offset_in (seen_of s) j ≡ get_last_recorded_offset_of s j
    offset_seen = shown (λ good there h. row (not good) Broken (row (not there) NoChannel (Ok ((last_recorded_offset_of h.recorder))))) (λ b h k. refl) (λ h k. refl)

    pub error_seen : (room : ℕ) → error_in (seen_of s) j room ≡ print_error_info_of s j room
    unfolding list_counted
    error_seen room = shown (λ good there h. list_counted_by (not good) (not there) (error_text h.recorder) room) (λ b h k. refl) (λ h k. refl)

    pub text_seen : (text : List ℕ) → error_after (seen_of s) j text ≡ error_text_after s j text
    unfolding list_after list_counted
    text_seen text = shown (λ good there h. list_after_by (error_text h.recorder) text (list_counted_by (not good) (not there) (error_text h.recorder) (length text))) (λ b h k. refl) (λ h k. refl)
