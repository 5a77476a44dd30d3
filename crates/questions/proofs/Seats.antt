-- What is seen where record and memory are good: each recording in use stands in its part, and the parts in the memory. What is seen of a record is good where the record is, and then channel 0's recording is the stretch of the memory that its head says. Assumes nothing.
use mathlib.Core.Path.{◌≡◌, refl, sym, ap, ◌∙◌}
use mathlib.Core.Bool.{Bool, true, false, not, cond, ◌&&◌, ◌||◌, true≢false}
use mathlib.Core.List.{List}
use Prim.Native.Nat.{ℕ, ◌+◌, ◌*◌, ◌^◌, ◌≤◌}
use native.Mathlib.Nat.{le_trans, le_of_eq, one-mul, zero-mul, zero-add, mul-le-mul_right}
use native.Mathlib.Omega.{arith}
use borrow.Author.Tests.{eqb-true, leb-true}
use lib.Dec.{eqb, leb}
use lib.ListN.{length, take, drop}
use lib.Ieee.{Float}
use Rattle.std.specs.Prelude.{Ok}
use Rattle.walks.proofs.Lists.Every.{both}
use Rattle.phrases.specs.Phrases.{stored_in}
use Rattle.phrases.proofs.Rooms.{ends_inside, inside_ends}
use Rattle.channel.specs.Heads.{recording_in}
use Rattle.sampler.specs.declared.Sampler.{Sampler}
use Rattle.sampler.specs.Refusals.{channel_at, good_sizes, good_sampler, good_with}
use Rattle.sampler.proofs.Rows.{good_sizes_lem, fitting}
use Rattle.sampler.proofs.Channels.{recording_within}
use Rattle.questions.specs.Waveforms.{columns_of, summary_of, values_after_by, waveform_rows, waveform_judged, waveform_of, get_waveform_summary_of, waveform_after}
use Rattle.questions.specs.Sights.{seen_of, in_part, sound_in, good_in, values_in, waveform_in, waveform_left}
use Rattle.questions.specs.declared.Seen.{Seen}
use Rattle.questions.proofs.Stored.{stored_at}

-- ---- sizes that a record may have
one_or_two : (n : ℕ) (a b : Bool) → eqb n 1 ≡ a → eqb n 2 ≡ b → (a || b) ≡ true → (1 ≤ n) × (n ≤ 2)
one_or_two n true b e f h = let k : n ≡ 1 = eqb-true n 1 e in (omega arith, omega arith)
one_or_two n false true e f h = let k : n ≡ 2 = eqb-true n 2 f in (omega arith, omega arith)
one_or_two n false false e f h = absurd (true≢false (sym h))

module _ (n capacity : ℕ) (h : good_sizes n capacity ≡ true) where
  counted : (1 ≤ n) × (n ≤ 2)
  unfolding good_sizes
  counted = one_or_two n (eqb n 1) (eqb n 2) refl refl (both (eqb n 1 || eqb n 2) (leb 1 capacity) (both ((eqb n 1 || eqb n 2) && leb 1 capacity) (leb capacity 4194304) h).0).0

  most : capacity ≤ 2 ^ 22
  unfolding good_sizes
  most = leb-true capacity 4194304 (both ((eqb n 1 || eqb n 2) && leb 1 capacity) (leb capacity 4194304) h).1

-- ---- what is seen
pub record Sound (t : Seen) : Type 0 where
  pub some : 1 ≤ t.count
  pub few : t.count ≤ 2
  pub small : t.capacity ≤ 2 ^ 22
  pub first : t.first.start + t.first.data_len ≤ t.capacity
  pub second : t.count ≡ 2 → t.second.start + t.second.data_len ≤ t.capacity

pub sounds : (t : Seen) → sound_in t ≡ true → Sound t
unfolding sound_in
sounds t h =
    let other : Bool = cond (eqb t.count 2) (in_part t.capacity t.second) true in
    let a = both (t.good && good_sizes t.count t.capacity) (in_part t.capacity t.first && other) h in
    let sizes = (both t.good (good_sizes t.count t.capacity) a.0).1 in
    let b = both (in_part t.capacity t.first) other a.1 in
    record {
      some = (counted t.count t.capacity sizes).0;
      few = (counted t.count t.capacity sizes).1;
      small = most t.count t.capacity sizes;
      first = ends_inside (recording_in t.first) t.capacity b.0;
      second = λ two. ends_inside (recording_in t.second) t.capacity (ap (λ (n : ℕ). cond (eqb n 2) (in_part t.capacity t.second) true) (sym two) ∙ b.1);
    }

pub record Seated (t : Seen) (size : ℕ) : Type 0 where
  pub sound : sound_in t ≡ true
  pub small : t.capacity ≤ 2 ^ 22
  pub first : t.first.start + t.first.data_len ≤ t.capacity
  pub fits : t.count * t.capacity ≤ size
  pub memory : t.capacity ≤ size

pub seated : (t : Seen) (size : ℕ) → good_in t size ≡ true → Seated t size
unfolding good_in
seated t size h =
    let a = both (sound_in t) (leb (t.count * t.capacity) size) h in
    let s = sounds t a.0 in
    let fits = leb-true _ _ a.1 in
    record {
      sound = a.0;
      small = s.small;
      first = s.first;
      fits = fits;
      memory = le_trans (le_of_eq (sym (one-mul t.capacity))) (le_trans (mul-le-mul_right t.capacity s.some) fits);
    }

-- ---- of a record
module _ (s : Sampler) where
  pub sound_seen : sound_in (seen_of s) ≡ good_sampler s
  unfolding sound_in
  sound_seen = go (good_sampler s) refl
    where
      go : (b : Bool) → good_sampler s ≡ b → ((b && good_sizes s.count s.capacity) && (in_part s.capacity (channel_at s 0).head && cond (eqb s.count 2) (in_part s.capacity (channel_at s 1).head) true)) ≡ b
      go false g = refl
      go true g =
          let sizes = good_sizes_lem s g in
          let n = counted s.count s.capacity sizes in
          let first = inside_ends (recording_in (channel_at s 0).head) s.capacity (recording_within s 0 g n.0) in
          rw (sizes, first) (second (eqb s.count 2) refl)
        where
          second : (b : Bool) → eqb s.count 2 ≡ b → cond b (in_part s.capacity (channel_at s 1).head) true ≡ true
          second true e = let two = eqb-true s.count 2 e in inside_ends (recording_in (channel_at s 1).head) s.capacity (recording_within s 1 g (omega (arith, two)))
          second false e = refl

  pub good_seen : (size : ℕ) → good_in (seen_of s) size ≡ good_with s size
  unfolding good_in good_with
  good_seen size = ap (λ (b : Bool). b && leb (s.count * s.capacity) size) sound_seen

  module _ (columns : ℕ) (m : List ℕ) where
    values_seen : good_with s (length m) ≡ true → values_in (seen_of s) columns m ≡ waveform_of s columns m
    unfolding stored_in
    values_seen good =
        let w = fitting s (length m) good in
        let head = (channel_at s 0).head in
        ap (columns_of columns) (sym (
        stored_at s 0 m (recording_in head) (recording_within s 0 w.good w.some)
        ∙ ap (λ (a : ℕ). take head.data_len (drop a m)) (ap (λ (front : ℕ). front + head.start) (zero-mul s.capacity) ∙ zero-add head.start)))

    -- an answer that shows the values where record and memory are good
    by_good : {R : Type 0} (F : Bool → List Float → R) → ((v w : List Float) → F false v ≡ F false w)
        → F (good_in (seen_of s) (length m)) (values_in (seen_of s) columns m) ≡ F (good_with s (length m)) (waveform_of s columns m)
    by_good F broken = ap (λ (b : Bool). F b (values_in (seen_of s) columns m)) (good_seen (length m)) ∙ go (good_with s (length m)) refl
      where
        go : (b : Bool) → good_with s (length m) ≡ b → F b (values_in (seen_of s) columns m) ≡ F b (waveform_of s columns m)
        go true e = ap (F true) (values_seen e)
        go false e = broken _ _

  pub waveform_seen : (columns room : ℕ) (m : List ℕ) → waveform_in (seen_of s) columns room m ≡ get_waveform_summary_of s columns room m
  unfolding get_waveform_summary_of
  waveform_seen columns room m = by_good columns m (λ good v. waveform_rows good columns room (Ok (summary_of v))) (λ v w. refl)

  pub list_seen : (columns : ℕ) (list : List Float) (m : List ℕ) → waveform_left (seen_of s) columns list m ≡ waveform_after s columns list m
  unfolding waveform_after waveform_judged
  list_seen columns list m = by_good columns m (λ good v. values_after_by v list (waveform_rows good columns (length list) (Ok tt))) (λ v w. refl)
