-- What a number says of the waveform summary: refused with the list kept, or done with the values in its front; and then the recording lies within the memory. The smallest of the columns is where the extremes start. Assumes nothing.
use mathlib.Core.Path.{◌≡◌, refl, sym, ap, ap₂, ◌∙◌, subst}
use mathlib.Core.Bool.{true, false, not}
use mathlib.Core.List.{List}
use Prim.Native.Nat.{ℕ, zero, suc, ◌+◌, ◌-◌, ◌^◌, ◌≤◌}
use native.Mathlib.Nat.{le_trans, le_of_eq, zero-mul, add-sub_cancel_left}
use native.Mathlib.Omega.{arith}
use borrow.Author.Tests.{ltb-false}
use lib.Dec.{T, ltb}
use lib.ListN.{length, take, drop, length-take}
use lib.Seq.{sets, length-sets, length-take-le, take_at}
use lib.Ieee.{Float, nan, inf, fin, binary32, up, down, round, lt, is_nan}
use Rattle.binary32.specs.Leaves.{zero32, min_of, root_of}
use Rattle.binary32.proofs.Between.{le_not_lt}
use Rattle.binary32.proofs.Rounding.{round_sign, round_not_nan}
use Rattle.binary32.proofs.Signs.{unsigned}
use Rattle.std.specs.List.{fold}
use Rattle.walks.proofs.Tests.{denied}
use Rattle.walks.proofs.Lists.Runs.{run_front}
use Rattle.phrases.specs.Phrases.{stored_in}
use Rattle.sampler.specs.declared.Sampler.{Sampler}
use Rattle.std.specs.Prelude.{Result, Ok}
use Rattle.refusals.specs.declared.Refusal.{Refusal}
use Rattle.refusals.specs.declared.Refusal.TheVariants.{ShortList, Broken, TooManyColumns}
use Rattle.refusals.specs.Refusals.{code_of, row}
use Rattle.refusals.proofs.Codes.{passed}
use Rattle.sampler.specs.Refusals.{good_with}
use Rattle.sampler.proofs.Rows.{is_true}
use Rattle.questions.specs.Questions.{in_front}
use Rattle.questions.specs.Waveforms.{column_of, column_at, columns_from, columns_of, smallest_of, largest_of, summary_with, waveform_judged, waveform_number, waveform_of, get_waveform_summary_of, waveform_after}
use Rattle.questions.specs.Sights.{good_in, waveform_judged_in, values_in, waveform_in, waveform_left}
use Rattle.questions.specs.declared.Seen.{Seen}
use Rattle.questions.specs.declared.WaveformSummary.{WaveformSummary}
use Rattle.questions.proofs.Seats.{Seated, seated}

-- ---- as many values as columns
pub columns_count : (columns : ℕ) (recording : List ℕ) (count i : ℕ) → length (columns_from columns recording count i) ≡ count
unfolding columns_from
columns_count columns recording zero i = refl
columns_count columns recording (suc count) i = ap suc (columns_count columns recording count (i + 1))

-- ---- no root lies below 0
rounded_above : (a c : ℕ) → lt (round binary32 false a c) zero32 ≡ false
unfolding is_nan
rounded_above a c =
    let x = round binary32 false a c in
    let real = round_not_nan binary32 false a c in
    denied (lt x zero32) (subst T (le_not_lt zero32 x tt real) (unsigned x real (round_sign binary32 false a c)))

pub root_above : (x : Float) → lt (root_of x) zero32 ≡ false
unfolding root_of lt
root_above nan = refl
root_above (inf false) = refl
root_above (inf true) = refl
root_above (fin true zero e) = simp (zero-mul (up e), zero-mul (down e))
root_above (fin true (suc m) e) = refl
root_above (fin false m e) = rounded_above _ _

least_on : (v : Float) → lt v zero32 ≡ false → min_of zero32 v ≡ zero32
unfolding min_of is_nan
least_on v h = simp h

column_above : (columns : ℕ) (recording : List ℕ) (i : ℕ) → lt (column_at columns recording i) zero32 ≡ false
unfolding column_at column_of
column_above columns recording i = root_above _

pub smallest_zero : (columns : ℕ) (recording : List ℕ) (count i : ℕ) → smallest_of (columns_from columns recording count i) ≡ zero32
unfolding columns_from
smallest_zero columns recording zero i = refl
smallest_zero columns recording (suc count) i =
    ap (λ (x : Float). fold min_of x (columns_from columns recording count (i + 1))) (least_on (column_at columns recording i) (column_above columns recording i)) ∙ smallest_zero columns recording count (i + 1)

-- ---- of a record: r is the answer, and `after` the lent list afterwards
module _ (s : Sampler) (columns : ℕ) (list : List Float) (m : List ℕ) where
  abbrev pub Answers : Result WaveformSummary Refusal → List Float → Type 0
  Answers r after = (r ≡ get_waveform_summary_of s columns (length list) m) × (after ≡ waveform_after s columns list m)

  pub waveform_done : waveform_number s columns (length list) (length m) ≡ 0
      → Answers (Ok (summary_with (smallest_of (waveform_of s columns m)) (largest_of (waveform_of s columns m)))) (in_front (waveform_of s columns m) list)
  unfolding get_waveform_summary_of waveform_after waveform_judged
  waveform_done z =
      let good = passed (not (good_with s (length m))) Broken _ z in
      let many = passed (ltb 4096 columns) TooManyColumns _ good.1 in
      let short = (passed (ltb (length list) columns) ShortList (Ok tt) many.1).0 in
      (simp (good.0, many.0, short), simp (good.0, many.0, short))

-- ---- of what is seen of it
module _ (t : Seen) (columns : ℕ) (list : List Float) (m : List ℕ) where
  abbrev start : ℕ
  start = t.first.start

  abbrev samples : ℕ
  samples = t.first.data_len

  abbrev pub AnswersIn : Result WaveformSummary Refusal → List Float → Type 0
  AnswersIn r after = (r ≡ waveform_in t columns (length list) m) × (after ≡ waveform_left t columns list m)

  -- what is done where the number is 0
  module _ (z : code_of (waveform_judged_in t columns (length list) (length m)) ≡ 0) where
    good : good_in t (length m) ≡ true
    good = is_true (good_in t (length m)) (passed (not (good_in t (length m))) Broken _ z).0

    many : (ltb 4096 columns ≡ false) × (code_of {A = Unit {0}} (row (ltb (length list) columns) ShortList (Ok tt)) ≡ 0)
    many = passed (ltb 4096 columns) TooManyColumns _ (passed (not (good_in t (length m))) Broken _ z).1

    most : columns ≤ 4096
    most = ltb-false 4096 columns many.0

    short : ltb (length list) columns ≡ false
    short = (passed (ltb (length list) columns) ShortList (Ok tt) many.1).0

    room : columns ≤ length list
    room = ltb-false (length list) columns short

    w : Seated t (length m)
    w = seated t (length m) good

    -- what is written is of a stretch of the memory, as the code cuts it out
    pub ends_inside : start + samples ≤ length m
    ends_inside = le_trans w.first w.memory

    pub end_few : start + samples ≤ 2 ^ 22
    end_few = le_trans w.first w.small

    abbrev recording : List ℕ
    recording = take (start + samples - start) (drop start m)

    pub asked_for : (length recording ≤ 2 ^ 22) × (columns ≤ 4096) × (columns ≤ length list)
    asked_for = (omega (arith, length-take (start + samples - start) (drop start m), end_few), most, room)

    values : columns_of columns recording ≡ values_in t columns m
    unfolding stored_in
    values = ap (λ (k : ℕ). columns_of columns (take k (drop start m))) (add-sub_cancel_left start samples)

    count : length (columns_of columns recording) ≡ columns
    count = columns_count columns recording columns 0

    -- `last` is what stands in the list once they are written
    module _ (last : List Float) (l : last ≡ sets list 0 (columns_of columns recording)) where
      pub room_left : columns ≤ length last
      room_left = le_trans room (le_of_eq (sym (ap length l ∙ length-sets list 0 (columns_of columns recording))))

      pub taken_count : columns ≡ length (take columns last)
      taken_count = sym (length-take-le columns last room_left)

      fronted : last ≡ in_front (columns_of columns recording) list
      fronted = l ∙ run_front list (columns_of columns recording) (le_trans (le_of_eq count) room)

      written : take columns last ≡ columns_of columns recording
      written = ap (take columns) fronted ∙ take_at (columns_of columns recording) _ columns count

      pub summary_done : (most : Float) → most ≡ largest_of (take columns last) → AnswersIn (Ok (summary_with zero32 most)) last
      summary_done most h =
          let smallest = sym (smallest_zero columns recording columns 0) ∙ ap smallest_of values in
          let largest = h ∙ ap largest_of (written ∙ values) in
          (rw (good, many.0, short) (ap₂ (λ (a b : Float). Ok (summary_with a b)) smallest largest), rw (good, many.0, short) (fronted ∙ ap (λ (v : List Float). in_front v list) values))
