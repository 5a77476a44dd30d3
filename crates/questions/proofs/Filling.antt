-- The loops of a waveform: a walk over a whole list; and the loop that writes a column a turn, where what stands in the list with the columns that are left is what the whole loop leaves. Assumes nothing.
use mathlib.Core.Path.{◌≡◌, sym, ap, ap₂, ◌∙◌}
use mathlib.Core.List.{List, map}
use Prim.Native.Nat.{ℕ, suc, ◌+◌, ◌-◌, ◌^◌, ◌≤◌, ◌<◌, zero-le}
use native.Mathlib.Nat.{le_of_eq, le_trans, sub-zero}
use native.Mathlib.Numerals.{add-one}
use native.Mathlib.Omega.{arith}
use lib.ListN.{length, take, drop, set, length-set}
use lib.Seq.{sets, take-length}
use lib.Ieee.{Float, binary32, mul}
use Rattle.binary32.specs.Leaves.{as_float, as_whole, floor_of, float_of}
use Rattle.walks.proofs.Lists.Loops.{Walk}
use Rattle.questions.specs.Waveforms.{column_width, cut_of, column_of, column_at, columns_from, columns_of}
use Rattle.questions.proofs.Cuts.{cut_first, cut_inside, cuts_rise}

-- a walk over a whole list
pub from_start : {A R : Type 0} (go : List A → R) (l : List A) (n : ℕ) → n ≡ length l → Walk (go l) go l n 0
from_start go l n e = record { upto = zero-le; within = le_of_eq e; same = ap go (ap (λ (k : ℕ). take k l) e ∙ take-length l) }

pub record Filling (goal : List Float) (columns : ℕ) (recording : List ℕ) (step : Float) (list : List Float) (start i : ℕ) : Type 0 where
  pub upto : i ≤ columns
  pub most : columns ≤ 4096
  pub few : length recording ≤ 2 ^ 22
  pub room : columns ≤ length list
  pub step_is : step ≡ column_width (length recording) columns
  pub start_is : i < columns → start ≡ cut_of (length recording) columns i
  pub same : sets list i (columns_from columns recording (columns - i) i) ≡ goal

pub filling_starts : (columns : ℕ) (recording : List ℕ) (step : Float) (list : List Float) → columns ≤ 4096 → length recording ≤ 2 ^ 22 → columns ≤ length list
    → step ≡ column_width (length recording) columns → Filling (sets list 0 (columns_of columns recording)) columns recording step list 0 0
filling_starts columns recording step list m f r s = record {
  upto = zero-le;
  most = m;
  few = f;
  room = r;
  step_is = s;
  start_is = λ h. sym (cut_first (length recording) columns f h m);
  same = ap (λ (c : ℕ). sets list 0 (columns_from columns recording c 0)) (sub-zero columns);
}

module _ {goal : List Float} {columns : ℕ} {recording : List ℕ} {step : Float} {list : List Float} {start i : ℕ} (w : Filling goal columns recording step list start i) (h : i < columns) where
  some : 0 < columns
  some = omega arith

  -- where the next column begins
  module _ (end : ℕ) (e : end ≡ as_whole 64 (floor_of (mul binary32 (as_float (i + 1)) step))) where
    end_is : end ≡ cut_of (length recording) columns (i + 1)
    unfolding cut_of
    end_is = e ∙ ap (λ (x : Float). as_whole 64 (floor_of (mul binary32 (as_float (i + 1)) x))) w.step_is

    pub from_start_on : start ≤ end
    from_start_on = le_trans (le_of_eq (w.start_is h)) (le_trans (cuts_rise (length recording) columns w.few some w.most i (i + 1) (omega arith) (omega arith)) (le_of_eq (sym end_is)))

    pub inside : end ≤ length recording
    inside = le_trans (le_of_eq end_is) (cut_inside (length recording) columns w.few some w.most (i + 1) (omega arith))

    pub filling_goes_on : (x : Float) → x ≡ column_of (map float_of (take (end - start) (drop start recording))) → Filling goal columns recording step (set list i x) end (i + 1)
    unfolding column_at columns_from
    filling_goes_on x g =
        let left : columns - i ≡ suc (columns - (i + 1)) = omega arith in
        let value : x ≡ column_at columns recording i =
        g ∙ ap₂ (λ (a b : ℕ). column_of (map float_of (take (b - a) (drop a recording)))) (w.start_is h) end_is in
        record {
          upto = omega arith;
          most = w.most;
          few = w.few;
          room = omega (arith, length-set list i x, w.room);
          step_is = w.step_is;
          start_is = λ k. end_is;
          same =
              ap₂ (λ (y : Float) (k : ℕ). sets (set list i y) k (columns_from columns recording (columns - (i + 1)) (i + 1))) value (add-one i)
              ∙ sym (ap (λ (c : ℕ). sets list i (columns_from columns recording c i)) left) ∙ w.same;
        }

pub filling_ends : {goal : List Float} {columns : ℕ} {recording : List ℕ} {step : Float} {list : List Float} {start i : ℕ} → Filling goal columns recording step list start i → columns ≤ i → list ≡ goal
unfolding columns_from
filling_ends {goal} {columns} {recording} {step} {list} {start} {i} w h =
    let over : columns - i ≡ 0 = omega arith in
    sym (ap (λ (c : ℕ). sets list i (columns_from columns recording c i)) over) ∙ w.same
