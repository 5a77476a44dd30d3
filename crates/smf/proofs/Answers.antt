-- The answer of `read_song` and the list afterwards, case by case. Assumes nothing.
use Rattle.std.specs.Prelude.{Result, Ok, Err}
use mathlib.Core.Path.{◌≡◌, refl, sym, ap, ◌∙◌}
use mathlib.Core.List.{List, ◌++◌}
use Prim.Native.Nat.{ℕ, ◌*◌, ◌≤◌, ◌<◌}
use native.Mathlib.Omega.{arith}
use lib.ListN.{length, drop}
use borrow.Author.Tests.{le-leb, lt-leb}
use Rattle.walks.proofs.Lists.Runs.{run_front}
use Rattle.smf.specs.Cues.{song_of, count_closed, count_of, numbers_of, WrittenList, room_judged, counted_judged, cues_after, list_of}
use Rattle.smf.specs.declared.faults.Fault.{Fault}
use Rattle.smf.specs.declared.SongRefusal.{SongRefusal}
use Rattle.smf.specs.declared.SongRefusal.TheVariants.{BadRate, Faulty, Short}
use Rattle.smf.proofs.Turns.{numbers_length}

closed_done : (v : Result (Unit {0}) Fault) (m n : ℕ) → count_closed v m ≡ Ok n → m ≡ n
unfolding count_closed
closed_done (Ok done) m n e = cc
closed_done (Err why) m n e = cc

module _ (f : List ℕ) (rate : ℕ) (list : List ℕ) where
  -- an answer that leaves the list
  leaves : (r : Result ℕ SongRefusal) → counted_judged f rate (length list) ≡ r → cues_after (song_of rate f).entries list r ≡ list
      → (r ≡ counted_judged f rate (length list)) × (list ≡ list_of f rate list)
  unfolding list_of
  leaves r e h = (sym e, sym (ap (cues_after (song_of rate f).entries list) e ∙ h))

  pub low_rate : rate < 1 → ((Err BadRate) ≡ counted_judged f rate (length list)) × (list ≡ list_of f rate list)
  unfolding counted_judged
  low_rate h = leaves (Err BadRate) (simp (lt-leb _ _ h)) refl

  pub high_rate : 1 ≤ rate → 192000 < rate → ((Err BadRate) ≡ counted_judged f rate (length list)) × (list ≡ list_of f rate list)
  unfolding counted_judged
  high_rate k h = leaves (Err BadRate) (simp (le-leb _ _ k, lt-leb _ _ h)) refl

  module _ (low : 1 ≤ rate) (high : rate ≤ 192000) (c : Result ℕ Fault) (is : count_of (song_of rate f) ≡ c) where
    judged : counted_judged f rate (length list) ≡ room_judged (length list) c
    unfolding counted_judged
    judged = simp (le-leb _ _ low, le-leb _ _ high) (ap (room_judged (length list)) is)

    pub faulty : (why : Fault) → c ≡ Err why → (Err (Faulty why) ≡ counted_judged f rate (length list)) × (list ≡ list_of f rate list)
    faulty why e = leaves (Err (Faulty why)) (judged ∙ rw e) refl

    pub too_short : (n : ℕ) → c ≡ Ok n → length list < 2 * n → (Err (Short n) ≡ counted_judged f rate (length list)) × (list ≡ list_of f rate list)
    too_short n e h = leaves (Err (Short n)) (judged ∙ rw (e, lt-leb (2 * n) (length list) h)) refl

    pub done : (n : ℕ) → c ≡ Ok n → 2 * n ≤ length list → (after : List ℕ) → WrittenList list after (song_of rate f).entries
        → (Ok n ≡ counted_judged f rate (length list)) × (after ≡ list_of f rate list)
    unfolding list_of
    done n e h after w =
        let es = (song_of rate f).entries in
        let answer : counted_judged f rate (length list) ≡ Ok n = judged ∙ rw (e, le-leb (2 * n) (length list) h) in
        let counts : length (song_of rate f).entries ≡ n = closed_done (song_of rate f).verdict (length (song_of rate f).entries) n (is ∙ e) in
        let size : length (numbers_of (song_of rate f).entries) ≡ 2 * n = omega (arith, numbers_length (song_of rate f).entries) in (
          sym answer,
          w (omega arith)
              ∙ run_front list (numbers_of (song_of rate f).entries) (omega arith)
              ∙ ap (λ (k : ℕ). numbers_of (song_of rate f).entries ++ drop k list) size
              ∙ sym (ap (cues_after (song_of rate f).entries list) answer),
        )
