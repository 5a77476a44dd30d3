-- The sample memory under the recorder: a sample writes at most its one place, and a start and a stop with no sample between
-- empty the data. Assumes nothing.
use mathlib.Core.Path.{◌≡◌, refl, ap, ◌∙◌}
use mathlib.Core.Logic.{◌≢◌}
use mathlib.Core.List.{List}
use Prim.Native.Nat.{ℕ, ◌+◌, ◌<◌}
use native.Mathlib.Nat.{min-zero}
use native.Mathlib.Omega.{arith}
use lib.ListN.{length, get_or, length-set}
use lib.Seq.{get_or-set_same, get_or-set_other}
use Rattle.recorder.specs.declared.State.TheVariants.{Triggered, Idle}
use Rattle.recorder.specs.declared.Recorder.{Recorder}
use Rattle.recorder.specs.Recording.{in_state, start_of, stop_of, recorded_of, data_after}
use Rattle.recorder.proofs.Cases.{by_state, start_idle, memory_idle, stop_cuts, sample_next, memory_set}

pub memory_length : (r : Recorder) (x : ℕ) (mem : List ℕ) → length (data_after r x mem) ≡ length mem
memory_length r x mem = by_state r
    (λ idle. ap length (memory_idle r idle x mem))
    (λ w recording. ap length (memory_set r w recording x mem) ∙ length-set mem w x)

module _ (r : Recorder) (w : ℕ) (recording : r.state ≡ Triggered w) (x : ℕ) (mem : List ℕ) where
  -- the sample stands at its place
  pub memory_there : (d : ℕ) → w < length mem → get_or (data_after r x mem) w d ≡ x
  memory_there d h = ap (λ (l : List ℕ). get_or l w d) (memory_set r w recording x mem) ∙ get_or-set_same mem w x d h

  -- every other place holds what it held
  pub memory_elsewhere : (i d : ℕ) → i ≢ w → get_or (data_after r x mem) i d ≡ get_or mem i d
  memory_elsewhere i d h = ap (λ (l : List ℕ). get_or l i d) (memory_set r w recording x mem) ∙ get_or-set_other mem w i x d h

module _ (r : Recorder) (w : ℕ) (recording : r.state ≡ Triggered w) (len capacity : ℕ) (below : w < capacity) where
  -- before the end of the data a sample overwrites, at its end it appends
  pub sample_overwrites : w < len → (recorded_of r len capacity).data_len ≡ len
  sample_overwrites h = rw (sample_next r w recording len capacity below) (omega arith)

  pub sample_appends : w ≡ len → (recorded_of r len capacity).data_len ≡ len + 1
  sample_appends e = rw (sample_next r w recording len capacity below) (omega arith)

pub start_stop_empties : (r : Recorder) (len : ℕ) → r.state ≡ Idle → stop_of (start_of r) len ≡ record { recorder = r; data_len = 0 }
unfolding in_state
start_stop_empties r len idle =
    ap (λ (s : Recorder). stop_of s len) (start_idle r idle) ∙ stop_cuts (in_state (Triggered 0) r) 0 refl len ∙ simp (min-zero, ← idle)
