-- The counts only rise, by at most one a call, and hold at 2 ^ 32 - 1. Assumes nothing.
use mathlib.Core.Path.{◌≡◌, refl}
use mathlib.Core.Bool.{Bool, true, false, cond}
use Prim.Native.Nat.{ℕ, ◌+◌}
use native.Mathlib.Omega.{arith}
use lib.Dec.{ltb}
use borrow.Author.Tests.{ltb-true}
use Rattle.recorder.specs.declared.State.{State}
use Rattle.recorder.specs.declared.State.TheVariants.{Triggered, Idle}
use Rattle.recorder.specs.declared.Recorder.{Recorder}
use Rattle.recorder.specs.Recording.{Rises, CountsRise, raised, in_state, misused_of, skipped_of, start_of, stop_of, recorded_of}
use Rattle.recorder.proofs.Cases.{by_state, by_room, start_idle, stop_idle, sample_idle, start_again, stop_cuts, sample_next, sample_dropped}

stays : (n : ℕ) → Rises n n
stays n = record { up = omega arith; one = omega arith; top = λ h. h }

rises : (n : ℕ) → Rises n (raised n)
unfolding raised
rises n = go (ltb n 4294967295) refl
  where
    go : (b : Bool) → ltb n 4294967295 ≡ b → Rises n (cond b (n + 1) n)
    go true e = let l = ltb-true n 4294967295 e in record { up = omega arith; one = omega arith; top = λ h. omega arith }
    go false e = stays n

in_state_lem : (r : Recorder) (t : State) → CountsRise r (in_state t r)
unfolding in_state
in_state_lem r t = record { skips = stays _; misuses = stays _ }

misused : (r : Recorder) → CountsRise r (misused_of r)
unfolding misused_of
misused r = record { skips = stays _; misuses = rises _ }

skipped : (r : Recorder) → CountsRise r (skipped_of r)
unfolding skipped_of
skipped r = record { skips = rises _; misuses = stays _ }

module _ (r : Recorder) where
  pub start_counts : CountsRise r (start_of r)
  start_counts = by_state r
      (λ idle. rw (start_idle r idle) (in_state_lem r (Triggered 0)))
      (λ w recording. rw (start_again r w recording) (misused r))

  pub stop_counts : (len : ℕ) → CountsRise r (stop_of r len).recorder
  stop_counts len = by_state r
      (λ idle. rw (stop_idle r idle len) (misused r))
      (λ w recording. rw (stop_cuts r w recording len) (in_state_lem r Idle))

  pub sample_counts : (len capacity : ℕ) → CountsRise r (recorded_of r len capacity).recorder
  sample_counts len capacity = by_room r capacity
      (λ idle. rw (sample_idle r idle len capacity) (record { skips = stays _; misuses = stays _ }))
      (λ w recording below. rw (sample_next r w recording len capacity below) (in_state_lem r (Triggered (w + 1))))
      (λ w recording full. rw (sample_dropped r w recording len capacity full) (skipped r))
