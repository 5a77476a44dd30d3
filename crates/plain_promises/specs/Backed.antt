-- A host's calls of the second engine (request 9/12): what each leaves of the record that is lent beside the sampler, and
-- what its calls leave by their contracts alone. Definitions only. Assumes nothing.
use Rattle.std.specs.Prelude.{◌≡◌, Bool, true, false, cond, List, [], ◌∷◌, Float}
use Rattle.common_types.specs.declared.Params.{Params}
use Rattle.plain_sampler.specs.declared.Backing.{Backing}
use Rattle.plain_sampler.specs.Backings.{change_backing, sample_backing, frame_backing, rested_backing, run_backing}
use Rattle.promises.specs.Runs.{World, Call, change, sample, frame, read_wave, gather, asks, after, Made, one, frames, made, makes}
use Rattle.promises.specs.Outcomes.{Outcome, RunOutcome, on, along, Allows, left_by, world_left_along}

-- a read, a gather and a question have no second form: they leave it
unfoldable pub beside_after : World → Call → Backing → Backing
beside_after w (change d) k = change_backing w.sampler d k
beside_after w (sample j x p) k = sample_backing w.sampler j x p w.memory k
beside_after w (frame xs p) k = frame_backing w.sampler xs p w.memory k
beside_after w (read_wave f) k = k
beside_after w gather k = k
beside_after w (asks q) k = k

unfoldable pub beside_run : World → List Call → Backing → Backing
beside_run w [] k = k
beside_run w (c ∷ cs) k = beside_run (after w c) cs (beside_after w c k)

unfoldable pub beside_made : World → Made → Backing → Backing
beside_made w (one c) k = beside_after w c k
beside_made w (frames xs p) k = run_backing w.sampler xs p w.memory k

unfoldable pub beside_all : World → List Made → Backing → Backing
beside_all w [] k = k
beside_all w (h ∷ hs) k = beside_all (made w h) hs (beside_made w h k)

-- whether a run of frames is among calls
unfoldable pub has_run : List Made → Bool
has_run [] = false
has_run (one c ∷ hs) = has_run hs
has_run (frames xs p ∷ hs) = true

-- if so, nothing is poured after them, and if not, what was
unfoldable pub rested_after : List Made → Backing → Backing
rested_after hs k = cond (has_run hs) (rested_backing k) k

-- each call leaves what some outcome leaves that its contract allows: of sampler, memory and answer the one of the first
-- engine's, and of what is lent beside them what it says
pub data Backed : World → Backing → List Made → World → Backing → Type 0 where
  ended : {w : World} {k : Backing} → Backed w k [] w k
  called : {w u : World} {k l z : Backing} {c : Call} {hs : List Made} (r : Outcome (on w c)) → Allows (on w c) r
      → l ≡ beside_after w c k → Backed (left_by w c r) l hs u z → Backed w k (one c ∷ hs) u z
  ran : {w u : World} {k l z : Backing} {xs : List Float} {p : Params} {hs : List Made} (r : RunOutcome)
      → Allows (along w xs p) r → l ≡ run_backing w.sampler xs p w.memory k
      → Backed (world_left_along r) l hs u z → Backed w k (frames xs p ∷ hs) u z

-- "Over any sequence of calls both engines give the same output, voice lists and refusals": from every record and memory,
-- with any value beside them
pub record SameEngine (w : World) (k : Backing) (hs : List Made) : Type 0 where
  -- what the second engine leaves is what the first leaves, and what is lent beside is settled;
  pub runs_same : (u : World) (z : Backing) → Backed w k hs u z → (u ≡ makes w hs) × (z ≡ beside_all w hs k)
  -- and it leaves something: an engine whose contracts allow nothing doesn't meet this.
  pub runs : Backed w k hs (makes w hs) (beside_all w hs k)
