-- Request 9/12 in one record. Definitions only. Assumes nothing.
use Rattle.std.specs.Prelude.{◌≡◌, ℕ, ◌<◌, cond, List, length}
use Rattle.walks.specs.Each.{Each}
use Rattle.common_types.specs.declared.InitParams.{InitParams}
use Rattle.plain_channel.specs.Sides.{no_pour}
use Rattle.sampler.specs.Refusals.{set_up_number}
use Rattle.plain_sampler.specs.declared.Backing.{Backing}
use Rattle.plain_sampler.specs.Backings.{cold_backing, side_at}
use Rattle.promises.specs.Runs.{World, set_up, Made, makes, FittingMade, spread_all}
use Rattle.plain_promises.specs.Backed.{beside_run, beside_all, has_run, rested_after, SameEngine}
use Rattle.plain_promises.specs.Members.{Shaped, Members}

pub record Plain : Type 0 where
  -- for every record, memory and value beside them, forged ones too
  pub same_engine : (w : World) (k : Backing) (hs : List Made) → SameEngine w k hs
  -- of every record and memory that set-up and any calls leave, for each channel, with any value beside them
  pub members : (count : ℕ) (p : InitParams) (m : List ℕ) → set_up_number count (length m) ≡ 0
      → (hs : List Made) (j : ℕ) → j < count → (k : Backing) → Shaped k → Members (makes (set_up count p m) hs) k j
  -- what calls leave beside them is of that shape again, and a new one is
  pub shaped : (w : World) (hs : List Made) (k : Backing) → Shaped k → Shaped (beside_all w hs k)
  pub new_shaped : Shaped cold_backing
  -- a run of frames leaves nothing poured beside either channel, and any other call what was: of every record and memory,
  -- with any value beside them
  pub poured : (w : World) (hs : List Made) (k : Backing) (j : ℕ) → j < 2
      → (side_at (beside_all w hs k) j).pour ≡ cond (has_run hs) no_pour (side_at k j).pour
  -- and else it leaves beside the record what its frame calls leave: so what `throughout` says of calls it says of runs
  pub in_turn : (count : ℕ) (p : InitParams) (m : List ℕ) → set_up_number count (length m) ≡ 0 → (hs : List Made)
      → Each FittingMade hs → (k : Backing)
      → beside_all (set_up count p m) hs k
      ≡ rested_after hs (beside_run (set_up count p m) (spread_all (set_up count p m) hs) k)
