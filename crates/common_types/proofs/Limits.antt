-- What row 4 lets through: attack and decay of at most 2 ^ 24, and a length within its limit. Assumes nothing.
use mathlib.Core.Bool.{Bool, true, false, not, ◌||◌}
use Prim.Native.Nat.{◌^◌, ◌≤◌}
use lib.Dec.{T, ltb, nltb→le}
use Rattle.common_types.specs.declared.Params.{Params}
use Rattle.common_types.specs.Settings.{length_beyond, beyond_limits}

pub record Within (p : Params) : Type 0 where
  pub attack : p.attack_samples ≤ 2 ^ 24
  pub decay : p.decay_samples ≤ 2 ^ 24
  pub length : T (not (length_beyond p.loop_length p.transport))

nor_l : (a b : Bool) → T (not (a || b)) → T (not a)
nor_l true b t = t
nor_l false b t = tt

nor_r : (a b : Bool) → T (not (a || b)) → T (not b)
nor_r true b t = absurd t
nor_r false b t = t

pub within : (p : Params) → T (not (beyond_limits p)) → Within p
unfolding beyond_limits
within p t =
    let a : Bool = ltb (2 ^ 24) p.attack_samples in
    let d : Bool = ltb (2 ^ 24) p.decay_samples in
    let l : Bool = length_beyond p.loop_length p.transport in
    record {
      attack = nltb→le (2 ^ 24) p.attack_samples (nor_l a d (nor_l (a || d) l t));
      decay = nltb→le (2 ^ 24) p.decay_samples (nor_r a d (nor_l (a || d) l t));
      length = nor_r (a || d) l t;
    }
