-- The steps of a run in which voices are ahead of their channels (request 9/12). Definitions only. Assumes nothing.
use Rattle.std.specs.Prelude.{◌≡◌, ℕ, ◌+◌, ◌-◌, ◌/◌, cond, List, ◌++◌, eqb, take, drop, Float}
use Rattle.common_types.specs.declared.Params.{Params}
use Rattle.channel.specs.declared.Channel.{Channel}
use Rattle.lent_channel.specs.declared.Heard.{Heard}
use Rattle.plain_channel.specs.declared.Side.{Side}
use Rattle.plain_channel.specs.Ahead.{Along}
use Rattle.lent_sampler.specs.Hearing.{at_volume}

-- how many samples the channel of entry i has to go, that one among them, of n entries, a multiple of the count
abbrev pub to_go : ℕ → ℕ → ℕ → ℕ
to_go i n count = cond (eqb count 1) (n - i) ((n - i - 1) / 2 + 1)

-- a sample of a run on the part of the memory from a to e, at the parameters' volume
pub record PartAlong (p : Params) (x : Float) (a e togo : ℕ) (c : Channel) (k : Side) (m : List ℕ) (r : Heard) (d : Channel) (l : Side) (m' : List ℕ) : Type 0 where
  pub heard : Heard
  pub part : List ℕ
  pub along : Along p x (take (e - a) (drop a m)) togo c k heard d l part
  pub volume : r ≡ at_volume p heard
  pub memory : m' ≡ take a m ++ (part ++ drop (e - a) (drop a m))
