-- What a channel's sample hands up, at the parameters' volume, and what a call's answer says. Definitions only.
use Rattle.std.specs.Prelude.{ℕ, Result, Ok, Err}
use Rattle.std.specs.Float.{binary32}
use Rattle.std.specs.Float.Ieee.{mul}
use Rattle.binary32.specs.Leaves.{zero32}
use Rattle.refusals.specs.declared.Refusal.{Refusal}
use Rattle.common_types.specs.declared.Params.{Params}
use Rattle.lent_channel.specs.declared.Heard.{Heard}

abbrev pub at_volume : Params → Heard → Heard
at_volume p h = record { output = mul binary32 p.volume h.output; moved = h.moved }

-- whether a call that answers more than that was refused
abbrev pub done_in : {A : Type 0} → Result A Refusal → Result (Unit {0}) Refusal
done_in (Ok a) = Ok tt
done_in (Err refusal) = Err refusal

-- what is heard of a sample; of a refused one nothing
abbrev pub heard_in : Result Heard Refusal → Heard
heard_in (Ok heard) = heard
heard_in (Err refusal) = record { output = zero32; moved = 0 }

-- how many voices move up in a frame; in a refused one none
abbrev pub moved_in : Result ℕ Refusal → ℕ
moved_in (Ok moved) = moved
moved_in (Err refusal) = 0
