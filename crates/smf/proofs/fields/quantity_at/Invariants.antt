-- What is left of the quantity, after the bytes that were read, is the whole quantity.
use mathlib.Core.Path.{◌≡◌}
use Prim.Native.Nat.{◌-◌, ◌^◌, ◌≤◌, ◌<◌}
use Rattle.smf.specs.Fields.{quantity_from, quantity_at}
use Rattle.smf.proofs.fields.quantity_at.Given as goal

abbrev pub invariant-loop-place : goal.invariant-loop-place
invariant-loop-place l = record {
  few : l.used ≤ 3;
  small : l.value < 128 ^ l.used;
  is_whole : quantity_from (3 - l.used) l.file l.end l.value l.place ≡ quantity_at l.file l.end l.at;
}

abbrev pub decreases-loop-place : goal.decreases-loop-place
decreases-loop-place l = 3 - l.used
