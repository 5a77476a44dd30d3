-- `played` meets its contract. Assumes nothing.
use mathlib.Core.Path.{refl}
use Rattle.events.proofs.feeds.played.Goals as goal

pub returns : goal.returns
returns c = record {
  state = refl;
  used = c.past.ensures;
  size = c.put.ensures.upper_bound;
  text = c.put.ensures.out_after;
}
