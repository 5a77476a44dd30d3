-- `one` meets its contract: the header or a record. Assumes nothing.
use Rattle.events.proofs.feeds.one.Goals as goal

pub next-requires : goal.next-requires
next-requires c = record {
  opened_value = c.if-fed.true;
  used_in_bounds = c.requires.used_in_bounds;
  size_in_bounds = c.requires.size_in_bounds;
}

pub returns-then-fed : goal.returns-then-fed
returns-then-fed c = c.next.ensures

pub first-requires : goal.first-requires
first-requires c = record {
  opened_value = c.if-fed.false;
  used_in_bounds = c.requires.used_in_bounds;
  size_in_bounds = c.requires.size_in_bounds;
}

pub returns : goal.returns
returns c = c.first.ensures
