-- `Listing::step` meets its contract. Assumes nothing.
use mathlib.Core.Path.{sym, ◌∙◌}
use Rattle.listing.specs.Steps.{record_step, step_memory}
use Rattle.listing.proofs.Listing.step.Goals as goal

pub returns-then-is_empty : goal.returns-then-is_empty
unfolding record_step step_memory
returns-then-is_empty c = record { value = simp (sym c.is_empty.ensures ∙ c.if-is_empty.true, c.ended.ensures, c.new.ensures); memory_after = simp (sym c.is_empty.ensures ∙ c.if-is_empty.true) }

pub returns-in-Some : goal.returns-in-Some
unfolding record_step step_memory
returns-in-Some c = let some = sym c.is_empty.ensures ∙ c.if-is_empty.false in
    let good = sym c.read_record.ensures ∙ c.in-Some.is in
    record { value = simp (some, good, c.later.ensures, c.play-played.ensures.value); memory_after = c.play-played.ensures.memory_after ∙ simp (some, good) }

pub returns-in-None : goal.returns-in-None
unfolding record_step step_memory
returns-in-None c = let some = sym c.is_empty.ensures ∙ c.if-is_empty.false in
    let bad = sym c.read_record.ensures ∙ c.in-None.is in
    record { value = simp (some, bad, c.ended-in-None.ensures, c.bad_line.ensures); memory_after = simp (some, bad) }
