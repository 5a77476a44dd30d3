-- `head_rows` meets its contract, by its cases. Assumes nothing.
use mathlib.Core.Path.{sym, ◌∙◌}
use Rattle.std.specs.Prelude.{Ok}
use Rattle.refusals.specs.declared.Refusal.TheVariants.{Recording}
use Rattle.refusals.proofs.Codes.{open_row}
use Rattle.sampler.proofs.head_rows.Goals as goal

pub returns-in_ok-when-in-Load : goal.returns-in_ok-when-in-Load
returns-in_ok-when-in-Load c =
    let free = open_row c.args.asked.against.blocked Recording (Ok tt) tt (sym c.in_ok-when-in-Load.was ∙ c.when.ensures) in
    simp (c.when-in-Load.ensures, c.in-Load.is, free)
