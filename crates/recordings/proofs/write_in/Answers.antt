-- `write_in` meets its contract: the request's rows in their order, and then the file. Assumes nothing.
use Rattle.std.proofs.Common.{sym, ◌∙◌}
use Rattle.questions.proofs.Seats.{seated}
use Rattle.recordings.proofs.Sights.{write_good, write_done}
use Rattle.recordings.proofs.write_in.Goals as goal

pub layout-requires : goal.layout-requires
layout-requires c =
    let a = c.args in
    (seated _ _ (write_good a.t a.rate a.memory.now a.out.now (sym c.in_ok-write_judged.was ∙ c.write_judged.ensures))).sound

pub returns : goal.returns
returns c =
    let a = c.args in
    let is = write_done a.t a.rate a.memory.now a.out.now (sym c.in_ok-write_judged.was ∙ c.write_judged.ensures) _ c.layout.ensures _ c.write.ensures.value _ c.write.ensures.out_after in
    record { value = is.0; out_after = is.1 }
