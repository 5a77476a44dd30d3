-- `read_in` meets its contract: refused with the memory kept, or done with the file's words in it. Assumes nothing.
use Rattle.std.proofs.lemmas.Result.{err_from_is_err_and}
use Rattle.recordings.proofs.Sights.{loading_refused, loading_done}
use Rattle.recordings.proofs.read_in.Goals as goal

pub returns-in_err-judged_in : goal.returns-in_err-judged_in
returns-in_err-judged_in c =
    let a = c.args in
    let is = loading_refused a.t a.file.now a.memory.now _ c.judge-judged.ensures _ c.judged_in.ensures _ c.in_err-judged_in.was in
    let p = err_from_is_err_and c.from_residual.result c.from_residual.ensures.1 in
    record { value = rw (p.1, p.2) is.0; memory_after = is.1 }

pub returns : goal.returns
returns c =
    let a = c.args in
    let is = loading_done a.t a.file.now a.memory.now _ c.judge-judged.ensures _ c.judged_in.ensures c.in_ok-judged_in.was _ c.held-w.ensures _ c.beginnings_in.ensures _ c.load.ensures.memory_after in
    record { value = is.0; memory_after = is.1 }
