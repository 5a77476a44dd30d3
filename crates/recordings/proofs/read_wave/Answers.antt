-- `read_wave` meets its contract: the request's rows in their order, and then the file's words and length. Assumes nothing.
use Rattle.std.proofs.Common.{sym, ap, ◌∙◌}
use Rattle.refusals.specs.Refusals.{code_of}
use Rattle.sampler.proofs.Rows.{fitting}
use Rattle.recordings.proofs.Numbers.{read-refused, read_done, read_says}
use Rattle.recordings.proofs.read_wave.Goals as goal

pub returns-in-Err : goal.returns-in-Err
returns-in-Err c =
    let a = c.args in
    let is = read-refused a.s a.file.now a.memory.now _ c.judge-judged.ensures _ c.read_judged.ensures c.in-Err.refusal c.in-Err.is in
    record { value = is.0; memory_after = is.1 }

pub beginnings-requires : goal.beginnings-requires
beginnings-requires c = (fitting _ _ (read_says _ _ _ (ap code_of (sym c.read_judged.ensures ∙ c.in_default.is))).good).good

pub returns : goal.returns
returns c =
    let a = c.args in
    let is = read_done a.s a.file.now a.memory.now _ c.judge-judged.ensures _ c.read_judged.ensures c.in_default.is _ c.beginnings.ensures _ c.load.ensures.memory_after _ c.held-w.ensures _ c.loaded.ensures in
    record { value = is.0; memory_after = is.1 }
