-- `Sampler::process_frames` meets its contract: the frames that are done, in turn. Assumes nothing.
use mathlib.Core.Path.{sym, ap, subst}
use Prim.Native.Nat.{ℕ}
use lib.ListN.{length}
use Rattle.sampler.specs.Samplers.{Turns, framed, Frames, frames_of, ran_of, run_answer}
use Rattle.sampler.specs.declared.Ran.{Ran}
use Rattle.sampler.proofs.RunRows.{run_asked, done_turns}
use Rattle.sampler.proofs.Sampler.process_frames.Goals as goal

pub frames-sampler-requires : goal.frames-sampler-requires
unfolding run_answer
frames-sampler-requires c =
    let b = c.args in
    let e = run_asked b.self (length b.run.now) b.params (length b.memory.now) _ _ c.run_done-ran.ensures c.run_asked.ensures in
    subst (λ (k : ℕ). Turns b.self k (length b.run.now) (length b.memory.now)) (sym (ap (λ (r : Ran). r.frames) e))
    (done_turns b.self (length b.run.now) b.params (length b.memory.now))

pub returns : goal.returns
unfolding run_answer ran_of
returns c =
    let b = c.args in
    let e = run_asked b.self (length b.run.now) b.params (length b.memory.now) _ _ c.run_done-ran.ensures c.run_asked.ensures in
    let r = c.frames-sampler in
    record {
      ran_value = e;
      frames = subst (λ (q : Ran). Frames (frames_of b.params q.frames (framed b.self b.run.now b.memory.now)) r.result r.new.run r.new.memory) e r.ensures;
    }
