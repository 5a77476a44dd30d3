-- `Sampler::entries` meets its contract, by the laws of `Framing`. Assumes nothing.
use Rattle.sampler.proofs.Framing.{framing_starts, framing_ready, framing_on, framing_ends, summing_starts, summing_on, summing_ends}
use native.Mathlib.Omega.{arith}
use Rattle.sampler.proofs.Sampler.entries.Goals as goal

pub loop-j-init : goal.loop-j-init
loop-j-init c = (
  framing_starts c.args.params c.args.self c.args.frame.now c.args.memory.now c.requires,
  summing_starts c.args.params c.args.self c.args.frame.now c.args.memory.now,
)

pub bounds-frame-j : goal.bounds-frame-j
bounds-frame-j c = omega (arith, c.loop-j.invariant.0.entries)

pub step-stepped-requires : goal.step-stepped-requires
step-stepped-requires c = framing_ready c.loop-j.invariant.0 c.loop-j-test.true

pub bounds-frame-j-in-loop-j : goal.bounds-frame-j-in-loop-j
bounds-frame-j-in-loop-j c = omega (arith, c.loop-j.invariant.0.entries)

pub overflow_add-moved : goal.overflow_add-moved
overflow_add-moved c =
    let h = c.loop-j.invariant in
    let t = c.loop-j-test.true in
    record { fits = omega (arith, h.1.few, h.0.steps.below, t, c.step-stepped.ensures.moved_bound) }

pub loop-j-preserved : goal.loop-j-preserved
loop-j-preserved c =
    let h = c.loop-j.invariant in
    let t = c.loop-j-test.true in
    let r = c.step-stepped in
    let e = r.ensures in (
      framing_on h.0 t _ _ _ e.sampler_value e.output_value e.memory_after r.auto.memory,
      summing_on h.0 t _ _ _ e.sampler_value e.output_value e.memory_after r.auto.memory _ _ _ h.1 e.moved_value e.moved_bound,
    )

pub shape_of-frame : goal.shape_of-frame
shape_of-frame c = c.loop-j.invariant.0.entries

pub shape_of-memory : goal.shape_of-memory
shape_of-memory c = c.loop-j.invariant.0.whole

pub returns : goal.returns
returns c = record {
  frames = framing_ends c.loop-j.invariant.0 c.loop-j-test.false;
  moved_value = summing_ends c.loop-j.invariant.1 c.loop-j-test.false;
}
