-- `process_frames` meets its contract: what stands after i entries, beside what there would be without easing. Assumes nothing.
use Rattle.std.proofs.Common.{rules, ◌≡◌, ◌*◌, ◌^◌, ◌<◌, ℕ, min, length, sym, subst, ap, ◌∙◌, arith}
use Rattle.sampler.proofs.Parts.{starts_at}
use Rattle.sampler.specs.declared.Ran.{Ran}
use Rattle.lent_sampler.specs.Runs.{run_seat}
use Rattle.lent_sampler.proofs.RunTurned.{steps, inside}
use Rattle.plain_sampler.specs.declared.Backing.{Backing}
use Rattle.plain_sampler.proofs.Beside.{rested_so}
use Rattle.plain_sampler.proofs.Streams.{Streamed, streamed_starts, streamed_low, streamed_may, streamed_next, streamed_ends}
use Rattle.plain_sampler.proofs.process_frames.Goals as goal

pub loop-i-init : goal.loop-i-init
loop-i-init c =
    let two : length c.args.s.now.channels ≡ 2 = search rules in
    let both : length c.args.k.now.sides ≡ 2 = search rules in
    subst (λ (k : Backing). Streamed c.args.s.now c.args.run.now c.args.params c.args.memory.now c.args.k.now 0 c.args.s.now c.args.run.now c.args.memory.now k) (sym (rested_so c.args.k.now _ both _ _ c.rest.ensures c.rest-2.ensures)) (streamed_starts c.args.s.now c.args.run.now c.args.params c.args.memory.now c.args.k.now two both)

pub overflow_mul-n : goal.overflow_mul-n
overflow_mul-n c =
    let all : c.run_answer-ran.result.frames * c.args.s.now.count ≡ steps c.args.s.now c.args.run.now c.args.params c.args.memory.now = ap (λ (r : Ran). r.frames * c.args.s.now.count) c.run_answer-ran.ensures in
    let fits : length c.args.run.now < 2 ^ 64 = search rules in
    record { fits = omega (arith, all, inside c.args.s.now c.args.run.now c.args.params c.args.memory.now, fits) }

pub overflow_add-end : goal.overflow_add-end
overflow_add-end c =
    let all : c.run_answer-ran.result.frames * c.args.s.now.count ≡ steps c.args.s.now c.args.run.now c.args.params c.args.memory.now = ap (λ (r : Ran). r.frames * c.args.s.now.count) c.run_answer-ran.ensures in
    let h : c.loop-i.i < steps c.args.s.now c.args.run.now c.args.params c.args.memory.now = omega (arith, all) in
    let low = streamed_low c.args.s.now c.args.run.now c.args.params c.args.memory.now c.args.k.now c.loop-i.invariant h in
    let starts : c.part_start-start.result ≡ run_seat c.loop-i.i c.loop-i.s.count * c.args.s.now.capacity = starts_at (run_seat c.loop-i.i c.loop-i.s.count) c.args.s.now.capacity _ low.0 (c.part_start-start.ensures ∙ ap (λ (n : ℕ). min n 1 * c.args.s.now.capacity) c.run_channel-j.ensures) in
    omega (arith, starts, low.2)

pub offset_bounds-s-j : goal.offset_bounds-s-j
offset_bounds-s-j c =
    let all : c.run_answer-ran.result.frames * c.args.s.now.count ≡ steps c.args.s.now c.args.run.now c.args.params c.args.memory.now = ap (λ (r : Ran). r.frames * c.args.s.now.count) c.run_answer-ran.ensures in
    let h : c.loop-i.i < steps c.args.s.now c.args.run.now c.args.params c.args.memory.now = omega (arith, all) in
    let low = streamed_low c.args.s.now c.args.run.now c.args.params c.args.memory.now c.args.k.now c.loop-i.invariant h in
    omega (arith, low.0, c.run_channel-j.ensures)

pub bounds-s-j : goal.bounds-s-j
bounds-s-j c =
    let all : c.run_answer-ran.result.frames * c.args.s.now.count ≡ steps c.args.s.now c.args.run.now c.args.params c.args.memory.now = ap (λ (r : Ran). r.frames * c.args.s.now.count) c.run_answer-ran.ensures in
    let h : c.loop-i.i < steps c.args.s.now c.args.run.now c.args.params c.args.memory.now = omega (arith, all) in
    let low = streamed_low c.args.s.now c.args.run.now c.args.params c.args.memory.now c.args.k.now c.loop-i.invariant h in
    omega (arith, low.0, c.run_channel-j.ensures)

pub offset_bounds-k-j : goal.offset_bounds-k-j
offset_bounds-k-j c =
    let all : c.run_answer-ran.result.frames * c.args.s.now.count ≡ steps c.args.s.now c.args.run.now c.args.params c.args.memory.now = ap (λ (r : Ran). r.frames * c.args.s.now.count) c.run_answer-ran.ensures in
    let h : c.loop-i.i < steps c.args.s.now c.args.run.now c.args.params c.args.memory.now = omega (arith, all) in
    let low = streamed_low c.args.s.now c.args.run.now c.args.params c.args.memory.now c.args.k.now c.loop-i.invariant h in
    omega (arith, low.0, c.run_channel-j.ensures)

pub bounds-k-j : goal.bounds-k-j
bounds-k-j c =
    let all : c.run_answer-ran.result.frames * c.args.s.now.count ≡ steps c.args.s.now c.args.run.now c.args.params c.args.memory.now = ap (λ (r : Ran). r.frames * c.args.s.now.count) c.run_answer-ran.ensures in
    let h : c.loop-i.i < steps c.args.s.now c.args.run.now c.args.params c.args.memory.now = omega (arith, all) in
    let low = streamed_low c.args.s.now c.args.run.now c.args.params c.args.memory.now c.args.k.now c.loop-i.invariant h in
    omega (arith, low.0, c.run_channel-j.ensures)

pub offset_bounds-run-i : goal.offset_bounds-run-i
offset_bounds-run-i c =
    let all : c.run_answer-ran.result.frames * c.args.s.now.count ≡ steps c.args.s.now c.args.run.now c.args.params c.args.memory.now = ap (λ (r : Ran). r.frames * c.args.s.now.count) c.run_answer-ran.ensures in
    let h : c.loop-i.i < steps c.args.s.now c.args.run.now c.args.params c.args.memory.now = omega (arith, all) in
    let low = streamed_low c.args.s.now c.args.run.now c.args.params c.args.memory.now c.args.k.now c.loop-i.invariant h in
    omega (arith, low.1, c.loop-i.invariant.turned.entries)

pub bounds-run-i : goal.bounds-run-i
bounds-run-i c =
    let all : c.run_answer-ran.result.frames * c.args.s.now.count ≡ steps c.args.s.now c.args.run.now c.args.params c.args.memory.now = ap (λ (r : Ran). r.frames * c.args.s.now.count) c.run_answer-ran.ensures in
    let h : c.loop-i.i < steps c.args.s.now c.args.run.now c.args.params c.args.memory.now = omega (arith, all) in
    let low = streamed_low c.args.s.now c.args.run.now c.args.params c.args.memory.now c.args.k.now c.loop-i.invariant h in
    omega (arith, low.1, c.loop-i.invariant.turned.entries)

pub offset_bounds-run-i-in-loop-i : goal.offset_bounds-run-i-in-loop-i
offset_bounds-run-i-in-loop-i c =
    let all : c.run_answer-ran.result.frames * c.args.s.now.count ≡ steps c.args.s.now c.args.run.now c.args.params c.args.memory.now = ap (λ (r : Ran). r.frames * c.args.s.now.count) c.run_answer-ran.ensures in
    let h : c.loop-i.i < steps c.args.s.now c.args.run.now c.args.params c.args.memory.now = omega (arith, all) in
    let low = streamed_low c.args.s.now c.args.run.now c.args.params c.args.memory.now c.args.k.now c.loop-i.invariant h in
    omega (arith, low.1, c.loop-i.invariant.turned.entries)

pub bounds-run-i-in-loop-i : goal.bounds-run-i-in-loop-i
bounds-run-i-in-loop-i c =
    let all : c.run_answer-ran.result.frames * c.args.s.now.count ≡ steps c.args.s.now c.args.run.now c.args.params c.args.memory.now = ap (λ (r : Ran). r.frames * c.args.s.now.count) c.run_answer-ran.ensures in
    let h : c.loop-i.i < steps c.args.s.now c.args.run.now c.args.params c.args.memory.now = omega (arith, all) in
    let low = streamed_low c.args.s.now c.args.run.now c.args.params c.args.memory.now c.args.k.now c.loop-i.invariant h in
    omega (arith, low.1, c.loop-i.invariant.turned.entries)

pub part_along-heard-requires : goal.part_along-heard-requires
part_along-heard-requires c =
    let all : c.run_answer-ran.result.frames * c.args.s.now.count ≡ steps c.args.s.now c.args.run.now c.args.params c.args.memory.now = ap (λ (r : Ran). r.frames * c.args.s.now.count) c.run_answer-ran.ensures in
    let h : c.loop-i.i < steps c.args.s.now c.args.run.now c.args.params c.args.memory.now = omega (arith, all) in
    let low = streamed_low c.args.s.now c.args.run.now c.args.params c.args.memory.now c.args.k.now c.loop-i.invariant h in
    let starts : c.part_start-start.result ≡ run_seat c.loop-i.i c.loop-i.s.count * c.args.s.now.capacity = starts_at (run_seat c.loop-i.i c.loop-i.s.count) c.args.s.now.capacity _ low.0 (c.part_start-start.ensures ∙ ap (λ (n : ℕ). min n 1 * c.args.s.now.capacity) c.run_channel-j.ensures) in
    (omega arith, omega (arith, starts, low.2), streamed_may c.args.s.now c.args.run.now c.args.params c.args.memory.now c.args.k.now c.loop-i.invariant h _ c.run_channel-j.ensures _ starts _ all _ c.to_go-togo.ensures _)

pub loop-i-preserved : goal.loop-i-preserved
loop-i-preserved c =
    let all : c.run_answer-ran.result.frames * c.args.s.now.count ≡ steps c.args.s.now c.args.run.now c.args.params c.args.memory.now = ap (λ (r : Ran). r.frames * c.args.s.now.count) c.run_answer-ran.ensures in
    let h : c.loop-i.i < steps c.args.s.now c.args.run.now c.args.params c.args.memory.now = omega (arith, all) in
    let low = streamed_low c.args.s.now c.args.run.now c.args.params c.args.memory.now c.args.k.now c.loop-i.invariant h in
    let starts : c.part_start-start.result ≡ run_seat c.loop-i.i c.loop-i.s.count * c.args.s.now.capacity = starts_at (run_seat c.loop-i.i c.loop-i.s.count) c.args.s.now.capacity _ low.0 (c.part_start-start.ensures ∙ ap (λ (n : ℕ). min n 1 * c.args.s.now.capacity) c.run_channel-j.ensures) in
    streamed_next c.args.s.now c.args.run.now c.args.params c.args.memory.now c.args.k.now c.loop-i.invariant h _ c.run_channel-j.ensures _ starts _ all _ c.to_go-togo.ensures _ _ _ _ _ c.part_along-heard.ensures

pub returns : goal.returns
returns c =
    let all : c.run_answer-ran.result.frames * c.args.s.now.count ≡ steps c.args.s.now c.args.run.now c.args.params c.args.memory.now = ap (λ (r : Ran). r.frames * c.args.s.now.count) c.run_answer-ran.ensures in
    let e : c.loop-i.i ≡ steps c.args.s.now c.args.run.now c.args.params c.args.memory.now = omega (arith, all) in
    let both : length c.loop-i.k.sides ≡ 2 = search rules in
    let end = streamed_ends c.args.s.now c.args.run.now c.args.params c.args.memory.now c.args.k.now c.loop-i.invariant e in (
      (c.run_answer-ran.ensures, end.0),
      rested_so c.loop-i.k _ both _ _ c.rest-3.ensures c.rest-4.ensures ∙ end.1,
    )
