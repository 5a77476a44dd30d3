-- `process_frames` meets its contract: what stands after i entries. Assumes nothing.
use Rattle.std.proofs.Common.{rules, ◌≡◌, ◌*◌, ◌^◌, ◌<◌, ℕ, min, length, ap, ◌∙◌, arith}
use Rattle.sampler.proofs.Parts.{starts_at}
use Rattle.sampler.specs.declared.Ran.{Ran}
use Rattle.lent_sampler.specs.Runs.{run_seat}
use Rattle.lent_sampler.proofs.RunTurned.{steps, inside, turned_starts, turned_low, turned_next, turned_ends}
use Rattle.lent_sampler.proofs.process_frames.Goals as goal

pub loop-i-init : goal.loop-i-init
loop-i-init c = turned_starts c.args.s.now c.args.run.now c.args.params c.args.memory.now

pub overflow_mul-i-end : goal.overflow_mul-i-end
overflow_mul-i-end c =
    let all : c.run_answer-ran.result.frames * c.args.s.now.count ≡ steps c.args.s.now c.args.run.now c.args.params c.args.memory.now = ap (λ (r : Ran). r.frames * c.args.s.now.count) c.run_answer-ran.ensures in
    let fits : length c.args.run.now < 2 ^ 64 = search rules in
    record { fits = omega (arith, all, inside c.args.s.now c.args.run.now c.args.params c.args.memory.now, fits) }

pub overflow_add-end : goal.overflow_add-end
overflow_add-end c =
    let all : c.run_answer-ran.result.frames * c.args.s.now.count ≡ steps c.args.s.now c.args.run.now c.args.params c.args.memory.now = ap (λ (r : Ran). r.frames * c.args.s.now.count) c.run_answer-ran.ensures in
    let h : c.loop-i.i < steps c.args.s.now c.args.run.now c.args.params c.args.memory.now = omega (arith, all) in
    let low = turned_low c.args.s.now c.args.run.now c.args.params c.args.memory.now c.loop-i.invariant h in
    let starts : c.part_start-start.result ≡ run_seat c.loop-i.i c.loop-i.s.count * c.args.s.now.capacity = starts_at (run_seat c.loop-i.i c.loop-i.s.count) c.args.s.now.capacity _ low.0 (c.part_start-start.ensures ∙ ap (λ (n : ℕ). min n 1 * c.args.s.now.capacity) c.run_channel-j.ensures) in
    omega (arith, starts, low.2)

pub offset_bounds-s-j : goal.offset_bounds-s-j
offset_bounds-s-j c =
    let all : c.run_answer-ran.result.frames * c.args.s.now.count ≡ steps c.args.s.now c.args.run.now c.args.params c.args.memory.now = ap (λ (r : Ran). r.frames * c.args.s.now.count) c.run_answer-ran.ensures in
    let h : c.loop-i.i < steps c.args.s.now c.args.run.now c.args.params c.args.memory.now = omega (arith, all) in
    let low = turned_low c.args.s.now c.args.run.now c.args.params c.args.memory.now c.loop-i.invariant h in
    omega (arith, low.0, c.run_channel-j.ensures)

pub bounds-s-j : goal.bounds-s-j
bounds-s-j c =
    let all : c.run_answer-ran.result.frames * c.args.s.now.count ≡ steps c.args.s.now c.args.run.now c.args.params c.args.memory.now = ap (λ (r : Ran). r.frames * c.args.s.now.count) c.run_answer-ran.ensures in
    let h : c.loop-i.i < steps c.args.s.now c.args.run.now c.args.params c.args.memory.now = omega (arith, all) in
    let low = turned_low c.args.s.now c.args.run.now c.args.params c.args.memory.now c.loop-i.invariant h in
    omega (arith, low.0, c.run_channel-j.ensures)

pub offset_bounds-run-i : goal.offset_bounds-run-i
offset_bounds-run-i c =
    let all : c.run_answer-ran.result.frames * c.args.s.now.count ≡ steps c.args.s.now c.args.run.now c.args.params c.args.memory.now = ap (λ (r : Ran). r.frames * c.args.s.now.count) c.run_answer-ran.ensures in
    let h : c.loop-i.i < steps c.args.s.now c.args.run.now c.args.params c.args.memory.now = omega (arith, all) in
    let low = turned_low c.args.s.now c.args.run.now c.args.params c.args.memory.now c.loop-i.invariant h in
    omega (arith, low.1, c.loop-i.invariant.entries)

pub bounds-run-i : goal.bounds-run-i
bounds-run-i c =
    let all : c.run_answer-ran.result.frames * c.args.s.now.count ≡ steps c.args.s.now c.args.run.now c.args.params c.args.memory.now = ap (λ (r : Ran). r.frames * c.args.s.now.count) c.run_answer-ran.ensures in
    let h : c.loop-i.i < steps c.args.s.now c.args.run.now c.args.params c.args.memory.now = omega (arith, all) in
    let low = turned_low c.args.s.now c.args.run.now c.args.params c.args.memory.now c.loop-i.invariant h in
    omega (arith, low.1, c.loop-i.invariant.entries)

pub offset_bounds-run-i-in-loop-i : goal.offset_bounds-run-i-in-loop-i
offset_bounds-run-i-in-loop-i c =
    let all : c.run_answer-ran.result.frames * c.args.s.now.count ≡ steps c.args.s.now c.args.run.now c.args.params c.args.memory.now = ap (λ (r : Ran). r.frames * c.args.s.now.count) c.run_answer-ran.ensures in
    let h : c.loop-i.i < steps c.args.s.now c.args.run.now c.args.params c.args.memory.now = omega (arith, all) in
    let low = turned_low c.args.s.now c.args.run.now c.args.params c.args.memory.now c.loop-i.invariant h in
    omega (arith, low.1, c.loop-i.invariant.entries)

pub bounds-run-i-in-loop-i : goal.bounds-run-i-in-loop-i
bounds-run-i-in-loop-i c =
    let all : c.run_answer-ran.result.frames * c.args.s.now.count ≡ steps c.args.s.now c.args.run.now c.args.params c.args.memory.now = ap (λ (r : Ran). r.frames * c.args.s.now.count) c.run_answer-ran.ensures in
    let h : c.loop-i.i < steps c.args.s.now c.args.run.now c.args.params c.args.memory.now = omega (arith, all) in
    let low = turned_low c.args.s.now c.args.run.now c.args.params c.args.memory.now c.loop-i.invariant h in
    omega (arith, low.1, c.loop-i.invariant.entries)

pub part_sample-heard-requires : goal.part_sample-heard-requires
part_sample-heard-requires c =
    let all : c.run_answer-ran.result.frames * c.args.s.now.count ≡ steps c.args.s.now c.args.run.now c.args.params c.args.memory.now = ap (λ (r : Ran). r.frames * c.args.s.now.count) c.run_answer-ran.ensures in
    let h : c.loop-i.i < steps c.args.s.now c.args.run.now c.args.params c.args.memory.now = omega (arith, all) in
    let low = turned_low c.args.s.now c.args.run.now c.args.params c.args.memory.now c.loop-i.invariant h in
    let starts : c.part_start-start.result ≡ run_seat c.loop-i.i c.loop-i.s.count * c.args.s.now.capacity = starts_at (run_seat c.loop-i.i c.loop-i.s.count) c.args.s.now.capacity _ low.0 (c.part_start-start.ensures ∙ ap (λ (n : ℕ). min n 1 * c.args.s.now.capacity) c.run_channel-j.ensures) in
    (omega arith, omega (arith, starts, low.2))

pub loop-i-preserved : goal.loop-i-preserved
loop-i-preserved c =
    let all : c.run_answer-ran.result.frames * c.args.s.now.count ≡ steps c.args.s.now c.args.run.now c.args.params c.args.memory.now = ap (λ (r : Ran). r.frames * c.args.s.now.count) c.run_answer-ran.ensures in
    let h : c.loop-i.i < steps c.args.s.now c.args.run.now c.args.params c.args.memory.now = omega (arith, all) in
    let low = turned_low c.args.s.now c.args.run.now c.args.params c.args.memory.now c.loop-i.invariant h in
    let starts : c.part_start-start.result ≡ run_seat c.loop-i.i c.loop-i.s.count * c.args.s.now.capacity = starts_at (run_seat c.loop-i.i c.loop-i.s.count) c.args.s.now.capacity _ low.0 (c.part_start-start.ensures ∙ ap (λ (n : ℕ). min n 1 * c.args.s.now.capacity) c.run_channel-j.ensures) in
    let both : length c.loop-i.s.channels ≡ 2 = search rules in
    turned_next c.args.s.now c.args.run.now c.args.params c.args.memory.now c.loop-i.invariant h _ starts both _ c.run_channel-j.ensures _ _ _
    c.part_sample-heard.ensures.0 c.part_sample-heard.ensures.1 c.part_sample-heard.ensures.2

pub returns : goal.returns
returns c =
    let all : c.run_answer-ran.result.frames * c.args.s.now.count ≡ steps c.args.s.now c.args.run.now c.args.params c.args.memory.now = ap (λ (r : Ran). r.frames * c.args.s.now.count) c.run_answer-ran.ensures in
    let e : c.loop-i.i ≡ steps c.args.s.now c.args.run.now c.args.params c.args.memory.now = omega (arith, all) in
    (c.run_answer-ran.ensures, turned_ends c.args.s.now c.args.run.now c.args.params c.args.memory.now c.loop-i.invariant e)
