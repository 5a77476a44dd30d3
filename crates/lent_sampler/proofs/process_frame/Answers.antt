-- `process_frame` meets its contract: what stands after i entries. Assumes nothing.
use Rattle.std.proofs.Common.{rules, ◌≡◌, ℕ, ◌*◌, ◌<◌, length, sym, subst, arith}
use Rattle.std.specs.Prelude.{Result, Err}
use Rattle.refusals.specs.declared.Refusal.{Refusal}
use Rattle.sampler.specs.Refusals.{frame_judged}
use Rattle.sampler.specs.Samplers.{Frames, framed_of, frame_moved}
use Rattle.sampler.proofs.Parts.{starts_at}
use Rattle.lent_sampler.specs.Hearing.{done_in, moved_in}
use Rattle.lent_sampler.proofs.Turned.{refused, none_moved, turned_starts, turned_low, turned_few, turned_next, turned_ends, turned_moved}
use Rattle.lent_sampler.proofs.process_frame.Goals as goal

pub returns-in_err-frame_judged : goal.returns-in_err-frame_judged
returns-in_err-frame_judged c =
    let e : c.from_residual.result ≡ Err c.in_err-frame_judged.field-0.0 = search rules in
    let at = c.args in
    subst (λ (r : Result ℕ Refusal). (done_in r ≡ frame_judged at.s.now (length at.frame.now) at.params (length at.memory.now))
    × Frames (framed_of at.s.now at.frame.now at.params at.memory.now) at.s.now at.frame.now at.memory.now
    × (moved_in r ≡ frame_moved at.s.now at.frame.now at.params at.memory.now)) (sym e)
    (c.in_err-frame_judged.ensures, refused at.s.now at.frame.now at.params at.memory.now _ (sym c.in_err-frame_judged.ensures), none_moved at.s.now at.frame.now at.params at.memory.now _ (sym c.in_err-frame_judged.ensures))

pub loop-i-init : goal.loop-i-init
loop-i-init c = turned_starts c.args.s.now c.args.frame.now c.args.params c.args.memory.now (sym c.in_ok-frame_judged.ensures)

pub overflow_add-moved : goal.overflow_add-moved
overflow_add-moved c =
    let h : c.loop-i.i < length c.args.frame.now = omega (arith, c.loop-i.invariant.entries) in
    let low = turned_low c.args.s.now c.args.frame.now c.args.params c.args.memory.now c.loop-i.invariant h in
    let starts : c.part_start-start.result ≡ c.loop-i.i * c.args.s.now.capacity = starts_at c.loop-i.i c.args.s.now.capacity _ low.0 c.part_start-start.ensures in
    let both : length c.loop-i.s.channels ≡ 2 = search rules in
    record { fits = omega (arith, turned_few c.args.s.now c.args.frame.now c.args.params c.args.memory.now c.loop-i.invariant h _ starts both c.part_sample-heard.new.c _ c.args.memory.now c.part_sample-heard.ensures.0) }

pub loop-i-preserved : goal.loop-i-preserved
loop-i-preserved c =
    let h : c.loop-i.i < length c.args.frame.now = omega (arith, c.loop-i.invariant.entries) in
    let low = turned_low c.args.s.now c.args.frame.now c.args.params c.args.memory.now c.loop-i.invariant h in
    let starts : c.part_start-start.result ≡ c.loop-i.i * c.args.s.now.capacity = starts_at c.loop-i.i c.args.s.now.capacity _ low.0 c.part_start-start.ensures in
    let both : length c.loop-i.s.channels ≡ 2 = search rules in
    turned_next c.args.s.now c.args.frame.now c.args.params c.args.memory.now c.loop-i.invariant h _ starts both _ _ _
    c.part_sample-heard.ensures.0 c.part_sample-heard.ensures.1 c.part_sample-heard.ensures.2

pub returns : goal.returns
returns c = (
  c.in_ok-frame_judged.ensures,
  turned_ends c.args.s.now c.args.frame.now c.args.params c.args.memory.now c.loop-i.invariant (omega arith),
  turned_moved c.args.s.now c.args.frame.now c.args.params c.args.memory.now c.loop-i.invariant (omega arith),
)
