-- `process_frame` meets its contract: what stands after i entries, and beside. Assumes nothing.
use Rattle.std.proofs.Common.{rules, ◌≡◌, ◌+◌, ◌*◌, ◌<◌, ℕ, length, refl, sym, subst, ap, ◌∙◌, arith}
use Rattle.std.specs.Prelude.{Result, Err}
use Rattle.refusals.specs.declared.Refusal.{Refusal}
use Rattle.sampler.specs.Refusals.{frame_judged}
use Rattle.sampler.specs.Samplers.{Frames, framed_of, frame_moved}
use Rattle.sampler.proofs.Parts.{starts_at}
use Rattle.lent_sampler.specs.Hearing.{done_in, moved_in}
use Rattle.lent_sampler.proofs.Turned.{refused, none_moved, turned_starts, turned_low, turned_few, turned_next, turned_ends, turned_moved}
use Rattle.plain_sampler.proofs.Flanked.{flanked_starts, flanked_next, flanked_ends, frame_refused, whole_frame}
use Rattle.plain_sampler.proofs.process_frame.Goals as goal

pub returns-in_err-frame_judged : goal.returns-in_err-frame_judged
returns-in_err-frame_judged c =
    let e : c.from_residual.result ≡ Err c.in_err-frame_judged.field-0.0 = search rules in
    let at = c.args in
    let no = sym c.in_err-frame_judged.ensures in (
      subst (λ (r : Result ℕ Refusal). (done_in r ≡ frame_judged at.s.now (length at.frame.now) at.params (length at.memory.now))
          × Frames (framed_of at.s.now at.frame.now at.params at.memory.now) at.s.now at.frame.now at.memory.now
          × (moved_in r ≡ frame_moved at.s.now at.frame.now at.params at.memory.now)) (sym e)
          (c.in_err-frame_judged.ensures, refused at.s.now at.frame.now at.params at.memory.now _ no, none_moved at.s.now at.frame.now at.params at.memory.now _ no),
      frame_refused at.s.now at.frame.now at.params at.memory.now at.k.now _ no,
    )

pub loop-i-init : goal.loop-i-init
loop-i-init c =
    let both : length c.args.k.now.sides ≡ 2 = search rules in
    record {
      turned = turned_starts c.args.s.now c.args.frame.now c.args.params c.args.memory.now (sym c.in_ok-frame_judged.ensures);
      flanked = flanked_starts _ _ _ c.args.s.now c.args.frame.now c.args.memory.now c.args.k.now both;
    }

pub overflow_add-end : goal.overflow_add-end
overflow_add-end c =
    let h : c.loop-i.i < length c.args.frame.now = omega (arith, c.loop-i.invariant.turned.entries) in
    let low = turned_low c.args.s.now c.args.frame.now c.args.params c.args.memory.now c.loop-i.invariant.turned h in
    let starts : c.part_start-start.result ≡ c.loop-i.i * c.args.s.now.capacity = starts_at c.loop-i.i c.args.s.now.capacity _ low.0 c.part_start-start.ensures in
    omega (arith, starts, low.1)

pub offset_bounds-s-i : goal.offset_bounds-s-i
offset_bounds-s-i c =
    let h : c.loop-i.i < length c.args.frame.now = omega (arith, c.loop-i.invariant.turned.entries) in
    let low = turned_low c.args.s.now c.args.frame.now c.args.params c.args.memory.now c.loop-i.invariant.turned h in
    omega (arith, low.0)

pub bounds-s-i : goal.bounds-s-i
bounds-s-i c =
    let h : c.loop-i.i < length c.args.frame.now = omega (arith, c.loop-i.invariant.turned.entries) in
    let low = turned_low c.args.s.now c.args.frame.now c.args.params c.args.memory.now c.loop-i.invariant.turned h in
    omega (arith, low.0)

pub offset_bounds-k-i : goal.offset_bounds-k-i
offset_bounds-k-i c =
    let h : c.loop-i.i < length c.args.frame.now = omega (arith, c.loop-i.invariant.turned.entries) in
    let low = turned_low c.args.s.now c.args.frame.now c.args.params c.args.memory.now c.loop-i.invariant.turned h in
    omega (arith, low.0)

pub bounds-k-i : goal.bounds-k-i
bounds-k-i c =
    let h : c.loop-i.i < length c.args.frame.now = omega (arith, c.loop-i.invariant.turned.entries) in
    let low = turned_low c.args.s.now c.args.frame.now c.args.params c.args.memory.now c.loop-i.invariant.turned h in
    omega (arith, low.0)

pub part_sample-heard-requires : goal.part_sample-heard-requires
part_sample-heard-requires c =
    let h : c.loop-i.i < length c.args.frame.now = omega (arith, c.loop-i.invariant.turned.entries) in
    let low = turned_low c.args.s.now c.args.frame.now c.args.params c.args.memory.now c.loop-i.invariant.turned h in
    let starts : c.part_start-start.result ≡ c.loop-i.i * c.args.s.now.capacity = starts_at c.loop-i.i c.args.s.now.capacity _ low.0 c.part_start-start.ensures in
    (omega arith, omega (arith, starts, low.1))

pub overflow_add-moved : goal.overflow_add-moved
overflow_add-moved c =
    let h : c.loop-i.i < length c.args.frame.now = omega (arith, c.loop-i.invariant.turned.entries) in
    let low = turned_low c.args.s.now c.args.frame.now c.args.params c.args.memory.now c.loop-i.invariant.turned h in
    let starts : c.part_start-start.result ≡ c.loop-i.i * c.args.s.now.capacity = starts_at c.loop-i.i c.args.s.now.capacity _ low.0 c.part_start-start.ensures in
    let two : length c.loop-i.s.channels ≡ 2 = search rules in
    record { fits = omega (arith, turned_few c.args.s.now c.args.frame.now c.args.params c.args.memory.now c.loop-i.invariant.turned h _ starts two c.part_sample-heard.new.c _ c.args.memory.now c.part_sample-heard.ensures.0.0) }

pub loop-i-preserved : goal.loop-i-preserved
loop-i-preserved c =
    let h : c.loop-i.i < length c.args.frame.now = omega (arith, c.loop-i.invariant.turned.entries) in
    let low = turned_low c.args.s.now c.args.frame.now c.args.params c.args.memory.now c.loop-i.invariant.turned h in
    let starts : c.part_start-start.result ≡ c.loop-i.i * c.args.s.now.capacity = starts_at c.loop-i.i c.args.s.now.capacity _ low.0 c.part_start-start.ensures in
    let two : length c.loop-i.s.channels ≡ 2 = search rules in
    let was = c.part_sample-heard.ensures in
    let z = c.loop-i.invariant.turned in
    let begins : c.part_start-start.result ≡ c.loop-i.i * c.loop-i.s.capacity = starts ∙ ap (λ (n : ℕ). c.loop-i.i * n) (sym z.capacity) in
    let ends : c.part_start-start.result + c.args.s.now.capacity ≡ c.part_start-start.result + c.loop-i.s.capacity = ap (λ (n : ℕ). c.part_start-start.result + n) (sym z.capacity) in
    record {
      turned = turned_next c.args.s.now c.args.frame.now c.args.params c.args.memory.now z h _ starts two _ _ _ was.0.0 was.0.1 was.0.2;
      flanked = flanked_next _ _ _ _ _ c.loop-i.invariant.flanked h c.loop-i.i refl low.0 _ _ begins ends (omega (arith, h, z.entries)) two _ _ _ _ _ was.0.0 was.0.1 was.0.2 was.1;
    }

pub returns : goal.returns
returns c =
    let z = c.loop-i.invariant in
    let e : c.loop-i.i ≡ length c.args.frame.now = omega arith in (
      (
        c.in_ok-frame_judged.ensures,
        turned_ends c.args.s.now c.args.frame.now c.args.params c.args.memory.now z.turned (omega (arith, e)),
        turned_moved c.args.s.now c.args.frame.now c.args.params c.args.memory.now z.turned (omega (arith, e)),
      ),
      flanked_ends _ _ _ _ _ _ _ _ _ _ z.flanked e ∙ whole_frame c.args.s.now c.args.frame.now c.args.params c.args.memory.now c.args.k.now (sym c.in_ok-frame_judged.ensures),
    )
