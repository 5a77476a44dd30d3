-- `gather` meets its contract: what stands after j turns. Assumes nothing.
use Rattle.std.proofs.Common.{rules, ◌≡◌, ◌<◌, ◌*◌, length, sym, subst, arith}
use Rattle.std.specs.Prelude.{Result, Err}
use Rattle.refusals.specs.declared.Refusal.{Refusal}
use Rattle.sampler.specs.Samplers.{gather_of, gather_memory}
use Rattle.sampler.proofs.Parts.{starts_at}
use Rattle.lent_sampler.proofs.Gathers.{refused, turned_starts, turned_low, turned_on, turned_ends}
use Rattle.lent_sampler.proofs.gather.Goals as goal

pub returns-in_err-gather_judged : goal.returns-in_err-gather_judged
returns-in_err-gather_judged c =
    let e : c.from_residual.result ≡ Err c.in_err-gather_judged.field-0.0 = search rules in
    subst (λ (d : Result (Unit {0}) Refusal). (record { sampler = c.args.s.now; done = d } ≡ gather_of c.args.s.now c.args.memory.now) × (c.args.memory.now ≡ gather_memory c.args.s.now c.args.memory.now)) (sym e)
    (refused c.args.s.now c.args.memory.now _ (sym c.in_err-gather_judged.ensures))

pub loop-j-init : goal.loop-j-init
loop-j-init c = turned_starts c.args.s.now c.args.memory.now (sym c.in_ok-gather_judged.ensures)

pub loop-j-preserved : goal.loop-j-preserved
loop-j-preserved c =
    let h : c.loop-j.j < c.args.s.now.count = omega arith in
    let low = turned_low c.args.s.now c.args.memory.now c.loop-j.invariant h in
    let both : length c.loop-j.s.channels ≡ 2 = search rules in
    turned_on c.args.s.now c.args.memory.now c.loop-j.invariant h both _ (starts_at c.loop-j.j c.args.s.now.capacity _ low.0 c.part_start-start.ensures) _ _
    c.gather.ensures.0 c.gather.ensures.1 c.gather.auto.memory

pub returns : goal.returns
returns c = turned_ends c.args.s.now c.args.memory.now c.loop-j.invariant (omega arith)
