-- `process_sample` meets its contract: what a sample leaves, refused or not, and what stands beside. Assumes nothing.
use Rattle.std.proofs.Common.{rules, ◌≡◌, ◌*◌, length, sym, subst, ap, arith}
use Rattle.std.specs.Prelude.{Result, Ok, Err}
use Rattle.refusals.specs.declared.Refusal.{Refusal}
use Rattle.refusals.specs.Refusals.{code_of}
use Rattle.lent_channel.specs.declared.Heard.{Heard}
use Rattle.sampler.specs.Refusals.{sample_judged}
use Rattle.sampler.proofs.Rows.{sample_ready}
use Rattle.sampler.proofs.Parts.{starts_at}
use Rattle.lent_sampler.proofs.Singles.{Leaves, is_refused, sample_so}
use Rattle.plain_sampler.proofs.Beside.{beside_refused, beside_played}
use Rattle.plain_sampler.proofs.process_sample.Goals as goal

pub returns-in_err-sample_judged : goal.returns-in_err-sample_judged
returns-in_err-sample_judged c =
    let e : c.from_residual.result ≡ Err c.in_err-sample_judged.field-0.0 = search rules in
    let no = sym c.in_err-sample_judged.ensures in (
      subst (λ (r : Result Heard Refusal). Leaves c.args.s.now c.args.channel c.args.input c.args.params c.args.memory.now r c.args.s.now c.args.memory.now) (sym e)
          (is_refused c.args.s.now c.args.channel c.args.input c.args.params c.args.memory.now _ no),
      beside_refused c.args.s.now c.args.k.now c.args.channel c.args.input c.args.params c.args.memory.now _ no,
    )

pub overflow_add-end : goal.overflow_add-end
overflow_add-end c =
    let ready = sample_ready c.args.s.now c.args.channel c.args.params (length c.args.memory.now) (ap code_of (sym c.in_ok-sample_judged.ensures)) in
    let starts : c.part_start-start.result ≡ c.args.channel * c.args.s.now.capacity = starts_at c.args.channel c.args.s.now.capacity _ ready.below c.part_start-start.ensures in
    omega (arith, starts, ready.part)

pub offset_bounds-s-channel : goal.offset_bounds-s-channel
offset_bounds-s-channel c =
    let ready = sample_ready c.args.s.now c.args.channel c.args.params (length c.args.memory.now) (ap code_of (sym c.in_ok-sample_judged.ensures)) in
    omega (arith, ready.below)

pub bounds-s-channel : goal.bounds-s-channel
bounds-s-channel c =
    (sample_ready c.args.s.now c.args.channel c.args.params (length c.args.memory.now) (ap code_of (sym c.in_ok-sample_judged.ensures))).below

pub offset_bounds-k-channel : goal.offset_bounds-k-channel
offset_bounds-k-channel c =
    let ready = sample_ready c.args.s.now c.args.channel c.args.params (length c.args.memory.now) (ap code_of (sym c.in_ok-sample_judged.ensures)) in
    omega (arith, ready.below)

pub bounds-k-channel : goal.bounds-k-channel
bounds-k-channel c =
    (sample_ready c.args.s.now c.args.channel c.args.params (length c.args.memory.now) (ap code_of (sym c.in_ok-sample_judged.ensures))).below

pub part_sample-requires : goal.part_sample-requires
part_sample-requires c =
    let ready = sample_ready c.args.s.now c.args.channel c.args.params (length c.args.memory.now) (ap code_of (sym c.in_ok-sample_judged.ensures)) in
    let starts : c.part_start-start.result ≡ c.args.channel * c.args.s.now.capacity = starts_at c.args.channel c.args.s.now.capacity _ ready.below c.part_start-start.ensures in
    (omega arith, omega (arith, starts, ready.part))

pub returns : goal.returns
returns c =
    let accepted : sample_judged c.args.s.now c.args.channel c.args.params (length c.args.memory.now) ≡ Ok tt = sym c.in_ok-sample_judged.ensures in
    let ready = sample_ready c.args.s.now c.args.channel c.args.params (length c.args.memory.now) (ap code_of accepted) in
    let starts : c.part_start-start.result ≡ c.args.channel * c.args.s.now.capacity = starts_at c.args.channel c.args.s.now.capacity _ ready.below c.part_start-start.ensures in
    let two : length c.args.s.now.channels ≡ 2 = search rules in
    let both : length c.args.k.now.sides ≡ 2 = search rules in
    let was = c.part_sample.ensures in (
      sample_so c.args.s.now c.args.channel c.args.input c.args.params c.args.memory.now accepted _ starts two _ _ _ was.0.0 was.0.1 was.0.2,
      beside_played c.args.s.now c.args.k.now c.args.channel c.args.input c.args.params c.args.memory.now accepted _ starts ready.below two both _ _ was.1,
    )
