-- `Sampler::gathered` meets its contract, by the laws of `Gathers`. Assumes nothing.
use mathlib.Core.Path.{ap}
use mathlib.Core.Bool.{false}
use Rattle.walks.proofs.Lists.Loops.{get_d_any}
use Rattle.channel.specs.Channels.{channel_of}
use Rattle.sampler.specs.Samplers.{Gathered}
use Rattle.sampler.proofs.Seats.{none}
use Rattle.sampler.proofs.Parts.{starts_at}
use Rattle.sampler.proofs.Gathers.{gathering_starts, gathering_low, gathering_room, gathering_on, gathering_ends}
use borrow.Author.Rules.{rules}
use native.Mathlib.Omega.{arith}
use Rattle.sampler.proofs.Sampler.gathered.Goals as goal

pub loop-j-init : goal.loop-j-init
loop-j-init c = gathering_starts c.args.self c.args.memory.now (search rules) c.requires

pub offset_bounds-self-j : goal.offset_bounds-self-j
offset_bounds-self-j c = let low = gathering_low c.loop-j.invariant c.loop-j-test.true in search rules

pub bounds-self-j : goal.bounds-self-j
bounds-self-j c = let low = gathering_low c.loop-j.invariant c.loop-j-test.true in search rules

pub overflow_add-end : goal.overflow_add-end
overflow_add-end c =
    let room = gathering_room c.loop-j.invariant c.loop-j-test.true in
    let starts = starts_at _ _ _ (gathering_low c.loop-j.invariant c.loop-j-test.true) c.part_start-start.ensures in
    let whole = c.loop-j.invariant.whole in
    search rules

pub offset_bounds-memory-start : goal.offset_bounds-memory-start
offset_bounds-memory-start c =
    let room = gathering_room c.loop-j.invariant c.loop-j-test.true in
    let starts = starts_at _ _ _ (gathering_low c.loop-j.invariant c.loop-j-test.true) c.part_start-start.ensures in
    let whole = c.loop-j.invariant.whole in
    search rules

pub slice_bounds-gathered-end : goal.slice_bounds-gathered-end
slice_bounds-gathered-end c =
    let room = gathering_room c.loop-j.invariant c.loop-j-test.true in
    let starts = starts_at _ _ _ (gathering_low c.loop-j.invariant c.loop-j-test.true) c.part_start-start.ensures in
    let whole = c.loop-j.invariant.whole in
    search rules

pub offset_bounds-self-j-in-loop-j : goal.offset_bounds-self-j-in-loop-j
offset_bounds-self-j-in-loop-j c = let low = gathering_low c.loop-j.invariant c.loop-j-test.true in search rules

pub bounds-self-j-in-loop-j : goal.bounds-self-j-in-loop-j
bounds-self-j-in-loop-j c = let low = gathering_low c.loop-j.invariant c.loop-j-test.true in search rules

pub loop-j-preserved : goal.loop-j-preserved
loop-j-preserved c =
    let h = c.loop-j-test.true in
    let f = c.loop-j.invariant in
    let r = c.gathered in
    let is = get_d_any c.loop-j.self.channels c.loop-j.j none (channel_of (record { auto_passthru = false })) (omega (arith, gathering_low f h, f.seats)) in
    gathering_on f h _ (starts_at _ _ _ (gathering_low f h) c.part_start-start.ensures) _ r.new.data _ is r.ensures.value r.ensures.data_after r.auto.data

pub shape_of-memory : goal.shape_of-memory
shape_of-memory c = c.loop-j.invariant.whole

pub returns : goal.returns
returns c =
    let e = gathering_ends c.loop-j.invariant c.loop-j-test.false in
    record { value = ap (λ (g : Gathered). g.sampler) e; memory_after = ap (λ (g : Gathered). g.memory) e }
