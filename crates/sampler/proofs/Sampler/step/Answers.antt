-- `Sampler::step` meets its contract: the call on the part is the call on the whole, by the laws of `Parts`. Assumes nothing.
use mathlib.Core.Path.{refl}
use mathlib.Core.Bool.{false}
use Rattle.channel.specs.Channels.{channel_of}
use Rattle.walks.proofs.Lists.Loops.{get_d_any}
use Rattle.sampler.proofs.Seats.{none}
use Rattle.sampler.proofs.Parts.{starts_at, stepped_is, output-is, moved_is, memory_is}
use borrow.Author.Rules.{rules}
use native.Mathlib.Omega.{arith}
use Rattle.sampler.proofs.Sampler.step.Goals as goal

pub overflow_add-end : goal.overflow_add-end
overflow_add-end c = let starts = starts_at _ _ _ c.requires.below c.part_start-start.ensures in search rules

pub offset_bounds-memory-start : goal.offset_bounds-memory-start
offset_bounds-memory-start c = let starts = starts_at _ _ _ c.requires.below c.part_start-start.ensures in search rules

pub slice_bounds-with_sample-end : goal.slice_bounds-with_sample-end
slice_bounds-with_sample-end c = let starts = starts_at _ _ _ c.requires.below c.part_start-start.ensures in search rules

pub returns : goal.returns
returns c =
    let s = c.args.self in
    let j = c.args.j in
    let is = get_d_any s.channels j none (channel_of (record { auto_passthru = false })) (omega (arith, c.requires.below, c.well_formed.0.1.1.0.1.0.1)) in
    let r = c.with_sample-played.ensures in
    let a = starts_at j s.capacity _ c.requires.below c.part_start-start.ensures in record {
      sampler_value = stepped_is s j _ _ c.args.memory.now a refl c.args.params c.args.input _ is _ r.value;
      output_value = output-is s j _ _ c.args.memory.now a refl c.args.params c.args.input _ is _ r.value;
      moved_value = moved_is s j _ _ c.args.memory.now a refl c.args.params c.args.input _ is _ r.value;
      moved_bound = r.moved_bound;
      memory_after = memory_is s j _ _ c.args.memory.now a refl c.args.input _ _ is r.data_after;
    }
