-- `time_length` meets its contract: each arm is its case of the definition. Assumes nothing.
use lib.Ieee.{of_bits, of_int}
use Rattle.common_types.specs.Times.{quarter_notes_per_bar_of, samples_per_bar_of, as_samples_of}
use Rattle.common_types.specs.Settings.{time_length_of, worked_of}
use Rattle.common_types.proofs.time_length.Goals as goal

pub returns-in-Samples : goal.returns-in-Samples
unfolding worked_of time_length_of
returns-in-Samples c = simp c.in-Samples.is

pub returns-in-Seconds : goal.returns-in-Seconds
unfolding worked_of time_length_of
returns-in-Seconds c = simp c.in-Seconds.is

pub returns-in-QuarterNotes : goal.returns-in-QuarterNotes
unfolding worked_of time_length_of
returns-in-QuarterNotes c = simp (c.calc_samples_per_quarter_note.ensures, c.in-QuarterNotes.is)

pub returns-then-whole : goal.returns-then-whole
unfolding worked_of as_samples_of samples_per_bar_of quarter_notes_per_bar_of of_bits of_int
returns-then-whole c =
    simp (
      c.calc_samples_per_quarter_note-then-whole.ensures,
      c.if-whole.true,
      c.u32_to_f32-denominator.ensures,
      c.u32_to_f32-numerator.ensures,
      c.in-Bars.is,
    )

pub returns-else-whole : goal.returns-else-whole
unfolding worked_of time_length_of
returns-else-whole c =
    simp (
      c.calc_samples_per_quarter_note-else-whole.ensures,
      c.if-whole.false,
      c.u32_to_f32-denominator.ensures,
      c.u32_to_f32-numerator.ensures,
      c.in-Bars.is,
    )
