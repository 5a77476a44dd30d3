-- `TimeValue::from_unit_value` meets its contract: each arm is its case of the definition. Assumes nothing.
use lib.Ieee.{of_bits, of_int}
use Rattle.common_types.specs.Times.{from_unit_value_of}
use Rattle.common_types.proofs.time_value.TimeValue.from_unit_value.Goals as goal

pub returns-in-SixteenthNotes : goal.returns-in-SixteenthNotes
unfolding from_unit_value_of of_bits of_int
returns-in-SixteenthNotes c = simp c.in-SixteenthNotes.is

pub returns-in-QuarterNotes : goal.returns-in-QuarterNotes
unfolding from_unit_value_of
returns-in-QuarterNotes c = simp c.in-QuarterNotes.is

pub returns-in-Seconds : goal.returns-in-Seconds
unfolding from_unit_value_of
returns-in-Seconds c = simp c.in-Seconds.is

pub returns-in-Samples : goal.returns-in-Samples
unfolding from_unit_value_of
returns-in-Samples c = simp c.in-Samples.is

pub returns-in-Bars : goal.returns-in-Bars
unfolding from_unit_value_of
returns-in-Bars c = simp c.in-Bars.is
