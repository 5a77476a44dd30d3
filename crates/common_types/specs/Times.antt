-- Lengths of time in samples (document 01, module 2). Every operation is binary32's, rounded, in the order in which it
-- is written here. Definitions only. Assumes nothing.
use Rattle.std.specs.Prelude.{Float}
use Rattle.std.specs.Float.{binary32}
use Rattle.std.specs.Float.Ieee.{mul, div}
use Rattle.binary32.specs.Leaves.{as_float}
use Rattle.common_types.specs.declared.Transport.{Transport}
use Rattle.common_types.specs.declared.time_value.TimeUnit.{TimeUnit}
use Rattle.common_types.specs.declared.time_value.TimeUnit.TheVariants as unit
use Rattle.common_types.specs.declared.time_value.TimeValue.{TimeValue}
use Rattle.common_types.specs.declared.time_value.TimeValue.TheVariants.{QuarterNotes, Samples, Seconds, Bars}

-- a sixteenth is a quarter note divided by 4
unfoldable pub from_unit_value_of : TimeUnit → Float → TimeValue
from_unit_value_of unit.SixteenthNotes x = QuarterNotes (div binary32 x (as_float 4))
from_unit_value_of unit.QuarterNotes x = QuarterNotes x
from_unit_value_of unit.Seconds x = Seconds x
from_unit_value_of unit.Samples x = Samples x
from_unit_value_of unit.Bars x = Bars x

-- numerator / denominator * 4
unfoldable pub quarter_notes_per_bar_of : Transport → Float
quarter_notes_per_bar_of t =
    mul binary32 (div binary32 (as_float t.time_sig_numerator) (as_float t.time_sig_denominator)) (as_float 4)

-- rate * 60 / tempo
unfoldable pub samples_per_quarter_note_of : Transport → Float
samples_per_quarter_note_of t = div binary32 (mul binary32 t.sample_rate (as_float 60)) t.tempo

unfoldable pub samples_per_bar_of : Transport → Float
samples_per_bar_of t = mul binary32 (samples_per_quarter_note_of t) (quarter_notes_per_bar_of t)

unfoldable pub as_samples_of : TimeValue → Transport → Float
as_samples_of (QuarterNotes x) t = mul binary32 (samples_per_quarter_note_of t) x
as_samples_of (Samples x) t = x
as_samples_of (Seconds x) t = mul binary32 x t.sample_rate
as_samples_of (Bars x) t = mul binary32 (samples_per_bar_of t) x
