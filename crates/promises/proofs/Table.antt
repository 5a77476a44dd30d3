-- K1 to K10 of document 01 hold, by computation. Assumes nothing.
use mathlib.Core.Path.{◌≡◌, refl}
use mathlib.Core.List.{List, [], ◌∷◌, map}
use mathlib.Core.Option.{some}
use lib.Ieee.{to_unsigned, of_int, neg, add, sub, mul, div, rem, lt, le, is_nan}
use Rattle.walks.specs.Each.{Each}
use Rattle.binary32.specs.Leaves.{floor_of, min_of, max_of}
use Rattle.common_types.specs.Times.{quarter_notes_per_bar_of, samples_per_quarter_note_of, samples_per_bar_of, as_samples_of}
use Rattle.common_types.specs.Settings.{time_length_of, length_of, loop_length_of}
use Rattle.volume.specs.Levels.{progress_of, level_of, toward_of, good_ramp, good_volume, value_answer}
use Rattle.volume.specs.Levels.{level_refused_at}
use Rattle.clip.specs.Positions.{position_of, sum_of, lead_of, travel_at, looped_of, round_trip_of, mirrored_of, bounced_of, wrapped_of, placed_of, clip_offset_at, clip_to_data_of, offset_at}
use Rattle.clip.specs.Updates.{made_of}
use Rattle.clip.specs.Refusals.{good_length, good_clip, clip_refused_at, offset_of}
use Rattle.promises.specs.Table.{given, Row, table, Holds, TableHolds}

-- rows that compute to what they give
computed : (rows : List Row) → map (λ (r : Row). given r.case) rows ≡ map (λ (r : Row). some r.gives) rows → Each Holds rows
unfolding Each
computed [] h = tt
computed (r ∷ rows) h = (cc, computed rows cc)

pub table_holds : TableHolds
unfolding given position_of sum_of floor_of to_unsigned offset_of clip_refused_at good_clip good_length made_of offset_at clip_to_data_of clip_offset_at placed_of wrapped_of looped_of bounced_of round_trip_of mirrored_of travel_at lead_of loop_length_of length_of time_length_of as_samples_of samples_per_bar_of samples_per_quarter_note_of quarter_notes_per_bar_of value_answer level_refused_at good_volume good_ramp toward_of level_of progress_of min_of max_of of_int neg add sub mul div rem lt le is_nan
table_holds p n = computed (table p n) refl
