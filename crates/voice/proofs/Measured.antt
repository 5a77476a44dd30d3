-- What depends on the recording, by the measure of the parameters' loop length, is what it is by the length. Assumes
-- nothing.
use mathlib.Core.Path.{◌≡◌, sym, ap, ◌∙◌}
use Prim.Native.Nat.{ℕ}
use lib.Ieee.{Float}
use Rattle.binary32.specs.Leaves.{as_float, floor_of}
use Rattle.common_types.specs.declared.Params.{Params}
use Rattle.common_types.specs.declared.Measure.{Measure}
use Rattle.common_types.specs.Settings.{loop_length_of, measure_of, measured_of}
use Rattle.common_types.proofs.LoopLengths.{loop_length_measured}
use Rattle.voice.specs.declared.Span.{Span}
use Rattle.voice.specs.declared.Moment.{Moment}
use Rattle.voice.specs.Voices.{span_of, span_by, tick_with, tick_of}

pub span_measured : (p : Params) (m : Measure) → m ≡ measure_of p → (n : ℕ) → span_by m n ≡ span_of p n
unfolding span_of span_by
span_measured p m e n =
    let same : measured_of m (as_float n) ≡ loop_length_of p n = ap (λ (k : Measure). measured_of k (as_float n)) e ∙ sym (loop_length_measured p n) in
    ap (λ (x : Float). record { length = x; whole_length = floor_of x; data_length = as_float n }) same

-- and so is the tick
pub tick_measured : (p : Params) (m : Measure) → m ≡ measure_of p → (at : Moment) → tick_with (span_by m at.data_len) p at ≡ tick_of p at
unfolding tick_of
tick_measured p m e at = ap (λ (s : Span). tick_with s p at) (span_measured p m e at.data_len)
