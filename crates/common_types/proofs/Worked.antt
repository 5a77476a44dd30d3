-- A length that is no ratio, worked out from its time, and whether its bars are whole. Assumes nothing.
use mathlib.Core.Path.{◌≡◌, refl}
use Prim.Native.Nat.{ℕ}
use lib.IntN.{pos}
use lib.Ieee.{Float, fin, lt}
use mathlib.Core.Bool.{false}
use Rattle.common_types.specs.declared.Transport.{Transport}
use Rattle.common_types.specs.declared.time_value.TimeValue.TheVariants.{QuarterNotes, Samples, Seconds, Bars}
use Rattle.common_types.specs.declared.time_value.TimeOrRatio.{TimeOrRatio}
use Rattle.common_types.specs.declared.time_value.TimeOrRatio.TheVariants.{Time, Ratio, WholeBars}
use Rattle.common_types.specs.Settings.{time_in, is_whole, worked_of, length_of, length_beyond}

pub worked_length : (l : TimeOrRatio) (t : Transport) (n : ℕ) → ((x : Float) → l ≡ Ratio x → ⊥) → worked_of (time_in l) (is_whole l) t ≡ length_of l t n
unfolding worked_of length_of
worked_length (Time (QuarterNotes x)) t n k = refl
worked_length (Time (Samples x)) t n k = refl
worked_length (Time (Seconds x)) t n k = refl
worked_length (Time (Bars x)) t n k = refl
worked_length (Ratio r) t n k = absurd (k r refl)
worked_length (WholeBars x) t n k = refl

pub worked_beyond : (l : TimeOrRatio) (t : Transport) → ((x : Float) → l ≡ Ratio x → ⊥) → lt (fin false 1 (pos 22)) (worked_of (time_in l) (is_whole l) t) ≡ length_beyond l t
unfolding worked_of length_beyond
worked_beyond (Time (QuarterNotes x)) t k = refl
worked_beyond (Time (Samples x)) t k = refl
worked_beyond (Time (Seconds x)) t k = refl
worked_beyond (Time (Bars x)) t k = refl
worked_beyond (Ratio r) t k = absurd (k r refl)
worked_beyond (WholeBars x) t k = refl
