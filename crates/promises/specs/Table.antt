-- Document 01's K1 to K10 as one table: a case, and what it gives. Floats are compared by all that they are, so -0 is
-- not 0. Definitions only. Assumes nothing.
use Rattle.std.specs.Prelude.{◌≡◌, ℕ, ◌+◌, false, List, [], ◌∷◌, ◌++◌, pos, negsuc, Float, Result, Ok, Err}
use Rattle.std.proofs.Math.Option.{Option, none, some}
use Rattle.std.specs.Float.{nan, fin}
use Rattle.std.specs.Float.Ieee.{neg}
use Rattle.refusals.specs.declared.Refusal.{Refusal}
use Rattle.walks.specs.Each.{Each}
use Rattle.binary32.specs.Leaves.{as_float}
use Rattle.common_types.specs.declared.Params.{Params}
use Rattle.common_types.specs.declared.Transport.{Transport}
use Rattle.common_types.specs.declared.time_value.TimeValue.{TimeValue}
use Rattle.common_types.specs.declared.time_value.TimeValue.TheVariants.{Samples, Bars}
use Rattle.common_types.specs.declared.time_value.TimeOrRatio.{TimeOrRatio}
use Rattle.common_types.specs.declared.time_value.TimeOrRatio.TheVariants.{Time, WholeBars}
use Rattle.common_types.specs.Times.{as_samples_of}
use Rattle.common_types.specs.Settings.{default_transport, loop_length_of}
use Rattle.volume.specs.declared.Volume.{Volume}
use Rattle.volume.specs.declared.Volume.TheVariants.{Static}
use Rattle.volume.specs.Levels.{toward_of, value_answer}
use Rattle.clip.specs.declared.Clip.{Clip}
use Rattle.clip.specs.declared.Mode.{Mode}
use Rattle.clip.specs.declared.Mode.TheVariants.{Loop, PingPong}
use Rattle.clip.specs.Positions.{sum_of}
use Rattle.clip.specs.declared.Position.{Position}
use Rattle.clip.specs.Updates.{made_of}
use Rattle.clip.specs.Refusals.{offset_of}

-- ---- the cases: a call of a small part, with its arguments
pub data Case : Type 0 where
  offset : (c : Clip) (now : ℕ) → Case
  loop_length_case : (p : Params) (n : ℕ) → Case
  as_samples : (v : TimeValue) (t : Transport) → Case
  to_float : (n : ℕ) → Case
  value : (v : Volume) (now : ℕ) → Case

-- index and fraction together (request 7/12)
abbrev pub of_position : Result Position Refusal → Option Float
of_position (Ok p) = some (sum_of p)
of_position (Err refusal) = none

abbrev pub of_level : Result Float Refusal → Option Float
of_level (Ok x) = some x
of_level (Err refusal) = none

-- what the call answers, and `none` where it is refused
unfoldable pub given : Case → Option Float
given (offset c now) = of_position (offset_of c now)
given (loop_length_case p n) = some (loop_length_of p n)
given (as_samples v t) = some (as_samples_of v t)
given (to_float n) = some (as_float n)
given (value v now) = of_level (value_answer v now)

pub record Row : Type 0 where
  pub case : Case
  pub gives : Float

abbrev pub row_of : Case → Float → Row
row_of c x = record { case = c; gives = x }

-- a case of each time in turn
abbrev pub from : (ℕ → Case) → ℕ → List Float → List Row
from case now [] = []
from case now (x ∷ xs) = row_of (case now) x ∷ from case (now + 1) xs

-- ---- numbers
abbrev pub half : Float
half = fin false 1 (negsuc 0)

abbrev pub minus_one : Float
minus_one = neg (as_float 1)

-- ---- clips: since 0, shift 0, data 10
abbrev pub clip_of : Float → Float → Float → Mode → ℕ → Case
clip_of start speed length mode now = offset (made_of 0 start speed length (as_float 10) mode) now

abbrev pub K1 : List Row
K1 = from (clip_of (as_float 8) (as_float 1) (as_float 4) Loop) 0
    (as_float 8 ∷ as_float 9 ∷ as_float 0 ∷ as_float 1 ∷ as_float 8 ∷ [])

abbrev pub K2 : List Row
K2 = from (clip_of (as_float 8) minus_one (as_float 4) Loop) 0 (as_float 1 ∷ as_float 0 ∷ [])

abbrev pub K3 : List Row
K3 =
    from (clip_of (as_float 0) (as_float 1) (as_float 4) PingPong) 0
    (as_float 0 ∷ as_float 1 ∷ as_float 2 ∷ as_float 3 ∷ as_float 3 ∷ as_float 2 ∷ as_float 1 ∷ as_float 0 ∷ as_float 0 ∷ [])

abbrev pub K4 : List Row
K4 = row_of (clip_of (as_float 0) nan (as_float 4) Loop 0) (as_float 3)
    ∷ row_of (clip_of (as_float 0) nan (as_float 4) PingPong 0) (as_float 0) ∷ []

-- length 1.5
abbrev pub K5 : List Row
K5 = row_of (clip_of (as_float 0) (as_float 1) (fin false 3 (negsuc 0)) Loop 1) half ∷ []

abbrev pub K6 : List Row
K6 = row_of (clip_of (as_float 10) (as_float 1) (as_float 4) Loop 0) (as_float 0) ∷ []

-- ---- lengths, whatever the other parameters p and the data length n are
abbrev pub lasting : Params → Transport → TimeOrRatio → Params
lasting p t length = record {
  attack_samples = p.attack_samples;
  decay_samples = p.decay_samples;
  transport = t;
  loop_length = length;
  speed = p.speed;
  reverse_speed = p.reverse_speed;
  volume = p.volume;
  auto_passthru = p.auto_passthru;
  loop_mode = p.loop_mode;
  note_off_behavior = p.note_off_behavior;
}

abbrev pub timed : Params → Transport → TimeValue → Params
timed p t v = lasting p t (Time v)

abbrev pub K7 : Params → ℕ → List Row
K7 p n = row_of (loop_length_case (timed p p.transport (Samples nan)) n) (as_float 1)
    ∷ row_of (loop_length_case (timed p p.transport (Samples half)) n) (as_float 1) ∷ []

-- and document 02's length kind, 4/12: "88200 samples in K8's transport"
abbrev pub K8 : Params → ℕ → List Row
K8 p n =
    row_of (loop_length_case (timed p default_transport (Bars (as_float 1))) n) (as_float 22050)
    ∷ row_of (as_samples (Bars (as_float 1)) default_transport) (as_float 88200)
    ∷ row_of (loop_length_case (lasting p default_transport (WholeBars (as_float 1))) n) (as_float 88200)
    ∷ []

-- ---- a whole number to a float: 2 ^ 24, and 4194305 times 4
abbrev pub K9 : List Row
K9 = row_of (to_float 16777217) (fin false 1 (pos 24)) ∷ row_of (to_float 16777219) (fin false 4194305 (pos 2)) ∷ []

-- ---- a ramp
abbrev pub rise : Volume
rise = toward_of (Static (as_float 0)) 0 4 (as_float 1)

abbrev pub K10 : List Row
K10 = from (value rise) 0 (as_float 0 ∷ fin false 1 (negsuc 1) ∷ half ∷ fin false 3 (negsuc 1) ∷ as_float 1 ∷ [])

-- ---- the table, and its statement
abbrev pub table : Params → ℕ → List Row
table p n = K1 ++ K2 ++ K3 ++ K4 ++ K5 ++ K6 ++ K7 p n ++ K8 p n ++ K9 ++ K10

abbrev pub Holds : Row → Type 0
Holds r = given r.case ≡ some r.gives

abbrev pub TableHolds : Type 0
TableHolds = (p : Params) (n : ℕ) → Each Holds (table p n)
