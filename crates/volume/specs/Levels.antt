-- What a volume reads at a time, how it changes, and when its parts are refused (document 01, module 3 and number 7). A
-- volume is steady, `Static level`, or a ramp between two times and two levels, `Linear start end from target`.
-- Definitions only. Assumes nothing.
use Rattle.std.specs.Prelude.{ℕ, ◌+◌, ◌-◌, ◌^◌, min, Bool, true, false, not, ◌&&◌, ◌||◌, cond, leb, ltb, eqb, pos, Float, Result, Ok}
use Rattle.std.specs.Float.{fin, binary32}
use Rattle.std.specs.Float.Ieee.{add, sub, mul, div, eq}
use Rattle.binary32.specs.Leaves.{as_float, min_of, max_of}
use Rattle.refusals.specs.declared.Refusal.{Refusal}
use Rattle.refusals.specs.declared.Refusal.TheVariants.{BadArgument}
use Rattle.refusals.specs.Refusals.{row}
use Rattle.volume.specs.declared.Volume.{Volume}
use Rattle.volume.specs.declared.Volume.TheVariants.{Static, Linear}
use Rattle.volume.specs.declared.Held.{Held}

-- the Rust's default
abbrev pub default_volume : Volume
default_volume = Static (as_float 1)

-- ---- queries
abbrev pub is_static_of : Volume → Bool
is_static_of (Static x) = true
is_static_of (Linear a b x y) = false

-- steady, and equal to 0: -0 is
abbrev pub is_static_and_mute_of : Volume → Bool
is_static_and_mute_of (Static x) = eq x (fin false 0 (pos 0))
is_static_and_mute_of (Linear a b x y) = false

-- ---- the level at a time

-- how far a ramp is, held within 0 and 1: elapsed over duration, both as binary32
unfoldable pub progress_of : ℕ → ℕ → ℕ → Float
progress_of a b now =
    min_of (max_of (div binary32 (as_float (now - a)) (as_float (b - a))) (fin false 0 (pos 0))) (fin false 1 (pos 0))

unfoldable pub level_of : Volume → ℕ → Float
level_of (Static x) now = x
level_of (Linear a b x y) now = add binary32 x (mul binary32 (sub binary32 y x) (progress_of a b now))

-- ---- changes

-- a time that many samples later, at most the last that a machine word holds
abbrev pub time_after : ℕ → ℕ → ℕ
time_after now duration = min (now + duration) (2 ^ 64 - 1)

-- steady at the target at once, or a ramp from the level now
unfoldable pub toward_of : Volume → ℕ → ℕ → Float → Volume
toward_of v now duration target =
    cond (eqb duration 0) (Static target) (Linear now (time_after now duration) (level_of v now) target)

-- a ramp is steady at its last level from its end on
unfoldable pub stepped_of : Volume → ℕ → Volume
stepped_of (Static x) now = Static x
stepped_of (Linear a b x y) now = cond (leb b now) (Static y) (Linear a b x y)

-- whether that step changes nothing: it is steady, or its ramp isn't over yet
unfoldable pub keeps_of : Volume → ℕ → Bool
keeps_of (Static x) now = true
keeps_of (Linear a b x y) now = ltb now b

-- the level and that at once
abbrev pub held_of : Volume → ℕ → Held
held_of v now = record { level = level_of v now; keeps = keeps_of v now }

-- ---- refusals

-- A ramp from a to b is good at a time that it has reached, if it is not empty and at most 2 ^ 24 samples long.
unfoldable pub good_ramp : ℕ → ℕ → ℕ → Bool
good_ramp a b now = ltb a b && leb (b - a) (2 ^ 24) && leb a now

unfoldable pub good_volume : ℕ → Volume → Bool
good_volume now (Static x) = true
good_volume now (Linear a b x y) = good_ramp a b now

-- Number 7: a time above 2 ^ 48, or a volume that is not good at it.
unfoldable pub level_refused_at : Volume → ℕ → Bool
level_refused_at v now = ltb (2 ^ 48) now || not (good_volume now v)

unfoldable pub value_answer : Volume → ℕ → Result Float Refusal
value_answer v now = row (level_refused_at v now) BadArgument (Ok (level_of v now))

-- and a duration above 2 ^ 24
unfoldable pub to_of : Volume → ℕ → ℕ → Float → Result Volume Refusal
to_of v now duration target =
    row (level_refused_at v now || ltb (2 ^ 24) duration) BadArgument (Ok (toward_of v now duration target))

unfoldable pub step_answer : Volume → ℕ → Result Volume Refusal
step_answer v now = row (level_refused_at v now) BadArgument (Ok (stepped_of v now))
