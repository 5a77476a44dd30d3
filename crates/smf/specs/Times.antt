-- When an event of a track happens, over whole numbers: a division without bit 15 is the number of ticks "which make up
-- a quarter-note", a tempo the microseconds of one. Definitions only.
use Rattle.std.specs.Prelude.{cond, ℕ, ◌+◌, ◌*◌, ◌/◌, ◌%◌, ◌^◌, leb}
use Rattle.smf.specs.declared.clock.Clock.{Clock}

-- where a file has none, "the tempo 120 beats per minute"
abbrev pub first_tempo : ℕ
first_tempo = 500000

-- ---- A delta-time of d ticks at a tempo t lasts d * t / division microseconds. The sum of all d * t, and the rate,
-- are
-- whole numbers, and so one division, rounded down, gives the frame

-- ticks times microseconds in a second
abbrev pub unit_of : ℕ → ℕ
unit_of division = division * 10 ^ 6

unfoldable pub frame_at : ℕ → ℕ → ℕ → ℕ
frame_at rate division sum = rate * sum / unit_of division

-- the last count that a start or a stop may have
abbrev pub last_frame : ℕ
last_frame = 2 ^ 48

-- ---- the same in numbers of 64 bits: whole frames, and what is over of the next one; past the last frame there is one
-- clock for all

unfoldable pub clock_at : ℕ → ℕ → Clock
clock_at unit total =
    cond (leb (total / unit) last_frame) (record { frames = total / unit; rest = total % unit })
    (record { frames = last_frame + 1; rest = 0 })
