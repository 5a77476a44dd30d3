-- The channels of a run of frames (request 3/12). Definitions only. Assumes nothing.
use Rattle.std.specs.Prelude.{ℕ, ◌%◌, cond, ◌==◌}

-- the channel of entry i of a run: it has one channel, or two in turn
unfoldable pub run_seat : ℕ → ℕ → ℕ
run_seat i count = cond (count == 1) 0 (i % 2)
