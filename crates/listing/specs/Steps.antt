-- What a good record does to the engine and which line it prints, and what opens, goes on with and ends a listing
-- (document 01, "The event listing"). Definitions only.
use Rattle.std.specs.Prelude.{Ok, ℕ, ◌+◌, ◌-◌, ◌*◌, ◌^◌, min, true, false, cond, Option, Some, None, List, [], ◌∷◌, eqb, length, Float}
use Rattle.common_types.specs.declared.Params.{Params}
use Rattle.common_types.specs.Settings.{default_params, beyond_limits}
use Rattle.decimal.specs.declared.Line.{Line}
use Rattle.decimal.specs.Lines.{line_of}
use Rattle.sampler.specs.declared.Sampler.{Sampler}
use Rattle.sampler.specs.declared.Answer.{Answer}
use Rattle.refusals.specs.declared.Refusal.TheVariants.{BeyondLimits}
use Rattle.refusals.specs.Refusals.{code_of, row}
use Rattle.sampler.specs.Refusals.{channel_at, frame_number}
use Rattle.sampler.specs.Samplers.{
  set_up_of,
  start_playing_of,
  stop_playing_of,
  set_note_speed_of,
  start_recording_of,
  stop_recording_of,
  reset_of,
  Framed,
  framed_of,
}
use Rattle.listing.specs.Lines.{answer_line, frame_line, bad_line}
use Rattle.listing.specs.Records.{channel_count, header_of, record_of}
use Rattle.listing.specs.declared.records.Header.{Header}
use Rattle.listing.specs.declared.records.Call.{Call}
use Rattle.listing.specs.declared.records.Call.TheVariants.{
  Parameters,
  Start,
  Stop,
  Speed,
  StartRecording,
  StopRecording,
  Mono,
  Stereo,
  Reset,
}
use Rattle.listing.specs.declared.player.Player.{Player}
use Rattle.listing.specs.declared.player.Played.{Played}
use Rattle.listing.specs.declared.Listing.{Listing}
use Rattle.listing.specs.declared.Step.{Step}

-- channel 0's clock and voice count
unfoldable pub clock_of : Sampler → ℕ
clock_of s = (channel_at s 0).head.now

unfoldable pub voices_of : Sampler → ℕ
voices_of s = (channel_at s 0).count

-- ---- one call

-- a call of the engine that answers a number
unfoldable pub answer_played : ℕ → Params → Answer → Played
answer_played kind p
    a = record { player = record { sampler = a.sampler; params = p }; line = line_of (answer_line kind (code_of a.done)) }

-- parameters that row 4 refuses leave the old ones
unfoldable pub settings_of : Player → Params → Played
settings_of y p =
    answer_played 0 (cond (beyond_limits p) y.params p)
    (record { sampler = y.sampler; done = row (beyond_limits p) BeyondLimits (Ok tt) })

abbrev pub framed_by : Player → List Float → List ℕ → Framed
framed_by y inputs m = framed_of y.sampler inputs y.params m

-- a frame prints the clock before it, its outputs and the voice count after it; a refused one prints its number
unfoldable pub frame_of : Player → List Float → List ℕ → Played
frame_of y inputs m =
    let f = framed_by y inputs m in
    let number = frame_number y.sampler (length inputs) y.params (length m) in
    record {
      player = record { sampler = f.sampler; params = y.params };
      line = line_of
          (cond (eqb number 0) (frame_line (clock_of y.sampler) f.frame (voices_of f.sampler))
          (answer_line 6 number));
    }

unfoldable pub call_played : Player → Call → List ℕ → Played
call_played y (Parameters p) m = settings_of y p
call_played y (Start note position velocity) m = answer_played 1 y.params
    (start_playing_of y.sampler position note velocity y.params)
call_played y (Stop note) m = answer_played 2 y.params (stop_playing_of y.sampler note y.params)
call_played y (Speed note speed) m = answer_played 3 y.params (set_note_speed_of y.sampler note speed)
call_played y StartRecording m = answer_played 4 y.params (start_recording_of y.sampler)
call_played y StopRecording m = answer_played 5 y.params (stop_recording_of y.sampler)
call_played y (Mono input) m = frame_of y (input ∷ []) m
call_played y (Stereo first second) m = frame_of y (first ∷ second ∷ []) m
call_played y Reset m = answer_played 7 y.params (reset_of y.sampler)

-- the sample memory afterwards: only a frame changes it
unfoldable pub memory_after : Player → Call → List ℕ → List ℕ
memory_after y (Parameters p) m = m
memory_after y (Start note position velocity) m = m
memory_after y (Stop note) m = m
memory_after y (Speed note speed) m = m
memory_after y StartRecording m = m
memory_after y StopRecording m = m
memory_after y (Mono input) m = (framed_by y (input ∷ []) m).memory
memory_after y (Stereo first second) m = (framed_by y (first ∷ second ∷ []) m).memory
memory_after y Reset m = m

-- ---- a listing

-- set up with 4,096 samples a channel, and the Rust's default parameters
unfoldable pub player_of : Header → ℕ → Player
player_of h size = record {
  sampler = (set_up_of (channel_count h) (record { auto_passthru = h.auto_passthru })
      (min size (channel_count h * 4096))).sampler;
  params = default_params;
}

-- bytes read so far; no input reaches the last count
unfoldable pub later_by : ℕ → ℕ → ℕ
later_by n offset = min (offset + n) (2 ^ 64 - 1)

-- what stands in the place of a bad header
abbrev pub no_header : Header
no_header = record { second = false; stereo = false; auto_passthru = false }

-- after a good header a listing is on; a bad one is answered and ends it. `size` is the length of the lent memory
unfoldable pub opened_of : Option Header → ℕ → Step
opened_of (Some h)
    size = record { listing = record { header = h; player = player_of h size; offset = 3; on = true }; line = line_of [] }
opened_of None size = record {
  listing = record { header = no_header; player = player_of no_header size; offset = 0; on = false };
  line = line_of (bad_line 0);
}

abbrev pub open_of : List ℕ → ℕ → Step
open_of b size = opened_of (header_of b) size

-- over, with a last line
abbrev pub over_with : Listing → Line → Step
over_with l line =
    record { listing = record { header = l.header; player = l.player; offset = l.offset; on = false }; line = line }

-- the next record; where there is none, the end
unfoldable pub record_step : Listing → List ℕ → List ℕ → Step
record_step l r m = cond (eqb (length r) 0) (over_with l (line_of [])) (elim (record_of l.header r) [
  | Some call ↦
      let played = call_played l.player call m in
      record {
        listing =
            record { header = l.header; player = played.player; offset = later_by (length r) l.offset; on = true };
        line = played.line;
      }
  | None ↦ over_with l (line_of (bad_line l.offset))
])

unfoldable pub step_memory : Listing → List ℕ → List ℕ → List ℕ
step_memory l r m = cond (eqb (length r) 0) m (elim (record_of l.header r) [
  | Some call ↦ memory_after l.player call m
  | None ↦ m
])
