-- The edges of module 5, computed. Assumes nothing.
use mathlib.Core.Path.{◌≡◌, refl}
use mathlib.Core.List.{[], ◌∷◌}
use lib.ListN.{length}
use Rattle.recorder.specs.declared.State.TheVariants.{Triggered, Idle}
use Rattle.decimal.specs.Decimal.{digits, decimal}
use Rattle.decimal.specs.Lines.{bytes}
use Rattle.recorder.specs.ErrorText.{error_text}
use Rattle.recorder.specs.Recording.{raised, in_state, skipped_of, new_recorder_of, start_of, stop_of, recorded_of, data_after}

no_errors : error_text new_recorder_of ≡ bytes "skip: 0, neg: 0, inc: 0"
unfolding error_text bytes decimal digits
no_errors = refl

most_errors :
    error_text (record { state = Idle; skipped_samples = 4294967295; incorrect_state = 4294967295 })
    ≡ bytes "skip: 4294967295, neg: 0, inc: 4294967295"
unfolding error_text bytes decimal digits
most_errors = refl

longest : length (bytes "skip: 4294967295, neg: 0, inc: 4294967295") ≡ 41
unfolding bytes
longest = refl

nine : decimal 9 ≡ bytes "9"
unfolding bytes decimal digits
nine = refl

ten : decimal 10 ≡ bytes "10"
unfolding bytes decimal digits
ten = refl

top_rises : raised 4294967294 ≡ 4294967295
unfolding raised
top_rises = refl

top_holds : raised 4294967295 ≡ 4294967295
unfolding raised
top_holds = refl

-- a second start counts, and the recording goes on
starts_twice : start_of (start_of new_recorder_of) ≡ record { state = Triggered 0; skipped_samples = 0; incorrect_state = 1 }
unfolding start_of in_state Rattle.recorder.specs.Recording.misused_of raised
starts_twice = refl

-- a stop while idle counts, and the data stays
stops_idle : stop_of new_recorder_of 3 ≡ record { recorder = record { state = Idle; skipped_samples = 0; incorrect_state = 1 }; data_len = 3 }
unfolding stop_of Rattle.recorder.specs.Recording.misused_of raised
stops_idle = refl

-- at capacity the sample is dropped, and the recording goes on
at_capacity :
    recorded_of (in_state (Triggered 2) new_recorder_of) 2 2
    ≡ record { recorder = record { state = Triggered 2; skipped_samples = 1; incorrect_state = 0 }; data_len = 2 }
unfolding recorded_of in_state skipped_of raised
at_capacity = refl

last_place : data_after (in_state (Triggered 1) new_recorder_of) 7 (5 ∷ 6 ∷ []) ≡ 5 ∷ 7 ∷ []
unfolding data_after in_state
last_place = refl
