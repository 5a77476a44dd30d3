-- A host's numbers at each edge of what they name, computed: what is taken, and its neighbour that is refused. Assumes nothing.
use mathlib.Core.Path.{◌≡◌, refl}
use mathlib.Core.Bool.{true, false}
use mathlib.Core.List.{List, [], ◌∷◌, map}
use Prim.Native.Nat.{ℕ, ◌^◌}
use lib.Ieee.{of_int}
use Rattle.binary32.specs.Leaves.{as_float}
use Rattle.octets.proofs.Hex.{from_hex}
use Rattle.common_types.specs.Settings.{default_params}
use Rattle.common_types.specs.declared.LoopMode.TheVariants.{PlayOnce, Loop, PingPong}
use Rattle.common_types.specs.declared.NoteOffBehaviour.TheVariants.{Decay, ZeroCrossing, DecayAndZeroCrossing}
use Rattle.common_types.specs.declared.time_value.TimeOrRatio.TheVariants.{Time, Ratio, WholeBars}
use Rattle.common_types.specs.declared.time_value.TimeValue.TheVariants.{QuarterNotes, Samples, Seconds, Bars}
use Rattle.std.specs.Prelude.{Some, None, Ok, Err}
use Rattle.refusals.specs.declared.Refusal.TheVariants.{NoChannel, Broken}
use Rattle.refusals.specs.Refusals.{code_of}
use Rattle.channel.specs.Tables.{head_asks, asks_of}
use Rattle.sampler.specs.declared.Sampler.{Sampler}
use Rattle.sampler.specs.Samplers.{choose_phrase_of, delete_phrase_of}
use Rattle.recordings.proofs.Examples.{computing as calling}
use Rattle.smf.proofs.Examples.{computing as reading}
use Rattle.smf.specs.Cues.{counted_judged}
use Rattle.listing.specs.Records.{length_by_kind, loop_mode_of, note_off_of}
use Rattle.host.specs.declared.settings.Settings.{Settings}
use Rattle.host.specs.declared.answers.Count.{Count}
use Rattle.host.specs.declared.answers.Offset.{Offset}
use Rattle.host.specs.Crossing.{known, params_by, made_by, set_up_by, phrase_byte, told_by, offset_by, entries_by}

-- ---- settings: their four bytes, and in each other field a number of its own
abbrev bytes : ℕ → ℕ → ℕ → ℕ → Settings
bytes kind mode off through = record {
  attack_samples = 1;
  decay_samples = 2;
  sample_rate = as_float 3;
  tempo = as_float 4;
  time_sig_numerator = 5;
  time_sig_denominator = 6;
  length = as_float 7;
  speed = as_float 8;
  reverse_speed = as_float 9;
  volume = as_float 10;
  length_kind = kind;
  loop_mode = mode;
  note_off = off;
  auto_passthru = through;
}

-- whatever settings compute by
making : Unit {0}
unfolding known params_by made_by length_by_kind loop_mode_of note_off_of of_int
making = tt

pub lengths_met : map (λ (kind : ℕ). (made_by (bytes kind 0 0 0)).params.loop_length) (0 ∷ 1 ∷ 2 ∷ 3 ∷ 4 ∷ 5 ∷ [])
    ≡ Time (QuarterNotes (as_float 7)) ∷ Time (Samples (as_float 7)) ∷ Time (Seconds (as_float 7)) ∷ Time (Bars (as_float 7)) ∷ Ratio (as_float 7) ∷ WholeBars (as_float 7) ∷ []
unfolding making
lengths_met = refl

pub loop_modes_met : map (λ (mode : ℕ). (made_by (bytes 0 mode 0 0)).params.loop_mode) (0 ∷ 1 ∷ 2 ∷ []) ≡ PlayOnce ∷ Loop ∷ PingPong ∷ []
unfolding making
loop_modes_met = refl

pub note_offs_met : map (λ (off : ℕ). (made_by (bytes 0 0 off 0)).params.note_off_behavior) (0 ∷ 1 ∷ 2 ∷ []) ≡ Decay ∷ ZeroCrossing ∷ DecayAndZeroCrossing ∷ []
unfolding making
note_offs_met = refl

pub passthru_met : map (λ (through : ℕ). (made_by (bytes 0 0 0 through)).params.auto_passthru) (0 ∷ 1 ∷ []) ≡ false ∷ true ∷ []
unfolding making
passthru_met = refl

-- the last byte that names something, the first that doesn't, and the last of all
pub numbers_met : (map (λ (kind : ℕ). (made_by (bytes kind 0 0 0)).number) (5 ∷ 6 ∷ 255 ∷ []) ≡ 0 ∷ 7 ∷ 7 ∷ [])
    × (map (λ (mode : ℕ). (made_by (bytes 0 mode 0 0)).number) (2 ∷ 3 ∷ 255 ∷ []) ≡ 0 ∷ 7 ∷ 7 ∷ [])
    × (map (λ (off : ℕ). (made_by (bytes 0 0 off 0)).number) (2 ∷ 3 ∷ 255 ∷ []) ≡ 0 ∷ 7 ∷ 7 ∷ [])
    × (map (λ (through : ℕ). (made_by (bytes 0 0 0 through)).number) (1 ∷ 2 ∷ 255 ∷ []) ≡ 0 ∷ 7 ∷ 7 ∷ [])
unfolding making
numbers_met = (refl, refl, refl, refl)

-- each field from its own; of refused settings nothing is taken
pub fields_met : (made_by (bytes 1 2 0 1)).params ≡ record {
  attack_samples = 1;
  decay_samples = 2;
  transport = record { sample_rate = as_float 3; tempo = as_float 4; time_sig_numerator = 5; time_sig_denominator = 6 };
  loop_length = Time (Samples (as_float 7));
  speed = as_float 8;
  reverse_speed = as_float 9;
  volume = as_float 10;
  auto_passthru = true;
  loop_mode = PingPong;
  note_off_behavior = Decay;
}
unfolding making
fields_met = refl

pub refused_met : (made_by (bytes 6 2 0 1)).params ≡ default_params
unfolding making
refused_met = refl

-- ---- phrases: of any number past 7 there is none, and 256 isn't 0
abbrev new : Sampler
new = (set_up_by 1 false 8).sampler

pub phrases_met : (map phrase_byte (0 ∷ 7 ∷ 8 ∷ 255 ∷ 256 ∷ 2 ^ 32 ∷ []) ≡ 0 ∷ 7 ∷ 8 ∷ 255 ∷ 255 ∷ 255 ∷ [])
    × (map (λ (n : ℕ). code_of (choose_phrase_of new (phrase_byte n)).done) (0 ∷ 7 ∷ 8 ∷ 255 ∷ 256 ∷ 2 ^ 32 ∷ []) ≡ 0 ∷ 0 ∷ 19 ∷ 19 ∷ 19 ∷ 19 ∷ [])
    × (map (λ (n : ℕ). code_of (delete_phrase_of new (phrase_byte n)).done) (0 ∷ 7 ∷ 8 ∷ 255 ∷ 256 ∷ 2 ^ 32 ∷ []) ≡ 0 ∷ 0 ∷ 19 ∷ 19 ∷ 19 ∷ 19 ∷ [])
unfolding calling head_asks asks_of
phrases_met = (refl, refl, refl)

-- ---- answers: a yes, a no and a refusal; a place, none and a refusal
abbrev counting : ℕ → ℕ → Count
counting n number = record { count = n; number = number }

pub told_met : map told_by (Ok true ∷ Ok false ∷ Err Broken ∷ []) ≡ counting 1 0 ∷ counting 0 0 ∷ counting 0 9 ∷ []
told_met = refl

abbrev placed : ℕ → ℕ → ℕ → Offset
placed n number found = record { at = n; number = number; found = found }

pub offsets_met : map offset_by (Ok (Some 0) ∷ Ok None ∷ Err NoChannel ∷ []) ≡ placed 0 0 1 ∷ placed 0 0 0 ∷ placed 0 1 0 ∷ []
offsets_met = refl

-- a song of a start and a stop: in a list with room for both, in one that is a word short, at a rate that is none; and no song
abbrev song : List ℕ
song = from_hex "4D546864 00000006 0000 0001 0060 4D54726B 0000000C 00 903C40 60 803C40 00 FF2F00"

pub songs_met : (entries_by (counted_judged song 48000 4) ≡ counting 2 0) × (entries_by (counted_judged song 48000 3) ≡ counting 2 8) × (entries_by (counted_judged song 0 4) ≡ counting 0 22) × (entries_by (counted_judged [] 48000 4) ≡ counting 0 12)
unfolding reading
songs_met = (refl, refl, refl, refl)
