-- The two modes, each by its index and by the float from 0 to 1 that a host's dial gives (document 01, module 1).
-- Definitions only. Assumes nothing.
use Rattle.std.specs.Prelude.{ℕ, zero, suc, false, negsuc, Float, Result, Ok, Err}
use Rattle.std.specs.Float.{fin, binary32}
use Rattle.std.specs.Float.Ieee.{add, mul, div}
use Rattle.binary32.specs.Leaves.{as_float, as_whole, floor_of}
use Rattle.refusals.specs.declared.Refusal.{Refusal}
use Rattle.refusals.specs.declared.Refusal.TheVariants.{BadArgument}
use Rattle.common_types.specs.declared.LoopMode.{LoopMode}
use Rattle.common_types.specs.declared.LoopMode.TheVariants.{PlayOnce, Loop, PingPong}
use Rattle.common_types.specs.declared.NoteOffBehaviour.{NoteOffBehaviour}
use Rattle.common_types.specs.declared.NoteOffBehaviour.TheVariants.{Decay, ZeroCrossing, DecayAndZeroCrossing}

-- ---- what the two modes share

-- the first, second or third of three, and something else from 3 on
abbrev pub by_index : {A : Type 0} → A → A → A → A → ℕ → A
by_index a b c other zero = a
by_index a b c other (suc zero) = b
by_index a b c other (suc (suc zero)) = c
by_index a b c other (suc (suc (suc n))) = other

-- the middle of an index's part of 0 to 1: ((i / length) + ((i + 1) / length)) * 1/2, each operation rounded
unfoldable pub index_to_f32_of : ℕ → ℕ → Float
index_to_f32_of index length =
    let i = as_float index in
    let l = as_float length in
    mul binary32 (add binary32 (div binary32 i l) (div binary32 (add binary32 i (as_float 1)) l))
    (fin false 1 (negsuc 0))

-- floor(x * length) as a whole number: 0 where that is NaN or below 0
unfoldable pub index_from_f32_of : Float → ℕ → ℕ
index_from_f32_of x length = as_whole 64 (floor_of (mul binary32 x (as_float length)))

-- ---- LoopMode: an index of 3 or more is refused
abbrev pub loop_mode_to_index_of : LoopMode → ℕ
loop_mode_to_index_of PlayOnce = 0
loop_mode_to_index_of Loop = 1
loop_mode_to_index_of PingPong = 2

abbrev pub loop_mode_from_index_of : ℕ → Result LoopMode Refusal
loop_mode_from_index_of index = by_index (Ok PlayOnce) (Ok Loop) (Ok PingPong) (Err BadArgument) index

abbrev pub loop_mode_to_f32_of : LoopMode → Float
loop_mode_to_f32_of mode = index_to_f32_of (loop_mode_to_index_of mode) 3

abbrev pub loop_mode_from_f32_of : Float → Result LoopMode Refusal
loop_mode_from_f32_of x = loop_mode_from_index_of (index_from_f32_of x 3)

-- ---- NoteOffBehaviour, likewise
abbrev pub note_off_to_index_of : NoteOffBehaviour → ℕ
note_off_to_index_of Decay = 0
note_off_to_index_of ZeroCrossing = 1
note_off_to_index_of DecayAndZeroCrossing = 2

abbrev pub note_off_from_index_of : ℕ → Result NoteOffBehaviour Refusal
note_off_from_index_of index =
    by_index (Ok Decay) (Ok ZeroCrossing) (Ok DecayAndZeroCrossing) (Err BadArgument) index

abbrev pub note_off_to_f32_of : NoteOffBehaviour → Float
note_off_to_f32_of behaviour = index_to_f32_of (note_off_to_index_of behaviour) 3

abbrev pub note_off_from_f32_of : Float → Result NoteOffBehaviour Refusal
note_off_from_f32_of x = note_off_from_index_of (index_from_f32_of x 3)
