-- What the quick index of a clip promises, its fraction, and its next index. Definitions only. Assumes nothing.
use Rattle.std.specs.Prelude.{◌≡◌, true, not, ℕ, ◌-◌, ◌^◌, ◌<◌, T, Float}
use Rattle.std.specs.Float.{binary32}
use Rattle.std.specs.Float.Ieee.{rem, le, eq}
use Rattle.binary32.specs.Leaves.{zero32}
use Rattle.clip.specs.Positions.{wrapped_of, offset_at, index_of, position_of, index_at, next_at}
use Rattle.clip.specs.Updates.{same_mode, same_all}
use Rattle.clip.specs.declared.Mode.{Mode}
use Rattle.clip.specs.declared.Clip.{Clip}
use Rattle.clip.specs.declared.Near.{Near}

-- the answer that is no index
abbrev pub no_index : ℕ
no_index = 2 ^ 64 - 1

-- r is below 0, or NaN; or the modes are the same, and r is what x comes to
abbrev pub QuickWrapped : Mode → Mode → Float → Float → Float → Type 0
QuickWrapped mode old x length r =
    T (le zero32 r) → (same_mode mode old ≡ true) × (r ≡ wrapped_of old x length)

-- r is no index; or the length isn't 0, and r is the whole part of s % length
abbrev pub QuickWhole : Float → Float → ℕ → Type 0
QuickWhole s length r =
    r < no_index → T (not (eq length zero32)) × (r ≡ index_of (rem binary32 s length))

-- near has no index; or each of the four parts of an update to these values would be skipped, and near has the clip's
-- index and its offset, which isn't below 0
abbrev pub QuickIndex : Clip → ℕ → Float → Float → Float → Mode → Near → Type 0
QuickIndex c now length speed data_length mode near =
    near.index < no_index
    → (same_all c length speed data_length mode ≡ true) × (near.index ≡ index_at c now) × (near.offset ≡ offset_at c now)
    × T (le zero32 near.offset)

-- near has no index, or not that of its offset, or an offset below 0; or r is what remains of the offset
abbrev pub QuickFraction : Near → Float → Type 0
QuickFraction near r =
    near.index < no_index → near.index ≡ index_of near.offset → T (le zero32 near.offset)
    → r ≡ (position_of near.offset).fraction

-- r is no index; or, if each of the four parts of an update to these values and some speed would be skipped, r is the
-- clip's next index
abbrev pub QuickNext : Clip → ℕ → Float → Float → Mode → ℕ → Type 0
QuickNext c now length data_length mode r =
    r < no_index → (speed : Float) → same_all c length speed data_length mode ≡ true → r ≡ next_at c now
