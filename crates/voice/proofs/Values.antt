-- The value that a voice sounds by, on either setting. Assumes nothing.
--     value_beside     it asks for the next index only where voices interpolate
--     value_off        with the setting off it is the recorded value at the index
--     value_whole      at fraction 0 it is equal to that on either setting, where both samples and their difference are finite
--     product_whole    and so is the voice's term, by a finite level
use mathlib.Core.Path.{◌≡◌, refl, ap, ◌∙◌}
use Prim.Native.Nat.{ℕ}
use mathlib.Core.Bool.{Bool, true, false, cond}
use mathlib.Core.List.{List}
use lib.Dec.{T}
use lib.Ieee.{Float, binary32, sub, mul, eq}
use lib.Ieee.Bits.{of_bits-fits}
use lib.Ieee.Scale.{finite}
use lib.ListN.{get_or}
use Rattle.binary32.specs.Leaves.{zero32}
use Rattle.binary32.proofs.Truth.{cond_split}
use Rattle.binary32.proofs.Nans.{equals_itself}
use Rattle.binary32.proofs.Values.{finite_not_nan}
use Rattle.binary32.proofs.Zeros.{plus_none, equal_times}
use Rattle.volume.specs.Levels.{level_of}
use Rattle.clip.specs.declared.Clip.{Clip}
use Rattle.clip.specs.declared.Position.{Position}
use Rattle.clip.specs.Positions.{position_at, index_at, next_at, next_if_smooth}
use Rattle.clip.proofs.Indices.{position_index}
use Rattle.voice.specs.Voices.{moved_of, recorded_value_of, between_of, value_at, value_of, product_of}
use Rattle.voice.specs.declared.Voice.{Voice}
use Rattle.voice.specs.declared.Tick.{Tick}

module _ (t : Tick) (m : List ℕ) (c : Clip) where
  pub value_beside : value_at t m (position_at c t.now) (next_if_smooth c t.now t.interpolates) ≡ value_of t m c
  unfolding value_of
  value_beside = go t.interpolates
    where
      p : Position
      p = position_at c t.now

      go : (b : Bool) → cond b (between_of (recorded_value_of m p.index) (recorded_value_of m (next_if_smooth c t.now b)) p.fraction) (recorded_value_of m p.index)
          ≡ cond b (between_of (recorded_value_of m p.index) (recorded_value_of m (next_at c t.now)) p.fraction) (recorded_value_of m p.index)
      go true = refl
      go false = refl

  -- the request's a and b: the values at the index and at the next one
  abbrev a : Float
  a = recorded_value_of m (index_at c t.now)

  abbrev b : Float
  b = recorded_value_of m (next_at c t.now)

  abbrev fraction : Float
  fraction = (position_at c t.now).fraction

  value-is : value_of t m c ≡ cond t.interpolates (between_of a b fraction) a
  unfolding value_of
  value-is = ap (λ (i : ℕ). cond t.interpolates (between_of (recorded_value_of m i) b fraction) (recorded_value_of m i)) (position_index c t.now)

  pub value_off : t.interpolates ≡ false → value_of t m c ≡ a
  value_off h = value-is ∙ ap (λ (on : Bool). cond on (between_of a b fraction) a) h

  -- "At fraction 0, with a, b and b - a finite, both settings give equal values" (request 7/12)
  pub value_whole : eq fraction zero32 ≡ true → T (finite a) → T (finite b) → T (finite (sub binary32 b a)) → eq (value_of t m c) a ≡ true
  unfolding between_of
  value_whole z here next difference =
      ap (λ (x : Float). eq x a) value-is
      ∙ cond_split (λ (x : Float). eq x a ≡ true) t.interpolates (between_of a b fraction) a
      (λ on. plus_none binary32 a (sub binary32 b a) fraction here (of_bits-fits binary32 (get_or m (index_at c t.now) 0)) difference z)
      (λ off. equals_itself a (finite_not_nan a here))

module _ (t : Tick) (m : List ℕ) (v : Voice) where
  abbrev moved : Clip
  moved = moved_of t v

  abbrev level : Float
  level = level_of v.volume t.now

  -- by an infinite level zeros give NaN, which is equal to nothing
  pub product_whole : eq (fraction t m moved) zero32 ≡ true → T (finite (a t m moved)) → T (finite (b t m moved)) → T (finite (sub binary32 (b t m moved) (a t m moved))) → T (finite level)
      → eq (product_of t m v) (mul binary32 (a t m moved) level) ≡ true
  unfolding product_of
  product_whole z here next difference l = equal_times binary32 (value_of t m moved) (a t m moved) level here l (value_whole t m moved z here next difference)
