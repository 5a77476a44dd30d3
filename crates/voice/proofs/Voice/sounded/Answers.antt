-- `Voice::sounded` meets its contract: the moved clip gives the position and the next index, and these the value. Assumes nothing.
use mathlib.Core.Path.{◌≡◌, ap, ◌∙◌}
use Prim.Native.Nat.{ℕ}
use mathlib.Core.List.{List}
use lib.Ieee.{Float}
use Rattle.clip.specs.declared.Clip.{Clip}
use Rattle.clip.specs.declared.Sounding.{Sounding}
use Rattle.clip.specs.Positions.{sounding_of}
use Rattle.clip.proofs.Indices.{position_index}
use Rattle.voice.specs.declared.Tick.{Tick}
use Rattle.voice.specs.Voices.{moved_of, value_at, value_of, sounded_of, product_of}
use Rattle.voice.proofs.Values.{value_beside}
use Rattle.voice.proofs.Voice.sounded.Goals as goal

-- what is worked out at a clip's sounding is its value
value_at_lem : (t : Tick) (m : List ℕ) (clip : Clip) (s : Sounding) (x : Float) → x ≡ value_at t m s.position s.next → s ≡ sounding_of clip t.now t.interpolates → x ≡ value_of t m clip
unfolding sounding_of
value_at_lem t m clip s x value at = value ∙ ap (λ (z : Sounding). value_at t m z.position z.next) at ∙ value_beside t m clip

pub returns : goal.returns
unfolding sounded_of product_of sounding_of
returns c =
    let a = c.args in
    let moved = c.moved-moved in
    let valued = c.valued in
    simp (c.crossing.ensures, c.level.ensures, value_at_lem a.t a.«data».now (moved_of a.t a.self) moved.result valued.result valued.ensures moved.ensures, moved.ensures, position_index)
