-- A clip at a time, with the float of the samples since its last change: none after a change at that time. Assumes nothing.
use mathlib.Core.Path.{◌≡◌, refl, ap, sym, subst}
use Prim.Native.Nat.{ℕ, ◌-◌}
use native.Mathlib.Omega.{arith}
use lib.Ieee.{Float, of_int}
use Rattle.binary32.specs.Leaves.{zero32, as_float}
use Rattle.clip.specs.Positions.{standing_of, StandsNow}
use Rattle.clip.specs.Updates.{resumed}
use Rattle.clip.specs.declared.Clip.{Clip}
use Rattle.clip.specs.declared.Standing.{Standing}

-- a record that stands is that of its clip and time
pub standing_is : (s : Standing) → StandsNow s → s ≡ standing_of s.clip s.now
unfolding standing_of
standing_is s h = ap (λ (e : Float). record { clip = s.clip; now = s.now; elapsed = e }) h

pub standing_stands : (s : Standing) (c : Clip) (now : ℕ) → s ≡ standing_of c now → StandsNow s
unfolding standing_of
standing_stands s c now e = subst StandsNow (sym e) refl

-- no sample has gone since a change at that time
none_gone : (now : ℕ) → zero32 ≡ as_float (now - now)
unfolding of_int
none_gone now =
    let none : now - now ≡ 0 = omega arith in
    ap as_float (sym none)

pub resumed_stands : (c : Clip) (shift : Float) (now : ℕ) → record { clip = resumed c shift now; now = now; elapsed = zero32 } ≡ standing_of (resumed c shift now) now
unfolding standing_of
resumed_stands c shift now = ap (λ (e : Float). record { clip = resumed c shift now; now = now; elapsed = e }) (none_gone now)
