-- A steady volume stays as it is; a ramp stays one until its end and is steady from there on; and a change ends at its target after its duration.
-- Assumes nothing.
use mathlib.Core.Path.{◌≡◌, refl, sym}
use mathlib.Core.Bool.{true, false, true≢false}
use Prim.Native.Nat.{ℕ, zero, suc, ◌+◌, ◌^◌, ◌≤◌, ◌<◌}
use native.Mathlib.Omega.{arith}
use lib.IntN.{pos}
use lib.Ieee.{Float, fin, eq}
use borrow.Author.Tests.{le-leb, lt-leb, ltb-true, ltb-false}
use Rattle.volume.specs.declared.Volume.{Volume}
use Rattle.volume.specs.declared.Volume.TheVariants.{Static, Linear}
use Rattle.volume.specs.Levels.{is_static_of, is_static_and_mute_of, level_of, toward_of, stepped_of, keeps_of}
use Rattle.volume.proofs.Changes.{toward_at_once, toward_ramp}

-- ---- steady
pub level_static : (x : Float) (now : ℕ) → level_of (Static x) now ≡ x
unfolding level_of
level_static x now = refl

pub stepped_static : (x : Float) (now : ℕ) → stepped_of (Static x) now ≡ Static x
unfolding stepped_of
stepped_static x now = refl

-- ---- a ramp
pub stepped_before : (a b : ℕ) (x y : Float) (now : ℕ) → now < b → stepped_of (Linear a b x y) now ≡ Linear a b x y
unfolding stepped_of
stepped_before a b x y now h = simp (lt-leb b now h)

pub stepped_end : (a b : ℕ) (x y : Float) (now : ℕ) → b ≤ now → stepped_of (Linear a b x y) now ≡ Static y
unfolding stepped_of
stepped_end a b x y now h = simp (le-leb b now h)

-- whether it keeps through a step is told by `keeps_of`, and only by it: where that fails, a ramp becomes steady
pub stepped_keeps : (v : Volume) (now : ℕ) → keeps_of v now ≡ true → stepped_of v now ≡ v
unfolding keeps_of
stepped_keeps (Static x) now h = stepped_static x now
stepped_keeps (Linear a b x y) now h = stepped_before a b x y now (ltb-true now b h)

pub stepped_ends : (v : Volume) (now : ℕ) → keeps_of v now ≡ false → (is_static_of v ≡ false) × (is_static_of (stepped_of v now) ≡ true)
unfolding keeps_of
stepped_ends (Static x) now h = absurd (true≢false h)
stepped_ends (Linear a b x y) now h = (refl, rw (stepped_end a b x y now (ltb-false now b h)))

-- from when on a volume steps to a steady one
abbrev pub end_of : Volume → ℕ
end_of (Static x) = 0
end_of (Linear a b x y) = b

pub stepped_steady : (v : Volume) (now : ℕ) → end_of v ≤ now → is_static_of (stepped_of v now) ≡ true
stepped_steady (Static x) now h = rw (stepped_static x now)
stepped_steady (Linear a b x y) now h = rw (stepped_end a b x y now h)

-- a ramp that ends in 0 is steady and mute from its end on, and what is mute stays so
pub faded : (a b : ℕ) (x y : Float) (now : ℕ) → eq y (fin false 0 (pos 0)) ≡ true → b ≤ now → is_static_and_mute_of (stepped_of (Linear a b x y) now) ≡ true
faded a b x y now z h = rw (stepped_end a b x y now h) z

pub mute_stays : (v : Volume) (now : ℕ) → is_static_and_mute_of v ≡ true → stepped_of v now ≡ v
mute_stays (Static x) now h = stepped_static x now
mute_stays (Linear a b x y) now h = absurd (true≢false (sym h))

-- ---- a change is over after its duration
pub toward_over : (v : Volume) (now duration : ℕ) (target : Float) (t : ℕ) → now ≤ 2 ^ 48 → duration ≤ 2 ^ 24 → now + duration ≤ t
    → stepped_of (toward_of v now duration target) t ≡ Static target
toward_over v now zero target t h k l = rw (toward_at_once v now target) (stepped_static target t)
toward_over v now (suc d) target t h k l =
    rw (toward_ramp v now (suc d) target (omega arith) h k) (stepped_end now (now + suc d) (level_of v now) target t l)
