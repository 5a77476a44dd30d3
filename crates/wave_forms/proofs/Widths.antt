-- The kinds of numbers: what the reader's test says of them, and how wide they are. Assumes nothing.
use mathlib.Core.Path.{◌≡◌, refl}
use mathlib.Core.Bool.{Bool, true, false, ◌&&◌, ◌||◌}
use Prim.Native.Nat.{ℕ, ◌/◌, ◌^◌, ◌≤◌, ◌<◌}
use native.Mathlib.Omega.{arith}
use lib.Dec.{eqb}
use borrow.Author.Tests.{eqb-true}
use Rattle.walks.proofs.Lists.Every.{both as and_both}
use Rattle.wave_forms.specs.Reader.{known_form}
use Rattle.wave_forms.specs.Grammar.{Kind}
use Rattle.wave_forms.specs.Grammar.Kind.{whole16, whole24, whole32, float32, float64}

pub known_is : {tag bits : ℕ} → Kind tag bits → known_form tag bits ≡ true
unfolding known_form
known_is whole16 = refl
known_is whole24 = refl
known_is whole32 = refl
known_is float32 = refl
known_is float64 = refl

-- one of two tests
either : (P : Type 0) (a b : Bool) → (a || b) ≡ true → (a ≡ true → P) → (b ≡ true → P) → P
either P true b e f g = f refl
either P false b e f g = g e

pub kind_of : (tag bits : ℕ) → known_form tag bits ≡ true → Kind tag bits
unfolding known_form
kind_of tag bits e =
    either (Kind tag bits) (eqb tag 1 && (eqb bits 16 || eqb bits 24 || eqb bits 32)) _ e
    (λ h. let a = and_both (eqb tag 1) _ h in
    either (Kind tag bits) (eqb bits 16 || eqb bits 24) (eqb bits 32) a.1
    (λ g. either (Kind tag bits) (eqb bits 16) (eqb bits 24) g (λ k. kind a.0 k whole16) (λ k. kind a.0 k whole24)) (λ k. kind a.0 k whole32))
    (λ h. let a = and_both (eqb tag 3) _ h in
    either (Kind tag bits) (eqb bits 32) (eqb bits 64) a.1 (λ k. kind a.0 k float32) (λ k. kind a.0 k float64))
  where
    kind : {t b : ℕ} → eqb tag t ≡ true → eqb bits b ≡ true → Kind t b → Kind tag bits
    kind {t} {b} h k x = rw (eqb-true tag t h, eqb-true bits b k) x

-- ---- widths
pub bytes_few : {tag bits : ℕ} → Kind tag bits → (2 ≤ bits / 8) × (bits / 8 ≤ 8)
bytes_few whole16 = (omega arith, omega arith)
bytes_few whole24 = (omega arith, omega arith)
bytes_few whole32 = (omega arith, omega arith)
bytes_few float32 = (omega arith, omega arith)
bytes_few float64 = (omega arith, omega arith)

pub kind_small : {tag bits : ℕ} → Kind tag bits → (tag < 2 ^ 16) × (bits < 2 ^ 16)
kind_small whole16 = (omega arith, omega arith)
kind_small whole24 = (omega arith, omega arith)
kind_small whole32 = (omega arith, omega arith)
kind_small float32 = (omega arith, omega arith)
kind_small float64 = (omega arith, omega arith)

pub kind_some : {tag bits : ℕ} → Kind tag bits → tag ≡ 0 → ⊥
kind_some whole16 e = omega arith
kind_some whole24 e = omega arith
kind_some whole32 e = omega arith
kind_some float32 e = omega arith
kind_some float64 e = omega arith

pub whole_fits : {tag bits : ℕ} → Kind tag bits → tag ≡ 1 → (n : ℕ) → n < 256 ^ (bits / 8) → (0 < bits) × (bits ≤ 32) × (n < 2 ^ bits)
whole_fits whole16 e n h = (omega arith, omega arith, h)
whole_fits whole24 e n h = (omega arith, omega arith, h)
whole_fits whole32 e n h = (omega arith, omega arith, h)
whole_fits float32 e n h = absurd (omega arith)
whole_fits float64 e n h = absurd (omega arith)

pub word_fits : {tag bits : ℕ} → Kind tag bits → (tag ≡ 1 → ⊥) → (bits ≡ 64 → ⊥) → (n : ℕ) → n < 256 ^ (bits / 8) → n < 2 ^ 32
word_fits whole16 e g n h = absurd (e refl)
word_fits whole24 e g n h = absurd (e refl)
word_fits whole32 e g n h = absurd (e refl)
word_fits float32 e g n h = h
word_fits float64 e g n h = absurd (g refl)
