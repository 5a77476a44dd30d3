-- `binary32::shifted` meets its contract: from 64 digits on the unit is above n, and only the half of it is left to ask for. Assumes nothing.
use Rattle.std.proofs.Common.{◌≡◌, ℕ, ◌*◌, ◌/◌, ◌%◌, ◌^◌, ◌<◌, ◌≤◌, Bool, true, false, ◌&&◌, eqb, ltb, sym, refl, ap, ◌∙◌, inl, inr, true≢false, le_trans, lt_of_lt_of_le, mod-eq_of_lt, eq-or-lt_of_le, mul-one, arith, pow_pos, pow_mono, rules, ltb-false, ltb-true, eqb-true}
use native.Mathlib.Nat.{div-eq_of_lt}
use lib.Ieee.Nearest.{closest}
use borrow.Author.Tests.{eqb-false}
use Rattle.binary32.proofs.Rounding.{closest_exact}
use Rattle.binary32.proofs.Tops.{unit, unit_closest, closest_below, closest_tie, closest_above}
use Rattle.binary32.proofs.shifted.Goals as goal

unmoved : (n d : ℕ) → d ≡ 0 → n ≡ closest n (2 ^ d)
unmoved n d e = rw e (sym (ap (λ (k : ℕ). closest k 1) (sym (mul-one n)) ∙ closest_exact n 1 (pow_pos 0)))

-- above n
module _ (n d : ℕ) (fit : n < 2 ^ 64) (many : 64 ≤ d) where
  under : n < 2 ^ d
  under = lt_of_lt_of_le fit (pow_mono many)

  none : n / 2 ^ d ≡ 0
  none = div-eq_of_lt under

  rest : n % 2 ^ d ≡ n
  rest = mod-eq_of_lt under

  over_half : 2 ^ d < n * 2 → 1 ≡ closest n (2 ^ d)
  over_half h = omega (arith, none, closest_above n (2 ^ d) (rw rest h))

  to_half : n * 2 ≤ 2 ^ d → 0 ≡ closest n (2 ^ d)
  to_half h = elim (eq-or-lt_of_le h) [
    | inl e ↦ omega (arith, none, closest_tie n (2 ^ d) (rw rest e))
    | inr l ↦ omega (arith, none, closest_below n (2 ^ d) (rw rest l))
  ]

  pub one : (eqb d 64 && ltb (2 ^ 63) n) ≡ true → 1 ≡ closest n (2 ^ d)
  one = go (eqb d 64) (ltb (2 ^ 63) n) refl refl
    where
      go : (s t : Bool) → eqb d 64 ≡ s → ltb (2 ^ 63) n ≡ t → (s && t) ≡ true → 1 ≡ closest n (2 ^ d)
      go true true h k e = over_half (rw (eqb-true d 64 h) (omega (arith, ltb-true (2 ^ 63) n k)))
      go true false h k e = absurd (true≢false (sym e))
      go false t h k e = absurd (true≢false (sym e))

  pub nothing : (eqb d 64 && ltb (2 ^ 63) n) ≡ false → 0 ≡ closest n (2 ^ d)
  nothing = go (eqb d 64) (ltb (2 ^ 63) n) refl refl
    where
      go : (s t : Bool) → eqb d 64 ≡ s → ltb (2 ^ 63) n ≡ t → (s && t) ≡ false → 0 ≡ closest n (2 ^ d)
      go true true h k e = absurd (true≢false e)
      go true false h k e = to_half (rw (eqb-true d 64 h) (omega (arith, ltb-false (2 ^ 63) n k)))
      go false t h k e =
          let some = eqb-false d 64 h in
          let more : 65 ≤ d = omega arith in
          to_half (le_trans (omega arith) (pow_mono more))

pub returns-then-drop-eq0 : goal.returns-then-drop-eq0
returns-then-drop-eq0 c = unmoved _ _ c.if-drop-eq0.true

pub nearest-requires : goal.nearest-requires
nearest-requires c = unit c.args.drop (omega arith) c.if-drop-lt64.true

pub returns-then-drop-lt64 : goal.returns-then-drop-lt64
returns-then-drop-lt64 c = unit_closest _ c.args.drop _ c.if-drop-lt64.true c.nearest.ensures

pub returns-then-drop-n : goal.returns-then-drop-n
returns-then-drop-n c = one c.args.n c.args.drop (search rules) (omega arith) c.if-drop-n.true

pub returns : goal.returns
returns c = nothing c.args.n c.args.drop (search rules) (omega arith) c.if-drop-n.false
