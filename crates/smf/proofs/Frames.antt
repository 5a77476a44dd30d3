-- Frames counted in numbers of 64 bits: whole frames and what is over of the next, carried along, are those of the exact sum; and no number on the way
-- is too large. Assumes nothing.
use mathlib.Core.Path.{◌≡◌, refl, sym, ap, ◌∙◌}
use mathlib.Core.Bool.{Bool, true, false}
use Prim.Native.Nat.{ℕ, suc, ◌+◌, ◌*◌, ◌/◌, ◌%◌, ◌^◌, ◌≤◌, ◌<◌}
use native.Mathlib.Nat.{le_refl, le_trans, mul-zero, zero-div, zero-mod, le-add_right, mul_comm, mul_left_comm, mul_assoc, mul-add, add-mul, mul-le-mul, mod-lt, div-add-mod', div-lt_iff_lt-mul, le-div_iff_mul-le, mul-add-div_right, mul-add-mod_self_right}
use native.Mathlib.Omega.{arith}
use lib.Dec.{ltb, leb}
use borrow.Author.Tests.{leb-true, leb-false, ltb-false, lt-ltb, le-leb, lt-leb}
use Rattle.smf.specs.Times.{last_frame, clock_at}
use Rattle.smf.specs.Cues.{event_entries, too_late}
use Rattle.smf.specs.declared.clock.Clock.{Clock}
use Rattle.smf.specs.declared.events.Event.{Event}
use Rattle.smf.specs.declared.events.Event.TheVariants.{Note, Tempo, Other}

abbrev pub ended : Clock
ended = record { frames = last_frame + 1; rest = 0 }

-- ---- the carry: a sum of a more, at a rate
module _ (unit rate total a : ℕ) (some : 0 < unit) where
  abbrev pub part : ℕ
  part = a % unit * rate + total % unit

  abbrev pub frames : ℕ
  frames = total / unit + a / unit * rate + part / unit

  whole : total + rate * a ≡ (total / unit + a / unit * rate) * unit + part
  whole =
      let of_a : rate * a ≡ rate * (a / unit * unit) + rate * (a % unit) = ap (λ (x : ℕ). rate * x) (sym (div-add-mod' a unit)) ∙ mul-add rate (a / unit * unit) (a % unit) in
      let high : rate * (a / unit * unit) ≡ a / unit * rate * unit = mul_left_comm rate (a / unit) unit ∙ sym (mul_assoc (a / unit) rate unit) in
      omega (arith, of_a, high, mul_comm rate (a % unit), div-add-mod' total unit, add-mul (total / unit) (a / unit * rate) unit)

  pub whole_frames : (total + rate * a) / unit ≡ frames
  whole_frames = ap (λ (x : ℕ). x / unit) whole ∙ mul-add-div_right some (total / unit + a / unit * rate) part

  pub whole_rest : (total + rate * a) % unit ≡ part % unit
  whole_rest = ap (λ (x : ℕ). x % unit) whole ∙ mul-add-mod_self_right (total / unit + a / unit * rate) unit part

-- ---- the clock
module _ (unit : ℕ) where
  pub clock_early : (total : ℕ) → total / unit ≤ last_frame → clock_at unit total ≡ record { frames = total / unit; rest = total % unit }
  unfolding clock_at
  clock_early total h = simp (le-leb _ _ h)

  pub clock_late : (total : ℕ) → last_frame < total / unit → clock_at unit total ≡ ended
  unfolding clock_at
  clock_late total h = simp (lt-leb _ _ h)

  pub clock_zero : (rate : ℕ) → clock_at unit (rate * 0) ≡ record { frames = 0; rest = 0 }
  unfolding clock_at
  clock_zero rate = simp (mul-zero, zero-div, zero-mod)

  -- which of the two a clock is, by its frames
  pub clock_cases : {A : Type 0} (total : ℕ) → (total / unit ≤ last_frame → A) → (last_frame < total / unit → A) → A
  clock_cases {A} total f g = go (leb (total / unit) last_frame) refl
    where
      go : (b : Bool) → leb (total / unit) last_frame ≡ b → A
      go true e = f (leb-true (total / unit) last_frame e)
      go false e = g (leb-false (total / unit) last_frame e)

  pub is_early : (c : Clock) (total : ℕ) → c ≡ clock_at unit total → c.frames ≤ last_frame → total / unit ≤ last_frame
  is_early c total e h = clock_cases total (λ k. k) (λ k. let f = ap (λ (x : Clock). x.frames) (e ∙ clock_late total k) in absurd (omega arith))

  pub is_late : (c : Clock) (total : ℕ) → c ≡ clock_at unit total → last_frame < c.frames → last_frame < total / unit
  is_late c total e h = clock_cases total (λ k. let f = ap (λ (x : Clock). x.frames) (e ∙ clock_early total k) in absurd (omega arith)) (λ k. k)

  module _ (some : 0 < unit) where
    pub clock_bounds : (total : ℕ) → ((clock_at unit total).frames ≤ last_frame + 1) × ((clock_at unit total).rest < unit)
    clock_bounds total =
        clock_cases total
        (λ k. rw (clock_early total k) (omega arith, mod-lt total some))
        (λ k. rw (clock_late total k) (omega arith, some))

    -- past the last frame there is no way back
    pub stands : (c : Clock) (total more : ℕ) → c ≡ clock_at unit total → last_frame < c.frames → c ≡ clock_at unit (total + more)
    stands c total more e h =
        let k = is_late c total e h in
        let k' : last_frame < (total + more) / unit = (le-div_iff_mul-le {k = unit} {x = suc last_frame} {y = total + more} some).1 (le_trans ((le-div_iff_mul-le {k = unit} {x = suc last_frame} {y = total} some).0 k) (le-add_right total more)) in
        e ∙ clock_late total k ∙ sym (clock_late (total + more) k')

    -- one that still counts, carried on
    module _ (c : Clock) (total rate a : ℕ) (e : c ≡ clock_at unit total) (h : c.frames ≤ last_frame) where
      is : c ≡ record { frames = total / unit; rest = total % unit }
      is = e ∙ clock_early total (is_early c total e h)

      on : (total + rate * a) / unit ≡ c.frames + a / unit * rate + (a % unit * rate + c.rest) / unit
      on =
          let counts = ap (λ (x : Clock). x.frames) is in
          let over = ap (λ (x : Clock). x.rest) is in
          whole_frames unit rate total a some ∙ (rw (counts, over))

      over : (total + rate * a) % unit ≡ (a % unit * rate + c.rest) % unit
      over = let over = ap (λ (x : Clock). x.rest) is in whole_rest unit rate total a some ∙ (rw over)

      pub carries_late : last_frame < c.frames + a / unit * rate + (a % unit * rate + c.rest) / unit → ended ≡ clock_at unit (total + rate * a)
      carries_late k = sym (clock_late (total + rate * a) (rw on k))

      pub carries : c.frames + a / unit * rate + (a % unit * rate + c.rest) / unit ≤ last_frame
          → record { frames = c.frames + a / unit * rate + (a % unit * rate + c.rest) / unit; rest = (a % unit * rate + c.rest) % unit } ≡ clock_at unit (total + rate * a)
      carries k = rw (← on, ← over) (sym (clock_early (total + rate * a) (rw on k)))

-- ---- no number on the way is too large
pub product : (a b : ℕ) → a < 2 ^ 32 → b < 2 ^ 32 → a * b < 2 ^ 64
product a b h k =
    let most : a * b ≤ 4294967295 * 4294967295 = mul-le-mul {n₁ = a} {m₁ = b} {n₂ = 4294967295} {m₂ = 4294967295} (omega arith) (omega arith) in
    omega arith

module _ (unit rate a : ℕ) (low : 10 ^ 6 ≤ unit) (high : unit < 2 ^ 35) (rates : rate ≤ 192000) where
  pub part_small : a % unit * rate ≤ 34359738367 * 192000
  part_small = mul-le-mul {n₁ = a % unit} {m₁ = rate} {n₂ = 34359738367} {m₂ = 192000} (omega (arith, mod-lt a {m = unit} (omega arith))) rates

  pub frames_small : a < 2 ^ 64 → a / unit * rate ≤ 18446744073709 * 192000
  frames_small h =
      let more : 18446744073710 * 10 ^ 6 ≤ 18446744073710 * unit = mul-le-mul {n₁ = 18446744073710} {m₁ = 10 ^ 6} {n₂ = 18446744073710} {m₂ = unit} (le_refl 18446744073710) low in
      let few : a / unit < 18446744073710 = (div-lt_iff_lt-mul {k = unit} {x = a} {y = 18446744073710} (omega arith)).1 (omega arith) in
      mul-le-mul {n₁ = a / unit} {m₁ = rate} {n₂ = 18446744073709} {m₂ = 192000} (omega arith) rates

-- ---- an event at the clock's frames is one at the exact frame
module _ (unit total : ℕ) where
  pub late_same : (e : Event) → too_late (clock_at unit total).frames e ≡ too_late (total / unit) e
  unfolding too_late
  late_same (Note key) = clock_cases unit total (λ k. rw (clock_early unit total k)) (λ k. rw (clock_late unit total k) (sym (go k)))
    where
      go : last_frame < total / unit → ltb last_frame (total / unit) ≡ true
      go k = lt-ltb _ _ k
  late_same (Tempo new) = refl
  late_same Other = refl

  pub entries_same : (e : Event) → too_late (total / unit) e ≡ false → event_entries (clock_at unit total).frames e ≡ event_entries (total / unit) e
  unfolding too_late event_entries
  entries_same (Note key) h = rw (clock_early unit total (le_of h))
    where
      le_of : ltb last_frame (total / unit) ≡ false → total / unit ≤ last_frame
      le_of k = omega (arith, ltb-false last_frame (total / unit) k)
  entries_same (Tempo new) h = refl
  entries_same Other h = refl
