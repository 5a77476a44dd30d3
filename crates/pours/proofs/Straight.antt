-- How far a plain voice goes straight on: up to the end of its loop or of the data, its next samples stand one after another. Assumes nothing.
use mathlib.Core.Path.{◌≡◌, sym, ap, ◌∙◌}
use Prim.Native.Nat.{ℕ, ◌+◌, ◌-◌, ◌%◌, ◌≤◌, ◌<◌}
use native.Mathlib.Nat.{mod-add-mod, mod-eq_of_lt}
use native.Mathlib.Omega.{arith}
use mathlib.Core.List.{List}
use lib.Ieee.{Float}
use Rattle.clip.specs.Plain.{plain_index}
use Rattle.pours.specs.Eases.{term_at, Added}
use Rattle.pours.proofs.Added.{restated, on}

mod_on : (x j n : ℕ) → x % n + j < n → (x + j) % n ≡ x % n + j
mod_on x j n below = sym (mod-add-mod x n j) ∙ mod-eq_of_lt below

-- the place n samples on
pub place_next : (place round f at n : ℕ) → at ≡ (place + f) % round → (at + n) % round ≡ (place + (f + n)) % round
place_next place round f at n is = ap (λ (x : ℕ). (x + n) % round) is ∙ mod-add-mod (place + f) round n ∙ ap (λ (x : ℕ). x % round) (omega arith)

module _ (start place round total : ℕ) (m : List ℕ) (level : Float) where
  abbrev pub term : ℕ → Float
  term k = term_at m level (plain_index start round total (place + k))

  module _ (f at from n : ℕ) (at-is : at ≡ (place + f) % round) (from_is : from ≡ (start + at) % total) (in_loop : at + n ≤ round) (in_data : from + n ≤ total) where
    straight : (j : ℕ) → j < n → plain_index start round total (place + (f + j)) ≡ from + j
    straight j below =
        let here : (place + (f + j)) % round ≡ at + j =
        ap (λ (x : ℕ). x % round) (omega arith)
        ∙ mod_on (place + f) j round (omega (arith, sym at-is, in_loop, below))
        ∙ ap (λ (x : ℕ). x + j) (sym at-is) in
        ap (λ (x : ℕ). (start + x) % total) here
        ∙ ap (λ (x : ℕ). x % total) (omega arith)
        ∙ mod_on (start + at) j total (omega (arith, sym from_is, in_data, below))
        ∙ ap (λ (x : ℕ). x + j) (sym from_is)

    -- the part that is poured is the next n terms
    pub further : {before sums after : List Float} → Added term 0 f before sums → Added (λ (k : ℕ). term_at m level (from + (k - f))) f (f + n) sums after → Added term 0 (f + n) before after
    further done part =
        on done (omega arith) (omega arith)
        (restated part term (λ k low high. ap (term_at m level) (sym (straight (k - f) (omega (arith, low, high))) ∙ ap (λ (x : ℕ). plain_index start round total (place + x)) (omega (arith, low)))))
