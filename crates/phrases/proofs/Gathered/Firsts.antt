-- Which phrase begins first of those that begin at a place or behind it. Assumes nothing.
use Rattle.std.proofs.Common.{◌≡◌, ℕ, zero, suc, ◌<◌, ◌≤◌, Bool, true, false, cond, not, ◌&&◌, ltb, leb, Option, Some, None, MatchOption, List, get_or, refl, arith, ltb-false, ltb-true, leb-false, leb-true}
use Rattle.std.specs.Option.{option_map_or}
use Rattle.std.proofs.lemmas.Option.{MatchOption-at_some}
use borrow.Author.Tests.{not-true}
use Rattle.walks.proofs.Lists.Every.{both}
use Rattle.phrases.specs.declared.Phrase.{Phrase}
use Rattle.phrases.specs.Phrases.{no_phrase, no_samples}
use Rattle.phrases.specs.Gathering.{first_below, first_from}
use Rattle.phrases.proofs.Below.{below_more}
use Rattle.phrases.proofs.Rooms.{holds_some, some_holds}

-- of the first n
module _ (place : ℕ) (ps : List Phrase) where
  -- all that have samples begin before the place
  abbrev pub Over : ℕ → Type 0
  Over n = (i : ℕ) → i < n → 0 < (get_or ps i no_phrase).length → (get_or ps i no_phrase).start < place

  pub record First (n k : ℕ) : Type 0 where
    pub below : k < n
    pub some : 0 < (get_or ps k no_phrase).length
    pub behind : place ≤ (get_or ps k no_phrase).start
    pub least : (i : ℕ) → i < n → 0 < (get_or ps i no_phrase).length → place ≤ (get_or ps i no_phrase).start → (get_or ps k no_phrase).start ≤ (get_or ps i no_phrase).start

  -- that is said of what is found of the first n
  abbrev pub Found : ℕ → Option ℕ → Type 0
  Found n found = MatchOption found (Over n) (First n)

  -- one more looked at
  module _ (n : ℕ) where
    abbrev p : Phrase
    p = get_or ps n no_phrase

    here : Bool
    here = not (no_samples p) && leb place p.start

    here_is : here ≡ true → (0 < p.length) × (place ≤ p.start)
    unfolding here
    here_is e =
        let b = both (not (no_samples p)) (leb place p.start) e in
        (holds_some p (not-true (no_samples p) b.0), leb-true place p.start b.1)

    here_not : here ≡ false → 0 < p.length → p.start < place
    unfolding here
    here_not e h =
        let k : leb place p.start ≡ false = rw (some_holds p h) at e in
        leb-false place p.start k

    -- it is the first, or the one found still is
    Least : ℕ → ℕ → Type 0
    Least k i = 0 < (get_or ps i no_phrase).length → place ≤ (get_or ps i no_phrase).start → (get_or ps k no_phrase).start ≤ (get_or ps i no_phrase).start

    now : here ≡ true → ((i : ℕ) → i < n → Least n i) → First (suc n) n
    unfolding Least
    now e least = record { below = omega arith; some = (here_is e).0; behind = (here_is e).1; least = below_more (Least n) n least (λ a b. omega arith) }

    still : (k : ℕ) → First n k → Least k n → First (suc n) k
    unfolding Least
    still k f e = record { below = omega (arith, f.below); some = f.some; behind = f.behind; least = below_more (Least k) n f.least e }

    step : (h : Bool) → here ≡ h → (found : Option ℕ) → Found n found
        → Found (suc n) (cond (h && option_map_or (λ k. ltb p.start (get_or ps k no_phrase).start) found true) (Some n) found)
    unfolding Least
    step true e None over = now e (λ i j a b. absurd (omega (arith, over i j a)))
    step true e (Some k) f = go (ltb p.start (get_or ps k no_phrase).start) refl
      where
        go : (b : Bool) → ltb p.start (get_or ps k no_phrase).start ≡ b → Found (suc n) (cond b (Some n) (Some k))
        go true c = now e (λ i o a b. omega (arith, ltb-true p.start (get_or ps k no_phrase).start c, f.least i o a b))
        go false c = still k f (λ a b. ltb-false p.start (get_or ps k no_phrase).start c)
    step false e None over = below_more (λ (i : ℕ). 0 < (get_or ps i no_phrase).length → (get_or ps i no_phrase).start < place) n over (here_not e)
    step false e (Some k) f = still k f (λ a b. absurd (omega (arith, here_not e a)))

  pub first : (n : ℕ) → Found n (first_below place ps n)
  unfolding first_below here
  first zero = λ i h. absurd (omega arith)
  first (suc n) = step n (here n) refl (first_below place ps n) (first n)

  pub first_found : (k : ℕ) → first_from place ps ≡ Some k → First 8 k
  first_found k e = MatchOption-at_some (Over 8) (First 8) k e (first 8)
