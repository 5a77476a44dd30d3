-- What request 12/12 counts: the voices that a call moves up, told by where demand 3's `follow` takes them; and the
-- removal of voices one at a time, as the Rust does it. Definitions only. Assumes nothing.
use Rattle.std.specs.Prelude.{Bool, false, cond, List, [], ◌∷◌, ℕ, zero, suc, ◌+◌, ltb, length}
use Rattle.channel.specs.Channels.{live}
use Rattle.fates.specs.Places.{Place, at, gone, follow}
use Rattle.promises.specs.Runs.{World, Call, chan, event}

-- what stood at place n stands before it
unfoldable pub moves_up : Place → ℕ → Bool
moves_up (at k) n = ltb k n
moves_up gone n = false

-- of the first n places, those that move up
unfoldable pub up_of : (ℕ → Place) → ℕ → ℕ
up_of to zero = 0
up_of to (suc n) = up_of to n + cond (moves_up (to n) n) 1 0

-- how many of channel j's voices a call moves up
abbrev pub up_in : World → Call → ℕ → ℕ
up_in w c j = up_of (follow (event w c j) (chan w j)) (length (live (chan w j)))

-- f j + f (j + 1) + .., n of them
unfoldable pub sum_from : (ℕ → ℕ) → ℕ → ℕ → ℕ
sum_from f zero j = 0
sum_from f (suc n) j = f j + sum_from f n (j + 1)

-- ---- the removal that 12/12 replaces: the places are noted in a first walk, and then taken away from the last to the
-- first, each by moving up all that stand behind it
module _ {A : Type 0} where
  unfoldable pub remove_at : ℕ → List A → List A
  remove_at n [] = []
  remove_at zero (x ∷ xs) = xs
  remove_at (suc n) (x ∷ xs) = x ∷ remove_at n xs

  -- the places of those for which p holds, in order, counted from i
  unfoldable pub places_of : (A → Bool) → ℕ → List A → List ℕ
  places_of p i [] = []
  places_of p i (x ∷ xs) = cond (p x) (i ∷ places_of p (suc i) xs) (places_of p (suc i) xs)

  -- the last of the places is taken away first
  unfoldable pub taken_away : List ℕ → List A → List A
  taken_away [] xs = xs
  taken_away (n ∷ ns) xs = remove_at n (taken_away ns xs)
