-- What words moved down are: those that stood there before, in front of the rest, behind what stood below; and that a copy word by word
-- moves them. Assumes nothing.
use Rattle.std.proofs.Common.{◌≡◌, ℕ, suc, ◌+◌, ◌-◌, ◌<◌, ◌≤◌, List, ◌++◌, length, get_or, take, drop, set, sym, ap, ◌∙◌, append_assoc, add-one, arith, length-drop, take-append-drop, length-take-le, get_or-drop, drop-drop, take_at, drop_at}
use lib.Seq.{paste, paste-suc, length-paste, drop-paste, take-paste, take-append-le, drop-append-le}
use Rattle.phrases.specs.Gathering.{moved_down}

-- a part that ends within the front
pub front_part : (l r : List ℕ) (a b : ℕ) → a + b ≤ length l → take b (drop a (l ++ r)) ≡ take b (drop a l)
front_part l r a b h =
    ap (take b) (drop-append-le a l r (omega arith))
    ∙ take-append-le b (drop a l) r (omega (arith, length-drop a l))

-- parts behind a place where two memories are the same
pub drop_further : (l m : List ℕ) (a b : ℕ) → drop a l ≡ drop a m → a ≤ b → drop b l ≡ drop b m
drop_further l m a b e h =
    let c : a + (b - a) ≡ b = omega arith in
    ap (λ (k : ℕ). drop k l) (sym c) ∙ sym (drop-drop (b - a) a l) ∙ ap (drop (b - a)) e ∙ drop-drop (b - a) a m ∙ ap (λ (k : ℕ). drop k m) c

pub as_pasted : (from to n : ℕ) (m : List ℕ) → moved_down from to n m ≡ paste m to (drop from m) n
unfolding moved_down
as_pasted from to n m = sym (append_assoc (take to m) (take n (drop from m)) (drop (to + n) m))

module _ (from to n : ℕ) (m : List ℕ) (low : to ≤ from) (inside : from + n ≤ length m) where
  enough : n ≤ length (drop from m)
  enough = omega (arith, length-drop from m)

  pub moved_length : length (moved_down from to n m) ≡ length m
  moved_length = ap length (as_pasted from to n m) ∙ length-paste m to (drop from m) n (omega arith) enough

  pub moved_rest : drop (to + n) (moved_down from to n m) ≡ drop (to + n) m
  moved_rest = ap (drop (to + n)) (as_pasted from to n m) ∙ drop-paste m to (drop from m) n (omega arith) enough

  pub moved_there : take n (drop to (moved_down from to n m)) ≡ take n (drop from m)
  unfolding moved_down
  moved_there =
      ap (take n) (drop_at (take to m) (take n (drop from m) ++ drop (to + n) m) to (length-take-le to m (omega arith)))
      ∙ take_at (take n (drop from m)) (drop (to + n) m) n (length-take-le n (drop from m) enough)

  pub moved_below : (a b : ℕ) → a + b ≤ to → take b (drop a (moved_down from to n m)) ≡ take b (drop a m)
  unfolding moved_down
  moved_below a b h =
      let k : a + b ≤ length (take to m) = omega (arith, length-take-le to m (omega arith)) in
      front_part (take to m) (take n (drop from m) ++ drop (to + n) m) a b k
      ∙ sym (front_part (take to m) (drop to m) a b k)
      ∙ ap (λ (l : List ℕ). take b (drop a l)) (take-append-drop to m)

  pub moved_front : take (to + n) (moved_down from to n m) ≡ take to m ++ take n (drop from m)
  moved_front = ap (take (to + n)) (as_pasted from to n m) ∙ take-paste m to (drop from m) n (omega arith) enough

  -- what isn't passed yet stands as it did
  moved_at : get_or (moved_down from to n m) (from + n) 0 ≡ get_or (drop from m) n 0
  moved_at =
      let all : List ℕ = moved_down from to n m in
      let e : from + n ≡ (to + n) + (from - to) = omega arith in
      ap (λ (k : ℕ). get_or all k 0) e
      ∙ sym (get_or-drop (to + n) all (from - to) 0)
      ∙ ap (λ (l : List ℕ). get_or l (from - to) 0) moved_rest
      ∙ get_or-drop (to + n) m (from - to) 0
      ∙ ap (λ (k : ℕ). get_or m k 0) (sym e)
      ∙ sym (get_or-drop from m n 0)

  -- one word more
  pub moved_next : from + n < length m → set (moved_down from to n m) (to + n) (get_or (moved_down from to n m) (from + n) 0) ≡ moved_down from to (n + 1) m
  moved_next h =
      ap (set (moved_down from to n m) (to + n)) moved_at
      ∙ ap (λ (l : List ℕ). set l (to + n) (get_or (drop from m) n 0)) (as_pasted from to n m)
      ∙ paste-suc m to (drop from m) n 0 (omega arith) (omega (arith, length-drop from m))
      ∙ sym (ap (λ (k : ℕ). moved_down from to k m) (add-one n) ∙ as_pasted from to (suc n) m)

-- what stays where it stands
pub moved_same : (at n : ℕ) (m : List ℕ) → moved_down at at n m ≡ m
unfolding moved_down
moved_same at n m =
    ap (λ (r : List ℕ). take at m ++ (take n (drop at m) ++ r)) (sym (drop-drop n at m))
    ∙ ap (λ (r : List ℕ). take at m ++ r) (take-append-drop n (drop at m))
    ∙ take-append-drop at m
