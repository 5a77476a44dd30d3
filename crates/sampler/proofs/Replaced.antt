-- The memory with one channel's part replaced by a list as long: that part is the list, and the others are as they were. Assumes nothing.
use mathlib.Core.Path.{◌≡◌, refl, sym, ap, ◌∙◌}
use mathlib.Core.Bool.{Bool, true, false}
use mathlib.Core.Logic.{◌≢◌, ⊎_elim}
use mathlib.Core.List.{List, [], ◌∷◌, ◌++◌, append_assoc}
use Prim.Native.Nat.{ℕ, zero, suc, ◌+◌, ◌-◌, ◌*◌, ◌≤◌, ◌<◌}
use native.Mathlib.Nat.{le_trans, le_of_eq, mul-le-mul_right, suc-mul, eq-or-lt_of_le}
use native.Mathlib.Omega.{arith}
use borrow.Author.Tests.{ltb-true, ltb-false}
use lib.Dec.{ltb}
use lib.ListN.{length, take, drop, length-append, length-take, length-drop}
use lib.Seq.{length-take-le, take-append-le, take-take, drop-append-add, drop-drop, drop_at, take_at}
use Rattle.sampler.specs.Samplers.{part_of}
use Rattle.sampler.specs.declared.Sampler.{Sampler}

-- ---- parts of a list
module _ {A : Type 0} where
  front_part : (n a b : ℕ) (l r : List A) → a + n ≤ b → b ≤ length l → take n (drop a (take b l ++ r)) ≡ take n (drop a l)
  front_part n zero b l r h k = take-append-le n (take b l) r (omega (arith, length-take-le b l k)) ∙ take-take n b l (omega arith)
  front_part n (suc a) zero l r h k = absurd (omega arith)
  front_part n (suc a) (suc b) [] r h k = absurd (omega arith)
  front_part n (suc a) (suc b) (x ∷ l) r h k = front_part n a b l r (omega arith) (omega arith)

  back_part : (a b : ℕ) (p l : List A) → length p ≡ b → b ≤ a → drop a (p ++ drop b l) ≡ drop a l
  back_part a b p l h k =
      let e : a ≡ length p + (a - b) = omega arith in
      let f : b + (a - b) ≡ a = omega arith in
      ap (λ (n : ℕ). drop n (p ++ drop b l)) e ∙ drop-append-add p (drop b l) (a - b) ∙ drop-drop (a - b) b l ∙ ap (λ (n : ℕ). drop n l) f

module _ (s : Sampler) (i : ℕ) (m k : List ℕ) where
  abbrev pub replaced : List ℕ
  replaced = take (i * s.capacity) m ++ (k ++ drop (i * s.capacity + s.capacity) m)

  module _ (within : i * s.capacity + s.capacity ≤ length m) (long : length k ≡ s.capacity) where
    pub replaced_length : length replaced ≡ length m
    replaced_length = simp (length-append, length-take, length-drop, long) (omega arith)

    front_length : length (take (i * s.capacity) m ++ k) ≡ i * s.capacity + s.capacity
    front_length = omega (arith, length-append (take (i * s.capacity) m) k, length-take-le (i * s.capacity) m (omega arith), long)

    pub replaced_behind : (a : ℕ) → i * s.capacity + s.capacity ≤ a → drop a replaced ≡ drop a m
    replaced_behind a h =
        ap (drop a) (sym (append_assoc (take (i * s.capacity) m) k (drop (i * s.capacity + s.capacity) m)))
        ∙ back_part a (i * s.capacity + s.capacity) (take (i * s.capacity) m ++ k) m front_length h

    later : (j : ℕ) → i < j → part_of s j replaced ≡ part_of s j m
    unfolding part_of
    later j o =
        ap (take s.capacity) (replaced_behind (j * s.capacity) (le_trans (le_of_eq (sym (suc-mul i s.capacity))) (mul-le-mul_right s.capacity o)))

    earlier : (j : ℕ) → j < i → part_of s j replaced ≡ part_of s j m
    unfolding part_of
    earlier j o =
        let h : j * s.capacity + s.capacity ≤ i * s.capacity = le_trans (le_of_eq (sym (suc-mul j s.capacity))) (mul-le-mul_right s.capacity o) in
        front_part s.capacity (j * s.capacity) (i * s.capacity) m _ h (omega arith)

    pub replaced_apart : (j : ℕ) → j ≢ i → part_of s j replaced ≡ part_of s j m
    replaced_apart j e = go (ltb i j) refl
      where
        go : (b : Bool) → ltb i j ≡ b → part_of s j replaced ≡ part_of s j m
        go true h = later j (ltb-true i j h)
        go false h = ⊎_elim (λ q. absurd (e q)) (λ q. earlier j q) (eq-or-lt_of_le (ltb-false i j h))

    pub replaced_own : part_of s i replaced ≡ k
    unfolding part_of
    replaced_own =
        ap (take s.capacity) (drop_at (take (i * s.capacity) m) (k ++ drop (i * s.capacity + s.capacity) m) (i * s.capacity) (length-take-le (i * s.capacity) m (omega arith)))
        ∙ take_at k (drop (i * s.capacity + s.capacity) m) s.capacity long
