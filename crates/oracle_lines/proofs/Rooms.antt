-- A room of bytes that are 0 from a place on.
use Rattle.std.proofs.Common.{◌≡◌, ℕ, ◌+◌, ◌-◌, ◌≤◌, ◌++◌, List, length, drop, replicate, drop-drop, length-drop, length-take-le, ap, ◌∙◌, arith}
use Rattle.std.proofs.lemmas.List.{drop-replicate, replicate-append-replicate, length-replicate}
use Rattle.std.proofs.lemmas.Slice.{drop-put_mid}
use borrow.Rule.Slice.PartMut.{put_mid, post_of, same_len_mid}

abbrev pub IsRoom : ℕ → ℕ → List ℕ → Type 0
IsRoom room a xs = (a ≤ room) × (length xs ≡ room) × (drop a xs ≡ replicate (room - a) 0)

-- From a later place on they are 0 too.
rest_of_rest : (room a k : ℕ) (xs : List ℕ)
    → drop a xs ≡ replicate (room - a) 0 → drop (a + k) xs ≡ replicate (room - (a + k)) 0
rest_of_rest room a k xs rest =
    rw (← drop-drop k a xs, rest, drop-replicate {X = ℕ} k (room - a) 0) (ap (λ n. replicate {A = ℕ} n 0) (omega arith))

-- After k bytes are written at a, that place is their end.
pub IsRoom-put_mid : (room a k n : ℕ) (xs ys : List ℕ) → IsRoom room a xs → n ≡ a + k → n ≤ room → length ys ≡ k
    → IsRoom room n (put_mid a k xs ys)
IsRoom-put_mid room a k n xs ys h end fits long =
    let part = length-take-le k (drop a xs) (omega (arith, length-drop a xs, h.1)) in
    let rest : drop (a + k) (put_mid a k xs ys) ≡ replicate (room - (a + k)) 0 =
    drop-put_mid a k xs ys (a + k) (omega arith) (omega (arith, h.1)) long ∙ rest_of_rest room a k xs h.2 in
    (fits, same_len_mid a k xs ys (omega (arith, part, long)) ∙ h.1, rw end rest)

-- After the first a bytes are made 0, that place is the first.
pub IsRoom-emptied : (room a : ℕ) (xs ys : List ℕ) → IsRoom room a xs → ys ≡ replicate a 0
    → IsRoom room 0 (ys ++ post_of 0 a xs)
IsRoom-emptied room a xs ys h zeros =
    let all : ys ++ post_of 0 a xs ≡ replicate room 0 =
    rw (zeros, h.2, replicate-append-replicate {A = ℕ} a (room - a) 0) (ap (λ n. replicate {A = ℕ} n 0) (omega (arith, h.0))) in
    let same : room - 0 ≡ room = omega arith in
    (omega arith, ap (λ l. length l) all ∙ length-replicate {A = ℕ} room 0, rw (same) all)
