-- Bytes of a file from a place to a place. Assumes nothing.
use mathlib.Core.Path.{◌≡◌, refl, sym, ap, ◌∙◌, subst}
use mathlib.Core.List.{List, [], ◌∷◌, ◌++◌}
use Prim.Native.Nat.{ℕ, zero, suc, ◌+◌, ◌≤◌, ◌<◌}
use native.Mathlib.Numerals.{add-one}
use native.Mathlib.Nat.{add-zero}
use native.Mathlib.Omega.{arith}
use lib.ListN.{length, take, drop, length-drop, drop_of_length-le}
use lib.Seq.{drop-cons}
use Rattle.octets.specs.Octets.{byte_at, number_of}
use Rattle.smf.specs.Fields.{two_at, three_at, four_at}

-- the bytes from `at` up to `next` are these
abbrev pub From : List ℕ → ℕ → List ℕ → ℕ → Type 0
From f at [] next = at ≡ next
From f at (b ∷ bytes) next = (byte_at f at ≡ b) × From f (at + 1) bytes next

module _ (f : List ℕ) where
  pub from_length : (at : ℕ) (bytes : List ℕ) (next : ℕ) → From f at bytes next → at + length bytes ≡ next
  from_length at [] next h = add-zero at ∙ h
  from_length at (b ∷ bytes) next h = omega (arith, from_length (at + 1) bytes next h.1)

  pub join : (at : ℕ) (xs : List ℕ) (mid : ℕ) (ys : List ℕ) (next : ℕ) → From f at xs mid → From f mid ys next → From f at (xs ++ ys) next
  join at [] mid ys next h k = subst (λ (n : ℕ). From f n ys next) (sym h) k
  join at (x ∷ xs) mid ys next h k = (h.0, join (at + 1) xs mid ys next h.1 k)

  -- the place between two runs of bytes
  pub record Split (at : ℕ) (xs ys : List ℕ) (next : ℕ) : Type 0 where
    pub mid : ℕ
    pub left : From f at xs mid
    pub right : From f mid ys next
    pub place : at + length xs ≡ mid
    pub up : mid ≤ next

  pub split : (at : ℕ) (xs ys : List ℕ) (next : ℕ) → From f at (xs ++ ys) next → Split at xs ys next
  split at [] ys next h = record {
    mid = at;
    left = refl;
    right = h;
    place = add-zero at;
    up = omega (arith, from_length at ys next h);
  }
  split at (x ∷ xs) ys next h =
      let s = split (at + 1) xs ys next h.1 in
      record {
        mid = s.mid;
        left = (h.0, s.left);
        right = s.right;
        place = omega (arith, s.place);
        up = s.up;
      }

  -- ---- the numbers of two, three and four bytes
  plus : (at m n : ℕ) (b : ℕ) → m + 1 ≡ n → byte_at f (at + m + 1) ≡ b → byte_at f (at + n) ≡ b
  plus at m n b e h =
      let same : at + n ≡ at + m + 1 = omega arith in
      ap (byte_at f) same ∙ h

  pub two_is : (at a b : ℕ) (rest : List ℕ) (next : ℕ) → From f at (a ∷ b ∷ rest) next → two_at f at ≡ number_of (a ∷ b ∷ [])
  unfolding two_at
  two_is at a b rest next h = rw (h.0, h.1.0)

  pub three_is : (at a b c : ℕ) (rest : List ℕ) (next : ℕ) → From f at (a ∷ b ∷ c ∷ rest) next → three_at f at ≡ number_of (a ∷ b ∷ c ∷ [])
  unfolding three_at
  three_is at a b c rest next h = rw (h.0, h.1.0, plus at 1 2 c refl h.1.1.0)

  pub four_is : (at a b c d : ℕ) (rest : List ℕ) (next : ℕ) → From f at (a ∷ b ∷ c ∷ d ∷ rest) next → four_at f at ≡ number_of (a ∷ b ∷ c ∷ d ∷ [])
  unfolding four_at
  four_is at a b c d rest next h =
      let fourth : byte_at f (at + 2 + 1) ≡ d = ap (byte_at f) (omega arith) ∙ h.1.1.1.0 in
      rw (h.0, h.1.0, plus at 1 2 c refl h.1.1.0, plus at 2 3 d refl fourth)

  -- ---- so many bytes
  unfoldable pub bytes_at : ℕ → ℕ → List ℕ
  bytes_at at zero = []
  bytes_at at (suc n) = byte_at f at ∷ bytes_at (at + 1) n

  pub bytes_length : (at n : ℕ) → length (bytes_at at n) ≡ n
  unfolding bytes_at
  bytes_length at zero = refl
  bytes_length at (suc n) = omega (arith, bytes_length (at + 1) n)

  pub bytes_from : (at n : ℕ) → From f at (bytes_at at n) (at + n)
  unfolding bytes_at
  bytes_from at zero = sym (add-zero at)
  bytes_from at (suc n) =
      let e : at + 1 + n ≡ at + suc n = omega arith in
      (refl, subst (λ (k : ℕ). From f (at + 1) (bytes_at (at + 1) n) k) e (bytes_from (at + 1) n))

  -- all from a place on
  rest-is : (at : ℕ) (bytes : List ℕ) → From f at bytes (length f) → drop at f ≡ bytes
  rest-is at [] h = drop_of_length-le f {i = at} (omega arith)
  rest-is at (b ∷ bytes) h =
      let inside : at < length f = omega (arith, from_length at (b ∷ bytes) (length f) h) in
      drop-cons f at 0 inside
      ∙ ap (λ (n : ℕ). byte_at f at ∷ drop n f) (sym (add-one at))
      ∙ ap (λ (l : List ℕ). byte_at f at ∷ l) (rest-is (at + 1) bytes h.1)
      ∙ ap (λ (c : ℕ). c ∷ bytes) h.0

  pub whole_is : (bytes : List ℕ) → From f 0 bytes (length f) → f ≡ bytes
  whole_is bytes h = rest-is 0 bytes h

  -- the bytes that a file has, from a place on
  rest_from : (at : ℕ) (bytes : List ℕ) → drop at f ≡ bytes → at ≤ length f → From f at bytes (length f)
  rest_from at [] e h = omega (arith, ap length e, length-drop at f)
  rest_from at (b ∷ bytes) e h =
      let inside : at < length f = omega (arith, ap length e, length-drop at f) in
      let more : drop at f ≡ byte_at f at ∷ drop (at + 1) f = drop-cons f at 0 inside ∙ ap (λ (n : ℕ). byte_at f at ∷ drop n f) (sym (add-one at)) in
      let first : byte_at f at ≡ b = cc in
      let rest : drop (at + 1) f ≡ bytes = cc in
      (first, rest_from (at + 1) bytes rest (omega arith))

  pub whole_from : From f 0 f (length f)
  whole_from = rest_from 0 f refl (omega arith)

  -- those before a place
  part_is : (at : ℕ) (bytes : List ℕ) (next : ℕ) → From f at bytes next → next ≤ length f → take (length bytes) (drop at f) ≡ bytes
  part_is at [] next h room = refl
  part_is at (b ∷ bytes) next h room =
      let inside : at < length f = omega (arith, from_length (at + 1) bytes next h.1) in
      ap (take (suc (length bytes))) (drop-cons f at 0 inside ∙ ap (λ (n : ℕ). byte_at f at ∷ drop n f) (sym (add-one at)))
      ∙ ap (λ (l : List ℕ). byte_at f at ∷ l) (part_is (at + 1) bytes next h.1 room)
      ∙ ap (λ (c : ℕ). c ∷ bytes) h.0

  pub before_is : (bytes : List ℕ) (next : ℕ) → From f 0 bytes next → next ≤ length f → take next f ≡ bytes
  before_is bytes next h room =
      let n : next ≡ length bytes = omega (arith, from_length 0 bytes next h) in
      ap (λ (k : ℕ). take k f) n ∙ part_is 0 bytes next h room
