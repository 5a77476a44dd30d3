-- The first of a list, each made something else, and the others as they were; and what a walk over one list after another gives. Over any element type. Assumes nothing.
use mathlib.Core.Path.{◌≡◌, refl, sym, ap, ◌∙◌, subst}
use Prim.Native.Nat.{ℕ, zero, suc, ◌+◌, ◌-◌, ◌≤◌, ◌<◌}
use native.Mathlib.Omega.{arith}
use mathlib.Core.List.{List, [], ◌∷◌, ◌++◌, map}
use lib.ListN.{length, take, drop, get_or, set, take-append-drop, length-map, get_or-map, get_or-append}
use lib.Seq.{sets, slice, length-take-le, take-suc, drop_at, get_or-take, get_or-drop}
use Rattle.std.specs.List.{fold}
use Rattle.walks.specs.Each.{Each}
use Rattle.walks.proofs.Lists.Looks.{take-map}
use Rattle.walks.proofs.Lists.Loops.{get_d_any}
use Rattle.walks.proofs.Lists.Stored.{fronted_next}

module _ {A : Type 0} where
  -- ---- each made something else
  pub map-none : (f : A → A) → ((x : A) → f x ≡ x) → (l : List A) → map f l ≡ l
  map-none f same [] = refl
  map-none f same (x ∷ l) = λ i. same x i ∷ map-none f same l i

  pub map_twice : (f g h : A → A) → ((x : A) → g (f x) ≡ h x) → (l : List A) → map g (map f l) ≡ map h l
  map_twice f g h same [] = refl
  map_twice f g h same (x ∷ l) = λ i. same x i ∷ map_twice f g h same l i

  -- ---- only the first n
  module _ (f : A → A) (l : List A) (n : ℕ) where
    abbrev pub firsts : List A
    firsts = map f (take n l) ++ drop n l

    pub firsts_none : ((x : A) → f x ≡ x) → firsts ≡ l
    firsts_none same = ap (λ (r : List A). r ++ drop n l) (map-none f same (take n l)) ∙ take-append-drop n l

    module _ (within : n ≤ length l) where
      pub firsts_front : length (map f (take n l)) ≡ n
      firsts_front = length-map (take n l) f ∙ length-take-le n l within

      -- before whatever stands behind them
      pub firsts_at : (rest : List A) (d : A) (j : ℕ) → j < n → get_or (map f (take n l) ++ rest) j d ≡ f (get_or l j d)
      firsts_at rest d j below =
          let low : j < length (map f (take n l)) = let e = firsts_front in omega (arith, below, e) in
          get_or-append (map f (take n l)) rest d j low ∙ get_d_any (map f (take n l)) j d (f d) low ∙ get_or-map f (take n l) j d ∙ ap f (get_or-take n l j d below)

      -- the others are as they were
      pub firsts_else : (d : A) (j : ℕ) → n ≤ j → get_or firsts j d ≡ get_or l j d
      firsts_else d j far =
          let at : n + (j - n) ≡ j = omega (arith, far) in
          let rest : drop n firsts ≡ drop n l = drop_at (map f (take n l)) (drop n l) n firsts_front in
          ap (λ (k : ℕ). get_or firsts k d) (sym at) ∙ sym (get_or-drop n firsts (j - n) d) ∙ ap (λ (r : List A). get_or r (j - n) d) rest ∙ get_or-drop n l (j - n) d ∙ ap (λ (k : ℕ). get_or l k d) at

    -- one more
    pub firsts_next : (d : A) → n < length l → set firsts n (f (get_or l n d)) ≡ map f (take (suc n) l) ++ drop (suc n) l
    firsts_next d below =
        ap (λ (r : List A). set (r ++ drop n l) n (f (get_or l n d))) (sym (take-map f n l))
        ∙ ap (set (take n (map f l) ++ drop n l) n) (sym (get_or-map f l n d))
        ∙ fronted_next (map f l) l n (f d) (omega (arith, below, length-map l f)) below
        ∙ ap (λ (r : List A). r ++ drop (suc n) l) (take-map f (suc n) l)

  -- what holds of each of the first
  pub each_first : (P : A → Type 0) (d : A) (l : List A) (n : ℕ) → n ≤ length l → ((i : ℕ) → i < n → P (get_or l i d)) → Each P (take n l)
  unfolding Each
  each_first P d l zero within holds = tt
  each_first P d [] (suc n) within holds = absurd (omega (arith, within))
  each_first P d (x ∷ l) (suc n) within holds = (holds 0 (omega arith), each_first P d l n (omega (arith, within)) (λ i low. holds (suc i) (omega (arith, low))))

-- ---- a run of stores leaves what stands before it
module _ {A : Type 0} where
  sets_cons : (x : A) (l : List A) (j : ℕ) (ys : List A) → sets (x ∷ l) (suc j) ys ≡ x ∷ sets l j ys
  sets_cons x l j [] = refl
  sets_cons x l j (y ∷ ys) = sets_cons x (set l j y) (suc j) ys

  sets_seam : (xs l ys : List A) → sets (xs ++ l) (length xs) ys ≡ xs ++ sets l 0 ys
  sets_seam [] l ys = refl
  sets_seam (x ∷ xs) l ys = sets_cons x (xs ++ l) (length xs) ys ∙ ap (λ (r : List A). x ∷ r) (sets_seam xs l ys)

  slice_seam : (n : ℕ) (xs l : List A) → length xs ≤ length l → slice (length xs) n (xs ++ drop (length xs) l) ≡ slice (length xs) n l
  slice_seam n [] l within = refl
  slice_seam n (x ∷ xs) [] within = absurd (omega (arith, within))
  slice_seam zero (x ∷ xs) (y ∷ l) within = refl
  slice_seam (suc n) (x ∷ xs) (y ∷ l) within = slice_seam n xs l (omega (arith, within))

  store_seam : (xs l ys : List A) → length xs ≤ length l → sets l 0 (xs ++ ys) ≡ xs ++ sets (drop (length xs) l) 0 ys
  store_seam [] l ys within = refl
  store_seam (x ∷ xs) [] ys within = absurd (omega (arith, within))
  store_seam (x ∷ xs) (y ∷ l) ys within = sets_cons x l 0 (xs ++ ys) ∙ ap (λ (r : List A). x ∷ r) (store_seam xs l ys (omega (arith, within)))

  -- of a front that is n long
  module _ (n : ℕ) (xs : List A) (long : length xs ≡ n) where
    pub sets_behind : (l ys : List A) → sets (xs ++ l) n ys ≡ xs ++ sets l 0 ys
    sets_behind l ys = subst (λ (k : ℕ). sets (xs ++ l) k ys ≡ xs ++ sets l 0 ys) long (sets_seam xs l ys)

    module _ (l : List A) (within : n ≤ length l) where
      pub slice_behind : (most : ℕ) → slice n most (xs ++ drop n l) ≡ slice n most l
      slice_behind most = subst (λ (k : ℕ). slice k most (xs ++ drop k l) ≡ slice k most l) long (slice_seam most xs l (omega (arith, within, long)))

      pub store_behind : (ys : List A) → sets l 0 (xs ++ ys) ≡ xs ++ sets (drop n l) 0 ys
      store_behind ys = subst (λ (k : ℕ). sets l 0 (xs ++ ys) ≡ xs ++ sets (drop k l) 0 ys) long (store_seam xs l ys (omega (arith, within, long)))

-- ---- a walk over one list after another, and over what is made of each
module _ {A S : Type 0} (f : S → A → S) where
  pub fold-append : (s : S) (xs ys : List A) → fold f s (xs ++ ys) ≡ fold f (fold f s xs) ys
  fold-append s [] ys = refl
  fold-append s (x ∷ xs) ys = fold-append (f s x) xs ys

  pub fold-map : (g : A → A) (h : S → A → S) → ((s : S) (x : A) → f s (g x) ≡ h s x) → (s : S) (xs : List A) → fold f s (map g xs) ≡ fold h s xs
  fold-map g h same s [] = refl
  fold-map g h same s (x ∷ xs) = fold-map g h same (f s (g x)) xs ∙ ap (λ (r : S). fold h r xs) (same s x)

  -- one more
  pub fold_next : (s : S) (l : List A) (n : ℕ) (d : A) → n < length l → fold f s (take (suc n) l) ≡ f (fold f s (take n l)) (get_or l n d)
  fold_next s l n d below = ap (fold f s) (take-suc l n d below) ∙ fold-append s (take n l) (get_or l n d ∷ [])
