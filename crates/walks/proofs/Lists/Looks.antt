-- What stands at a place of a list, and of one from which some are left out. Over any element type. Assumes nothing.
use mathlib.Core.Path.{◌≡◌, refl, sym, ap, ◌∙◌, subst}
use mathlib.Core.Bool.{Bool, true, false, cond}
use mathlib.Core.Logic.{◌⊎◌, inl, inr}
use mathlib.Core.List.{List, [], ◌∷◌, ◌++◌, map}
use mathlib.Core.Option.{none, some}
use Prim.Native.Nat.{ℕ, zero, suc, ◌+◌, ◌<◌}
use native.Mathlib.Omega.{arith}
use lib.ListN.{length, take, get_or, set, get_elem?}
use Rattle.walks.specs.Walks.{without}
use Rattle.walks.proofs.Lists.Each.{fewer}

module _ {A : Type 0} where
  pub never : (x : A) → none ≡ some x → ⊥
  never x h = let z : ◌≡◌ {A = ℕ} 0 1 = cc in omega arith

  pub look_below : (l : List A) (n : ℕ) (x : A) → get_elem? l n ≡ some x → n < length l
  look_below [] n x h = absurd (never x h)
  look_below (y ∷ l) zero x h = omega arith
  look_below (y ∷ l) (suc n) x h = omega (arith, look_below l n x h)

  pub look-value : (l : List A) (n : ℕ) (x d : A) → get_elem? l n ≡ some x → get_or l n d ≡ x
  look-value [] n x d h = absurd (never x h)
  look-value (y ∷ l) zero x d h = cc
  look-value (y ∷ l) (suc n) x d h = look-value l n x d h

  pub look_some : (l : List A) (n : ℕ) (d : A) → n < length l → get_elem? l n ≡ some (get_or l n d)
  look_some [] n d h = absurd (omega arith)
  look_some (y ∷ l) zero d h = refl
  look_some (y ∷ l) (suc n) d h = look_some l n d (omega arith)

  -- ---- one more at the end
  pub look_front : (l r : List A) (n : ℕ) (x : A) → get_elem? l n ≡ some x → get_elem? (l ++ r) n ≡ some x
  look_front [] r n x h = absurd (never x h)
  look_front (y ∷ l) r zero x h = h
  look_front (y ∷ l) r (suc n) x h = look_front l r n x h

  pub look_last : (l : List A) (x : A) → get_elem? (l ++ (x ∷ [])) (length l) ≡ some x
  look_last [] x = refl
  look_last (y ∷ l) x = look_last l x

  pub look_back : (l : List A) (y : A) (n : ℕ) (x : A) → get_elem? (l ++ (y ∷ [])) n ≡ some x → (get_elem? l n ≡ some x) ⊎ ((n ≡ length l) × (x ≡ y))
  look_back [] y zero x h = inr (refl, cc)
  look_back [] y (suc n) x h = absurd (never x h)
  look_back (z ∷ l) y zero x h = inl h
  look_back (z ∷ l) y (suc n) x h = on (look_back l y n x h)
    where
      on : (get_elem? l n ≡ some x) ⊎ ((n ≡ length l) × (x ≡ y)) → (get_elem? l n ≡ some x) ⊎ ((suc n ≡ suc (length l)) × (x ≡ y))
      on (inl k) = inl k
      on (inr k) = inr (ap suc k.0, k.1)

  -- ---- a store
  pub look_set_same : (l : List A) (n : ℕ) (x y : A) → get_elem? l n ≡ some x → get_elem? (set l n y) n ≡ some y
  look_set_same [] n x y h = absurd (never x h)
  look_set_same (z ∷ l) zero x y h = refl
  look_set_same (z ∷ l) (suc n) x y h = look_set_same l n x y h

  pub look_set_other : (l : List A) (i n : ℕ) (y : A) → (i ≡ n → ⊥) → get_elem? (set l i y) n ≡ get_elem? l n
  look_set_other [] i n y h = refl
  look_set_other (z ∷ l) zero zero y h = absurd (h refl)
  look_set_other (z ∷ l) zero (suc n) y h = refl
  look_set_other (z ∷ l) (suc i) zero y h = refl
  look_set_other (z ∷ l) (suc i) (suc n) y h = look_set_other l i n y (λ e. h (ap suc e))

-- ---- what is made of each
module _ {A : Type 0} (f : A → A) where
  pub look_map : (l : List A) (n : ℕ) (x : A) → get_elem? l n ≡ some x → get_elem? (map f l) n ≡ some (f x)
  look_map [] n x h = absurd (never x h)
  look_map (y ∷ l) zero x h = cc
  look_map (y ∷ l) (suc n) x h = look_map l n x h

  pub look_unmap : (l : List A) (n : ℕ) (y : A) → get_elem? (map f l) n ≡ some y → (x : A) × (get_elem? l n ≡ some x) × (y ≡ f x)
  look_unmap [] n y h = absurd (never y h)
  look_unmap (x ∷ l) zero y h = (x, refl, cc)
  look_unmap (x ∷ l) (suc n) y h = look_unmap l n y h

  pub take-map : (n : ℕ) (l : List A) → take n (map f l) ≡ map f (take n l)
  take-map zero l = refl
  take-map (suc n) [] = refl
  take-map (suc n) (x ∷ l) = ap (λ (r : List A). f x ∷ r) (take-map n l)

-- ---- some left out
module _ {A : Type 0} (p : A → Bool) where
  pub without_keep : (x : A) (l : List A) → p x ≡ false → without p (x ∷ l) ≡ x ∷ without p l
  unfolding without
  without_keep x l h = rw h

  pub without_drop : (x : A) (l : List A) → p x ≡ true → without p (x ∷ l) ≡ without p l
  unfolding without
  without_drop x l h = rw h

  -- one that stays stands behind those that stay before it
  abbrev pub rank : List A → ℕ → ℕ
  rank l n = length (without p (take n l))

  pub keep_look : (l : List A) (n : ℕ) (x : A) → get_elem? l n ≡ some x → p x ≡ false → get_elem? (without p l) (rank l n) ≡ some x
  unfolding without
  keep_look [] n x h k = absurd (never x h)
  keep_look (y ∷ l) zero x h k =
      let e : p y ≡ false = cc in
      subst (λ (r : List A). get_elem? r 0 ≡ some x) (sym (without_keep y l e)) h
  keep_look (y ∷ l) (suc n) x h k = go (p y) (keep_look l n x h k)
    where
      go : (b : Bool) → get_elem? (without p l) (rank l n) ≡ some x
          → get_elem? (cond b (without p l) (y ∷ without p l)) (length (cond b (without p (take n l)) (y ∷ without p (take n l)))) ≡ some x
      go true r = r
      go false r = r

  -- no two share a place, and their order is kept
  pub rank_order : (l : List A) (i n : ℕ) (x : A) → i < n → get_elem? l i ≡ some x → p x ≡ false → rank l i < rank l n
  unfolding without
  rank_order l i zero x o h k = absurd (omega arith)
  rank_order [] i (suc n) x o h k = absurd (never x h)
  rank_order (y ∷ l) zero (suc n) x o h k =
      let e : p y ≡ false = cc in
      subst (λ (r : List A). 0 < length r) (sym (without_keep y (take n l) e)) (omega arith)
  rank_order (y ∷ l) (suc i) (suc n) x o h k = go (p y) (rank_order l i n x (omega arith) h k)
    where
      go : (b : Bool) → rank l i < rank l n
          → length (cond b (without p (take i l)) (y ∷ without p (take i l))) < length (cond b (without p (take n l)) (y ∷ without p (take n l)))
      go true r = r
      go false r = omega arith

  -- whatever is left stood somewhere
  pub record Stood (l : List A) (k : ℕ) (x : A) : Type 0 where
    pub place : ℕ
    pub stood : get_elem? l place ≡ some x
    pub stays : p x ≡ false
    pub moves : rank l place ≡ k

  pub keep_stood : (l : List A) (k : ℕ) (x : A) → get_elem? (without p l) k ≡ some x → Stood l k x
  unfolding without
  keep_stood [] k x h = absurd (never x h)
  keep_stood (y ∷ l) k x h = go (p y) refl k h (keep_stood l)
    where
      further : (b : Bool) → p y ≡ b → (k j : ℕ) → Stood l k x → length (cond b (without p []) (y ∷ [])) + k ≡ j → Stood (y ∷ l) j x
      further true e k j s q = record {
        place = suc s.place;
        stood = s.stood;
        stays = s.stays;
        moves = ap length (without_drop y (take s.place l) e) ∙ omega (arith, s.moves);
      }
      further false e k j s q = record {
        place = suc s.place;
        stood = s.stood;
        stays = s.stays;
        moves = ap length (without_keep y (take s.place l) e) ∙ omega (arith, s.moves);
      }

      go : (b : Bool) → p y ≡ b → (k : ℕ) → get_elem? (cond b (without p l) (y ∷ without p l)) k ≡ some x
          → ((k : ℕ) (x : A) → get_elem? (without p l) k ≡ some x → Stood l k x) → Stood (y ∷ l) k x
      go true e k h f = further true e k k (f k x h) (omega arith)
      go false e zero h f = record { place = 0; stood = h; stays = subst (λ (z : A). p z ≡ false) (cc) e; moves = refl }
      go false e (suc k) h f = further false e k (suc k) (f k x h) (omega arith)

  pub without_fewer : (l : List A) (n : ℕ) (x : A) → get_elem? l n ≡ some x → p x ≡ true → length (without p l) < length l
  unfolding without
  without_fewer [] n x h k = absurd (never x h)
  without_fewer (y ∷ l) zero x h k =
      let e : p y ≡ true = cc in
      subst (λ (r : List A). length r < suc (length l)) (sym (without_drop y l e)) (omega (arith, fewer p l))
  without_fewer (y ∷ l) (suc n) x h k = go (p y) (without_fewer l n x h k)
    where
      go : (b : Bool) → length (without p l) < length l → length (cond b (without p l) (y ∷ without p l)) < suc (length l)
      go true h = omega arith
      go false h = omega arith
