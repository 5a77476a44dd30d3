-- The walk over the voices that lists their notes: one turn of it, and the room that a turn asks. Assumes nothing.
use mathlib.Core.Path.{◌≡◌, refl, sym, ap, ◌∙◌}
use mathlib.Core.Bool.{Bool, true, false, cond}
use mathlib.Core.List.{List, [], ◌∷◌, ◌++◌, map}
use Prim.Native.Nat.{ℕ, ◌+◌, ◌≤◌, ◌<◌}
use native.Mathlib.Omega.{arith}
use lib.ListN.{length, get_or, length-append}
use lib.Seq.{sets, slice}
use Rattle.walks.specs.Walks.{without}
use Rattle.walks.proofs.Lists.Loops.{Walk, next}
use Rattle.common_types.specs.Notes.{into_u64_of}
use Rattle.walks.proofs.Lists.Runs.{run-append}
use Rattle.voice.specs.declared.Voice.{Voice}
use Rattle.questions.specs.Questions.{notes_of}

-- ---- the notes of one voice
pub no_note : (v : Voice) → v.finished ≡ true → notes_of (v ∷ []) ≡ []
unfolding notes_of without
no_note v h = simp h

pub its_note : (v : Voice) → v.finished ≡ false → notes_of (v ∷ []) ≡ into_u64_of v.note ∷ []
unfolding notes_of without
its_note v h = simp h

pub one_note : (v : Voice) (r : ℕ) → r ≡ length (notes_of (v ∷ [])) → r ≤ 1
one_note v r counted = go v.finished refl
  where
    go : (b : Bool) → v.finished ≡ b → r ≤ 1
    go true e = omega (arith, ap length (no_note v e))
    go false e = omega (arith, ap length (its_note v e))

-- they come before those of the voices after it
pub notes_on : (v : Voice) (vs : List Voice) → notes_of (v ∷ vs) ≡ notes_of (v ∷ []) ++ notes_of vs
unfolding notes_of without
notes_on v vs = go v.finished
  where
    listed : List Voice → List ℕ
    listed us = map (λ (u : Voice). into_u64_of u.note) us

    rest : List Voice
    rest = without (λ (u : Voice). u.finished) vs

    go : (b : Bool) → listed (cond b rest (v ∷ rest)) ≡ listed (cond b [] (v ∷ [])) ++ listed rest
    go true = refl
    go false = refl

-- ---- what the rest of the walk gives, with k notes listed so far: the list, and how many notes there are
abbrev pub laid : List ℕ → ℕ → List Voice → List ℕ × ℕ
laid notes k vs = (sets notes k (notes_of vs), k + length (notes_of vs))

module _ (k r : ℕ) (v : Voice) (vs : List Voice) (counted : r ≡ length (notes_of (v ∷ []))) where
  pub count_on : k + length (notes_of (v ∷ vs)) ≡ k + r + length (notes_of vs)
  count_on = omega (arith, length-append (notes_of (v ∷ [])) (notes_of vs), ap length (notes_on v vs))

  pub laid_on : (notes next : List ℕ) → next ≡ sets notes k (notes_of (v ∷ [])) → laid notes k (v ∷ vs) ≡ laid next (k + r) vs
  laid_on notes next stored =
      ap (λ (n : ℕ). (sets notes k (notes_of (v ∷ vs)), n)) count_on
      ∙ ap (λ (l : List ℕ). (l, k + r + length (notes_of vs)))
      (ap (sets notes k) (notes_on v vs)
      ∙ sym (run-append notes (notes_of (v ∷ [])) (notes_of vs) k)
      ∙ simp (← stored, ← counted))

-- the notes of the voice whose turn it is have room where all have
pub turn-fits : (notes : List ℕ) (k : ℕ) {l : List Voice} {n i : ℕ} {goal : List ℕ} {total : ℕ} (d : Voice) → Walk (goal, total) (laid notes k) l n i
    → i < n → k + length (notes_of (get_or l i d ∷ [])) ≤ total
turn-fits notes k {l} {n} {i} d w h =
    let first = ap notes_of (next l i n d h w.within) ∙ notes_on (get_or l i d) (slice (i + 1) n l) in
    omega (
      arith,
      ap (λ (p : List ℕ × ℕ). p.1) w.same,
      ap length first,
      length-append (notes_of (get_or l i d ∷ [])) (notes_of (slice (i + 1) n l)),
    )
