-- What the tests of a file say where they hold, and where the chunks that are met stand. Assumes nothing.
use Rattle.std.specs.Prelude.{Option, Some, None}
use mathlib.Core.Path.{◌≡◌, refl, subst}
use mathlib.Core.Bool.{Bool, true, false, cond}
use mathlib.Core.List.{List}
use mathlib.Core.Logic.{◌⊎◌, inl, inr, ⊎_elim}
use Prim.Native.Nat.{ℕ, zero, suc, ◌+◌, ◌*◌, ◌/◌, ◌%◌, ◌≤◌, ◌<◌, zero-le}
use native.Mathlib.Omega.{arith}
use lib.Dec.{ltb, leb, eqb}
use lib.ListN.{length}
use borrow.Author.Tests.{eqb-true, leb-true, ltb-false, eq-eqb, ne_eqb}
use Rattle.walks.proofs.Lists.Every.{both as and_both}
use Rattle.wave.specs.Fields.{two_at, four_at, riff_id, wave_id, format_id, fact_id, data_id}
use Rattle.wave.specs.Reader.{padded_at, nowhere, missing, met_of, and_then, chunk_at, walk_from, walk_of, good_riff, channels_at, good_format, good_fact, counted_judged, judged_at, judged_in, file_judged}
use Rattle.wave.specs.declared.chunks.Places.{Places}
use Rattle.wave.specs.declared.Judged.TheVariants.{Is, Refused}

-- ---- tests

-- a test that picks one of two
pub both : {A : Type 0} (P : A → Type 0) (b : Bool) (x y : A) → (b ≡ true → P x) → (b ≡ false → P y) → P (cond b x y)
both P true x y h k = h refl
both P false x y h k = k refl

pub record RiffIs (f : List ℕ) : Type 0 where
  pub long : 12 ≤ length f
  pub riff : four_at f 0 ≡ riff_id
  pub size : 8 + four_at f 4 ≡ length f
  pub wave : four_at f 8 ≡ wave_id

pub riff_true : (f : List ℕ) → good_riff f ≡ true → RiffIs f
unfolding good_riff
riff_true f e =
    let a = and_both (leb 12 (length f)) _ e in
    let b = and_both (eqb (four_at f 0) riff_id) _ a.1 in
    let c = and_both (eqb (8 + four_at f 4) (length f)) _ b.1 in
    record { long = leb-true _ _ a.0; riff = eqb-true _ _ b.0; size = eqb-true _ _ c.0; wave = eqb-true _ _ c.1 }

pub record FormatIs (f : List ℕ) (at : ℕ) : Type 0 where
  pub size : four_at f (at + 4) ≡ 18
  pub tag : two_at f (at + 8) ≡ 3
  pub some : 1 ≤ channels_at f at
  pub block : two_at f (at + 20) ≡ 4 * channels_at f at
  pub bits : two_at f (at + 22) ≡ 32
  pub extra : two_at f (at + 24) ≡ 0

pub format_true : (f : List ℕ) (at : ℕ) → good_format f at ≡ true → FormatIs f at
unfolding good_format
format_true f at e =
    let a = and_both (eqb (four_at f (at + 4)) 18) _ e in
    let b = and_both (eqb (two_at f (at + 8)) 3) _ a.1 in
    let c = and_both (leb 1 (channels_at f at)) _ b.1 in
    let d = and_both (eqb (two_at f (at + 20)) (4 * channels_at f at)) _ c.1 in
    let g = and_both (eqb (two_at f (at + 22)) 32) _ d.1 in
    record {
      size = eqb-true _ _ a.0;
      tag = eqb-true _ _ b.0;
      some = leb-true _ _ c.0;
      block = eqb-true _ _ d.0;
      bits = eqb-true _ _ g.0;
      extra = eqb-true _ _ g.1;
    }

-- ---- answers
module _ (f : List ℕ) (p : Places) (block size : ℕ) where
  pub counted_uneven : (size % block ≡ 0 → ⊥) → counted_judged f p block size ≡ Refused
  unfolding counted_judged
  counted_uneven h = simp (ne_eqb _ _ h)

  pub counted_other : size % block ≡ 0 → good_fact f p.fact (size / block) ≡ false → counted_judged f p block size ≡ Refused
  unfolding counted_judged
  counted_other h k = simp (eq-eqb _ _ h, k)

  pub counted_is : size % block ≡ 0 → good_fact f p.fact (size / block) ≡ true
      → counted_judged f p block size ≡ Is (record { rate = four_at f (p.format + 12); channels = channels_at f p.format; samples = size / block; first = p.words + 8 })
  unfolding counted_judged
  counted_is h k = simp (eq-eqb _ _ h, k)

module _ (f : List ℕ) (p : Places) where
  pub judged_none : p.words ≡ 0 → judged_at f p ≡ Refused
  unfolding judged_at
  judged_none h = simp (eq-eqb _ _ h)

  pub judged_other : (p.words ≡ 0 → ⊥) → good_format f p.format ≡ false → judged_at f p ≡ Refused
  unfolding judged_at
  judged_other h k = simp (ne_eqb _ _ h, k)

  pub judged_is : (p.words ≡ 0 → ⊥) → good_format f p.format ≡ true → judged_at f p ≡ counted_judged f p (4 * channels_at f p.format) (four_at f (p.words + 4))
  unfolding judged_at
  judged_is h k = simp (ne_eqb _ _ h, k)

-- ---- the chunks that are met stand in the file, and `data` with its body
abbrev Ends : List ℕ → ℕ → Type 0
Ends f at = at + 8 + four_at f (at + 4) ≤ length f

abbrev pub Within : List ℕ → Option Places → Type 0
Within f (Some p) = (p.format ≤ length f) × ((p.words ≡ 0) ⊎ Ends f p.words) × (p.fact ≤ length f)
Within f None = Unit {0}

meet_within : (f : List ℕ) (id at : ℕ) (p : Places) → Ends f at → Within f (Some p) → Within f (met_of id at p)
unfolding met_of
meet_within f id at p h k =
    both (Within f) (eqb id format_id) _ _
    (λ _. both (Within f) (missing p.format) _ _ (λ _. (omega arith, k.1, k.2)) (λ _. tt))
    (λ _. both (Within f) (eqb id data_id) _ _
    (λ _. both (Within f) (missing p.format) _ _ (λ _. tt) (λ _. both (Within f) (missing p.words) _ _ (λ _. (k.0, inr h, k.2)) (λ _. tt)))
    (λ _. both (Within f) (eqb id fact_id) _ _
    (λ _. both (Within f) (missing p.fact) _ _ (λ _. (k.0, k.1, omega arith)) (λ _. tt))
    (λ _. k)))

on_within : (f : List ℕ) (m : Option Places) (behind : Places → Option Places) → Within f m → ((q : Places) → Within f (Some q) → Within f (behind q)) → Within f (and_then m behind)
on_within f (Some q) behind h k = k q h
on_within f None behind h k = tt

walk_within : (n : ℕ) (f : List ℕ) (at : ℕ) (p : Places) → Within f (Some p) → Within f (walk_from n f at p)
unfolding walk_from chunk_at padded_at
walk_within zero f at p k = k
walk_within (suc n) f at p k =
    both (Within f) (leb (length f) at) _ _ (λ _. k)
    (λ _. both (Within f) (ltb (length f) (at + 8)) _ _ (λ _. tt)
    (λ _. both (Within f) (ltb (length f) (at + 8 + padded_at f at)) _ _ (λ _. tt)
    (λ whole. on_within f (met_of (four_at f at) at p) (walk_from n f (at + 8 + padded_at f at))
    (meet_within f (four_at f at) at p (omega (arith, ltb-false (length f) (at + 8 + padded_at f at) whole)) k)
    (λ q h. walk_within n f (at + 8 + padded_at f at) q h))))

pub places_within : (f : List ℕ) (p : Places) → walk_of f ≡ Some p → Within f (Some p)
unfolding walk_of
places_within f p e = subst (Within f) e (walk_within (length f) f 12 nowhere (zero-le, inl refl, zero-le))

pub places_below : (f : List ℕ) (p : Places) (n : ℕ) → walk_of f ≡ Some p → length f < n → (p.format < n) × (p.words < n) × (p.fact < n)
places_below f p n e h =
    let w = places_within f p e in
    (omega arith, ⊎_elim (λ z. omega arith) (λ ends. omega arith) w.1, omega arith)

-- ---- the file
pub judged_riff : (f : List ℕ) (m : Option Places) → good_riff f ≡ true → walk_of f ≡ m → file_judged f ≡ judged_in f m
unfolding file_judged
judged_riff f m h e = rw (h, e)

pub judged_no_riff : (f : List ℕ) → good_riff f ≡ false → file_judged f ≡ Refused
unfolding file_judged
judged_no_riff f h = rw h
