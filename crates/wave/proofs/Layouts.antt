-- Where the words of a file stand in a memory, and what has room. Assumes nothing.
use mathlib.Core.Path.{◌≡◌, refl, sym, ap, ◌∙◌}
use mathlib.Core.Bool.{Bool, true, false, ◌&&◌, true≢false}
use Prim.Native.Nat.{ℕ, zero, suc, ◌+◌, ◌-◌, ◌*◌, ◌/◌, ◌%◌, ◌^◌, ◌≤◌, ◌<◌}
use native.Mathlib.Nat.{mul-add-mod_self_right, mul-add-div_right, mod-eq_of_lt, div-eq_of_lt, mul_comm, add-zero, le_trans, add-mul, mul-le-mul_right, mul-le-mul, le-mul_of_pos_right}
use native.Mathlib.Omega.{arith}
use lib.Dec.{ltb, leb, eqb}
use borrow.Author.Tests.{ltb-true, leb-true, leb-false, eqb-true, eqb-false, ne_eqb, lt-ltb, le-ltb, le-leb, lt-leb}
use Rattle.walks.proofs.Lists.Every.{both as and_both}
use Rattle.wave.specs.Memory.{start_at, fits_memory, bytes_of, fits_file}
use Rattle.wave.specs.declared.Layout.{Layout}

-- ---- tests
pub off : (t : Bool) → (t && false) ≡ false
off true = refl
off false = refl

-- of facts that say the same
pub same_test : (a b c d : ℕ) → (a ≤ b → c ≤ d) → (c ≤ d → a ≤ b) → leb a b ≡ leb c d
same_test a b c d f g = go (leb a b) (leb c d) refl refl
  where
    go : (s t : Bool) → leb a b ≡ s → leb c d ≡ t → s ≡ t
    go true true h k = refl
    go true false h k = let less = leb-false c d k in let more = f (leb-true a b h) in absurd (omega arith)
    go false true h k = let less = leb-false a b h in let more = g (leb-true c d k) in absurd (omega arith)
    go false false h k = refl

-- ---- a layout that fits a memory
pub record Fits (l : Layout) (size : ℕ) : Type 0 where
  pub some : 1 ≤ l.channels
  pub few : l.channels ≤ 2
  pub first_fits : l.starts.first + l.samples ≤ size
  pub apart : l.channels ≡ 2 → l.starts.first + l.samples ≤ l.starts.second
  pub second_fits : l.channels ≡ 2 → l.starts.second + l.samples ≤ size

module _ (l : Layout) (size : ℕ) where
  pub fits_one : l.channels ≡ 1 → fits_memory l size ≡ leb (l.starts.first + l.samples) size
  unfolding fits_memory
  fits_one e = rw e

  pub fits_two : {t : Bool} → l.channels ≡ 2 → leb (l.starts.first + l.samples) l.starts.second ≡ t
      → fits_memory l size ≡ (t && leb (l.starts.second + l.samples) size)
  unfolding fits_memory
  fits_two e h = rw (e, h)

  pub fits_none : (l.channels ≡ 1 → ⊥) → (l.channels ≡ 2 → ⊥) → fits_memory l size ≡ false
  unfolding fits_memory
  fits_none h k = rw (ne_eqb l.channels 1 h, ne_eqb l.channels 2 k)

  pub fits_true : fits_memory l size ≡ true → Fits l size
  fits_true e = go (eqb l.channels 1) (eqb l.channels 2) refl refl
    where
      go : (s t : Bool) → eqb l.channels 1 ≡ s → eqb l.channels 2 ≡ t → Fits l size
      go true t h k =
          let one = eqb-true _ _ h in
          let ends = leb-true _ _ (sym (fits_one one) ∙ e) in
          record { some = omega arith; few = omega arith; first_fits = ends; apart = λ two. absurd (omega arith); second_fits = λ two. absurd (omega arith) }
      go false true h k =
          let two = eqb-true _ _ k in
          let ends = and_both (leb (l.starts.first + l.samples) l.starts.second) _ (sym (fits_two two refl) ∙ e) in
          let a : l.starts.first + l.samples ≤ l.starts.second = leb-true _ _ ends.0 in
          let b : l.starts.second + l.samples ≤ size = leb-true _ _ ends.1 in
          record { some = omega arith; few = omega arith; first_fits = omega arith; apart = λ _. a; second_fits = λ _. b }
      go false false h k = absurd (true≢false (sym e ∙ fits_none (eqb-false _ _ h) (eqb-false _ _ k)))

  pub fits_made : Fits l size → fits_memory l size ≡ true
  fits_made f = go (eqb l.channels 2) refl
    where
      go : (t : Bool) → eqb l.channels 2 ≡ t → fits_memory l size ≡ true
      go true h =
          let two = eqb-true _ _ h in
          fits_two two (le-leb _ _ (f.apart two)) ∙ le-leb _ _ (f.second_fits two)
      go false h =
          let one : l.channels ≡ 1 = omega (arith, eqb-false l.channels 2 h, f.some, f.few) in
          fits_one one ∙ le-leb _ _ f.first_fits

-- each recording ends in the memory
pub start_fits : (l : Layout) (size : ℕ) → Fits l size → (j : ℕ) → j < l.channels → start_at l.starts j + l.samples ≤ size
start_fits l size f zero h = f.first_fits
start_fits l size f (suc j) h =
    let one : suc j ≡ 1 = omega (arith, f.few) in
    rw one (f.second_fits (omega (arith, f.few)))

-- ---- a quotient and a remainder are known by what they make
pub parted : (c i j : ℕ) → j < c → ((i * c + j) % c ≡ j) × ((i * c + j) / c ≡ i)
parted c i j h =
    (mul-add-mod_self_right i c j ∙ mod-eq_of_lt h, mul-add-div_right {m = c} (omega arith) i j ∙ ap (λ (n : ℕ). i + n) (div-eq_of_lt h) ∙ add-zero i)

-- sample i of channel j
pub frame_below : (channels samples i j : ℕ) → i < samples → j < channels → i * channels + j < channels * samples
frame_below channels samples i j h k =
    let far : (i + 1) * channels ≤ samples * channels = mul-le-mul_right {m = i + 1} {n = samples} channels (omega arith) in
    omega (arith, add-mul i 1 channels, mul_comm samples channels)

-- frame i of a layout that fits
pub record Frame (l : Layout) (size i : ℕ) : Type 0 where
  pub words_below : i * l.channels + l.channels ≤ l.channels * l.samples
  pub one_or_two : (1 ≤ l.channels) × (l.channels ≤ 2)
  pub first_inside : l.starts.first + i < size
  pub second_inside : l.channels ≡ 2 → l.starts.second + i < size

pub framed : (l : Layout) (size i : ℕ) → fits_memory l size ≡ true → i < l.samples → Frame l size i
framed l size i e h =
    let f = fits_true l size e in
    record {
      words_below = omega (arith, f.some, frame_below l.channels l.samples i (l.channels - 1) h (omega (arith, f.some)));
      one_or_two = (f.some, f.few);
      first_inside = omega (arith, f.first_fits);
      second_inside = λ two. omega (arith, f.second_fits two);
    }

-- ---- a file's sizes
pub record FileFits (l : Layout) (room : ℕ) : Type 0 where
  pub size_fits : bytes_of l < 2 ^ 32 + 8
  pub room_fits : bytes_of l ≤ room

pub file_true : (l : Layout) (room : ℕ) → fits_file l room ≡ true → FileFits l room
unfolding fits_file
file_true l room e =
    let a = and_both (ltb (bytes_of l) (2 ^ 32 + 8)) _ e in
    record { size_fits = ltb-true _ _ a.0; room_fits = leb-true _ _ a.1 }

pub samples_few : (l : Layout) → 0 < l.channels → l.samples ≤ l.channels * l.samples
samples_few l h = rw mul_comm (le-mul_of_pos_right l.samples h)

module _ (l : Layout) (room : ℕ) where
  pub file_long : 2 ^ 32 + 8 ≤ bytes_of l → fits_file l room ≡ false
  unfolding fits_file
  file_long h = simp (le-ltb (bytes_of l) (2 ^ 32 + 8) h)

  pub file_short : room < bytes_of l → fits_file l room ≡ false
  unfolding fits_file
  file_short h = simp (lt-leb (bytes_of l) room h) (off (ltb (bytes_of l) (2 ^ 32 + 8)))

  pub file_many : 0 < l.channels → 0x3fffffff < l.samples → fits_file l room ≡ false
  file_many some h = file_long (omega (arith, samples_few l some))

  pub file_fits : bytes_of l < 2 ^ 32 + 8 → fits_file l room ≡ leb (bytes_of l) room
  unfolding fits_file
  file_fits k = simp (lt-ltb (bytes_of l) (2 ^ 32 + 8) k)

pub count_small : (l : Layout) → l.channels ≤ 2 → l.samples ≤ 0x3fffffff → l.channels * l.samples ≤ 2 ^ 31
count_small l h k = le_trans (mul-le-mul h k) (omega arith)
