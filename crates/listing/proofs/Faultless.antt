-- A header or a record has a fault exactly where it isn't good. Assumes nothing.
use Rattle.std.specs.Prelude.{None}
use mathlib.Core.Path.{◌≡◌, refl, sym, ◌∙◌, ap}
use mathlib.Core.Bool.{Bool, true, false, not, cond, ◌&&◌, ◌||◌, and-true, and-false, and_assoc}
use mathlib.Core.List.{List}
use Prim.Native.Nat.{ℕ, zero, suc, ◌+◌, ◌*◌, ◌≤◌, ◌<◌}
use native.Mathlib.Omega.{arith}
use borrow.Author.Tests.{ltb-true, ltb-false, eqb-true, eqb-false, eq-eqb, ne_eqb, not-true, not-false}
use lib.Dec.{eqb, leb, ltb, lit≤}
use lib.ListN.{length, get_or, get_or-eq_default}
use Rattle.octets.specs.Octets.{byte_at}
use Rattle.listing.specs.Records.{half_at, kind_of, lengths, kind_length, last_length_kind, channel_count, good_header, good_settings, good_record}
use Rattle.listing.specs.Faults.{header_fault_of, header_faultless, settings_fault_of, kind_fault_of, record_fault_of, record_faultless}
use Rattle.listing.specs.declared.records.Header.{Header}

-- ---- a test that finds a fault, before others
module _ {F : Type 0} (faultless : F → Bool) where
  -- one that no good one meets
  looks : {f rest : F} {g : Bool} (t : Bool) → faultless f ≡ false → (t ≡ true → g ≡ false) → (t ≡ false → faultless rest ≡ g)
      → faultless (cond t f rest) ≡ g
  looks true none found on = none ∙ sym (found refl)
  looks false none found on = on refl

  -- one of those that make it good
  tests : {f rest : F} {g : Bool} (t : Bool) → faultless f ≡ false → faultless rest ≡ g → faultless (cond (not t) f rest) ≡ (t && g)
  tests true none on = on
  tests false none on = none

-- four of them, one after the other and together
four : (a b c d : Bool) → (a && (b && (c && (d && true)))) ≡ (a && b && c && d)
four a b c d = simp (and_assoc, and-true)

-- ---- a header
empty_bad : (b : List ℕ) → eqb (length b) 0 ≡ true → good_header b ≡ false
unfolding good_header
empty_bad b e = simp (eqb-true (length b) 0 e)

pub header_faultless_lem : (b : List ℕ) → header_faultless (header_fault_of b) ≡ good_header b
unfolding header_fault_of good_header
header_faultless_lem b =
    let size : Bool = eqb (length b) 3 in
    let version : Bool = eqb (byte_at b 0) 1 || eqb (byte_at b 0) 2 in
    let count : Bool = eqb (byte_at b 1) 1 || eqb (byte_at b 1) 2 in
    let passthru : Bool = leb (byte_at b 2) 1 in
    looks header_faultless (eqb (length b) 0) refl (empty_bad b)
    (λ _. tests header_faultless size refl (tests header_faultless version refl (tests header_faultless count refl (tests header_faultless passthru refl refl)))
    ∙ four size version count passthru)

-- ---- a record: no kind has more than 45 bytes, and one that isn't named has none
low : (n k : ℕ) → n ≤ 45 → get_or (lengths n) k 0 ≤ 45
low n zero h = lit≤ tt
low n (suc zero) h = lit≤ tt
low n (suc (suc zero)) h = lit≤ tt
low n (suc (suc (suc zero))) h = lit≤ tt
low n (suc (suc (suc (suc zero)))) h = lit≤ tt
low n (suc (suc (suc (suc (suc zero))))) h = lit≤ tt
low n (suc (suc (suc (suc (suc (suc zero)))))) h = h
low n (suc (suc (suc (suc (suc (suc (suc zero))))))) h = lit≤ tt
low n (suc (suc (suc (suc (suc (suc (suc (suc k)))))))) h = lit≤ tt

frame_low : (stereo : Bool) → 1 + 4 * cond stereo 2 1 ≤ 45
frame_low true = lit≤ tt
frame_low false = lit≤ tt

module _ (h : Header) (r : List ℕ) where
  length_low : kind_length h (kind_of r) ≤ 45
  unfolding kind_length
  length_low = low (1 + 4 * channel_count h) (kind_of r) (frame_low h.stereo)

  no_kind : 7 < kind_of r → kind_length h (kind_of r) ≡ 0
  unfolding kind_length
  no_kind k = get_or-eq_default (lengths (1 + 4 * channel_count h)) 0 k

  other_size : (length r ≡ half_at r 0 + 2 → ⊥) → good_record h r ≡ false
  unfolding good_record
  other_size k = simp (ne_eqb _ _ k)

  other_length : (half_at r 0 ≡ kind_length h (kind_of r) → ⊥) → good_record h r ≡ false
  unfolding good_record
  other_length k = simp (ne_eqb _ _ k, and-false)

  of_45 : length r ≤ 2 → kind_length h (kind_of r) ≡ 45
  unfolding kind_length
  of_45 k = rw (get_or-eq_default r 0 k)

  -- two bytes, and no kind among them: as for kind 0, there would have to be 45
  empty_record : half_at r 0 ≡ 0 → good_record h r ≡ false
  empty_record e = by (eqb (length r) (half_at r 0 + 2)) refl
    where
      by : (t : Bool) → eqb (length r) (half_at r 0 + 2) ≡ t → good_record h r ≡ false
      by true k = let all : length r ≡ half_at r 0 + 2 = eqb-true _ _ k in
          other_length (λ q. absurd (omega (arith, of_45 (omega arith))))
      by false k = other_size (eqb-false _ _ k)

  settings_faultless : record_faultless (settings_fault_of h r) ≡ good_settings h r
  unfolding settings_fault_of good_settings
  settings_faultless =
      let a : Bool = leb (byte_at r 11) 1 in
      let b : Bool = leb (byte_at r 12) 2 in
      let c : Bool = leb (byte_at r 13) (last_length_kind h) in
      let d : Bool = leb (byte_at r 26) 2 in
      tests record_faultless a refl (tests record_faultless b refl (tests record_faultless c refl (tests record_faultless d refl refl)))
      ∙ four a b c d

  -- all there, and of its kind's length: only settings are left
  whole_faultless : length r ≡ half_at r 0 + 2 → half_at r 0 ≡ kind_length h (kind_of r) → (t : Bool) → eqb (kind_of r) 0 ≡ t
      → record_faultless (cond (eqb (kind_of r) 0) (settings_fault_of h r) None) ≡ good_record h r
  unfolding good_record
  whole_faultless all own true k = simp (k, eq-eqb (length r) (half_at r 0 + 2) all, eq-eqb (half_at r 0) (kind_length h (kind_of r)) own) settings_faultless
  whole_faultless all own false k = simp (k, eq-eqb (length r) (half_at r 0 + 2) all, eq-eqb (half_at r 0) (kind_length h (kind_of r)) own)

  kind_faultless : length r ≡ half_at r 0 + 2 → (half_at r 0 ≡ 0 → ⊥) → record_faultless (kind_fault_of h r) ≡ good_record h r
  unfolding kind_fault_of
  kind_faultless all some =
      looks record_faultless (ltb 7 (kind_of r)) refl (λ t. other_length (λ q. some (q ∙ no_kind (ltb-true _ _ t))))
      (λ _. looks record_faultless (not (eqb (half_at r 0) (kind_length h (kind_of r)))) refl (λ t. other_length (eqb-false _ _ (not-true _ t)))
      (λ t. whole_faultless all (eqb-true _ _ (not-false _ t)) (eqb (kind_of r) 0) refl))

  pub record_faultless_lem : record_faultless (record_fault_of h r) ≡ good_record h r
  unfolding record_fault_of
  record_faultless_lem =
      looks record_faultless (ltb (length r) 2) refl (λ t. let k : length r < 2 = ltb-true _ _ t in other_size (λ q. absurd (omega arith)))
      (λ _. looks record_faultless (eqb (half_at r 0) 0) refl (λ t. empty_record (eqb-true _ _ t))
      (λ some. looks record_faultless (ltb 45 (half_at r 0)) refl (λ t. let k : 45 < half_at r 0 = ltb-true _ _ t in other_length (λ q. absurd (omega (arith, length_low))))
      (λ _. looks record_faultless (not (eqb (length r) (half_at r 0 + 2))) refl (λ t. other_size (eqb-false _ _ (not-true _ t)))
      (λ t. kind_faultless (eqb-true _ _ (not-false _ t)) (eqb-false _ _ some)))))
