-- Version 2 of the listing beside version 1. Two listings that differ in their version print the same where their records are read alike: one
-- law for both statements. Assumes nothing.
use mathlib.Core.Path.{◌≡◌, refl, sym, ◌∙◌, ap}
use mathlib.Core.Logic.{◌≢◌}
use mathlib.Core.Bool.{Bool, true, false, cond, ◌&&◌, and-false, or-false, true≢false}
use mathlib.Core.List.{List, [], ◌∷◌, ◌++◌}
use Rattle.std.specs.Prelude.{Option, Some, None}
use Prim.Native.Nat.{ℕ, zero, suc, ◌+◌, ◌≤◌}
use native.Mathlib.Omega.{arith}
use borrow.Author.Tests.{leb-true, leb-false, eqb-true, eqb-false, le-leb, lt-leb, ne_eqb}
use lib.Dec.{eqb, leb}
use lib.ListN.{length, take, drop, replicate}
use lib.Ieee.{Float}
use Rattle.std.specs.List.{list_any}
use Rattle.walks.proofs.Tests.{neither}
use Rattle.decimal.specs.Lines.{text_of}
use Rattle.octets.specs.Octets.{byte_at}
use Rattle.listing.specs.Records.{float_at, kind_of, kind_length, good_header, header_of, good_settings, good_record, length_by_kind, params_of, frame_call_of, call_of, record_of}
use Rattle.listing.specs.Steps.{player_of, opened_of, open_of, record_step, step_memory}
use Rattle.listing.specs.Whole.{next_of, printed_from, printed}
use Rattle.listing.specs.Versions.{good_first_header, first_header_of, good_first_settings, good_first_record, first_length_of, first_params_of, first_record_of, step_by, memory_by, printed_from_by, printed_by, records_from, records_of, in_whole_bars, Versions}
use Rattle.listing.specs.declared.records.Header.{Header}
use Rattle.listing.specs.declared.records.Call.{Call}
use Rattle.listing.specs.declared.Listing.{Listing}
use Rattle.listing.specs.declared.Step.{Step}

-- ---- `printed` by the meaning of its bytes
from_now : (n : ℕ) (l : Listing) (m input : List ℕ) → printed_from n l m input ≡ printed_from_by record_of n l m input
unfolding printed_from printed_from_by record_step step_memory step_by memory_by
from_now zero l m input = refl
from_now (suc n) l m input =
    let r = next_of input in
    ap (λ (later : List ℕ). cond l.on (text_of (record_step l r m).line ++ later) []) (from_now n (record_step l r m).listing (step_memory l r m) (drop (length r) input))

by_now : (input : List ℕ) → printed input ≡ printed_by header_of record_of input
unfolding printed printed_by
by_now input =
    let s = open_of (take 3 input) 8192 in
    ap (λ (later : List ℕ). text_of s.line ++ later) (from_now (length input + 1) s.listing (replicate 8192 0) (drop 3 input))

-- ---- a header and a listing of another version
abbrev headed : Bool → Header → Header
headed v h = record { second = v; stereo = h.stereo; auto_passthru = h.auto_passthru }

abbrev under : Bool → Listing → Listing
under v l = record { header = headed v l.header; player = l.player; offset = l.offset; on = l.on }

step_under : (v : Bool) (l : Listing) (r m : List ℕ) (x : Option Call) (t : Bool) → eqb (length r) 0 ≡ t
    → step_by x (under v l) r m ≡ record { listing = under v (step_by x l r m).listing; line = (step_by x l r m).line }
unfolding step_by
step_under v l r m x true e = simp (e)
step_under v l r m (Some call) false e = simp (e)
step_under v l r m None false e = simp (e)

memory_under : (v : Bool) (l : Listing) (r m : List ℕ) (x : Option Call) → memory_by x (under v l) r m ≡ memory_by x l r m
unfolding memory_by
memory_under v l r m x = refl

-- one listing of version v, read by R, and one of version w, read by S, whose records are read alike but where p finds something
module _ (R S : Header → List ℕ → Option Call) (v w : Bool) (p : List ℕ → Bool)
    (alike : (h : Header) (r : List ℕ) → p r ≡ false → R (headed v h) r ≡ S (headed w h) r) where
  printed_alike : (n : ℕ) (l : Listing) (m input : List ℕ) → list_any p (records_from n input) ≡ false
      → printed_from_by R n (under v l) m input ≡ printed_from_by S n (under w l) m input
  unfolding printed_from_by records_from
  printed_alike zero l m input none = refl
  printed_alike (suc n) l m input none =
      let r = next_of input in
      let x = S (headed w l.header) r in
      let neither_found = neither (p r) _ none in
      simp (
        alike l.header r neither_found.0,
        step_under v l r m x (eqb (length r) 0) refl,
        step_under w l r m x (eqb (length r) 0) refl,
        memory_under v l r m x,
        memory_under w l r m x,
        printed_alike n (step_by x l r m).listing (memory_by x l r m) (drop (length r) input) neither_found.1,
      )

-- ---- version 1: a header
first_header : (b : List ℕ) → eqb (byte_at b 0) 2 ≡ false → header_of b ≡ first_header_of b
unfolding header_of good_header first_header_of
first_header b e = simp (e, or-false)

first_byte : (input : List ℕ) → byte_at (take 3 input) 0 ≡ byte_at input 0
first_byte [] = refl
first_byte (x ∷ input) = refl

-- what it opens is of version 1
opened_first : (b : List ℕ) (t : Bool) → good_first_header b ≡ t → (opened_of (first_header_of b) 8192).listing ≡ under false (opened_of (first_header_of b) 8192).listing
unfolding opened_of first_header_of
opened_first b true e = simp (e)
opened_first b false e = simp (e)

-- ---- version 1: a record. `good_settings` at version 1 is the test that there was
first_settings : (h : Header) (r : List ℕ) → good_settings (headed false h) r ≡ good_first_settings r
unfolding good_settings
first_settings h r = refl

first_good : (h : Header) (r : List ℕ) → good_record (headed false h) r ≡ good_first_record (headed false h) r
unfolding good_record good_first_record
first_good h r = simp (first_settings h r)

first_length : (kind : ℕ) (x : Float) → kind ≤ 4 → length_by_kind kind x ≡ first_length_of kind x
unfolding length_by_kind first_length_of
first_length zero x h = refl
first_length (suc zero) x h = refl
first_length (suc (suc zero)) x h = refl
first_length (suc (suc (suc zero))) x h = refl
first_length (suc (suc (suc (suc zero)))) x h = refl
first_length (suc (suc (suc (suc (suc kind))))) x h = absurd (omega arith)

first_params : (r : List ℕ) → byte_at r 13 ≤ 4 → params_of r ≡ first_params_of r
unfolding params_of first_params_of
first_params r h = simp (first_length (byte_at r 13) (float_at r 14) h)

-- a good record of parameters has one of the length kinds that there were
kind_unnamed : (h : Header) (r : List ℕ) → eqb (kind_of r) 0 ≡ true → leb (byte_at r 13) 4 ≡ false → good_first_record h r ≡ false
unfolding good_first_record
kind_unnamed h r k e = simp (k, e, and-false)

kind_named : (h : Header) (r : List ℕ) → eqb (kind_of r) 0 ≡ true → good_first_record h r ≡ true → byte_at r 13 ≤ 4
kind_named h r k g = by (leb (byte_at r 13) 4) refl
  where
    by : (t : Bool) → leb (byte_at r 13) 4 ≡ t → byte_at r 13 ≤ 4
    by true e = leb-true _ _ e
    by false e = absurd (true≢false (sym g ∙ kind_unnamed h r k e))

first_record : (h : Header) (r : List ℕ) → record_of (headed false h) r ≡ first_record_of (headed false h) r
unfolding record_of first_record_of call_of
first_record h r = by (good_first_record (headed false h) r) refl (eqb (kind_of r) 0) refl
  where
    by : (g : Bool) → good_first_record (headed false h) r ≡ g → (k : Bool) → eqb (kind_of r) 0 ≡ k → record_of (headed false h) r ≡ first_record_of (headed false h) r
    by false e k q = simp (first_good h r, e)
    by true e false q = simp (first_good h r, e, q)
    by true e true q = simp (first_good h r, e, eqb-true (kind_of r) 0 q, first_params r (kind_named (headed false h) r q e))

none_found : (rs : List (List ℕ)) → list_any (λ (r : List ℕ). false) rs ≡ false
none_found [] = refl
none_found (r ∷ rs) = none_found rs

-- what follows a header
abbrev prints : (Header → List ℕ → Option Call) → ℕ → List ℕ → Option Header → List ℕ
prints R n later o = text_of (opened_of o 8192).line ++ printed_from_by R n (opened_of o 8192).listing (replicate 8192 0) later

before_two : (input : List ℕ) → byte_at input 0 ≢ 2 → printed_by header_of record_of input ≡ printed_by first_header_of first_record_of input
unfolding printed_by
before_two input other =
    let b = take 3 input in
    let n = length input + 1 in
    let m : List ℕ = replicate 8192 0 in
    let later = drop 3 input in
    let l = (opened_of (first_header_of b) 8192).listing in
    let own : l ≡ under false l = opened_first b (good_first_header b) refl in
    let alike : printed_from_by record_of n l m later ≡ printed_from_by first_record_of n l m later =
    ap (λ (k : Listing). printed_from_by record_of n k m later) own
    ∙ printed_alike record_of first_record_of false false (λ (r : List ℕ). false) (λ h r _. first_record h r) n l m later (none_found (records_from n later))
    ∙ sym (ap (λ (k : Listing). printed_from_by first_record_of n k m later) own) in
    ap (prints record_of n later) (first_header b (ne_eqb _ _ (λ e. other (sym (first_byte input) ∙ e))))
    ∙ ap (λ (after : List ℕ). text_of (opened_of (first_header_of b) 8192).line ++ after) alike

-- ---- both versions: without length kind 5 a record is read alike
four_or_five : (n : ℕ) → eqb n 5 ≡ false → leb n 5 ≡ leb n 4
four_or_five n e = by (leb n 4) refl
  where
    by : (t : Bool) → leb n 4 ≡ t → leb n 5 ≡ leb n 4
    by true h = le-leb n 5 (omega (arith, leb-true n 4 h)) ∙ sym h
    by false h = lt-leb n 5 (omega (arith, leb-false n 4 h, eqb-false n 5 e)) ∙ sym h

same_good : (h : Header) (r : List ℕ) (k : Bool) → eqb (kind_of r) 0 ≡ k → in_whole_bars r ≡ false → good_record (headed true h) r ≡ good_record (headed false h) r
unfolding good_record good_settings kind_length
same_good h r true q e = simp (four_or_five (byte_at r 13) (sym (ap (λ (t : Bool). t && eqb (byte_at r 13) 5) q) ∙ e))
same_good h r false q e = simp (q)

same_record : (h : Header) (r : List ℕ) → in_whole_bars r ≡ false → record_of (headed true h) r ≡ record_of (headed false h) r
unfolding record_of call_of frame_call_of
same_record h r e = simp (same_good h r (eqb (kind_of r) 0) refl e)

-- a header of each version, for the same bytes after it
abbrev heading : Bool → List ℕ → Header
heading v b = record { second = v; stereo = eqb (byte_at b 0) 2; auto_passthru = eqb (byte_at b 1) 1 }

both_good : (b : List ℕ) → good_header (1 ∷ b) ≡ true → (header_of (2 ∷ b) ≡ Some (heading true b)) × (header_of (1 ∷ b) ≡ Some (heading false b))
unfolding header_of good_header
both_good b g = (simp (g), simp (g))

both_bad : (b : List ℕ) → good_header (1 ∷ b) ≡ false → header_of (2 ∷ b) ≡ header_of (1 ∷ b)
unfolding header_of good_header
both_bad b g = simp (g)

both_alike : (rest : List ℕ) → list_any in_whole_bars (records_of (1 ∷ rest)) ≡ false → printed_by header_of record_of (2 ∷ rest) ≡ printed_by header_of record_of (1 ∷ rest)
unfolding printed_by opened_of player_of
both_alike rest none = by (good_header (1 ∷ take 2 rest)) refl
  where
    by : (g : Bool) → good_header (1 ∷ take 2 rest) ≡ g → printed_by header_of record_of (2 ∷ rest) ≡ printed_by header_of record_of (1 ∷ rest)
    by true g =
        let b = take 2 rest in
        let n = length (1 ∷ rest) + 1 in
        let later = drop 3 (1 ∷ rest) in
        let l = (opened_of (Some (heading false b)) 8192).listing in
        ap (prints record_of n later) (both_good b g).0
        ∙ ap (λ (after : List ℕ). text_of (opened_of (Some (heading false b)) 8192).line ++ after)
        (printed_alike record_of record_of true false in_whole_bars same_record n l (replicate 8192 0) later none)
        ∙ sym (ap (prints record_of n later) (both_good b g).1)
    by false g = ap (prints record_of (length (1 ∷ rest) + 1) (drop 3 (1 ∷ rest))) (both_bad (take 2 rest) g)

pub versions : Versions
versions = record {
  now = by_now;
  version_one = λ input other. by_now input ∙ before_two input other;
  same_otherwise = λ rest none. by_now (2 ∷ rest) ∙ both_alike rest none ∙ sym (by_now (1 ∷ rest));
}
