-- The header of a song of format 1: what is taken the grammar spells, and the other way. Assumes nothing.
use Rattle.std.specs.Prelude.{Ok, Err}
use mathlib.Core.Path.{◌≡◌, refl, sym, ap, ◌∙◌, subst}
use mathlib.Core.Bool.{Bool, true, false, not}
use mathlib.Core.List.{List, [], ◌∷◌}
use Prim.Native.Nat.{ℕ, zero, suc, ◌+◌, ◌-◌, ◌≤◌, ◌<◌}
use native.Mathlib.Omega.{arith}
use lib.Dec.{ltb, leb, eqb}
use lib.ListN.{length}
use borrow.Author.Tests.{ltb-false, leb-false, eqb-true, eqb-false, le-ltb, lt-leb, ne_eqb}
use Rattle.octets.specs.Octets.{byte_at, bytes_at, number_after, number_of}
use Rattle.smf.specs.Fields.{two_at, four_at}
use Rattle.smf.specs.Files.{header_type}
use Rattle.smf.proofs.Inside.{both}
use Rattle.song_grammar.specs.Grammar.{MThd}
use Rattle.song_grammar.proofs.Segments.{From, two_is}
use Rattle.song_grammar.proofs.Shown.{Spelt}
use Rattle.song_grammar.proofs.Chunks.{Four, four_there, Chunked, chunked, chunk_there, named, two_number}
use Rattle.song_grammar.proofs.Wholes.{Octets, chunk_stands}
use Rattle.song_merge.specs.Songs.{Heading}
use Rattle.song_merge.specs.Songs.Heading.{heading}
use Rattle.song_merge.specs.Headings.{Opening, opened, fields_of, opening_of}
use Rattle.song_merge.proofs.Bytes.{bytes_from, bytes_long}

not-not : (b : Bool) → not b ≡ false → b ≡ true
not-not true e = refl
not-not false e = sym e

positive : (n : ℕ) → (n ≡ 0 → ⊥) → 0 < n
positive zero h = absurd (h refl)
positive (suc n) h = omega arith

module _ (f : List ℕ) (octets : Octets f) where
  pub heading_taken : {bytes : List ℕ} {division count : ℕ} → Heading bytes division count → (next : ℕ) → From f 0 bytes next → next ≤ length f → opening_of f ≡ opened division count next
  unfolding opening_of fields_of number_of number_after
  heading_taken (heading {m} {n} {high} {low} {more} {bytes} tracks small some k) next from room =
      let s = chunk_stands f k 0 next from in
      let ends = s.ends in
      let long : four_at f 4 ≡ length (0 ∷ 1 ∷ m ∷ n ∷ high ∷ low ∷ more) = s.size in
      let kind : four_at f 0 ≡ header_type = s.kind in
      let format : two_at f 8 ≡ 1 = two_is f 8 0 1 (m ∷ n ∷ high ∷ low ∷ more) next s.inside in
      let count : two_at f 10 ≡ number_of (m ∷ n ∷ []) = two_is f 10 m n (high ∷ low ∷ more) next s.inside.1.1 in
      let division : two_at f 12 ≡ number_of (high ∷ low ∷ []) = two_is f 12 high low more next s.inside.1.1.1.1 in
      let byte = s.inside.1.1.1.1.1.0 in
      let k4 : 4 ≤ length f = omega arith in
      let k8 : 8 ≤ length f = omega arith in
      let k6 : 6 ≤ four_at f 4 = omega arith in
      let k10 : 10 ≤ length f = omega arith in
      let k12 : 12 ≤ length f = omega arith in
      let k14 : 14 ≤ length f = omega arith in
      let ticks : two_at f 12 < 0x8000 = omega (arith, octets 13) in
      let none : two_at f 12 ≡ 0 → ⊥ = (λ z. omega arith) in
      let no_tracks : two_at f 10 ≡ 0 → ⊥ = (λ z. omega arith) in
      let whole : 8 + four_at f 4 ≤ length f = omega arith in
      simp (le-ltb _ _ k4, kind, le-ltb _ _ k8, le-ltb _ _ k6, le-ltb _ _ k10, format, le-ltb _ _ k12, ne_eqb _ _ no_tracks, le-ltb _ _ k14, lt-leb _ _ ticks, ne_eqb _ _ none, le-ltb _ _ whole)
      (ap (λ (d : ℕ). opened d (two_at f 10) (8 + four_at f 4)) division
      ∙ ap (λ (c : ℕ). opened (number_of (high ∷ low ∷ [])) c (8 + four_at f 4)) count
      ∙ ap (opened (number_of (high ∷ low ∷ [])) (number_of (m ∷ n ∷ []))) (omega arith))

  -- ---- the other way
  pub record Opens (division count next : ℕ) : Type 0 where
    pub head : Spelt f (λ (bytes : List ℕ). Heading bytes division count) 0 next
    pub room : next ≤ length f
    pub long : 14 ≤ next
    pub some : 0 < division
    pub tracks : 0 < count
    pub small : division < 0x8000

  abbrev OpensAs : Opening → Type 0
  OpensAs (Ok o) = Opens o.division o.count o.next
  OpensAs (Err why) = Unit {0}

  fields_open : From f 0 MThd 4 → 6 ≤ four_at f 4 → 8 ≤ length f → OpensAs (fields_of f (four_at f 4))
  unfolding fields_of two_at number_of number_after
  fields_open is six k8 =
      both OpensAs (ltb (length f) 10) _ _ (λ _. tt)
      (λ k10. both OpensAs (not (eqb (two_at f 8) 1)) _ _ (λ _. tt)
      (λ one. both OpensAs (ltb (length f) 12) _ _ (λ _. tt)
      (λ k12. both OpensAs (eqb (two_at f 10) 0) _ _ (λ _. tt)
      (λ some. both OpensAs (ltb (length f) 14) _ _ (λ _. tt)
      (λ k14. both OpensAs (leb 0x8000 (two_at f 12)) _ _ (λ _. tt)
      (λ ticks. both OpensAs (eqb (two_at f 12) 0) _ _ (λ _. tt)
      (λ zero. both OpensAs (ltb (length f) (8 + four_at f 4)) _ _ (λ _. tt)
      (λ whole.
      let format = two_number f octets 8 1 (eqb-true (two_at f 8) 1 (not-not (eqb (two_at f 8) 1) one)) in
      let more = bytes_at (8 + four_at f 4 - 14) f 14 in
      let body = 0 ∷ 1 ∷ byte_at f 10 ∷ byte_at f 11 ∷ byte_at f 12 ∷ byte_at f 13 ∷ more in
      let long : four_at f 4 ≡ length body = omega (arith, bytes_long f (8 + four_at f 4 - 14) 14) in
      let low = leb-false 0x8000 (two_at f 12) ticks in
      let division = positive (two_at f 12) (eqb-false (two_at f 12) 0 zero) in
      let there : From f 8 body (8 + four_at f 4) = (omega (arith, octets 9), (omega (arith, octets 9), (refl, (refl, (refl, (refl, bytes_from f 14 (8 + four_at f 4) (omega arith))))))) in
      record {
        head = record {
          bytes = Chunked f 0 MThd is body;
          is = heading (positive (two_at f 10) (eqb-false (two_at f 10) 0 some)) (omega (arith, two_number f octets 12 (two_at f 12) refl)) division (chunked f 0 MThd is body long);
          there = chunk_there f 0 MThd is body (8 + four_at f 4) there;
        };
        room = ltb-false (length f) (8 + four_at f 4) whole;
        long = omega arith;
        some = division;
        tracks = positive (two_at f 10) (eqb-false (two_at f 10) 0 some);
        small = low;
      }))))))))

  opens_as : OpensAs (opening_of f)
  unfolding opening_of number_of number_after
  opens_as =
      both OpensAs (ltb (length f) 4) _ _ (λ _. tt)
      (λ k4. both OpensAs (not (eqb (four_at f 0) header_type)) _ _ (λ _. tt)
      (λ same. both OpensAs (ltb (length f) 8) _ _ (λ _. tt)
      (λ k8. both OpensAs (ltb (four_at f 4) 6) _ _ (λ _. tt)
      (λ six.
      let kind : Four f 0 ≡ MThd = named f octets 0 0x4D 0x54 0x68 0x64 (omega arith) (eqb-true (four_at f 0) header_type (not-not (eqb (four_at f 0) header_type) same)) in
      fields_open (subst (λ (l : List ℕ). From f 0 l 4) kind (four_there f 0)) (ltb-false (four_at f 4) 6 six) (ltb-false (length f) 8 k8)))))

  pub opens : (division count next : ℕ) → opening_of f ≡ opened division count next → Opens division count next
  opens division count next e = subst OpensAs e opens_as
