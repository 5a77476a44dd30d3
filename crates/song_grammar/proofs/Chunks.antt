-- What the reader takes, the grammar spells, and what stands before a fault is what the grammar lets stand there: chunks and the header. Assumes nothing.
use Rattle.std.specs.Prelude.{Option, Some, None, Result, Ok, Err}
use mathlib.Core.Path.{◌≡◌, refl, sym, ap, ◌∙◌, subst}
use mathlib.Core.Bool.{Bool, true, false, cond, not}
use mathlib.Core.List.{List, [], ◌∷◌, ◌++◌, append-nil, append_assoc}
use mathlib.Core.Logic.{◌≢◌, ◌⊎◌, inl, inr}
use Prim.Native.Nat.{ℕ, zero, suc, ◌+◌, ◌-◌, ◌*◌, ◌≤◌, ◌<◌}
use native.Mathlib.Omega.{arith}
use lib.Dec.{ltb, leb, eqb}
use lib.ListN.{length, length-append}
use borrow.Author.Tests.{ltb-true, ltb-false, leb-true, leb-false, eqb-true, eqb-false}
use Rattle.octets.specs.Octets.{byte_at, number_after, number_of}
use Rattle.smf.specs.Fields.{two_at, four_at}
use Rattle.smf.specs.Files.{header_type, track_type, fields_of, header_of, chunk_at, track_from}
use Rattle.smf.specs.declared.faults.Fault.{Fault}
use Rattle.smf.proofs.Inside.{both}
use Rattle.song_grammar.specs.Grammar.{Chunk, MThd, MTrk, Header, Aliens}
use Rattle.song_grammar.specs.Grammar.Chunk.{chunk}
use Rattle.song_grammar.specs.Grammar.Header.{header}
use Rattle.song_grammar.specs.Grammar.Aliens.{none, alien}
use Rattle.song_grammar.specs.First.{Due}
use Rattle.song_grammar.specs.First.Due.{header_type as type_due, header_length as length_due, format as format_due, tracks as tracks_due, division as division_due, header_rest as rest_due}
use Rattle.song_grammar.proofs.Segments.{From, join, four_is, two_is, bytes_at, bytes_length, bytes_from}
use Rattle.song_grammar.proofs.Shown.{Spelt}
use Rattle.song_grammar.proofs.Wholes.{Octets, same_four}

positive_of : (n : ℕ) → n ≢ 0 → 0 < n
positive_of zero h = absurd (h refl)
positive_of (suc n) h = omega arith

not-not : (b : Bool) → not b ≡ false → b ≡ true
not-not true e = refl
not-not false e = sym e

-- what is due of chunks that are skipped
pub data AlienPart : List ℕ → ℕ → Type 0 where
  at_type : {bytes : List ℕ} → Aliens bytes → AlienPart bytes 4
  at_length : {others : List ℕ} (a b c d : ℕ) → a ∷ b ∷ c ∷ d ∷ [] ≢ MThd → a ∷ b ∷ c ∷ d ∷ [] ≢ MTrk → Aliens others
      → AlienPart (others ++ (a ∷ b ∷ c ∷ d ∷ [])) 4
  at_body : (part rest : List ℕ) → Aliens (part ++ rest) → AlienPart part 1

module _ (f : List ℕ) where
  -- up to a field in which a fault lies
  pub record Stops (P : List ℕ → ℕ → Type 0) (at : ℕ) (why : Fault) : Type 0 where
    pub start : ℕ
    pub width : ℕ
    pub spelt : Spelt f (λ (bytes : List ℕ). P bytes width) at start
    pub low : start ≤ why.at
    pub high : why.at < start + width
    pub last : (why.at + 1 ≡ start + width) ⊎ (why.at ≡ length f)
    pub inside : start ≤ length f

  in_field : (P : List ℕ → ℕ → Type 0) (at start width : ℕ) (bytes : List ℕ) → P bytes width → From f at bytes start → start ≤ length f
      → (why : Fault) → start ≤ why.at → why.at < start + width → (why.at + 1 ≡ start + width) ⊎ (why.at ≡ length f) → Stops P at why
  in_field P at start width bytes is there inside why low high last = record {
    start = start;
    width = width;
    spelt = record { bytes = bytes; is = is; there = there };
    low = low;
    high = high;
    last = last;
    inside = inside;
  }

  -- the four bytes at a place
  abbrev pub Four : ℕ → List ℕ
  Four at = byte_at f at ∷ byte_at f (at + 1) ∷ byte_at f (at + 1 + 1) ∷ byte_at f (at + 1 + 1 + 1) ∷ []

  pub four_there : (at : ℕ) → From f at (Four at) (at + 4)
  four_there at = (refl, (refl, (refl, (refl, omega arith))))

  pub four_number : (at : ℕ) → four_at f at ≡ number_of (Four at)
  four_number at = four_is f at _ _ _ _ [] (at + 4) (four_there at)

  -- a chunk of the type that stands at a place
  module _ (at : ℕ) (type : List ℕ) (is : From f at type (at + 4)) (body : List ℕ) where
    abbrev pub Chunked : List ℕ
    Chunked = type ++ (Four (at + 4) ++ body)

    pub chunked : four_at f (at + 4) ≡ length body → Chunk type body Chunked
    chunked e = chunk _ _ _ _ (sym (four_number (at + 4)) ∙ e)

    pub chunk_there : (next : ℕ) → From f (at + 8) body next → From f at Chunked next
    chunk_there next h =
        let eight : at + 4 + 4 ≡ at + 8 = omega arith in
        join f at type (at + 4) (Four (at + 4) ++ body) next is
        (join f (at + 4) (Four (at + 4)) (at + 8) body next (subst (From f (at + 4) (Four (at + 4))) eight (four_there (at + 4))) h)

  module _ (octets : Octets f) where
    pub named : (at p q r s : ℕ) → (p < 256) × (q < 256) × (r < 256) × (s < 256) → four_at f at ≡ number_of (p ∷ q ∷ r ∷ s ∷ []) → Four at ≡ p ∷ q ∷ r ∷ s ∷ []
    named at p q r s small e =
        same_four _ _ _ _ p q r s (octets at, octets (at + 1), octets (at + 1 + 1), octets (at + 1 + 1 + 1)) small (sym (four_number at) ∙ e)

    unnamed : (at n : ℕ) (bytes : List ℕ) → number_of bytes ≡ n → four_at f at ≢ n → Four at ≢ bytes
    unnamed at n bytes is h e = h (four_number at ∙ ap number_of e ∙ is)

    abbrev pub Searched : ℕ → Result (Option ℕ) Fault → Type 0
    Searched at (Ok (Some place)) = Spelt f Aliens at place × From f place MTrk (place + 4) × (place + 4 ≤ length f)
    Searched at (Ok None) = Spelt f Aliens at (length f)
    Searched at (Err why) = Stops AlienPart at why

    none_here : (at next : ℕ) → at ≡ next → Spelt f Aliens at next
    none_here at next e = record { bytes = []; is = none; there = e }

    module _ (at : ℕ) (no_Header : Four at ≢ MThd) (no_track : Four at ≢ MTrk) where
      abbrev size : ℕ
      size = four_at f (at + 4)

      abbrev Chunk-of : List ℕ → List ℕ
      Chunk-of body = Chunked at (Four at) (four_there at) body

      -- all of it, and others behind it
      abbrev whole : List ℕ
      whole = Chunk-of (bytes_at f (at + 8) size)

      whole_there : From f at whole (at + 8 + size)
      whole_there = chunk_there at (Four at) (four_there at) (bytes_at f (at + 8) size) (at + 8 + size) (bytes_from f (at + 8) size)

      passed : {bytes : List ℕ} → Aliens bytes → Aliens (whole ++ bytes)
      passed others = alien no_Header no_track (chunked at (Four at) (four_there at) (bytes_at f (at + 8) size) (sym (bytes_length f (at + 8) size))) others

      part_behind : (bytes : List ℕ) (width : ℕ) → AlienPart bytes width → AlienPart (whole ++ bytes) width
      part_behind bytes width (at_type others) = at_type (passed others)
      part_behind bytes width (at_length {others} a b c d no_header' no_track' is) =
          subst (λ (l : List ℕ). AlienPart l 4) (append_assoc whole others (a ∷ b ∷ c ∷ d ∷ [])) (at_length a b c d no_header' no_track' (passed is))
      part_behind bytes width (at_body part rest is) = at_body (whole ++ part) rest (subst Aliens (sym (append_assoc whole part rest)) (passed is))

      behind : (bytes : List ℕ) (next : ℕ) → From f (at + 8 + size) bytes next → From f at (whole ++ bytes) next
      behind bytes next h = join f at whole (at + 8 + size) bytes next whole_there h

      goes_on : (r : Result (Option ℕ) Fault) → Searched (at + 8 + size) r → Searched at r
      goes_on (Ok (Some place)) (s, type, room) =
          (record { bytes = whole ++ s.bytes; is = passed s.is; there = behind s.bytes place s.there }, type, room)
      goes_on (Ok None) s = record { bytes = whole ++ s.bytes; is = passed s.is; there = behind s.bytes (length f) s.there }
      goes_on (Err why) s = record {
        start = s.start;
        width = s.width;
        spelt = record {
          bytes = whole ++ s.spelt.bytes;
          is = part_behind s.spelt.bytes s.width s.spelt.is;
          there = behind s.spelt.bytes s.start s.spelt.there;
        };
        low = s.low;
        high = s.high;
        last = s.last;
        inside = s.inside;
      }

      -- cut in its body
      body_cut : at + 8 ≤ length f → length f < at + 8 + size → (why : Fault) → why.at ≡ length f → Stops AlienPart at why
      body_cut room short why is =
          let have = bytes_at f (at + 8) (length f - (at + 8)) in
          let lack = bytes_at f 0 (at + 8 + size - length f) in
          let stop : at + 8 + (length f - (at + 8)) ≡ length f = omega arith in
          let n : size ≡ length (have ++ lack) = omega (arith, length-append have lack, bytes_length f (at + 8) (length f - (at + 8)), bytes_length f 0 (at + 8 + size - length f)) in
          record {
            start = length f;
            width = 1;
            spelt = record {
              bytes = Chunk-of have;
              is = at_body (Chunk-of have) lack (subst Aliens (append-nil _) (alien no_Header no_track (chunked at (Four at) (four_there at) (have ++ lack) n) none));
              there = chunk_there at (Four at) (four_there at) have (length f) (subst (From f (at + 8) have) stop (bytes_from f (at + 8) (length f - (at + 8))));
            };
            low = omega arith;
            high = omega arith;
            last = inr is;
            inside = omega arith;
          }

    pub search : (n at : ℕ) → at ≤ length f → length f - at ≤ n → Searched at (track_from n f at)
    unfolding track_from chunk_at number_of number_after
    search zero at room fuel = none_here at (length f) (omega arith)
    search (suc n) at room fuel =
        both (Searched at) (leb (length f) at) _ _
        (λ over. none_here at (length f) (let k = leb-true (length f) at over in omega arith))
        (λ more. let k0 = leb-false (length f) at more in
        both (Searched at) (ltb (length f) (at + 4)) _ _
        (λ short. in_field AlienPart at at 4 [] (at_type none) refl room _ room (ltb-true (length f) (at + 4) short) (inr refl))
        (λ four. let k4 = ltb-false (length f) (at + 4) four in
        both (Searched at) (eqb (four_at f at) header_type) _ _
        (λ _. in_field AlienPart at at 4 [] (at_type none) refl room _ (omega arith) (omega arith) (inl (omega arith)))
        (λ not_header. both (Searched at) (eqb (four_at f at) track_type) _ _
        (λ is. (
          none_here at at refl,
          subst (λ (l : List ℕ). From f at l (at + 4)) (named at 0x4D 0x54 0x72 0x6B (omega arith) (eqb-true (four_at f at) track_type is)) (four_there at),
          k4,
        ))
        (λ not_track.
        let no_Header = unnamed at header_type MThd refl (eqb-false (four_at f at) header_type not_header) in
        let no_track = unnamed at track_type MTrk refl (eqb-false (four_at f at) track_type not_track) in
        both (Searched at) (ltb (length f) (at + 8)) _ _
        (λ short.
        let k8 = ltb-true (length f) (at + 8) short in
        in_field AlienPart at (at + 4) 4 (Four at) (at_length _ _ _ _ no_Header no_track none) (four_there at) k4 _ k4 (omega arith) (inr refl))
        (λ eight. let k8 = ltb-false (length f) (at + 8) eight in
        both (Searched at) (ltb (length f) (at + 8 + four_at f (at + 4))) _ _
        (λ short. body_cut at no_Header no_track k8 (ltb-true (length f) (at + 8 + four_at f (at + 4)) short) _ refl)
        (λ whole.
        let up = ltb-false (length f) (at + 8 + four_at f (at + 4)) whole in
        goes_on at no_Header no_track (track_from n f (at + 8 + four_at f (at + 4))) (search n (at + 8 + four_at f (at + 4)) up (omega arith))))))))

    -- ---- the header
    abbrev pub Opens : Result (ℕ × ℕ) Fault → Type 0
    Opens (Ok (division, next)) = Spelt f (λ (bytes : List ℕ). Header bytes division) 0 next × (next ≤ length f)
    Opens (Err why) = Stops Due 0 why

    pub two_number : (at n : ℕ) → two_at f at ≡ n → byte_at f at * 256 + byte_at f (at + 1) ≡ n
    unfolding two_at number_of number_after
    two_number at n e = omega arith

    -- the two bytes of a number below 256
    two_there : (at n : ℕ) → n < 256 → two_at f at ≡ n → From f at (0 ∷ n ∷ []) (at + 2)
    two_there at n small e =
        let k = two_number at n e in
        (omega arith, (omega arith, omega arith))

    module _ (is : From f 0 MThd 4) (six : 6 ≤ four_at f 4) where
      abbrev Sized : List ℕ → List ℕ
      Sized more = Chunked 0 MThd is more

      sized : (more : List ℕ) (next : ℕ) → From f 8 more next → From f 0 (Sized more) next
      sized more next h = chunk_there 0 MThd is more next h

      big : 6 ≤ number_of (Four 4)
      big = subst (λ (n : ℕ). 6 ≤ n) (four_number 4) six

      module _ (format : From f 8 (0 ∷ 0 ∷ []) 10) (count : From f 10 (0 ∷ 1 ∷ []) 12) (ticks : two_at f 12 < 0x8000) (some : two_at f 12 ≢ 0) where
        abbrev high : ℕ
        high = byte_at f 12

        abbrev low : ℕ
        low = byte_at f 13

        division : two_at f 12 ≡ number_of (high ∷ low ∷ [])
        division = two_is f 12 high low [] 14 (refl, (refl, refl))

        there : (more : List ℕ) (next : ℕ) → From f 14 more next → From f 0 (Sized (0 ∷ 0 ∷ 0 ∷ 1 ∷ high ∷ low ∷ more)) next
        there more next h =
            sized (0 ∷ 0 ∷ 0 ∷ 1 ∷ high ∷ low ∷ more) next
            (join f 8 (0 ∷ 0 ∷ []) 10 (0 ∷ 1 ∷ high ∷ low ∷ more) next format (join f 10 (0 ∷ 1 ∷ []) 12 (high ∷ low ∷ more) next count (refl, (refl, h))))

        header_is : (more : List ℕ) → four_at f 4 ≡ 6 + length more → Header (Sized (0 ∷ 0 ∷ 0 ∷ 1 ∷ high ∷ low ∷ more)) (number_of (high ∷ low ∷ []))
        header_is more e =
            let n : four_at f 4 ≡ length (0 ∷ 0 ∷ 0 ∷ 1 ∷ high ∷ low ∷ more) = omega arith in
            let small : high < 0x80 = omega (arith, two_number 12 (two_at f 12) refl) in
            let positive : 0 < two_at f 12 = positive_of (two_at f 12) some in
            header small (subst (λ (d : ℕ). 0 < d) division positive) (chunked 0 MThd is (0 ∷ 0 ∷ 0 ∷ 1 ∷ high ∷ low ∷ more) n)

        -- from behind the division on
        opened : (why : Fault) → why.at ≡ length f → 14 ≤ length f → Opens (cond (ltb (length f) (8 + four_at f 4)) (Err why) (Ok (two_at f 12, 8 + four_at f 4)))
        opened why at room =
            both Opens (ltb (length f) (8 + four_at f 4)) _ _
            (λ short.
            let k = ltb-true (length f) (8 + four_at f 4) short in
            let have = bytes_at f 14 (length f - 14) in
            let lack = bytes_at f 0 (8 + four_at f 4 - length f) in
            let stop : 14 + (length f - 14) ≡ length f = omega arith in
            let n : four_at f 4 ≡ 6 + length (have ++ lack) = omega (arith, length-append have lack, bytes_length f 14 (length f - 14), bytes_length f 0 (8 + four_at f 4 - length f)) in
            in_field Due 0 (length f) 1 (Sized (0 ∷ 0 ∷ 0 ∷ 1 ∷ high ∷ low ∷ have))
            (rest_due (Sized (0 ∷ 0 ∷ 0 ∷ 1 ∷ high ∷ low ∷ have)) lack (header_is (have ++ lack) n))
            (there have (length f) (subst (From f 14 have) stop (bytes_from f 14 (length f - 14))))
            (omega arith) why (omega arith) (omega arith) (inr at))
            (λ whole.
            let k = ltb-false (length f) (8 + four_at f 4) whole in
            let have = bytes_at f 14 (four_at f 4 - 6) in
            let stop : 14 + (four_at f 4 - 6) ≡ 8 + four_at f 4 = omega arith in
            let n : four_at f 4 ≡ 6 + length have = omega (arith, bytes_length f 14 (four_at f 4 - 6)) in (
              record {
                bytes = Sized (0 ∷ 0 ∷ 0 ∷ 1 ∷ high ∷ low ∷ have);
                is = subst (Header (Sized (0 ∷ 0 ∷ 0 ∷ 1 ∷ high ∷ low ∷ have))) (sym division) (header_is have n);
                there = there have (8 + four_at f 4) (subst (From f 14 have) stop (bytes_from f 14 (four_at f 4 - 6)));
              },
              k,
            ))

      -- from the format on
      opens_fields : 8 ≤ length f → Opens (fields_of f (four_at f 4))
      unfolding fields_of
      opens_fields k8 =
          both Opens (ltb (length f) 10) _ _ (λ short. at_format _ k8 (ltb-true (length f) 10 short) (inr refl))
          (λ k10. let k10 = ltb-false (length f) 10 k10 in
          both Opens (not (eqb (two_at f 8) 0)) _ _ (λ _. at_format _ (omega arith) (omega arith) (inl refl))
          (λ zero. let format = two_there 8 0 (omega arith) (eqb-true (two_at f 8) 0 (not-not (eqb (two_at f 8) 0) zero)) in
          both Opens (ltb (length f) 12) _ _ (λ short. at_count format k10 _ k10 (ltb-true (length f) 12 short) (inr refl))
          (λ k12. let k12 = ltb-false (length f) 12 k12 in
          both Opens (not (eqb (two_at f 10) 1)) _ _ (λ _. at_count format k10 _ (omega arith) (omega arith) (inl refl))
          (λ one. let count = two_there 10 1 (omega arith) (eqb-true (two_at f 10) 1 (not-not (eqb (two_at f 10) 1) one)) in
          both Opens (ltb (length f) 14) _ _ (λ short. at_division format count k12 _ k12 (ltb-true (length f) 14 short) (inr refl))
          (λ k14. let k14 = ltb-false (length f) 14 k14 in
          both Opens (leb 0x8000 (two_at f 12)) _ _ (λ _. at_division format count k12 _ (omega arith) (omega arith) (inl refl))
          (λ ticks. both Opens (eqb (two_at f 12) 0) _ _ (λ _. at_division format count k12 _ (omega arith) (omega arith) (inl refl))
          (λ some. opened format count (leb-false 0x8000 (two_at f 12) ticks) (eqb-false (two_at f 12) 0 some) _ refl k14)))))))
        where
          at_format : (why : Fault) → 8 ≤ why.at → why.at < 10 → (why.at + 1 ≡ 10) ⊎ (why.at ≡ length f) → Stops Due 0 why
          at_format why h k l = in_field Due 0 8 2 (Sized []) (format_due _ _ _ _ big) (sized [] 8 refl) k8 why h k l

          at_count : From f 8 (0 ∷ 0 ∷ []) 10 → 10 ≤ length f → (why : Fault) → 10 ≤ why.at → why.at < 12 → (why.at + 1 ≡ 12) ⊎ (why.at ≡ length f) → Stops Due 0 why
          at_count format room why h k l = in_field Due 0 10 2 (Sized (0 ∷ 0 ∷ [])) (tracks_due _ _ _ _ big) (sized (0 ∷ 0 ∷ []) 10 format) room why h k l

          at_division : From f 8 (0 ∷ 0 ∷ []) 10 → From f 10 (0 ∷ 1 ∷ []) 12 → 12 ≤ length f → (why : Fault) → 12 ≤ why.at → why.at < 14 → (why.at + 1 ≡ 14) ⊎ (why.at ≡ length f) → Stops Due 0 why
          at_division format count room why h k l =
              in_field Due 0 12 2 (Sized (0 ∷ 0 ∷ 0 ∷ 1 ∷ [])) (division_due _ _ _ _ big)
              (sized (0 ∷ 0 ∷ 0 ∷ 1 ∷ []) 12 (join f 8 (0 ∷ 0 ∷ []) 10 (0 ∷ 1 ∷ []) 12 format count)) room why h k l

    pub opens : Opens (header_of f)
    unfolding header_of number_of number_after
    opens =
        both Opens (ltb (length f) 4) _ _ (λ short. at_type _ (ltb-true (length f) 4 short) (inr refl))
        (λ k4. let k4 = ltb-false (length f) 4 k4 in
        both Opens (not (eqb (four_at f 0) header_type)) _ _ (λ _. at_type _ (omega arith) (inl refl))
        (λ same.
        let kind : Four 0 ≡ MThd = named 0 0x4D 0x54 0x68 0x64 (omega arith) (eqb-true (four_at f 0) header_type (not-not (eqb (four_at f 0) header_type) same)) in
        let is : From f 0 MThd 4 = subst (λ (l : List ℕ). From f 0 l 4) kind (four_there 0) in
        both Opens (ltb (length f) 8) _ _ (λ short. at_length is k4 _ k4 (ltb-true (length f) 8 short) (inr refl))
        (λ k8. let k8 = ltb-false (length f) 8 k8 in
        both Opens (ltb (four_at f 4) 6) _ _ (λ _. at_length is k4 _ (omega arith) (omega arith) (inl refl))
        (λ six. opens_fields is (ltb-false (four_at f 4) 6 six) k8))))
      where
        at_type : (why : Fault) → why.at < 4 → (why.at + 1 ≡ 4) ⊎ (why.at ≡ length f) → Stops Due 0 why
        at_type why h l = in_field Due 0 0 4 [] type_due refl (omega arith) why (omega arith) h l

        at_length : From f 0 MThd 4 → 4 ≤ length f → (why : Fault) → 4 ≤ why.at → why.at < 8 → (why.at + 1 ≡ 8) ⊎ (why.at ≡ length f) → Stops Due 0 why
        at_length is room why h k l = in_field Due 0 4 4 MThd length_due is room why h k l
