-- A header stored field by field is the header. Assumes nothing.
use mathlib.Core.Path.{◌≡◌, refl, ◌∙◌}
use mathlib.Core.List.{List, ◌++◌, append_assoc}
use Prim.Native.Nat.{ℕ, ◌+◌, ◌*◌, ◌%◌, ◌^◌}
use lib.ListN.{length}
use lib.Seq.{sets}
use Rattle.walks.proofs.Lists.Runs.{run-append}
use Rattle.octets.specs.Octets.{little_bytes}
use Rattle.wave.specs.Fields.{riff_id, wave_id, format_id, fact_id, data_id}
use Rattle.wave.specs.Files.{format_of, riff_row, format_row, fact_row, data_row, header_of}

-- one run behind the other
pub after : (l : List ℕ) (i j : ℕ) (a b : List ℕ) {x y : List ℕ} → i + length a ≡ j → x ≡ sets l i a → y ≡ sets x j b → y ≡ sets l i (a ++ b)
after l i j a b e f g = g ∙ rw (f, ← e) (run-append l a b i)

abbrev four : ℕ → List ℕ
four n = little_bytes 4 n

abbrev two : ℕ → List ℕ
two n = little_bytes 2 n

long_row : (bytes : ℕ) → 0 + length (riff_row bytes) ≡ 12
unfolding riff_row little_bytes
long_row bytes = refl

long_rows : (rate channels bytes : ℕ) → 0 + length (riff_row bytes ++ format_row rate channels) ≡ 38
unfolding riff_row format_row format_of little_bytes
long_rows rate channels bytes = refl

pub length_header : (rate channels samples : ℕ) → length (header_of rate channels samples) ≡ 58
unfolding header_of riff_row format_row format_of fact_row data_row little_bytes
length_header rate channels samples = refl

module _ (l : List ℕ) where
  pub riff_put : (bytes : ℕ) {x y z : List ℕ} → x ≡ sets l 0 (four riff_id) → y ≡ sets x 4 (four (50 + bytes)) → z ≡ sets y 8 (four wave_id) → z ≡ sets l 0 (riff_row bytes)
  unfolding riff_row little_bytes
  riff_put bytes p q r = after l 0 8 (four riff_id ++ four (50 + bytes)) (four wave_id) refl (after l 0 4 (four riff_id) (four (50 + bytes)) refl p q) r

  pub sizes_put : (samples bytes : ℕ) {x y z u v : List ℕ} → x ≡ sets l 38 (four fact_id) → y ≡ sets x 42 (four 4) → z ≡ sets y 46 (four samples)
      → u ≡ sets z 50 (four data_id) → v ≡ sets u 54 (four bytes) → v ≡ sets l 38 (fact_row samples ++ data_row bytes)
  unfolding fact_row data_row little_bytes
  sizes_put samples bytes p q r s t =
      let fact = four fact_id ++ four 4 ++ four samples in
      after l 38 54 (fact ++ four data_id) (four bytes) refl
      (after l 38 50 fact (four data_id) refl (after l 38 46 (four fact_id ++ four 4) (four samples) refl (after l 38 42 (four fact_id) (four 4) refl p q) r) s) t

  pub format_put : (rate channels rest : ℕ) {a b c d e g h i j : List ℕ} → rest ≡ 4 * channels * rate % 2 ^ 32
      → a ≡ sets l 12 (four format_id) → b ≡ sets a 16 (four 18) → c ≡ sets b 20 (two 3) → d ≡ sets c 22 (two channels) → e ≡ sets d 24 (four rate)
      → g ≡ sets e 28 (four rest) → h ≡ sets g 32 (two (4 * channels)) → i ≡ sets h 34 (two 32) → j ≡ sets i 36 (two 0)
      → j ≡ sets l 12 (format_row rate channels)
  unfolding format_row format_of little_bytes
  format_put rate channels rest is p q r s t u v w x =
      let two_rows = four format_id ++ four 18 in
      let tag = two_rows ++ two 3 in
      let count = tag ++ two channels in
      let speed = count ++ four rate in
      let bytes = speed ++ four rest in
      let block = bytes ++ two (4 * channels) in
      let bits = block ++ two 32 in
      rw (← is) (after l 12 36 bits (two 0) refl (after l 12 34 block (two 32) refl (after l 12 32 bytes (two (4 * channels)) refl
      (after l 12 28 speed (four rest) refl (after l 12 24 count (four rate) refl (after l 12 22 tag (two channels) refl
      (after l 12 20 two_rows (two 3) refl (after l 12 16 (four format_id) (four 18) refl p q) r) s) t) u) v) w) x)

  pub header_put : (rate channels samples : ℕ) {x y z : List ℕ} → x ≡ sets l 0 (riff_row (4 * (channels * samples))) → y ≡ sets x 12 (format_row rate channels)
      → z ≡ sets y 38 (fact_row samples ++ data_row (4 * (channels * samples))) → z ≡ sets l 0 (header_of rate channels samples)
  unfolding header_of
  header_put rate channels samples p q r =
      let first = riff_row (4 * (channels * samples)) in
      let last = data_row (4 * (channels * samples)) in
      rw (append_assoc (first ++ format_row rate channels) (fact_row samples) last)
      (after l 0 38 (first ++ format_row rate channels) (fact_row samples ++ last) (long_rows rate channels (4 * (channels * samples)))
      (after l 0 12 first (format_row rate channels) (long_row (4 * (channels * samples))) p q) r)
