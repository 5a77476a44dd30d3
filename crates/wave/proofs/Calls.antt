-- What `write` and `load` answer and leave, case by case. Assumes nothing.
use mathlib.Core.Path.{◌≡◌, refl, ◌∙◌}
use mathlib.Core.Bool.{true, false, ◌&&◌}
use mathlib.Core.List.{List, ◌++◌}
use Prim.Native.Nat.{ℕ, ◌+◌, ◌*◌, ◌^◌, ◌≤◌, ◌<◌}
use native.Mathlib.Nat.{zero-add}
use native.Mathlib.Omega.{arith}
use lib.Dec.{ltb, leb}
use lib.ListN.{length, drop, length-append}
use lib.Seq.{sets}
use borrow.Author.Tests.{ltb-true, leb-true, lt-ltb, le-leb, lt-leb}
use Rattle.walks.proofs.Lists.Every.{both as and_both}
use Rattle.walks.proofs.Lists.Runs.{run_front}
use Rattle.octets.specs.Octets.{little_bytes}
use Rattle.wave.specs.Fields.{word_bytes}
use Rattle.wave.specs.Files.{header_of, file_of, head_fits, head_put, word_put}
use Rattle.wave.specs.Reader.{words_in, file_judged}
use Rattle.wave.specs.Memory.{fits_memory, frame_words, stored_of, bytes_of, fits_file, writes, written_of, output_after, layout_of, loads, loaded_in, loaded_of}
use Rattle.wave.specs.declared.Starts.{Starts}
use Rattle.wave.specs.declared.Layout.{Layout}
use Rattle.wave.specs.declared.Wave.{Wave}
use Rattle.wave.specs.declared.Judged.{Judged}
use Rattle.wave.specs.declared.Judged.TheVariants.{Is, Refused}
use Rattle.wave.proofs.Standing.{length_words, length-listed}
use Rattle.wave.proofs.Judgements.{both}
use Rattle.wave.proofs.Layouts.{file_true}
use Rattle.wave.proofs.Copies.{length_stored}
use Rattle.wave.proofs.Rows.{after, length_header}

-- ---- writing
pub length_frames : (l : Layout) (m : List ℕ) → length (frame_words l m) ≡ l.channels * l.samples
unfolding frame_words
length_frames l m = length-listed _ 0 (l.channels * l.samples)

pub length_file : (rate channels samples : ℕ) (words : List ℕ) → length (file_of rate channels samples words) ≡ 58 + 4 * length words
length_file rate channels samples words = length-append (header_of rate channels samples) (word_bytes words) ∙ rw (length_header rate channels samples, length_words words)

-- a header, and words behind it
pub file_put : (rate channels samples : ℕ) (words out : List ℕ) {x y : List ℕ} → 58 + 4 * length words ≤ length out → x ≡ sets out 0 (header_of rate channels samples)
    → y ≡ sets x 58 (word_bytes words) → y ≡ file_of rate channels samples words ++ drop (58 + 4 * length words) out
file_put rate channels samples words out room h k =
    let long = length_file rate channels samples words in
    let stored = after out 0 58 (header_of rate channels samples) (word_bytes words) (zero-add _ ∙ length_header rate channels samples) h k in
    rw (← long) (stored ∙ run_front out (file_of rate channels samples words) (omega arith))

module _ (rate : ℕ) (l : Layout) (m out : List ℕ) where
  pub write_unfit : fits_memory l (length m) ≡ false → (0 ≡ written_of l (length m) (length out)) × (out ≡ output_after rate l m out)
  unfolding written_of output_after writes
  write_unfit e = (rw e, rw e)

  pub write_short : fits_memory l (length m) ≡ true → fits_file l (length out) ≡ false → (0 ≡ written_of l (length m) (length out)) × (out ≡ output_after rate l m out)
  unfolding written_of output_after writes
  write_short e g = (rw (e, g), rw (e, g))

  pub write_done : fits_memory l (length m) ≡ true → fits_file l (length out) ≡ true → {x y : List ℕ} → x ≡ sets out 0 (header_of rate l.channels l.samples)
      → y ≡ sets x 58 (word_bytes (frame_words l m)) → (bytes_of l ≡ written_of l (length m) (length out)) × (y ≡ output_after rate l m out)
  unfolding written_of output_after writes
  write_done e g h k =
      let long = length_frames l m in
      let room = (file_true l (length out) g).room_fits in
      (rw (e, g), rw (e, g, ← long) (file_put rate l.channels l.samples (frame_words l m) out (omega arith) h k))

-- ---- a file's parts, stored where they have room
module _ (out : List ℕ) (rate channels samples : ℕ) where
  pub head_done : head_fits channels samples (length out) ≡ true → sets out 0 (header_of rate channels samples) ≡ head_put out rate channels samples
  unfolding head_put
  head_done e = rw e

  pub head_left : head_fits channels samples (length out) ≡ false → out ≡ head_put out rate channels samples
  unfolding head_put
  head_left e = rw e

pub record HeadFits (channels samples room : ℕ) : Type 0 where
  pub block_fits : 4 * channels < 2 ^ 16
  pub size_fits : 50 + 4 * (channels * samples) < 2 ^ 32
  pub room_fits : 58 ≤ room

module _ (channels samples room : ℕ) where
  pub head_true : head_fits channels samples room ≡ true → HeadFits channels samples room
  unfolding head_fits
  head_true e =
      let a = and_both (leb channels 0x3fff) _ e in
      let b = and_both (ltb (50 + 4 * (channels * samples)) (2 ^ 32)) _ a.1 in
      let few : channels ≤ 0x3fff = leb-true _ _ a.0 in
      record { block_fits = omega arith; size_fits = ltb-true _ _ b.0; room_fits = leb-true _ _ b.1 }

  pub head_made : HeadFits channels samples room → head_fits channels samples room ≡ true
  unfolding head_fits
  head_made h =
      let few : channels ≤ 0x3fff = omega (arith, h.block_fits) in
      simp (le-leb _ _ few, lt-ltb _ _ h.size_fits, le-leb _ _ h.room_fits)

  pub head_many : 0x3fff < channels → false ≡ head_fits channels samples room
  unfolding head_fits
  head_many h = simp (lt-leb _ _ h)

  pub head_few : channels ≤ 0x3fff → (ltb (50 + 4 * (channels * samples)) (2 ^ 32) && leb 58 room) ≡ head_fits channels samples room
  unfolding head_fits
  head_few h = simp (le-leb _ _ h)

module _ (out : List ℕ) (at word : ℕ) where
  pub word_done : at + 4 ≤ length out → sets out at (little_bytes 4 word) ≡ word_put out at word
  unfolding word_put
  word_done h = rw (le-leb _ _ h)

  pub word_left : leb (at + 4) (length out) ≡ false → out ≡ word_put out at word
  unfolding word_put
  word_left e = rw e

-- ---- reading
module _ (f : List ℕ) (starts : Starts) (m : List ℕ) where
  pub load_refused : file_judged f ≡ Refused → (false ≡ loads f starts (length m)) × (m ≡ loaded_of f starts m)
  unfolding loads loaded_of
  load_refused e = (rw e, rw e)

  pub load_short : (w : Wave) → file_judged f ≡ Is w → fits_memory (layout_of w starts) (length m) ≡ false → (false ≡ loads f starts (length m)) × (m ≡ loaded_of f starts m)
  unfolding loads loaded_of
  load_short w e g = (rw (e, g), rw (e, g))

  pub load_done : (w : Wave) → file_judged f ≡ Is w → fits_memory (layout_of w starts) (length m) ≡ true
      → (true ≡ loads f starts (length m)) × (stored_of (layout_of w starts) (words_in f w) m ≡ loaded_of f starts m)
  unfolding loads loaded_of
  load_done w e g = (rw (e, g), rw (e, g))

  -- the memory keeps its length
  pub length_loaded : length (loaded_of f starts m) ≡ length m
  unfolding loaded_of
  length_loaded = go (file_judged f)
    where
      go : (j : Judged) → length (loaded_in f starts m j) ≡ length m
      go (Is w) = both (λ (x : List ℕ). length x ≡ length m) (fits_memory (layout_of w starts) (length m)) _ _ (λ _. length_stored (layout_of w starts) (words_in f w) m) (λ _. refl)
      go Refused = refl
