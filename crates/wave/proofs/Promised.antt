-- Files are what the request says: `specs/Promised.antt`. Assumes nothing.
use mathlib.Core.Path.{◌≡◌, refl, sym, ap, ◌∙◌, subst}
use mathlib.Core.Bool.{Bool, true, false, cond}
use mathlib.Core.List.{List, [], ◌∷◌, ◌++◌, append_assoc, append-nil}
use mathlib.Core.Logic.{◌⊎◌, inl, inr}
use Prim.Native.Nat.{ℕ, zero, suc, ◌+◌, ◌*◌, ◌%◌, ◌^◌, ◌≤◌, ◌<◌}
use native.Mathlib.Nat.{zero-add}
use native.Mathlib.Omega.{arith}
use lib.Dec.{eqb}
use lib.ListN.{length, drop, get_or, length-append, length-drop}
use lib.Seq.{ext_get_or, get_or-take, get_or-drop, drop_at, length-sets, length-take-le}
use borrow.Author.Tests.{eqb-true, eqb-false, le-leb}
use Rattle.walks.specs.Each.{Each}
use Rattle.octets.specs.Octets.{little_bytes}
use Rattle.octets.proofs.Orders.{length_little}
use Rattle.wave.specs.Fields.{four_at, riff_id, wave_id, format_id, fact_id, data_id, word_bytes, listed}
use Rattle.wave.specs.Files.{format_of, riff_row, format_row, fact_row, data_row, header_of, file_of}
use Rattle.wave.specs.Reader.{file_judged, judged_number, words_in}
use Rattle.wave.specs.Grammar.{Chunk, WholeChunk, chunk_bytes, IsWave}
use Rattle.wave.specs.Grammar.Chunks.{none, main, fact}
use Rattle.wave.specs.Memory.{start_at, fits_memory, word_of, frame_words, channel_words, channel_stored, stored_of, bytes_of, fits_file, writes, written_of, output_after, layout_of, loads_in, loads, loaded_in, loaded_of}
use Rattle.wave.specs.Promised.{Sized, recording_at, Rows, Promised}
use Rattle.wave.specs.declared.Starts.{Starts}
use Rattle.wave.specs.declared.Layout.{Layout}
use Rattle.wave.specs.declared.Wave.{Wave}
use Rattle.wave.specs.declared.Judged.{Judged}
use Rattle.wave.specs.declared.Judged.TheVariants.{Is, Refused}
use Rattle.wave.proofs.Standing.{length_words, Word, length-listed, words_stand}
use Rattle.wave.proofs.Layouts.{frame_below, Fits, fits_true, start_fits, file_true, file_short, file_fits}
use Rattle.wave.proofs.Copies.{get_d_listed, word-is, stored_one, stored_two, length_stored, run_else, run_at}
use Rattle.wave.proofs.Answers.{length_format, good_known, good_answer, answered}
use Rattle.wave.proofs.Calls.{length_file, length_frames, load_short, load_done, length_loaded}
use Rattle.wave.proofs.Rows.{length_header}

-- ---- what is written is a good file
even_size : (n : ℕ) → 4 * n % 2 ≡ 0
even_size n = omega arith

-- a chunk of an even number of bytes has no pad byte
whole_chunk : (id : ℕ) (body : List ℕ) (n : ℕ) → id < 2 ^ 32 → length body ≡ n → n < 2 ^ 32 → n % 2 ≡ 0 → WholeChunk (record { id = id; body = body; pad = [] })
whole_chunk id body n h e k even = record { named = h; sized = rw e k; padded = rw e (sym even) }

module _ (rate channels samples : ℕ) (words : List ℕ) (s : Sized rate channels samples words) where
  abbrev format : Chunk
  format = record { id = format_id; body = format_of channels rate (4 * channels * rate % 2 ^ 32); pad = [] }

  abbrev count : Chunk
  count = record { id = fact_id; body = little_bytes 4 samples; pad = [] }

  abbrev sound : Chunk
  sound = record { id = data_id; body = word_bytes words; pad = [] }

  abbrev behind : List ℕ
  behind = chunk_bytes format ++ (chunk_bytes count ++ (chunk_bytes sound ++ []))

  size_is : length (word_bytes words) ≡ 4 * (channels * samples)
  size_is = length_words words ∙ ap (λ (n : ℕ). 4 * n) s.whole_frames

  long_behind : length behind ≡ 46 + 4 * (channels * samples)
  unfolding chunk_bytes
  long_behind = simp (length-append, length_little, length_format, size_is) (omega arith)

  file_is : file_of rate channels samples words ≡ little_bytes 4 riff_id ++ little_bytes 4 (4 + length behind) ++ little_bytes 4 wave_id ++ behind
  unfolding header_of riff_row format_row fact_row data_row chunk_bytes
  file_is =
      let same : 4 + (46 + 4 * (channels * samples)) ≡ 50 + 4 * (channels * samples) = omega arith in
      rw (long_behind, same) (simp (length_format, length_little, size_is, append_assoc, append-nil))

  pub file_good : IsWave (file_of rate channels samples words) rate channels words
  unfolding Each
  file_good = record {
    chunks = behind;
    riff = file_is;
    riff_size = omega (arith, long_behind, s.size_fits);
    format = format;
    sound = sound;
    facts = count ∷ [];
    tiled = main format (whole_chunk format_id _ 18 (omega arith) (length_format _ _ _) (omega arith) refl) (inl refl) (fact count (whole_chunk fact_id _ 4 (omega arith) (length_little 4 samples) (omega arith) refl) refl
        (main sound (whole_chunk data_id _ (4 * (channels * samples)) (omega arith) size_is (omega (arith, s.size_fits)) (even_size (channels * samples))) (inr refl) none));
    format_first = refl;
    sound_second = refl;
    one_fact = omega arith;
    byte_rate = 4 * channels * rate % 2 ^ 32;
    format_body = refl;
    byte_rate_fits = omega arith;
    rate_fits = s.rate_fits;
    some_channel = s.some_channel;
    block_fits = s.block_fits;
    samples = samples;
    whole_frames = s.whole_frames;
    sound_body = refl;
    words_fit = s.words_fit;
    fact_body = (refl, tt);
  }

  pub file_samples : file_good.samples ≡ samples
  unfolding file_good
  file_samples = refl

  -- where a word stands in the file
  drop_header : drop 58 (file_of rate channels samples words) ≡ word_bytes words ++ []
  drop_header = drop_at (header_of rate channels samples) (word_bytes words) 58 (length_header rate channels samples) ∙ sym (append-nil (word_bytes words))

  word_at : (k : ℕ) → k < length words → four_at (file_of rate channels samples words) (58 + 4 * k) ≡ get_or words k 0
  word_at k h =
      let read = words_stand words (file_of rate channels samples words) 58 0 58 [] (omega arith) s.words_fit drop_header in
      let at = get_d_listed (λ (i : ℕ). four_at (file_of rate channels samples words) (58 + 4 * i)) 0 (length words) k h in
      ap (λ (i : ℕ). four_at (file_of rate channels samples words) (58 + 4 * i)) (sym (zero-add k)) ∙ sym at ∙ ap (λ (l : List ℕ). get_or l k 0) read

frame_at : (l : Layout) (m : List ℕ) (i j : ℕ) → i < l.samples → j < l.channels → get_or (frame_words l m) (i * l.channels + j) 0 ≡ get_or m (start_at l.starts j + i) 0
unfolding frame_words
frame_at l m i j h k =
    get_d_listed (word_of l m) 0 (l.channels * l.samples) (i * l.channels + j) (frame_below l.channels l.samples i j h k)
    ∙ ap (word_of l m) (zero-add (i * l.channels + j)) ∙ word-is l m i j k

-- ---- a recording in a memory, word by word
module _ (starts : Starts) (n j : ℕ) (m : List ℕ) where
  recording_length : start_at starts j + n ≤ length m → length (recording_at starts n j m) ≡ n
  recording_length h = length-take-le n (drop (start_at starts j) m) (rw length-drop (omega arith))

  recording_at_lem : (i : ℕ) → i < n → get_or (recording_at starts n j m) i 0 ≡ get_or m (start_at starts j + i) 0
  recording_at_lem i h = get_or-take n (drop (start_at starts j) m) i 0 h ∙ get_or-drop (start_at starts j) m i 0

-- ---- a memory afterwards
module _ (l : Layout) (words m : List ℕ) (fits : Fits l (length m)) where
  long : (j : ℕ) → length (channel_words l.channels l.samples j words) ≡ l.samples
  long j = length-listed _ 0 l.samples

  -- a channel's words leave what stands beside them
  beside : (j : ℕ) (x : ℕ) (before : List ℕ) → (x < start_at l.starts j) ⊎ (start_at l.starts j + l.samples ≤ x)
      → get_or (channel_stored l words j before) x 0 ≡ get_or before x 0
  beside j x before h =
      run_else 0 (channel_words l.channels l.samples j words) before (start_at l.starts j) x
      (subst (λ (n : ℕ). (x < start_at l.starts j) ⊎ (start_at l.starts j + n ≤ x)) (sym (long j)) h)

  inside : (j i : ℕ) (before : List ℕ) → length before ≡ length m → j < l.channels → i < l.samples
      → get_or (channel_stored l words j before) (start_at l.starts j + i) 0 ≡ get_or (channel_words l.channels l.samples j words) i 0
  inside j i before e h k =
      run_at 0 (channel_words l.channels l.samples j words) before (start_at l.starts j) i (omega (arith, long j))
      (omega (arith, long j, start_fits l (length m) fits j h))

  -- what holds of a memory with one channel stored, and of one with both
  cases : (P : List ℕ → Type 0) → ((l.channels ≡ 2 → ⊥) → P (channel_stored l words 0 m))
      → (l.channels ≡ 2 → P (channel_stored l words 1 (channel_stored l words 0 m))) → P (stored_of l words m)
  cases P one two = go (eqb l.channels 2) refl
    where
      go : (t : Bool) → eqb l.channels 2 ≡ t → P (stored_of l words m)
      go true e = subst P (sym (stored_two l words m (eqb-true _ _ e))) (two (eqb-true _ _ e))
      go false e = subst P (sym (stored_one l words m (eqb-false _ _ e))) (one (eqb-false _ _ e))

  stored_at : (j i : ℕ) → j < l.channels → i < l.samples
      → get_or (stored_of l words m) (start_at l.starts j + i) 0 ≡ get_or (channel_words l.channels l.samples j words) i 0
  stored_at zero i h k =
      let first = inside 0 i m refl h k in
      cases (λ (x : List ℕ). get_or x (l.starts.first + i) 0 ≡ get_or (channel_words l.channels l.samples 0 words) i 0) (λ _. first)
      (λ two. beside 1 (l.starts.first + i) (channel_stored l words 0 m) (inl (omega (arith, fits.apart two))) ∙ first)
  stored_at (suc j) i h k =
      let one : suc j ≡ 1 = omega (arith, fits.few) in
      let two : l.channels ≡ 2 = omega (arith, fits.few) in
      rw (one, stored_two l words m two) (inside 1 i (channel_stored l words 0 m) (length-sets m _ (channel_words l.channels l.samples 0 words)) (omega arith) k)

  stored_recording : (j : ℕ) → j < l.channels → recording_at l.starts l.samples j (stored_of l words m) ≡ channel_words l.channels l.samples j words
  stored_recording j h =
      let n = recording_length l.starts l.samples j (stored_of l words m) (omega (arith, start_fits l (length m) fits j h, length_stored l words m)) in
      ext_get_or 0 _ _ (n ∙ sym (long j))
      (λ i less. let few : i < l.samples = omega (arith, n) in recording_at_lem l.starts l.samples j (stored_of l words m) i few ∙ stored_at j i h few)

  stored_else : (x : ℕ) → ((j : ℕ) → j < l.channels → (x < start_at l.starts j) ⊎ (start_at l.starts j + l.samples ≤ x)) → get_or (stored_of l words m) x 0 ≡ get_or m x 0
  stored_else x h =
      let first = beside 0 x m (h 0 fits.some) in
      cases (λ (y : List ℕ). get_or y x 0 ≡ get_or m x 0) (λ _. first) (λ two. beside 1 x (channel_stored l words 0 m) (h 1 (omega arith)) ∙ first)

-- ---- reading
module _ (f : List ℕ) (w : Wave) (starts : Starts) (m : List ℕ) (e : file_judged f ≡ Is w) where
  loaded_recording : fits_memory (layout_of w starts) (length m) ≡ true → (j : ℕ) → j < w.channels
      → recording_at starts w.samples j (loaded_of f starts m) ≡ channel_words w.channels w.samples j (words_in f w)
  loaded_recording h j k =
      ap (recording_at starts w.samples j) (sym (load_done f starts m w e h).1) ∙ stored_recording (layout_of w starts) (words_in f w) m (fits_true _ _ h) j k

  loaded_else : (x : ℕ) → ((j : ℕ) → j < w.channels → (x < start_at starts j) ⊎ (start_at starts j + w.samples ≤ x)) → get_or (loaded_of f starts m) x 0 ≡ get_or m x 0
  loaded_else x beside = go (fits_memory (layout_of w starts) (length m)) refl
    where
      go : (t : Bool) → fits_memory (layout_of w starts) (length m) ≡ t → get_or (loaded_of f starts m) x 0 ≡ get_or m x 0
      go true h = ap (λ (y : List ℕ). get_or y x 0) (sym (load_done f starts m w e h).1) ∙ stored_else (layout_of w starts) (words_in f w) m (fits_true _ _ h) x beside
      go false h = ap (λ (y : List ℕ). get_or y x 0) (sym (load_short f starts m w e h).1)

load_held : (f : List ℕ) (starts : Starts) (m : List ℕ) → loads f starts (length m) ≡ false → loaded_of f starts m ≡ m
unfolding loads loaded_of
load_held f starts m = go (file_judged f)
  where
    go : (j : Judged) → loads_in starts (length m) j ≡ false → loaded_in f starts m j ≡ m
    go (Is w) h = rw h
    go Refused h = refl

write_held : (rate : ℕ) (l : Layout) (m out : List ℕ) → written_of l (length m) (length out) ≡ 0 → output_after rate l m out ≡ out
unfolding written_of output_after
write_held rate l m out = go (writes l (length m) (length out))
  where
    go : (t : Bool) → cond t (bytes_of l) 0 ≡ 0 → cond t (file_of rate l.channels l.samples (frame_words l m) ++ drop (bytes_of l) out) out ≡ out
    go true h = absurd (omega arith)
    go false h = refl

write_rows : (l : Layout) (size room : ℕ) → Rows l size room
unfolding written_of writes
write_rows l size room = record {
  short_row = λ h k. rw (h, file_short l room k);
  done_row = λ h s k. rw (h, file_fits l room s, le-leb _ _ k);
}

numbers : (f : List ℕ) → (judged_number (file_judged f) ≡ 0) ⊎ (judged_number (file_judged f) ≡ 17)
unfolding judged_number
numbers f = go (file_judged f)
  where
    go : (j : Judged) → (judged_number j ≡ 0) ⊎ (judged_number j ≡ 17)
    go (Is w) = inl refl
    go Refused = inr refl

one_reading : (f : List ℕ) (rate channels rate₁ channels₁ : ℕ) (words words₁ : List ℕ) → IsWave f rate channels words → IsWave f rate₁ channels₁ words₁
    → (rate ≡ rate₁) × (channels ≡ channels₁) × (words ≡ words₁)
one_reading f rate channels rate₁ channels₁ words words₁ g h =
    let a = good_answer f rate channels words g in
    let b = good_answer f rate₁ channels₁ words₁ h in
    (cc, cc, cc)

-- ---- a channel's words, frame by frame and in the memory
pub frames_recording : (l : Layout) (m : List ℕ) → Fits l (length m) → (j : ℕ) → j < l.channels
    → channel_words l.channels l.samples j (frame_words l m) ≡ recording_at l.starts l.samples j m
frames_recording l m fits j h =
    let n = length-listed (λ (i : ℕ). get_or (frame_words l m) (i * l.channels + j) 0) 0 l.samples in
    ext_get_or 0 _ _ (n ∙ sym (recording_length l.starts l.samples j m (start_fits l (length m) fits j h)))
    (λ i less. let few : i < l.samples = omega (arith, n) in
    get_d_listed _ 0 l.samples i few ∙ ap (λ (k : ℕ). get_or (frame_words l m) (k * l.channels + j) 0) (zero-add i) ∙ frame_at l m i j few h
    ∙ sym (recording_at_lem l.starts l.samples j m i few))

-- ---- written and loaded
word_fits : (m : List ℕ) (x : ℕ) → Each Word m → Word (get_or m x 0)
unfolding Each
word_fits [] x h = omega arith
word_fits (a ∷ m) zero h = h.0
word_fits (a ∷ m) (suc x) h = word_fits m x h.1

listed_each : (P : ℕ → Type 0) (g : ℕ → ℕ) (k n : ℕ) → ((x : ℕ) → P (g x)) → Each P (listed g k n)
unfolding listed Each
listed_each P g k zero h = tt
listed_each P g k (suc n) h = (h k, listed_each P g (k + 1) n h)

module _ (rate : ℕ) (l : Layout) (m : List ℕ) (small : rate < 2 ^ 32) (words : Each Word m) (fits : fits_memory l (length m) ≡ true)
    (file : fits_file l (bytes_of l) ≡ true) where
  pub sized : Sized rate l.channels l.samples (frame_words l m)
  unfolding frame_words
  sized =
      let sizes = file_true l (bytes_of l) file in
      record {
        rate_fits = small;
        some_channel = (fits_true l (length m) fits).some;
        block_fits = omega (arith, (fits_true l (length m) fits).few);
        size_fits = omega arith;
        whole_frames = length_frames l m;
        words_fit = listed_each Word _ 0 (l.channels * l.samples) (λ k. word_fits m _ words);
      }

  there_and_back : (starts : Starts) (m₁ : List ℕ) → fits_memory (record { channels = l.channels; samples = l.samples; starts = starts }) (length m₁) ≡ true
      → (j : ℕ) → j < l.channels
      → recording_at starts l.samples j (loaded_of (file_of rate l.channels l.samples (frame_words l m)) starts m₁) ≡ recording_at l.starts l.samples j m
  there_and_back starts m₁ fits₁ j h =
      let whole = file_of rate l.channels l.samples (frame_words l m) in
      let known = good_known whole rate l.channels (frame_words l m) (file_good rate l.channels l.samples (frame_words l m) sized) in
      let w = known.wave in
      let c : w.channels ≡ l.channels = known.same_channels in
      let n : w.samples ≡ l.samples = known.same_samples ∙ file_samples rate l.channels l.samples (frame_words l m) sized in
      let there : fits_memory (layout_of w starts) (length m₁) ≡ true = rw (c, n) fits₁ in
      let words : channel_words w.channels w.samples j (words_in whole w) ≡ recording_at l.starts l.samples j m =
      rw (known.same_words, c, n) (frames_recording l m (fits_true l (length m) fits) j h) in
      rw n at (loaded_recording whole w starts m₁ known.judged there j (rw c h) ∙ words)

-- ---- all of it
pub promised : Promised
promised = record {
  answered = answered;
  good = good_answer;
  numbers = numbers;
  one_reading = one_reading;
  round_trip = λ rate channels samples words s. good_answer _ rate channels words (file_good rate channels samples words s);
  file_length = λ rate channels samples words s. length_file rate channels samples words ∙ ap (λ (n : ℕ). 58 + 4 * n) s.whole_frames;
  sample_at = λ rate channels samples words s i j h k.
      word_at rate channels samples words s (i * channels + j) (rw s.whole_frames (frame_below channels samples i j h k));
  frame_at = frame_at;
  loaded_recording = loaded_recording;
  loaded_else = loaded_else;
  loaded_length = length_loaded;
  there_and_back = λ rate l starts m m₁ small words fits file. there_and_back rate l m small words fits file starts m₁;
  write_rows = write_rows;
  load_held = load_held;
  write_held = write_held;
}
