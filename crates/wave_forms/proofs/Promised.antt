-- Files of other forms are turned as `specs/Promised.antt` says. Assumes nothing.
use Rattle.std.specs.Prelude.{Option, Some, None}
use mathlib.Core.Path.{◌≡◌, refl, sym, ap, ◌∙◌}
use mathlib.Core.Bool.{Bool, true, false, cond}
use mathlib.Core.List.{List, [], ◌∷◌, ◌++◌, map}
use mathlib.Core.Logic.{◌⊎◌, inl, inr}
use Prim.Native.Nat.{ℕ, zero, suc, ◌+◌, ◌-◌, ◌*◌, ◌/◌, ◌^◌, ◌≤◌, ◌<◌}
use native.Mathlib.Nat.{lt_of_lt_of_le, lt_of_le_of_lt, mul_assoc, mul_comm}
use native.Mathlib.Omega.{arith}
use lib.Dec.{T, ltb, leb}
use lib.ListN.{length, drop, get_or}
use lib.Pow.{pow-add, pow_pos, pow-lt, pow_mono, shl_lt}
use lib.Ieee.{Float, nan, inf, fin, binary32, binary64, up, down, of_bits, fits}
use lib.Ieee.Bits.{to_bits-lt}
use lib.Ieee.Fits.{down_pos, nan-fits, inf-fits, round-fits}
use lib.Ieee.Exact.{HasValue, round_exact}
use borrow.Author.Tests.{leb-true, leb-false, lt-ltb, le-ltb}
use Rattle.walks.specs.Each.{Each}
use Rattle.binary32.proofs.Rounding.{round_held}
use Rattle.octets.specs.Octets.{Bytes, little_bytes}
use Rattle.wave.specs.Files.{format_of, file_of}
use Rattle.wave.specs.Grammar.{IsWave}
use Rattle.wave.specs.Promised.{Sized}
use Rattle.wave.proofs.Standing.{Word, words_are}
use Rattle.wave.proofs.Answers.{framed}
use Rattle.wave.proofs.Calls.{length_file}
use Rattle.wave.proofs.Promised as wave
use Rattle.wave_forms.specs.Values.{negative, magnitude, whole_of, narrow_of, number_word}
use Rattle.wave_forms.specs.Reader.{file_judged, numbers_in}
use Rattle.wave_forms.specs.Grammar.{Kind, IsForm, body_of, words_of_file}
use Rattle.wave_forms.specs.Grammar.Kind.{whole16, whole24, whole32, float32, float64}
use Rattle.wave_forms.specs.Grammar.Tail.{empty}
use Rattle.wave_forms.specs.Turns.{bytes_of, turned_into, turn_answer, file_from, output_by, output_after}
use Rattle.wave_forms.specs.Promised.{Formed, Promised}
use Rattle.wave_forms.specs.declared.Source.{Source}
use Rattle.wave_forms.proofs.Answers.{source, words_are as words_of, answer_good, known}

-- ---- answers
abbrev number_for : Bool → ℕ
number_for b = cond b 8 0

answered : (f : List ℕ) (room : ℕ) → Bytes f → ((turn_answer f room).number ≡ 17 → ⊥) → Formed f
unfolding turn_answer
answered f room bytes = go (file_judged f) refl
  where
    go : (j : Option Source) → file_judged f ≡ j → ((turned_into room j).number ≡ 17 → ⊥) → Formed f
    go (Some s) e h = record { rate = s.form.rate; channels = s.form.channels; tag = s.form.tag; bits = s.form.bits; numbers = numbers_in f s; form = answer_good f bytes s e }
    go None e h = absurd (h refl)

numbered : (f : List ℕ) (room : ℕ) → ((turn_answer f room).number ≡ 0) ⊎ ((turn_answer f room).number ≡ 8) ⊎ (turn_answer f room ≡ record { length = 0; number = 17 })
unfolding turn_answer
numbered f room = go (file_judged f)
  where
    pick : (b : Bool) (P : Type 0) → (number_for b ≡ 0) ⊎ (number_for b ≡ 8) ⊎ P
    pick true P = inr (inl refl)
    pick false P = inl refl

    go : (j : Option Source) → ((turned_into room j).number ≡ 0) ⊎ ((turned_into room j).number ≡ 8) ⊎ (turned_into room j ≡ record { length = 0; number = 17 })
    go (Some s) = pick (ltb room (bytes_of s)) _
    go None = inr (inr refl)

held : (f out : List ℕ) → ((turn_answer f (length out)).number ≡ 0 → ⊥) → output_after f out ≡ out
unfolding turn_answer output_after
held f out = go (file_judged f)
  where
    pick : (b : Bool) (x : List ℕ) → (number_for b ≡ 0 → ⊥) → cond b out x ≡ out
    pick true x h = refl
    pick false x h = absurd (h refl)

    go : (j : Option Source) → ((turned_into (length out) j).number ≡ 0 → ⊥) → output_by f out j ≡ out
    go (Some s) h = pick (ltb (length out) (bytes_of s)) (file_from f s ++ drop (bytes_of s) out) h
    go None h = refl

-- ---- words
length-map : (h : ℕ → ℕ) (l : List ℕ) → length (map h l) ≡ length l
length-map h [] = refl
length-map h (x ∷ l) = ap suc (length-map h l)

get_d_map : (h : ℕ → ℕ) (l : List ℕ) (k : ℕ) → k < length l → get_or (map h l) k 0 ≡ h (get_or l k 0)
get_d_map h [] k less = absurd (omega arith)
get_d_map h (x ∷ l) zero less = refl
get_d_map h (x ∷ l) (suc k) less = get_d_map h l k (omega arith)

each_map : (P Q : ℕ → Type 0) (h : ℕ → ℕ) → ((n : ℕ) → P n → Q (h n)) → (l : List ℕ) → Each P l → Each Q (map h l)
unfolding Each
each_map P Q h g [] e = tt
each_map P Q h g (x ∷ l) e = (g x e.0, each_map P Q h g l e.1)

narrow_fits : (x : Float) → T (fits binary32 (narrow_of x))
narrow_fits nan = nan-fits binary32
narrow_fits (inf s) = inf-fits binary32 s
narrow_fits (fin s m e) = round-fits binary32 s _ _

word_below : {tag bits : ℕ} → Kind tag bits → (n : ℕ) → n < 256 ^ (bits / 8) → number_word tag bits n < 2 ^ 32
unfolding number_word
word_below whole16 n h = to_bits-lt binary32 (whole_of 16 n) (round-fits binary32 _ _ _)
word_below whole24 n h = to_bits-lt binary32 (whole_of 24 n) (round-fits binary32 _ _ _)
word_below whole32 n h = to_bits-lt binary32 (whole_of 32 n) (round-fits binary32 _ _ _)
word_below float32 n h = h
word_below float64 n h = to_bits-lt binary32 (narrow_of (of_bits binary64 n)) (narrow_fits (of_bits binary64 n))

-- ---- a file of a known form
module _ (f : List ℕ) (rate channels tag bits : ℕ) (numbers : List ℕ) (g : IsForm f rate channels tag bits numbers) where
  words : file_from f (source f rate channels tag bits numbers g (known f rate channels tag bits numbers g).places) ≡ file_of rate channels g.samples (words_of_file tag bits numbers)
  words =
      let k = known f rate channels tag bits numbers g in
      ap (file_of rate channels g.samples) (words_of f (source f rate channels tag bits numbers g k.places) ∙ ap (words_of_file tag bits) k.same_numbers)

  good : (out : List ℕ) → 58 + 4 * length numbers ≤ length out → (turn_answer f (length out) ≡ record { length = 58 + 4 * length numbers; number = 0 })
      × (output_after f out ≡ file_of rate channels g.samples (words_of_file tag bits numbers) ++ drop (58 + 4 * length numbers) out)
  unfolding turn_answer output_after
  good out h =
      let k = known f rate channels tag bits numbers g in
      let fits = le-ltb (length out) (58 + 4 * length numbers) h in
      (rw (k.judged, fits), rw (k.judged, fits, words))

  short : (room : ℕ) → room < 58 + 4 * length numbers → turn_answer f room ≡ record { length = 58 + 4 * length numbers; number = 8 }
  unfolding turn_answer
  short room h = rw ((known f rate channels tag bits numbers g).judged, lt-ltb room (58 + 4 * length numbers) h)

  sized : Sized rate channels g.samples (words_of_file tag bits numbers)
  sized = record {
    rate_fits = g.rate_fits;
    some_channel = g.some_channel;
    block_fits = g.channels_fit;
    size_fits = g.size_fits;
    whole_frames = length-map _ numbers ∙ g.whole_frames;
    words_fit = each_map _ Word _ (word_below g.kind) numbers g.numbers_fit;
  }

one_form : (f : List ℕ) (rate channels tag bits rate₁ channels₁ tag₁ bits₁ : ℕ) (numbers numbers₁ : List ℕ)
    → IsForm f rate channels tag bits numbers → IsForm f rate₁ channels₁ tag₁ bits₁ numbers₁
    → (rate ≡ rate₁) × (channels ≡ channels₁) × (tag ≡ tag₁) × (bits ≡ bits₁) × (numbers ≡ numbers₁)
one_form f rate channels tag bits rate₁ channels₁ tag₁ bits₁ numbers numbers₁ g h =
    let a = known f rate channels tag bits numbers g in
    let b = known f rate₁ channels₁ tag₁ bits₁ numbers₁ h in
    let same : source f rate channels tag bits numbers g a.places ≡ source f rate₁ channels₁ tag₁ bits₁ numbers₁ h b.places = let e = sym a.judged ∙ b.judged in cc in (
      ap (λ (s : Source). s.form.rate) same,
      ap (λ (s : Source). s.form.channels) same,
      ap (λ (s : Source). s.form.tag) same,
      ap (λ (s : Source). s.form.bits) same,
      sym a.same_numbers ∙ ap (numbers_in f) same ∙ b.same_numbers,
    )

-- ---- 10/12's own form
body_own : (channels rate byte_rate : ℕ) → format_of channels rate byte_rate ≡ body_of 3 channels rate byte_rate (channels * (32 / 8)) 32 (little_bytes 2 0)
unfolding format_of body_of
body_own channels rate byte_rate = ap (λ (n : ℕ). little_bytes 2 3 ++ little_bytes 2 channels ++ little_bytes 4 rate ++ little_bytes 4 byte_rate ++ little_bytes 2 n ++ little_bytes 2 32 ++ little_bytes 2 0) (mul_comm 4 channels)

own_words : (words : List ℕ) → words_of_file 3 32 words ≡ words
unfolding number_word
own_words [] = refl
own_words (w ∷ words) = ap (λ (l : List ℕ). w ∷ l) (own_words words)

own_form : (f : List ℕ) (rate channels : ℕ) (words : List ℕ) → IsWave f rate channels words → 50 + 4 * length words < 2 ^ 32
    → IsForm f rate channels 3 32 words × (words_of_file 3 32 words ≡ words)
own_form f rate channels words g h = (
  record {
    format = g.format;
    sound = g.sound;
    facts = g.facts;
    framed = framed f rate channels words g;
    kind = float32;
    field = 3;
    tail = little_bytes 2 0;
    tailed = empty;
    byte_rate = g.byte_rate;
    format_body = g.format_body ∙ body_own channels rate g.byte_rate;
    byte_rate_fits = g.byte_rate_fits;
    rate_fits = g.rate_fits;
    some_channel = g.some_channel;
    samples = g.samples;
    whole_frames = g.whole_frames;
    sound_body = g.sound_body ∙ words_are words;
    numbers_fit = g.words_fit;
    channels_fit = g.block_fits;
    block_fits = omega (arith, g.block_fits);
    size_fits = omega (arith, g.whole_frames, h);
  },
  own_words words,
)

-- ---- 24 bits and less lose nothing
exact : (bits n : ℕ) → 1 ≤ bits → bits ≤ 24 → n < 2 ^ bits → HasValue (whole_of bits n) (negative bits n) (magnitude bits n) (2 ^ (bits - 1))
exact bits n some few small =
    let j = 149 - (bits - 1) in
    let same : j + (bits - 1) ≡ 149 = omega arith in
    let m = magnitude bits n in
    let under : m < 2 ^ 24 = lt_of_le_of_lt (size_small (leb (2 ^ (bits - 1)) n) refl) (pow-lt {i = bits - 1} {j = 24} (omega arith)) in
    round_exact binary32 (negative bits n) m (2 ^ (bits - 1)) m j (pow_pos (bits - 1)) under
    (lt_of_lt_of_le (shl_lt 24 j under) (pow_mono {i = 24 + j} {j = 277} (omega arith)))
    (ap (λ (k : ℕ). m * 2 ^ k) (sym same) ∙ ap (λ (k : ℕ). m * k) (pow-add 2 j (bits - 1)) ∙ sym (mul_assoc m (2 ^ j) (2 ^ (bits - 1))))
  where
    twice : 2 * 2 ^ (bits - 1) ≡ 2 ^ bits
    twice = let one : 1 + (bits - 1) ≡ bits = omega arith in sym (pow-add 2 1 (bits - 1)) ∙ ap (λ (k : ℕ). 2 ^ k) one

    size_small : (b : Bool) → leb (2 ^ (bits - 1)) n ≡ b → cond b (2 ^ bits - n) n ≤ 2 ^ (bits - 1)
    size_small true e = omega (arith, leb-true (2 ^ (bits - 1)) n e, twice)
    size_small false e = omega (arith, leb-false (2 ^ (bits - 1)) n e)

-- ---- what 32 bits hold is kept
kept : (x : Float) → T (fits binary32 x) → narrow_of x ≡ x
kept nan h = refl
kept (inf s) h = refl
kept (fin s m e) h = round_held binary32 (fin s m e) s (m * up e) (down e) (down_pos e) h (refl, refl)

-- ---- all of it
pub promised : Promised
promised = record {
  answered = answered;
  good = λ f out rate channels tag bits numbers g. good f rate channels tag bits numbers g out;
  short = λ f room rate channels tag bits numbers g. short f rate channels tag bits numbers g room;
  numbered = numbered;
  held = held;
  file_length = λ f rate channels tag bits numbers g.
      length_file rate channels g.samples (words_of_file tag bits numbers) ∙ ap (λ (n : ℕ). 58 + 4 * n) (length-map _ numbers);
  taken = λ f rate channels tag bits numbers g. (wave.promised).round_trip rate channels g.samples (words_of_file tag bits numbers) (sized f rate channels tag bits numbers g);
  word_at = λ tag bits numbers k. get_d_map (number_word tag bits) numbers k;
  exact = exact;
  kept = kept;
  own_form = own_form;
  one_form = one_form;
}
