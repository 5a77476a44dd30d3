-- The reader answers a rate, a number of channels and words exactly where the file is a good one that holds them: `Grammar: IsWave`. Assumes nothing.
use Rattle.std.specs.Prelude.{Option, Some, None}
use mathlib.Core.Path.{◌≡◌, refl, sym, ap, ◌∙◌, subst}
use mathlib.Core.Bool.{Bool, true, ◌&&◌, ◌||◌}
use mathlib.Core.List.{List, [], ◌∷◌, ◌++◌, append_assoc}
use mathlib.Core.Logic.{⊎_elim}
use Prim.Native.Nat.{ℕ, ◌+◌, ◌*◌, ◌/◌, ◌%◌, ◌^◌, ◌≤◌, ◌<◌}
use native.Mathlib.Nat.{mul_assoc, mul_comm, div-add-mod', mul-mod_right, mul-div_right, le-mul_of_pos_right}
use native.Mathlib.Omega.{arith}
use lib.Dec.{eqb}
use lib.ListN.{length, drop}
use borrow.Author.Tests.{eqb-true, eqb-false, eq-eqb, ne_eqb, le-leb}
use Rattle.walks.specs.Each.{Each}
use Rattle.walks.proofs.Lists.Every.{both as and_both}
use Rattle.octets.specs.Octets.{Bytes, little_bytes}
use Rattle.octets.proofs.Orders.{length_little}
use Rattle.wave.specs.Fields.{four_at, fact_id, word_bytes, listed}
use Rattle.wave.specs.Files.{format_of}
use Rattle.wave.specs.Reader.{missing, walk_of, good_riff, channels_at, good_format, good_fact, counted_judged, judged_at, judged_in, file_judged, words_in, read_in, read_of}
use Rattle.wave.specs.Reader.Reading.{is}
use Rattle.wave.specs.Grammar.{Chunk, InChunks, IsWave}
use Rattle.wave.specs.declared.chunks.Places.{Places}
use Rattle.wave.specs.declared.Wave.{Wave}
use Rattle.wave.specs.declared.Judged.{Judged}
use Rattle.wave.specs.declared.Judged.TheVariants.{Is, Refused}
use Rattle.wave.proofs.Judgements.{both, FormatIs, format_true, counted_is, judged_is, judged_riff, places_within}
use Rattle.wave.proofs.Standing.{two_stands, four_stands, two_below, four_below, length_words, length-listed, words_stand, words_split, words_fit}
use Rattle.wave.proofs.Tiles.{stands_size, stands_body, stands_long}
use Rattle.wave.proofs.Held.{At, Facts, Held}
use Rattle.wave.proofs.Frames.{two_to, four_to, two_from, four_from, body_is, Found, found, walked}

-- ---- what an answer rests on
pub record Rests (f : List ℕ) (w : Wave) : Type 0 where
  pub places : Places
  pub riff : good_riff f ≡ true
  pub met : walk_of f ≡ Some places
  pub some : places.words ≡ 0 → ⊥
  pub format : good_format f places.format ≡ true
  pub even : four_at f (places.words + 4) % (4 * channels_at f places.format) ≡ 0
  pub fact : good_fact f places.fact (four_at f (places.words + 4) / (4 * channels_at f places.format)) ≡ true
  pub answer : w ≡ record {
    rate = four_at f (places.format + 12);
    channels = channels_at f places.format;
    samples = four_at f (places.words + 4) / (4 * channels_at f places.format);
    first = places.words + 8;
  }

never : {w : Wave} → Refused ≡ Is w → ⊥
never e = let z : ◌≡◌ {A = ℕ} 0 1 = cc in omega arith

abbrev Answers : List ℕ → Wave → Judged → Type 0
Answers f w j = j ≡ Is w → Rests f w

rests_at : (f : List ℕ) (w : Wave) (p : Places) → good_riff f ≡ true → walk_of f ≡ Some p → Answers f w (judged_at f p)
unfolding judged_at counted_judged
rests_at f w p r m =
    both (Answers f w) (missing p.words) _ _ (λ _ e. absurd (never e))
    (λ some. both (Answers f w) (good_format f p.format) _ _
    (λ format. both (Answers f w) (eqb (four_at f (p.words + 4) % (4 * channels_at f p.format)) 0) _ _
    (λ even. both (Answers f w) (good_fact f p.fact (four_at f (p.words + 4) / (4 * channels_at f p.format))) _ _
    (λ fact e. record {
      places = p;
      riff = r;
      met = m;
      some = eqb-false _ _ some;
      format = format;
      even = eqb-true _ _ even;
      fact = fact;
      answer = cc;
    })
    (λ _ e. absurd (never e))) (λ _ e. absurd (never e))) (λ _ e. absurd (never e)))

rests_in : (f : List ℕ) (w : Wave) (m : Option Places) → good_riff f ≡ true → walk_of f ≡ m → Answers f w (judged_in f m)
rests_in f w (Some p) r e = rests_at f w p r e
rests_in f w None r e = λ g. absurd (never g)

pub judged_rests : (f : List ℕ) (w : Wave) → file_judged f ≡ Is w → Rests f w
unfolding file_judged
judged_rests f w = both (Answers f w) (good_riff f) _ _ (λ r. rests_in f w (walk_of f) r refl) (λ _ e. absurd (never e))

four_times : (c n : ℕ) → n * (4 * c) ≡ 4 * (c * n)
four_times c n = mul_comm n (4 * c) ∙ mul_assoc 4 c n

-- the words of an answer stand in the file
pub judged_inside : (f : List ℕ) (w : Wave) → file_judged f ≡ Is w → w.first + 4 * (w.channels * w.samples) ≤ length f
judged_inside f w e =
    let r = judged_rests f w e in
    let p = r.places in
    let whole = div-add-mod' (four_at f (p.words + 4)) (4 * channels_at f p.format) in
    let even = r.even in
    let size = four_times (channels_at f p.format) (four_at f (p.words + 4) / (4 * channels_at f p.format)) in
    subst (λ (v : Wave). v.first + 4 * (v.channels * v.samples) ≤ length f) (sym r.answer)
    (⊎_elim (λ z. absurd (r.some z)) (λ ends. omega arith) (places_within f p r.met).1)

-- ---- fields one behind the other
pub seven : (a b c d e g h rest : List ℕ) {x y z u v w t : List ℕ} → x ≡ a ++ y → y ≡ b ++ z → z ≡ c ++ u → u ≡ d ++ v → v ≡ e ++ w → w ≡ g ++ t → t ≡ h ++ rest
    → x ≡ a ++ b ++ c ++ d ++ e ++ g ++ h ++ rest
seven a b c d e g h rest p q r s t u v = simp append_assoc (cc)

pub length_format : (channels rate byte_rate : ℕ) → length (format_of channels rate byte_rate) ≡ 18
unfolding format_of little_bytes
length_format channels rate byte_rate = refl

-- ---- an answer's file is a good one
module _ (f : List ℕ) (bytes : Bytes f) where
  format_splits : (a : ℕ) → a + 26 ≤ length f → FormatIs f a
      → drop (a + 8) f ≡ format_of (channels_at f a) (four_at f (a + 12)) (four_at f (a + 16)) ++ drop (a + 26) f
  unfolding format_of
  format_splits a h r =
      seven (little_bytes 2 3) (little_bytes 2 (channels_at f a)) (little_bytes 4 (four_at f (a + 12))) (little_bytes 4 (four_at f (a + 16)))
      (little_bytes 2 (4 * channels_at f a)) (little_bytes 2 32) (little_bytes 2 0) (drop (a + 26) f)
      (rw r.tag at (two_to f bytes (a + 8) (a + 10) (omega arith) (omega arith)))
      (two_to f bytes (a + 10) (a + 12) (omega arith) (omega arith))
      (four_to f bytes (a + 12) (a + 16) (omega arith) (omega arith))
      (four_to f bytes (a + 16) (a + 20) (omega arith) (omega arith))
      (rw r.block at (two_to f bytes (a + 20) (a + 22) (omega arith) (omega arith)))
      (rw r.bits at (two_to f bytes (a + 22) (a + 24) (omega arith) (omega arith)))
      (rw r.extra at (two_to f bytes (a + 24) (a + 26) (omega arith) (omega arith)))

  -- `fact`, where there is one
  fact_body_is : (a samples : ℕ) (c : Chunk) → At f a fact_id c → good_fact f a samples ≡ true → c.body ≡ little_bytes 4 samples
  unfolding good_fact
  fact_body_is a samples c k e =
      let s = k.stands in
      let some : (a ≡ 0 → ⊥) = λ z. let more = k.some in omega arith in
      let parts = and_both (eqb (four_at f (a + 4)) 4) _ (subst (λ (b : Bool). (b || (eqb (four_at f (a + 4)) 4 && eqb (four_at f (a + 8)) samples)) ≡ true) (ne_eqb a 0 some) e) in
      let size : four_at f (a + 4) ≡ 4 = eqb-true _ _ parts.0 in
      let body : four_at f (a + 8) ≡ samples = eqb-true _ _ parts.1 in
      body_is f a 4 c (little_bytes 4 samples) (drop (a + 12) f) s size (length_little 4 samples) (rw body at (four_to f bytes (a + 8) (a + 12) (omega arith) (omega (arith, size, stands_long f a c s))))

  facts_bodies : (a samples : ℕ) (cs : List Chunk) → Facts f a cs → good_fact f a samples ≡ true → Each (λ (c : Chunk). c.body ≡ little_bytes 4 samples) cs
  unfolding Each
  facts_bodies a samples [] k e = tt
  facts_bodies a samples (c ∷ []) k e = (fact_body_is a samples c k e, tt)
  facts_bodies a samples (c ∷ d ∷ cs) k e = absurd k

  module _ (w : Wave) (r : Rests f w) where
    abbrev format : ℕ
    format = r.places.format

    abbrev sound : ℕ
    sound = r.places.words

    abbrev channels : ℕ
    channels = channels_at f format

    abbrev size : ℕ
    size = four_at f (sound + 4)

    abbrev samples : ℕ
    samples = size / (4 * channels)

    abbrev words : List ℕ
    words = listed (λ (k : ℕ). four_at f (sound + 8 + 4 * k)) 0 (channels * samples)

    size_is : 4 * (channels * samples) ≡ size
    size_is = let whole = div-add-mod' size (4 * channels) in let even = r.even in sym (four_times channels samples) ∙ omega arith

    good : Found f r.places → IsWave f (four_at f (format + 12)) channels words
    good c =
        let is = format_true f format r.format in
        let long_format = stands_long f format c.format c.format_at.stands in
        let long_sound = stands_long f sound c.sound c.sound_at.stands in
        let g = c.framed in
        record {
          chunks = g.chunks;
          riff = g.riff;
          riff_size = g.riff_size;
          format = c.format;
          sound = c.sound;
          facts = c.facts;
          tiled = g.tiled;
          format_first = g.format_first;
          sound_second = g.sound_second;
          one_fact = g.one_fact;
          byte_rate = four_at f (format + 16);
          format_body = body_is f format 18 c.format _ _ c.format_at.stands is.size (length_format _ _ _) (format_splits format (omega (arith, is.size)) is);
          byte_rate_fits = four_below f (format + 16) bytes;
          rate_fits = four_below f (format + 12) bytes;
          some_channel = is.some;
          block_fits = omega (arith, is.block, two_below f (format + 20) bytes);
          samples = samples;
          whole_frames = length-listed _ 0 (channels * samples);
          sound_body = body_is f sound size c.sound (word_bytes words) _ c.sound_at.stands refl
              (length_words words ∙ ap (λ (n : ℕ). 4 * n) (length-listed _ 0 (channels * samples)) ∙ size_is)
              (words_split f bytes (sound + 8) (channels * samples) 0 (sound + 8) (omega arith) (omega (arith, size_is)));
          words_fit = words_fit f bytes (sound + 8) (channels * samples) 0;
          fact_body = facts_bodies r.places.fact samples c.facts c.facts_at r.fact;
        }

  pub answer_good : (w : Wave) → file_judged f ≡ Is w → IsWave f w.rate w.channels (words_in f w)
  answer_good w e =
      let r = judged_rests f w e in
      subst (λ (v : Wave). IsWave f v.rate v.channels (words_in f v)) (sym r.answer) (good w r (found f bytes r.places r.riff r.some r.met))

-- ---- a good file is answered
format_good : (f : List ℕ) (at : ℕ) → FormatIs f at → good_format f at ≡ true
unfolding good_format
format_good f at r = simp (eq-eqb _ _ r.size, eq-eqb _ _ r.tag, le-leb _ _ r.some, eq-eqb _ _ r.block, eq-eqb _ _ r.bits, eq-eqb _ _ r.extra)

no_fact_good : (f : List ℕ) (at samples : ℕ) → at ≡ 0 → good_fact f at samples ≡ true
unfolding good_fact
no_fact_good f at samples e = simp (eq-eqb _ _ e)

fact_good : (f : List ℕ) (at samples : ℕ) → (at ≡ 0 → ⊥) → four_at f (at + 4) ≡ 4 → four_at f (at + 8) ≡ samples → good_fact f at samples ≡ true
unfolding good_fact
fact_good f at samples some size count = simp (ne_eqb _ _ some, eq-eqb _ _ size, eq-eqb _ _ count)

module _ (f : List ℕ) where
  format_fields : (a channels rate byte_rate : ℕ) (rest : List ℕ) → rate < 2 ^ 32 → 1 ≤ channels → 4 * channels < 2 ^ 16 → four_at f (a + 4) ≡ 18
      → drop (a + 8) f ≡ format_of channels rate byte_rate ++ rest → FormatIs f a × (channels_at f a ≡ channels) × (four_at f (a + 12) ≡ rate)
  unfolding format_of
  format_fields a channels rate byte_rate rest hr hc hb size h =
      let e0 = simp append_assoc at h in
      let e1 = two_from f 3 (a + 8) (a + 10) _ (omega arith) e0 in
      let e2 = two_from f channels (a + 10) (a + 12) _ (omega arith) e1 in
      let e3 = four_from f rate (a + 12) (a + 16) _ (omega arith) e2 in
      let e4 = four_from f byte_rate (a + 16) (a + 20) _ (omega arith) e3 in
      let e5 = two_from f (4 * channels) (a + 20) (a + 22) _ (omega arith) e4 in
      let e6 = two_from f 32 (a + 22) (a + 24) _ (omega arith) e5 in
      let is : channels_at f a ≡ channels = two_stands channels f (a + 10) _ (omega arith) e1 in (
        record {
          size = size;
          tag = two_stands 3 f (a + 8) _ (omega arith) e0;
          some = omega (arith, is);
          block = two_stands (4 * channels) f (a + 20) _ hb e4 ∙ ap (λ (n : ℕ). 4 * n) (sym is);
          bits = two_stands 32 f (a + 22) _ (omega arith) e5;
          extra = two_stands 0 f (a + 24) _ (omega arith) e6;
        },
        is,
        four_stands rate f (a + 12) _ hr e2,
      )

  facts_good : (a samples : ℕ) (cs : List Chunk) → samples < 2 ^ 32 → Facts f a cs → Each (λ (c : Chunk). c.body ≡ little_bytes 4 samples) cs → good_fact f a samples ≡ true
  unfolding Each
  facts_good a samples [] h k e = no_fact_good f a samples k
  facts_good a samples (c ∷ []) h k e =
      let s = k.stands in
      let body = stands_body f a c s in
      fact_good f a samples (λ z. let some = k.some in omega arith) (stands_size f a c s ∙ ap length e.0 ∙ length_little 4 samples)
      (four_stands samples f (a + 8) _ h (rw e.0 at body))
  facts_good a samples (c ∷ d ∷ cs) h k e = absurd k

-- the answer's size: so many whole blocks
module _ (channels samples : ℕ) (some : 1 ≤ channels) where
  whole_blocks : 4 * (channels * samples) % (4 * channels) ≡ 0
  whole_blocks = rw (← mul_assoc 4 channels samples) (mul-mod_right (4 * channels) samples)

  count_blocks : 4 * (channels * samples) / (4 * channels) ≡ samples
  count_blocks = rw (← mul_assoc 4 channels samples) (mul-div_right samples {m = 4 * channels} (omega arith))

judged_by : (f : List ℕ) (p : Places) (rate channels samples : ℕ) → (p.words ≡ 0 → ⊥) → FormatIs f p.format → 1 ≤ channels
    → channels_at f p.format ≡ channels → four_at f (p.format + 12) ≡ rate → four_at f (p.words + 4) ≡ 4 * (channels * samples)
    → good_fact f p.fact samples ≡ true → judged_at f p ≡ Is (record { rate = rate; channels = channels; samples = samples; first = p.words + 8 })
judged_by f p rate channels samples some format more c r size fact =
    let count = count_blocks channels samples more in
    let counted = counted_is f p (4 * channels) (4 * (channels * samples)) (whole_blocks channels samples more) (rw count fact) in
    judged_is f p some (format_good f p.format format) ∙ rw (c, size) (counted ∙ rw (c, r, count))

module _ (f : List ℕ) (rate channels : ℕ) (words : List ℕ) (g : IsWave f rate channels words) where
  abbrev pub framed : InChunks f g.format g.sound g.facts
  framed = record {
    chunks = g.chunks;
    riff = g.riff;
    riff_size = g.riff_size;
    tiled = g.tiled;
    format_first = g.format_first;
    sound_second = g.sound_second;
    one_fact = g.one_fact;
  }

  good_judged : (p : Places) → good_riff f ≡ true → walk_of f ≡ Some p → Held f p (g.format ∷ g.sound ∷ []) g.facts
      → file_judged f ≡ Is (record { rate = rate; channels = channels; samples = g.samples; first = p.words + 8 })
      × (listed (λ (k : ℕ). four_at f (p.words + 8 + 4 * k)) 0 (channels * g.samples) ≡ words)
  good_judged p riff e held =
      let F = held.mains_held.0.stands in
      let D = held.mains_held.1.stands in
      let size18 : four_at f (p.format + 4) ≡ 18 = stands_size f p.format g.format F ∙ ap length g.format_body ∙ length_format channels rate g.byte_rate in
      let is = format_fields f p.format channels rate g.byte_rate _ g.rate_fits g.some_channel g.block_fits size18 (rw g.format_body at (stands_body f p.format g.format F)) in
      let long : length g.sound.body ≡ 4 * (channels * g.samples) = ap length g.sound_body ∙ length_words words ∙ ap (λ (n : ℕ). 4 * n) g.whole_frames in
      let size : four_at f (p.words + 4) ≡ 4 * (channels * g.samples) = stands_size f p.words g.sound D ∙ long in
      let few : g.samples ≤ channels * g.samples =
      rw (mul_comm channels g.samples) (le-mul_of_pos_right g.samples g.some_channel) in
      let fact : good_fact f p.fact g.samples ≡ true =
      facts_good f p.fact g.samples g.facts (omega (arith, D.whole.sized)) held.facts_held g.fact_body in
      let some : (p.words ≡ 0 → ⊥) = λ z. let more = held.mains_held.1.some in omega arith in (
        judged_riff f (Some p) riff e ∙ judged_by f p rate channels g.samples some is.0 g.some_channel is.1 is.2 size fact,
        rw (← g.whole_frames) (words_stand words f (p.words + 8) 0 (p.words + 8) _ (omega arith) g.words_fit (rw g.sound_body at (stands_body f p.words g.sound D))),
      )

  pub record Known : Type 0 where
    pub wave : Wave
    pub judged : file_judged f ≡ Is wave
    pub same_rate : wave.rate ≡ rate
    pub same_channels : wave.channels ≡ channels
    pub same_samples : wave.samples ≡ g.samples
    pub same_words : words_in f wave ≡ words

  pub good_known : Known
  good_known =
      let r = walked f g.format g.sound g.facts framed in
      let answer = good_judged r.places r.riff r.met r.held in
      record { wave = _; judged = answer.0; same_rate = refl; same_channels = refl; same_samples = refl; same_words = answer.1 }

  pub good_answer : read_of f ≡ is rate channels words
  unfolding read_of
  good_answer =
      let r = walked f g.format g.sound g.facts framed in
      let answer = good_judged r.places r.riff r.met r.held in
      ap (read_in f) answer.0 ∙ ap (is rate channels) answer.1

-- ---- both directions
pub answered : (f : List ℕ) (rate channels : ℕ) (words : List ℕ) → Bytes f → read_of f ≡ is rate channels words → IsWave f rate channels words
unfolding read_of
answered f rate channels words bytes = go (file_judged f) refl
  where
    go : (j : Judged) → file_judged f ≡ j → read_in f j ≡ is rate channels words → IsWave f rate channels words
    go (Is w) e h =
        let l : words_in f w ≡ words = cc in
        let c : w.channels ≡ channels = cc in
        let r : w.rate ≡ rate = cc in
        rw (l, c, r) at (answer_good f bytes w e)
    go Refused e h = absurd (let z : ◌≡◌ {A = ℕ} 0 1 = cc in omega arith)
