-- A file is answered exactly where it is of a known form: `Grammar: IsForm`, in both directions. Assumes nothing.
use Rattle.std.specs.Prelude.{Some}
use mathlib.Core.Path.{◌≡◌, refl, sym, ap, ◌∙◌, subst}
use mathlib.Core.Bool.{true}
use mathlib.Core.List.{List, [], ◌∷◌, map}
use Prim.Native.Nat.{ℕ, zero, suc, ◌+◌, ◌*◌, ◌/◌, ◌%◌, ◌^◌, ◌<◌}
use native.Mathlib.Nat.{mul_assoc, mul_comm, mul-mod_right, mul-div_right, div-add-mod', mul-pos}
use native.Mathlib.Omega.{arith}
use lib.ListN.{length}
use Rattle.octets.specs.Octets.{Bytes}
use Rattle.wave.specs.Fields.{two_at, four_at, number_bytes, listed}
use Rattle.wave.specs.Reader.{walk_of, good_riff}
use Rattle.wave.specs.declared.chunks.Places.{Places}
use Rattle.wave.proofs.Standing.{two_below, four_below, length-numbers, length-listed, number_on, numbers_stand, numbers_split, numbers_fit}
use Rattle.wave.proofs.Tiles.{stands_size, stands_body, stands_long}
use Rattle.wave.proofs.Held.{Held}
use Rattle.wave.proofs.Frames.{body_is, Found, found, walked}
use Rattle.wave_forms.specs.Values.{number_word}
use Rattle.wave_forms.specs.Reader.{tag_at, form_at, file_judged, number_at, numbers_in, words_in}
use Rattle.wave_forms.specs.Grammar.{IsForm, Tail, words_of_file}
use Rattle.wave_forms.specs.Grammar.Tail.{plain, empty, extensible}
use Rattle.wave_forms.specs.declared.formats.Form.{Form}
use Rattle.wave_forms.specs.declared.Source.{Source}
use Rattle.wave_forms.proofs.Widths.{bytes_few, kind_small, kind_some}
use Rattle.wave_forms.proofs.Judgements.{FormIs, form_good, counted_is, judged_is, judged_riff}
use Rattle.wave_forms.proofs.Sources.{Rests, judged_rests, count-is}
use Rattle.wave_forms.proofs.Bodies.{length_body, shaped, body_splits, body_fields, tail_tag}

-- ---- the words of an answer are those of its numbers
listed_map : (h g : ℕ → ℕ) (k n : ℕ) → listed (λ (i : ℕ). h (g i)) k n ≡ map h (listed g k n)
unfolding listed
listed_map h g k zero = refl
listed_map h g k (suc n) = ap (λ (l : List ℕ). h (g k) ∷ l) (listed_map h g (k + 1) n)

pub words_are : (f : List ℕ) (s : Source) → words_in f s ≡ words_of_file s.form.tag s.form.bits (numbers_in f s)
words_are f s = listed_map (number_word s.form.tag s.form.bits) (λ (k : ℕ). number_at f (s.form.bits / 8) (s.first + s.form.bits / 8 * k)) 0 s.count

-- ---- an answer's file is of a known form
module _ (f : List ℕ) (bytes : Bytes f) where
  module _ (s : Source) (r : Rests f s) where
    abbrev format : ℕ
    format = r.places.format

    abbrev sound : ℕ
    sound = r.places.words

    abbrev form : Form
    form = form_at f format

    abbrev size : ℕ
    size = four_at f (sound + 4)

    abbrev each : ℕ
    each = two_at f (format + 22) / 8

    abbrev numbers : List ℕ
    numbers = listed (number_on each f (sound + 8)) 0 (size / each)

    good : FormIs form → size % (two_at f (format + 10) * each) ≡ 0 → 50 + 4 * (size / each) < 2 ^ 32 → Found f r.places
        → IsForm f (four_at f (format + 12)) (two_at f (format + 10)) (tag_at f format) (two_at f (format + 22)) numbers
    unfolding form_at
    good i even room c =
        let long_format = stands_long f format c.format c.format_at.stands in
        let long_sound = stands_long f sound c.sound c.sound_at.stands in
        let shape = shaped f bytes format long_format (kind_some i.kind) in
        let few = bytes_few i.kind in
        let some : 0 < each = omega arith in
        let count = count-is (two_at f (format + 10)) each size some even in
        let split = body_splits f bytes format long_format shape in
        let whole : each * (size / each) ≡ size = mul_comm each (size / each) ∙ whole_is (two_at f (format + 10)) each size some even in
        record {
          format = c.format;
          sound = c.sound;
          facts = c.facts;
          framed = c.framed;
          kind = i.kind;
          field = two_at f (format + 8);
          tail = shape.tail;
          tailed = shape.tailed;
          byte_rate = four_at f (format + 16);
          format_body = rw (← i.block) (body_is f format _ c.format _ _ c.format_at.stands shape.size (length_body _ _ _ _ _ _ _) split);
          byte_rate_fits = four_below f (format + 16) bytes;
          rate_fits = four_below f (format + 12) bytes;
          some_channel = i.some;
          samples = size / (two_at f (format + 10) * each);
          whole_frames = length-listed _ 0 (size / each) ∙ count;
          sound_body = body_is f sound size c.sound (number_bytes each numbers) _ c.sound_at.stands refl
              (length-numbers each numbers ∙ ap (λ (n : ℕ). each * n) (length-listed _ 0 (size / each)) ∙ whole)
              (numbers_split each f (sound + 8) bytes (size / each) 0 (sound + 8) (start (sound + 8) each) (omega (arith, whole)));
          numbers_fit = numbers_fit each f (sound + 8) bytes (size / each) 0;
          channels_fit = omega (arith, i.few);
          block_fits = omega (arith, i.block, two_below f (format + 20) bytes);
          size_fits = omega (arith, count, room);
        }
      where
        start : (a b : ℕ) → a ≡ a + b * 0
        start a b = omega arith

        whole_is : (c b n : ℕ) → 0 < b → n % (c * b) ≡ 0 → n / b * b ≡ n
        whole_is c b n some even =
            ap (λ (k : ℕ). k * b) (count-is c b n some even) ∙ mul_assoc c (n / (c * b)) b ∙ ap (λ (k : ℕ). c * k) (mul_comm (n / (c * b)) b) ∙ sym (mul_assoc c b (n / (c * b)))
            ∙ omega (arith, div-add-mod' n (c * b), mul_comm (c * b) (n / (c * b)))

  pub answer_good : (s : Source) → file_judged f ≡ Some s → IsForm f s.form.rate s.form.channels s.form.tag s.form.bits (numbers_in f s)
  unfolding form_at number_at
  answer_good s e =
      let r = judged_rests f s e in
      let i = r.form in
      let even = rw i.block at r.even in
      subst (λ (t : Source). IsForm f t.form.rate t.form.channels t.form.tag t.form.bits (numbers_in f t)) (sym r.answer)
      (good s r i even r.room (found f bytes r.places r.riff r.some r.met))

-- ---- a file of a known form is answered
module _ (f : List ℕ) (rate channels tag bits : ℕ) (numbers : List ℕ) (g : IsForm f rate channels tag bits numbers) where
  abbrev pub source : Places → Source
  source p = record {
    form = record { tag = tag; channels = channels; rate = rate; block = channels * (bits / 8); bits = bits };
    samples = g.samples;
    count = length numbers;
    first = p.words + 8;
  }

  field_small : {field : ℕ} {tail : List ℕ} → tag < 2 ^ 16 → Tail tag bits field tail → field < 2 ^ 16
  field_small h plain = h
  field_small h empty = h
  field_small h (extensible valid mask few small) = omega arith

  pub record Known : Type 0 where
    pub places : Places
    pub judged : file_judged f ≡ Some (source places)
    pub same_numbers : numbers_in f (source places) ≡ numbers

  form_is : (p : Places) → Held f p (g.format ∷ g.sound ∷ []) g.facts → form_at f p.format ≡ (source p).form
  unfolding form_at
  form_is p held =
      let F = held.mains_held.0.stands in
      let small = kind_small g.kind in
      let body = rw g.format_body at (stands_body f p.format g.format F) in
      let i = body_fields f p.format g.field channels rate g.byte_rate (channels * (bits / 8)) bits g.tail _ (field_small small.0 g.tailed) (omega (arith, g.channels_fit)) g.rate_fits
      g.block_fits small.1 body in
      let size : four_at f (p.format + 4) ≡ 16 + length g.tail = stands_size f p.format g.format F ∙ ap length g.format_body ∙ length_body _ _ _ _ _ _ _ in
      let is = tail_tag f p.format _ g.tailed small.0 small.1 i.field_is i.bits_is size i.behind in
      simp (is, i.channels_is, i.rate_is, i.block_is, i.bits_is)

  good_judged : (p : Places) → good_riff f ≡ true → walk_of f ≡ Some p → Held f p (g.format ∷ g.sound ∷ []) g.facts → Known
  unfolding number_at
  good_judged p riff e held =
      let D = held.mains_held.1.stands in
      let few = bytes_few g.kind in
      let b = bits / 8 in
      let long : four_at f (p.words + 4) ≡ b * length numbers = stands_size f p.words g.sound D ∙ ap length g.sound_body ∙ length-numbers b numbers in
      let size : four_at f (p.words + 4) ≡ channels * b * g.samples =
      long ∙ ap (λ (n : ℕ). b * n) g.whole_frames ∙ sym (mul_assoc b channels g.samples) ∙ ap (λ (n : ℕ). n * g.samples) (mul_comm b channels) in
      let some_block : 0 < channels * b = mul-pos g.some_channel (omega arith) in
      let form = form_is p held in
      let is : FormIs (source p).form = record { some = g.some_channel; few = omega (arith, g.channels_fit); kind = g.kind; block = refl } in
      let some : (p.words ≡ 0 → ⊥) = λ z. let more = held.mains_held.1.some in omega arith in
      let even : four_at f (p.words + 4) % (channels * b) ≡ 0 = ap (λ (n : ℕ). n % (channels * b)) size ∙ mul-mod_right (channels * b) g.samples in
      let samples : four_at f (p.words + 4) / (channels * b) ≡ g.samples = ap (λ (n : ℕ). n / (channels * b)) size ∙ mul-div_right g.samples {m = channels * b} some_block in
      let count : four_at f (p.words + 4) / b ≡ length numbers = ap (λ (n : ℕ). n / b) long ∙ mul-div_right (length numbers) {m = b} (omega arith) in
      let room : 50 + 4 * (four_at f (p.words + 4) / b) < 2 ^ 32 = omega (arith, count, g.whole_frames, g.size_fits) in
      record {
        places = p;
        judged = judged_riff f (Some p) riff e ∙ judged_is f p some (rw form (form_good (source p).form is))
            ∙ rw form (counted_is (source p).form (p.words + 8) (four_at f (p.words + 4)) even room ∙ rw (samples, count));
        same_numbers = numbers_stand b f (p.words + 8) numbers 0 (p.words + 8) _ (start (p.words + 8) b) g.numbers_fit (rw g.sound_body at (stands_body f p.words g.sound D));
      }
    where
      start : (a b : ℕ) → a ≡ a + b * 0
      start a b = omega arith

  pub known : Known
  known =
      let r = walked f g.format g.sound g.facts g.framed in
      good_judged r.places r.riff r.met r.held
