-- What an answer rests on, and what `turn` answers and leaves, case by case. Assumes nothing.
use Rattle.std.specs.Prelude.{Option, Some, None}
use mathlib.Core.Path.{◌≡◌, refl, sym, ap, ◌∙◌, subst}
use mathlib.Core.Bool.{true}
use mathlib.Core.List.{List}
use Prim.Native.Nat.{ℕ, ◌+◌, ◌*◌, ◌/◌, ◌%◌, ◌^◌, ◌≤◌, ◌<◌}
use native.Mathlib.Nat.{mul_assoc, mul_comm, mul-div_cancel, div-add-mod'}
use native.Mathlib.Omega.{arith}
use lib.Dec.{ltb, eqb}
use lib.ListN.{length}
use lib.Seq.{sets}
use borrow.Author.Tests.{eqb-true, eqb-false, ltb-true, lt-ltb, le-ltb}
use Rattle.wave.specs.Fields.{four_at, word_bytes}
use Rattle.wave.specs.Files.{head_fits, head_put}
use Rattle.wave.specs.Reader.{missing, walk_of, good_riff}
use Rattle.wave.specs.declared.chunks.Places.{Places}
use Rattle.wave.proofs.Judgements.{both, places_below}
use Rattle.wave.proofs.Standing.{length-listed}
use Rattle.wave.proofs.Calls.{file_put, head_made, head_done}
use Rattle.wave_forms.specs.Reader.{form_at, good_form, counted_judged, judged_at, judged_in, file_judged, words_in}
use Rattle.wave_forms.specs.Turns.{bytes_of, turn_answer, output_after}
use Rattle.wave_forms.specs.declared.Source.{Source}
use Rattle.wave_forms.proofs.Widths.{bytes_few}
use Rattle.wave_forms.proofs.Judgements.{FormIs, form_true}

-- ---- what an answer rests on
pub record Rests (f : List ℕ) (s : Source) : Type 0 where
  pub places : Places
  pub riff : good_riff f ≡ true
  pub met : walk_of f ≡ Some places
  pub some : places.words ≡ 0 → ⊥
  pub form : FormIs (form_at f places.format)
  pub even : four_at f (places.words + 4) % (form_at f places.format).block ≡ 0
  pub room : 50 + 4 * (four_at f (places.words + 4) / ((form_at f places.format).bits / 8)) < 2 ^ 32
  pub answer : s ≡ record {
    form = form_at f places.format;
    samples = four_at f (places.words + 4) / (form_at f places.format).block;
    count = four_at f (places.words + 4) / ((form_at f places.format).bits / 8);
    first = places.words + 8;
  }

never : {s : Source} → None ≡ Some s → ⊥
never e = let z : ◌≡◌ {A = ℕ} 0 1 = cc in omega arith

abbrev Answers : List ℕ → Source → Option Source → Type 0
Answers f s j = j ≡ Some s → Rests f s

rests_at : (f : List ℕ) (s : Source) (p : Places) → good_riff f ≡ true → walk_of f ≡ Some p → Answers f s (judged_at f p)
unfolding judged_at counted_judged
rests_at f s p r m =
    let o = form_at f p.format in
    both (Answers f s) (missing p.words) _ _ (λ _ e. absurd (never e))
    (λ some. both (Answers f s) (good_form o) _ _
    (λ form. both (Answers f s) (eqb (four_at f (p.words + 4) % o.block) 0) _ _
    (λ even. both (Answers f s) (ltb (50 + 4 * (four_at f (p.words + 4) / (o.bits / 8))) (2 ^ 32)) _ _
    (λ room e. record {
      places = p;
      riff = r;
      met = m;
      some = eqb-false _ _ some;
      form = form_true o form;
      even = eqb-true _ _ even;
      room = ltb-true _ _ room;
      answer = cc;
    })
    (λ _ e. absurd (never e))) (λ _ e. absurd (never e))) (λ _ e. absurd (never e)))

rests_in : (f : List ℕ) (s : Source) (m : Option Places) → good_riff f ≡ true → walk_of f ≡ m → Answers f s (judged_in f m)
rests_in f s (Some p) r e = rests_at f s p r e
rests_in f s None r e = λ g. absurd (never g)

pub judged_rests : (f : List ℕ) (s : Source) → file_judged f ≡ Some s → Rests f s
unfolding file_judged
judged_rests f s = both (Answers f s) (good_riff f) _ _ (λ r. rests_in f s (walk_of f) r refl) (λ _ e. absurd (never e))

-- whole frames: so many numbers
pub count-is : (c b size : ℕ) → 0 < b → size % (c * b) ≡ 0 → size / b ≡ c * (size / (c * b))
count-is c b size some even =
    let n = size / (c * b) in
    let whole : n * (c * b) ≡ size = omega (arith, div-add-mod' size (c * b), even) in
    ap (λ (k : ℕ). k / b) (sym whole ∙ sym (mul_assoc n c b) ∙ ap (λ (k : ℕ). k * b) (mul_comm n c)) ∙ mul-div_cancel (c * n) some

pub record Sourced (s : Source) : Type 0 where
  pub form : FormIs s.form
  pub count : s.count ≡ s.form.channels * s.samples
  pub room : 50 + 4 * s.count < 2 ^ 32

pub sourced : (f : List ℕ) (s : Source) → file_judged f ≡ Some s → Sourced s
sourced f s e =
    let r = judged_rests f s e in
    let o = form_at f r.places.format in
    let few = bytes_few r.form.kind in
    let even : four_at f (r.places.words + 4) % (o.channels * (o.bits / 8)) ≡ 0 = rw r.form.block at r.even in
    subst Sourced (sym r.answer) (record {
      form = r.form;
      count = rw r.form.block (count-is o.channels (o.bits / 8) (four_at f (r.places.words + 4)) (omega arith) even);
      room = r.room;
    })

pub first_below : (f : List ℕ) (s : Source) (n : ℕ) → file_judged f ≡ Some s → length f < n → s.first < n + 8
first_below f s n e h =
    let r = judged_rests f s e in
    let below = places_below f r.places n r.met h in
    subst (λ (t : Source). t.first < n + 8) (sym r.answer) (omega (arith, below.1))

-- ---- what `turn` answers and leaves
module _ (f out : List ℕ) where
  pub turn_refused : file_judged f ≡ None → (record { length = 0; number = 17 } ≡ turn_answer f (length out)) × (out ≡ output_after f out)
  unfolding turn_answer output_after
  turn_refused e = (rw e, rw e)

  module _ (s : Source) (e : file_judged f ≡ Some s) where
    pub turn_short : length out < bytes_of s → (record { length = bytes_of s; number = 8 } ≡ turn_answer f (length out)) × (out ≡ output_after f out)
    unfolding turn_answer output_after
    turn_short h = (rw (e, lt-ltb _ _ h), rw (e, lt-ltb _ _ h))

    pub turn_done : bytes_of s ≤ length out → {x y : List ℕ} → x ≡ head_put out s.form.rate s.form.channels s.samples
        → y ≡ sets x 58 (word_bytes (words_in f s)) → (record { length = bytes_of s; number = 0 } ≡ turn_answer f (length out)) × (y ≡ output_after f out)
    unfolding turn_answer output_after
    turn_done h p q =
        let long : length (words_in f s) ≡ s.count = length-listed _ 0 s.count in
        let i = sourced f s e in
        let fits : head_fits s.form.channels s.samples (length out) ≡ true =
        head_made _ _ _ (record { block_fits = omega (arith, i.form.few); size_fits = omega (arith, i.count, i.room); room_fits = omega arith }) in
        let head = p ∙ sym (head_done out s.form.rate s.form.channels s.samples fits) in
        (rw (e, le-ltb _ _ h), rw (e, le-ltb _ _ h) (rw long at (file_put s.form.rate s.form.channels s.samples (words_in f s) out (rw long h) head q)))
