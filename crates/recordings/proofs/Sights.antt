-- What is answered and left by what is seen of a record is what is by the record; and what a number of 0 says of what is seen. Assumes nothing.
use Rattle.std.proofs.Common.{◌≡◌, ℕ, zero, suc, ◌+◌, ◌*◌, ◌%◌, ◌^◌, ◌≤◌, Bool, true, false, cond, not, ◌&&◌, ◌||◌, eqb, ltb, List, [], ◌∷◌, length, get_or, take, sym, refl, ap, ◌∙◌, subst, mod-eq_of_lt, arith, ltb-false, eq-eqb, eqb-true, Result, Ok, Err}
use Rattle.std.specs.Prelude.{is_ok}
use Rattle.refusals.specs.declared.Refusal.{Refusal}
use Rattle.refusals.specs.declared.Refusal.TheVariants.{ShortList, Broken, Recording, OtherChannels}
use Rattle.refusals.specs.Refusals.{code_of, row}
use Rattle.refusals.proofs.Codes.{zero_at, passed}
use Rattle.std.specs.List.{list_any}
use Rattle.walks.proofs.Tests.{or-false}
use Rattle.wave.specs.declared.Starts.{Starts}
use Rattle.wave.specs.declared.Layout.{Layout}
use Rattle.wave.specs.declared.Wave.{Wave}
use Rattle.wave.specs.declared.Judged.{Judged}
use Rattle.wave.specs.Reader.{file_judged}
use Rattle.wave.specs.Memory.{fits_memory, writes, bytes_of, written_of, output_after, loaded_of}
use Rattle.phrases.proofs.Reaches.{behind_same}
use Rattle.channel.specs.declared.Channel.{Channel}
use Rattle.channel.specs.declared.Ask.TheVariants.{Samples}
use Rattle.channel.specs.Heads.{begins_at, holds_of}
use Rattle.channel.specs.Channels.{others_in, beside_in, begins_in}
use Rattle.sampler.specs.declared.Sampler.{Sampler}
use Rattle.sampler.specs.Refusals.{channel_at, good_sampler, good_with, records, any_recording, against_any}
use Rattle.sampler.proofs.Rows.{is_true, fitting}
use Rattle.sampler.proofs.Against.{against_samples, short_samples}
use Rattle.questions.specs.declared.Seen.{Seen}
use Rattle.questions.specs.Sights.{seen_of, sound_in, good_in}
use Rattle.questions.proofs.Seats.{Sound, sounds, Seated, seated, good_seen}
use Rattle.recordings.specs.Waves.{samples_of, lengths_differ, layout_in, given, write_rows, wave_after_by, write_judged, write_wave_of, wave_after, held_in, read_rows, read_judged, read_wave_of, beginnings_in, read_memory}
use Rattle.recordings.specs.Sights.{starts_seen, layout_seen, records_seen, differ_seen, write_judged_seen, write_seen, wave_left, survey_of, short_seen, read_judged_seen, beginnings_seen, loading_seen, memory_left}
use Rattle.recordings.specs.declared.Surveyed.{Surveyed}
use Rattle.recordings.specs.declared.Loading.{Loading}
use Rattle.recordings.proofs.Parts.{parts_fit, second_begins_small}
use Rattle.recordings.proofs.Numbers.{words_few, room_enough, read_says}

-- ---- of a record's channels, one or two are in use
any_two : {A : Type 0} (p : A → Bool) (l : List A) (n : ℕ) (d : A) → length l ≡ 2 → 1 ≤ n → n ≤ 2 → list_any p (take n l) ≡ (p (get_or l 0 d) || (eqb n 2 && p (get_or l 1 d)))
any_two p [] n d long some few = absurd (omega arith)
any_two p (a ∷ []) n d long some few = absurd (omega arith)
any_two p (a ∷ b ∷ l) zero d long some few = absurd (omega arith)
any_two p (a ∷ b ∷ l) (suc zero) d long some few = refl
any_two p (a ∷ b ∷ l) (suc (suc zero)) d long some few = ap (λ (x : Bool). p a || x) (sym (or-false (p b)))
any_two p (a ∷ b ∷ l) (suc (suc (suc n))) d long some few = absurd (omega arith)

module _ (s : Sampler) (two : length s.channels ≡ 2) where
  -- row by row: a record that isn't good is asked no more
  pub write_judged_seen_lem : (room size : ℕ) → write_judged_seen (seen_of s) room size ≡ write_judged s room size
  unfolding write_judged
  write_judged_seen_lem room size = ap (λ (b : Bool). write_rows b (records_seen (seen_of s)) (differ_seen (seen_of s)) (layout_in s) room) (good_seen s size) ∙ go (good_with s size) refl
    where
      go : (b : Bool) → good_with s size ≡ b → write_rows b (records_seen (seen_of s)) (differ_seen (seen_of s)) (layout_in s) room ≡ write_rows b (any_recording s) (lengths_differ s) (layout_in s) room
      go false g = refl
      go true g =
          let w = fitting s size g in
          let recording = any_two records s.channels s.count _ two w.some w.few in
          let other : Channel → Bool = λ c. not (eqb c.head.data_len (samples_of s)) in
          let first : other (channel_at s 0) ≡ false = ap not (eq-eqb (samples_of s) (samples_of s) refl) in
          let differ = any_two other s.channels s.count _ two w.some w.few ∙ ap (λ (b : Bool). b || differ_seen (seen_of s)) first in
          λ i. write_rows true (sym recording i) (sym differ i) (layout_in s) room

  pub write_seen_lem : (room size : ℕ) → write_seen (seen_of s) room size ≡ write_wave_of s room size
  unfolding write_wave_of
  write_seen_lem room size = ap (λ (done : Result (Unit {0}) Refusal). given done (bytes_of (layout_in s))) (write_judged_seen_lem room size)

  pub wave_seen : (rate : ℕ) (m out : List ℕ) → wave_left (seen_of s) rate m out ≡ wave_after s rate m out
  unfolding wave_after
  wave_seen rate m out = ap (wave_after_by rate (layout_in s) m out) (write_judged_seen_lem (length out) (length m))

-- ---- where the second recording begins
pub second_small : (t : Seen) → sound_in t ≡ true → t.count ≡ 2 → t.capacity + t.second.start ≤ 2 ^ 23
second_small t h two = let s = sounds t h in omega (arith, s.small, s.second two)

-- ---- what a number of 0 says of a write
module _ (t : Seen) (size : ℕ) (good : good_in t size ≡ true) where
  w : Seated t size
  w = seated t size good

  s : Sound t
  s = sounds t w.sound

  pub seen_few : t.count * t.first.data_len ≤ 2 ^ 23
  seen_few = words_few t.count t.capacity t.first.data_len s.few s.small (omega (arith, s.first))

  seen_fits : differ_seen t ≡ false → fits_memory (layout_seen t) size ≡ true
  seen_fits alike =
      parts_fit t.count t.capacity size (layout_seen t) s.some s.few w.fits refl s.first
      (λ two. let there : (starts_seen t).second ≡ t.capacity + t.second.start = rw two refl in
      let same : t.second.data_len ≡ t.first.data_len = eqb-true _ _ (is_true _ (ap (λ (n : ℕ). eqb n 2 && not (eqb t.second.data_len t.first.data_len)) (sym two) ∙ alike)) in
      (omega (arith, there), omega (arith, there, s.second two, same)))

module _ (t : Seen) (rate : ℕ) (m out : List ℕ) where
  -- r is what the call answers, and `after` the list afterwards
  abbrev pub Answers : Result ℕ Refusal → List ℕ → Type 0
  Answers r after = (r ≡ write_seen t (length out) (length m)) × (after ≡ wave_left t rate m out)

  module _ (e : Ok tt ≡ write_judged_seen t (length out) (length m)) where
    z : code_of (write_judged_seen t (length out) (length m)) ≡ 0
    z = ap code_of (sym e)

    pub write_good : good_in t (length m) ≡ true
    write_good = is_true _ (passed (not (good_in t (length m))) Broken _ z).0

    rest : (differ_seen t ≡ false) × (code_of {A = Unit {0}} (row (ltb (length out) (bytes_of (layout_seen t))) ShortList (Ok tt)) ≡ 0)
    rest = passed (differ_seen t) OtherChannels _ (passed (records_seen t) Recording _ (passed (not (good_in t (length m))) Broken _ z).1).1

    pub write_done : (l : Layout) → l ≡ layout_seen t → (bytes : ℕ) → bytes ≡ written_of l (length m) (length out) → (after : List ℕ) → after ≡ output_after rate l m out → Answers (Ok bytes) after
    unfolding written_of output_after writes
    write_done l k bytes b after o =
        let fits = ltb-false (length out) (bytes_of (layout_seen t)) (passed (ltb (length out) (bytes_of (layout_seen t))) ShortList (Ok tt) rest.1).0 in
        let x = seen_fits t (length m) write_good rest.0 in
        let y = room_enough (layout_seen t) (seen_few t (length m) write_good) (length out) fits in
        (rw (← e, b, k, x, y) refl, rw (← e) (o ∙ rw (k, x, y) refl))

-- ---- reading: r is what is answered, and `after` the memory afterwards
module _ (t : Surveyed) (f m : List ℕ) where
  abbrev pub LoadingIs : Result Loading Refusal → List ℕ → Type 0
  LoadingIs r after = (r ≡ loading_seen t f (length m)) × (after ≡ memory_left t f m)

  module _ (j : Judged) (is : j ≡ file_judged f) (done : Result (Unit {0}) Refusal) (e : done ≡ read_judged_seen t j (length m)) where
    pub loading_refused : (refusal : Refusal) → done ≡ Err refusal → LoadingIs (Err refusal) m
    loading_refused refusal n = (rw (← is, ← e, n) refl, rw (← is, ← e, n) refl)

    pub loading_done : done ≡ Ok tt → (w : Wave) → w ≡ held_in j → (x : Starts) → x ≡ beginnings_seen t → (after : List ℕ) → after ≡ loaded_of f x m
        → LoadingIs (Ok (record { rate = w.rate; samples = w.samples })) after
    loading_done z w h x k after l = (rw (h, ← is, ← e, z) refl, rw (← is, ← e, z, ← k) l)

-- the rate alone
abbrev pub rated : Result Loading Refusal → Result ℕ Refusal
rated (Ok l) = Ok l.rate
rated (Err refusal) = Err refusal

rated_given : (done : Result (Unit {0}) Refusal) (l : Loading) → rated (given done l) ≡ given done l.rate
rated_given (Ok _) l = refl
rated_given (Err refusal) l = refl

-- ---- of a record
module _ (s : Sampler) (two : length s.channels ≡ 2) where
  pub read_judged_seen_lem : (j : Judged) (size : ℕ) → read_judged_seen (survey_of s) j size ≡ read_judged s j size
  unfolding read_judged
  read_judged_seen_lem j size = ap (λ (b : Bool). read_rows b (records_seen (seen_of s)) j s.count (short_seen n (survey_of s))) (good_seen s size) ∙ go (good_with s size) refl
    where
      n : ℕ
      n = (held_in j).samples

      go : (b : Bool) → good_with s size ≡ b → read_rows b (records_seen (seen_of s)) j s.count (short_seen n (survey_of s)) ≡ read_rows b (against_any (Samples n) s).blocked j s.count (against_any (Samples n) s).short
      go false g = refl
      go true g =
          let w = fitting s size g in
          let recording = against_samples s n ∙ any_two records s.channels s.count _ two w.some w.few in
          let short = short_samples s n ∙ any_two (λ (c : Channel). ltb (holds_of (beside_in s.capacity c) s.capacity c.head) n) s.channels s.count _ two w.some w.few in
          λ i. read_rows true (sym recording i) j s.count (sym short i)

  module _ (eight : length (channel_at s 1).table ≡ 8) where
    begins_there : (c : Channel) → begins_at (beside_in s.capacity c).behind c.head ≡ begins_in c
    begins_there c = ap (λ (n : ℕ). begins_at n c.head) (behind_same c.head.start c.head.start s.capacity 0 (others_in c))

    beginnings_are : good_sampler s ≡ true → beginnings_seen (survey_of s) ≡ beginnings_in s
    beginnings_are good = λ i. record { first = begins_there (channel_at s 0) i; second = second (eqb s.count 2) refl i }
      where
        second : (b : Bool) → eqb s.count 2 ≡ b → cond b ((s.capacity + begins_at (beside_in s.capacity (channel_at s 1)).behind (channel_at s 1).head) % 2 ^ 64) 0 ≡ cond b (s.capacity + begins_in (channel_at s 1)) 0
        second false e = refl
        second true e =
            let is_two = eqb-true s.count 2 e in
            let sum = ap (λ (n : ℕ). s.capacity + n) (begins_there (channel_at s 1)) in
            let small : s.capacity + begins_in (channel_at s 1) ≤ 2 ^ 23 = subst (λ (b : Bool). cond b (s.capacity + begins_in (channel_at s 1)) 0 ≤ 2 ^ 23) e (second_begins_small s is_two good eight) in
            ap (λ (n : ℕ). n % 2 ^ 64) sum ∙ mod-eq_of_lt (omega (arith, small))

    pub memory_seen : (f m : List ℕ) → memory_left (survey_of s) f m ≡ read_memory s f m
    unfolding read_memory
    memory_seen f m =
        ap (λ (r : Result (Unit {0}) Refusal). cond (is_ok r) (loaded_of f (beginnings_seen (survey_of s)) m) m) (read_judged_seen_lem (file_judged f) (length m)) ∙ go (is_ok done) refl
      where
        done : Result (Unit {0}) Refusal
        done = read_judged s (file_judged f) (length m)

        go : (b : Bool) → is_ok done ≡ b → cond b (loaded_of f (beginnings_seen (survey_of s)) m) m ≡ cond b (loaded_of f (beginnings_in s) m) m
        go false e = refl
        go true e = ap (λ (x : Starts). loaded_of f x m) (beginnings_are (fitting s (length m) (read_says s (file_judged f) (length m) (zero_at done e)).good).good)

  -- what is answered, and what the record then is
  pub read_seen : (f : List ℕ) (size : ℕ) → rated (loading_seen (survey_of s) f size) ≡ (read_wave_of s f size).read
  unfolding read_wave_of
  read_seen f size =
      rated_given (read_judged_seen (survey_of s) (file_judged f) size) _
      ∙ ap (λ (done : Result (Unit {0}) Refusal). given done (held_in (file_judged f)).rate) (read_judged_seen_lem (file_judged f) size)
