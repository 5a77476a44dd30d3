-- A channel that is read where it stands is the record's, and what its type says of it holds. Assumes nothing.
use Rattle.std.proofs.Common.{◌≡◌, ℕ, zero, suc, ◌<◌, Bool, true, false, not, ltb, leb, List, [], ◌∷◌, length, get_or, sym, ap, ◌∙◌, arith, ltb-true, true≢false}
use Rattle.std.specs.Prelude.{Result, Ok, Err}
use Rattle.refusals.specs.declared.Refusal.{Refusal}
use Rattle.refusals.specs.declared.Refusal.TheVariants.{NoChannel, BeyondLimits, ClockEnd, Broken}
use Rattle.refusals.specs.Refusals.{row}
use Rattle.common_types.specs.declared.Params.{Params}
use Rattle.common_types.specs.Settings.{beyond_limits}
use Rattle.channel.specs.Heads.{last_time}
use Rattle.channel.specs.declared.Channel.{Channel}
use base.Fml.{Fml}
use mir.Val.{Val}
use denote.Shadow.{shadow}
use denote.Array.{each}
use Rattle.walks.proofs.Lists.Loops.{get_d_any}
use Rattle.channel.specs.Channels.{channel_of}
use Rattle.sampler.specs.declared.Sampler.{Sampler}
use Rattle.sampler.specs.Refusals.{channel_at, good_with, sample_judged}
use Rattle.sampler.proofs.Rows.{is_true, fitting}
use Rattle.sampler.proofs.Seats.{none}
use Rattle.lent_sampler.proofs.Lists.{ok, row_fails}
use Rattle.channel.specs.declared.Change.TheVariants.{Head}
use Rattle.channel.specs.declared.HeadChange.TheVariants.{Load}
use Rattle.sampler.specs.Samplers.{answer_of, each_of}
use Rattle.wave.specs.Reader.{file_judged}
use Rattle.recordings.specs.declared.Loading.{Loading}
use Rattle.recordings.specs.declared.ReadAnswer.{ReadAnswer}
use Rattle.recordings.specs.Waves.{given, held_in, read_judged, read_wave_of}
use Rattle.recordings.specs.Sights.{survey_of, loading_seen}
use Rattle.recordings.proofs.Sights.{rated, read_judged_seen_lem}

-- an element of an array that a record holds is what its type says
module _ {A : Type 0} (own : A → List Val → Fml) where
  pub element : (xs : List A) (us : List Val) (i : ℕ) (d : A) → i < length xs → shadow (each A own xs us) → (u : Val) × shadow (own (get_or xs i d) (u ∷ []))
  element [] us i d h p = absurd (omega arith)
  element (x ∷ xs) [] i d h p = absurd p
  element (x ∷ xs) (u ∷ us) zero d h p = (u, p.0)
  element (x ∷ xs) (u ∷ us) (suc i) d h p = element xs us i d (omega arith) p.1

pub there : (s : Sampler) → length s.channels ≡ 2 → (j : ℕ) → j < 2 → get_or s.channels j none ≡ channel_at s j
there s two j lt = get_d_any s.channels j none (channel_of (record { auto_passthru = false })) (omega (arith, two, lt))

-- a sample whose rows before the last are passed
module _ (s : Sampler) (j : ℕ) (p : Params) (size : ℕ) (good : Bool) (is_good : good ≡ good_with s size) where
  module _ (h : ok ≡ row (not good) Broken ok) (k : ok ≡ row (not (ltb j s.count)) NoChannel ok) where
    pub low_channel : j < 2
    low_channel =
        let f = fitting s size (sym is_good ∙ is_true good (row_fails (not good) Broken h)) in
        omega (arith, f.few, ltb-true j s.count (is_true (ltb j s.count) (row_fails (not (ltb j s.count)) NoChannel k)))

    pub sample_rows : (beyond : Bool) → beyond ≡ beyond_limits p → ok ≡ row beyond BeyondLimits ok → length s.channels ≡ 2
        → row (leb last_time (get_or s.channels j none).head.now) ClockEnd ok ≡ sample_judged s j p size
    unfolding sample_judged
    sample_rows beyond is_beyond l two =
        let g : not (good_with s size) ≡ false = sym (ap not is_good) ∙ row_fails (not good) Broken h in
        let b : beyond_limits p ≡ false = sym is_beyond ∙ row_fails beyond BeyondLimits l in
        let n : not (ltb j s.count) ≡ false = row_fails (not (ltb j s.count)) NoChannel k in
        ap (λ (c : Channel). row (leb last_time c.head.now) ClockEnd ok) (there s two j low_channel)
        ∙ sym (λ i. row (g i) Broken (row (n i) NoChannel (row (b i) BeyondLimits (row (leb last_time (channel_at s j).head.now) ClockEnd ok))))

-- what a read answers and leaves, by how it is judged
samples_in : Result Loading Refusal → ℕ
samples_in (Ok l) = l.samples
samples_in (Err refusal) = 0

is_done : Result Loading Refusal → Bool
is_done (Ok l) = true
is_done (Err refusal) = false

module _ (s : Sampler) (f : List ℕ) (size : ℕ) where
  loaded : Loading
  loaded = record { rate = (held_in (file_judged f)).rate; samples = (held_in (file_judged f)).samples }

  answers : Result (Unit {0}) Refusal → ReadAnswer
  answers done = record {
    sampler = (answer_of done (Head (Load (held_in (file_judged f)).samples)) s).sampler;
    read = given done (held_in (file_judged f)).rate;
  }

  refused_so : (e : Refusal) (done : Result (Unit {0}) Refusal) → Err e ≡ given done loaded → record { sampler = s; read = Err e } ≡ answers done
  unfolding answer_of is_done loaded answers
  refused_so e (Ok tt) h = absurd (true≢false (sym (ap is_done h)))
  refused_so e (Err x) h = ap (λ (r : Result ℕ Refusal). record { sampler = s; read = r }) (ap rated h)

  done_so : (l : Loading) (done : Result (Unit {0}) Refusal) → Ok l ≡ given done loaded
      → record { sampler = each_of (Head (Load l.samples)) s; read = Ok l.rate } ≡ answers done
  unfolding answer_of is_done loaded answers samples_in
  done_so l (Ok tt) h = ap (λ (r : Result Loading Refusal). record { sampler = each_of (Head (Load (samples_in r))) s; read = rated r }) h
  done_so l (Err x) h = absurd (true≢false (ap is_done h))

  module _ (two : length s.channels ≡ 2) (r : Result Loading Refusal) (is : r ≡ loading_seen (survey_of s) f size) where
    judged : r ≡ given (read_judged s (file_judged f) size) loaded
    unfolding loaded
    judged = is ∙ ap (λ (done : Result (Unit {0}) Refusal). given done loaded) (read_judged_seen_lem s two (file_judged f) size)

    pub read_refused : (e : Refusal) → r ≡ Err e → record { sampler = s; read = Err e } ≡ read_wave_of s f size
    unfolding read_wave_of answers
    read_refused e h = refused_so e (read_judged s (file_judged f) size) (sym h ∙ judged)

    pub read_done : (l : Loading) → r ≡ Ok l → record { sampler = each_of (Head (Load l.samples)) s; read = Ok l.rate } ≡ read_wave_of s f size
    unfolding read_wave_of answers
    read_done l h = done_so l (read_judged s (file_judged f) size) (sym h ∙ judged)
