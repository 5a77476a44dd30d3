-- What a refused call leaves, and what a number of 0 says of record, memory and file. Assumes nothing.
use Rattle.std.proofs.Common.{◌≡◌, ℕ, ◌+◌, ◌*◌, ◌^◌, ◌<◌, ◌≤◌, Bool, true, false, cond, not, eqb, ltb, List, length, sym, refl, ◌∙◌, subst, mul-le-mul_right, arith, ltb-false, lt-ltb, eqb-true, le-leb, ap, Result, Ok, Err}
use Rattle.std.specs.Prelude.{is_ok}
use Rattle.refusals.specs.declared.Refusal.{Refusal}
use Rattle.refusals.specs.declared.Refusal.TheVariants.{ShortList, Broken, Recording, OtherChannels, BadWave, NoRoom}
use Rattle.refusals.specs.Refusals.{code_of}
use Rattle.refusals.proofs.Codes.{done_at, zero_at, passed}
use Rattle.binary32.proofs.Truth.{cond_split}
use Rattle.wave.specs.declared.Starts.{Starts}
use Rattle.wave.specs.declared.Layout.{Layout}
use Rattle.wave.specs.declared.Judged.{Judged}
use Rattle.wave.specs.declared.Wave.{Wave}
use Rattle.wave.specs.Reader.{file_judged}
use Rattle.wave.specs.Memory.{fits_memory, fits_file, bytes_of, loaded_of}
use Rattle.wave.proofs.Calls.{length_loaded}
use Rattle.channel.specs.declared.Change.TheVariants.{Head}
use Rattle.channel.specs.declared.HeadChange.TheVariants.{Load}
use Rattle.channel.specs.declared.Ask.TheVariants.{Samples}
use Rattle.channel.specs.declared.Channel.{Channel}
use Rattle.channel.specs.Heads.{holds_of}
use Rattle.channel.specs.Tables.{asks_of, head_asks}
use Rattle.channel.specs.Channels.{beside_in, begins_in}
use Rattle.sampler.specs.declared.Sampler.{Sampler}
use Rattle.sampler.specs.Refusals.{channel_at, good_with, records, any_recording, against_any, change_judged, change_number}
use Rattle.sampler.specs.Samplers.{each_of, answer_of, change_of}
use Rattle.sampler.proofs.Rows.{is_true, Fitting, fitting}
use Rattle.sampler.proofs.Channels.{good_at, short_data, read_within}
use Rattle.sampler.proofs.Against.{against_samples, short_samples, none_at}
use Rattle.recordings.specs.Waves.{samples_of, lengths_differ, layout_in, given, write_judged, write_number, write_wave_of, bad_file, held_in, read_judged, read_number, read_wave_of, beginnings_in, read_memory}
use Rattle.recordings.specs.declared.ReadAnswer.{ReadAnswer}
use Rattle.recordings.proofs.Parts.{starts_fit}

-- ---- writing

-- a channel's words, of one channel or two
pub words_few : (count capacity samples : ℕ) → count ≤ 2 → capacity ≤ 2 ^ 22 → samples ≤ capacity → count * samples ≤ 2 ^ 23
words_few count capacity samples few small short = let a : count * samples ≤ 2 * samples = mul-le-mul_right samples few in omega (arith, a, short, small)

pub room_enough : (l : Layout) → l.channels * l.samples ≤ 2 ^ 23 → (room : ℕ) → bytes_of l ≤ room → fits_file l room ≡ true
unfolding fits_file
room_enough l few room h = rw (lt-ltb (bytes_of l) (2 ^ 32 + 8) (omega (arith, few)), le-leb (bytes_of l) room h) refl

module _ (s : Sampler) (size : ℕ) (good : good_with s size ≡ true) where
  g : Fitting s size
  g = fitting s size good

  pub layout_fits : length s.channels ≡ 2 → lengths_differ s ≡ false → fits_memory (layout_in s) size ≡ true
  layout_fits = starts_fit s size g

  pub file_fits : (room : ℕ) → bytes_of (layout_in s) ≤ room → fits_file (layout_in s) room ≡ true
  file_fits = room_enough (layout_in s) (words_few s.count s.capacity (samples_of s) g.few g.small (short_data s 0 g.good g.some))

-- what a number of 0 says of a write
pub record Writes (s : Sampler) (room size : ℕ) : Type 0 where
  pub good : good_with s size ≡ true
  pub idle : any_recording s ≡ false
  pub alike : lengths_differ s ≡ false
  pub fits : bytes_of (layout_in s) ≤ room

pub write_says : (s : Sampler) (room size : ℕ) → write_number s room size ≡ 0 → Writes s room size
unfolding write_judged
write_says s room size z =
    let a = passed (not (good_with s size)) Broken _ z in
    let b = passed (any_recording s) Recording _ a.1 in
    let c = passed (lengths_differ s) OtherChannels _ b.1 in
    let d = passed (ltb room (bytes_of (layout_in s))) ShortList (Ok tt) c.1 in
    record {
      good = is_true (good_with s size) a.0;
      idle = b.0;
      alike = c.0;
      fits = ltb-false room (bytes_of (layout_in s)) d.0;
    }

-- an answer that is given has the number of the call
pub given_number : {A : Type 0} (done : Result (Unit {0}) Refusal) (a : A) → code_of (given done a) ≡ code_of done
given_number (Ok _) a = refl
given_number (Err refusal) a = refl

pub write_number_lem : (s : Sampler) (room size : ℕ) → code_of (write_wave_of s room size) ≡ write_number s room size
unfolding write_wave_of
write_number_lem s room size = given_number (write_judged s room size) (bytes_of (layout_in s))

-- ---- reading
module _ (s : Sampler) (f m : List ℕ) where
  -- r is what the call answers, and `after` the memory afterwards
  abbrev pub Reads : ReadAnswer → List ℕ → Type 0
  Reads r after = (r ≡ read_wave_of s f (length m)) × (after ≡ read_memory s f m)

  module _ (j : Judged) (is : j ≡ file_judged f) (done : Result (Unit {0}) Refusal) (e : done ≡ read_judged s j (length m)) where
    pub read-refused : (refusal : Refusal) → done ≡ Err refusal → Reads (record { sampler = s; read = Err refusal }) m
    unfolding read_wave_of read_memory answer_of
    read-refused refusal h = (rw (← is, ← e, h) refl, rw (← is, ← e, h) refl)

    pub read_done : done ≡ Ok tt → (x : Starts) → x ≡ beginnings_in s → (after : List ℕ) → after ≡ loaded_of f x m → (w : Wave) → w ≡ held_in j → (a : Sampler) → a ≡ each_of (Head (Load w.samples)) s
        → Reads (record { sampler = a; read = Ok w.rate }) after
    unfolding read_wave_of read_memory answer_of
    read_done z x k after l w h a g = (rw (← is, ← e, z, g, h) refl, rw (← is, ← e, z, ← k) l)

-- what a number of 0 says of a read
pub record Loads (s : Sampler) (j : Judged) (size : ℕ) : Type 0 where
  pub good : good_with s size ≡ true
  pub idle : any_recording s ≡ false
  pub whole : bad_file j ≡ false
  pub counts : (held_in j).channels ≡ s.count
  pub room : (against_any (Samples (held_in j).samples) s).short ≡ false

pub read_says : (s : Sampler) (j : Judged) (size : ℕ) → read_number s j size ≡ 0 → Loads s j size
unfolding read_judged
read_says s j size z =
    let against = against_any (Samples (held_in j).samples) s in
    let a = passed (not (good_with s size)) Broken _ z in
    let b = passed against.blocked Recording _ a.1 in
    let c = passed (bad_file j) BadWave _ b.1 in
    let d = passed (not (eqb (held_in j).channels s.count)) OtherChannels _ c.1 in
    let e = passed against.short NoRoom (Ok tt) d.1 in
    record {
      good = is_true (good_with s size) a.0;
      idle = sym (against_samples s (held_in j).samples) ∙ b.0;
      whole = c.0;
      counts = eqb-true _ _ (is_true _ d.0);
      room = e.0;
    }

module _ (s : Sampler) (j : Judged) (size : ℕ) (l : Loads s j size) where
  -- each channel may hold so many
  pub loads_few : (i : ℕ) → i < s.count → i < length s.channels
      → (held_in j).samples ≤ holds_of (beside_in s.capacity (channel_at s i)) s.capacity (channel_at s i).head
  loads_few i below seated =
      let n = (held_in j).samples in
      ltb-false _ n
      (none_at s (λ (c : Channel). ltb (holds_of (beside_in s.capacity c) s.capacity c.head) n) (sym (short_samples s n) ∙ l.room) i below seated)

  -- and they have room in its part
  pub loads_room : length s.channels ≡ 2 → ((i : ℕ) → i < s.count → length (channel_at s i).table ≡ 8)
      → (i : ℕ) → i < s.count → begins_in (channel_at s i) + (held_in j).samples ≤ s.capacity
  loads_room two eight i below =
      let g = fitting s size l.good in
      let seated : i < length s.channels = omega (arith, two, g.few) in
      read_within s.capacity (channel_at s i) (good_at s i g.good below) (eight i below) (none_at s records l.idle i below seated) (held_in j).samples (loads_few i below seated)

  -- and then so many samples may be loaded by a change of every channel too
  pub loads_change : change_number s (Head (Load (held_in j).samples)) ≡ 0
  unfolding asks_of head_asks
  loads_change = rw ((fitting s size l.good).good, against_samples s (held_in j).samples, l.idle, l.room) refl

module _ (s : Sampler) (f m : List ℕ) where
  pub read_memory_length : length (read_memory s f m) ≡ length m
  unfolding read_memory
  read_memory_length = cond_split (λ (x : List ℕ). length x ≡ length m) (is_ok (read_judged s (file_judged f) (length m))) _ _ (λ _. length_loaded f (beginnings_in s) m) (λ _. refl)

  -- a read leaves the record as a change does, or as it was
  pub read_sampler : (P : Sampler → Type 0) → P s → (change_number s (Head (Load (held_in (file_judged f)).samples)) ≡ 0 → P (change_of s (Head (Load (held_in (file_judged f)).samples))).sampler) → P (read_wave_of s f (length m)).sampler
  unfolding read_wave_of answer_of
  read_sampler P held changed = go (is_ok done) refl
    where
      done : Result (Unit {0}) Refusal
      done = read_judged s (file_judged f) (length m)

      go : (b : Bool) → is_ok done ≡ b → P (cond b (each_of (Head (Load (held_in (file_judged f)).samples)) s) s)
      go true e =
          let x = Head (Load (held_in (file_judged f)).samples) in
          let z = loads_change s (file_judged f) (length m) (read_says s (file_judged f) (length m) (zero_at done e)) in
          subst (λ (b : Bool). P (cond b (each_of x s) s)) (done_at (change_judged s x) z) (changed z)
      go false e = held
