-- A sound record stays sound through every call, refused or not, and set-up makes one. Assumes nothing.
use mathlib.Core.Path.{◌≡◌, refl, sym, ◌∙◌, subst}
use Prim.Native.Nat.{ℕ, ◌^◌, ◌≤◌, ◌<◌}
use native.Mathlib.Nat.{le_trans, le_of_eq}
use mathlib.Core.Bool.{true, false, not, ◌&&◌, ◌||◌}
use mathlib.Core.List.{List, [], ◌∷◌, map}
use borrow.Author.Tests.{leb-true, leb-false, ltb-false}
use Rattle.std.specs.Prelude.{Ok, is_ok}
use lib.Dec.{leb, eqb}
use lib.ListN.{length, take, get_or, set, length-set}
use lib.Seq.{sets, length-sets, get_or-take, length-take-le}
use lib.Ieee.{Float, le}
use Rattle.binary32.proofs.Truth.{yes, no, cond_split}
use Rattle.std.specs.List.{list_all}
use Rattle.walks.specs.Each.{Each}
use Rattle.walks.proofs.Lists.Every.{both}
use Rattle.walks.proofs.Lists.Each.{each_at, each_front, each_set, each_every, each_map, each_weaker, every_each, any_each, front_map}
use Rattle.binary32.specs.Leaves.{zero32, one32}
use Rattle.refusals.specs.declared.Refusal.TheVariants.{BadNote, BadPosition, BeyondLimits, Broken, Recording, NoRoom, NoPhrase, PhraseInUse, PhraseRecording}
use Rattle.refusals.proofs.Codes.{passed, zero_when}
use Rattle.common_types.specs.declared.InitParams.{InitParams}
use Rattle.common_types.specs.declared.Params.{Params}
use Rattle.common_types.specs.Settings.{beyond_limits}
use Rattle.voice.specs.Soundness.{FittingParams, SoundParams}
use Rattle.channel.specs.declared.Channel.{Channel}
use Rattle.channel.specs.declared.Change.{Change}
use Rattle.channel.specs.declared.Change.TheVariants as change
use Rattle.channel.specs.declared.HeadChange.TheVariants.{StartRecording, StopRecording, Interpolate, Load, Choose, Delete}
use Rattle.channel.specs.declared.Ask.TheVariants as ask
use Rattle.channel.specs.declared.Ask.TheVariants.{Samples, Choice}
use Rattle.channel.specs.Tables.{asks_of, head_asks, leaving_of, blocked_by, short_by}
use Rattle.channel.specs.Channels.{channel_of, against_of, changed_of, gathered_in, good_channel}
use Rattle.channel.specs.Soundness.{FittingChannel, SoundChannel, FittingChange, SoundHeadChange, SoundChange}
use Rattle.channel.proofs.Kept.{new_channel_sound, change_sound}
use Rattle.channel.proofs.Gathers.{gathered_sound}
use Rattle.channel.proofs.Samples.{sample_sound}
use Rattle.sampler.specs.Refusals.{present, channel_at, good_sizes, good_sampler, bad_note, bad_position, against_any, start_rows, stop_rows, change_judged, change_number, set_up_judged, set_up_number, sample_judged, capacity_of}
use Rattle.sampler.specs.Samplers.{with_channels, sampler_of, set_up_of, each_of, answer_of, change_of, part_of, played_at, channel_stepped_of, process_sample_of, Gathered, gather_channel, gather_of, Framed, entry_of, framed_of}
use Rattle.sampler.specs.Soundness.{SoundSampler}
use Rattle.sampler.specs.declared.Sampler.{Sampler}
use Rattle.sampler.proofs.Rows.{is_true, sizes_count}
use Rattle.sampler.proofs.Entries.{Reaches, sample_reaches, part_length, frame_keeps}
use Rattle.sampler.proofs.Gathered.{gather_keeps}

-- ---- a sound record by its parts
record Parts (s : Sampler) : Type 0 where
  sizes : good_sizes s.count s.capacity ≡ true
  seats : length s.channels ≡ 2
  channels : Each (SoundChannel s.capacity) (present s)

parts : {s : Sampler} → SoundSampler s → Parts s
unfolding good_sampler
parts {s} h =
    let g = both (good_sizes s.count s.capacity) (list_all (good_channel s.capacity) (present s)) h.good in
    record {
      sizes = g.0;
      seats = h.fitting.seats;
      channels = every_each FittingChannel (SoundChannel s.capacity) (good_channel s.capacity) (λ c a b. record { good = a; fitting = b }) (present s) g.1 h.fitting.channels;
    }

joined : {s : Sampler} → Parts s → SoundSampler s
unfolding good_sampler
joined {s} g =
    let S = SoundChannel s.capacity in
    record {
      good = rw g.sizes (each_every S (good_channel s.capacity) (present s) (λ c k. k.good) g.channels);
      fitting = record { seats = g.seats; channels = each_weaker S FittingChannel (λ c k. k.fitting) (present s) g.channels };
    }

module _ (s : Sampler) (h : SoundSampler s) where
  pub small : s.capacity ≤ 2 ^ 22
  unfolding good_sizes
  small =
      let n = s.count in
      leb-true s.capacity (2 ^ 22) (both ((eqb n 1 || eqb n 2) && leb 1 s.capacity) (leb s.capacity (2 ^ 22)) (parts h).sizes).1

  room : s.count ≤ length s.channels
  room = le_trans (sizes_count s.count s.capacity (parts h).sizes) (le_of_eq (sym (parts h).seats))

  pub channel_sound : (j : ℕ) → j < s.count → SoundChannel s.capacity (channel_at s j)
  channel_sound j k =
      let S = SoundChannel s.capacity in
      let d = channel_of (record { auto_passthru = false }) in
      subst S (get_or-take s.count s.channels j d k)
      (each_at S (present s) j d (parts h).channels (subst (λ (n : ℕ). j < n) (sym (length-take-le s.count s.channels room)) k))

  channels_changed : (cs : List Channel) → length cs ≡ length s.channels → Each (SoundChannel s.capacity) (take s.count cs) → SoundSampler (with_channels cs s)
  channels_changed cs same k = joined (record { sizes = (parts h).sizes; seats = same ∙ (parts h).seats; channels = k })

  -- a change that is sound on each of its channels
  abbrev SoundOn : Change → Channel → Type 0
  SoundOn x c = SoundChannel s.capacity c × SoundChange s.capacity c x

  each_sound : (x : Change) → Each (SoundOn x) (present s) → SoundSampler (each_of x s)
  unfolding each_of
  each_sound x ok =
      let S = SoundChannel s.capacity in
      let cs = map (changed_of x) (present s) in
      channels_changed (sets s.channels 0 cs) (length-sets s.channels 0 cs)
      (subst (Each S) (sym (front_map (changed_of x) s.channels s.count room))
      (each_map (SoundOn x) S (changed_of x) (λ c k. change_sound s.capacity c k.0 small x k.1) (present s) ok))

  -- what no channel has to be asked for
  of_each : (x : Change) → ((c : Channel) → SoundChange s.capacity c x) → Each (SoundOn x) (present s)
  of_each x ok = each_weaker (SoundChannel s.capacity) (SoundOn x) (λ c k. (k, ok c)) (present s) (parts h).channels

  -- what none of them has anything in its way of
  of_blocked : (x : Change) → (against_any (asks_of x) s).blocked ≡ false → ((c : Channel) → (against_of s.capacity (asks_of x) c).blocked ≡ false → SoundChange s.capacity c x) → Each (SoundOn x) (present s)
  unfolding against_any
  of_blocked x free ok =
      any_each (SoundChannel s.capacity) (SoundOn x) (λ (c : Channel). (against_of s.capacity (asks_of x) c).blocked) (λ c e k. (k, ok c e)) (present s) free (parts h).channels

  -- where none records, a recording that each has room for
  load_on : (samples : ℕ) → (against_any (Samples samples) s).blocked ≡ false → (against_any (Samples samples) s).short ≡ false → Each (SoundOn (change.Head (Load samples))) (present s)
  unfolding against_any blocked_by short_by SoundChange SoundHeadChange
  load_on samples idle room =
      let x : Change = change.Head (Load samples) in
      let P : Channel → Type 0 = λ c. SoundChannel s.capacity c × ((against_of s.capacity (Samples samples) c).blocked ≡ false) in
      any_each P (SoundOn x) (λ (c : Channel). (against_of s.capacity (Samples samples) c).short) (λ c e k. (k.0, (k.1, ltb-false _ samples e))) (present s) room
      (any_each (SoundChannel s.capacity) P (λ (c : Channel). (against_of s.capacity (Samples samples) c).blocked) (λ c e k. (k, e)) (present s) idle (parts h).channels)

-- ---- set-up
pub set_up_sound : (count : ℕ) (p : InitParams) (size : ℕ) → set_up_number count size ≡ 0 → SoundSampler (set_up_of count p size).sampler
unfolding set_up_of set_up_judged Each
set_up_sound count p size h =
    let capacity = capacity_of count size in
    let good = is_true (good_sizes count capacity) (passed (not (good_sizes count capacity)) Broken (Ok tt) h).0 in
    let c = new_channel_sound capacity p in
    rw good (joined {s = sampler_of count p capacity} (record { sizes = good; seats = refl; channels = each_front (SoundChannel capacity) (channel_of p ∷ channel_of p ∷ []) count (c, (c, tt)) }))

-- ---- calls that change every channel

-- what the number 0 says of a change
change_let_through : (s : Sampler) (g : SoundSampler s) (x : Change) → change_number s x ≡ 0 → FittingChange x → Each (SoundOn s g x) (present s)
unfolding start_rows stop_rows asks_of head_asks leaving_of blocked_by FittingChange SoundChange SoundHeadChange
change_let_through s g (change.Start p position note velocity) h f =
    let a = (passed (not (good_sampler s)) Broken _ h).1 in
    let b = passed (bad_position position) BadPosition _ (passed (bad_note note) BadNote _ a).1 in
    let k = (passed (beyond_limits p) BeyondLimits _ b.1).0 in
    let d = both (le zero32 position) (le position one32) (is_true (le zero32 position && le position one32) b.0) in
    of_each s g (change.Start p position note velocity) (λ c. (record { within = no k; fitting = f.0 }, record { fitting = f.1; low = yes d.0; high = yes d.1 }, f.2))
change_let_through s g (change.Stop p note) h f =
    let a = passed (bad_note note) BadNote _ (passed (not (good_sampler s)) Broken _ h).1 in
    of_each s g (change.Stop p note) (λ c. record { within = no (passed (beyond_limits p) BeyondLimits _ a.1).0; fitting = f })
change_let_through s g (change.Speed note speed) h f = of_each s g (change.Speed note speed) (λ c. f)
change_let_through s g (change.Head StartRecording) h f = of_each s g (change.Head StartRecording) (λ c. tt)
change_let_through s g (change.Head StopRecording) h f = of_each s g (change.Head StopRecording) (λ c. tt)
change_let_through s g (change.Head (Interpolate on)) h f = of_each s g (change.Head (Interpolate on)) (λ c. tt)
change_let_through s g (change.Head (Load samples)) h f =
    let a = passed (against_any (Samples samples) s).blocked Recording _ (passed (not (good_sampler s)) Broken _ h).1 in
    load_on s g samples a.0 (passed (against_any (Samples samples) s).short NoRoom (Ok tt) a.1).0
change_let_through s g (change.Head (Choose k)) h f =
    let a = passed (leb 8 k) NoPhrase _ (passed (not (good_sampler s)) Broken _ h).1 in
    of_blocked s g (change.Head (Choose k)) (passed (against_any (Choice k) s).blocked PhraseRecording (Ok tt) a.1).0 (λ c e. (leb-false 8 k a.0, e))
change_let_through s g (change.Head (Delete k)) h f =
    let a = passed (leb 8 k) NoPhrase _ (passed (not (good_sampler s)) Broken _ h).1 in
    of_blocked s g (change.Head (Delete k)) (passed (against_any (ask.Delete k) s).blocked PhraseInUse (Ok tt) a.1).0 (λ c e. (leb-false 8 k a.0, e))
change_let_through s g change.Reset h f = of_each s g change.Reset (λ c. tt)

pub change_kept : (s : Sampler) → SoundSampler s → (x : Change) → FittingChange x → SoundSampler (change_of s x).sampler
unfolding answer_of
change_kept s h x f =
    cond_split SoundSampler (is_ok (change_judged s x)) (each_of x s) s
    (λ t. each_sound s h x (change_let_through s h x (zero_when (change_judged s x) t) f)) (λ t. h)

-- ---- a sample, and a frame
step_kept : (p : Params) → SoundParams p → (s : Sampler) → SoundSampler s → (j : ℕ) (x : Float) (m : List ℕ) → Reaches s j (length m) → SoundSampler (channel_stepped_of s j p x m)
unfolding channel_stepped_of played_at
step_kept p ok s h j x m r =
    let S = SoundChannel s.capacity in
    let c = (played_at s j p x m).channel in
    channels_changed s h (set s.channels j c) (length-set s.channels j c)
    (each_set S s.channels s.count j c (parts h).channels (sample_sound s.capacity (channel_at s j) (channel_sound s h j r.below) p ok (small s h) x (part_of s j m) (part_length s j m r.part)))

pub sample_kept : (s : Sampler) → SoundSampler s → (j : ℕ) (x : Float) (p : Params) (m : List ℕ) → FittingParams p → SoundSampler (process_sample_of s j x p m).sampler
unfolding process_sample_of
sample_kept s h j x p m f =
    let done = sample_judged s j p (length m) in
    cond_split SoundSampler (is_ok done) (channel_stepped_of s j p x m) s
    (λ t. let k = sample_reaches s p (length m) j (zero_when done t) in
    step_kept p (record { within = k.1; fitting = f }) s h j x m k.0)
    (λ t. h)

pub frame_kept : (s : Sampler) → SoundSampler s → (frame : List Float) (p : Params) (m : List ℕ) → FittingParams p → SoundSampler (framed_of s frame p m).sampler
unfolding entry_of
frame_kept s h frame p m f =
    frame_keeps (λ (g : Framed). SoundSampler g.sampler) p
    (λ k j g r i. step_kept p (record { within = k; fitting = f }) g.sampler i j (get_or g.frame j zero32) g.memory r) s frame m h

-- ---- a gather
gathers_kept : (j : ℕ) (g : Gathered) → Reaches g.sampler j (length g.memory) → SoundSampler g.sampler → SoundSampler (gather_channel j g).sampler
unfolding gather_channel
gathers_kept j g r h =
    let s = g.sampler in
    let part = part_of s j g.memory in
    let c = gathered_in (channel_at s j) part in
    let long = part_length s j g.memory r.part in
    channels_changed s h (set s.channels j c) (length-set s.channels j c)
    (each_set (SoundChannel s.capacity) s.channels s.count j c (parts h).channels
    (subst (λ (n : ℕ). SoundChannel n c) long
    (gathered_sound (channel_at s j) part (subst (λ (n : ℕ). SoundChannel n (channel_at s j)) (sym long) (channel_sound s h j r.below)))))

pub gather_kept : (s : Sampler) → SoundSampler s → (m : List ℕ) → SoundSampler (gather_of s m).sampler
gather_kept s h m = gather_keeps (λ (g : Gathered). SoundSampler g.sampler) gathers_kept s m h
