-- A sound head stays sound through a recording, a change of pass-through and the end of a sample, and a new one is sound. Assumes nothing.
use mathlib.Core.Path.{◌≡◌, refl, ap}
use Prim.Native.Nat.{ℕ, ◌+◌, ◌-◌, ◌^◌, ◌≤◌, ◌<◌, zero-le, min}
use native.Mathlib.Nat.{min-eq_left}
use native.Mathlib.Omega.{arith}
use mathlib.Core.Bool.{Bool, true, false, ◌&&◌, beq, cond}
use mathlib.Core.List.{List}
use lib.Dec.{T, leb, ltb, leb→le, le→leb, ltb→lt, lt→ltb}
use lib.Ieee.{Float, fits}
use lib.Ieee.Bits.{is_true}
use lib.Ieee.Fits.{and_i, and_l, and_r}
use borrow.Author.Tests.{ltb-true, lt-ltb, leb-true, leb-false, le-leb, lt-leb}
use Rattle.binary32.proofs.Truth.{yes, cond_split}
use Rattle.common_types.specs.declared.Params.{Params}
use Rattle.common_types.proofs.Limits.{within}
use Rattle.volume.specs.Levels.{stepped_of, good_volume}
use Rattle.binary32.specs.Leaves.{zero32, one32}
use Rattle.recorder.specs.declared.Recorded.{Recorded}
use Rattle.recorder.specs.Recording.{recorded_of, good_recorder, good_recorded}
use Rattle.phrases.specs.declared.Phrase.{Phrase}
use Rattle.phrases.specs.Phrases.{is_over_by, room_of}
use Rattle.phrases.proofs.Rooms.{ends_inside, inside_ends, room_from, room_to}
use Rattle.recorder.proofs.Good.{new_good, good_length, good_within, sample_good}
use Rattle.voice.specs.Soundness.{Fits, SoundParams, FittingVolume, SoundVolume}
use Rattle.voice.proofs.Volumes.{static_sound, volume_later, volume_stepped_lem, volume_toward}
use Rattle.channel.specs.Heads.{with_recorded, with_passthru, recording_in, written_in, last_time, next_time, head_of, head_changed_of, interpolates_after, passes_of, ramp_of, passthru_of, closed_of, good_head}
use Rattle.channel.specs.Tables.{good_table}
use Rattle.channel.specs.Channels.{head_changed_in}
use Rattle.volume.specs.declared.Volume.{Volume}
use Rattle.channel.specs.declared.Head.{Head}
use Rattle.channel.specs.declared.HeadChange.{HeadChange}
use Rattle.channel.specs.declared.Channel.{Channel}

pub record SoundHead (capacity : ℕ) (h : Head) : Type 0 where
  pub time : h.now ≤ 2 ^ 48
  pub numbered : h.chosen < 8
  pub inside : h.start + h.data_len ≤ capacity
  pub volume : SoundVolume h.now h.passthru_volume
  pub recorder : good_recorder h.recorder h.data_len capacity ≡ true

-- ---- good and fitting
module _ (capacity : ℕ) (h : Head) where
  pub head_parts : good_head capacity h ≡ true → FittingVolume h.passthru_volume → SoundHead capacity h
  unfolding good_head
  head_parts good fit =
      let a : Bool = leb h.now last_time in
      let k : Bool = ltb h.chosen 8 in
      let e : Bool = is_over_by capacity (recording_in h) in
      let b : Bool = good_volume h.now h.passthru_volume in
      let c : Bool = good_recorder h.recorder h.data_len capacity in
      let t : T ((a && (k && e)) && b && c) = yes good in
      let u : T (a && (k && e)) = and_l (a && (k && e)) b (and_l ((a && (k && e)) && b) c t) in
      record {
        time = leb→le h.now last_time (and_l a (k && e) u);
        numbered = ltb→lt h.chosen 8 (and_l k e (and_r a (k && e) u));
        inside = ends_inside (recording_in h) capacity (is_true e (and_r k e (and_r a (k && e) u)));
        volume = record { good = and_r (a && (k && e)) b (and_l ((a && (k && e)) && b) c t); fitting = fit };
        recorder = is_true c (and_r ((a && (k && e)) && b) c t);
      }

  pub head_good : SoundHead capacity h → good_head capacity h ≡ true
  unfolding good_head
  head_good s =
      let a : Bool = leb h.now last_time in
      let k : Bool = ltb h.chosen 8 in
      let e : Bool = is_over_by capacity (recording_in h) in
      let b : Bool = good_volume h.now h.passthru_volume in
      let c : Bool = good_recorder h.recorder h.data_len capacity in
      let u : T (a && (k && e)) = and_i a (k && e) (le→leb h.now last_time s.time) (and_i k e (lt→ltb h.chosen 8 s.numbered) (yes (inside_ends (recording_in h) capacity s.inside))) in
      is_true ((a && (k && e)) && b && c) (and_i ((a && (k && e)) && b) c (and_i (a && (k && e)) b u s.volume.good) (yes s.recorder))

pub new_sound : (capacity : ℕ) (level : Float) (interpolates : Bool) → Fits level → SoundHead capacity (head_of level interpolates)
unfolding head_of
new_sound capacity level interpolates t = record { time = zero-le; numbered = omega arith; inside = zero-le; volume = static_sound level 0 t; recorder = new_good capacity }

-- a change that touches no voice leaves the clock
pub head_change_now : (d : HeadChange) (c : Channel) → (head_changed_in d c).head.now ≡ c.head.now
unfolding head_changed_in head_changed_of
head_change_now d c = refl

-- and what becomes of 7/12's setting is one function of it
pub head_change_setting : (d : HeadChange) (c : Channel) → (head_changed_in d c).head.interpolates ≡ interpolates_after d c.head.interpolates
unfolding head_changed_in head_changed_of
head_change_setting d c = refl

-- ---- changes
-- what pass-through's state and level don't touch, they hold
pub passthru_holds : {A : Type 0} (f : Head → A) → ((on : Bool) (v : Volume) (h : Head) → f (with_passthru on v h) ≡ f h) → (p : Params) (unfinished : Bool) (h : Head) → f (passthru_of p unfinished h) ≡ f h
unfolding passthru_of
passthru_holds f same p unfinished h = go (beq (passes_of p unfinished) h.passthru_on)
  where
    go : (b : Bool) → f (cond b h (with_passthru (passes_of p unfinished) (ramp_of h.passthru_volume h.now p (passes_of p unfinished)) h)) ≡ f h
    go true = refl
    go false = same _ _ h

pub passthru_now : (p : Params) (unfinished : Bool) (h : Head) → (passthru_of p unfinished h).now ≡ h.now
passthru_now p unfinished h = passthru_holds (λ (g : Head). g.now) (λ on v g. refl) p unfinished h

pub passthru_setting : (p : Params) (unfinished : Bool) (h : Head) → (passthru_of p unfinished h).interpolates ≡ h.interpolates
passthru_setting p unfinished h = passthru_holds (λ (g : Head). g.interpolates) (λ on v g. refl) p unfinished h

-- nor the phrases
pub passthru_table : (capacity : ℕ) (several : Bool) (table : List Phrase) (p : Params) (unfinished : Bool) (h : Head) → good_table capacity (passthru_of p unfinished h) several table ≡ good_table capacity h several table
unfolding good_table
passthru_table capacity several table p unfinished h = passthru_holds (λ (g : Head). good_table capacity g several table) (λ on v g. refl) p unfinished h

module _ (capacity : ℕ) (h : Head) (s : SoundHead capacity h) where
  -- the recording has what the capacity has left from its start on
  abbrev left : ℕ
  left = capacity - h.start

  pub recorder_left : good_recorder h.recorder h.data_len left ≡ true
  recorder_left = good_within h.recorder h.data_len capacity s.recorder left (omega (arith, s.inside))

  pub recorded_sound : (r : Recorded) → good_recorded r left ≡ true → SoundHead capacity (with_recorded r h)
  recorded_sound r g =
      let short : r.data_len ≤ left = good_length r.recorder r.data_len left g in
      record {
        time = s.time;
        numbered = s.numbered;
        inside = omega (arith, s.inside, short);
        volume = s.volume;
        recorder = good_within r.recorder r.data_len left g capacity (omega (arith, short));
      }

  -- the recorder is handed what is left from the start on where the others reach no further, and its own samples where they do
  module _ (behind : ℕ) where
    abbrev handed : ℕ
    handed = (written_in behind h capacity).to - (written_in behind h capacity).from

    pub room_left : behind ≤ h.start → handed ≡ left
    unfolding written_in
    room_left low = rw (le-leb behind h.start low) (ap (λ (k : ℕ). capacity - k) (min-eq_left (omega (arith, s.inside))))

    pub room_own : h.start < behind → handed ≡ h.data_len
    unfolding written_in
    room_own high =
        let own : is_over_by capacity (recording_in h) ≡ true = inside_ends (recording_in h) capacity s.inside in
        rw (lt-leb behind h.start high) (rw (room_from (recording_in h) capacity own, room_to (recording_in h) capacity own) (omega arith))

    pub written_from : (written_in behind h capacity).from ≡ h.start
    unfolding written_in
    written_from = go (leb behind h.start)
      where
        go : (b : Bool) → (cond b (record { from = min h.start capacity; to = capacity }) (room_of (recording_in h) capacity)).from ≡ h.start
        go true = min-eq_left (omega (arith, s.inside))
        go false = room_from (recording_in h) capacity (inside_ends (recording_in h) capacity s.inside)

    pub handed_cases : {R : Type 0} → (behind ≤ h.start → handed ≡ left → R) → (h.start < behind → handed ≡ h.data_len → R) → R
    handed_cases {R} last between = go (leb behind h.start) refl
      where
        go : (b : Bool) → leb behind h.start ≡ b → R
        go true e = let low = leb-true behind h.start e in last low (room_left low)
        go false e = let high = leb-false behind h.start e in between high (room_own high)

    -- what a sample leaves of the recording
    abbrev pub grown : Recorded
    grown = recorded_of h.recorder h.data_len handed

    grown_good : good_recorded grown handed ≡ true
    grown_good =
        sample_good h.recorder h.data_len handed
        (good_within h.recorder h.data_len capacity s.recorder handed (handed_cases (λ low e. omega (arith, s.inside)) (λ high e. omega arith)))

    pub grown_left : good_recorded grown left ≡ true
    grown_left =
        let short : grown.data_len ≤ handed = good_length grown.recorder grown.data_len handed grown_good in
        good_within grown.recorder grown.data_len handed grown_good left (handed_cases (λ low e. omega arith) (λ high e. omega (arith, s.inside)))

    -- it is no longer than it was, if the others reach further than its start
    pub grown_own : h.start < behind → grown.data_len ≤ h.data_len
    grown_own high = omega (arith, good_length grown.recorder grown.data_len handed grown_good, room_own high)

  passed_sound : (on : Bool) (v : Volume) → SoundVolume h.now v → SoundHead capacity (with_passthru on v h)
  passed_sound on v g = record { time = s.time; numbered = s.numbered; inside = s.inside; volume = g; recorder = s.recorder }

  ramp_sound : (p : Params) → SoundParams p → (on : Bool) → SoundVolume h.now (ramp_of h.passthru_volume h.now p on)
  unfolding ramp_of fits
  ramp_sound p ok true = volume_toward h.passthru_volume h.now s.volume p.attack_samples one32 s.time (within p ok.within).attack tt
  ramp_sound p ok false = volume_toward h.passthru_volume h.now s.volume p.decay_samples zero32 s.time (within p ok.within).decay tt

  pub passthru_sound : (p : Params) → SoundParams p → (unfinished : Bool) → SoundHead capacity (passthru_of p unfinished h)
  unfolding passthru_of
  passthru_sound p ok unfinished =
      let on = passes_of p unfinished in
      cond_split (SoundHead capacity) (beq on h.passthru_on) h (with_passthru on (ramp_of h.passthru_volume h.now p on) h) (λ e. s)
      (λ e. passed_sound on (ramp_of h.passthru_volume h.now p on) (ramp_sound p ok on))

  stepped_sound : SoundHead capacity (with_passthru h.passthru_on (stepped_of h.passthru_volume h.now) h)
  stepped_sound = passed_sound h.passthru_on (stepped_of h.passthru_volume h.now) (volume_stepped_lem h.passthru_volume h.now s.volume h.now)

-- ---- the end of a sample: the clock moves on, and not past its end
pub next_later : (now : ℕ) → now ≤ next_time now
unfolding next_time
next_later now = cond_split (λ (n : ℕ). now ≤ n) (ltb now last_time) (now + 1) now (λ t. omega arith) (λ t. omega arith)

next_last : (now : ℕ) → now ≤ 2 ^ 48 → next_time now ≤ 2 ^ 48
unfolding next_time
next_last now h = go (ltb now last_time) refl
  where
    go : (b : Bool) → ltb now last_time ≡ b → cond b (now + 1) now ≤ 2 ^ 48
    go true e = let k = ltb-true now last_time e in omega arith
    go false e = h

pub next_one : (now : ℕ) → now < 2 ^ 48 → next_time now ≡ now + 1
unfolding next_time
next_one now h = simp (lt-ltb now (2 ^ 48) h)

module _ (p : Params) (unfinished : Bool) (h : Head) where
  pub closed_now : (closed_of p unfinished h).now ≡ next_time h.now
  unfolding closed_of
  closed_now = simp passthru_now

  pub closed_setting : (closed_of p unfinished h).interpolates ≡ h.interpolates
  unfolding closed_of
  closed_setting = simp passthru_setting

  pub closed_table : (capacity : ℕ) (several : Bool) (table : List Phrase) → good_table capacity (closed_of p unfinished h) several table ≡ good_table capacity h several table
  unfolding closed_of good_table
  closed_table capacity several table = passthru_table capacity several table p unfinished (with_passthru h.passthru_on (stepped_of h.passthru_volume h.now) h)

  pub closed_sound : (capacity : ℕ) → SoundParams p → SoundHead capacity h → SoundHead capacity (closed_of p unfinished h)
  unfolding closed_of
  closed_sound capacity ok s =
      let k = stepped_sound capacity h s in
      let g = passthru_sound capacity _ k p ok unfinished in
      record { time = next_last _ g.time; numbered = g.numbered; inside = g.inside; volume = volume_later _ _ g.volume _ (next_later _); recorder = g.recorder }
