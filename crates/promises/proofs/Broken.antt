-- Row 9's tests are document 01's list, condition by condition. Assumes nothing.
use mathlib.Core.Path.{◌≡◌, refl, sym, ap, ◌∙◌, subst}
use mathlib.Core.Bool.{Bool, true, false, not, ◌&&◌, ◌||◌}
use mathlib.Core.Logic.{◌⊎◌, inl, inr, ◌≢◌, ◌↔◌}
use mathlib.Core.List.{List, [], ◌∷◌}
use mathlib.Core.Option.{some}
use Prim.Native.Nat.{ℕ, zero, suc, ◌+◌, ◌-◌, ◌*◌, ◌/◌, ◌^◌, ◌≤◌, ◌<◌, min}
use native.Mathlib.Nat.{le-div_iff_mul-le, le_of_mul-le-mul_right}
use native.Mathlib.Omega.{arith}
use borrow.Author.Tests.{leb-true, le-leb, ltb-true, lt-ltb, eqb-true, eq-eqb}
use lib.Dec.{leb, ltb, eqb}
use lib.ListN.{length, take, get_or, get_elem?}
use lib.Ieee.{Float, le, of_int}
use Rattle.std.specs.List.{list_all}
use Rattle.std.specs.Prelude.{Ok}
use Rattle.refusals.specs.declared.Refusal.TheVariants.{Broken}
use Rattle.refusals.specs.Refusals.{code_of, row}
use Rattle.refusals.proofs.Codes.{passed}
use Rattle.walks.specs.Each.{Each}
use Rattle.walks.proofs.Tests.{joined}
use Rattle.walks.proofs.Lists.Every.{both}
use Rattle.volume.specs.declared.Volume.{Volume}
use Rattle.volume.specs.declared.Volume.TheVariants.{Static, Linear}
use Rattle.volume.specs.Levels.{good_ramp, good_volume}
use Rattle.recorder.specs.declared.State.{State}
use Rattle.recorder.specs.declared.State.TheVariants.{Triggered, Idle}
use Rattle.recorder.specs.Recording.{good_recorder}
use Rattle.binary32.specs.Leaves.{zero32, one32}
use Rattle.clip.specs.declared.Clip.{Clip}
use Rattle.clip.specs.Refusals.{most32, good_length, good_clip}
use Rattle.phrases.specs.declared.Phrase.{Phrase}
use Rattle.phrases.specs.Phrases.{no_phrase, is_over_by, apart_of, good_phrases}
use Rattle.phrases.proofs.Rooms.{ends_inside, inside_ends}
use Rattle.phrases.proofs.Apart.{apart_cases, apart_empty, apart_from_empty, apart_before, apart_behind, good_within, good_apart, good_made}
use Rattle.voice.specs.declared.Voice.{Voice}
use Rattle.voice.specs.Voices.{good_voice}
use Rattle.channel.specs.declared.Channel.{Channel}
use Rattle.channel.specs.Heads.{recording_in, phrase_by, good_head}
use Rattle.channel.specs.Tables.{good_table}
use Rattle.channel.specs.Channels.{live, phrases_in, phrase_at, channel_of, good_voices_of, good_channel}
use Rattle.channel.proofs.Tables.{all_good, table_good, phrase_all}
use Rattle.channel.proofs.Kept.{new_channel_sound}
use Rattle.sampler.specs.declared.Sampler.{Sampler}
use Rattle.sampler.specs.Refusals.{present, channel_at, good_sizes, good_sampler, good_with, capacity_of, set_up_judged, set_up_number}
use Rattle.sampler.proofs.Rows.{is_true}
use Rattle.promises.specs.Broken.{In, GoodClip, IsVoice, IsRamp, NoOverlap, GoodChannel, GoodSizes, GoodRecord, Tabled, RowNine}

-- ---- tests as facts
-- what `every` tests holds of the element at each place
every_place : {A : Type 0} (p : A → Bool) (l : List A) → list_all p l ≡ true → (n : ℕ) (x : A) → get_elem? l n ≡ some x → p x ≡ true
every_place p [] h n x e = let z : ◌≡◌ {A = ℕ} 0 1 = cc in absurd (omega arith)
every_place p (y ∷ l) h zero x e = let q : y ≡ x = cc in ap p (sym q) ∙ (both (p y) (list_all p l) h).0
every_place p (y ∷ l) h (suc n) x e = every_place p l (both (p y) (list_all p l) h).1 n x e

place_every : {A : Type 0} (p : A → Bool) (l : List A) → ((n : ℕ) (x : A) → get_elem? l n ≡ some x → p x ≡ true) → list_all p l ≡ true
place_every p [] h = refl
place_every p (y ∷ l) h = joined (p y) (list_all p l) (h 0 y refl) (place_every p l (λ n. h (suc n)))

-- of the first n, where past the end stands one that passes
front_each : {A : Type 0} (p : A → Bool) (d : A) → p d ≡ true → (l : List A) (n : ℕ) → list_all p (take n l) ≡ true → (j : ℕ) → j < n → p (get_or l j d) ≡ true
front_each p d g [] n h j k = g
front_each p d g (x ∷ l) zero h j k = absurd (omega arith)
front_each p d g (x ∷ l) (suc n) h zero k = (both (p x) (list_all p (take n l)) h).0
front_each p d g (x ∷ l) (suc n) h (suc j) k = front_each p d g l n (both (p x) (list_all p (take n l)) h).1 j (omega arith)

each_front : {A : Type 0} (p : A → Bool) (d : A) (l : List A) (n : ℕ) → ((j : ℕ) → j < n → p (get_or l j d) ≡ true) → list_all p (take n l) ≡ true
each_front p d l zero h = refl
each_front p d [] (suc n) h = refl
each_front p d (x ∷ l) (suc n) h = joined (p x) (list_all p (take n l)) (h 0 (omega arith)) (each_front p d l n (λ j k. h (suc j) (omega arith)))

-- what holds of the first n holds of each of them, where it holds past the end
pub front_holds : {A : Type 0} (P : A → Type 0) (d : A) → P d → (l : List A) (n : ℕ) → Each P (take n l) → (j : ℕ) → j < n → P (get_or l j d)
unfolding Each
front_holds P d g [] n h j k = g
front_holds P d g (x ∷ l) zero h j k = absurd (omega arith)
front_holds P d g (x ∷ l) (suc n) h zero k = h.0
front_holds P d g (x ∷ l) (suc n) h (suc j) k = front_holds P d g l n h.1 j (omega arith)

-- ---- clips
length_in : (x : Float) → good_length x ≡ true → In 1 (2 ^ 22) x
unfolding good_length of_int
length_in x h = both (le one32 x) (le x most32) h

in_length : (x : Float) → In 1 (2 ^ 22) x → good_length x ≡ true
unfolding good_length of_int
in_length x h = joined (le one32 x) (le x most32) h.0 h.1

pub clip_good : (c : Clip) → (good_clip c ≡ true) ↔ GoodClip c
unfolding good_clip of_int
clip_good c = (to, from)
  where
    a : Bool
    a = good_length c.length

    b : Bool
    b = good_length c.data_length

    d : Bool
    d = le zero32 c.start && le c.start most32

    to : ((a && b) && d) ≡ true → GoodClip c
    to h =
        let g = both (a && b) d h in
        let k = both a b g.0 in
        record { length = length_in c.length k.0; data_length = length_in c.data_length k.1; start = both (le zero32 c.start) (le c.start most32) g.1 }

    from : GoodClip c → ((a && b) && d) ≡ true
    from h =
        joined (a && b) d (joined a b (in_length c.length h.length) (in_length c.data_length h.data_length))
        (joined (le zero32 c.start) (le c.start most32) h.start.0 h.start.1)

-- ---- ramps
record Ramped (a b now : ℕ) : Type 0 where
  begun : a ≤ now
  lasts : a < b
  short : b ≤ a + 2 ^ 24

ramp_to : (a b now : ℕ) → good_ramp a b now ≡ true → Ramped a b now
unfolding good_ramp
ramp_to a b now h =
    let g = both (ltb a b && leb (b - a) (2 ^ 24)) (leb a now) h in
    let k = both (ltb a b) (leb (b - a) (2 ^ 24)) g.0 in
    let l : b - a ≤ 16777216 = leb-true (b - a) (2 ^ 24) k.1 in
    record { begun = leb-true a now g.1; lasts = ltb-true a b k.0; short = omega arith }

ramp_from : (a b now : ℕ) → Ramped a b now → good_ramp a b now ≡ true
unfolding good_ramp
ramp_from a b now h =
    let l : b ≤ a + 16777216 = h.short in
    joined (ltb a b && leb (b - a) (2 ^ 24)) (leb a now) (joined (ltb a b) (leb (b - a) (2 ^ 24)) (lt-ltb a b h.lasts) (le-leb (b - a) (2 ^ 24) (omega arith))) (le-leb a now h.begun)

abbrev Ramps : ℕ → Volume → Type 0
Ramps now v = (a b : ℕ) (x y : Float) → v ≡ Linear a b x y → Ramped a b now

volume_to : (now : ℕ) (v : Volume) → good_volume now v ≡ true → Ramps now v
unfolding good_volume
volume_to now v h a b x y e = ramp_to a b now (ap (good_volume now) (sym e) ∙ h)

volume_from : (now : ℕ) (v : Volume) → Ramps now v → good_volume now v ≡ true
unfolding good_volume
volume_from now (Static x) h = refl
volume_from now (Linear a b x y) h = ramp_from a b now (h a b x y refl)

-- ---- recorders
abbrev Writes : State → ℕ → Type 0
Writes s len = (write : ℕ) → s ≡ Triggered write → write ≤ len

writes_to : (s : State) (len : ℕ) → (elim s [ Triggered write ↦ leb write len | Idle ↦ true ]) ≡ true → Writes s len
writes_to (Triggered w) len h write e = let q : w ≡ write = cc in subst (λ (n : ℕ). n ≤ len) q (leb-true w len h)
writes_to Idle len h write e = let z : ◌≡◌ {A = ℕ} 0 1 = cc in absurd (omega arith)

writes_from : (s : State) (len : ℕ) → Writes s len → (elim s [ Triggered write ↦ leb write len | Idle ↦ true ]) ≡ true
writes_from (Triggered w) len h = le-leb w len (h w refl)
writes_from Idle len h = refl

-- ---- voices
record Judged (now : ℕ) (v : Voice) : Type 0 where
  phrase : v.phrase < 8
  since : v.clip2.since ≤ now
  finished_at : v.finished_at ≤ now
  ramps : Ramps now v.volume
  clip : GoodClip v.clip2

voice_to : (now : ℕ) (v : Voice) → good_voice now v ≡ true → Judged now v
unfolding good_voice
voice_to now v h =
    let s = leb v.clip2.since now in
    let f = leb v.finished_at now in
    let r = good_volume now v.volume in
    let n = both (ltb v.phrase 8) (((s && f) && r) && good_clip v.clip2) h in
    let g = both ((s && f) && r) (good_clip v.clip2) n.1 in
    let k = both (s && f) r g.0 in
    let l = both s f k.0 in
    record { phrase = ltb-true _ _ n.0; since = leb-true _ _ l.0; finished_at = leb-true _ _ l.1; ramps = volume_to now v.volume k.1; clip = (clip_good v.clip2).0 g.1 }

voice_from : (now : ℕ) (v : Voice) → Judged now v → good_voice now v ≡ true
unfolding good_voice
voice_from now v h =
    let s = leb v.clip2.since now in
    let f = leb v.finished_at now in
    let r = good_volume now v.volume in
    joined (ltb v.phrase 8) (((s && f) && r) && good_clip v.clip2) (lt-ltb _ _ h.phrase)
    (joined ((s && f) && r) (good_clip v.clip2) (joined (s && f) r (joined s f (le-leb _ _ h.since) (le-leb _ _ h.finished_at)) (volume_from now v.volume h.ramps))
    ((clip_good v.clip2).1 h.clip))

-- ---- phrases
overlap_none : (p q : Phrase) → apart_of p q ≡ true → NoOverlap p q
overlap_none p q h = apart_cases p q h (λ e. inl e) (λ e. inr (inl e)) (λ l. inr (inr (inl l))) (λ l. inr (inr (inr l)))

none_overlap : (p q : Phrase) → NoOverlap p q → apart_of p q ≡ true
none_overlap p q (inl e) = apart_empty p q e
none_overlap p q (inr (inl e)) = apart_from_empty p q e
none_overlap p q (inr (inr (inl l))) = apart_before p q l
none_overlap p q (inr (inr (inr l))) = apart_behind p q l

-- the recording is the phrase that is chosen
pub phrase_chosen : (c : Channel) → phrase_at c c.head.chosen ≡ recording_in c.head
unfolding phrase_by
phrase_chosen c = rw (eq-eqb c.head.chosen c.head.chosen refl)

-- ---- channels
module _ (capacity : ℕ) (c : Channel) (eight : length c.table ≡ 8) where
  abbrev now : ℕ
  now = c.head.now

  -- there is a chosen phrase, and it lies within the capacity
  abbrev lies : Bool
  lies = ltb c.head.chosen 8 && is_over_by capacity (recording_in c.head)

  abbrev tabled : Bool
  tabled = good_table capacity c.head c.several c.table

  -- the phrase of a number, among all of them
  of_all : (k : ℕ) → k < 8 → phrase_at c k ≡ get_or (phrases_in c) k no_phrase
  of_all k l = phrase_all c.head c.several c.table eight k l

  channel_to : good_channel capacity c ≡ true → GoodChannel capacity c
  unfolding good_channel good_head good_recorder good_voices_of
  channel_to h = record {
    voices = leb-true _ _ first.0;
    data_length = leb-true _ _ recorder.1;
    chosen = ltb-true _ _ placed.0;
    within = λ k l. rw (of_all k l) (ends_inside (get_or (phrases_in c) k no_phrase) capacity (good_within capacity (phrases_in c) all k l));
    apart = λ j k l m d. rw (of_all j l, of_all k m) (overlap_none _ _ (good_apart capacity (phrases_in c) all j k l m d));
    phrase = λ v i. (voice v i).phrase;
    write_place = writes_to c.head.recorder.state c.head.data_len recorder.0;
    clock = leb-true _ _ timed.0;
    since = λ v i. (voice v i).since;
    finished_at = λ v i. (voice v i).finished_at;
    ramp_start = λ a b r. (ramp a b r).begun;
    ramp_not_empty = λ a b r. (ramp a b r).lasts;
    ramp_length = λ a b r. (ramp a b r).short;
    clip = λ v i. (voice v i).clip;
  }
    where
      whole : ((leb c.count 32 && good_head capacity c.head) ≡ true) × ((tabled && good_voices_of c) ≡ true)
      whole = both (leb c.count 32 && good_head capacity c.head) (tabled && good_voices_of c) h

      second : (tabled ≡ true) × (good_voices_of c ≡ true)
      second = both tabled (good_voices_of c) whole.1

      first : (leb c.count 32 ≡ true) × (good_head capacity c.head ≡ true)
      first = both (leb c.count 32) (good_head capacity c.head) whole.0

      head : (((leb now (2 ^ 48) && lies) && good_volume now c.head.passthru_volume) ≡ true) × (good_recorder c.head.recorder c.head.data_len capacity ≡ true)
      head = both ((leb now (2 ^ 48) && lies) && good_volume now c.head.passthru_volume) (good_recorder c.head.recorder c.head.data_len capacity) first.1

      levels : ((leb now (2 ^ 48) && lies) ≡ true) × (good_volume now c.head.passthru_volume ≡ true)
      levels = both (leb now (2 ^ 48) && lies) (good_volume now c.head.passthru_volume) head.0

      timed : (leb now (2 ^ 48) ≡ true) × (lies ≡ true)
      timed = both (leb now (2 ^ 48)) lies levels.0

      placed : (ltb c.head.chosen 8 ≡ true) × (is_over_by capacity (recording_in c.head) ≡ true)
      placed = both (ltb c.head.chosen 8) (is_over_by capacity (recording_in c.head)) timed.1

      all : good_phrases capacity (phrases_in c) ≡ true
      all = all_good c.head c.several c.table capacity placed.1 second.0

      recorder : ((elim c.head.recorder.state [ Triggered write ↦ leb write c.head.data_len | Idle ↦ true ]) ≡ true) × (leb c.head.data_len capacity ≡ true)
      recorder = both _ (leb c.head.data_len capacity) head.1

      voice : (v : Voice) → IsVoice c v → Judged now v
      voice v (n, e) = voice_to now v (every_place (good_voice now) (live c) second.1 n v e)

      ramp : (a b : ℕ) → IsRamp c a b → Ramped a b now
      ramp a b (x, y, inl e) = volume_to now c.head.passthru_volume levels.1 a b x y e
      ramp a b (x, y, inr (v, i, e)) = (voice v i).ramps a b x y e

  channel_from : GoodChannel capacity c → good_channel capacity c ≡ true
  unfolding good_channel good_head good_recorder good_voices_of
  channel_from h =
      joined (leb c.count 32 && good_head capacity c.head) (tabled && good_voices_of c)
      (joined (leb c.count 32) (good_head capacity c.head) (le-leb _ _ h.voices)
      (joined ((leb now (2 ^ 48) && lies) && good_volume now c.head.passthru_volume) (good_recorder c.head.recorder c.head.data_len capacity)
      (joined (leb now (2 ^ 48) && lies) (good_volume now c.head.passthru_volume)
      (joined (leb now (2 ^ 48)) lies (le-leb now (2 ^ 48) h.clock)
      (joined (ltb c.head.chosen 8) (is_over_by capacity (recording_in c.head)) (lt-ltb _ _ h.chosen)
      (subst (λ (p : Phrase). is_over_by capacity p ≡ true) (phrase_chosen c) (inside_ends (phrase_at c c.head.chosen) capacity (h.within c.head.chosen h.chosen)))))
      (volume_from now c.head.passthru_volume (λ a b x y e. ramp a b (x, y, inl e))))
      (joined _ (leb c.head.data_len capacity) (writes_from c.head.recorder.state c.head.data_len h.write_place) (le-leb _ _ h.data_length))))
      (joined tabled (good_voices_of c) (table_good c.head c.several c.table capacity all) (place_every (good_voice now) (live c) (λ n v e. voice_from now v (judged v (n, e)))))
    where
      all : good_phrases capacity (phrases_in c) ≡ true
      all =
          good_made capacity (phrases_in c)
          (λ k l. subst (λ (p : Phrase). is_over_by capacity p ≡ true) (of_all k l) (inside_ends (phrase_at c k) capacity (h.within k l)))
          (λ j k m l. let i : j < 8 = omega arith in
          let d : k ≢ j = λ e. omega arith in
          rw (sym (of_all k l), sym (of_all j i)) (none_overlap _ _ (h.apart k j l i d)))

      ramp : (a b : ℕ) → IsRamp c a b → Ramped a b now
      ramp a b r = record { begun = h.ramp_start a b r; lasts = h.ramp_not_empty a b r; short = h.ramp_length a b r }

      judged : (v : Voice) → IsVoice c v → Judged now v
      judged v i = record { phrase = h.phrase v i; since = h.since v i; finished_at = h.finished_at v i; ramps = λ a b x y e. ramp a b (x, y, inr (v, i, e)); clip = h.clip v i }

-- ---- sizes
one_or_two : (n : ℕ) → (eqb n 1 || eqb n 2) ≡ true → (n ≡ 1) ⊎ (n ≡ 2)
one_or_two n h = go (eqb n 1) refl
  where
    go : (b : Bool) → eqb n 1 ≡ b → (n ≡ 1) ⊎ (n ≡ 2)
    go true e = inl (eqb-true n 1 e)
    go false e = inr (eqb-true n 2 (rw e at h))

two_or_one : (n : ℕ) → (n ≡ 1) ⊎ (n ≡ 2) → (eqb n 1 || eqb n 2) ≡ true
two_or_one n (inl e) = rw e
two_or_one n (inr e) = rw e

sizes_to : (count capacity : ℕ) → good_sizes count capacity ≡ true → GoodSizes count capacity
unfolding good_sizes
sizes_to count capacity h =
    let g = both ((eqb count 1 || eqb count 2) && leb 1 capacity) (leb capacity (2 ^ 22)) h in
    let k = both (eqb count 1 || eqb count 2) (leb 1 capacity) g.0 in
    record { channels = one_or_two count k.0; least = leb-true 1 capacity k.1; most = leb-true capacity (2 ^ 22) g.1 }

sizes_from : (count capacity : ℕ) → GoodSizes count capacity → good_sizes count capacity ≡ true
unfolding good_sizes
sizes_from count capacity h =
    joined ((eqb count 1 || eqb count 2) && leb 1 capacity) (leb capacity (2 ^ 22))
    (joined (eqb count 1 || eqb count 2) (leb 1 capacity) (two_or_one count h.channels) (le-leb 1 capacity h.least))
    (le-leb capacity (2 ^ 22) h.most)

-- ---- records

-- past the last channel stands one that is good, with a table of eight
abbrev blank : Channel
blank = channel_of (record { auto_passthru = false })

tables : (s : Sampler) → Tabled s → (j : ℕ) → j < s.count → length (channel_at s j).table ≡ 8
tables s t j k = front_holds (λ (c : Channel). length c.table ≡ 8) blank (new_channel_sound 0 (record { auto_passthru = false })).fitting.entries s.channels s.count t j k

pub record_to : (s : Sampler) → Tabled s → good_sampler s ≡ true → GoodRecord s
unfolding good_sampler
record_to s t h =
    let g = both (good_sizes s.count s.capacity) (list_all (good_channel s.capacity) (present s)) h in
    record {
      sizes = sizes_to s.count s.capacity g.0;
      channels = λ j k. channel_to s.capacity (channel_at s j) (tables s t j k)
          (front_each (good_channel s.capacity) blank (new_channel_sound s.capacity (record { auto_passthru = false })).good s.channels s.count g.1 j k);
    }

record_from : (s : Sampler) → Tabled s → GoodRecord s → good_sampler s ≡ true
unfolding good_sampler
record_from s t h =
    joined (good_sizes s.count s.capacity) (list_all (good_channel s.capacity) (present s)) (sizes_from s.count s.capacity h.sizes)
    (each_front (good_channel s.capacity) _ s.channels s.count (λ j k. channel_from s.capacity (channel_at s j) (tables s t j k) (h.channels j k)))

memory : (s : Sampler) (size : ℕ) → Tabled s → (good_with s size ≡ true) ↔ (GoodRecord s × (s.count * s.capacity ≤ size))
unfolding good_with
memory s size t = (to, from)
  where
    to : good_with s size ≡ true → GoodRecord s × (s.count * s.capacity ≤ size)
    to h =
        let g = both (good_sampler s) (leb (s.count * s.capacity) size) h in
        (record_to s t g.0, leb-true _ _ g.1)

    from : GoodRecord s × (s.count * s.capacity ≤ size) → good_with s size ≡ true
    from (g, k) = joined (good_sampler s) (leb (s.count * s.capacity) size) (record_from s t g) (le-leb _ _ k)

-- ---- set_up
capacity : (count size n : ℕ) → 0 < count → (n ≤ capacity_of count size) ↔ ((n * count ≤ size) × (n ≤ 2 ^ 22))
unfolding capacity_of
capacity count size n h = (to, from)
  where
    to : n ≤ min (size / count) (2 ^ 22) → (n * count ≤ size) × (n ≤ 2 ^ 22)
    to k = let q : n ≤ size / count = omega arith in ((le-div_iff_mul-le h).0 q, omega arith)

    from : (n * count ≤ size) × (n ≤ 2 ^ 22) → n ≤ min (size / count) (2 ^ 22)
    from (k, l) = let q : n ≤ size / count = (le-div_iff_mul-le h).1 k in omega arith

at_most : (count size : ℕ) → capacity_of count size ≤ 2 ^ 22
unfolding capacity_of
at_most count size = omega arith

set_up : (count size : ℕ) → (set_up_number count size ≡ 0) ↔ (((count ≡ 1) ⊎ (count ≡ 2)) × (capacity_of count size ≢ 0))
unfolding set_up_judged
set_up count size = (to, from)
  where
    good : Bool
    good = good_sizes count (capacity_of count size)

    to : code_of (row (not good) Broken (Ok (tt {0}))) ≡ 0 → ((count ≡ 1) ⊎ (count ≡ 2)) × (capacity_of count size ≢ 0)
    to h =
        let g = sizes_to count (capacity_of count size) (is_true good (passed (not good) Broken (Ok tt) h).0) in
        (g.channels, λ e. let l = g.least in omega arith)

    from : ((count ≡ 1) ⊎ (count ≡ 2)) × (capacity_of count size ≢ 0) → code_of (row (not good) Broken (Ok (tt {0}))) ≡ 0
    from (k, l) = rw (sizes_from count (capacity_of count size) (record { channels = k; least = omega arith; most = at_most count size }))

positive : (n : ℕ) → (n ≡ 1) ⊎ (n ≡ 2) → 0 < n
positive n (inl e) = omega arith
positive n (inr e) = omega arith

-- memory of as many samples as all channels hold
given : (count n : ℕ) → GoodSizes count n ↔ ((size : ℕ) × (set_up_number count size ≡ 0) × (capacity_of count size ≡ n))
given count n = (to, from)
  where
    to : GoodSizes count n → (size : ℕ) × (set_up_number count size ≡ 0) × (capacity_of count size ≡ n)
    to h =
        let p = positive count h.channels in
        let low : n ≤ capacity_of count (n * count) = (capacity count (n * count) n p).1 (omega arith, h.most) in
        let k = ((capacity count (n * count) (capacity_of count (n * count)) p).0 (omega arith)).0 in
        let high : capacity_of count (n * count) ≤ n = le_of_mul-le-mul_right k p in
        let e : capacity_of count (n * count) ≡ n = omega arith in
        (n * count, (set_up count (n * count)).1 (h.channels, λ z. let l = h.least in omega arith), e)

    from : (size : ℕ) × (set_up_number count size ≡ 0) × (capacity_of count size ≡ n) → GoodSizes count n
    from (size, h, e) =
        let g = (set_up count size).0 h in
        let m = at_most count size in
        let z = g.1 in
        record { channels = g.0; least = omega arith; most = omega arith }

pub row_nine : RowNine
row_nine = record { broken = λ s t. (record_to s t, record_from s t); memory = memory; set_up = set_up; capacity = capacity; given = given }
