-- Voice after voice is poured: with one more ahead, the channel, the positions beside it and the sums are what they are once it is. Assumes nothing.
use mathlib.Core.Path.{◌≡◌, refl, sym, ap, ◌∙◌, subst}
use Prim.Native.Nat.{ℕ, zero, suc, ◌+◌, ◌≤◌, ◌<◌, min}
use native.Mathlib.Numerals.{add-one}
use native.Mathlib.Omega.{arith}
use mathlib.Core.Bool.{Bool, true, false}
use mathlib.Core.List.{List, [], ◌∷◌}
use lib.Dec.{ltb}
use lib.ListN.{length, take, get_or, set}
use lib.Ieee.{Float, binary32, add}
use borrow.Author.Tests.{ltb-true, ltb-false}
use Rattle.binary32.specs.Leaves.{zero32}
use Rattle.common_types.specs.declared.Params.{Params}
use Rattle.recorder.specs.Recording.{is_recording_of}
use Rattle.voice.specs.declared.Voice.{Voice}
use Rattle.voice.specs.declared.Tick.{Tick}
use Rattle.voice.specs.Voices.{turn_of, blank_voice}
use Rattle.plain_voice.specs.declared.Hot.{Hot}
use Rattle.plain_voice.specs.Hots.{cold}
use Rattle.pours.specs.Pours.{later, turns_of, poured_on, judged_on}
use Rattle.channel.specs.declared.Channel.{Channel}
use Rattle.channel.specs.Heads.{last_time}
use Rattle.channel.specs.Channels.{with_voices, phrase_at}
use Rattle.plain_channel.specs.Ahead.{tick_in, recording_held, on_by, hot_on_by, ahead_of, hots_on, hots_ahead, sum_at, Easy, Eased, Ahead}
use Rattle.plain_channel.proofs.Firsts.{firsts_else, firsts_next, fold_next}

-- ---- what a poured voice adds to the sums
pub poured_length : (t : Tick) (m : List ℕ) (n : ℕ) (v : Voice) (sums : List Float) → length (poured_on t m n v sums) ≡ length sums
unfolding poured_on
poured_length t m zero v sums = refl
poured_length t m (suc n) v [] = refl
poured_length t m (suc n) v (x ∷ sums) = ap suc (poured_length (later 1 t) m n (turn_of t m v) sums)

poured_at : (t : Tick) (m : List ℕ) (n : ℕ) (v : Voice) (sums : List Float) → n ≤ length sums → (k : ℕ) → k < n → get_or (poured_on t m n v sums) k zero32 ≡ add binary32 (get_or sums k zero32) (turns_of t m (suc k) v).last_sample_value
unfolding poured_on turns_of
poured_at t m zero v sums room k low = absurd (omega (arith, low))
poured_at t m (suc n) v [] room k low = absurd (omega (arith, room))
poured_at t m (suc n) v (x ∷ sums) room zero low = refl
poured_at t m (suc n) v (x ∷ sums) room (suc k) low = poured_at (later 1 t) m n (turn_of t m v) sums (omega (arith, room)) k (omega (arith, low))

module _ (p : Params) (m : List ℕ) (n : ℕ) (d : Channel) where
  -- ---- the positions
  hots_next : (vs : List Voice) (hs : List Hot) (i : ℕ) → i < length vs → set (hots_on p m d n (take i vs) hs) i (hot_on_by p m d n (get_or vs i blank_voice) (get_or hs i cold)) ≡ hots_on p m d n (take (suc i) vs) hs
  unfolding hots_on
  hots_next [] hs i low = absurd (omega (arith, low))
  hots_next (v ∷ vs) [] zero low = refl
  hots_next (v ∷ vs) [] (suc i) low = refl
  hots_next (v ∷ vs) (h ∷ hs) zero low = refl
  hots_next (v ∷ vs) (h ∷ hs) (suc i) low = ap (λ (r : List Hot). hot_on_by p m d n v h ∷ r) (hots_next vs hs i (omega (arith, low)))

  hots_else : (vs : List Voice) (hs : List Hot) (i j : ℕ) → i ≤ j → get_or (hots_on p m d n (take i vs) hs) j cold ≡ get_or hs j cold
  unfolding hots_on
  hots_else vs hs zero j far = refl
  hots_else [] hs (suc i) j far = refl
  hots_else (v ∷ vs) [] (suc i) j far = refl
  hots_else (v ∷ vs) (h ∷ hs) (suc i) zero far = absurd (omega (arith, far))
  hots_else (v ∷ vs) (h ∷ hs) (suc i) (suc j) far = hots_else vs hs i j (omega (arith, far))

  -- ---- the voices from the i-th on are as they were, and so is what each goes by
  module _ (i : ℕ) where
    pub voice_waits : i ≤ length d.voices → (j : ℕ) → i ≤ j → get_or (ahead_of p m i n d).voices j blank_voice ≡ get_or d.voices j blank_voice
    unfolding ahead_of
    voice_waits within j far = firsts_else (on_by p m d n) d.voices i within blank_voice j far

    pub hot_waits : (hs : List Hot) (j : ℕ) → i ≤ j → get_or (hots_ahead p m i n d hs) j cold ≡ get_or hs j cold
    hot_waits hs = hots_else d.voices hs i

    pub same_phrase : (k : ℕ) → phrase_at (ahead_of p m i n d) k ≡ phrase_at d k
    unfolding ahead_of
    same_phrase k = refl

    pub same_tick : (v : Voice) → tick_in p (ahead_of p m i n d) v ≡ tick_in p d v
    unfolding ahead_of
    same_tick v = refl

    pub same_held : (v : Voice) → recording_held m (ahead_of p m i n d) v ≡ recording_held m d v
    unfolding ahead_of
    same_held v = refl

  -- ---- the i-th is poured
  module _ (voices : length d.voices ≡ 32) (i : ℕ) (below : i < min d.count 32) where
    abbrev v : Voice
    v = get_or d.voices i blank_voice

    there : i < length d.voices
    there = omega (arith, below, voices)

    pub pour_channel : {c : Channel} → c ≡ ahead_of p m i n d → with_voices (set c.voices i (on_by p m d n v)) c.count c ≡ ahead_of p m (i + 1) n d
    unfolding ahead_of
    pour_channel is =
        ap (λ (x : Channel). with_voices (set x.voices i (on_by p m d n v)) x.count x) is
        ∙ ap (λ (vs : List Voice). with_voices vs d.count d) (firsts_next (on_by p m d n) d.voices i blank_voice there)
        ∙ ap (λ (j : ℕ). ahead_of p m j n d) (sym (add-one i))

    pub pour_hots : (hs : List Hot) {ks : List Hot} → ks ≡ hots_ahead p m i n d hs → set ks i (hot_on_by p m d n v (get_or hs i cold)) ≡ hots_ahead p m (i + 1) n d hs
    pour_hots hs is = ap (λ (l : List Hot). set l i (hot_on_by p m d n v (get_or hs i cold))) is ∙ hots_next d.voices hs i there ∙ ap (λ (j : ℕ). hots_ahead p m j n d hs) (sym (add-one i))

    sum_next : (k : ℕ) → sum_at p m (i + 1) d k ≡ add binary32 (sum_at p m i d k) (on_by p m d (suc k) v).last_sample_value
    unfolding sum_at
    sum_next k =
        ap (λ (j : ℕ). sum_at p m j d k) (add-one i)
        ∙ fold_next (λ (out : Float) (w : Voice). add binary32 out (on_by p m d (k + 1) w).last_sample_value) zero32 d.voices i blank_voice there
        ∙ ap (λ (j : ℕ). add binary32 (sum_at p m i d k) (on_by p m d j v).last_sample_value) (add-one k)

    pub pour_sums : (sums : List Float) {after : List Float} → n ≤ length sums → after ≡ poured_on (tick_in p d v) (recording_held m d v) n v sums → ((k : ℕ) → k < n → get_or sums k zero32 ≡ sum_at p m i d k)
        → (k : ℕ) → k < n → get_or after k zero32 ≡ sum_at p m (i + 1) d k
    pour_sums sums room is adds k low =
        ap (λ (l : List Float). get_or l k zero32) is ∙ poured_at (tick_in p d v) (recording_held m d v) n v sums room k low
        ∙ ap (λ (x : Float). add binary32 x (on_by p m d (suc k) v).last_sample_value) (adds k low) ∙ sym (sum_next k)

    pub pour_eased : is_recording_of d.head.recorder ≡ false → d.head.now + n ≤ last_time → Eased p m i n d → Easy p m n d v → Eased p m (i + 1) n d
    pour_eased still clock eased easy = record { still = λ some. still; clock = λ some. clock; inside = omega (arith, below); each = λ j low. go j low (ltb j i) refl }
      where
        go : (j : ℕ) → j < i + 1 → (b : Bool) → ltb j i ≡ b → Easy p m n d (get_or d.voices j blank_voice)
        go j low true e = eased.each j (ltb-true j i e)
        go j low false e =
            let at : i ≡ j = let far = ltb-false j i e in omega (arith, low, far) in
            subst (λ (k : ℕ). Easy p m n d (get_or d.voices k blank_voice)) at easy

    -- all at once
    pub pour_next : {sums after : List Float} {hs ks : List Hot} {c : Channel} → Ahead p m i n sums d hs c ks → is_recording_of d.head.recorder ≡ false → d.head.now + n ≤ last_time → Easy p m n d v
        → n ≤ length sums → after ≡ poured_on (tick_in p d v) (recording_held m d v) n v sums
        → Ahead p m (i + 1) n after d hs (with_voices (set c.voices i (turns_of (tick_in p d v) (recording_held m d v) n v)) c.count c) (set ks i (judged_on (tick_in p d v) (recording_held m d v) n v (get_or ks i cold)))
    pour_next {sums = sums} {hs = hs} {ks = ks} ahead still clock easy room is = record {
      eased = pour_eased still clock ahead.eased easy;
      channel = pour_channel ahead.channel;
      hots = ap (λ (h : Hot). set ks i (hot_on_by p m d n v h)) (ap (λ (l : List Hot). get_or l i cold) ahead.hots ∙ hot_waits i hs i (omega arith)) ∙ pour_hots hs ahead.hots;
      adds = pour_sums sums room is ahead.adds;
    }
