-- A steady voice glides turn by turn, and n turns come to what one look ahead tells: n turns in one. Assumes nothing.
--     played_first           the first of the sums of what is played
--     glides_on              each turn glides
--     turns, poured          the voice and the sums after them
--     unjudged               the position of a voice that isn't plain
use mathlib.Core.Path.{◌≡◌, refl, sym, ap, ap₂, ◌∙◌, subst}
use Prim.Native.Nat.{ℕ, zero, suc, ◌+◌, ◌≤◌, ◌<◌, zero-le}
use native.Mathlib.Nat.{add-zero}
use native.Mathlib.Omega.{arith}
use mathlib.Core.Bool.{Bool, true, false, ◌&&◌, not, cond, true≢false}
use mathlib.Core.List.{List, [], ◌∷◌}
use lib.Ieee.{Float, nan, binary32, add, le}
use lib.ListN as ListN
use lib.Seq.{ext_get_or}
use Rattle.binary32.specs.Leaves.{abs_of}
use Rattle.common_types.specs.declared.NoteOffBehaviour.{NoteOffBehaviour}
use Rattle.common_types.specs.declared.NoteOffBehaviour.TheVariants.{Decay, ZeroCrossing, DecayAndZeroCrossing}
use Rattle.volume.specs.Levels.{is_static_and_mute_of, level_of, keeps_of}
use Rattle.clip.specs.Positions.{elapsed_at, index_at}
use Rattle.voice.specs.declared.Voice.{Voice}
use Rattle.voice.specs.declared.Tick.{Tick}
use Rattle.voice.specs.Voices.{recorded_value_of, sounded_at, played_out_of, late_of, over_of, should_remove_of, turn_of}
use Rattle.voice.specs.Gliding.{glides_of, goes_on_of, quick_at}
use Rattle.voice.proofs.Values.{value_off}
use Rattle.voice.proofs.Gliding.{quickly_at}
use Rattle.plain_voice.specs.declared.Hot.{Hot}
use Rattle.plain_voice.specs.Hots.{cold, plays_plain, hot_after, judged_of}
use Rattle.pours.specs.Eases.{term_at, last_heard, Added}
use Rattle.pours.specs.Pours.{later, turns_of, GlidesOn, poured_on, judged_on}
use Rattle.pours.specs.Steady.{pace_of, may_go, Steady, played_on, Lasts, sound_at}

-- ---- what is played
pub played_first : (by played : Float) (k : ℕ) → played_on by (add binary32 played by) k ≡ played_on by played (suc k)
unfolding played_on
played_first by played zero = refl
played_first by played (suc k) = ap (λ (x : Float). add binary32 x by) (played_first by played k)

-- a voice that wouldn't go if it were late doesn't go
not_late : (b : NoteOffBehaviour) (finished mute late : Bool) → (finished && over_of b mute true) ≡ false → (finished && over_of b mute late) ≡ false
unfolding over_of
not_late b false mute late h = refl
not_late Decay true mute late h = h
not_late ZeroCrossing true mute late h = absurd (true≢false h)
not_late DecayAndZeroCrossing true true late h = absurd (true≢false h)
not_late DecayAndZeroCrossing true false late h = absurd (true≢false h)

-- ---- one turn
module _ (m : List ℕ) where
  module _ {t : Tick} {n : ℕ} {v : Voice} (s : Steady t (suc n) v) (l : Lasts t (suc n) v) where
    index : ℕ
    index = index_at v.clip2 t.now

    w : Voice
    w = sounded_at t v v.clip2 index (term_at m (level_of v.volume t.now) index)

    keeps_now : keeps_of v.volume t.now ≡ true
    keeps_now = subst (λ (k : ℕ). keeps_of v.volume k ≡ true) (add-zero t.now) (s.keeps 0 (omega arith))

    not_out : played_out_of t w ≡ false
    unfolding played_out_of w played_on
    not_out = l 0 (omega arith)

    stays : (x : Voice) → may_go t.note_off_behavior x ≡ false → should_remove_of t x ≡ false
    unfolding should_remove_of
    stays x = not_late t.note_off_behavior x.finished (is_static_and_mute_of x.volume) (late_of t x)

    goes_on : (quick_at t v index (term_at m (level_of v.volume t.now) index)).glides ≡ true
    unfolding quick_at goes_on_of w
    goes_on = rw (not_out, stays v s.stays, stays w s.stays)

    turned : (v.phrase ≡ t.phrase) × (glides_of t m v ≡ true) × ((quick_at t v index (term_at m (level_of v.volume t.now) index)).voice ≡ turn_of t m v)
    unfolding index
    turned =
        quickly_at t m v index (recorded_value_of m index) s.same refl (sym (value_off t m v.clip2 s.sharp))
        (quick_at t v index (term_at m (level_of v.volume t.now) index)) (keeps_of v.volume t.now) refl refl s.own keeps_now goes_on

    pub glides : glides_of t m v ≡ true
    glides = turned.1

    -- the voice after it
    after : Voice
    after = last_heard v (index_at v.clip2 t.now) (sound_at m v.clip2 v.volume t.now) v.last_sample_value (played_on (pace_of t v) v.played 1)

    turn : turn_of t m v ≡ after
    unfolding quick_at last_heard index after played_on
    turn = sym turned.2

    pub clip_stays : (turn_of t m v).clip2 ≡ v.clip2
    unfolding after last_heard
    clip_stays = ap (λ (x : Voice). x.clip2) turn

    after_steady : Steady (later 1 t) n after
    unfolding after last_heard
    after_steady = record {
      own = s.own;
      stays = s.stays;
      sharp = s.sharp;
      same = s.same;
      keeps = λ k h. subst (λ (x : ℕ). keeps_of v.volume x ≡ true) (omega arith) (s.keeps (suc k) (omega (arith, h)));
    }

    after_lasts : Lasts (later 1 t) n after
    unfolding after last_heard played_on
    after_lasts k h = ap (λ (x : Float). t.once && not v.finished && le t.span.whole_length (abs_of x)) (played_first (pace_of t v) v.played (suc k)) ∙ l (suc k) (omega (arith, h))

    pub next_steady : Steady (later 1 t) n (turn_of t m v)
    next_steady = subst (Steady (later 1 t) n) (sym turn) after_steady

    pub next_lasts : Lasts (later 1 t) n (turn_of t m v)
    next_lasts = subst (Lasts (later 1 t) n) (sym turn) after_lasts

    heard_is : (turn_of t m v).last_sample_value ≡ sound_at m v.clip2 v.volume t.now
    unfolding after last_heard
    heard_is = ap (λ (x : Voice). x.last_sample_value) turn

  -- ---- n turns in one
  pub glides_on : (n : ℕ) {t : Tick} {v : Voice} → Steady t n v → Lasts t n v → GlidesOn t m n v
  unfolding GlidesOn
  glides_on zero s l = tt
  glides_on (suc n) s l = (glides s l, glides_on n (next_steady s l) (next_lasts s l))

  -- the value before the last of n + 1
  unfoldable pub last_heard_on : Tick → Voice → ℕ → Float
  last_heard_on t v zero = v.last_sample_value
  last_heard_on t v (suc n) = sound_at m v.clip2 v.volume (t.now + n)

  -- the voice after n + 1
  abbrev pub on_of : Tick → ℕ → Voice → Voice
  on_of t n v = last_heard v (index_at v.clip2 (t.now + n)) (sound_at m v.clip2 v.volume (t.now + n)) (last_heard_on t v n) (played_on (pace_of t v) v.played (suc n))

  pub turns : (n : ℕ) {t : Tick} {v : Voice} → Steady t (suc n) v → Lasts t (suc n) v → turns_of t m (suc n) v ≡ on_of t n v
  unfolding turns_of last_heard_on last_heard after played_on
  turns zero {t} {v} s l =
      turn s l ∙ ap (λ (x : ℕ). last_heard v (index_at v.clip2 x) (sound_at m v.clip2 v.volume x) v.last_sample_value (played_on (pace_of t v) v.played 1)) (sym (add-zero t.now))
  turns (suc n) {t} {v} s l =
      turns n (next_steady s l) (next_lasts s l)
      ∙ ap (on_of (later 1 t) n) (turn s l)
      ∙ ap₂ (λ (x : ℕ) (p : Float). last_heard v (index_at v.clip2 x) (sound_at m v.clip2 v.volume x) (last_heard_on (later 1 t) (after s l) n) p) (omega arith) (played_on_lem n)
      ∙ ap (λ (x : Float). last_heard v (index_at v.clip2 (t.now + suc n)) (sound_at m v.clip2 v.volume (t.now + suc n)) x (played_on (pace_of t v) v.played (suc (suc n)))) (before n)
    where
      played_on_lem : (n : ℕ) → played_on (pace_of t v) (played_on (pace_of t v) v.played 1) (suc n) ≡ played_on (pace_of t v) v.played (suc (suc n))
      played_on_lem n = played_first (pace_of t v) v.played (suc n)

      before : (n : ℕ) → last_heard_on (later 1 t) (after s l) n ≡ sound_at m v.clip2 v.volume (t.now + n)
      before zero = ap (sound_at m v.clip2 v.volume) (sym (add-zero t.now))
      before (suc n) = ap (sound_at m v.clip2 v.volume) (omega arith)

  pub poured : (n : ℕ) {t : Tick} {v : Voice} → Steady t n v → Lasts t n v → (term : ℕ → Float) → ((k : ℕ) → k < n → term k ≡ sound_at m v.clip2 v.volume (t.now + k))
      → (before after : List Float) → n ≤ ListN.length before → Added term 0 n before after → after ≡ poured_on t m n v before
  unfolding poured_on after last_heard
  poured zero s l term is before after room a = ext_get_or nan after before a.size (λ k h. a.high k zero-le)
  poured (suc n) s l term is [] after room a = absurd (omega (arith, room))
  poured (suc n) s l term is (x ∷ xs) [] room a = absurd (omega (arith, a.size))
  poured (suc n) {t} {v} s l term is (x ∷ xs) (y ∷ ys) room a =
      ap₂ (λ (z : Float) (zs : List Float). z ∷ zs)
      (a.inside 0 zero-le (omega arith) ∙ ap (add binary32 x) (is 0 (omega arith) ∙ ap (sound_at m v.clip2 v.volume) (add-zero t.now) ∙ sym (heard_is s l)))
      (poured n (next_steady s l) (next_lasts s l) (λ (k : ℕ). term (suc k)) (λ k h. is (suc k) (omega (arith, h)) ∙ sounds k) xs ys (omega (arith, room))
      (record {
        size = omega (arith, a.size);
        inside = λ k low high. a.inside (suc k) zero-le (omega (arith, high));
        low = λ k h. absurd (omega (arith, h));
        high = λ k h. a.high (suc k) (omega (arith, h));
      }))
    where
      sounds : (k : ℕ) → sound_at m v.clip2 v.volume (t.now + suc k) ≡ sound_at m (turn_of t m v).clip2 (turn_of t m v).volume (t.now + 1 + k)
      sounds k = ap (sound_at m v.clip2 v.volume) (omega arith) ∙ sym (ap (λ (x : Voice). sound_at m x.clip2 x.volume (t.now + 1 + k)) (turn s l))

-- ---- the position of a voice that isn't plain stays
pub unjudged : (m : List ℕ) (n : ℕ) (t : Tick) (v : Voice) (h : Hot) → h.plain ≡ false → judged_on t m n v h ≡ h
unfolding judged_on judged_of
unjudged m zero t v h e = refl
unjudged m (suc n) t v h e =
    let w : Voice = turn_of t m v in
    ap (λ (b : Bool). judged_on (later 1 t) m n w (cond b (cond (plays_plain t.interpolates w.clip2 t.now) (hot_after w.clip2 (elapsed_at w.clip2 t.now + 1)) cold) h)) e
    ∙ unjudged m n (later 1 t) w h e
