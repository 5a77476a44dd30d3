-- A plain voice that eases is steady, and what it sounds stands by whole numbers. Assumes nothing.
--     sum_is                       a sum of whole numbers is one float, whatever the signs of zeros
--     eases_steady, eases_lasts    it is steady
--     played_on_lem, sounds_on         how far it has played, and what it sounds
--     judged                       the position after n turns
--     place_on, moved_to           the same by a place and laps
use mathlib.Core.Path.{◌≡◌, refl, sym, ap, ap₂, ◌∙◌}
use Prim.Native.Nat.{ℕ, zero, suc, ◌+◌, ◌*◌, ◌/◌, ◌%◌, ◌^◌, ◌≤◌, ◌<◌}
use native.Mathlib.Nat.{le_trans, mul-pos, mul-add-mod_self_right, mul-add-div_right}
use native.Mathlib.Omega.{arith}
use mathlib.Core.Bool.{Bool, true, false, not, ◌&&◌, cond, true≢false}
use mathlib.Core.List.{List}
use lib.Dec.{T, lit≤}
use lib.IntN.{pos}
use lib.Ieee.{Float, nan, inf, fin, binary32, add, eq, lt, le}
use lib.Ieee.Fits.{and_l, and_r, add-fits, of_int-fits}
use lib.Pow.{pow_pos}
use Rattle.binary32.specs.Leaves.{as_float, as_whole, abs_of, sign_of}
use Rattle.binary32.specs.Wholes.{Is}
use Rattle.binary32.proofs.Truth.{yes}
use Rattle.binary32.proofs.Between.{le_le_trans, lt_le_clash}
use Rattle.binary32.proofs.Units.{units_unique_above}
use Rattle.binary32.proofs.Wholes.{is_units, float_is_units, float_is, float_sign, add_is, le_is, equal_is}
use Rattle.volume.specs.declared.Volume.{Volume}
use Rattle.volume.specs.declared.Volume.TheVariants.{Static, Linear}
use Rattle.volume.specs.Levels.{is_static_of, is_static_and_mute_of, level_of, keeps_of}
use Rattle.clip.specs.declared.Clip.{Clip}
use Rattle.clip.specs.Positions.{elapsed_at, index_at}
use Rattle.clip.specs.Updates.{same_mode, same_all}
use Rattle.clip.specs.Plain.{PlainClip, plain_index}
use Rattle.clip.proofs.Plain.{index_is, passes}
use Rattle.voice.specs.declared.Voice.{Voice}
use Rattle.voice.specs.declared.Tick.{Tick}
use Rattle.voice.specs.Voices.{over_of, turn_of}
use Rattle.plain_voice.specs.declared.Hot.{Hot}
use Rattle.plain_voice.specs.Hots.{cold, plays_plain, hot_after, judged_of}
use Rattle.plain_voice.proofs.Hots.{so_plays}
use Rattle.pours.specs.Eases.{EasesVoice, term_at, moved_on}
use Rattle.pours.specs.Pours.{judged_on}
use Rattle.pours.specs.Steady.{pace_of, Steady, played_on, Lasts, sound_at}
use Rattle.pours.proofs.Turns.{clip_stays, next_steady, next_lasts}

-- ---- numbers
pub sum_is : {x y : Float} (a b : ℕ) → Is x a → Is y b → a + b ≤ 2 ^ 24 → 1 ≤ a + b → add binary32 x y ≡ as_float (a + b)
sum_is {x} {y} a b p q few some =
    units_unique_above (mul-pos some (pow_pos 149)) (add-fits binary32 x y) (of_int-fits binary32 (pos (a + b))) (is_units (a + b) few (add_is a b p q few)) (float_is_units (a + b) few)

unsigned_abs : (x : Float) → sign_of x ≡ false → abs_of x ≡ x
unsigned_abs nan h = refl
unsigned_abs (inf s) h = ap inf (sym h)
unsigned_abs (fin s m e) h = ap (λ (z : Bool). fin z m e) (sym h)

-- a length that lies above a whole number lies above those below it
still_above : (length : Float) (a b : ℕ) → a ≤ b → b ≤ 2 ^ 24 → T (lt (as_float b) length) → le length (abs_of (as_float a)) ≡ false
still_above length a b below few above = go (le length (abs_of (as_float a))) refl
  where
    small : a ≤ 2 ^ 24
    small = le_trans below few

    go : (r : Bool) → le length (abs_of (as_float a)) ≡ r → r ≡ false
    go false e = refl
    go true e =
        let first : T (le length (as_float a)) = yes (sym (ap (le length) (unsigned_abs (as_float a) (float_sign a))) ∙ e) in
        absurd (lt_le_clash (as_float b) length above (le_le_trans length (as_float a) (as_float b) first (le_is a b (float_is a small) (float_is b few) small few below)))

-- ---- a steady level
steady_keeps : (v : Volume) (now : ℕ) → is_static_of v ≡ true → keeps_of v now ≡ true
unfolding keeps_of
steady_keeps (Static x) now h = refl
steady_keeps (Linear a b x y) now h = absurd (true≢false (sym h))

steady_level : (v : Volume) (a b : ℕ) → is_static_of v ≡ true → level_of v a ≡ level_of v b
unfolding level_of
steady_level (Static x) a b h = refl
steady_level (Linear c d x y) a b h = absurd (true≢false (sym h))

-- ---- as any steady voice
module _ {t : Tick} {start length total p n : ℕ} {v : Voice} (E : EasesVoice t start length total p n v) where
  pub eases_steady : Steady t n v
  eases_steady = record { own = E.own; stays = ap (λ (f : Bool). f && over_of t.note_off_behavior (is_static_and_mute_of v.volume) true) E.unfinished; sharp = E.sharp; same = E.same; keeps = λ k h. steady_keeps v.volume (t.now + k) E.steady }

  speed_is : Is (pace_of t v) 1
  unfolding same_all
  speed_is =
      let u : Bool = eq t.span.length v.clip2.length in
      let s : Bool = eq (pace_of t v) v.clip2.speed in
      let w : Bool = eq t.span.data_length v.clip2.data_length in
      let k : Bool = same_mode t.mode v.clip2.mode in
      equal_is 1 E.profile.speed (lit≤ tt) (and_r u s (and_l (u && s) w (and_l (u && s && w) k (yes E.same))))

  pub played_on_lem : (k : ℕ) → k < n → played_on (pace_of t v) v.played (suc k) ≡ as_float (p + suc k)
  unfolding played_on
  played_on_lem zero h = sum_is p 1 E.played speed_is (omega (arith, E.few, h)) (omega arith)
  played_on_lem (suc k) h =
      ap (λ (x : Float). add binary32 x (pace_of t v)) (played_on_lem k (omega (arith, h)))
      ∙ sum_is (p + suc k) 1 (float_is (p + suc k) (omega (arith, E.few, h))) speed_is (omega (arith, E.few, h)) (omega arith)
      ∙ ap as_float (omega arith)

  pub eases_lasts : Lasts t n v
  eases_lasts k h = go t.once refl
    where
      go : (once : Bool) → t.once ≡ once → (once && not v.finished && le t.span.whole_length (abs_of (played_on (pace_of t v) v.played (suc k)))) ≡ false
      go false is = refl
      go true is = rw (E.unfinished, played_on_lem k h) (still_above t.span.whole_length (p + suc k) (p + n) (omega (arith, h)) E.few (E.lasts is))

  -- its index by a whole number
  pub index_on : (k : ℕ) → k < n → index_at v.clip2 (t.now + k) ≡ plain_index start length total (elapsed_at v.clip2 t.now + k)
  index_on k h =
      index_is v.clip2 (t.now + k) start length total E.profile (omega (arith, E.early, h))
      ∙ ap (plain_index start length total) (omega (arith, E.begun))

  pub sounds_on : (m : List ℕ) (level : Float) → level ≡ level_of v.volume t.now → (k : ℕ) → k < n
      → term_at m level (plain_index start length total (elapsed_at v.clip2 t.now + k)) ≡ sound_at m v.clip2 v.volume (t.now + k)
  sounds_on m level is k h = ap₂ (term_at m) (is ∙ steady_level v.volume t.now (t.now + k) E.steady) (sym (index_on k h))

-- ---- the position of a plain voice
module _ (m : List ℕ) {start length total : ℕ} where
  judged_once : (t : Tick) (c : Clip) (w : Voice) (h : Hot) → PlainClip c start length total → start ≤ total → t.interpolates ≡ false → elapsed_at c t.now + 1 ≤ 2 ^ 24 → w.clip2 ≡ c → h.plain ≡ true
      → judged_of h t.interpolates w.clip2 t.now ≡ hot_after c (elapsed_at c t.now + 1)
  unfolding judged_of
  judged_once t c w h profile inside sharp early clip plain =
      let plays : plays_plain t.interpolates c t.now ≡ true =
      so_plays t.interpolates c t.now (record { sharp = sharp; profile = passes c start length total profile inside; early = omega (arith, early) }) in
      ap (λ (z : Clip). judged_of h t.interpolates z t.now) clip
      ∙ ap₂ (λ (a b : Bool). cond a (cond b (hot_after c (elapsed_at c t.now + 1)) cold) h) plain plays

  pub judged : (n : ℕ) {t : Tick} {v : Voice} (c : Clip) (h : Hot) → h.plain ≡ true → v.clip2 ≡ c → PlainClip c start length total → start ≤ total → c.since ≤ t.now → elapsed_at c t.now + suc n ≤ 2 ^ 24
      → Steady t (suc n) v → Lasts t (suc n) v → judged_on t m (suc n) v h ≡ hot_after c (elapsed_at c t.now + suc n)
  unfolding judged_on hot_after
  judged zero {t} {v} c h plain clip profile inside begun early s l = judged_once t c (turn_of t m v) h profile inside s.sharp early (clip_stays m s l ∙ clip) plain
  judged (suc n) {t} {v} c h plain clip profile inside begun early s l =
      let stays : (turn_of t m v).clip2 ≡ c = clip_stays m s l ∙ clip in
      let once = judged_once t c (turn_of t m v) h profile inside s.sharp (omega (arith, early)) stays plain in
      judged n c (judged_of h t.interpolates (turn_of t m v).clip2 t.now) (ap (λ (x : Hot). x.plain) once) stays profile inside (omega (arith, begun)) (omega (arith, begun, early)) (next_steady m s l) (next_lasts m s l)
      ∙ ap (hot_after c) (omega (arith, begun))

-- ---- the position, by a place and laps
module _ (h : Hot) (e length : ℕ) (stands : h.lap * length + h.place ≡ e) where
  rest_on : (k : ℕ) → (h.place + k) % length ≡ (e + k) % length
  rest_on k = sym (mul-add-mod_self_right h.lap length (h.place + k)) ∙ ap (λ (x : ℕ). x % length) (omega (arith, stands))

  pub place_on : (start total k : ℕ) → plain_index start length total (h.place + k) ≡ plain_index start length total (e + k)
  place_on start total k = ap (λ (r : ℕ). (start + r) % total) (rest_on k)

  pub moved_to : (c : Clip) → as_whole 64 c.length ≡ length → as_whole 64 c.start ≡ h.start → 1 ≤ length → (n : ℕ) → moved_on h n length ≡ hot_after c (e + n)
  unfolding moved_on hot_after
  moved_to c length_is start_is low n =
      ap₂ (λ (p l : ℕ). record { place = p; lap = l; start = h.start; plain = true }) (rest_on n)
      (sym (mul-add-div_right low h.lap (h.place + n)) ∙ ap (λ (x : ℕ). x / length) (omega (arith, stands)))
      ∙ ap₂ (λ (l s : ℕ). record { place = (e + n) % l; lap = (e + n) / l; start = s; plain = true }) (sym length_is) (sym start_is)
