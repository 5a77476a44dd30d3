-- One update of a clip is the four in turn, refusals included, and a value that is equal skips its own part alone. Assumes nothing.
use mathlib.Core.Path.{◌≡◌, refl, ap, sym, ◌∙◌}
use Prim.Native.Nat.{ℕ}
use mathlib.Core.Bool.{Bool, true, false, not, ◌&&◌, ◌||◌, cond}
use lib.Dec.{T}
use lib.Ieee.{Float, eq, ne, le}
use lib.Ieee.Bits.{is_true}
use lib.Ieee.Fits.{and_l, and_r}
use Rattle.binary32.specs.Leaves.{zero32}
use Rattle.binary32.proofs.Truth.{yes, cond_split}
use Rattle.clip.specs.Positions.{offset_at}
use Rattle.clip.specs.Updates.{at_speed, at_mode, at_length, at_data_length, resumed, settled_of, same_mode, with_speed, with_mode, with_length, with_data_length, with_all, same_all}
use Rattle.clip.specs.Refusals.{good_length, good_clip, clip_refused_at, update_speed_of, update_mode_of, update_length_of, update_data_length_of, unless_refused, update_all_of, AnswerSkips, then_of, four_of}
use Rattle.clip.specs.declared.Mode.{Mode}
use Rattle.clip.specs.declared.Clip.{Clip}
use Rattle.std.specs.Prelude.{Result, Ok, Err}
use Rattle.refusals.specs.declared.Refusal.{Refusal}
use Rattle.refusals.specs.declared.Refusal.TheVariants.{BadArgument}
use Rattle.clip.proofs.Lengths.{good_parts, parts_good}
use Rattle.clip.proofs.Kept.{at_length_good, with_speed_since, with_length_since, with_data_length_since}
use Rattle.clip.proofs.Answers.{answers, answered}

-- ---- the four tests
opposite : (b c : Bool) → not b ≡ c → b ≡ not c
opposite true c e = ap not e
opposite false c e = ap not e

pub unlike : (x y : Float) → ne x y ≡ true → eq x y ≡ false
unfolding ne
unlike x y e = opposite (eq x y) true e

pub alike : (x y : Float) → ne x y ≡ false → eq x y ≡ true
unfolding ne
alike x y e = opposite (eq x y) false e

-- ---- an equal value
module _ (c : Clip) (now : ℕ) where
  pub length_skipped : (length : Float) → eq length c.length ≡ true → with_length c now length ≡ c
  unfolding with_length
  length_skipped length e = ap (λ (b : Bool). cond b c (settled_of (at_length c length) (offset_at c now) now)) e

  pub speed_skipped : (speed : Float) → eq speed c.speed ≡ true → with_speed c now speed ≡ c
  unfolding with_speed
  speed_skipped speed e = ap (λ (b : Bool). cond b c (settled_of (at_speed c speed) (offset_at c now) now)) e

  pub data_length_skipped : (length : Float) → eq length c.data_length ≡ true → with_data_length c now length ≡ c
  unfolding with_data_length
  data_length_skipped length e =
      ap (λ (b : Bool). cond b c (cond (le length (offset_at c now)) (resumed (at_data_length c length) zero32 now) (at_data_length c length))) e

  pub mode_skipped : (mode : Mode) → same_mode mode c.mode ≡ true → with_mode c now mode ≡ c
  unfolding with_mode
  mode_skipped mode e = ap (λ (b : Bool). cond b c (settled_of (at_mode c mode) (offset_at c now) now)) e

  -- ---- no part changes what another one tests
  length_leaves : (length : Float) → ((with_length c now length).speed ≡ c.speed) × ((with_length c now length).data_length ≡ c.data_length) × ((with_length c now length).mode ≡ c.mode)
  unfolding with_length settled_of
  length_leaves length = go (eq length c.length)
    where
      go : (b : Bool) → let d = cond b c (settled_of (at_length c length) (offset_at c now) now) in (d.speed ≡ c.speed) × (d.data_length ≡ c.data_length) × (d.mode ≡ c.mode)
      go true = (refl, refl, refl)
      go false = (refl, refl, refl)

  speed_leaves : (speed : Float) → ((with_speed c now speed).data_length ≡ c.data_length) × ((with_speed c now speed).mode ≡ c.mode)
  unfolding with_speed settled_of
  speed_leaves speed = go (eq speed c.speed)
    where
      go : (b : Bool) → let d = cond b c (settled_of (at_speed c speed) (offset_at c now) now) in (d.data_length ≡ c.data_length) × (d.mode ≡ c.mode)
      go true = (refl, refl)
      go false = (refl, refl)

  data_length_leaves : (length : Float) → (with_data_length c now length).mode ≡ c.mode
  unfolding with_data_length
  data_length_leaves length = go (eq length c.data_length) (le length (offset_at c now))
    where
      go : (a b : Bool) → (cond a c (cond b (resumed (at_data_length c length) zero32 now) (at_data_length c length))).mode ≡ c.mode
      go true b = refl
      go false true = refl
      go false false = refl

-- ---- an equal value skips its own part alone
module _ (c : Clip) (now : ℕ) (length speed data_length : Float) (mode : Mode) where
  abbrev sized : Clip
  sized = with_length c now length

  abbrev paced : Clip
  paced = with_speed sized now speed

  pub skips_length : eq length c.length ≡ true → with_all c now length speed data_length mode ≡ with_mode (with_data_length (with_speed c now speed) now data_length) now mode
  skips_length e = ap (λ (d : Clip). with_mode (with_data_length (with_speed d now speed) now data_length) now mode) (length_skipped c now length e)

  pub skips_speed : eq speed c.speed ≡ true → with_all c now length speed data_length mode ≡ with_mode (with_data_length (with_length c now length) now data_length) now mode
  skips_speed e =
      ap (λ (d : Clip). with_mode (with_data_length d now data_length) now mode)
      (speed_skipped sized now speed (ap (eq speed) (length_leaves c now length).0 ∙ e))

  pub skips_data_length : eq data_length c.data_length ≡ true → with_all c now length speed data_length mode ≡ with_mode (with_speed (with_length c now length) now speed) now mode
  skips_data_length e =
      ap (λ (d : Clip). with_mode d now mode)
      (data_length_skipped paced now data_length (ap (eq data_length) ((speed_leaves sized now speed).0 ∙ (length_leaves c now length).1) ∙ e))

  pub skips_mode : same_mode mode c.mode ≡ true → with_all c now length speed data_length mode ≡ with_data_length (with_speed (with_length c now length) now speed) now data_length
  skips_mode e =
      mode_skipped (with_data_length paced now data_length) now mode
      (ap (same_mode mode) (data_length_leaves paced now data_length ∙ (speed_leaves sized now speed).1 ∙ (length_leaves c now length).2) ∙ e)

  -- four that are equal change nothing
  pub skips_all : same_all c length speed data_length mode ≡ true → with_all c now length speed data_length mode ≡ c
  unfolding same_all
  skips_all h =
      let a : Bool = eq length c.length in
      let b : Bool = eq speed c.speed in
      let p : Bool = eq data_length c.data_length in
      let q : Bool = same_mode mode c.mode in
      let t : T (a && b && p && q) = yes h in
      skips_length (is_true a (and_l a b (and_l (a && b) p (and_l (a && b && p) q t))))
      ∙ ap (λ (d : Clip). with_mode (with_data_length d now data_length) now mode) (speed_skipped c now speed (is_true b (and_r a b (and_l (a && b) p (and_l (a && b && p) q t)))))
      ∙ ap (λ (d : Clip). with_mode d now mode) (data_length_skipped c now data_length (is_true p (and_r (a && b) p (and_l (a && b && p) q t))))
      ∙ mode_skipped c now mode (is_true q (and_r (a && b && p) q t))

-- the same of the public answer, refused or not
pub answer_skips : (c : Clip) (now : ℕ) (length speed data_length : Float) (mode : Mode) → AnswerSkips c now length speed data_length mode
unfolding update_all_of
answer_skips c now length speed data_length mode =
    record {
      length = λ e. ap answer (skips_length c now length speed data_length mode e);
      speed = λ e. ap answer (skips_speed c now length speed data_length mode e);
      data_length = λ e. ap answer (skips_data_length c now length speed data_length mode e);
      mode = λ e. ap answer (skips_mode c now length speed data_length mode e);
    }
  where
    answer : Clip → Result Clip Refusal
    answer = unless_refused c now length data_length

-- ---- a clip that isn't refused is not refused after an update with good values, whatever its floats are
settled_good : (c : Clip) (offset : Float) (now : ℕ) → T (good_clip c) → T (good_clip (settled_of c offset now))
unfolding settled_of good_clip
settled_good c offset now g = g

length_good : (c : Clip) (now : ℕ) (length : Float) → T (good_length length) → T (good_clip c) → T (good_clip (with_length c now length))
unfolding with_length
length_good c now length l g =
    cond_split (λ (d : Clip). T (good_clip d)) (eq length c.length) c (settled_of (at_length c length) (offset_at c now) now) (λ e. g)
    (λ e. settled_good (at_length c length) (offset_at c now) now (at_length_good c length l g))

speed_good : (c : Clip) (now : ℕ) (speed : Float) → T (good_clip c) → T (good_clip (with_speed c now speed))
unfolding with_speed settled_of good_clip
speed_good c now speed g =
    cond_split (λ (d : Clip). T (good_clip d)) (eq speed c.speed) c (settled_of (at_speed c speed) (offset_at c now) now) (λ e. g) (λ e. g)

data_length_good : (c : Clip) (now : ℕ) (length : Float) → T (good_length length) → T (good_clip c) → T (good_clip (with_data_length c now length))
unfolding with_data_length good_clip
data_length_good c now length l g =
    let h = good_parts c g in
    let d = at_data_length c length in
    let k : T (good_clip d) = parts_good d (record { length = h.length; data_length = l; start_low = h.start_low; start_top = h.start_top }) in
    cond_split (λ (z : Clip). T (good_clip z)) (eq length c.data_length) c (cond (le length (offset_at c now)) (resumed d zero32 now) d) (λ e. g)
    (λ e. cond_split (λ (z : Clip). T (good_clip z)) (le length (offset_at c now)) (resumed d zero32 now) d (λ f. k) (λ f. k))

-- ---- all four at once
module _ (c : Clip) (now : ℕ) (length speed data_length : Float) (mode : Mode) where
  abbrev first : Clip
  first = with_length c now length

  abbrev second : Clip
  second = with_speed first now speed

  abbrev third : Clip
  third = with_data_length second now data_length

  module _ (h : clip_refused_at c now ≡ false) (l : T (good_length length)) where
    first_answers : clip_refused_at first now ≡ false
    first_answers =
        let a = answered c now h in
        answers first now (length_good c now length l a.0) (with_length_since c now a.1 length) a.2

    second_answers : clip_refused_at second now ≡ false
    second_answers =
        let a = answered first now first_answers in
        answers second now (speed_good first now speed a.0) (with_speed_since first now a.1 speed) a.2

    third_answers : T (good_length data_length) → clip_refused_at third now ≡ false
    third_answers d =
        let a = answered second now second_answers in
        answers third now (data_length_good second now data_length d a.0) (with_data_length_since second now a.1 data_length) a.2

    -- from the speed on, by whether the data length is good
    from_speed : then_of (then_of (update_speed_of first now speed) (λ e. update_data_length_of e now data_length)) (λ e. update_mode_of e now mode)
        ≡ then_of (cond (not (good_length data_length)) (Err BadArgument) (Ok third)) (λ e. update_mode_of e now mode)
    unfolding update_speed_of update_data_length_of
    from_speed =
        ap (λ (b : Bool). then_of (then_of (cond b (Err BadArgument) (Ok second)) (λ e. update_data_length_of e now data_length)) (λ e. update_mode_of e now mode)) first_answers
        ∙ ap (λ (b : Bool). then_of (cond (b || not (good_length data_length)) (Err BadArgument) (Ok third)) (λ e. update_mode_of e now mode)) second_answers

    to_mode : (b : Bool) → good_length data_length ≡ b
        → cond (not b) (Err BadArgument) (Ok (with_all c now length speed data_length mode)) ≡ then_of (cond (not b) (Err BadArgument) (Ok third)) (λ e. update_mode_of e now mode)
    unfolding update_mode_of
    to_mode false e = refl
    to_mode true e = sym (ap (λ (b : Bool). cond b (Err BadArgument) (Ok (with_mode third now mode))) (third_answers (yes e)))

  pub at_once : update_all_of c now length speed data_length mode ≡ four_of c now length speed data_length mode
  unfolding update_all_of four_of update_length_of
  at_once = go (clip_refused_at c now) (good_length length) refl refl
    where
      go : (r a : Bool) → clip_refused_at c now ≡ r → good_length length ≡ a
          → cond (r || not a || not (good_length data_length)) (Err BadArgument) (Ok (with_all c now length speed data_length mode))
          ≡ then_of (then_of (then_of (cond (r || not a) (Err BadArgument) (Ok first)) (λ e. update_speed_of e now speed)) (λ e. update_data_length_of e now data_length)) (λ e. update_mode_of e now mode)
      go true a e f = refl
      go false false e f = refl
      go false true e f = to_mode e (yes f) (good_length data_length) refl ∙ sym (from_speed e (yes f))
