-- The small parts answer 7 exactly where document 01 has it. Assumes nothing.
use mathlib.Core.Path.{◌≡◌, refl, sym, ap, ap₂, ◌∙◌}
use mathlib.Core.Bool.{Bool, true, false, not, ◌&&◌, ◌||◌, cond, or_assoc, or_comm, not-not}
use Prim.Native.Nat.{ℕ, ◌+◌, ◌-◌, ◌*◌, ◌/◌, ◌^◌, ◌≤◌, ◌<◌, min}
use native.Mathlib.Nat.{le-div_iff_mul-le, not-le_of_lt, mul-one}
use native.Mathlib.Omega.{arith}
use borrow.Author.Tests.{le-ltb, ne_eqb}
use lib.Dec.{leb, ltb, leb→le, le→leb, ltb→lt, lt→ltb, nleb→lt, not_T}
use lib.IntN.{pos}
use lib.Ieee.{Float, nan, inf, fin, binary32, up, down, mul, le, lt, eq, of_int, to_unsigned}
use lib.Ieee.Exact.{HasValue}
use lib.Ieee.Fits.{down_pos}
use Rattle.binary32.specs.Leaves.{as_float, as_whole, floor_of, zero32}
use Rattle.binary32.proofs.Truth.{same_test}
use Rattle.binary32.proofs.Values.{le_value}
use Rattle.std.specs.Prelude.{Err}
use Rattle.refusals.specs.Refusals.{code_of}
use Rattle.refusals.specs.declared.Refusal.TheVariants.{BadArgument}
use Rattle.common_types.specs.Modes.{index_from_f32_of}
use Rattle.common_types.proofs.Indices.{loop_mode_number_lem, note_off_number_lem}
use Rattle.volume.specs.declared.Volume.{Volume}
use Rattle.volume.specs.declared.Volume.TheVariants.{Static, Linear}
use Rattle.volume.specs.Levels.{good_ramp, good_volume, level_refused_at as unread_at, value_answer, to_of, step_answer}
use Rattle.clip.specs.declared.Clip.{Clip}
use Rattle.clip.specs.declared.Mode.{Mode}
use Rattle.clip.specs.Refusals.{most32, good_length, good_clip, clip_refused_at, new_clip_of, data_to_clip_of, is_pingpong_reversing_of, elapsed_of, clip_offset_of, offset_of, update_speed_of, update_mode_of, update_length_of, update_data_length_of, update_all_of}
use Rattle.clip.specs.Updates.{made_of}
use Rattle.promises.specs.Runs.{row}
use Rattle.promises.specs.SmallParts.{not_in, bad_sizes, bad_clip, bad_at, bad_time, RowSeven}

-- ---- the number of an answer that a test picks
refusal : {A : Type 0} (number : A → ℕ) (refused done : A) → number refused ≡ 7 → number done ≡ 0 → (test bad : Bool) → test ≡ bad → number (cond test refused done) ≡ row bad 7 0
refusal number refused done r d test bad e = ap (λ (t : Bool). number (cond t refused done)) e ∙ go bad
  where
    go : (b : Bool) → number (cond b refused done) ≡ row b 7 0
    go true = r
    go false = d

-- ---- tests by other tests
not_and : (a b : Bool) → not (a && b) ≡ (not a || not b)
not_and true b = refl
not_and false b = refl

or-false : (a : Bool) → (a || false) ≡ a
or-false true = refl
or-false false = refl

swapped : {A : Type 0} (t : Bool) (x y : A) → cond t x y ≡ cond (not t) y x
swapped true x y = refl
swapped false x y = refl

not-le : (a b : ℕ) → not (leb a b) ≡ ltb b a
not-le a b = same_test (not (leb a b)) (ltb b a) (λ t. lt→ltb b a (nleb→lt a b t)) (λ t. not_T (leb a b) (λ u. not-le_of_lt (ltb→lt b a t) (leb→le a b u)))

not-lt : (a b : ℕ) → not (ltb a b) ≡ leb b a
not-lt a b = ap not (sym (not-le b a)) ∙ not-not (leb b a)

-- ---- volumes

-- longer than 2 ^ 24
not_short : (a b : ℕ) → not (leb (b - a) (2 ^ 24)) ≡ ltb (a + 2 ^ 24) b
not_short a b =
    same_test (not (leb (b - a) (2 ^ 24))) (ltb (a + 2 ^ 24) b)
    (λ t. let h = nleb→lt (b - a) (2 ^ 24) t in lt→ltb (a + 2 ^ 24) b (omega arith))
    (λ t. let h = ltb→lt (a + 2 ^ 24) b t in not_T (leb (b - a) (2 ^ 24)) (λ u. let k = leb→le (b - a) (2 ^ 24) u in omega arith))

ramp_bad : (a b now : ℕ) → not (good_ramp a b now) ≡ ((leb b a || ltb (a + 2 ^ 24) b) || ltb now a)
unfolding good_ramp
ramp_bad a b now =
    not_and (ltb a b && leb (b - a) (2 ^ 24)) (leb a now)
    ∙ ap₂ (λ (p q : Bool). p || q) (not_and (ltb a b) (leb (b - a) (2 ^ 24)) ∙ ap₂ (λ (p q : Bool). p || q) (not-lt a b) (not_short a b)) (not-le a now)

volume_bad : (v : Volume) (now : ℕ) → unread_at v now ≡ bad_time v now
unfolding unread_at good_volume
volume_bad (Static x) now = or-false (ltb (2 ^ 48) now)
volume_bad (Linear a b x y) now =
    let p = ltb now a in
    let q = ltb (2 ^ 48) now in
    let r = leb b a in
    let s = ltb (a + 2 ^ 24) b in
    ap (λ (t : Bool). q || t) (ramp_bad a b now) ∙ sym (or_assoc q (r || s) p) ∙ or_comm (q || (r || s)) p ∙ sym (or_assoc p q (r || s)) ∙ sym (or_assoc (p || q) r s)

-- ---- clips
clip_bad : (c : Clip) → not (good_clip c) ≡ bad_clip c
unfolding good_clip good_length of_int
clip_bad c =
    not_and (good_length c.length && good_length c.data_length) (le zero32 c.start && le c.start most32)
    ∙ ap (λ (t : Bool). t || not_in 0 (2 ^ 22) c.start) (not_and (good_length c.length) (good_length c.data_length))

clip_bad_at : (c : Clip) (now : ℕ) → clip_refused_at c now ≡ bad_at c now
unfolding clip_refused_at
clip_bad_at c now =
    not_and (good_clip c && leb c.since now) (leb now (2 ^ 48))
    ∙ ap₂ (λ (p q : Bool). p || q) (not_and (good_clip c) (leb c.since now) ∙ ap₂ (λ (p q : Bool). p || q) (clip_bad c) (not-le c.since now)) (not-le now (2 ^ 48))

made_bad : (since : ℕ) (start speed length data_length : Float) (mode : Mode)
    → clip_refused_at (made_of since start speed length data_length mode) since ≡ (bad_sizes length data_length start || ltb (2 ^ 48) since)
unfolding made_of
made_bad since start speed length data_length mode =
    clip_bad_at (made_of since start speed length data_length mode) since
    ∙ ap (λ (t : Bool). (bad_sizes length data_length start || t) || ltb (2 ^ 48) since) (le-ltb since since (omega arith))
    ∙ ap (λ (t : Bool). t || ltb (2 ^ 48) since) (or-false (bad_sizes length data_length start))

length_bad : (c : Clip) (now : ℕ) (length : Float) → (clip_refused_at c now || not (good_length length)) ≡ (bad_at c now || not_in 1 (2 ^ 22) length)
unfolding good_length of_int
length_bad c now length = ap (λ (t : Bool). t || not_in 1 (2 ^ 22) length) (clip_bad_at c now)

lengths_bad : (c : Clip) (now : ℕ) (length data_length : Float)
    → (clip_refused_at c now || not (good_length length) || not (good_length data_length)) ≡ (bad_at c now || not_in 1 (2 ^ 22) length || not_in 1 (2 ^ 22) data_length)
unfolding good_length of_int
lengths_bad c now length data_length = ap (λ (t : Bool). t || not_in 1 (2 ^ 22) data_length) (length_bad c now length)

place_bad : (c : Clip) (x : Float) → not (good_clip c && (le zero32 x && lt x c.data_length)) ≡ (bad_clip c || not (le (as_float 0) x && lt x c.data_length))
unfolding of_int
place_bad c x = not_and (good_clip c) (le zero32 x && lt x c.data_length) ∙ ap (λ (t : Bool). t || not (le zero32 x && lt x c.data_length)) (clip_bad c)

-- ---- modes

-- 3 over any denominator
three : (d : ℕ) → HasValue (fin false 3 (pos 0)) false (3 * d) d
three d = (refl, sym (mul-one (3 * d)))

-- a cast reaches 3 where the float does
reaches : (n d : ℕ) → 0 < d → leb 3 (min (n / d) 18446744073709551615) ≡ leb (3 * d) n
reaches n d h =
    same_test (leb 3 (min (n / d) 18446744073709551615)) (leb (3 * d) n)
    (λ t. let k = leb→le 3 (min (n / d) 18446744073709551615) t in let q : 3 ≤ n / d = omega arith in le→leb (3 * d) n ((le-div_iff_mul-le h).0 q))
    (λ t. let q : 3 ≤ n / d = (le-div_iff_mul-le h).1 (leb→le (3 * d) n t) in le→leb 3 (min (n / d) 18446744073709551615) (omega arith))

cast_three : (x : Float) → leb 3 (as_whole 64 x) ≡ le (as_float 3) x
unfolding to_unsigned of_int le lt eq
cast_three nan = refl
cast_three (inf true) = refl
cast_three (inf false) = refl
cast_three (fin true m e) =
    let d : 0 < down e = down_pos e in
    sym (le_value (fin false 3 (pos 0)) (fin true m e) false (3 * down e) true (m * up e) (down e) d (three (down e)) (refl, refl) ∙ ne_eqb (3 * down e + m * up e) 0 (λ z. omega arith))
cast_three (fin false m e) =
    reaches (m * up e) (down e) (down_pos e) ∙ sym (le_value (fin false 3 (pos 0)) (fin false m e) false (3 * down e) false (m * up e) (down e) (down_pos e) (three (down e)) (refl, refl))

index_number : (x : Float) → leb 3 (index_from_f32_of x 3) ≡ le (as_float 3) (floor_of (mul binary32 x (as_float 3)))
unfolding index_from_f32_of
index_number x = cast_three (floor_of (mul binary32 x (as_float 3)))

from_three : (i : ℕ) → cond (ltb i 3) 0 7 ≡ row (leb 3 i) 7 0
from_three i = swapped (ltb i 3) 0 7 ∙ ap (λ (t : Bool). row t 7 0) (not-lt i 3)

pub row_seven : RowSeven
unfolding value_answer to_of step_answer new_clip_of data_to_clip_of is_pingpong_reversing_of elapsed_of clip_offset_of offset_of update_speed_of update_mode_of update_length_of update_data_length_of update_all_of
row_seven = record {
  value = λ v now. refusal code_of (Err BadArgument) _ refl refl (unread_at v now) (bad_time v now) (volume_bad v now);
  to = λ v now duration target. refusal code_of (Err BadArgument) _ refl refl (unread_at v now || ltb (2 ^ 24) duration) (bad_time v now || ltb (2 ^ 24) duration) (ap (λ (t : Bool). t || ltb (2 ^ 24) duration) (volume_bad v now));
  step = λ v now. refusal code_of (Err BadArgument) _ refl refl (unread_at v now) (bad_time v now) (volume_bad v now);
  loop_mode_index = λ i. loop_mode_number_lem i ∙ from_three i;
  note_off_index = λ i. note_off_number_lem i ∙ from_three i;
  loop_mode_float = λ x. loop_mode_number_lem (index_from_f32_of x 3) ∙ from_three (index_from_f32_of x 3) ∙ ap (λ (t : Bool). row t 7 0) (index_number x);
  note_off_float = λ x. note_off_number_lem (index_from_f32_of x 3) ∙ from_three (index_from_f32_of x 3) ∙ ap (λ (t : Bool). row t 7 0) (index_number x);
  new = λ since start speed length data_length mode. refusal code_of (Err BadArgument) _ refl refl (clip_refused_at (made_of since start speed length data_length mode) since) _ (made_bad since start speed length data_length mode);
  data_to_clip = λ c x. ap code_of (swapped (good_clip c && (le zero32 x && lt x c.data_length)) _ (Err BadArgument))
      ∙ refusal code_of (Err BadArgument) _ refl refl (not (good_clip c && (le zero32 x && lt x c.data_length))) _ (place_bad c x);
  is_pingpong_reversing = λ c now. refusal code_of (Err BadArgument) _ refl refl (clip_refused_at c now) (bad_at c now) (clip_bad_at c now);
  elapsed = λ c now. refusal code_of (Err BadArgument) _ refl refl (clip_refused_at c now) (bad_at c now) (clip_bad_at c now);
  clip_offset = λ c now. refusal code_of (Err BadArgument) _ refl refl (clip_refused_at c now) (bad_at c now) (clip_bad_at c now);
  offset = λ c now. refusal code_of (Err BadArgument) _ refl refl (clip_refused_at c now) (bad_at c now) (clip_bad_at c now);
  update_speed = λ c now speed. refusal code_of (Err BadArgument) _ refl refl (clip_refused_at c now) (bad_at c now) (clip_bad_at c now);
  update_mode = λ c now mode. refusal code_of (Err BadArgument) _ refl refl (clip_refused_at c now) (bad_at c now) (clip_bad_at c now);
  update_length = λ c now length. refusal code_of (Err BadArgument) _ refl refl (clip_refused_at c now || not (good_length length)) _ (length_bad c now length);
  update_data_length = λ c now length. refusal code_of (Err BadArgument) _ refl refl (clip_refused_at c now || not (good_length length)) _ (length_bad c now length);
  update_all = λ c now length speed data_length mode.
      refusal code_of (Err BadArgument) _ refl refl (clip_refused_at c now || not (good_length length) || not (good_length data_length)) _ (lengths_bad c now length data_length);
}
