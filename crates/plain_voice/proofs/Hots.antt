-- A voice's position as a whole number: when it is that of its clip, the index by it, and the position one sample on. Assumes nothing.
--     plays_so, so_plays     what it takes that the plain engine plays a voice
--     sized                  the numbers of a clip of 8/12's profile are small
--     agreed                 the tests of `agrees` are enough
--     index-first, -next     the index by a position that agrees
--     stepped_to, -on        the position moved by one is that one sample on, and of the voice after its turn
use Rattle.std.proofs.Common.{◌≡◌, ℕ, ◌+◌, ◌-◌, ◌*◌, ◌/◌, ◌%◌, ◌^◌, ◌<◌, ◌≤◌, Bool, true, false, cond, not, ◌&&◌, ◌||◌, T, eqb, ltb, leb, sym, refl, ap, ◌∙◌, subst, ap₂, zero-le, le_trans, add-zero, mod-eq_of_lt, add-mul, mul-le-mul_left, one-mul, arith, lit≤, eqb→eq, ltb→lt, leb→le, ltb-false, ltb-true, lt-ltb}
use native.Mathlib.Nat.{mod-eq-sub-mod, div-eq_of_lt, mul-add-mod_self_right, mul-add-div_right}
use mathlib.Core.Bool.{beq}
use lib.Ieee.{Float, nan, inf, fin, up, down, eq, level}
use lib.Ieee.Bits.{is_true}
use lib.Ieee.Fits.{eq→eqb, and_i, and_l, and_r}
use borrow.Author.Tests.{not-true}
use Rattle.binary32.specs.Leaves.{zero32, one32, as_float, as_whole}
use Rattle.binary32.specs.Wholes.{Is, is_whole_in}
use Rattle.binary32.proofs.Truth.{yes}
use Rattle.binary32.proofs.Wholes.{float_is, zero_is, one_is, equal_is, is_equal, cast_is, WholeIn, whole_in}
use Rattle.clip.specs.declared.Mode.{Mode}
use Rattle.clip.specs.declared.Mode.TheVariants.{Loop}
use Rattle.clip.specs.declared.Clip.{Clip}
use Rattle.clip.specs.Positions.{elapsed_at, index_at}
use Rattle.clip.specs.Updates.{same_mode, same_all}
use Rattle.clip.specs.Plain.{is_plain}
use Rattle.clip.proofs.Equal.{same_modes}
use Rattle.clip.proofs.Plain.{tested, index_is, passes}
use Rattle.voice.specs.declared.Tick.{Tick}
use Rattle.plain_voice.specs.declared.Hot.{Hot}
use Rattle.plain_voice.specs.declared.Beat.{Beat}
use Rattle.plain_voice.specs.Hots.{plays_plain, hot_after, judged_of, stepped_hot, can_plain, beat_of, Agrees}

-- ---- which voices are plain
pub record Plays (smooth : Bool) (c : Clip) (now : ℕ) : Type 0 where
  pub sharp : smooth ≡ false
  pub profile : is_plain c ≡ true
  pub early : elapsed_at c now < 2 ^ 24

pub plays_so : (smooth : Bool) (c : Clip) (now : ℕ) → plays_plain smooth c now ≡ true → Plays smooth c now
unfolding plays_plain
plays_so smooth c now h =
    let a : Bool = not smooth in
    let b : Bool = is_plain c in
    let d : Bool = ltb (elapsed_at c now) (2 ^ 24) in
    let h₁ = and_r a (b && d) (yes h) in
    record { sharp = not-true smooth (is_true a (and_l a (b && d) (yes h))); profile = is_true b (and_l b d h₁); early = ltb→lt _ _ (and_r b d h₁) }

pub so_plays : (smooth : Bool) (c : Clip) (now : ℕ) → Plays smooth c now → plays_plain smooth c now ≡ true
unfolding plays_plain
so_plays smooth c now p = simp (p.sharp, p.profile) (lt-ltb (elapsed_at c now) (2 ^ 24) p.early)

pub record Sized (c : Clip) : Type 0 where
  pub length_low : 1 ≤ as_whole 64 c.length
  pub length_top : as_whole 64 c.length ≤ 2 ^ 22
  pub start_top : as_whole 64 c.start ≤ 2 ^ 22

pub sized : (c : Clip) → is_plain c ≡ true → Sized c
sized c h =
    let p = (tested c h).plain in
    record { length_low = p.length_low; length_top = p.length_top; start_top = p.start_top }

-- ---- equal floats are equal either way
sign_swap : (s t : Bool) → beq s t ≡ beq t s
sign_swap true true = refl
sign_swap true false = refl
sign_swap false true = refl
sign_swap false false = refl

level_swap : (s t : Bool) (a b : ℕ) → T (level s a t b) → T (level t b s a)
level_swap s t a b h =
    let e : a ≡ b = eqb→eq a b (and_l (eqb a b) (beq s t || eqb a 0) h) in
    and_i (eqb b a) _ (eq→eqb (sym e)) (subst (λ (z : Bool). T (z || eqb b 0)) (sign_swap s t) (subst (λ (n : ℕ). T (beq s t || eqb n 0)) e (and_r (eqb a b) (beq s t || eqb a 0) h)))

eq_swap : (x y : Float) → T (eq x y) → T (eq y x)
unfolding eq
eq_swap nan y h = absurd h
eq_swap (inf s) nan h = absurd h
eq_swap (inf s) (inf t) h = subst T (sign_swap s t) h
eq_swap (inf s) (fin t n d) h = absurd h
eq_swap (fin s m e) nan h = absurd h
eq_swap (fin s m e) (inf t) h = absurd h
eq_swap (fin s m e) (fin t n d) h = level_swap s t (m * up e * down d) (n * up d * down e) h

-- ---- the tick
pub record Can (t : Tick) : Type 0 where
  pub loops : t.mode ≡ Loop
  pub sharp : t.interpolates ≡ false
  pub length : WholeIn 1 (2 ^ 22) t.span.length
  pub total : WholeIn 1 (2 ^ 22) t.span.data_length

pub can_so : (t : Tick) → can_plain t ≡ true → Can t
unfolding can_plain
can_so t h =
    let a : Bool = same_mode t.mode Loop in
    let b : Bool = not t.interpolates in
    let l : Bool = is_whole_in 1 (2 ^ 22) t.span.length in
    let d : Bool = is_whole_in 1 (2 ^ 22) t.span.data_length in
    let h₁ = and_r a (b && (l && d)) (yes h) in
    let h₂ = and_r b (l && d) h₁ in
    record {
      loops = same_modes t.mode Loop (and_l a (b && (l && d)) (yes h));
      sharp = not-true t.interpolates (is_true b (and_l b (l && d) h₁));
      length = whole_in 1 (2 ^ 22) t.span.length (and_l l d h₂);
      total = whole_in 1 (2 ^ 22) t.span.data_length (and_r l d h₂);
    }

pub lengths_fit : (t : Tick) → can_plain t ≡ true → (as_whole 64 t.span.length < 2 ^ 32) × (as_whole 64 t.span.data_length < 2 ^ 32)
lengths_fit t h = let can = can_so t h in (omega (arith, can.length.top), omega (arith, can.total.top))

-- its lengths aren't 0, so a voice of it can be plain
record Beats (t : Tick) (b : Beat) : Type 0 where
  can : Can t
  length : b.length ≡ as_whole 64 t.span.length
  total : b.total ≡ as_whole 64 t.span.data_length

beats : (t : Tick) (b : Beat) (place : ℕ) → b ≡ beat_of t → place < b.length → Beats t b
unfolding beat_of
beats t b place is below =
    let k : can_plain t ≡ true = go (can_plain t) (subst (λ (n : ℕ). place < n) (ap (λ (x : Beat). x.length) is) below) in
    record {
      can = can_so t k;
      length = ap (λ (x : Beat). x.length) is ∙ ap (λ (on : Bool). cond on (as_whole 64 t.span.length) 0) k;
      total = ap (λ (x : Beat). x.total) is ∙ ap (λ (on : Bool). cond on (as_whole 64 t.span.data_length) 0) k;
    }
  where
    go : (on : Bool) → place < cond on (as_whole 64 t.span.length) 0 → on ≡ true
    go true lt = refl
    go false lt = absurd (omega (arith, lt))

-- ---- the tests of `agrees`
module _ (h : Hot) (c : Clip) (t : Tick) (b : Beat) (speed : Float) (last : ℕ) where
  pub agreed : (m : Bool) (e : ℕ) → m ≡ same_mode c.mode Loop → e ≡ elapsed_at c t.now
      → (eq c.speed one32 && (eq c.length t.span.length && (eq c.data_length t.span.data_length && eq c.shift zero32))) ≡ true → h.start ≤ 2 ^ 22
      → (m && (eq speed one32 && (eq (as_float h.start) c.start && (leb h.start b.total && (leb e last && (eqb (h.lap * b.length + h.place) e && ltb h.place b.length)))))) ≡ true
      → b ≡ beat_of t → Agrees h c t b speed last
  unfolding same_all
  agreed m e mode now same small told is =
      let sp : Bool = eq c.speed one32 in
      let len : Bool = eq c.length t.span.length in
      let da : Bool = eq c.data_length t.span.data_length in
      let sh : Bool = eq c.shift zero32 in
      let g₁ = and_r sp (len && (da && sh)) (yes same) in
      let g₂ = and_r len (da && sh) g₁ in
      let ts : Bool = eq speed one32 in
      let st : Bool = eq (as_float h.start) c.start in
      let inside : Bool = leb h.start b.total in
      let early : Bool = leb e last in
      let stands : Bool = eqb (h.lap * b.length + h.place) e in
      let below : Bool = ltb h.place b.length in
      let h₁ = and_r m _ (yes told) in
      let h₂ = and_r ts _ h₁ in
      let h₃ = and_r st _ h₂ in
      let h₄ = and_r inside _ h₃ in
      let h₅ = and_r early (stands && below) h₄ in
      let place : h.place < b.length = ltb→lt _ _ (and_r stands below h₅) in
      let beat : Beats t b = beats t b h.place is place in
      let loops : c.mode ≡ Loop = same_modes c.mode Loop (yes (sym mode ∙ is_true m (and_l m _ (yes told)))) in
      let speed_is : Is c.speed 1 = equal_is 1 one_is (lit≤ tt) (and_l sp _ (yes same)) in
      let length_same : T (eq t.span.length c.length) = eq_swap c.length t.span.length (and_l len (da && sh) g₁) in
      let total_same : T (eq t.span.data_length c.data_length) = eq_swap c.data_length t.span.data_length (and_l da sh g₂) in
      let speed_same : T (eq speed c.speed) = is_equal 1 (equal_is 1 one_is (lit≤ tt) (and_l ts _ h₁)) speed_is (lit≤ tt) in
      let mode_same : T (same_mode t.mode c.mode) = yes (ap₂ (λ (x y : Mode). same_mode x y) beat.can.loops loops) in
      let u : Bool = eq t.span.length c.length in
      let v : Bool = eq speed c.speed in
      let w : Bool = eq t.span.data_length c.data_length in
      let length : WholeIn 1 (2 ^ 22) t.span.length = beat.can.length in
      let total : WholeIn 1 (2 ^ 22) t.span.data_length = beat.can.total in
      record {
        same = is_true (u && v && w && same_mode t.mode c.mode) (and_i (u && v && w) _ (and_i (u && v) w (and_i u v length_same speed_same) total_same) mode_same);
        profile = record {
          loops = loops;
          shift = equal_is 0 zero_is zero-le (and_r da sh g₂);
          speed = speed_is;
          start_is = equal_is h.start (float_is h.start (le_trans small (lit≤ tt))) (le_trans small (lit≤ tt)) (eq_swap (as_float h.start) c.start (and_l st _ h₂));
          length_is = subst (Is c.length) (sym beat.length) (equal_is _ length.is (le_trans length.top (lit≤ tt)) (and_l len (da && sh) g₁));
          total-is = subst (Is c.data_length) (sym beat.total) (equal_is _ total.is (le_trans total.top (lit≤ tt)) (and_l da sh g₂));
          start_top = small;
          length_low = subst (λ (n : ℕ). 1 ≤ n) (sym beat.length) length.low;
          length_top = subst (λ (n : ℕ). n ≤ 2 ^ 22) (sym beat.length) length.top;
          total_low = subst (λ (n : ℕ). 1 ≤ n) (sym beat.total) total.low;
          total_top = subst (λ (n : ℕ). n ≤ 2 ^ 22) (sym beat.total) total.top;
        };
        inside = leb→le _ _ (and_l inside _ h₃);
        sharp = beat.can.sharp;
        early = subst (λ (n : ℕ). n ≤ last) now (leb→le _ _ (and_l early (stands && below) h₄));
        place = place;
        stands = eqb→eq _ _ (and_l stands below h₅) ∙ now;
      }

-- ---- the position moved by one is that of one sample on
module _ (c : Clip) (h : Hot) (e length : ℕ) (length_is : as_whole 64 c.length ≡ length) (start_is : as_whole 64 c.start ≡ h.start) (stands : h.lap * length + h.place ≡ e) (inside : h.place < length) where
  low : 1 ≤ length
  low = omega (arith, inside)

  -- a count of so many laps and a place
  hot_of : (q r : ℕ) → e + 1 ≡ q * length + r → r < length → hot_after c (e + 1) ≡ record { place = r; lap = q; start = h.start; plain = true }
  unfolding hot_after
  hot_of q r is below =
      ap₂ (λ (len s : ℕ). record { place = (e + 1) % len; lap = (e + 1) / len; start = s; plain = true }) length_is start_is
      ∙ ap₂ (λ (p l : ℕ). record { place = p; lap = l; start = h.start; plain = true })
      (ap (λ (n : ℕ). n % length) is ∙ mul-add-mod_self_right q length r ∙ mod-eq_of_lt below)
      (ap (λ (n : ℕ). n / length) is ∙ mul-add-div_right low q r ∙ ap (λ (n : ℕ). q + n) (div-eq_of_lt below) ∙ add-zero q)

  -- in this lap, or at the front of the next
  next_hot : (on : Bool) → ltb (h.place + 1) length ≡ on
      → cond on (record { place = h.place + 1; lap = h.lap; start = h.start; plain = true }) (record { place = 0; lap = h.lap + 1; start = h.start; plain = true }) ≡ hot_after c (e + 1)
  next_hot true is = sym (hot_of h.lap (h.place + 1) (omega (arith, stands)) (ltb-true _ _ is))
  next_hot false is = sym (hot_of (h.lap + 1) 0 (omega (arith, stands, inside, ltb-false (h.place + 1) length is, add-mul h.lap 1 length, one-mul length)) low)

  lap_few : h.lap ≤ e
  lap_few = omega (arith, stands, mul-le-mul_left h.lap low)

  pub stepped_to : length ≤ 2 ^ 22 → e < 2 ^ 24 → stepped_hot h length ≡ hot_after c (e + 1)
  unfolding stepped_hot
  stepped_to short few =
      ap₂ (λ (p l : ℕ). cond (ltb p length) (record { place = p; lap = h.lap; start = h.start; plain = true }) (record { place = 0; lap = l; start = h.start; plain = true }))
      (mod-eq_of_lt (omega (arith, inside, short))) (mod-eq_of_lt (omega (arith, lap_few, few)))
      ∙ next_hot (ltb (h.place + 1) length) refl

-- ---- what a position says that agrees
module _ {h : Hot} {c : Clip} {t : Tick} {b : Beat} {speed : Float} {last : ℕ} (agrees : Agrees h c t b speed last) (few : last < 2 ^ 24) where
  abbrev e : ℕ
  e = elapsed_at c t.now

  abbrev length : ℕ
  length = b.length

  early : e < 2 ^ 24
  early = omega (arith, agrees.early, few)

  place_is : e % length ≡ h.place
  place_is = ap (λ (n : ℕ). n % length) (sym agrees.stands) ∙ mul-add-mod_self_right h.lap length h.place ∙ mod-eq_of_lt agrees.place

  index_by : index_at c t.now ≡ (h.start + h.place) % b.total
  index_by = index_is c t.now h.start length b.total agrees.profile (omega (arith, early)) ∙ ap (λ (n : ℕ). (h.start + n) % b.total) place_is

  pub index-first : h.start + h.place < b.total → h.start + h.place ≡ index_at c t.now
  index-first low = sym (index_by ∙ mod-eq_of_lt low)

  pub index_next : b.total ≤ h.start + h.place → h.start + h.place - b.total < b.total → h.start + h.place - b.total ≡ index_at c t.now
  index_next high low = sym (index_by ∙ mod-eq-sub-mod high ∙ mod-eq_of_lt low)

  pub plays_on : plays_plain t.interpolates c t.now ≡ true
  plays_on = so_plays t.interpolates c t.now (record { sharp = agrees.sharp; profile = passes c h.start length b.total agrees.profile agrees.inside; early = early })

  pub stepped_on : h.plain ≡ true → stepped_hot h length ≡ judged_of h t.interpolates c t.now
  unfolding judged_of
  stepped_on plain =
      stepped_to c h e length (cast_is length (le_trans agrees.profile.length_top (lit≤ tt)) agrees.profile.length_is) (cast_is h.start (le_trans agrees.profile.start_top (lit≤ tt)) agrees.profile.start_is)
      agrees.stands agrees.place agrees.profile.length_top early
      ∙ simp (plain, plays_on)
