-- The tests of rows 1 to 6 are document 01's. Assumes nothing.
use mathlib.Core.Path.{◌≡◌, refl, sym, ap, ◌∙◌}
use mathlib.Core.Bool.{Bool, true, false, not, ◌&&◌, ◌||◌, true≢false}
use mathlib.Core.Logic.{◌⊎◌, inl, inr, ◌≢◌, ◌↔◌}
use mathlib.Core.List.{List, [], ◌∷◌}
use Prim.Native.Nat.{ℕ, zero, suc, ◌^◌, ◌≤◌, ◌<◌}
use native.Mathlib.Omega.{arith}
use borrow.Author.Tests.{leb-true, le-leb, ltb-true, lt-ltb, ltb-false, le-ltb, eqb-false, ne_eqb, not-true, not-false}
use lib.Dec.{leb, ltb, eqb}
use lib.ListN.{take, get_or}
use lib.Ieee.{Float, le, lt, of_int}
use Rattle.binary32.specs.Leaves.{as_float, zero32, one32}
use Rattle.std.specs.List.{list_any}
use Rattle.walks.proofs.Tests.{joined}
use Rattle.walks.proofs.Lists.Every.{both}
use Rattle.common_types.specs.declared.Params.{Params}
use Rattle.common_types.specs.declared.Transport.{Transport}
use Rattle.common_types.specs.declared.time_value.TimeValue.{TimeValue}
use Rattle.common_types.specs.declared.time_value.TimeValue.TheVariants.{Bars}
use Rattle.common_types.specs.declared.time_value.TimeOrRatio.{TimeOrRatio}
use Rattle.common_types.specs.declared.time_value.TimeOrRatio.TheVariants.{Time, Ratio, WholeBars}
use Rattle.common_types.specs.Times.{as_samples_of}
use Rattle.common_types.specs.Settings.{time_length_of, length_beyond, beyond_limits}
use Rattle.channel.specs.declared.Channel.{Channel}
use Rattle.channel.specs.Heads.{head_of}
use Rattle.channel.specs.Channels.{channel_of, full_of}
use Rattle.sampler.specs.declared.Sampler.{Sampler}
use Rattle.sampler.specs.Refusals.{channel_at, no_channel, bad_position, any_full}
use Rattle.promises.specs.Broken.{In}
use Rattle.promises.specs.Rows.{Beyond, Full, RowTests}

-- ---- tests as facts
pub either : (a b : Bool) → (a || b) ≡ true → (a ≡ true) ⊎ (b ≡ true)
either true b h = inl refl
either false b h = inr h

pub one : (a b : Bool) → (a ≡ true) ⊎ (b ≡ true) → (a || b) ≡ true
one true b h = refl
one false b (inl h) = absurd (true≢false (sym h))
one false b (inr h) = h

-- one of the first n passes, where past the end stands one that doesn't
any_front : {A : Type 0} (p : A → Bool) (d : A) (l : List A) (n : ℕ) → list_any p (take n l) ≡ true → (j : ℕ) × (j < n) × (p (get_or l j d) ≡ true)
any_front p d l zero h = absurd (true≢false (sym h))
any_front p d [] (suc n) h = absurd (true≢false (sym h))
any_front p d (x ∷ l) (suc n) h = go (λ e. any_front p d l n e) (either (p x) (list_any p (take n l)) h)
  where
    go : (list_any p (take n l) ≡ true → (j : ℕ) × (j < n) × (p (get_or l j d) ≡ true)) → (p x ≡ true) ⊎ (list_any p (take n l) ≡ true) → (j : ℕ) × (j < suc n) × (p (get_or (x ∷ l) j d) ≡ true)
    go rest (inl e) = (0, omega arith, e)
    go rest (inr e) = let r = rest e in (suc r.0, omega arith, r.2)

front_any : {A : Type 0} (p : A → Bool) (d : A) → p d ≡ false → (l : List A) (n j : ℕ) → j < n → p (get_or l j d) ≡ true → list_any p (take n l) ≡ true
front_any p d g [] n j k h = absurd (true≢false (sym h ∙ g))
front_any p d g (x ∷ l) zero j k h = absurd (omega arith)
front_any p d g (x ∷ l) (suc n) zero k h = one (p x) (list_any p (take n l)) (inl h)
front_any p d g (x ∷ l) (suc n) (suc j) k h = one (p x) (list_any p (take n l)) (inr (front_any p d g l n j (omega arith) h))

-- ---- row 1
no_channel_lem : (s : Sampler) (j : ℕ) → (no_channel s j ≡ true) ↔ (s.count ≤ j)
no_channel_lem s j = (λ h. ltb-false j s.count (not-true (ltb j s.count) h), λ h. rw (le-ltb j s.count h))

-- ---- row 3
bad_position_lem : (x : Float) → (bad_position x ≡ false) ↔ In 0 1 x
unfolding of_int
bad_position_lem x = (to, from)
  where
    to : not (le zero32 x && le x one32) ≡ false → In 0 1 x
    to h = both (le zero32 x) (le x one32) (not-false _ h)

    from : In 0 1 x → not (le zero32 x && le x one32) ≡ false
    from h = rw (joined (le zero32 x) (le x one32) h.0 h.1)

-- ---- row 4
abbrev BeyondLength : TimeOrRatio → Transport → Type 0
BeyondLength l t =
    ((r : Float) × (l ≡ Ratio r) × (lt (as_float 1) r ≡ true))
    ⊎ (((v : TimeValue) × (l ≡ Time v) × (lt (as_float (2 ^ 22)) (time_length_of v t) ≡ true))
    ⊎ ((x : Float) × (l ≡ WholeBars x) × (lt (as_float (2 ^ 22)) (as_samples_of (Bars x) t) ≡ true)))

length_to : (l : TimeOrRatio) (t : Transport) → length_beyond l t ≡ true → BeyondLength l t
unfolding length_beyond of_int
length_to (Time v) t h = inr (inl (v, refl, h))
length_to (Ratio r) t h = inl (r, refl, h)
length_to (WholeBars x) t h = inr (inr (x, refl, h))

length_from : (l : TimeOrRatio) (t : Transport) → BeyondLength l t → length_beyond l t ≡ true
unfolding length_beyond of_int
length_from l t (inl (r, e, h)) = ap (λ (k : TimeOrRatio). length_beyond k t) e ∙ h
length_from l t (inr (inl (v, e, h))) = ap (λ (k : TimeOrRatio). length_beyond k t) e ∙ h
length_from l t (inr (inr (x, e, h))) = ap (λ (k : TimeOrRatio). length_beyond k t) e ∙ h

beyond : (p : Params) → (beyond_limits p ≡ true) ↔ Beyond p
unfolding beyond_limits
beyond p = (to, from)
  where
    a : Bool
    a = ltb 16777216 p.attack_samples

    d : Bool
    d = ltb 16777216 p.decay_samples

    l : Bool
    l = length_beyond p.loop_length p.transport

    to : ((a || d) || l) ≡ true → Beyond p
    to h = go (either (a || d) l h)
      where
        times : (a ≡ true) ⊎ (d ≡ true) → Beyond p
        times (inl e) = inl (ltb-true 16777216 _ e)
        times (inr e) = inr (inl (ltb-true 16777216 _ e))

        go : ((a || d) ≡ true) ⊎ (l ≡ true) → Beyond p
        go (inl e) = times (either a d e)
        go (inr e) = inr (inr (length_to p.loop_length p.transport e))

    from : Beyond p → ((a || d) || l) ≡ true
    from (inl h) = one (a || d) l (inl (one a d (inl (lt-ltb 16777216 _ h))))
    from (inr (inl h)) = one (a || d) l (inl (one a d (inr (lt-ltb 16777216 _ h))))
    from (inr (inr h)) = one (a || d) l (inr (length_from p.loop_length p.transport h))

-- ---- row 5
full_to : (c : Channel) → full_of c ≡ true → (c.head.data_len ≢ 0) × (32 ≤ c.count)
unfolding full_of
full_to c h =
    let g = both (not (eqb c.head.data_len 0)) (leb 32 c.count) h in
    (eqb-false c.head.data_len 0 (not-true (eqb c.head.data_len 0) g.0), leb-true 32 c.count g.1)

full_from : (c : Channel) → c.head.data_len ≢ 0 → 32 ≤ c.count → full_of c ≡ true
unfolding full_of
full_from c h k = rw (ne_eqb c.head.data_len 0 h) (le-leb 32 c.count k)

-- past the last channel stands one without a recording
blank_open : full_of (channel_of (record { auto_passthru = false })) ≡ false
unfolding full_of channel_of head_of
blank_open = refl

full : (s : Sampler) → (any_full s ≡ true) ↔ Full s
full s = (to, from)
  where
    to : any_full s ≡ true → Full s
    to h =
        let r = any_front full_of _ s.channels s.count h in
        let f = full_to (channel_at s r.0) r.2 in
        (r.0, r.1, f.0, f.1)

    from : Full s → any_full s ≡ true
    from (j, k, e, h) = front_any full_of _ blank_open s.channels s.count j k (full_from (channel_at s j) e h)

pub row_tests : RowTests
row_tests = record {
  no_channel_lem = no_channel_lem;
  bad_note_lem = λ note. (ltb-true 15 note.channel, lt-ltb 15 note.channel);
  bad_position_lem = bad_position_lem;
  beyond = beyond;
  full = full;
  at-end = λ c. (leb-true (2 ^ 48) c.head.now, le-leb (2 ^ 48) c.head.now);
}
