-- The way from a place in a good clip to the data and back ends below the length, though each sum and difference on it rounds: so the clip's own offset is always found in it.
-- Up to 2 ^ 23 each multiple of 1/2 is a float, so that start + place rounds up by less than 1/2, and its distance from the start by less than 1/2 again; the place was at most length - 1.
-- Assumes nothing.
use mathlib.Core.Path.{◌≡◌, refl, ap, subst}
use mathlib.Core.Logic.{inl, inr}
use Prim.Native.Nat.{ℕ, ◌+◌, ◌-◌, ◌*◌, ◌%◌, ◌^◌, ◌≤◌, ◌<◌}
use native.Mathlib.Nat.{le_trans, le_of_eq, lt_of_le_of_lt, lt_of_lt_of_le, add-le-add, sub-le, le-add_right, mod-le, mod-eq_of_lt, mod-eq-sub-mod}
use native.Mathlib.Omega.{arith}
use mathlib.Core.Bool.{Bool, not, cond}
use lib.Dec.{T, leb, leb→le, nleb→lt, lit≤}
use lib.Pow.{pow_pos}
use lib.Ieee.{Float, binary32, add, sub, lt, le, fits}
use lib.Ieee.Fits.{add-fits}
use lib.Ieee.Bits.{is_true}
use Rattle.binary32.proofs.Truth.{yes_or_no, cond_split}
use Rattle.binary32.proofs.Units.{Units, le_units}
use Rattle.binary32.proofs.Rounding.{rd, rd_mono, rd_grid, rd_le, rd_ge, rd_near}
use Rattle.binary32.proofs.Sums.{add_units, sub_units, sub_over_value}
use Rattle.clip.specs.Positions.{clip_to_data_of}
use Rattle.clip.specs.Updates.{back_of, found_at}
use Rattle.clip.specs.Bounds.{Fitting, Sound, Inside}
use Rattle.clip.specs.declared.Clip.{Clip}
use Rattle.std.specs.Prelude.{Some, None}
use Rattle.clip.proofs.Lengths.{units_lt, negative_lt}
use Rattle.clip.proofs.Offsets.{Counts, counts, sum_under, data_units, data_fits}

-- ---- numbers: o is 1 and h is 1/2, in units
once : (s r n o h t : ℕ) → o ≡ h + h → o ≤ n → r ≤ n - o → t < s + r + h → t - s ≤ n
once s r n o h t e a b c = omega arith

twice : (s r n o h t w : ℕ) → o ≡ h + h → o ≤ n → r ≤ n - o → t < s + r + h → w < t - s + h → w < n
twice s r n o h t w e a b c d = omega arith

returns_below : (s r n : ℕ) → s ≤ 2 ^ 22 * 2 ^ 149 → n ≤ 2 ^ 22 * 2 ^ 149 → 2 ^ 149 ≤ n → r ≤ n - 2 ^ 149 → rd binary32 (rd binary32 (s + r) - s) < n
returns_below s r n S N o R =
    let t = rd binary32 (s + r) in
    let up : t < s + r + 2 ^ 148 = rd_near binary32 (s + r) 148 (le_trans (add-le-add S (le_trans R (le_trans (sub-le n (2 ^ 149)) N))) (lit≤ tt)) in
    twice s r n (2 ^ 149) (2 ^ 148) t (rd binary32 (t - s)) refl o R up
    (rd_near binary32 (t - s) 148 (le_trans (once s r n (2 ^ 149) (2 ^ 148) t refl o R up) (le_trans N (lit≤ tt))))

-- a remainder below s, of a t that isn't, has left a divisor out
wrapped_under : (t d s : ℕ) → s ≤ t → t % d < s → t % d + d ≤ t
wrapped_under t d s a b = elim (yes_or_no (leb d t)) [
  | inl h ↦ more t d (t % d) (leb→le d t h) (le_trans (le_of_eq (mod-eq-sub-mod (leb→le d t h))) (mod-le (t - d) d))
  | inr h ↦ absurd (none t s (t % d) a b (mod-eq_of_lt (nleb→lt d t h)))
]
  where
    more : (t d m : ℕ) → d ≤ t → m ≤ t - d → m + d ≤ t
    more t d m h k = omega arith

    none : (t s m : ℕ) → s ≤ t → m < s → m ≡ t → ⊥
    none t s m a b e = omega arith

-- ---- from the data back to the clip
module _ (c : Clip) (f : Fitting c) (p : Float) (k : Counts c p) where
  -- in the data
  abbrev x : Float
  x = clip_to_data_of c p

  -- start and place together, rounded
  abbrev t : ℕ
  t = rd binary32 (k.s + k.r)

  at_data : Units binary32 x (t % k.d)
  at_data = data_units c p k f.data_length

  above_start : k.s ≤ t
  above_start = rd_ge k.start_grid (le-add_right k.s k.r)

  short : {w : ℕ} → w ≤ t → rd binary32 (w - k.s) < k.n
  short {w} h = lt_of_le_of_lt (rd_mono binary32 (less w t k.s h)) (returns_below k.s k.r k.n k.start_top k.length_top k.length_low k.place_top)
    where
      less : (w t s : ℕ) → w ≤ t → w - s ≤ t - s
      less w t s h = omega arith

  ahead : T (le c.start x) → T (lt (sub binary32 x c.start) c.length)
  ahead h =
      units_lt (sub_units at_data k.start (data_fits c p) (leb→le k.s (t % k.d) (subst T (le_units k.start at_data) h))) k.length (short (mod-le t k.d))

  behind : T (not (le c.start x)) → T (lt (sub binary32 (add binary32 x c.data_length) c.start) c.length)
  behind h =
      let y = add binary32 x c.data_length in
      let w = rd binary32 (t % k.d + k.d) in
      let before : t % k.d < k.s = nleb→lt k.s (t % k.d) (subst (λ (b : Bool). T (not b)) (le_units k.start at_data) h) in
      let top : w ≤ t = rd_le (rd_grid binary32 (k.s + k.r)) (wrapped_under t k.d k.s above_start before) in
      let round_end : Units binary32 y w = add_units at_data k.data_length (lt_of_le_of_lt top (sum_under c p k)) in
      elim (yes_or_no (leb k.s w)) [
        | inl a ↦ units_lt (sub_units round_end k.start (add-fits binary32 x c.data_length) (leb→le k.s w a)) k.length (short top)
        | inr a ↦ negative_lt (sub binary32 y c.start) (rd binary32 (k.s - w)) (sub_over_value round_end k.start f.start (nleb→lt k.s w a)) k.length (lt_of_lt_of_le (pow_pos 149) k.length_low)
      ]

  back_below : T (lt (back_of c x) c.length)
  unfolding back_of
  back_below = cond_split (λ (z : Float). T (lt z c.length)) (le c.start x) (sub binary32 x c.start) (sub binary32 (add binary32 x c.data_length) c.start) ahead behind

pub never_missing : (c : Clip) → Sound c → (p : Float) → T (fits binary32 p) → Inside p c.length
    → found_at c (clip_to_data_of c p) ≡ Some (back_of c (clip_to_data_of c p))
unfolding found_at
never_missing c h p t i =
    let y = back_of c (clip_to_data_of c p) in
    ap (λ (b : Bool). cond b (Some y) None) (is_true (lt y c.length) (back_below c h.fitting p (counts c h p t i)))
