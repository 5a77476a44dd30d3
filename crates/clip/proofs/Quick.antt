-- What the quick functions and their parts answer, where they do, is what the definitions of Positions say. Assumes nothing.
use mathlib.Core.Path.{◌≡◌, ap, sym, ◌∙◌, subst}
use Prim.Native.Nat.{ℕ, ◌+◌, ◌^◌, ◌<◌}
use native.Mathlib.Nat.{add-zero}
use native.Mathlib.Omega.{arith}
use mathlib.Core.Bool.{Bool, true, false, not, ◌&&◌, cond}
use lib.Dec.{T, not_T}
use lib.Ieee.{Float, binary32, add, sub, rem, lt, le, eq, fits, is_nan, of_int}
use lib.Ieee.Bits.{is_true}
use lib.Ieee.Fits.{and_l, and_r}
use Rattle.binary32.specs.Leaves.{zero32, one32, as_float}
use Rattle.binary32.proofs.Values.{finite_not_nan, equal_same}
use Rattle.binary32.proofs.Between.{le_not_nan, le_lt_trans, lt_le_clash, eq→le, total}
use Rattle.binary32.proofs.Wholes.{float_sum}
use Rattle.binary32.proofs.Remainders.{rem_operands, rem_twice_less}
use Rattle.binary32.proofs.Quotients.{sub_operands}
use Rattle.clip.specs.Positions.{lead_of, looped_of, wrapped_of, clamped_of, placed_of, clip_to_data_of, offset_at, index_of, position_of, position_at, index_at}
use Rattle.clip.specs.Updates.{same_values}
use Rattle.clip.specs.Quick.{no_index, QuickIndex, QuickFraction}
use Rattle.clip.specs.declared.Mode.{Mode}
use Rattle.clip.specs.declared.Clip.{Clip}
use Rattle.clip.specs.declared.Near.{Near}

-- below 2 ^ 24 samples the lead adds to them as a whole number does
pub lead_added : (n : ℕ) (speed : Float) (b : Bool) → lt speed zero32 ≡ b → n < 2 ^ 24 → add binary32 (as_float n) (lead_of speed) ≡ as_float (cond b (n + 1) n)
unfolding lead_of of_int
lead_added n speed true e h = ap (λ (t : Bool). add binary32 (as_float n) (cond t one32 zero32)) e ∙ float_sum n 1 (omega (arith, h))
lead_added n speed false e h = ap (λ (t : Bool). add binary32 (as_float n) (cond t one32 zero32)) e ∙ float_sum n 0 (omega (arith, h)) ∙ ap as_float (add-zero n)

-- a remainder that isn't below 0 is the place in the loop
pub looped_ahead : (x length r : Float) → T (le zero32 r) → r ≡ rem binary32 x length → r ≡ looped_of x length
unfolding looped_of
looped_ahead x length r h e =
    let y = rem binary32 x length in
    e ∙ sym (ap (λ (b : Bool). cond b y (add binary32 y length)) (is_true (le zero32 y) (subst (λ (z : Float). T (le zero32 z)) e h)))

-- a difference from 0 to below the length is the remainder
pub once_round : (s length : Float) → T (fits binary32 s) → T (fits binary32 length) → T (not (lt s length)) → T (lt (sub binary32 s length) length) → T (le zero32 (sub binary32 s length))
    → sub binary32 s length ≡ rem binary32 s length
once_round s length t u n h k =
    let d = sub binary32 s length in
    let o = sub_operands binary32 s length length k h in
    sym (rem_twice_less binary32 s length t u (le_lt_trans zero32 d length k h) (total length s (finite_not_nan length o.1) (finite_not_nan s o.0) n) h)

above_not_zero : (x : Float) → T (lt zero32 x) → T (not (eq x zero32))
above_not_zero x h = not_T (eq x zero32) (λ (e : T (eq x zero32)). lt_le_clash zero32 x h (eq→le x zero32 e))

-- what is no less than 0 is no remainder by 0
pub divided : (s length r : Float) → T (le zero32 r) → r ≡ rem binary32 s length → T (not (eq length zero32))
divided s length r h e = (rem_operands binary32 s length (subst (λ (z : Float). T (not (is_nan z))) e (le_not_nan zero32 r h).1)).2

-- what x comes to is worked out with lengths that the clip's own equal
pub offset_worked : (c : Clip) (x length speed data_length : Float) → T (same_values c length speed data_length) → T (fits binary32 length) → T (fits binary32 c.length)
    → T (fits binary32 data_length) → T (fits binary32 c.data_length) → T (lt zero32 length) → T (not (eq data_length zero32))
    → rem binary32 (add binary32 c.start (clamped_of (wrapped_of c.mode x length) length)) data_length ≡ clip_to_data_of c (placed_of c.mode x c.length)
unfolding clip_to_data_of placed_of
offset_worked c x length speed data_length h t u v w above not-zero =
    let a : Bool = eq length c.length in
    let b : Bool = eq speed c.speed in
    let p : Bool = eq data_length c.data_length in
    let offset : Float → Float → Float =
    λ (l d : Float). rem binary32 (add binary32 c.start (clamped_of (wrapped_of c.mode x l) l)) d in
    ap (λ (l : Float). offset l data_length) (equal_same binary32 length c.length t u (above_not_zero length above) (and_l a b (and_l (a && b) p h)))
    ∙ ap (offset c.length) (equal_same binary32 data_length c.data_length v w not-zero (and_r (a && b) p h))

-- the fraction of what the quick index answers is the clip's
pub quick_fraction : (c : Clip) (now : ℕ) (length speed data_length : Float) (mode : Mode) (near : Near) (r : Float) → QuickIndex c now length speed data_length mode near → QuickFraction near r
    → near.index < no_index → r ≡ (position_at c now).fraction
unfolding index_at
quick_fraction c now length speed data_length mode near r found rest some =
    let at = found some in
    let is : near.offset ≡ offset_at c now = at.2 in
    rest some (at.1 ∙ ap index_of (sym is)) at.3 ∙ ap (λ (x : Float). (position_of x).fraction) is
