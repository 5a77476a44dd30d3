-- A NaN told by comparing a value with itself, as the programs here do, and what a NaN does to a sum. Assumes nothing.
use Rattle.std.proofs.Common.{◌≡◌, Bool, true, false, not, T, sym, refl, ◌∙◌, true≢false}
use lib.Ieee.{Float, nan, inf, fin, Format, is_nan, eq, ne, lt, add}
use lib.Ieee.Bits.{is_false}
use lib.Ieee.Compare.{differs_from_itself}
use Rattle.binary32.proofs.Truth.{yes}

pub is_nan_lem : (x : Float) → ne x x ≡ true → x ≡ nan
is_nan_lem x h = differs_from_itself x (yes h)

pub no_nan : (x : Float) → ne x x ≡ false → is_nan x ≡ false
unfolding ne is_nan
no_nan nan h = absurd (true≢false h)
no_nan (inf s) h = refl
no_nan (fin s m e) h = refl

pub nan_test : (x : Float) → ne x x ≡ is_nan x
nan_test x = go (ne x x) refl
  where
    go : (b : Bool) → ne x x ≡ b → b ≡ is_nan x
    go true h = simp (is_nan_lem x h) (unfold is_nan in refl)
    go false h = sym (no_nan x h)

pub equals_itself : (x : Float) → T (not (is_nan x)) → eq x x ≡ true
unfolding ne
equals_itself x h = go (eq x x) (nan_test x ∙ is_false (is_nan x) h)
  where
    go : (b : Bool) → not b ≡ false → b ≡ true
    go true e = refl
    go false e = absurd (true≢false e)

pub tells_nan : (x : Float) → is_nan x ≡ true → x ≡ nan
unfolding is_nan
tells_nan nan h = refl
tells_nan (inf s) h = absurd (true≢false (sym h))
tells_nan (fin s m e) h = absurd (true≢false (sym h))

pub below_no_nan : (x y : Float) → lt x y ≡ true → is_nan x ≡ false
unfolding lt is_nan
below_no_nan nan y h = absurd (true≢false (sym h))
below_no_nan (inf s) y h = refl
below_no_nan (fin s m e) y h = refl

pub nan_sum : (f : Format) (x y : Float) → T (is_nan x) → T (is_nan (add f x y))
unfolding is_nan add
nan_sum f nan y h = tt
nan_sum f (inf s) y h = absurd h
nan_sum f (fin s m e) y h = absurd h
