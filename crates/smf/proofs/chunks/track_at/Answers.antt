-- `track_at` meets its contract. The invariant: the search from here on, with a step for each byte that is left, finds what the whole search does. Assumes nothing.
-- what is left, and the end of what is due
use mathlib.Core.Path.{◌≡◌, refl, sym, ◌∙◌}
use mathlib.Core.Bool.{true, false}
use Prim.Native.Nat.{ℕ, pred, ◌+◌, ◌-◌, ◌≤◌, ◌<◌}
use native.Mathlib.Omega.{arith}
use lib.Dec.{ltb}
use lib.ListN.{length}
use borrow.Author.Tests.{lt-ltb, le-ltb, lt-leb, eq-eqb, ne_eqb}
use Rattle.smf.specs.Files.{chunk_at, track_at}
use Rattle.smf.proofs.Searches.{track_on, track_over}
use Rattle.smf.proofs.chunks.track_at.Goals as goal

short : (all at n : ℕ) → at < all → all - at < n → ltb all (at + n) ≡ true
short all at n h k = lt-ltb all (at + n) (omega arith)

room : (all at n : ℕ) → at < all → n ≤ all - at → ltb all (at + n) ≡ false
room all at n h k = le-ltb all (at + n) (omega arith)

short_rest : (all at n : ℕ) → 8 ≤ all - at → all - at - 8 < n → ltb all (at + 8 + n) ≡ true
short_rest all at n h k = lt-ltb all (at + 8 + n) (omega arith)

room_rest : (all at n : ℕ) → 8 ≤ all - at → n ≤ all - at - 8 → ltb all (at + 8 + n) ≡ false
room_rest all at n h k = le-ltb all (at + 8 + n) (omega arith)

pub loop-place-init : goal.loop-place-init
unfolding track_at
loop-place-init c = (length c.args.file.now, omega arith, refl)

pub returns-then-all-place-lt4 : goal.returns-then-all-place-lt4
unfolding chunk_at
returns-then-all-place-lt4 c = (simp (lt-leb _ _ c.loop-place-test.true, short _ _ 4 c.loop-place-test.true c.if-all-place-lt4.true)) ∙ sym (track_on _ _ _ c.loop-place-test.true c.loop-place.invariant.1) ∙ c.loop-place.invariant.2

pub returns-then-kind-eq-HEADER_TYPE : goal.returns-then-kind-eq-HEADER_TYPE
unfolding chunk_at
returns-then-kind-eq-HEADER_TYPE c = (simp (lt-leb _ _ c.loop-place-test.true, room _ _ 4 c.loop-place-test.true c.if-all-place-lt4.false, ← c.four_at-kind.ensures, eq-eqb _ _ c.if-kind-eq-HEADER_TYPE.true)) ∙ sym (track_on _ _ _ c.loop-place-test.true c.loop-place.invariant.1) ∙ c.loop-place.invariant.2

pub returns-then-kind-eq-TRACK_TYPE : goal.returns-then-kind-eq-TRACK_TYPE
unfolding chunk_at
returns-then-kind-eq-TRACK_TYPE c = (simp (lt-leb _ _ c.loop-place-test.true, room _ _ 4 c.loop-place-test.true c.if-all-place-lt4.false, ← c.four_at-kind.ensures, ne_eqb _ _ c.if-kind-eq-HEADER_TYPE.false, eq-eqb _ _ c.if-kind-eq-TRACK_TYPE.true)) ∙ sym (track_on _ _ _ c.loop-place-test.true c.loop-place.invariant.1) ∙ c.loop-place.invariant.2

pub returns-then-all-place-lt8 : goal.returns-then-all-place-lt8
unfolding chunk_at
returns-then-all-place-lt8 c = (simp (lt-leb _ _ c.loop-place-test.true, room _ _ 4 c.loop-place-test.true c.if-all-place-lt4.false, ← c.four_at-kind.ensures, ne_eqb _ _ c.if-kind-eq-HEADER_TYPE.false, ne_eqb _ _ c.if-kind-eq-TRACK_TYPE.false, short _ _ 8 c.loop-place-test.true c.if-all-place-lt8.true)) ∙ sym (track_on _ _ _ c.loop-place-test.true c.loop-place.invariant.1) ∙ c.loop-place.invariant.2

pub returns-then-all-place : goal.returns-then-all-place
unfolding chunk_at
returns-then-all-place c = (simp (lt-leb _ _ c.loop-place-test.true, room _ _ 4 c.loop-place-test.true c.if-all-place-lt4.false, ← c.four_at-kind.ensures, ne_eqb _ _ c.if-kind-eq-HEADER_TYPE.false, ne_eqb _ _ c.if-kind-eq-TRACK_TYPE.false, room _ _ 8 c.loop-place-test.true c.if-all-place-lt8.false, ← c.four_at-size.ensures, short_rest _ _ _ c.if-all-place-lt8.false c.if-all-place.true)) ∙ sym (track_on _ _ _ c.loop-place-test.true c.loop-place.invariant.1) ∙ c.loop-place.invariant.2

pub loop-place-preserved : goal.loop-place-preserved
unfolding chunk_at
loop-place-preserved c = let n = c.loop-place.invariant.0 in (
  pred n,
  omega arith,
  sym (simp (lt-leb _ _ c.loop-place-test.true, room _ _ 4 c.loop-place-test.true c.if-all-place-lt4.false, ← c.four_at-kind.ensures, ne_eqb _ _ c.if-kind-eq-HEADER_TYPE.false, ne_eqb _ _ c.if-kind-eq-TRACK_TYPE.false, room _ _ 8 c.loop-place-test.true c.if-all-place-lt8.false, ← c.four_at-size.ensures, room_rest _ _ _ c.if-all-place-lt8.false c.if-all-place.false)) ∙ sym (track_on _ _ _ c.loop-place-test.true c.loop-place.invariant.1) ∙ c.loop-place.invariant.2,
)

pub returns : goal.returns
returns c = sym (track_over _ _ _ c.loop-place-test.false) ∙ c.loop-place.invariant.2
