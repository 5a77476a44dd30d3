-- `quantity_at` meets its contract. The invariant: what is left of the quantity, after the bytes that were read, is the whole quantity. Assumes nothing.
use mathlib.Core.Path.{◌≡◌, refl, sym, ◌∙◌}
use Prim.Native.Nat.{suc, ◌+◌, ◌-◌}
use native.Mathlib.Omega.{arith}
use Rattle.smf.proofs.Quantities.{quantity_missing, quantity_last, quantity_long, quantity_more, value_more, value_small}
use Rattle.smf.proofs.fields.quantity_at.Goals as goal

pub loop-place-init : goal.loop-place-init
loop-place-init c = record { few = omega arith; small = omega arith; is_whole = refl }

pub returns-then-end-place : goal.returns-then-end-place
returns-then-end-place c = sym (quantity_missing _ _ _ _ _ c.if-end-place.true) ∙ c.loop-place.invariant.is_whole

pub overflow_mul-result : goal.overflow_mul-result
overflow_mul-result c = omega (arith, value_small _ _ c.loop-place.invariant.few c.loop-place.invariant.small)

pub overflow_add-result : goal.overflow_add-result
overflow_add-result c = omega (arith, value_small _ _ c.loop-place.invariant.few c.loop-place.invariant.small)

pub returns-then-byte-lt128 : goal.returns-then-byte-lt128
returns-then-byte-lt128 c = (let e = c.byte_at-byte.ensures in rw e (sym (quantity_last _ _ _ _ _ c.if-end-place.false (rw (sym e) c.if-byte-lt128.true)))) ∙ c.loop-place.invariant.is_whole

pub returns-then-used-eq3 : goal.returns-then-used-eq3
returns-then-used-eq3 c = let none : 3 - c.loop-place.used ≡ 0 = omega arith in
    let e = c.byte_at-byte.ensures in
    sym (quantity_long _ _ _ _ c.if-end-place.false (rw (sym e) c.if-byte-lt128.false)) ∙ (rw none at c.loop-place.invariant.is_whole)

pub overflow_mul-value : goal.overflow_mul-value
overflow_mul-value c = omega (arith, value_small _ _ c.loop-place.invariant.few c.loop-place.invariant.small)

pub overflow_add-value : goal.overflow_add-value
overflow_add-value c = omega (arith, value_small _ _ c.loop-place.invariant.few c.loop-place.invariant.small)

pub loop-place-preserved : goal.loop-place-preserved
loop-place-preserved c = let one : 3 - c.loop-place.used ≡ suc (3 - (c.loop-place.used + 1)) = omega arith in
    let e = c.byte_at-byte.ensures in record {
      few = omega arith;
      small = value_more _ _ _ c.loop-place.invariant.small (omega arith);
      is_whole = rw e (sym (quantity_more _ _ _ _ (3 - (c.loop-place.used + 1)) c.if-end-place.false (rw (sym e) c.if-byte-lt128.false)) ∙ (rw one at c.loop-place.invariant.is_whole));
    }
