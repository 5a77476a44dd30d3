-- `binary32::rest_of` meets its contract: the law `places_rest`, of the digits and places that `places` reads. Assumes nothing.
use Rattle.std.proofs.Common.{◌≡◌, ℕ, ◌+◌, ◌-◌, ◌*◌, ◌%◌, ◌^◌, ◌<◌, ◌≤◌, false, pos, sym, ap, ap₂, ◌∙◌, lt_trans, le_of_lt, mod-lt}
use lib.Ieee.{Float, binary32, round, rem, mul, of_int}
use Rattle.binary32.specs.Leaves.{float_of}
use Rattle.binary32.proofs.Rests.{Places, Read, digits_read, read_back, some_digits, pattern_round, places_rest, places_less, left_float, no_nan_bits}
use Rattle.binary32.proofs.rest_of.Goals as goal

-- the digits and places of both
module _ (a j b k : ℕ) (A : Read a j) (B : Read b k) where
  abbrev m : ℕ
  m = a - j * 2 ^ 23

  abbrev n : ℕ
  n = b - k * 2 ^ 23

  p : Places m j
  p = digits_read a j A

  q : Places n k
  q = digits_read b k B

  back : rem binary32 (float_of (j * 2 ^ 23 + m)) (float_of (k * 2 ^ 23 + n)) ≡ rem binary32 (float_of a) (float_of b)
  back = ap₂ (λ (x y : ℕ). rem binary32 (float_of x) (float_of y)) (read_back a j A) (read_back b k B)

  less : j < k → float_of a ≡ rem binary32 (float_of a) (float_of b)
  less h = ap float_of (sym (read_back a j A)) ∙ sym (places_less m j n k p q h) ∙ back

  rest : 0 < b → k ≤ j → (r : ℕ) (u : Float) → r ≡ m * 2 ^ (j - k) % n → u ≡ round binary32 false (2 ^ k) (2 ^ 149)
      → mul binary32 (of_int binary32 (pos r)) u ≡ rem binary32 (float_of a) (float_of b)
  rest S h r u e g =
      let N : 0 < n = some_digits b k B S in
      ap₂ (λ (x : ℕ) (y : Float). mul binary32 (of_int binary32 (pos x)) y) e g
      ∙ left_float (m * 2 ^ (j - k) % n) k (le_of_lt (lt_trans (mod-lt (m * 2 ^ (j - k)) N) q.few)) B.3
      ∙ sym (places_rest m j n k p q N h)
      ∙ back

pub float_from_bits-result : goal.float_from_bits-result
float_from_bits-result c =
    let a = c.args.a in
    let j = c.places-from.result in
    let r = c.places-from.ensures in
    no_nan_bits a _ _ (ap float_of (sym (read_back a j r)) ∙ pattern_round (a - j * 2 ^ 23) j (digits_read a j r))

pub returns-then-from-to : goal.returns-then-from-to
returns-then-from-to c = less c.args.a c.places-from.result c.args.b c.places-to.result c.places-from.ensures c.places-to.ensures c.if-from-to.true

pub returns-else-from-to : goal.returns-else-from-to
returns-else-from-to c =
    rest c.args.a c.places-from.result c.args.b c.places-to.result c.places-from.ensures c.places-to.ensures c.requires.1 c.if-from-to.false _ _ c.scaled_rest.ensures c.unit.ensures
