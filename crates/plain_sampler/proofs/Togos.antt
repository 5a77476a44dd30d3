-- How many samples of a run each channel has to go, of entries of one channel, or of two in turn. Assumes nothing.
use mathlib.Core.Path.{◌≡◌, refl, sym, ap, ◌∙◌}
use mathlib.Core.Bool.{Bool, true, false, cond}
use mathlib.Core.Logic.{◌≢◌}
use Prim.Native.Nat.{ℕ, zero, suc, ◌+◌, ◌-◌, ◌/◌, ◌%◌, ◌<◌}
use native.Mathlib.Omega.{arith}
use borrow.Author.Tests.{ne_eqb}
use lib.Dec.{eqb}
use Rattle.lent_sampler.specs.Runs.{run_seat}
use Rattle.plain_sampler.specs.Streams.{to_go}

-- those of channel j from entry i on, of n
abbrev pub togo_by : Bool → ℕ → ℕ → ℕ → ℕ
togo_by one j i n = cond one (cond (eqb j 0) (n - i) 0) ((n - i + 1 - (i + j) % 2) / 2)

abbrev pub togo_of : ℕ → ℕ → ℕ → ℕ → ℕ
togo_of j i n count = togo_by (eqb count 1) j i n

abbrev seat_by : Bool → ℕ → ℕ
seat_by b i = cond b 0 (i % 2)

abbrev go_by : Bool → ℕ → ℕ → ℕ
go_by b i n = cond b (n - i) ((n - i - 1) / 2 + 1)

at : (b : Bool) (i n : ℕ) → i < n → togo_by b (seat_by b i) i n ≡ go_by b i n
at true i n h = refl
at false i n h = omega (arith, h)

some : (b : Bool) (i n : ℕ) → i < n → 0 < go_by b i n
some true i n h = omega (arith, h)
some false i n h = omega (arith, h)

less : (b : Bool) (i n : ℕ) → i < n → togo_by b (seat_by b i) (suc i) n ≡ go_by b i n - 1
less true i n h = omega (arith, h)
less false i n h = omega (arith, h)

-- of two numbers below 2 that differ
others : (j k : ℕ) → j < 2 → k < 2 → j ≢ k → j + k ≡ 1
others zero zero a b h = absurd (h refl)
others zero (suc zero) a b h = refl
others (suc zero) zero a b h = refl
others (suc zero) (suc zero) a b h = absurd (h refl)
others zero (suc (suc k)) a b h = absurd (omega (arith, b))
others (suc zero) (suc (suc k)) a b h = absurd (omega (arith, b))
others (suc (suc j)) k a b h = absurd (omega (arith, a))

other : (b : Bool) (j i n : ℕ) → j < 2 → j ≢ seat_by b i → i < n → togo_by b j (suc i) n ≡ togo_by b j i n
other true j i n low e h = let z : eqb j 0 ≡ false = ne_eqb j 0 e in ap (λ (b : Bool). cond b (n - suc i) 0) z ∙ sym (ap (λ (b : Bool). cond b (n - i) 0) z)
other false j i n low e h =
    let z : j + i % 2 ≡ 1 = others j (i % 2) low (omega arith) e in
    let odd : (i + j) % 2 ≡ 1 = omega (arith, z) in
    let even : (suc i + j) % 2 ≡ 0 = omega (arith, z) in
    let same : n - suc i + 1 - 0 ≡ n - i + 1 - 1 = omega (arith, h) in
    ap (λ (c : ℕ). (n - suc i + 1 - c) / 2) even ∙ ap (λ (c : ℕ). c / 2) same ∙ sym (ap (λ (c : ℕ). (n - i + 1 - c) / 2) odd)

none : (b : Bool) (j n : ℕ) → togo_by b j n n ≡ 0
none true j n = go (eqb j 0)
  where
    go : (b : Bool) → cond b (n - n) 0 ≡ 0
    go true = omega arith
    go false = refl
none false j n = omega arith

module _ (i n count : ℕ) (more : i < n) where
  -- at its channel's entry, and behind it
  pub togo_at : togo_of (run_seat i count) i n count ≡ to_go i n count
  unfolding run_seat
  togo_at = at (eqb count 1) i n more

  pub togo_less : togo_of (run_seat i count) (suc i) n count ≡ to_go i n count - 1
  unfolding run_seat
  togo_less = less (eqb count 1) i n more

  pub togo_some : 0 < to_go i n count
  togo_some = some (eqb count 1) i n more

  -- behind the other's
  pub togo_other : (j : ℕ) → j < 2 → j ≢ run_seat i count → togo_of j (suc i) n count ≡ togo_of j i n count
  unfolding run_seat
  togo_other j low e = other (eqb count 1) j i n low e more

pub togo_none : (j n count : ℕ) → togo_of j n n count ≡ 0
togo_none j n count = none (eqb count 1) j n
