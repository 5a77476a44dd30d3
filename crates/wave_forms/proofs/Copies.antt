-- The numbers of a file, byte by byte, and the words that they make, one behind the other. Assumes nothing.
use mathlib.Core.Path.{◌≡◌, refl, sym, ap, ◌∙◌}
use mathlib.Core.List.{List, append-nil}
use Prim.Native.Nat.{ℕ, suc, ◌+◌, ◌-◌, ◌*◌, ◌^◌, ◌≤◌, ◌<◌}
use native.Mathlib.Nat.{mul-le-mul, pow-suc, pow-le-pow_right}
use native.Mathlib.Omega.{arith}
use lib.ListN.{length}
use lib.Seq.{sets, length-sets}
use Rattle.octets.specs.Octets.{byte_at, bytes_at, little_of, little_bytes}
use Rattle.wave.specs.Fields.{word_bytes, listed}
use Rattle.wave.specs.Files.{word_put}
use Rattle.wave.proofs.Copies.{words_next}
use Rattle.wave.proofs.Calls.{word_done}
use Rattle.wave_forms.specs.Reader.{number_at}

-- ---- from the last byte to the first: n is what those from the place i on make
pub record Read (f : List ℕ) (at bytes i n : ℕ) : Type 0 where
  pub inside : i ≤ bytes
  pub is : n ≡ number_at f (bytes - i) (at + i)
  pub few : n < 256 ^ (bytes - i)

pub read_none : (f : List ℕ) (at bytes : ℕ) → Read f at bytes bytes 0
unfolding number_at bytes_at little_of
read_none f at bytes =
    let none : bytes - bytes ≡ 0 = omega arith in
    record { inside = omega arith; is = rw none; few = rw none (omega arith) }

pub read_all : (f : List ℕ) (at bytes i n : ℕ) → Read f at bytes i n → i ≡ 0 → (n ≡ number_at f bytes at) × (n < 256 ^ bytes)
read_all f at bytes i n r e =
    let all : bytes - i ≡ bytes = omega arith in
    let here : at + i ≡ at = omega arith in
    (rw (all, here) at r.is, rw all at r.few)

module _ (f : List ℕ) (at bytes i n : ℕ) (r : Read f at bytes i n) (some : 0 < i) where
  more : bytes - (i - 1) ≡ suc (bytes - i)
  more = let inside = r.inside in omega arith

  below : (b : ℕ) → b < 256 → n * 256 + b < 256 ^ suc (bytes - i)
  below b byte = omega (arith, pow-suc 256 (bytes - i), r.few)

  -- a byte more has room in 64 bits
  pub next_fits : (b : ℕ) → b < 256 → bytes ≤ 8 → n * 256 + b < 2 ^ 64
  next_fits b byte h =
      let few : suc (bytes - i) ≤ 8 = let inside = r.inside in omega arith in
      let room : 256 ^ suc (bytes - i) ≤ 256 ^ 8 = pow-le-pow_right (omega arith) few in
      omega (arith, below b byte, room)

  number_is : (b : ℕ) → b ≡ byte_at f (at + (i - 1)) → n * 256 + b ≡ number_at f (suc (bytes - i)) (at + (i - 1))
  unfolding number_at bytes_at little_of
  number_is b is =
      let next : at + (i - 1) + 1 ≡ at + i = omega arith in
      rw (next, ← r.is, ← is) (omega arith)

  pub read_next : (b : ℕ) → b ≡ byte_at f (at + (i - 1)) → b < 256 → Read f at bytes (i - 1) (n * 256 + b)
  read_next b is byte = record { inside = let inside = r.inside in omega arith; is = rw more (number_is b is); few = rw more (below b byte) }

-- ---- where number k stands
pub place_fits : (bytes k : ℕ) → bytes ≤ 8 → k < 2 ^ 30 → bytes * k ≤ 8 * 2 ^ 30
place_fits bytes k h g = mul-le-mul {n₁ = bytes} {m₁ = k} {n₂ = 8} {m₂ = 2 ^ 30} h (omega arith)

-- ---- a word more
abbrev pub written : List ℕ → (ℕ → ℕ) → ℕ → List ℕ
written out g k = sets out 58 (word_bytes (listed g 0 k))

pub written_none : (out : List ℕ) (g : ℕ → ℕ) → out ≡ written out g 0
unfolding word_bytes listed
written_none out g = refl

pub written_next : (out now : List ℕ) (g : ℕ → ℕ) (k word : ℕ) → now ≡ written out g k → word ≡ g k → 58 + 4 * k + 4 ≤ length now
    → word_put now (58 + 4 * k) word ≡ written out g (k + 1)
unfolding word_bytes listed
written_next out now g k word e h room =
    sym (word_done now (58 + 4 * k) word room) ∙ ap (sets now (58 + 4 * k)) (ap (little_bytes 4) h ∙ sym (append-nil (little_bytes 4 (g k)))) ∙ words_next out now g k 1 e

pub length_written : (out now : List ℕ) (g : ℕ → ℕ) (k : ℕ) → now ≡ written out g k → length now ≡ length out
length_written out now g k e = ap length e ∙ length-sets out 58 (word_bytes (listed g 0 k))
