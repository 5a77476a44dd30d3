-- The two orders of a number's bytes, and that a number and its bytes, the least significant first, say the same. Assumes nothing.
use mathlib.Core.Path.{◌≡◌, refl, ap, ◌∙◌}
use mathlib.Core.List.{List, [], ◌∷◌, ◌++◌, reverse, reverse-cons}
use Prim.Native.Nat.{ℕ, zero, suc, ◌+◌, ◌*◌, ◌/◌, ◌%◌, ◌^◌, ◌≤◌, ◌<◌}
use native.Mathlib.Nat.{zero-add, mod-lt, mod-eq_of_lt, add-mul-mod_self_left, add-mul-div_left, div-eq_of_lt, div-add-mod', div-lt_iff_lt-mul, pow-suc}
use native.Mathlib.Numerals.{add-one}
use native.Mathlib.Omega.{arith}
use lib.ListN.{length, take, drop}
use lib.Seq.{drop-cons}
use Rattle.walks.specs.Each.{Each}
use Rattle.octets.specs.Octets.{byte_at, bytes_at, Bytes, number_after, number_of, little_of, little_bytes}

-- ---- one order is the other of the bytes turned round

number-last : (n : ℕ) (bs : List ℕ) (b : ℕ) → number_after n (bs ++ (b ∷ [])) ≡ number_after n bs * 256 + b
unfolding number_after
number-last n [] b = refl
number-last n (x ∷ bs) b = number-last (n * 256 + x) bs b

pub turned : (bs : List ℕ) → little_of bs ≡ number_of (reverse bs)
unfolding little_of number_of number_after
turned [] = refl
turned (b ∷ bs) =
    let last : number_of (reverse bs ++ (b ∷ [])) ≡ number_of (reverse bs) * 256 + b = number-last 0 (reverse bs) b in
    rw reverse-cons (omega (arith, last, turned bs))

-- ---- a number from its bytes, and bytes from their number

pub length_little : (k n : ℕ) → length (little_bytes k n) ≡ k
unfolding little_bytes
length_little zero n = refl
length_little (suc k) n = ap suc (length_little k (n / 256))

pub little_are_bytes : (k n : ℕ) → Bytes (little_bytes k n)
unfolding little_bytes Each
little_are_bytes zero n = tt
little_are_bytes (suc k) n = (mod-lt n (omega arith), little_are_bytes k (n / 256))

pub number_back : (k n : ℕ) → n < 256 ^ k → little_of (little_bytes k n) ≡ n
unfolding little_of little_bytes
number_back zero n h = omega arith
number_back (suc k) n h =
    let less : n / 256 < 256 ^ k = (div-lt_iff_lt-mul {k = 256} (omega arith)).1 (rw pow-suc at h) in
    omega (arith, number_back k (n / 256) less, div-add-mod' n 256)

pub bytes_back : (bs : List ℕ) → Bytes bs → little_bytes (length bs) (little_of bs) ≡ bs
unfolding little_of little_bytes Each
bytes_back [] h = refl
bytes_back (b ∷ bs) h =
    let first : (b + 256 * little_of bs) % 256 ≡ b = add-mul-mod_self_left b 256 (little_of bs) ∙ mod-eq_of_lt h.0 in
    let rest : (b + 256 * little_of bs) / 256 ≡ little_of bs =
    add-mul-div_left b (little_of bs) {y = 256} (omega arith) ∙ ap (λ (n : ℕ). n + little_of bs) (div-eq_of_lt h.0) ∙ zero-add (little_of bs) in
    rw (first, rest, bytes_back bs h.1)

-- ---- bytes of a file

pub bytes_within : (k : ℕ) (f : List ℕ) (at : ℕ) → at + k ≤ length f → bytes_at k f at ≡ take k (drop at f)
unfolding bytes_at
bytes_within zero f at h = refl
bytes_within (suc k) f at h =
    let next : at + 1 + k ≤ length f = omega arith in
    rw (drop-cons f at 0 (omega arith), ← add-one at, bytes_within k f (at + 1) next)

byte_below : (f : List ℕ) (at : ℕ) → Bytes f → byte_at f at < 256
unfolding Each
byte_below [] at h = omega arith
byte_below (b ∷ f) zero h = h.0
byte_below (b ∷ f) (suc at) h = byte_below f at h.1

pub number_below : (k : ℕ) (f : List ℕ) (at : ℕ) → Bytes f → little_of (bytes_at k f at) < 256 ^ k
unfolding bytes_at little_of
number_below zero f at h = omega arith
number_below (suc k) f at h = rw pow-suc (omega (arith, byte_below f at h, number_below k f (at + 1) h))
