-- Bytes of a list from a place on, and what stores leave there. Assumes nothing.
use mathlib.Core.Path.{◌≡◌, refl, sym, ap, ◌∙◌, subst}
use mathlib.Core.List.{List, [], ◌∷◌, ◌++◌}
use Prim.Native.Nat.{ℕ, zero, suc, ◌+◌, ◌-◌, ◌≤◌, ◌<◌}
use native.Mathlib.Numerals.{add-one}
use native.Mathlib.Nat.{add-zero}
use native.Mathlib.Omega.{arith}
use lib.ListN.{length, set, length-set}
use lib.Seq.{sets, length-sets, get_or-set_same, get_or-set_other}
use Rattle.walks.proofs.Lists.Runs.{run-append}
use Rattle.octets.specs.Octets.{byte_at, bytes_at}
use Rattle.song_grammar.proofs.Segments.{From, from_length, join}

module _ (f : List ℕ) where
  pub bytes_long : (k at : ℕ) → length (bytes_at k f at) ≡ k
  unfolding bytes_at
  bytes_long zero at = refl
  bytes_long (suc k) at = omega (arith, bytes_long k (at + 1))

  pub bytes_more : (k at : ℕ) → bytes_at (suc k) f at ≡ bytes_at k f at ++ (byte_at f (at + k) ∷ [])
  unfolding bytes_at
  bytes_more zero at = ap (λ (n : ℕ). byte_at f n ∷ []) (sym (add-zero at))
  bytes_more (suc k) at =
      let same : at + 1 + k ≡ at + suc k = omega arith in
      ap (λ (l : List ℕ). byte_at f at ∷ l) (bytes_more k (at + 1) ∙ ap (λ (n : ℕ). bytes_at k f (at + 1) ++ (byte_at f n ∷ [])) same)

  bytes_on : (k at : ℕ) → From f at (bytes_at k f at) (at + k)
  unfolding bytes_at
  bytes_on zero at = sym (add-zero at)
  bytes_on (suc k) at =
      let e : at + 1 + k ≡ at + suc k = omega arith in
      (refl, subst (From f (at + 1) (bytes_at k f (at + 1))) e (bytes_on k (at + 1)))

  pub bytes_from : (at next : ℕ) → at ≤ next → From f at (bytes_at (next - at) f at) next
  bytes_from at next h = subst (From f at (bytes_at (next - at) f at)) (omega arith) (bytes_on (next - at) at)

  bytes_same : (bytes : List ℕ) (at next : ℕ) → From f at bytes next → bytes_at (length bytes) f at ≡ bytes
  unfolding bytes_at
  bytes_same [] at next h = refl
  bytes_same (b ∷ bytes) at next h = rw (h.0, bytes_same bytes (at + 1) next h.1)

  pub bytes_are : (bytes : List ℕ) (at next : ℕ) → From f at bytes next → bytes_at (next - at) f at ≡ bytes
  bytes_are bytes at next h =
      let long : next - at ≡ length bytes = omega (arith, from_length f at bytes next h) in
      ap (λ (k : ℕ). bytes_at k f at) long ∙ bytes_same bytes at next h

-- ---- stores
pub byte_before : (vs l : List ℕ) (i j : ℕ) → j < i → byte_at (sets l i vs) j ≡ byte_at l j
byte_before [] l i j h = refl
byte_before (v ∷ vs) l i j h = byte_before vs (set l i v) (suc i) j (omega arith) ∙ get_or-set_other l i j v 0 (λ e. omega arith)

byte_after : (vs l : List ℕ) (i j : ℕ) → i + length vs ≤ j → byte_at (sets l i vs) j ≡ byte_at l j
byte_after [] l i j h = refl
byte_after (v ∷ vs) l i j h = byte_after vs (set l i v) (suc i) j (omega arith) ∙ get_or-set_other l i j v 0 (λ e. omega arith)

module _ (vs l : List ℕ) (i : ℕ) where
  -- what stands behind them
  pub bytes_after : (k at : ℕ) → i + length vs ≤ at → bytes_at k (sets l i vs) at ≡ bytes_at k l at
  unfolding bytes_at
  bytes_after zero at h = refl
  bytes_after (suc k) at h = rw (byte_after vs l i at h, bytes_after k (at + 1) (omega arith))

  -- what stands before them
  pub from_kept : (bytes : List ℕ) (at next : ℕ) → From l at bytes next → next ≤ i → From (sets l i vs) at bytes next
  from_kept [] at next h k = h
  from_kept (b ∷ bytes) at next h k =
      let long = from_length l (at + 1) bytes next h.1 in
      (byte_before vs l i at (omega arith) ∙ h.0, from_kept bytes (at + 1) next h.1 k)

pub from_sets : (vs l : List ℕ) (i : ℕ) → i + length vs ≤ length l → From (sets l i vs) i vs (i + length vs)
from_sets [] l i h = sym (add-zero i)
from_sets (v ∷ vs) l i h =
    let more : suc i + length vs ≤ length (set l i v) = rw (length-set l i v) (omega arith) in
    let rest = from_sets vs (set l i v) (suc i) more in
    let next : suc i + length vs ≡ i + length (v ∷ vs) = omega arith in (
      byte_before vs (set l i v) (suc i) i (omega arith) ∙ get_or-set_same l i v 0 (omega arith),
      subst (λ (k : ℕ). From (sets (set l i v) (suc i) vs) k vs (i + length (v ∷ vs))) (sym (add-one i))
          (subst (From (sets (set l i v) (suc i) vs) (suc i) vs) next rest),
    )

-- behind those from the front on
pub from_more : (vs l pre : List ℕ) (at i : ℕ) → From l at pre i → i + length vs ≤ length l → From (sets l i vs) at (pre ++ vs) (i + length vs)
from_more vs l pre at i h room =
    join (sets l i vs) at pre i vs (i + length vs) (from_kept vs l i pre at i h (omega arith)) (from_sets vs l i room)

-- a copy, with one byte more
pub copy_more : (f l : List ℕ) (at from i : ℕ) → set (sets l at (bytes_at i f from)) (at + i) (byte_at f (from + i)) ≡ sets l at (bytes_at (i + 1) f from)
copy_more f l at from i =
    let long = bytes_long f i from in
    ap (λ (n : ℕ). set (sets l at (bytes_at i f from)) (at + n) (byte_at f (from + i))) (sym long)
    ∙ run-append l (bytes_at i f from) (byte_at f (from + i) ∷ []) at
    ∙ ap (sets l at) (sym (bytes_more f i from) ∙ ap (λ (n : ℕ). bytes_at n f from) (sym (add-one i)))

-- one run of stores behind another
pub behind : (l xs ys : List ℕ) (at r : ℕ) {x y : List ℕ} → r ≡ at + length xs → x ≡ sets l at xs → y ≡ sets x r ys → y ≡ sets l at (xs ++ ys)
behind l xs ys at r e f g = g ∙ rw (f, e) (run-append l xs ys at)

pub sets_long : {x : List ℕ} (l vs : List ℕ) (i : ℕ) → x ≡ sets l i vs → length x ≡ length l
sets_long l vs i e = ap length e ∙ length-sets l i vs

-- three stores
pub three : (l : List ℕ) (r a b d : ℕ) → set (set (set l r a) (r + 1) b) (r + 2) d ≡ sets l r (a ∷ b ∷ d ∷ [])
three l r a b d =
    let one_more : r + 1 ≡ suc r = omega arith in
    let two_more : r + 2 ≡ suc (suc r) = omega arith in
    rw (one_more, two_more)
