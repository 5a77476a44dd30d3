-- A chunk at a place of a file: what the reader reads of it, and that what it reads is a chunk. Assumes nothing.
use mathlib.Core.Path.{◌≡◌, sym, ap, ◌∙◌}
use mathlib.Core.List.{List, ◌++◌, append_assoc}
use Prim.Native.Nat.{ℕ, ◌+◌, ◌-◌, ◌%◌, ◌≤◌}
use native.Mathlib.Nat.{add_assoc}
use native.Mathlib.Omega.{arith}
use lib.ListN.{length, take, drop, length-append, length-drop, take-append-drop}
use lib.Seq.{drop-drop, length-take-le}
use Rattle.octets.specs.Octets.{Bytes, little_bytes}
use Rattle.octets.proofs.Orders.{length_little}
use Rattle.wave.specs.Fields.{four_at}
use Rattle.wave.specs.Reader.{padded_at}
use Rattle.wave.specs.Grammar.{Chunk, WholeChunk, chunk_bytes}
use Rattle.wave.proofs.Standing.{stands_next, four_stands, behind_four, four_splits, four_below}

pub record Stands (f : List ℕ) (at : ℕ) (c : Chunk) : Type 0 where
  pub whole : WholeChunk c
  pub rest : List ℕ
  pub here : drop at f ≡ chunk_bytes c ++ rest

-- ---- what the reader reads of it
module _ (f : List ℕ) (at : ℕ) (c : Chunk) (s : Stands f at c) where
  fields : drop at f ≡ little_bytes 4 c.id ++ (little_bytes 4 (length c.body) ++ (c.body ++ (c.pad ++ s.rest)))
  unfolding chunk_bytes
  fields = s.here ∙ simp append_assoc

  pub stands_id : four_at f at ≡ c.id
  stands_id = four_stands c.id f at _ s.whole.named fields

  behind_id : drop (at + 4) f ≡ little_bytes 4 (length c.body) ++ (c.body ++ (c.pad ++ s.rest))
  behind_id = behind_four c.id f at _ fields

  pub stands_size : four_at f (at + 4) ≡ length c.body
  stands_size = four_stands (length c.body) f (at + 4) _ s.whole.sized behind_id

  pub stands_body : drop (at + 8) f ≡ c.body ++ (c.pad ++ s.rest)
  stands_body = rw add_assoc at (behind_four (length c.body) f (at + 4) _ behind_id)

  stands_padded : padded_at f at ≡ length c.body + length c.pad
  unfolding padded_at
  stands_padded = rw (stands_size, s.whole.padded)

  pub stands_behind : drop (at + 8 + padded_at f at) f ≡ s.rest
  stands_behind =
      let padded : length (c.body ++ c.pad) ≡ padded_at f at = length-append c.body c.pad ∙ sym stands_padded in
      stands_next (c.body ++ c.pad) f (at + 8) (padded_at f at) s.rest padded (stands_body ∙ sym (append_assoc c.body c.pad s.rest))

  pub stands_whole : at + 8 + padded_at f at ≤ length f
  stands_whole =
      let all : length f - at ≡ 4 + (4 + (length c.body + (length c.pad + length s.rest))) = sym (length-drop at f) ∙ ap length fields ∙ simp (length-append, length_little) in
      omega (arith, stands_padded)

  pub stands_long : at + 8 + four_at f (at + 4) ≤ length f
  unfolding padded_at
  stands_long = omega (arith, stands_whole)

-- ---- what it reads is a chunk
abbrev pub chunk_of : List ℕ → ℕ → Chunk
chunk_of f at = record {
  id = four_at f at;
  body = take (four_at f (at + 4)) (drop (at + 8) f);
  pad = take (four_at f (at + 4) % 2) (drop (at + 8 + four_at f (at + 4)) f);
}

regroup : (a b c d rest : List ℕ) {x y z w : List ℕ} → x ≡ a ++ y → y ≡ b ++ z → z ≡ c ++ w → w ≡ d ++ rest → x ≡ a ++ b ++ c ++ d ++ rest
regroup a b c d rest e g h k =
    e ∙ ap (λ (l : List ℕ). a ++ l) (g ∙ ap (λ (l : List ℕ). b ++ l) (h ∙ ap (λ (l : List ℕ). c ++ l) k)) ∙ sym (simp append_assoc)

-- n bytes and what stands behind them
part : (f : List ℕ) (at n : ℕ) → drop at f ≡ take n (drop at f) ++ drop (at + n) f
part f at n = sym (take-append-drop n (drop at f)) ∙ ap (λ (l : List ℕ). take n (drop at f) ++ l) (drop-drop n at f)

pub chunk_stands : (f : List ℕ) (at : ℕ) → Bytes f → at + 8 + padded_at f at ≤ length f → Stands f at (chunk_of f at)
unfolding padded_at chunk_bytes
chunk_stands f at bytes h =
    let size = four_at f (at + 4) in
    let long : size ≤ length (drop (at + 8) f) = rw length-drop (omega arith) in
    let long_pad : size % 2 ≤ length (drop (at + 8 + size) f) = rw length-drop (omega arith) in
    let body : length (take size (drop (at + 8) f)) ≡ size = length-take-le size (drop (at + 8) f) long in
    record {
      whole = record { named = four_below f at bytes; sized = rw body (four_below f (at + 4) bytes); padded = length-take-le (size % 2) (drop (at + 8 + size) f) long_pad ∙ rw body };
      rest = drop (at + 8 + size + size % 2) f;
      here = rw body (regroup (little_bytes 4 (four_at f at)) (little_bytes 4 size) (take size (drop (at + 8) f)) (take (size % 2) (drop (at + 8 + size) f))
          (drop (at + 8 + size + size % 2) f) (four_splits f at bytes (omega arith)) (four_splits f (at + 4) bytes (omega arith))
          (ap (λ (n : ℕ). drop n f) (add_assoc at 4 4) ∙ part f (at + 8) size) (part f (at + 8 + size) (size % 2)));
    }

pub chunk_behind : (f : List ℕ) (at : ℕ) (bytes : Bytes f) (h : at + 8 + padded_at f at ≤ length f)
    → drop at f ≡ chunk_bytes (chunk_of f at) ++ drop (at + 8 + padded_at f at) f
chunk_behind f at bytes h =
    let s = chunk_stands f at bytes h in
    s.here ∙ ap (λ (l : List ℕ). chunk_bytes (chunk_of f at) ++ l) (sym (stands_behind f at (chunk_of f at) s))
