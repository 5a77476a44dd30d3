-- The fields of a file: what stands at a place, read and split off. Assumes nothing.
use mathlib.Core.Path.{◌≡◌, refl, sym, ap, ◌∙◌}
use mathlib.Core.List.{List, [], ◌∷◌, ◌++◌, append_assoc}
use Prim.Native.Nat.{ℕ, zero, suc, ◌+◌, ◌*◌, ◌^◌, ◌≤◌, ◌<◌}
use native.Mathlib.Nat.{add-zero, mul-zero, mul-one, mul-suc, mul-add}
use native.Mathlib.Omega.{arith}
use lib.ListN.{length, take, drop, get_or, length-append, length-drop, take-append-drop}
use lib.Seq.{drop-drop, drop_at, get_or-drop, length-take-le}
use Rattle.walks.specs.Each.{Each}
use Rattle.walks.proofs.Lists.Each.{each_front}
use Rattle.octets.specs.Octets.{byte_at, bytes_at, Byte, Bytes, little_of, little_bytes}
use Rattle.octets.proofs.Orders.{length_little, number_back, bytes_back, bytes_within, number_below}
use Rattle.wave.specs.Fields.{two_at, four_at, number_bytes, word_bytes, listed}

-- ---- what is known to stand at a place is read there

bytes_stand : (bs : List ℕ) (f : List ℕ) (at : ℕ) (rest : List ℕ) → drop at f ≡ bs ++ rest → bytes_at (length bs) f at ≡ bs
unfolding bytes_at
bytes_stand [] f at rest e = refl
bytes_stand (b ∷ bs) f at rest e =
    let here : byte_at f at ≡ b = ap (byte_at f) (sym (add-zero at)) ∙ sym (get_or-drop at f 0 0) ∙ ap (λ (l : List ℕ). get_or l 0 0) e in
    let next : drop (at + 1) f ≡ bs ++ rest = sym (drop-drop 1 at f) ∙ ap (drop 1) e in
    rw (here, bytes_stand bs f (at + 1) rest next)

number_stands : (k x : ℕ) (f : List ℕ) (at : ℕ) (rest : List ℕ) → x < 256 ^ k → drop at f ≡ little_bytes k x ++ rest → little_of (bytes_at k f at) ≡ x
number_stands k x f at rest h e =
    let read : bytes_at k f at ≡ little_bytes k x = rw length_little at (bytes_stand (little_bytes k x) f at rest e) in
    ap little_of read ∙ number_back k x h

-- what stands behind it
pub stands_next : (bs : List ℕ) (f : List ℕ) (at n : ℕ) (rest : List ℕ) → length bs ≡ n → drop at f ≡ bs ++ rest → drop (at + n) f ≡ rest
stands_next bs f at n rest h e = sym (drop-drop n at f) ∙ ap (drop n) e ∙ drop_at bs rest n h

-- ---- what is read at a place stands there
each-drop : (P : ℕ → Type 0) (n : ℕ) (l : List ℕ) → Each P l → Each P (drop n l)
unfolding Each
each-drop P zero l h = h
each-drop P (suc n) [] h = h
each-drop P (suc n) (x ∷ l) h = each-drop P n l h.1

pub number_splits : (k : ℕ) (f : List ℕ) (at : ℕ) → Bytes f → at + k ≤ length f → drop at f ≡ little_bytes k (little_of (bytes_at k f at)) ++ drop (at + k) f
number_splits k f at bytes h =
    let long : k ≤ length (drop at f) = rw length-drop (omega arith) in
    let front : bytes_at k f at ≡ take k (drop at f) = bytes_within k f at h in
    let back : little_bytes k (little_of (take k (drop at f))) ≡ take k (drop at f) =
    rw (length-take-le k (drop at f) long) at (bytes_back (take k (drop at f)) (each_front Byte (drop at f) k (each-drop Byte at f bytes))) in
    sym (take-append-drop k (drop at f)) ∙ rw (front, back, drop-drop)

-- ---- numbers of two and of four bytes
module _ (x : ℕ) (f : List ℕ) (at : ℕ) (rest : List ℕ) where
  pub two_stands : x < 2 ^ 16 → drop at f ≡ little_bytes 2 x ++ rest → two_at f at ≡ x
  unfolding two_at
  two_stands h e = number_stands 2 x f at rest h e

  pub four_stands : x < 2 ^ 32 → drop at f ≡ little_bytes 4 x ++ rest → four_at f at ≡ x
  unfolding four_at
  four_stands h e = number_stands 4 x f at rest h e

  pub behind_two : drop at f ≡ little_bytes 2 x ++ rest → drop (at + 2) f ≡ rest
  behind_two e = stands_next (little_bytes 2 x) f at 2 rest (length_little 2 x) e

  pub behind_four : drop at f ≡ little_bytes 4 x ++ rest → drop (at + 4) f ≡ rest
  behind_four e = stands_next (little_bytes 4 x) f at 4 rest (length_little 4 x) e

module _ (f : List ℕ) (at : ℕ) (bytes : Bytes f) where
  pub two_splits : at + 2 ≤ length f → drop at f ≡ little_bytes 2 (two_at f at) ++ drop (at + 2) f
  unfolding two_at
  two_splits h = number_splits 2 f at bytes h

  pub four_splits : at + 4 ≤ length f → drop at f ≡ little_bytes 4 (four_at f at) ++ drop (at + 4) f
  unfolding four_at
  four_splits h = number_splits 4 f at bytes h

  pub two_below : two_at f at < 2 ^ 16
  unfolding two_at
  two_below = number_below 2 f at bytes

  pub four_below : four_at f at < 2 ^ 32
  unfolding four_at
  four_below = number_below 4 f at bytes

-- ---- numbers of k bytes, one behind the other
pub length-numbers : (k : ℕ) (ns : List ℕ) → length (number_bytes k ns) ≡ k * length ns
unfolding number_bytes
length-numbers k [] = sym (mul-zero k)
length-numbers k (n ∷ ns) = simp (length-append, length_little) (omega (arith, length-numbers k ns, mul-suc k (length ns)))

pub length-listed : (g : ℕ → ℕ) (k n : ℕ) → length (listed g k n) ≡ n
unfolding listed
length-listed g k zero = refl
length-listed g k (suc n) = ap suc (length-listed g (k + 1) n)

module _ (k : ℕ) (f : List ℕ) (first : ℕ) where
  abbrev pub number_on : ℕ → ℕ
  number_on i = little_of (bytes_at k f (first + k * i))

  on : (at i : ℕ) → at ≡ first + k * i → at + k ≡ first + k * (i + 1)
  on at i e = omega (arith, mul-add k i 1, mul-one k)

  -- those that stand in a file are read one by one
  pub numbers_stand : (ns : List ℕ) (i at : ℕ) (rest : List ℕ) → at ≡ first + k * i → Each (λ (n : ℕ). n < 256 ^ k) ns
      → drop at f ≡ number_bytes k ns ++ rest → listed number_on i (length ns) ≡ ns
  unfolding listed number_bytes Each
  numbers_stand [] i at rest e h s = refl
  numbers_stand (n ∷ ns) i at rest e h s =
      let here : drop at f ≡ little_bytes k n ++ (number_bytes k ns ++ rest) = s ∙ append_assoc (little_bytes k n) (number_bytes k ns) rest in
      let read : number_on i ≡ n = ap (λ (x : ℕ). little_of (bytes_at k f x)) (sym e) ∙ number_stands k n f at _ h.0 here in
      rw (read, numbers_stand ns (i + 1) (at + k) rest (on at i e) h.1 (stands_next (little_bytes k n) f at k _ (length_little k n) here))

  -- and those that are read one by one stand in the file
  pub numbers_split : Bytes f → (n i at : ℕ) → at ≡ first + k * i → at + k * n ≤ length f
      → drop at f ≡ number_bytes k (listed number_on i n) ++ drop (at + k * n) f
  unfolding listed number_bytes
  numbers_split bytes zero i at e h = ap (λ (x : ℕ). drop x f) (sym (ap (λ (x : ℕ). at + x) (mul-zero k) ∙ add-zero at))
  numbers_split bytes (suc n) i at e h =
      let more = number_bytes k (listed number_on (i + 1) n) in
      let times = mul-suc k n in
      let same : at + k + k * n ≡ at + k * suc n = omega arith in
      let next : drop (at + k) f ≡ more ++ drop (at + k * suc n) f =
      numbers_split bytes n (i + 1) (at + k) (on at i e) (omega arith) ∙ ap (λ (x : ℕ). more ++ drop x f) same in
      rw (← e) (number_splits k f at bytes (omega arith) ∙ ap (λ (l : List ℕ). little_bytes k (little_of (bytes_at k f at)) ++ l) next
      ∙ sym (append_assoc (little_bytes k (little_of (bytes_at k f at))) more _))

  pub numbers_fit : Bytes f → (n i : ℕ) → Each (λ (x : ℕ). x < 256 ^ k) (listed number_on i n)
  unfolding listed Each
  numbers_fit bytes zero i = tt
  numbers_fit bytes (suc n) i = (number_below k f (first + k * i) bytes, numbers_fit bytes n (i + 1))

-- ---- words, which are numbers of four bytes
abbrev pub Word : ℕ → Type 0
Word w = w < 2 ^ 32

pub words_are : (ws : List ℕ) → word_bytes ws ≡ number_bytes 4 ws
unfolding word_bytes number_bytes
words_are [] = refl
words_are (w ∷ ws) = ap (λ (l : List ℕ). little_bytes 4 w ++ l) (words_are ws)

pub length_words : (ws : List ℕ) → length (word_bytes ws) ≡ 4 * length ws
length_words ws = ap length (words_are ws) ∙ length-numbers 4 ws

pub words_stand : (ws : List ℕ) (f : List ℕ) (first k at : ℕ) (rest : List ℕ) → at ≡ first + 4 * k → Each Word ws → drop at f ≡ word_bytes ws ++ rest
    → listed (λ (i : ℕ). four_at f (first + 4 * i)) k (length ws) ≡ ws
unfolding four_at
words_stand ws f first k at rest e h s = numbers_stand 4 f first ws k at rest e h (s ∙ ap (λ (l : List ℕ). l ++ rest) (words_are ws))

module _ (f : List ℕ) (bytes : Bytes f) (first : ℕ) where
  pub words_split : (n k at : ℕ) → at ≡ first + 4 * k → at + 4 * n ≤ length f
      → drop at f ≡ word_bytes (listed (λ (i : ℕ). four_at f (first + 4 * i)) k n) ++ drop (at + 4 * n) f
  unfolding four_at
  words_split n k at e h =
      numbers_split 4 f first bytes n k at e h ∙ ap (λ (l : List ℕ). l ++ drop (at + 4 * n) f) (sym (words_are (listed (number_on 4 f first) k n)))

  pub words_fit : (n k : ℕ) → Each Word (listed (λ (i : ℕ). four_at f (first + 4 * i)) k n)
  unfolding four_at
  words_fit n k = numbers_fit 4 f first bytes n k
