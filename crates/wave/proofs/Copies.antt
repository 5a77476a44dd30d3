-- The words that are copied: lists of them, and what a run of stores leaves. Assumes nothing.
use mathlib.Core.Path.{◌≡◌, refl, sym, ap, ◌∙◌}
use mathlib.Core.Bool.{Bool, true, false, cond}
use mathlib.Core.List.{List, [], ◌∷◌, ◌++◌, append_assoc, append-nil}
use mathlib.Core.Logic.{◌⊎◌, inl, inr}
use Prim.Native.Nat.{ℕ, zero, suc, ◌+◌, ◌*◌, ◌≤◌, ◌<◌}
use native.Mathlib.Nat.{add-zero, zero-add, zero-mul, suc-add, add-mul, mul_comm}
use native.Mathlib.Omega.{arith}
use lib.Dec.{eqb}
use lib.ListN.{length, get_or, set, length-set}
use lib.Seq.{sets, length-sets, get_or-set_same, get_or-set_other}
use borrow.Author.Tests.{ne_eqb}
use Rattle.walks.proofs.Lists.Runs.{run-append}
use Rattle.octets.specs.Octets.{little_bytes}
use Rattle.octets.proofs.Orders.{length_little}
use Rattle.wave.specs.Fields.{four_at, word_bytes, listed}
use Rattle.wave.specs.Reader.{words_in}
use Rattle.wave.specs.Memory.{start_at, word_of, frame_words, channel_words, channel_stored, stored_of}
use Rattle.wave.specs.declared.Layout.{Layout}
use Rattle.wave.specs.declared.Wave.{Wave}
use Rattle.wave.proofs.Standing.{length_words, length-listed}
use Rattle.wave.proofs.Layouts.{parted}
use Rattle.wave.proofs.Rows.{after}

-- ---- lists of words
pub get_d_listed : (g : ℕ → ℕ) (k n i : ℕ) → i < n → get_or (listed g k n) i 0 ≡ g (k + i)
unfolding listed
get_d_listed g k zero i h = absurd (omega arith)
get_d_listed g k (suc n) zero h = ap g (sym (add-zero k))
get_d_listed g k (suc n) (suc i) h =
    let same : k + 1 + i ≡ k + suc i = omega arith in
    get_d_listed g (k + 1) n i (omega arith) ∙ ap g same

listed-append : (g : ℕ → ℕ) (k a b : ℕ) → listed g k (a + b) ≡ listed g k a ++ listed g (k + a) b
unfolding listed
listed-append g k zero b = rw (zero-add b, add-zero k)
listed-append g k (suc a) b =
    let same : k + 1 + a ≡ k + suc a = omega arith in
    rw (suc-add a b, listed-append g (k + 1) a b, same)

words_append : (xs ys : List ℕ) → word_bytes (xs ++ ys) ≡ word_bytes xs ++ word_bytes ys
unfolding word_bytes
words_append [] ys = refl
words_append (x ∷ xs) ys = rw (words_append xs ys) (sym (append_assoc (little_bytes 4 x) (word_bytes xs) (word_bytes ys)))

-- words behind a header, and more behind those
pub words_next : (out now : List ℕ) (g : ℕ → ℕ) (n more : ℕ) → now ≡ sets out 58 (word_bytes (listed g 0 n))
    → sets now (58 + 4 * n) (word_bytes (listed g n more)) ≡ sets out 58 (word_bytes (listed g 0 (n + more)))
words_next out now g n more e =
    let before = listed g 0 n in
    let at : 58 + length (word_bytes before) ≡ 58 + 4 * n = omega (arith, length_words before, length-listed g 0 n) in
    let all : word_bytes before ++ word_bytes (listed g n more) ≡ word_bytes (listed g 0 (n + more)) =
    sym (words_append before (listed g n more)) ∙ ap word_bytes (sym (listed-append g 0 n more ∙ rw (zero-add n))) in
    rw (e, ← at) (run-append out (word_bytes before) (word_bytes (listed g n more)) 58 ∙ ap (sets out 58) all)

-- ---- from a memory to a file, frame by frame
module _ (l : Layout) (m : List ℕ) where
  -- sample i of channel j
  pub word-is : (i j : ℕ) → j < l.channels → word_of l m (i * l.channels + j) ≡ get_or m (start_at l.starts j + i) 0
  word-is i j h = let known = parted l.channels i j h in rw (known.0, known.1)

  abbrev pub frame_bytes : ℕ → List ℕ
  frame_bytes i = word_bytes (listed (word_of l m) (i * l.channels) l.channels)

  first-is : (i : ℕ) → 1 ≤ l.channels → word_of l m (i * l.channels) ≡ get_or m (l.starts.first + i) 0
  first-is i h = ap (word_of l m) (sym (add-zero (i * l.channels))) ∙ word-is i 0 h

  module _ (out : List ℕ) where
    pub frame_one : {x : List ℕ} (i : ℕ) → l.channels ≡ 1 → x ≡ sets out (58 + 4 * (i * l.channels)) (little_bytes 4 (get_or m (l.starts.first + i) 0))
        → x ≡ sets out (58 + 4 * (i * l.channels)) (frame_bytes i)
    unfolding word_bytes listed
    frame_one i one e =
        e ∙ ap (sets out (58 + 4 * (i * l.channels))) (sym (ap (λ (n : ℕ). word_bytes (listed (word_of l m) (i * l.channels) n)) one
        ∙ append-nil (little_bytes 4 (word_of l m (i * l.channels))) ∙ ap (little_bytes 4) (first-is i (omega arith))))

    pub frame_two : {x y : List ℕ} (i : ℕ) → l.channels ≡ 2 → x ≡ sets out (58 + 4 * (i * l.channels)) (little_bytes 4 (get_or m (l.starts.first + i) 0))
        → y ≡ sets x (58 + 4 * (i * l.channels) + 4) (little_bytes 4 (get_or m (l.starts.second + i) 0)) → y ≡ sets out (58 + 4 * (i * l.channels)) (frame_bytes i)
    unfolding word_bytes listed
    frame_two i two e h =
        let a = get_or m (l.starts.first + i) 0 in
        let b = get_or m (l.starts.second + i) 0 in
        let both : frame_bytes i ≡ little_bytes 4 a ++ little_bytes 4 b =
        ap (λ (n : ℕ). word_bytes (listed (word_of l m) (i * l.channels) n)) two ∙ rw (first-is i (omega arith), word-is i 1 (omega arith), append-nil (little_bytes 4 b)) in
        rw both (after out (58 + 4 * (i * l.channels)) _ (little_bytes 4 a) (little_bytes 4 b) (rw (length_little 4 a)) e h)

    -- with the first i frames
    unfoldable pub written_to : ℕ → List ℕ
    written_to i = sets out 58 (word_bytes (listed (word_of l m) 0 (i * l.channels)))

    pub length_written : (i : ℕ) → length (written_to i) ≡ length out
    unfolding written_to
    length_written i = length-sets out 58 (word_bytes (listed (word_of l m) 0 (i * l.channels)))

    pub written_none : out ≡ written_to 0
    unfolding written_to word_bytes listed
    written_none = rw (zero-mul l.channels)

    pub written_next : (now : List ℕ) (i : ℕ) → now ≡ written_to i → sets now (58 + 4 * (i * l.channels)) (frame_bytes i) ≡ written_to (i + 1)
    unfolding written_to
    written_next now i e =
        let more : (i + 1) * l.channels ≡ i * l.channels + l.channels = omega (arith, add-mul i 1 l.channels) in
        words_next out now (word_of l m) (i * l.channels) l.channels e ∙ ap (λ (n : ℕ). sets out 58 (word_bytes (listed (word_of l m) 0 n))) (sym more)

    pub written_all : (i : ℕ) → i ≡ l.samples → written_to i ≡ sets out 58 (word_bytes (frame_words l m))
    unfolding written_to frame_words
    written_all i e = rw (e, mul_comm l.samples l.channels)

-- ---- to a memory, sample by sample
pub word_at : (f : List ℕ) (w : Wave) (k : ℕ) → k < w.channels * w.samples → get_or (words_in f w) k 0 ≡ four_at f (w.first + 4 * k)
word_at f w k h = get_d_listed _ 0 (w.channels * w.samples) k h ∙ ap (λ (n : ℕ). four_at f (w.first + 4 * n)) (zero-add k)

pub stored_next : (m₀ : List ℕ) (start : ℕ) (g : ℕ → ℕ) (m : List ℕ) (i word : ℕ) → m ≡ sets m₀ start (listed g 0 i) → word ≡ g i
    → set m (start + i) word ≡ sets m₀ start (listed g 0 (i + 1))
unfolding listed
stored_next m₀ start g m i word e h =
    let more : listed g 0 (i + 1) ≡ listed g 0 i ++ (g i ∷ []) = listed-append g 0 i 1 ∙ rw (zero-add i) in
    rw (e, h, more) (ap (λ (n : ℕ). set (sets m₀ start (listed g 0 i)) (start + n) (g i)) (sym (length-listed g 0 i)) ∙ run-append m₀ (listed g 0 i) (g i ∷ []) start)

pub stored_length : (m₀ : List ℕ) (start : ℕ) (g : ℕ → ℕ) (m : List ℕ) (i : ℕ) → m ≡ sets m₀ start (listed g 0 i) → length m ≡ length m₀
stored_length m₀ start g m i e = ap length e ∙ length-sets m₀ start (listed g 0 i)

-- of one channel, and of two
pub stored_one : (l : Layout) (words m : List ℕ) → (l.channels ≡ 2 → ⊥) → stored_of l words m ≡ channel_stored l words 0 m
unfolding stored_of
stored_one l words m h = rw (ne_eqb l.channels 2 h)

pub stored_two : (l : Layout) (words m : List ℕ) → l.channels ≡ 2 → stored_of l words m ≡ channel_stored l words 1 (channel_stored l words 0 m)
unfolding stored_of
stored_two l words m h = rw h

pub length_stored : (l : Layout) (words m : List ℕ) → length (stored_of l words m) ≡ length m
unfolding stored_of
length_stored l words m = go (eqb l.channels 2)
  where
    one : length (channel_stored l words 0 m) ≡ length m
    one = length-sets m _ (channel_words l.channels l.samples 0 words)

    go : (t : Bool) → length (cond t (channel_stored l words 1 (channel_stored l words 0 m)) (channel_stored l words 0 m)) ≡ length m
    go true = length-sets (channel_stored l words 0 m) _ (channel_words l.channels l.samples 1 words) ∙ one
    go false = one

-- ---- what a run of stores leaves
module _ (d : ℕ) where
  pub run_else : (vs l : List ℕ) (at x : ℕ) → (x < at) ⊎ (at + length vs ≤ x) → get_or (sets l at vs) x d ≡ get_or l x d
  run_else [] l at x h = refl
  run_else (a ∷ vs) l at x (inl h) = run_else vs (set l at a) (suc at) x (inl (omega arith)) ∙ get_or-set_other l at x a d (λ e. omega arith)
  run_else (a ∷ vs) l at x (inr h) = run_else vs (set l at a) (suc at) x (inr (omega arith)) ∙ get_or-set_other l at x a d (λ e. omega arith)

  pub run_at : (vs l : List ℕ) (at i : ℕ) → i < length vs → at + length vs ≤ length l → get_or (sets l at vs) (at + i) d ≡ get_or vs i d
  run_at [] l at i h k = absurd (omega arith)
  run_at (a ∷ vs) l at zero h k =
      ap (λ (x : ℕ). get_or (sets (set l at a) (suc at) vs) x d) (add-zero at)
      ∙ run_else vs (set l at a) (suc at) at (inl (omega arith)) ∙ get_or-set_same l at a d (omega arith)
  run_at (a ∷ vs) l at (suc i) h k =
      let same : at + suc i ≡ suc at + i = omega arith in
      rw same (run_at vs (set l at a) (suc at) i (omega arith) (omega (arith, length-set l at a)))
