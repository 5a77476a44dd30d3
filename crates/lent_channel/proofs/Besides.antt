-- What the loops over a channel's table work out, entry by entry: `good_at` and `good_table`, and `beside_of` those that aren't chosen. Assumes nothing.
use mathlib.Core.Path.{◌≡◌, refl, sym, ◌∙◌, ap, subst}
use Prim.Native.Nat.{ℕ, zero, suc, ◌+◌, ◌<◌, ◌^◌}
use native.Mathlib.Omega.{arith}
use native.Mathlib.Nat.{not-suc-le-zero, le_of_suc-le-suc, le_of_eq, max-zero}
use mathlib.Core.Bool.{Bool, true, false, ◌&&◌, cond, true≢false}
use mathlib.Core.List.{List, [], ◌∷◌}
use lib.ListN.{length, get_or, take, set, length-set}
use lib.Seq.{take_all}
use borrow.Author.Tests.{eq-eqb, ne_eqb}
use Rattle.std.specs.List.{fold}
use Rattle.walks.proofs.Tests.{one_more, joined, and-true, and_assoc}
use Rattle.phrases.specs.declared.Phrase.{Phrase}
use Rattle.phrases.specs.declared.Beside.{Beside}
use Rattle.phrases.specs.Phrases.{no_phrase, no_samples, is_over_by, reach_of, apart_of, others_of, every_below, good_at, good_phrases, beside_of_nothing, beside_with, beside_of, is_in_order}
use Rattle.phrases.proofs.Below.{below_next, below_not}
use Rattle.phrases.proofs.Order.{order_good}
use Rattle.phrases.proofs.Table.{set_entry}
use Rattle.phrases.proofs.Reaches.{beside_alone}
use Rattle.channel.specs.declared.Head.{Head}
use Rattle.channel.specs.Heads.{recording_in}
use Rattle.channel.specs.Tables.{with_recording, good_table}
use Rattle.channel.specs.declared.Channel.{Channel}
use Rattle.channel.specs.Channels.{good_voices_of, good_channel}
use Rattle.lent_channel.specs.Turns.{looked_at, beside_next, head_good_of}

-- how many entries are looked at
abbrev pub entries : Bool → ℕ
entries several = cond several 8 0

pub few : (several : Bool) (k : ℕ) → k < entries several → k < 8
few true k lt = lt
few false k lt = absurd (not-suc-le-zero lt)

fold_next : {A S : Type 0} (f : S → A → S) (d : A) (s : S) (i : ℕ) (l : List A) → i < length l → f (fold f s (take i l)) (get_or l i d) ≡ fold f s (take (suc i) l)
fold_next f d s i [] lt = absurd (not-suc-le-zero lt)
fold_next f d s zero (x ∷ xs) lt = refl
fold_next f d s (suc i) (x ∷ xs) lt = fold_next f d (f s x) i xs (le_of_suc-le-suc lt)

-- an empty phrase says nothing
beside_empty : (place : ℕ) (b : Beside) → beside_with place b no_phrase ≡ b
unfolding beside_with reach_of no_samples
beside_empty place b = ap (λ (n : ℕ). record { behind = n; next = b.next }) (max-zero b.behind)

module _ (h : Head) (table : List Phrase) where
  -- an entry as it is looked at
  pub looked_at_lem : (k : ℕ) → k < length table → looked_at (get_or table k no_phrase) k h ≡ get_or (with_recording h table) k no_phrase
  looked_at_lem k lt =
      set_entry (λ (y : Phrase). looked_at (get_or table k no_phrase) k h ≡ y) table h.chosen k (recording_in h) lt
      (λ e. rw (eq-eqb k h.chosen e)) (λ n. rw (ne_eqb k h.chosen n))

  -- ---- whether the k-th is good, when those before the j-th are looked at
  module _ (capacity k : ℕ) where
    abbrev p : Phrase
    p = looked_at (get_or table k no_phrase) k h

    abbrev pub good_upto : ℕ → Bool
    good_upto j = is_over_by capacity p && every_below j (λ (i : ℕ). apart_of p (get_or (with_recording h table) i no_phrase))

    pub good_none : is_over_by capacity p ≡ good_upto 0
    unfolding every_below
    good_none = and-true (is_over_by capacity p)

    pub good_one_more : (j : ℕ) → j < length table → (good_upto j && apart_of p (looked_at (get_or table j no_phrase) j h)) ≡ good_upto (j + 1)
    good_one_more j lt =
        let f : ℕ → Bool = λ i. apart_of p (get_or (with_recording h table) i no_phrase) in
        ap (λ (y : Phrase). good_upto j && apart_of p y) (looked_at_lem j lt) ∙ and_assoc (is_over_by capacity p) (every_below j f) (f j)
        ∙ ap (λ (t : Bool). is_over_by capacity p && t) (sym (below_next f j))

    pub good_all : k < length table → good_upto k ≡ good_at capacity (with_recording h table) k
    unfolding good_at
    good_all lt = ap (λ (y : Phrase). is_over_by capacity y && every_below k (λ (i : ℕ). apart_of y (get_or (with_recording h table) i no_phrase))) (looked_at_lem k lt)

  -- ---- whether all are, when those before the k-th are looked at
  module _ (capacity : ℕ) where
    abbrev pub table_upto : ℕ → Bool
    table_upto k = every_below k (good_at capacity (with_recording h table))

    pub table_none : table_upto 0 ≡ true
    unfolding every_below
    table_none = refl

    pub table_one_more : (k : ℕ) → table_upto k ≡ true → good_at capacity (with_recording h table) k ≡ true → table_upto (k + 1) ≡ true
    table_one_more k before here = below_next (good_at capacity (with_recording h table)) k ∙ joined (table_upto k) (good_at capacity (with_recording h table) k) before here

    pub table_all : (several : Bool) → table_upto (entries several) ≡ good_table capacity h several table
    unfolding good_table good_phrases every_below
    table_all true = refl
    table_all false = refl

    -- one that isn't good tells it of all
    pub table_not : (several : Bool) (k : ℕ) → k < entries several → good_at capacity (with_recording h table) k ≡ false → false ≡ good_table capacity h several table
    table_not several k lt bad = sym (below_not (good_at capacity (with_recording h table)) (entries several) k lt bad) ∙ table_all several

    -- those in order are good
    pub table_order : (several : Bool) → capacity < 2 ^ 64 → is_in_order capacity (with_recording h table) (entries several) ≡ true → true ≡ good_table capacity h several table
    table_order several small ok = sym (order_good capacity small (with_recording h table) (entries several) ok) ∙ table_all several

  -- ---- what those that aren't chosen say, when those before the k-th are looked at
  module _ (capacity : ℕ) where
    abbrev pub beside_upto : ℕ → Beside
    beside_upto k = fold (beside_with h.start) (beside_of_nothing capacity) (take k (set table h.chosen no_phrase))

    pub beside_nothing : beside_of_nothing capacity ≡ beside_upto 0
    beside_nothing = refl

    pub beside_one_more : (k : ℕ) → k < length table → beside_next (beside_upto k) h k (get_or table k no_phrase) ≡ beside_upto (k + 1)
    beside_one_more k lt =
        let b : Beside = beside_upto k in
        set_entry (λ (y : Phrase). beside_next b h k (get_or table k no_phrase) ≡ beside_with h.start b y) table h.chosen k no_phrase lt
        (λ e. rw (eq-eqb k h.chosen e) (sym (beside_empty h.start b))) (λ n. rw (ne_eqb k h.chosen n))
        ∙ fold_next (beside_with h.start) no_phrase (beside_of_nothing capacity) k (set table h.chosen no_phrase) (subst (λ (n : ℕ). k < n) (sym (length-set table h.chosen no_phrase)) lt)
        ∙ ap beside_upto (sym (one_more k))

    beside_all : (several : Bool) → (several ≡ true → length table ≡ 8) → beside_upto (entries several) ≡ beside_of h.start capacity (others_of several h.chosen table)
    unfolding beside_of others_of
    beside_all true all = ap (fold (beside_with h.start) (beside_of_nothing capacity)) (take_all 8 (set table h.chosen no_phrase) (le_of_eq (length-set table h.chosen no_phrase ∙ all refl)))
    beside_all false all = sym (beside_alone h.start capacity h.chosen table)

    -- how long the table is, is known once an entry of it has been looked at
    pub beside_seen : (several : Bool) (k : ℕ) → k ≡ entries several → (0 < k → length table ≡ 8) → beside_upto k ≡ beside_of h.start capacity (others_of several h.chosen table)
    beside_seen several k end long = ap beside_upto end ∙ beside_all several (all several end)
      where
        all : (b : Bool) → k ≡ entries b → b ≡ true → length table ≡ 8
        all true e some = long (omega (arith, e))
        all false e some = absurd (true≢false (sym some))

-- ---- a channel is good where its head, its voices and its phrases are, judged in that order
either_first : (a b : Bool) → (a && b) ≡ (b && a)
either_first true b = and-true b
either_first false true = refl
either_first false false = refl

module _ (capacity : ℕ) (c : Channel) where
  abbrev head : Bool
  head = head_good_of capacity c.head c.count

  abbrev phrases : Bool
  phrases = good_table capacity c.head c.several c.table

  by_parts : (head && (good_voices_of c && phrases)) ≡ good_channel capacity c
  unfolding good_channel head_good_of
  by_parts = ap (λ (t : Bool). head && t) (either_first (good_voices_of c) phrases)

  pub all_good : head ≡ true → good_voices_of c ≡ true → phrases ≡ good_channel capacity c
  all_good e d = sym (ap (λ (t : Bool). t && (good_voices_of c && phrases)) e ∙ ap (λ (t : Bool). t && phrases) d) ∙ by_parts

  pub no_voices_good : head ≡ true → good_voices_of c ≡ false → false ≡ good_channel capacity c
  no_voices_good e d = sym (ap (λ (t : Bool). t && (good_voices_of c && phrases)) e ∙ ap (λ (t : Bool). t && phrases) d) ∙ by_parts

  pub no_head_good : head ≡ false → false ≡ good_channel capacity c
  no_head_good e = sym (ap (λ (t : Bool). t && (good_voices_of c && phrases)) e) ∙ by_parts
