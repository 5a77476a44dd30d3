-- Gathered phrases (request 11/12: "A gather call moves phrases down, in order, each sample keeping its bits, so that all
-- free room is one stretch behind them"), for a reader who doesn't follow the turns of `gathering_of`: each phrase keeps its
-- samples, and stands behind the samples of those that began before it; behind all of them the memory is what it was.
--     gather_keeps      the samples keep their bits.          gather_phrase     where each stands (gather_start, gather_length, gather_empty)
--     gather_rest       behind them nothing changed.          gathered          the memory as a whole, in the phrases' order
--     gathered_good     they are good phrases.                gathered_behind, gathered_next     how far they reach, and that none is behind
--     again_phrases, again_memory     gathering again changes nothing
-- Assumes nothing.
use Rattle.std.proofs.Common.{◌≡◌, ℕ, ◌+◌, ◌^◌, ◌<◌, ◌≤◌, true, false, ◌≢◌, ◌⊎◌, List, ◌++◌, map, length, get_or, take, drop, sym, refl, ap, ◌∙◌, subst, inl, inr, ⊎_elim, eq-zero-or-pos, le_antisymm, pos_of_ne-zero, arith, take-append-drop, ext_get_or}
use mathlib.Core.Option.{some}
use lib.ListN.{get_elem?, length-map, get_or-map}
use Rattle.walks.specs.Each.{Each}
use Rattle.walks.proofs.Lists.Each.{each_weaker}
use Rattle.phrases.specs.declared.Phrase.{Phrase}
use Rattle.phrases.specs.Phrases.{no_phrase, no_samples, is_over_by, reach_of, stored_in, good_phrases, beside_of}
use Rattle.phrases.specs.Gathering.{Gathering, gathering_of, samples_of_all, samples_if, samples_before}
use Rattle.phrases.proofs.Below.{same_or}
use Rattle.phrases.proofs.Rooms.{holds_some, holds_none, inside_ends}
use Rattle.phrases.proofs.Apart.{apart_made, good_within, good_some, good_made}
use Rattle.phrases.proofs.Reaches.{reach_empty, reach_end, behind_reach, behind_least, next-none}
use Rattle.phrases.proofs.Gathered.Places.{nth, gathered_phrase, stored_all, Rising}
use Rattle.phrases.proofs.Gathered.Sums.{sum_same}
use Rattle.phrases.proofs.Gathered.Turns.{Turned, Settled, all_turned, if_before, if-behind, if_most, before_it, down_to, down_before, down_empty, gathered_empty, gathered_some, gathered_length}
pub mod Places
pub mod Sums
pub mod Firsts
pub mod Moved
pub mod Turns

-- the samples of those that have any, one's behind another's in the order of their places, and then what was there
pub record InOrder (ps : List Phrase) (m : List ℕ) (g : Gathering) : Type 0 where
  pub order : List ℕ
  pub those : Each (λ (k : ℕ). (k < 8) × (0 < (get_or ps k no_phrase).length)) order
  pub every : (k : ℕ) → k < 8 → 0 < (get_or ps k no_phrase).length → (j : ℕ) × (get_elem? order j ≡ some k)
  pub rising : Rising ps order
  pub memory : g.memory ≡ stored_all ps m order ++ drop (samples_of_all ps) m

module _ (ps : List Phrase) (m : List ℕ) (many : length ps ≡ 8) (fine : good_phrases (length m) ps ≡ true) where
  abbrev g : Gathering
  g = gathering_of ps m

  turned : Turned ps m g
  turned = (all_turned ps m fine many).0

  all_before : (k : ℕ) → k < 8 → 0 < (nth ps k).length → (nth ps k).start < g.from
  all_before = (all_turned ps m fine many).1

  reach : (k : ℕ) → k < 8 → 0 < (nth ps k).length → samples_before (nth ps k).start ps + (nth ps k).length ≤ samples_before g.from ps
  reach k l s = before_it ps k g.from l (all_before k l s)

  all : samples_before g.from ps ≡ samples_of_all ps
  unfolding samples_before samples_of_all
  all = sum_same 8 (λ (i : ℕ). samples_if g.from (nth ps i)) (λ (i : ℕ). (nth ps i).length) (λ i l. go i l (eq-zero-or-pos (nth ps i).length))
    where
      go : (i : ℕ) → i < 8 → ((nth ps i).length ≡ 0) ⊎ (0 < (nth ps i).length) → samples_if g.from (nth ps i) ≡ (nth ps i).length
      go i l (inl e) = omega (arith, if_most g.from (nth ps i))
      go i l (inr s) = if_before g.from (nth ps i) (all_before i l s)

  -- ---- the phrases
  pub gather_many : length (gathering_of ps m).phrases ≡ 8
  gather_many = turned.many

  pub gather_phrase : (k : ℕ) → k < 8 → get_or (gathering_of ps m).phrases k no_phrase ≡ gathered_phrase ps (get_or ps k no_phrase)
  gather_phrase k l = turned.placed k l ∙ go (eq-zero-or-pos (nth ps k).length)
    where
      go : ((nth ps k).length ≡ 0) ⊎ (0 < (nth ps k).length) → down_to g.from ps (nth ps k) ≡ gathered_phrase ps (nth ps k)
      go (inl e) = down_empty ps (nth ps k) g.from e ∙ sym (gathered_empty ps (nth ps k) e)
      go (inr s) = down_before g.from ps (nth ps k) (all_before k l s)

  pub gather_phrases : (gathering_of ps m).phrases ≡ map (gathered_phrase ps) ps
  gather_phrases =
      ext_get_or no_phrase g.phrases (map (gathered_phrase ps) ps) (gather_many ∙ sym (length-map ps (gathered_phrase ps) ∙ many)) λ i l.
      gather_phrase i (omega (arith, gather_many))
      ∙ sym (get_or-map (gathered_phrase ps) ps i no_phrase)
      ∙ ap (get_or (map (gathered_phrase ps) ps) i) (gathered_empty ps no_phrase refl)

  pub gather_length : (k : ℕ) → k < 8 → (get_or (gathering_of ps m).phrases k no_phrase).length ≡ (get_or ps k no_phrase).length
  gather_length k l = ap (λ (p : Phrase). p.length) (gather_phrase k l) ∙ gathered_length ps (nth ps k)

  pub gather_empty : (k : ℕ) → k < 8 → no_samples (get_or ps k no_phrase) ≡ true → get_or (gathering_of ps m).phrases k no_phrase ≡ get_or ps k no_phrase
  gather_empty k l e = gather_phrase k l ∙ gathered_empty ps (nth ps k) (holds_none (nth ps k) e)

  gather_some : (k : ℕ) → k < 8 → 0 < (nth ps k).length
      → nth g.phrases k ≡ record { start = samples_before (nth ps k).start ps; length = (nth ps k).length }
  gather_some k l s = gather_phrase k l ∙ gathered_some ps (nth ps k) s

  pub gather_start : (k : ℕ) → k < 8 → no_samples (get_or ps k no_phrase) ≡ false → (get_or (gathering_of ps m).phrases k no_phrase).start ≡ samples_before (get_or ps k no_phrase).start ps
  gather_start k l e = ap (λ (p : Phrase). p.start) (gather_some k l (holds_some (nth ps k) e))

  -- ---- the memory
  pub gather_size : length (gathering_of ps m).memory ≡ length m
  gather_size = turned.size

  pub gather_keeps : (k : ℕ) → k < 8 → stored_in (get_or (gathering_of ps m).phrases k no_phrase) (gathering_of ps m).memory ≡ stored_in (get_or ps k no_phrase) m
  unfolding stored_in
  gather_keeps k l = go (eq-zero-or-pos (nth ps k).length)
    where
      go : ((nth ps k).length ≡ 0) ⊎ (0 < (nth ps k).length) → stored_in (nth g.phrases k) g.memory ≡ stored_in (nth ps k) m
      go (inl e) =
          ap (λ (n : ℕ). take n (drop (nth g.phrases k).start g.memory)) (gather_length k l ∙ e)
          ∙ sym (ap (λ (n : ℕ). take n (drop (nth ps k).start m)) e)
      go (inr s) = ap (λ (p : Phrase). stored_in p g.memory) (gather_some k l s) ∙ turned.kept k l s (all_before k l s)

  pub gather_to : (gathering_of ps m).to ≡ samples_of_all ps
  gather_to = turned.filled ∙ all

  pub gather_samples : samples_of_all (gathering_of ps m).phrases ≡ samples_of_all ps
  unfolding samples_of_all
  gather_samples = sum_same 8 (λ (i : ℕ). (nth g.phrases i).length) (λ (i : ℕ). (nth ps i).length) gather_length

  pub gather_rest : drop (samples_of_all ps) (gathering_of ps m).memory ≡ drop (samples_of_all ps) m
  gather_rest = subst (λ (n : ℕ). drop n g.memory ≡ drop n m) gather_to turned.rest

  -- ---- what is free is one stretch behind them
  pub samples_fit : samples_of_all ps ≤ length m
  samples_fit = omega (arith, gather_to, turned.low, turned.inside)

  pub gather_reach : (k : ℕ) → k < 8 → 0 < (get_or ps k no_phrase).length → (get_or (gathering_of ps m).phrases k no_phrase).start + (get_or ps k no_phrase).length ≤ samples_of_all ps
  gather_reach k l s = omega (arith, reach k l s, all, ap (λ (p : Phrase). p.start) (gather_some k l s))

  -- one before another stays before it
  pub gather_order : (i j : ℕ) → i < 8 → j < 8 → 0 < (get_or ps i no_phrase).length → 0 < (get_or ps j no_phrase).length
      → (get_or ps i no_phrase).start + (get_or ps i no_phrase).length ≤ (get_or ps j no_phrase).start
      → (get_or (gathering_of ps m).phrases i no_phrase).start + (get_or (gathering_of ps m).phrases i no_phrase).length ≤ (get_or (gathering_of ps m).phrases j no_phrase).start
  gather_order i j l k a b h =
      omega (
        arith,
        before_it ps i (nth ps j).start l (omega arith),
        gather_length i l,
        ap (λ (p : Phrase). p.start) (gather_some i l a),
        ap (λ (p : Phrase). p.start) (gather_some j k b),
      )

  pub gathered_good : good_phrases (length m) (gathering_of ps m).phrases ≡ true
  gathered_good =
      good_made (length m) g.phrases (λ i l. ends i l (eq-zero-or-pos (nth ps i).length))
      (λ j i d l. let k : j < 8 = omega arith in apart_made (nth g.phrases i) (nth g.phrases j)
      (λ a b. let x : 0 < (nth ps i).length = omega (arith, gather_length i l) in
      let y : 0 < (nth ps j).length = omega (arith, gather_length j k) in
      ⊎_elim (λ h. inl (gather_order i j l k x y h)) (λ h. inr (gather_order j i k l y x h)) (good_some (length m) ps fine i j l k (omega arith) x y)))
    where
      ends : (i : ℕ) → i < 8 → ((nth ps i).length ≡ 0) ⊎ (0 < (nth ps i).length) → is_over_by (length m) (nth g.phrases i) ≡ true
      ends i l (inl e) = ap (is_over_by (length m)) (gather_phrase i l ∙ gathered_empty ps (nth ps i) e) ∙ good_within (length m) ps fine i l
      ends i l (inr s) = inside_ends (nth g.phrases i) (length m) (omega (arith, gather_reach i l s, gather_length i l, samples_fit))

  pub gathered_behind : length m < 2 ^ 64 → (place capacity : ℕ) → (beside_of place capacity (gathering_of ps m).phrases).behind ≡ samples_of_all ps
  gathered_behind h place capacity =
      le_antisymm
      (behind_least place capacity g.phrases (samples_of_all ps) (λ k l. most k (omega (arith, gather_many)) (eq-zero-or-pos (nth ps k).length)))
      (least turned.reached)
    where
      reaches : (k : ℕ) → k < 8 → 0 < (nth ps k).length → reach_of (nth g.phrases k) ≡ samples_before (nth ps k).start ps + (nth ps k).length
      reaches k l s =
          reach_end (nth g.phrases k) (length m) (good_within (length m) g.phrases gathered_good k l) h (λ e. omega (arith, gather_length k l))
          ∙ ap (λ (p : Phrase). p.start + p.length) (gather_some k l s)

      most : (k : ℕ) → k < 8 → ((nth ps k).length ≡ 0) ⊎ (0 < (nth ps k).length) → reach_of (nth g.phrases k) ≤ samples_of_all ps
      most k l (inl e) = omega (arith, reach_empty (nth g.phrases k) (gather_length k l ∙ e))
      most k l (inr s) = omega (arith, reaches k l s, reach k l s, all)

      least : (g.to ≡ 0) ⊎ ((k : ℕ) × (k < 8) × (0 < (nth ps k).length) × ((nth ps k).start < g.from) × (samples_before (nth ps k).start ps + (nth ps k).length ≡ g.to))
          → samples_of_all ps ≤ (beside_of place capacity g.phrases).behind
      least (inl e) = omega (arith, gather_to)
      least (inr r) = omega (arith, behind_reach place capacity g.phrases r.0, reaches r.0 r.1 r.2, r.4, gather_to)

  pub gathered_next : (place capacity : ℕ) → samples_of_all ps ≤ place → (beside_of place capacity (gathering_of ps m).phrases).next ≡ capacity
  gathered_next place capacity h =
      next-none place capacity g.phrases λ k l s.
      let q : k < 8 = omega (arith, gather_many) in
      let z : 0 < (nth ps k).length = pos_of_ne-zero (λ e. s (gather_length k q ∙ e)) in
      omega (arith, gather_reach k q z)

  -- ---- the memory as a whole
  pub gathered : InOrder ps m (gathering_of ps m)
  gathered = record {
    order = turned.order;
    those =
        each_weaker
        (λ (k : ℕ). (k < 8) × (0 < (nth ps k).length) × ((nth ps k).start < g.from))
        (λ (k : ℕ). (k < 8) × (0 < (nth ps k).length))
        (λ k h. (h.0, h.1))
        turned.order
        turned.those;
    every = λ k l s. turned.every k l s (all_before k l s);
    rising = turned.rising;
    memory =
        sym (take-append-drop (samples_of_all ps) g.memory)
        ∙ ap (λ (r : List ℕ). take (samples_of_all ps) g.memory ++ r) gather_rest
        ∙ ap (λ (r : List ℕ). r ++ drop (samples_of_all ps) m) (subst (λ (n : ℕ). take n g.memory ≡ stored_all ps m turned.order) gather_to turned.joined);
  }

  -- ---- those that stand so already stay
  pub settled_phrases : Settled ps → (gathering_of ps m).phrases ≡ ps
  settled_phrases h = ext_get_or no_phrase g.phrases ps (gather_many ∙ sym many) λ i l. go i (omega (arith, gather_many)) (eq-zero-or-pos (nth ps i).length)
    where
      go : (i : ℕ) → i < 8 → ((nth ps i).length ≡ 0) ⊎ (0 < (nth ps i).length) → nth g.phrases i ≡ nth ps i
      go i l (inl e) = gather_phrase i l ∙ gathered_empty ps (nth ps i) e
      go i l (inr s) = gather_some i l s ∙ ap (λ (n : ℕ). record { start = n; length = (nth ps i).length }) (h i l s)

  pub settled_memory : Settled ps → (gathering_of ps m).memory ≡ m
  settled_memory = turned.settled

  pub gathered_settled : Settled (gathering_of ps m).phrases
  unfolding samples_before
  gathered_settled k l s =
      sum_same 8 (λ (i : ℕ). samples_if (nth g.phrases k).start (nth g.phrases i)) (λ (i : ℕ). samples_if (nth ps k).start (nth ps i))
      (λ i o. each i o (eq-zero-or-pos (nth ps i).length) (same_or i k))
      ∙ sym (ap (λ (p : Phrase). p.start) (gather_some k l z))
    where
      z : 0 < (nth ps k).length
      z = omega (arith, gather_length k l)

      each : (i : ℕ) → i < 8 → ((nth ps i).length ≡ 0) ⊎ (0 < (nth ps i).length) → (i ≡ k) ⊎ (i ≢ k)
          → samples_if (nth g.phrases k).start (nth g.phrases i) ≡ samples_if (nth ps k).start (nth ps i)
      each i o (inl e) d = omega (arith, if_most (nth g.phrases k).start (nth g.phrases i), if_most (nth ps k).start (nth ps i), gather_length i o)
      each i o (inr a) (inl e) =
          if-behind (nth g.phrases k).start (nth g.phrases i) (omega (arith, ap (λ (j : ℕ). (nth g.phrases j).start) e))
          ∙ sym (if-behind (nth ps k).start (nth ps i) (omega (arith, ap (λ (j : ℕ). (nth ps j).start) e)))
      each i o (inr a) (inr d) = on (good_some (length m) ps fine i k o l d a z)
        where
          on : ((nth ps i).start + (nth ps i).length ≤ (nth ps k).start) ⊎ ((nth ps k).start + (nth ps k).length ≤ (nth ps i).start)
              → samples_if (nth g.phrases k).start (nth g.phrases i) ≡ samples_if (nth ps k).start (nth ps i)
          on (inl h) =
              if_before (nth g.phrases k).start (nth g.phrases i) (omega (arith, gather_order i k o l a z h, gather_length i o))
              ∙ gather_length i o
              ∙ sym (if_before (nth ps k).start (nth ps i) (omega arith))
          on (inr h) =
              if-behind (nth g.phrases k).start (nth g.phrases i) (omega (arith, gather_order k i l o z a h, gather_length k l))
              ∙ sym (if-behind (nth ps k).start (nth ps i) (omega arith))

-- gathering again changes nothing
module _ (ps : List Phrase) (m : List ℕ) (many : length ps ≡ 8) (fine : good_phrases (length m) ps ≡ true) where
  still : good_phrases (length (gathering_of ps m).memory) (gathering_of ps m).phrases ≡ true
  still = ap (λ (n : ℕ). good_phrases n (gathering_of ps m).phrases) (gather_size ps m many fine) ∙ gathered_good ps m many fine

  pub again_phrases : (gathering_of (gathering_of ps m).phrases (gathering_of ps m).memory).phrases ≡ (gathering_of ps m).phrases
  again_phrases = settled_phrases (gathering_of ps m).phrases (gathering_of ps m).memory (gather_many ps m many fine) still (gathered_settled ps m many fine)

  pub again_memory : (gathering_of (gathering_of ps m).phrases (gathering_of ps m).memory).memory ≡ (gathering_of ps m).memory
  again_memory = settled_memory (gathering_of ps m).phrases (gathering_of ps m).memory (gather_many ps m many fine) still (gathered_settled ps m many fine)
