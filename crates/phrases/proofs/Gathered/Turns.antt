-- Each turn of gathering moves the next phrase down: what holds between turns, `Turned`, and that eight turns move all.
-- Assumes nothing.
use Rattle.std.proofs.Common.{◌≡◌, ℕ, zero, suc, ◌+◌, ◌-◌, ◌<◌, ◌≤◌, Bool, true, false, cond, ◌||◌, ltb, ◌≢◌, ◌⊎◌, Option, Some, None, List, [], ◌∷◌, ◌++◌, length, get_or, take, drop, set, sym, refl, ap, ◌∙◌, subst, inl, inr, append_assoc, append-nil, eq-zero-or-pos, arith, length-set, get_or-set_other, get_or-set_same, le-ltb, lt-ltb, eq-eqb}
use native.Mathlib.Nat.{add-sub_cancel_left}
use mathlib.Core.Option.{some}
use Rattle.std.specs.Option.{option_map_or}
use lib.ListN.{get_elem?}
use Rattle.walks.specs.Each.{Each}
use Rattle.walks.proofs.Tests.{either}
use Rattle.walks.proofs.Lists.Each.{each_weaker}
use Rattle.walks.proofs.Lists.Looks.{look_front, look_last}
use Rattle.phrases.specs.declared.Phrase.{Phrase}
use Rattle.phrases.specs.Phrases.{no_phrase, no_samples, stored_in, room_of, good_phrases}
use Rattle.phrases.specs.Gathering.{Gathering, moved_down, first_from, gather_phrase, gather_next, gather_turns, gathering_of, sum_below, samples_if, samples_before}
use Rattle.phrases.proofs.Below.{same_or, before_or}
use Rattle.phrases.proofs.Rooms.{holds_some, some_holds, room_from, room_to, ends_inside}
use Rattle.phrases.proofs.Apart.{good_within, good_some}
use Rattle.phrases.proofs.Gathered.Places.{nth, gathered_phrase, stored_all, Rising}
use Rattle.phrases.proofs.Gathered.Sums.{sum_same, sum_at, sum_most, sum_larger, sum_one}
use Rattle.phrases.proofs.Gathered.Firsts.{Over, First, Found, first}
use Rattle.phrases.proofs.Gathered.Moved.{drop_further, moved_length, moved_rest, moved_there, moved_below, moved_front, moved_same}

-- ---- samples of those that begin before a place
module _ (place : ℕ) (p : Phrase) where
  pub if_before : p.start < place → samples_if place p ≡ p.length
  unfolding samples_if
  if_before h = rw (lt-ltb p.start place h)

  pub if-behind : place ≤ p.start → samples_if place p ≡ 0
  unfolding samples_if
  if-behind h = rw (le-ltb p.start place h)

  pub if_most : samples_if place p ≤ p.length
  unfolding samples_if
  if_most = go (ltb p.start place)
    where
      go : (b : Bool) → cond b p.length 0 ≤ p.length
      go true = omega arith
      go false = omega arith

pub if_grows : (a b : ℕ) (p : Phrase) → a ≤ b → samples_if a p ≤ samples_if b p
if_grows a b p h = go (before_or p.start a)
  where
    go : (p.start < a) ⊎ (a ≤ p.start) → samples_if a p ≤ samples_if b p
    go (inl l) = omega (arith, if_before a p l, if_before b p (omega arith))
    go (inr l) = omega (arith, if-behind a p l)

-- it stands behind those that begin before it, and before whatever begins behind it
pub before_it : (ps : List Phrase) (k place : ℕ) → k < 8 → (get_or ps k no_phrase).start < place
    → samples_before (get_or ps k no_phrase).start ps + (get_or ps k no_phrase).length ≤ samples_before place ps
unfolding samples_before
before_it ps k place l h =
    let a : ℕ = (nth ps k).start in
    sum_larger 8 k (nth ps k).length (λ (i : ℕ). samples_if a (nth ps i)) (λ (i : ℕ). samples_if place (nth ps i)) l
    (λ i l. if_grows a place (nth ps i) (omega arith))
    (omega (arith, if-behind a (nth ps k) (omega arith), if_before place (nth ps k) h))

-- none begins before the first place
pub before_none : (ps : List Phrase) → samples_before 0 ps ≡ 0
unfolding samples_before sum_below
before_none ps = sum_same 8 (λ (i : ℕ). samples_if 0 (nth ps i)) (λ (i : ℕ). 0) (λ i l. if-behind 0 (nth ps i) (omega arith))

-- ---- a phrase where those that begin before a place have been moved
unfoldable pub down_to : ℕ → List Phrase → Phrase → Phrase
down_to place ps p = cond (ltb p.start place) (gathered_phrase ps p) p

module _ (place : ℕ) (ps : List Phrase) (p : Phrase) where
  pub down_behind : place ≤ p.start → down_to place ps p ≡ p
  unfolding down_to
  down_behind h = rw (le-ltb p.start place h)

  pub down_before : p.start < place → down_to place ps p ≡ gathered_phrase ps p
  unfolding down_to
  down_before h = rw (lt-ltb p.start place h)

module _ (ps : List Phrase) (p : Phrase) where
  pub gathered_empty : p.length ≡ 0 → gathered_phrase ps p ≡ p
  unfolding gathered_phrase no_samples
  gathered_empty h = rw (eq-eqb p.length 0 h)

  pub gathered_some : 0 < p.length → gathered_phrase ps p ≡ record { start = samples_before p.start ps; length = p.length }
  unfolding gathered_phrase
  gathered_some h = rw (some_holds p h)

  pub gathered_length : (gathered_phrase ps p).length ≡ p.length
  unfolding gathered_phrase
  gathered_length = either (λ (q : Phrase). q.length) (no_samples p) p (record { start = samples_before p.start ps; length = p.length }) p.length refl refl

  pub down_empty : (place : ℕ) → p.length ≡ 0 → down_to place ps p ≡ p
  unfolding down_to
  down_empty place h = rw (gathered_empty h) (either (λ (q : Phrase). q) (ltb p.start place) p p p refl refl)

  pub down_length : (place : ℕ) → (down_to place ps p).length ≡ p.length
  unfolding down_to
  down_length place = either (λ (q : Phrase). q.length) (ltb p.start place) (gathered_phrase ps p) p p.length gathered_length refl

-- ---- how many have yet to be moved
unfoldable waits : ℕ → Phrase → ℕ
waits place p = cond (no_samples p || ltb p.start place) 0 1

waits_most : (place : ℕ) (p : Phrase) → waits place p ≤ 1
unfolding waits
waits_most place p = go (no_samples p || ltb p.start place)
  where
    go : (b : Bool) → cond b 0 1 ≤ 1
    go true = omega arith
    go false = omega arith

waits_one : (place : ℕ) (p : Phrase) → 0 < p.length → place ≤ p.start → waits place p ≡ 1
unfolding waits
waits_one place p h l = rw (some_holds p h, le-ltb p.start place l)

waits_not : (place : ℕ) (p : Phrase) → (0 < p.length → p.start < place) → waits place p ≡ 0
unfolding waits
waits_not place p h = go (no_samples p) refl
  where
    go : (b : Bool) → no_samples p ≡ b → ◌≡◌ {A = ℕ} (cond (b || ltb p.start place) 0 1) 0
    go true e = refl
    go false e = rw (lt-ltb p.start place (h (holds_some p e)))

waits_fewer : (a b : ℕ) (p : Phrase) → a ≤ b → waits b p ≤ waits a p
waits_fewer a b p h = go (eq-zero-or-pos p.length) (before_or p.start b)
  where
    go : (p.length ≡ 0) ⊎ (0 < p.length) → (p.start < b) ⊎ (b ≤ p.start) → waits b p ≤ waits a p
    go c (inl l) = omega (arith, waits_not b p (λ _. l))
    go (inl e) (inr l) = omega (arith, waits_not b p (λ c. absurd (omega arith)))
    go (inr c) (inr l) = omega (arith, waits_one a p c (omega arith), waits_most b p)

waiting : ℕ → List Phrase → ℕ
waiting place ps = sum_below 8 (λ (i : ℕ). waits place (nth ps i))

-- ---- one more, behind the others
each_last : (P : ℕ → Type 0) (ks : List ℕ) (k : ℕ) → Each P ks → P k → Each P (ks ++ (k ∷ []))
unfolding Each
each_last P [] k h e = (e, tt)
each_last P (j ∷ ks) k h e = (h.0, each_last P ks k h.1 e)

rising-last : (ps : List Phrase) (ks : List ℕ) (k : ℕ) → Rising ps ks → Each (λ (j : ℕ). (nth ps j).start < (nth ps k).start) ks → Rising ps (ks ++ (k ∷ []))
unfolding Each
rising-last ps [] k h e = (tt, tt)
rising-last ps (j ∷ ks) k h e = (each_last (λ (i : ℕ). (nth ps j).start < (nth ps i).start) ks k h.0 e.0, rising-last ps ks k h.1 e.1)

stored_last : (ps : List Phrase) (m ks : List ℕ) (k : ℕ) → stored_all ps m (ks ++ (k ∷ [])) ≡ stored_all ps m ks ++ stored_in (nth ps k) m
unfolding stored_all
stored_last ps m [] k = append-nil (stored_in (nth ps k) m)
stored_last ps m (j ∷ ks) k =
    ap (λ (r : List ℕ). stored_in (nth ps j) m ++ r) (stored_last ps m ks k)
    ∙ sym (append_assoc (stored_in (nth ps j) m) (stored_all ps m ks) (stored_in (nth ps k) m))

-- each with samples stands where the samples before it end
abbrev pub Settled : List Phrase → Type 0
Settled ps = (i : ℕ) → i < 8 → 0 < (get_or ps i no_phrase).length → samples_before (get_or ps i no_phrase).start ps ≡ (get_or ps i no_phrase).start

-- ---- what holds between turns
pub record Turned (ps : List Phrase) (m : List ℕ) (g : Gathering) : Type 0 where
  pub many : length g.phrases ≡ 8
  pub size : length g.memory ≡ length m
  pub inside : g.from ≤ length m
  pub low : g.to ≤ g.from
  pub filled : g.to ≡ samples_before g.from ps
  pub placed : (i : ℕ) → i < 8 → get_or g.phrases i no_phrase ≡ down_to g.from ps (get_or ps i no_phrase)
  pub rest : drop g.to g.memory ≡ drop g.to m
  pub kept : (i : ℕ) → i < 8 → 0 < (get_or ps i no_phrase).length → (get_or ps i no_phrase).start < g.from
      → take (get_or ps i no_phrase).length (drop (samples_before (get_or ps i no_phrase).start ps) g.memory) ≡ stored_in (get_or ps i no_phrase) m
  pub reached : (g.to ≡ 0) ⊎ ((k : ℕ) × (k < 8) × (0 < (get_or ps k no_phrase).length) × ((get_or ps k no_phrase).start < g.from)
      × (samples_before (get_or ps k no_phrase).start ps + (get_or ps k no_phrase).length ≡ g.to))
  -- the numbers of those moved
  pub order : List ℕ
  pub those : Each (λ (k : ℕ). (k < 8) × (0 < (get_or ps k no_phrase).length) × ((get_or ps k no_phrase).start < g.from)) order
  pub every : (k : ℕ) → k < 8 → 0 < (get_or ps k no_phrase).length → (get_or ps k no_phrase).start < g.from → (j : ℕ) × (get_elem? order j ≡ some k)
  pub rising : Rising ps order
  pub joined : take g.to g.memory ≡ stored_all ps m order
  pub settled : Settled ps → g.memory ≡ m

module _ (ps : List Phrase) (m : List ℕ) (fine : good_phrases (length m) ps ≡ true) where
  module _ (g : Gathering) (t : Turned ps m g) where
    -- those behind stand where they stood, those before don't stand behind
    left : (i : ℕ) → i < 8 → g.from ≤ (nth ps i).start → nth g.phrases i ≡ nth ps i
    left i l h = t.placed i l ∙ down_behind g.from ps (nth ps i) h

    gone : (i : ℕ) → i < 8 → 0 < (nth ps i).length → (nth ps i).start < g.from → (nth g.phrases i).start < g.from
    gone i l s h =
        let e : (nth g.phrases i).start ≡ samples_before (nth ps i).start ps = ap (λ (p : Phrase). p.start) (t.placed i l ∙ down_before g.from ps (nth ps i) h ∙ gathered_some ps (nth ps i) s) in
        omega (arith, before_it ps i g.from l h)

    same_length : (i : ℕ) → i < 8 → (nth g.phrases i).length ≡ (nth ps i).length
    same_length i l = ap (λ (p : Phrase). p.length) (t.placed i l) ∙ down_length ps (nth ps i) g.from

    over : Over g.from g.phrases 8 → Over g.from ps 8
    over o i l s = go (before_or (nth ps i).start g.from)
      where
        go : ((nth ps i).start < g.from) ⊎ (g.from ≤ (nth ps i).start) → (nth ps i).start < g.from
        go (inl h) = h
        go (inr h) = rw (left i l h) at (o i l (omega (arith, same_length i l)))

    first_of : (k : ℕ) → First g.from g.phrases 8 k → First g.from ps 8 k
    first_of k f = record {
      below = f.below;
      some = some;
      behind = behind (before_or (nth ps k).start g.from);
      least = λ i l s h.
          omega (
            arith,
            f.least i l (omega (arith, s, same_length i l)) (omega (arith, h, ap (λ (p : Phrase). p.start) (left i l h))),
            ap (λ (p : Phrase). p.start) (left i l h),
            ap (λ (p : Phrase). p.start) (left k f.below (behind (before_or (nth ps k).start g.from))),
          );
    }
      where
        some : 0 < (nth ps k).length
        some = omega (arith, f.some, same_length k f.below)

        behind : ((nth ps k).start < g.from) ⊎ (g.from ≤ (nth ps k).start) → g.from ≤ (nth ps k).start
        behind (inl h) = absurd (omega (arith, gone k f.below some h, f.behind))
        behind (inr h) = h

    -- ---- the next, the k-th
    module _ (k : ℕ) (f : First g.from ps 8 k) where
      end : ℕ
      end = (nth ps k).start + (nth ps k).length

      moves : Gathering
      moves = record {
        phrases = set g.phrases k (record { start = g.to; length = (nth ps k).length });
        memory = moved_down (nth ps k).start g.to (nth ps k).length g.memory;
        from = end;
        to = g.to + (nth ps k).length;
      }

      ends : end ≤ length m
      unfolding end
      ends = ends_inside (nth ps k) (length m) (good_within (length m) ps fine k f.below)

      phrase_moves : gather_phrase k g ≡ moves
      unfolding gather_phrase moves end
      phrase_moves =
          ap (λ (p : Phrase). by p (room_of p (length g.memory)).from (room_of p (length g.memory)).to) (left k f.below f.behind)
          ∙ ap (λ (n : ℕ). by (nth ps k) (room_of (nth ps k) n).from (room_of (nth ps k) n).to) t.size
          ∙ ap (λ (a : ℕ). by (nth ps k) a (room_of (nth ps k) (length m)).to) (room_from (nth ps k) (length m) (good_within (length m) ps fine k f.below))
          ∙ ap (λ (b : ℕ). by (nth ps k) (nth ps k).start b) (room_to (nth ps k) (length m) (good_within (length m) ps fine k f.below))
          ∙ ap (λ (n : ℕ). with n) (add-sub_cancel_left (nth ps k).start (nth ps k).length)
        where
          by : Phrase → ℕ → ℕ → Gathering
          by p a b = record { phrases = set g.phrases k (record { start = g.to; length = p.length }); memory = moved_down a g.to (b - a) g.memory; from = b; to = g.to + (b - a) }

          with : ℕ → Gathering
          with n = record {
            phrases = set g.phrases k (record { start = g.to; length = (nth ps k).length });
            memory = moved_down (nth ps k).start g.to n g.memory;
            from = (nth ps k).start + (nth ps k).length;
            to = g.to + n;
          }

      -- any other that has samples began before all that were left, or begins behind this one
      else : (i : ℕ) → i < 8 → 0 < (nth ps i).length → i ≢ k → ((nth ps i).start < g.from) ⊎ (end ≤ (nth ps i).start)
      unfolding end
      else i l s d = go (before_or (nth ps i).start g.from)
        where
          on : g.from ≤ (nth ps i).start → ((nth ps i).start + (nth ps i).length ≤ (nth ps k).start) ⊎ ((nth ps k).start + (nth ps k).length ≤ (nth ps i).start)
              → ((nth ps i).start < g.from) ⊎ ((nth ps k).start + (nth ps k).length ≤ (nth ps i).start)
          on h (inl c) = absurd (omega (arith, f.least i l s h))
          on h (inr c) = inr c

          go : ((nth ps i).start < g.from) ⊎ (g.from ≤ (nth ps i).start) → ((nth ps i).start < g.from) ⊎ ((nth ps k).start + (nth ps k).length ≤ (nth ps i).start)
          go (inl h) = inl h
          go (inr h) = on h (good_some (length m) ps fine i k l f.below d s f.some)

      goes_to : samples_before (nth ps k).start ps ≡ g.to
      unfolding samples_before
      goes_to =
          sum_same 8 (λ (i : ℕ). samples_if (nth ps k).start (nth ps i)) (λ (i : ℕ). samples_if g.from (nth ps i)) each
          ∙ sym t.filled
        where
          each : (i : ℕ) → i < 8 → samples_if (nth ps k).start (nth ps i) ≡ samples_if g.from (nth ps i)
          each i l = go (eq-zero-or-pos (nth ps i).length) (before_or (nth ps i).start g.from)
            where
              go : ((nth ps i).length ≡ 0) ⊎ (0 < (nth ps i).length) → ((nth ps i).start < g.from) ⊎ (g.from ≤ (nth ps i).start)
                  → samples_if (nth ps k).start (nth ps i) ≡ samples_if g.from (nth ps i)
              go c (inl h) = if_before (nth ps k).start (nth ps i) (omega (arith, f.behind)) ∙ sym (if_before g.from (nth ps i) h)
              go (inl e) (inr h) = omega (arith, if_most (nth ps k).start (nth ps i), if_most g.from (nth ps i))
              go (inr s) (inr h) = if-behind (nth ps k).start (nth ps i) (f.least i l s h) ∙ sym (if-behind g.from (nth ps i) h)

      fills : g.to + (nth ps k).length ≡ samples_before end ps
      unfolding samples_before end
      fills =
          ap (λ (n : ℕ). n + (nth ps k).length) t.filled
          ∙ sum_one 8 k (nth ps k).length (λ (i : ℕ). samples_if g.from (nth ps i)) (λ (i : ℕ). samples_if end (nth ps i)) f.below each
          (omega (arith, if-behind g.from (nth ps k) f.behind, if_before end (nth ps k) (omega (arith, f.some))))
        where
          each : (i : ℕ) → i < 8 → i ≢ k → samples_if g.from (nth ps i) ≡ samples_if end (nth ps i)
          each i l d = go (eq-zero-or-pos (nth ps i).length)
            where
              on : ((nth ps i).start < g.from) ⊎ (end ≤ (nth ps i).start) → samples_if g.from (nth ps i) ≡ samples_if end (nth ps i)
              on (inl h) = if_before g.from (nth ps i) h ∙ sym (if_before end (nth ps i) (omega (arith, f.behind)))
              on (inr h) = if-behind g.from (nth ps i) (omega (arith, f.behind)) ∙ sym (if-behind end (nth ps i) h)

              go : ((nth ps i).length ≡ 0) ⊎ (0 < (nth ps i).length) → samples_if g.from (nth ps i) ≡ samples_if end (nth ps i)
              go (inl e) = omega (arith, if_most end (nth ps i), if_most g.from (nth ps i))
              go (inr s) = on (else i l s d)

      fits : (nth ps k).start + (nth ps k).length ≤ length g.memory
      unfolding end
      fits = omega (arith, ends, t.size)

      down : g.to ≤ (nth ps k).start
      down = omega (arith, t.low, f.behind)

      gone_to : Phrase
      gone_to = record { start = g.to; length = (nth ps k).length }

      memory : List ℕ
      memory = moved_down (nth ps k).start g.to (nth ps k).length g.memory

      moves_placed : (i : ℕ) → i < 8 → get_or (set g.phrases k gone_to) i no_phrase ≡ down_to end ps (nth ps i)
      unfolding gone_to end
      moves_placed i l = go (same_or i k)
        where
          this : get_or (set g.phrases k gone_to) k no_phrase ≡ down_to end ps (nth ps k)
          this =
              get_or-set_same g.phrases k gone_to no_phrase (omega (arith, f.below, t.many))
              ∙ ap (λ (n : ℕ). record { start = n; length = (nth ps k).length }) (sym goes_to)
              ∙ sym (down_before end ps (nth ps k) (omega (arith, f.some)) ∙ gathered_some ps (nth ps k) f.some)

          other : ((nth ps i).length ≡ 0) ⊎ (0 < (nth ps i).length) → i ≢ k → down_to g.from ps (nth ps i) ≡ down_to end ps (nth ps i)
          other (inl e) d = down_empty ps (nth ps i) g.from e ∙ sym (down_empty ps (nth ps i) end e)
          other (inr s) d = on (else i l s d)
            where
              on : ((nth ps i).start < g.from) ⊎ (end ≤ (nth ps i).start) → down_to g.from ps (nth ps i) ≡ down_to end ps (nth ps i)
              on (inl h) = down_before g.from ps (nth ps i) h ∙ sym (down_before end ps (nth ps i) (omega (arith, f.behind)))
              on (inr h) = down_behind g.from ps (nth ps i) (omega (arith, f.behind)) ∙ sym (down_behind end ps (nth ps i) h)

          go : (i ≡ k) ⊎ (i ≢ k) → get_or (set g.phrases k gone_to) i no_phrase ≡ down_to end ps (nth ps i)
          go (inl e) = subst (λ (j : ℕ). get_or (set g.phrases k gone_to) j no_phrase ≡ down_to end ps (nth ps j)) (sym e) this
          go (inr d) = get_or-set_other g.phrases k i gone_to no_phrase d ∙ t.placed i l ∙ other (eq-zero-or-pos (nth ps i).length) d

      moves_kept : (i : ℕ) → i < 8 → 0 < (nth ps i).length → (nth ps i).start < end
          → take (nth ps i).length (drop (samples_before (nth ps i).start ps) memory) ≡ stored_in (nth ps i) m
      unfolding memory end stored_in
      moves_kept i l s h = go (same_or i k)
        where
          this : take (nth ps k).length (drop (samples_before (nth ps k).start ps) memory) ≡ stored_in (nth ps k) m
          this =
              ap (λ (n : ℕ). take (nth ps k).length (drop n memory)) goes_to
              ∙ moved_there (nth ps k).start g.to (nth ps k).length g.memory down fits
              ∙ ap (take (nth ps k).length) (drop_further g.memory m g.to (nth ps k).start t.rest down)

          other : ((nth ps i).start < g.from) ⊎ (end ≤ (nth ps i).start) → take (nth ps i).length (drop (samples_before (nth ps i).start ps) memory) ≡ stored_in (nth ps i) m
          other (inl b) =
              moved_below (nth ps k).start g.to (nth ps k).length g.memory down fits (samples_before (nth ps i).start ps) (nth ps i).length
              (omega (arith, t.filled, before_it ps i g.from l b))
              ∙ t.kept i l s b
          other (inr b) = absurd (omega arith)

          go : (i ≡ k) ⊎ (i ≢ k) → take (nth ps i).length (drop (samples_before (nth ps i).start ps) memory) ≡ stored_in (nth ps i) m
          go (inl e) = subst (λ (j : ℕ). take (nth ps j).length (drop (samples_before (nth ps j).start ps) memory) ≡ stored_in (nth ps j) m) (sym e) this
          go (inr d) = other (else i l s d)

      moves_every : (i : ℕ) → i < 8 → 0 < (nth ps i).length → (nth ps i).start < end → (j : ℕ) × (get_elem? (t.order ++ (k ∷ [])) j ≡ some i)
      moves_every i l s h = go (same_or i k)
        where
          other : ((nth ps i).start < g.from) ⊎ (end ≤ (nth ps i).start) → (j : ℕ) × (get_elem? (t.order ++ (k ∷ [])) j ≡ some i)
          other (inl b) = let e = t.every i l s b in (e.0, look_front t.order (k ∷ []) e.0 i e.1)
          other (inr b) = absurd (omega arith)

          go : (i ≡ k) ⊎ (i ≢ k) → (j : ℕ) × (get_elem? (t.order ++ (k ∷ [])) j ≡ some i)
          go (inl e) = (length t.order, look_last t.order k ∙ ap some (sym e))
          go (inr d) = other (else i l s d)

      moves_turned : Turned ps m moves
      unfolding moves end gone_to memory stored_in
      moves_turned = record {
        many = length-set g.phrases k (record { start = g.to; length = (nth ps k).length }) ∙ t.many;
        size = moved_length (nth ps k).start g.to (nth ps k).length g.memory down fits ∙ t.size;
        inside = ends;
        low = omega (arith, down);
        filled = fills;
        placed = moves_placed;
        rest =
            moved_rest (nth ps k).start g.to (nth ps k).length g.memory down fits
            ∙ drop_further g.memory m g.to (g.to + (nth ps k).length) t.rest (omega arith);
        kept = moves_kept;
        reached = inr (k, f.below, f.some, omega (arith, f.some), ap (λ (n : ℕ). n + (nth ps k).length) goes_to);
        order = t.order ++ (k ∷ []);
        those =
            each_last (λ (j : ℕ). (j < 8) × (0 < (nth ps j).length) × ((nth ps j).start < end)) t.order k
            (each_weaker
            (λ (j : ℕ). (j < 8) × (0 < (nth ps j).length) × ((nth ps j).start < g.from))
            (λ (j : ℕ). (j < 8) × (0 < (nth ps j).length) × ((nth ps j).start < end))
            (λ j h. (h.0, h.1, omega (arith, h.2, f.behind)))
            t.order
            t.those)
            (f.below, f.some, omega (arith, f.some));
        every = moves_every;
        rising =
            rising-last ps t.order k t.rising
            (each_weaker
            (λ (j : ℕ). (j < 8) × (0 < (nth ps j).length) × ((nth ps j).start < g.from))
            (λ (j : ℕ). (nth ps j).start < (nth ps k).start)
            (λ j h. omega (arith, h.2, f.behind))
            t.order
            t.those);
        joined =
            moved_front (nth ps k).start g.to (nth ps k).length g.memory down fits
            ∙ ap (λ (r : List ℕ). r ++ take (nth ps k).length (drop (nth ps k).start g.memory)) t.joined
            ∙ ap (λ (r : List ℕ). stored_all ps m t.order ++ take (nth ps k).length r) (drop_further g.memory m g.to (nth ps k).start t.rest down)
            ∙ sym (stored_last ps m t.order k);
        settled = λ h.
            ap (λ (n : ℕ). moved_down (nth ps k).start n (nth ps k).length g.memory) (sym goes_to ∙ h k f.below f.some)
            ∙ moved_same (nth ps k).start (nth ps k).length g.memory
            ∙ t.settled h;
      }

      moves_fewer : waiting end ps + 1 ≤ waiting g.from ps
      unfolding waiting end
      moves_fewer =
          sum_larger 8 k 1 (λ (i : ℕ). waits end (nth ps i)) (λ (i : ℕ). waits g.from (nth ps i)) f.below
          (λ i l. waits_fewer g.from end (nth ps i) (omega (arith, f.behind)))
          (omega (arith, waits_one g.from (nth ps k) f.some f.behind, waits_not end (nth ps k) (λ s. omega arith)))

    -- a turn moves one more, or all are moved
    next : (Over g.from ps 8 × (gather_next g ≡ g)) ⊎ (Turned ps m (gather_next g) × (waiting (gather_next g).from ps + 1 ≤ waiting g.from ps))
    unfolding gather_next
    next = go (first_from g.from g.phrases) (first g.from g.phrases 8)
      where
        go : (found : Option ℕ) → Found g.from g.phrases 8 found
            → (Over g.from ps 8 × (option_map_or (λ k. gather_phrase k g) found g ≡ g))
            ⊎ (Turned ps m (option_map_or (λ k. gather_phrase k g) found g) × (waiting (option_map_or (λ k. gather_phrase k g) found g).from ps + 1 ≤ waiting g.from ps))
        go None o = inl (over o, refl)
        go (Some k) f =
            let n = first_of k f in
            inr (subst (λ (h : Gathering). Turned ps m h × (waiting h.from ps + 1 ≤ waiting g.from ps)) (sym (phrase_moves k n)) (moves_turned k n, unfold moves in moves_fewer k n))

  over_none : (place : ℕ) → Over place ps 8 → waiting place ps ≡ 0
  unfolding waiting sum_below
  over_none place o =
      sum_same 8 (λ (i : ℕ). waits place (nth ps i)) (λ (i : ℕ). 0) (λ i l. waits_not place (nth ps i) (o i l))

  none_over : (place : ℕ) → waiting place ps ≡ 0 → Over place ps 8
  unfolding waiting
  none_over place e i l s = go (before_or (nth ps i).start place)
    where
      go : ((nth ps i).start < place) ⊎ (place ≤ (nth ps i).start) → (nth ps i).start < place
      go (inl h) = h
      go (inr h) = absurd (omega (arith, waits_one place (nth ps i) s h, sum_at 8 i (λ (i : ℕ). waits place (nth ps i)) l))

  -- as many turns as there are phrases to be moved move all
  turns : (n : ℕ) (g : Gathering) → Turned ps m g → waiting g.from ps ≤ n → Turned ps m (gather_turns n g) × Over (gather_turns n g).from ps 8
  unfolding gather_turns
  turns zero g t h = (t, none_over g.from (omega arith))
  turns (suc n) g t h = go (next g t) (turns n)
    where
      Done : Gathering → Type 0
      Done g = Turned ps m (gather_turns n g) × Over (gather_turns n g).from ps 8

      go : (Over g.from ps 8 × (gather_next g ≡ g)) ⊎ (Turned ps m (gather_next g) × (waiting (gather_next g).from ps + 1 ≤ waiting g.from ps))
          → ((g : Gathering) → Turned ps m g → waiting g.from ps ≤ n → Done g) → Done (gather_next g)
      go (inl o) ih = subst Done (sym o.1) (ih g t (omega (arith, over_none g.from o.0)))
      go (inr d) ih = ih (gather_next g) d.0 (omega arith)

  -- none is moved yet
  begins : length ps ≡ 8 → Turned ps m (record { phrases = ps; memory = m; from = 0; to = 0 })
  unfolding stored_all Each
  begins many = record {
    many = many;
    size = refl;
    inside = omega arith;
    low = omega arith;
    filled = sym (before_none ps);
    placed = λ i l. sym (down_behind 0 ps (nth ps i) (omega arith));
    rest = refl;
    kept = λ i l s h. absurd (omega arith);
    reached = inl refl;
    order = [];
    those = tt;
    every = λ k l s h. absurd (omega arith);
    rising = tt;
    joined = refl;
    settled = λ h. refl;
  }

  pub all_turned : length ps ≡ 8 → Turned ps m (gathering_of ps m) × Over (gathering_of ps m).from ps 8
  unfolding gathering_of waiting
  all_turned many =
      turns 8 (record { phrases = ps; memory = m; from = 0; to = 0 }) (begins many)
      (sum_most 8 (λ (i : ℕ). waits 0 (nth ps i)) (λ i. waits_most 0 (nth ps i)))
