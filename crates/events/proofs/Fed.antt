-- That the texts of all feeds are what is printed of the input, however it arrives. Assumes nothing.
use mathlib.Core.Path.{◌≡◌, refl, sym, ap, ◌∙◌}
use mathlib.Core.Bool.{Bool, true, false, cond, ◌&&◌, ◌||◌}
use mathlib.Core.List.{List, [], ◌∷◌, ◌++◌, append-nil, append_assoc}
use Prim.Native.Nat.{ℕ, zero, suc, ◌+◌, ◌≤◌, ◌<◌, min}
use native.Mathlib.Numerals.{add-one}
use native.Mathlib.Omega.{arith}
use borrow.Author.Tests.{leb-true, leb-false}
use lib.Dec.{leb, eqb}
use lib.ListN.{length, take, drop, length-take, length-drop, length-replicate, drop_of_length-le}
use lib.Seq.{take-nil, take-append-le, drop-append-le}
use Rattle.walks.proofs.Tests.{and-true}
use Rattle.decimal.specs.Lines.{text_of}
use Rattle.listing.specs.Records.{half_at, good_header, header_of, to_read}
use Rattle.listing.specs.Steps.{opened_of, open_of, record_step, step_memory}
use Rattle.listing.specs.Whole.{next_of, printed_from, printed}
use Rattle.listing.specs.declared.Listing.{Listing}
use Rattle.events.specs.declared.feeds.State.{State}
use Rattle.events.specs.Feeds.{
  size_of,
  ready_of,
  Handed,
  next_part,
  part_step,
  part_memory,
  one_by,
  one_of,
  none,
  behind,
  fed_by,
  fed_of,
  unopened,
  blank,
  handed_from,
  joined,
  Feeds,
}

never : {A : Type 0} {b : Bool} → b ≡ true → b ≡ false → A
never t f = let z : ◌≡◌ {A = ℕ} 0 1 = cc in absurd (omega arith)

-- ---- sizes
rest-most : (b : List ℕ) → to_read b ≤ 45
unfolding to_read
rest-most b = go (eqb (length b) 2) (leb (half_at b 0) 45) refl
  where
    go : (two low : Bool) → leb (half_at b 0) 45 ≡ low → cond (two && low) (half_at b 0) 0 ≤ 45
    go true true e = leb-true _ _ e
    go true false e = omega arith
    go false low e = omega arith

size_least : (opened : Bool) (w : List ℕ) → 2 ≤ size_of opened w
unfolding size_of
size_least true w = omega arith
size_least false w = omega arith

size_most : (opened : Bool) (w : List ℕ) → size_of opened w ≤ 47
unfolding size_of
size_most true w = omega (arith, rest-most (take 2 w))
size_most false w = omega arith

-- what is whole is the same with more bytes behind it
size_more : (opened : Bool) (w more : List ℕ) → size_of opened w ≤ length w → size_of opened (w ++ more) ≡ size_of opened w
unfolding size_of
size_more true w more h = ap (λ (l : List ℕ). 2 + to_read l) (take-append-le 2 w more (omega arith))
size_more false w more h = refl

module _ (s : State) (w more : List ℕ) (h : size_of s.opened w ≤ length w) where
  part-more : next_part s (w ++ more) ≡ next_part s w
  unfolding next_part
  part-more = ap (λ (n : ℕ). take n (w ++ more)) (size_more s.opened w more h) ∙ take-append-le (size_of s.opened w) w more h

pub part_length : (s : State) (w : List ℕ) → length (next_part s w) ≡ min (size_of s.opened w) (length w)
unfolding next_part
part_length s w = length-take (size_of s.opened w) w

-- ---- one header or record
-- where there are no bytes at all the listing ends
nothing_ends : (s : State) (m : List ℕ) → (part_step s m []).listing.on ≡ false
unfolding part_step record_step opened_of header_of good_header
nothing_ends s m = go s.opened
  where
    go : (opened : Bool) → (cond opened (record_step s.listing [] m) (open_of [] (length m))).listing.on ≡ false
    go true = refl
    go false = refl

-- if it goes on, bytes were used
none_of : (s : State) → next_part s [] ≡ []
unfolding next_part
none_of s = take-nil (size_of s.opened [])

uses : (s : State) (m w : List ℕ) → (one_of s m w).state.listing.on ≡ true → length (one_of s m w).waiting < length w
unfolding one_by
uses s m [] on = never on (ap (λ (l : List ℕ). (part_step s m l).listing.on) (none_of s) ∙ nothing_ends s m)
uses s m (b ∷ w) on = rw on
    (omega (arith, length-drop (length (next_part s (b ∷ w))) (b ∷ w), part_length s (b ∷ w), size_least s.opened (b ∷ w)))

-- with more bytes behind what is whole, they wait behind it
module _ (s : State) (m w more : List ℕ) (h : size_of s.opened w ≤ length w) where
  abbrev waits_on : Handed → Handed
  waits_on o = record { state = o.state; memory = o.memory; waiting = o.waiting ++ more; text = o.text }

  one_more : one_of s m (w ++ more) ≡ waits_on (one_of s m w)
  unfolding one_by
  one_more =
      ap (one_by s m (w ++ more)) (part-more s w more h)
      ∙ ap (λ (l : List ℕ). record { state = (one_of s m w).state; memory = (one_of s m w).memory; waiting = l; text = (one_of s m w).text })
      (go (part_step s m (next_part s w)).listing.on)
    where
      go : (on : Bool) → cond on (drop (length (next_part s w)) (w ++ more)) (w ++ more) ≡ cond on (drop (length (next_part s w)) w) w ++ more
      go true = drop-append-le (length (next_part s w)) w more (omega (arith, part_length s w))
      go false = refl

-- ---- a feed, turn by turn
off : (last : Bool) (s : State) (w : List ℕ) → s.listing.on ≡ false → ready_of last s w ≡ false
unfolding ready_of
off last s w e = rw e

ready_last : (s : State) (w : List ℕ) → ready_of true s w ≡ s.listing.on
unfolding ready_of
ready_last s w = sym (and-true s.listing.on)

ready_whole : (s : State) (w : List ℕ) → ready_of false s w ≡ true → (s.listing.on ≡ true) × (size_of s.opened w ≤ length w)
unfolding ready_of
ready_whole s w e = go s.listing.on (leb (size_of s.opened w) (length w)) refl refl e
  where
    go : (on whole : Bool) → s.listing.on ≡ on → leb (size_of s.opened w) (length w) ≡ whole → (on && (false || whole)) ≡ true
        → (s.listing.on ≡ true) × (size_of s.opened w ≤ length w)
    go true true a b e = (a, leb-true _ _ b)
    go true false a b e = never e refl
    go false whole a b e = never e refl

module _ (n : ℕ) (last : Bool) (s : State) (m w : List ℕ) where
  pub fed_none : ready_of last s w ≡ false → fed_by n last s m w ≡ none s m w
  unfolding fed_by
  fed_none e = go n
    where
      go : (n : ℕ) → fed_by n last s m w ≡ none s m w
      go zero = refl
      go (suc n) = rw e

  pub fed_next : ready_of last s w ≡ true
      → fed_by (suc n) last s m w ≡ behind (one_of s m w).text (fed_by n last (one_of s m w).state (one_of s m w).memory (one_of s m w).waiting)
  unfolding fed_by
  fed_next e = rw e

-- ---- turns: one more than there are bytes is enough
module _ (last : Bool) (s : State) (m w : List ℕ) where
  abbrev o : Handed
  o = one_of s m w

  -- after one, nothing is left to do once the listing is over, and otherwise there are fewer bytes
  either_way : (P : State → List ℕ → List ℕ → Type 0) → ((s : State) (m w : List ℕ) → s.listing.on ≡ false → P s m w)
      → ((s' : State) (m' w' : List ℕ) → length w' < length w → P s' m' w') → P o.state o.memory o.waiting
  either_way P over on = go o.state.listing.on refl
    where
      go : (b : Bool) → o.state.listing.on ≡ b → P o.state o.memory o.waiting
      go true e = on o.state o.memory o.waiting (uses s m w e)
      go false e = over o.state o.memory o.waiting e

-- two feeds to the end that have turns enough hand out the same
abbrev Same : ℕ → ℕ → State → List ℕ → List ℕ → Type 0
Same n k s m w = (fed_by n true s m w).text ≡ (fed_by k true s m w).text

same_over : (n k : ℕ) (s : State) (m w : List ℕ) → s.listing.on ≡ false → Same n k s m w
same_over n k s m w e = rw (fed_none n true s m w (off true s w e), fed_none k true s m w (off true s w e))

same_next : (n k : ℕ) → ((s : State) (m w : List ℕ) → length w < n → length w < k → Same n k s m w)
    → (s : State) (m w : List ℕ) → length w < suc n → length w < suc k → Same (suc n) (suc k) s m w
same_next n k more s m w h j = go s.listing.on refl
  where
    go : (b : Bool) → s.listing.on ≡ b → Same (suc n) (suc k) s m w
    go false e = same_over (suc n) (suc k) s m w e
    go true e =
        rw (fed_next n true s m w (ready_last s w ∙ e), fed_next k true s m w (ready_last s w ∙ e))
        (ap (λ (l : List ℕ). (one_of s m w).text ++ l)
        (either_way true s m w (Same n k) (same_over n k) (λ s' m' w' less. more s' m' w' (omega arith) (omega arith))))

enough : (n k : ℕ) (s : State) (m w : List ℕ) → length w < n → length w < k → Same n k s m w
enough zero k s m w h j = absurd (omega arith)
enough (suc n) zero s m w h j = absurd (omega arith)
enough (suc n) (suc k) s m w h j = same_next n k (enough n k) s m w h j

-- a feed stops where nothing is ready
abbrev Stops : ℕ → Bool → State → List ℕ → List ℕ → Type 0
Stops n last s m w = ready_of last (fed_by n last s m w).state (fed_by n last s m w).waiting ≡ false

stops_none : (n : ℕ) (last : Bool) (s : State) (m w : List ℕ) → ready_of last s w ≡ false → Stops n last s m w
stops_none n last s m w e = rw (fed_none n last s m w e) e

stops_next : (n : ℕ) (last : Bool) → ((s : State) (m w : List ℕ) → length w < n → Stops n last s m w)
    → (s : State) (m w : List ℕ) → length w < suc n → Stops (suc n) last s m w
stops_next n last more s m w h = go (ready_of last s w) refl
  where
    go : (b : Bool) → ready_of last s w ≡ b → Stops (suc n) last s m w
    go false e = stops_none (suc n) last s m w e
    go true e =
        rw (fed_next n last s m w e)
        (either_way last s m w (Stops n last) (λ s' m' w' over. stops_none n last s' m' w' (off last s' w' over)) (λ s' m' w' less. more s' m' w' (omega arith)))

stops : (n : ℕ) (last : Bool) (s : State) (m w : List ℕ) → length w < n → Stops n last s m w
stops zero last s m w h = absurd (omega arith)
stops (suc n) last s m w h = stops_next n last (stops n last) s m w h

-- ---- what is printed from here to the end
abbrev until : State → List ℕ → List ℕ → List ℕ
until s m w = (fed_of true s m w).text

until_over : (s : State) (m w : List ℕ) → s.listing.on ≡ false → until s m w ≡ []
unfolding fed_of
until_over s m w e = ap (λ (h : Handed). h.text) (fed_none (length w + 1) true s m w (off true s w e))

until_next : (s : State) (m w : List ℕ) → s.listing.on ≡ true
    → until s m w ≡ (one_of s m w).text ++ until (one_of s m w).state (one_of s m w).memory (one_of s m w).waiting
unfolding fed_of
until_next s m w e =
    ap (λ (n : ℕ). (fed_by n true s m w).text) (add-one (length w))
    ∙ rw (fed_next (length w) true s m w (ready_last s w ∙ e))
    (ap (λ (l : List ℕ). (one_of s m w).text ++ l)
    (either_way true s m w (λ s' m' w'. Same (length w) (length w' + 1) s' m' w') (λ s' m' w'. same_over (length w) (length w' + 1) s' m' w')
    (λ s' m' w' less. enough (length w) (length w' + 1) s' m' w' less (omega arith))))

-- ---- what is printed is what a feed hands out, and then what is printed from what it leaves
abbrev Parts : ℕ → State → List ℕ → List ℕ → Type 0
Parts n s m w = (more : List ℕ) → until s m (w ++ more)
    ≡ (fed_by n false s m w).text ++ until (fed_by n false s m w).state (fed_by n false s m w).memory ((fed_by n false s m w).waiting ++ more)

parts_next : (n : ℕ) → ((s : State) (m w : List ℕ) → Parts n s m w) → (s : State) (m w : List ℕ) → Parts (suc n) s m w
parts_next n then s m w more = go (ready_of false s w) refl
  where
    go : (b : Bool) → ready_of false s w ≡ b
        → until s m (w ++ more)
        ≡ (fed_by (suc n) false s m w).text ++ until (fed_by (suc n) false s m w).state (fed_by (suc n) false s m w).memory ((fed_by (suc n) false s m w).waiting ++ more)
    go false e = rw (fed_none (suc n) false s m w e)
    go true e =
        let whole = ready_whole s w e in
        until_next s m (w ++ more) whole.0
        ∙ rw (one_more s m w more whole.1, fed_next n false s m w e, append_assoc)
        (ap (λ (l : List ℕ). (one_of s m w).text ++ l) (then (one_of s m w).state (one_of s m w).memory (one_of s m w).waiting more))

parts : (n : ℕ) (s : State) (m w : List ℕ) → Parts n s m w
unfolding fed_by
parts zero s m w more = refl
parts (suc n) s m w more = parts_next n (parts n) s m w more

hands : (s : State) (m w : List ℕ) (pieces : List (List ℕ)) → handed_from s m w pieces ≡ until s m (w ++ joined pieces)
unfolding handed_from joined fed_of
hands s m w [] = rw append-nil
hands s m w (piece ∷ pieces) =
    let h = fed_of false s m (w ++ piece) in
    ap (λ (l : List ℕ). h.text ++ l) (hands h.state h.memory h.waiting pieces)
    ∙ sym (parts (length (w ++ piece) + 1) s m (w ++ piece) (joined pieces))
    ∙ rw append_assoc

-- ---- `printed`
-- bytes that aren't there can't be used
drop_taken : (n : ℕ) (w : List ℕ) → drop (length (take n w)) w ≡ drop n w
drop_taken n w = go (leb n (length w)) refl
  where
    go : (b : Bool) → leb n (length w) ≡ b → drop (length (take n w)) w ≡ drop n w
    go true e =
        let h : n ≤ length w = leb-true n (length w) e in
        let all : length (take n w) ≡ n = omega (arith, length-take n w) in
        ap (λ (k : ℕ). drop k w) all
    go false e = let h : length w < n = leb-false n (length w) e in
        drop_of_length-le w {i = length (take n w)} (omega (arith, length-take n w)) ∙ sym (drop_of_length-le w {i = n} (omega arith))

abbrev opened : Listing → State
opened l = record { listing = l; opened = true }

abbrev AsPrinted : ℕ → Listing → List ℕ → List ℕ → Type 0
AsPrinted n l m w = (fed_by n true (opened l) m w).text ≡ printed_from n l m w

printed_over : (n : ℕ) (l : Listing) (m w : List ℕ) → l.on ≡ false → printed_from n l m w ≡ []
unfolding printed_from
printed_over zero l m w e = refl
printed_over (suc n) l m w e = rw e

as_printed_next : (n : ℕ) → ((l : Listing) (m w : List ℕ) → AsPrinted n l m w) → (l : Listing) (m w : List ℕ) → AsPrinted (suc n) l m w
unfolding printed_from one_by next_part size_of part_step part_memory
as_printed_next n then l m w = go l.on refl
  where
    r : List ℕ
    r = next_of w

    on_with : (b : Bool) → (record_step l r m).listing.on ≡ b
        → (fed_by n true (opened (record_step l r m).listing) (step_memory l r m) (cond (record_step l r m).listing.on (drop (length r) w) w)).text
        ≡ printed_from n (record_step l r m).listing (step_memory l r m) (drop (length r) w)
    on_with true e = rw e (then (record_step l r m).listing (step_memory l r m) (drop (length r) w))
    on_with false e =
        ap (λ (h : Handed). h.text) (fed_none n true (opened (record_step l r m).listing) (step_memory l r m) _ (off true (opened (record_step l r m).listing) _ e))
        ∙ sym (printed_over n (record_step l r m).listing (step_memory l r m) (drop (length r) w) e)

    go : (b : Bool) → l.on ≡ b → AsPrinted (suc n) l m w
    go false e = rw (fed_none (suc n) true (opened l) m w (off true (opened l) w e)) (sym (printed_over (suc n) l m w e))
    go true e =
        rw (fed_next n true (opened l) m w (ready_last (opened l) w ∙ e))
        (ap (λ (t : List ℕ). text_of (record_step l r m).line ++ t) (on_with (record_step l r m).listing.on refl) ∙ rw e)

as_printed : (n : ℕ) (l : Listing) (m w : List ℕ) → AsPrinted n l m w
unfolding fed_by printed_from
as_printed zero l m w = refl
as_printed (suc n) l m w = as_printed_next n (as_printed n) l m w

-- after the header, whatever was good or bad of it
headed : (input : List ℕ) (l : Listing)
    → until (opened l) blank (cond l.on (drop (length (take 3 input)) input) input) ≡ printed_from (length input + 1) l blank (drop 3 input)
unfolding fed_of
headed input l = go l.on refl
  where
    go : (b : Bool) → l.on ≡ b
        → until (opened l) blank (cond l.on (drop (length (take 3 input)) input) input) ≡ printed_from (length input + 1) l blank (drop 3 input)
    go true e =
        ap (λ (on : Bool). until (opened l) blank (cond on (drop (length (take 3 input)) input) input)) e
        ∙ ap (λ (x : List ℕ). until (opened l) blank x) (drop_taken 3 input)
        ∙ enough (length (drop 3 input) + 1) (length input + 1) (opened l) blank (drop 3 input) (omega arith) (omega (arith, length-drop 3 input))
        ∙ as_printed (length input + 1) l blank (drop 3 input)
    go false e = until_over (opened l) blank (cond l.on (drop (length (take 3 input)) input) input) e ∙ sym (printed_over (length input + 1) l blank (drop 3 input) e)

until_printed : (input : List ℕ) → until unopened blank input ≡ printed input
unfolding printed one_by next_part size_of part_step part_memory
until_printed input =
    until_next unopened blank input refl
    ∙ rw (length-replicate {A = ℕ} 8192 0)
    (ap (λ (t : List ℕ). text_of (open_of (take 3 input) 8192).line ++ t) (headed input (open_of (take 3 input) 8192).listing))

-- ---- all of it
short : (s : State) (w : List ℕ) → s.listing.on ≡ true → ready_of false s w ≡ false → length w < 47
unfolding ready_of
short s w on e =
    omega (arith, leb-false (size_of s.opened w) (length w) (rw on at e), size_most s.opened w)

pub fed : Feeds
unfolding fed_of
fed = record {
  prints = λ pieces. hands unopened blank [] pieces ∙ until_printed (joined pieces);
  ends = λ s m w. sym (ready_last (fed_of true s m w).state (fed_of true s m w).waiting) ∙ stops (length w + 1) true s m w (omega arith);
  over = λ s m w pieces e. hands s m w pieces ∙ until_over s m (w ++ joined pieces) e;
  prompt = λ s m w. stops (length w + 1) false s m w (omega arith);
  short = short;
}
