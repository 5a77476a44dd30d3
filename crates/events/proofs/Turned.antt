-- That `one`, `feed` and `turn` do what the definitions say, from what their parts leave. Assumes nothing.
use mathlib.Core.Path.{◌≡◌, refl, sym, ap, ◌∙◌}
use mathlib.Core.Bool.{Bool, true, false, cond}
use mathlib.Core.List.{List, ◌++◌, append-nil, append_assoc}
use Prim.Native.Nat.{ℕ, suc, ◌+◌, ◌-◌, ◌*◌, ◌≤◌, ◌<◌, min}
use native.Mathlib.Omega.{arith}
use lib.Dec.{eqb}
use lib.ListN.{length, take, drop, length-drop}
use lib.Seq.{drop-drop, length-take-le, take-add}
use Rattle.walks.proofs.Lists.Loops.{take_most}
use Rattle.decimal.specs.Lines.{text_of}
use Rattle.listing.specs.Steps.{open_of, record_step, step_memory}
use Rattle.listing.specs.declared.Step.{Step}
use Rattle.events.specs.declared.feeds.State.{State}
use Rattle.events.specs.declared.feeds.Fed.{Fed}
use Rattle.events.specs.declared.Run.{Run}
use Rattle.events.specs.Feeds.{
  size_of,
  ready_of,
  Handed,
  next_part,
  part_step,
  part_memory,
  one_by,
  one_of,
  none,
  behind,
  fed_by,
  fed_of,
  Lays,
  PlaysOne,
  Hands,
  piece_fed,
  FeedsPiece,
}
use Rattle.events.proofs.Bytes.{tail-is}
use Rattle.events.proofs.Fed.{part_length, fed_none, fed_next}

-- ---- `one`
module _ (fed : Fed) (input m out : List ℕ) (n : ℕ) (within : fed.used ≤ length input) where
  abbrev s : State
  s = fed.state

  abbrev w : List ℕ
  w = drop fed.used input

  abbrev tail : List ℕ
  tail = take (length input - fed.used) w

  abbrev part : List ℕ
  part = take (fed.used + n - fed.used) w

  module _ (size : n ≡ min (size_of s.opened tail) (length tail)) where
    n-is : n ≡ min (size_of s.opened w) (length w)
    n-is = size ∙ rw (tail-is fed.used input)

    part_is : part ≡ next_part s w
    unfolding next_part
    part_is =
        ap (λ (k : ℕ). take k w) (let e : fed.used + n - fed.used ≡ min (size_of s.opened w) (length w) = omega (arith, n-is) in e)
        ∙ take_most w (size_of s.opened w) (length w) refl

    module _ (step : Step) (r : Fed) (m' out' : List ℕ) (stepped : step ≡ part_step s m part) (memory : m' ≡ part_memory s m part)
        (lays : Lays step fed.used (fed.used + n) fed.size out r out') where
      is : step ≡ part_step s m (next_part s w)
      is = stepped ∙ ap (part_step s m) part_is

      past_within : r.used ≤ length input
      past_within = rw lays.used (go step.listing.on)
        where
          go : (on : Bool) → cond on (fed.used + n) fed.used ≤ length input
          go true = omega (arith, n-is, length-drop fed.used input)
          go false = within

      waits : drop r.used input ≡ cond step.listing.on (drop (length (next_part s w)) w) w
      waits = rw lays.used (go step.listing.on)
        where
          go : (on : Bool) → drop (cond on (fed.used + n) fed.used) input ≡ cond on (drop (length (next_part s w)) w) w
          go true =
              ap (λ (k : ℕ). drop (fed.used + k) input) (n-is ∙ sym (part_length s w))
              ∙ sym (drop-drop (length (next_part s w)) fed.used input)
          go false = refl

      pub one_is : PlaysOne fed input m out r m' out'
      unfolding one_by
      one_is = record {
        state = lays.state ∙ ap (λ (t : Step). record { listing = t.listing; opened = true }) is;
        memory = memory ∙ ap (part_memory s m) part_is;
        used = past_within;
        waiting = waits ∙ ap (λ (t : Step). cond t.listing.on (drop (length (next_part s w)) w) w) is;
        size = lays.size;
        text = lays.text ∙ ap (λ (t : Step). take fed.size out ++ text_of t.line) is;
      }

-- by which the header or a record is played
module _ (s : State) (m part : List ℕ) where
  pub as_header : s.opened ≡ false → (open_of part (length m) ≡ part_step s m part) × (m ≡ part_memory s m part)
  unfolding part_step part_memory
  as_header e = (simp e, simp e)

  pub as_record : s.opened ≡ true → (record_step s.listing part m ≡ part_step s m part) × (step_memory s.listing part m ≡ part_memory s m part)
  unfolding part_step part_memory
  as_record e = (simp e, simp e)

-- ---- `feed`: what the turns that are left hand out, behind what was, is the goal
abbrev pub left_by : ℕ → Bool → List ℕ → Fed → List ℕ → Handed
left_by turns last input fed m = fed_by turns last fed.state m (drop fed.used input)

pub record Goes (goal : Handed) (turns : ℕ) (last : Bool) (input : List ℕ) (fed : Fed) (m out : List ℕ) : Type 0 where
  pub used : fed.used ≤ length input
  pub room : fed.size + 64 * turns ≤ length out
  pub state : (left_by turns last input fed m).state ≡ goal.state
  pub memory : (left_by turns last input fed m).memory ≡ goal.memory
  pub waiting : (left_by turns last input fed m).waiting ≡ goal.waiting
  pub text : take fed.size out ++ (left_by turns last input fed m).text ≡ goal.text

pub goes_first : (last : Bool) (s : State) (m input out : List ℕ) → 64 * (length input + 1) ≤ length out
    → Goes (fed_of last s m input) (length input + 1) last input (record { state = s; used = 0; size = 0 }) m out
unfolding fed_of
goes_first last s m input out room = record {
  used = omega arith;
  room = omega arith;
  state = refl;
  memory = refl;
  waiting = refl;
  text = refl;
}

module _ {goal : Handed} {turns : ℕ} {last : Bool} {input : List ℕ} {fed : Fed} {m out : List ℕ} (g : Goes goal turns last input fed m out) where
  pub goes_next : {r : Fed} {m' out' : List ℕ} → 0 < turns → ready_of last fed.state (drop fed.used input) ≡ true
      → PlaysOne fed input m out r m' out' → length out' ≡ length out → Goes goal (turns - 1) last input r m' out'
  goes_next {r} {m'} {out'} some ready p long = record {
    used = p.used;
    room = omega (arith, p.size, g.room);
    state = ap (λ (h : Handed). h.state) same ∙ sym (ap (λ (h : Handed). h.state) on) ∙ g.state;
    memory = ap (λ (h : Handed). h.memory) same ∙ sym (ap (λ (h : Handed). h.memory) on) ∙ g.memory;
    waiting = ap (λ (h : Handed). h.waiting) same ∙ sym (ap (λ (h : Handed). h.waiting) on) ∙ g.waiting;
    text = rw (p.text, same, append_assoc) (sym (ap (λ (h : Handed). take fed.size out ++ h.text) on) ∙ g.text);
  }
    where
      w : List ℕ
      w = drop fed.used input

      then : Handed
      then = fed_by (turns - 1) last (one_of fed.state m w).state (one_of fed.state m w).memory (one_of fed.state m w).waiting

      same : left_by (turns - 1) last input r m' ≡ then
      same = rw (p.state, p.memory, p.waiting)

      on : left_by turns last input fed m ≡ behind (one_of fed.state m w).text then
      on =
          ap (λ (n : ℕ). fed_by n last fed.state m w) (let e : turns ≡ suc (turns - 1) = omega arith in e)
          ∙ fed_next (turns - 1) last fed.state m w ready

  ends_as : left_by turns last input fed m ≡ none fed.state m (drop fed.used input) → Hands goal input fed m out
  ends_as e = record {
    state = sym (ap (λ (h : Handed). h.state) e) ∙ g.state;
    memory = sym (ap (λ (h : Handed). h.memory) e) ∙ g.memory;
    used = g.used;
    waiting = sym (ap (λ (h : Handed). h.waiting) e) ∙ g.waiting;
    size = omega (arith, g.room);
    text = sym (append-nil (take fed.size out)) ∙ sym (ap (λ (h : Handed). take fed.size out ++ h.text) e) ∙ g.text;
  }

  pub goes_none : ready_of last fed.state (drop fed.used input) ≡ false → Hands goal input fed m out
  goes_none e = ends_as (fed_none turns last fed.state m (drop fed.used input) e)

  pub goes_over : turns ≤ 0 → Hands goal input fed m out
  unfolding fed_by
  goes_over h = ends_as (ap (λ (n : ℕ). left_by n last input fed m) (let e : turns ≡ 0 = omega arith in e))

-- ---- `turn`: what was read is what stands behind what waited
pub turn_is : (run : Run) (m input input' input'' m' out : List ℕ) (got left : ℕ) (fed : Fed)
    → take run.have input' ≡ take run.have input → run.have + got ≤ length input'
    → Hands (fed_of (eqb got 0) run.state m (take (run.have + got) input')) (take (run.have + got) input') fed m' out
    → left ≤ length input'' → take left input'' ≡ drop fed.used (take (run.have + got) input')
    → FeedsPiece run m input (record { state = fed.state; have = left; size = fed.size }) m' input'' out
turn_is run m input input' input'' m' out got left fed kept room h short front = record {
  piece = piece;
  room = short;
  fits = h.size;
  state = h.state ∙ ap (λ (x : Handed). x.state) is;
  memory = h.memory ∙ ap (λ (x : Handed). x.memory) is;
  waiting = front ∙ h.waiting ∙ ap (λ (x : Handed). x.waiting) is;
  text = h.text ∙ ap (λ (x : Handed). x.text) is;
}
  where
    piece : List ℕ
    piece = take got (drop run.have input')

    long : length piece ≡ got
    long = length-take-le got (drop run.have input') (omega (arith, length-drop run.have input'))

    behind_it : take (run.have + got) input' ≡ take run.have input ++ piece
    behind_it = take-add run.have got input' ∙ ap (λ (l : List ℕ). l ++ piece) kept

    is : fed_of (eqb got 0) run.state m (take (run.have + got) input') ≡ piece_fed run m input piece
    is = rw (long, behind_it)
