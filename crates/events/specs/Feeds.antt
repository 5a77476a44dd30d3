-- How a listing is played while its input arrives: a feed plays what is whole of the bytes that wait, and what isn't
-- waits for more. Then what the program hands out over all its feeds, and that this is `printed` of its input, however it
-- arrives. Definitions only; `proofs/Fed: fed` proves `Feeds`.
use Rattle.std.specs.Prelude.{◌≡◌, Bool, true, false, cond, ◌&&◌, ◌||◌, List, [], ◌∷◌, ◌++◌, ℕ, zero, suc, ◌+◌, ◌≤◌, ◌<◌, leb, eqb, length, take, drop, replicate}
use Rattle.decimal.specs.Lines.{text_of}
use Rattle.listing.specs.Records.{to_read}
use Rattle.listing.specs.Steps.{no_header, player_of, open_of, record_step, step_memory}
use Rattle.listing.specs.Whole.{printed}
use Rattle.listing.specs.declared.Step.{Step}
use Rattle.events.specs.declared.feeds.State.{State}
use Rattle.events.specs.declared.feeds.Fed.{Fed}
use Rattle.events.specs.declared.Run.{Run}

-- how many bytes the header has, or the next record by its length
unfoldable pub size_of : Bool → List ℕ → ℕ
size_of opened w = cond opened (2 + to_read (take 2 w)) 3

-- whether something is to be played of the bytes that wait: the header or a record that is whole, or where no more bytes
-- come whatever there is of it, none at all included
unfoldable pub ready_of : Bool → State → List ℕ → Bool
ready_of last s w = s.listing.on && (last || leb (size_of s.opened w) (length w))

-- what a feed leaves, the bytes that wait among it, and the text that it hands out
pub record Handed : Type 0 where
  pub state : State
  pub memory : List ℕ
  pub waiting : List ℕ
  pub text : List ℕ

-- ---- one header or record: as many bytes of it as there are
unfoldable pub next_part : State → List ℕ → List ℕ
next_part s w = take (size_of s.opened w) w

unfoldable pub part_step : State → List ℕ → List ℕ → Step
part_step s m part = cond s.opened (record_step s.listing part m) (open_of part (length m))

unfoldable pub part_memory : State → List ℕ → List ℕ → List ℕ
part_memory s m part = cond s.opened (step_memory s.listing part m) m

-- what ends the listing is not used up
unfoldable pub one_by : State → List ℕ → List ℕ → List ℕ → Handed
one_by s m w part = record {
  state = record { listing = (part_step s m part).listing; opened = true };
  memory = part_memory s m part;
  waiting = cond (part_step s m part).listing.on (drop (length part) w) w;
  text = text_of (part_step s m part).line;
}

abbrev pub one_of : State → List ℕ → List ℕ → Handed
one_of s m w = one_by s m w (next_part s w)

-- ---- all that is ready, in n turns at most
abbrev pub none : State → List ℕ → List ℕ → Handed
none s m w = record { state = s; memory = m; waiting = w; text = [] }

-- the same with a text before it
abbrev pub behind : List ℕ → Handed → Handed
behind text h =
    record { state = h.state; memory = h.memory; waiting = h.waiting; text = text ++ h.text }

unfoldable pub fed_by : ℕ → Bool → State → List ℕ → List ℕ → Handed
fed_by zero last s m w = none s m w
fed_by (suc n) last s m w =
    let h = one_of s m w in
    cond (ready_of last s w) (behind h.text (fed_by n last h.state h.memory h.waiting)) (none s m w)

-- each turn uses a byte, and the end is one turn more
unfoldable pub fed_of : Bool → State → List ℕ → List ℕ → Handed
fed_of last s m w = fed_by (length w + 1) last s m w

-- what `played` answers of a step: where its bytes start and end, and where the text before its line ends
pub record Lays (step : Step) (start end at : ℕ) (out : List ℕ) (r : Fed) (out' : List ℕ) : Type 0 where
  pub state : r.state ≡ record { listing = step.listing; opened = true }
  pub used : r.used ≡ cond step.listing.on end start
  pub size : r.size ≤ at + 64
  pub text : take r.size out' ≡ take at out ++ text_of step.line

-- what `one` answers, after what was played of `input` and stands in front of `out` so far
pub record PlaysOne (fed : Fed) (input m out : List ℕ) (r : Fed) (m' out' : List ℕ) : Type 0 where
  pub state : r.state ≡ (one_of fed.state m (drop fed.used input)).state
  pub memory : m' ≡ (one_of fed.state m (drop fed.used input)).memory
  pub used : r.used ≤ length input
  pub waiting : drop r.used input ≡ (one_of fed.state m (drop fed.used input)).waiting
  pub size : r.size ≤ fed.size + 64
  pub text : take r.size out' ≡ take fed.size out ++ (one_of fed.state m (drop fed.used input)).text

-- what `feed` answers of `input`, and leaves in the memory and in `out`: the text stands in front of `out`
pub record Hands (h : Handed) (input : List ℕ) (r : Fed) (m out : List ℕ) : Type 0 where
  pub state : r.state ≡ h.state
  pub memory : m ≡ h.memory
  pub used : r.used ≤ length input
  pub waiting : drop r.used input ≡ h.waiting
  pub size : r.size ≤ length out
  pub text : take r.size out ≡ h.text

-- ---- the program

-- a turn of the program: a piece is read behind what waits, and fed; where it is empty no more come. What waits then
-- stands in front of the input, and the text in front of `out`
abbrev pub piece_fed : Run → List ℕ → List ℕ → List ℕ → Handed
piece_fed run m input piece =
    fed_of (eqb (length piece) 0) run.state m (take run.have input ++ piece)

pub record FeedsPiece (run : Run) (m input : List ℕ) (r : Run) (m' input' out : List ℕ) : Type 0 where
  pub piece : List ℕ
  pub room : r.have ≤ length input'
  pub fits : r.size ≤ length out
  pub state : r.state ≡ (piece_fed run m input piece).state
  pub memory : m' ≡ (piece_fed run m input piece).memory
  pub waiting : take r.have input' ≡ (piece_fed run m input piece).waiting
  pub text : take r.size out ≡ (piece_fed run m input piece).text

-- before the header; the memory is 8,192 zeros
abbrev pub unopened : State
unopened = record {
  listing = record { header = no_header; player = player_of no_header 8192; offset = 0; on = true };
  opened = false;
}

abbrev pub blank : List ℕ
blank = replicate 8192 0

-- what the feeds hand out where the input arrives in these pieces: each goes behind the bytes that wait, and after the
-- last of them no more come
unfoldable pub handed_from : State → List ℕ → List ℕ → List (List ℕ) → List ℕ
handed_from s m w [] = (fed_of true s m w).text
handed_from s m w (piece ∷ pieces) =
    let h = fed_of false s m (w ++ piece) in h.text ++ handed_from h.state h.memory h.waiting pieces

unfoldable pub joined : List (List ℕ) → List ℕ
joined [] = []
joined (piece ∷ pieces) = piece ++ joined pieces

pub record Feeds : Type 0 where
  -- however its input arrives, the program hands out what is printed of all of it
  pub prints : (pieces : List (List ℕ)) → handed_from unopened blank [] pieces ≡ printed (joined pieces)
  -- after the last feed the listing is over
  pub ends : (s : State) (m w : List ℕ) → (fed_of true s m w).state.listing.on ≡ false
  -- nothing is handed out once the listing is over, so that the program may end there
  pub over : (s : State) (m w : List ℕ) (pieces : List (List ℕ)) → s.listing.on ≡ false
      → handed_from s m w pieces ≡ []
  -- nothing that is whole is held back, and so what waits is short: there is room to read more
  pub prompt : (s : State) (m w : List ℕ) → let h = fed_of false s m w in ready_of false h.state h.waiting ≡ false
  pub short : (s : State) (w : List ℕ) → s.listing.on ≡ true → ready_of false s w ≡ false → length w < 47
