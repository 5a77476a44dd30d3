-- What the client asks of a song that is played, in his words, and what is proved of it: `proofs/Songs: songs` proves
-- the record `Songs` at the end of this file. Worlds, runs and `FirstIn` are those of the demands
-- (promises/specs/Demands.antt). Definitions only. Assumes nothing.
use Rattle.std.specs.Prelude.{◌≡◌, true, false, cond, List, [], ◌∷◌, ◌++◌, map, ℕ, ◌+◌, ◌*◌, ◌≤◌, ◌<◌, length, drop, Float}
use Rattle.binary32.specs.Leaves.{as_float}
use Rattle.walks.specs.Each.{Each}
use Rattle.common_types.specs.Notes.{from_u64_of}
use Rattle.common_types.specs.declared.InitParams.{InitParams}
use Rattle.common_types.specs.declared.Params.{Params}
use Rattle.voice.specs.Voices.{fresh_of}
use Rattle.channel.specs.Channels.{live}
use Rattle.sampler.specs.Refusals.{set_up_number}
use Rattle.smf.specs.Cues.{song_of, numbers_of}
use Rattle.smf.specs.declared.Cue.{Cue}
use Rattle.songs.specs.Plays.{cues_of, due_of, play_of}
use Rattle.channel.specs.Heads.{moment_of}
use Rattle.fates.specs.Engine.{born_of}
use Rattle.fates.specs.Events.{sounds, empty_at}
use Rattle.fates.specs.Places.{stopped_in}
use Rattle.promises.specs.Runs.{
  World,
  set_up,
  Call,
  start,
  stop,
  frame,
  code,
  with_sampler,
  after,
  run,
  chan,
  event,
  events,
  Made,
  makes,
}
use Rattle.promises.specs.Demands.{is_empty, FirstIn}

-- the call that a host would make by hand for a start, and for a start or a stop
abbrev pub start_call : Params → Cue → Call
start_call p c = start (as_float 0) (from_u64_of c.note) c.velocity p

unfoldable pub hand_of : Params → Cue → Call
hand_of p c = cond c.starts (start_call p c) (stop (from_u64_of c.note) p)

abbrev pub hands : Params → List Cue → List Call
hands p cs = map (hand_of p) cs

-- the starts and stops from the entry `next` of a list on
abbrev pub left_in : List ℕ → ℕ → List Cue
left_in list next = cues_of (drop (2 * next) list)

-- those of them that are due at a count
abbrev pub due_in : List ℕ → ℕ → ℕ → List Cue
due_in list next at = due_of at (left_in list next)

-- their frames are at least `from`, and never fall
unfoldable pub Rising : ℕ → List Cue → Type 0
Rising from [] = Unit {0}
Rising from (c ∷ cs) = (from ≤ c.frame) × Rising c.frame cs

-- the record and the memory after `songs::play`, which is lent no memory
abbrev pub played : World → List ℕ → ℕ → ℕ → Params → World
played w list next at p = with_sampler (play_of w.sampler list next at p).sampler w

-- a host that plays a song: before the frame of each count, what is due
unfoldable pub hosted : World → List ℕ → ℕ → ℕ → Params → List (List Float) → World
hosted w list next at p [] = w
hosted w list next at p (xs ∷ rest) =
    hosted (after (played w list next at p) (frame xs p)) list (play_of w.sampler list next at p).next (at + 1) p
    rest

-- and its calls, one after the other
unfoldable pub woven : List ℕ → ℕ → ℕ → Params → List (List Float) → List Call
woven list next at p [] = []
woven list next at p (xs ∷ rest) =
    hands p (due_in list next at)
    ++ (frame xs p ∷ woven list (next + length (due_in list next at)) (at + 1) p rest)

-- "Playing the list equals making the calls by hand."
pub record SongByHand : Type 0 where
  pub by_hand : (w : World) (list : List ℕ) (next at : ℕ) (p : Params)
      → played w list next at p ≡ run w (hands p (due_in list next at))
  -- so that song and frames woven are one run, of which the demands speak
  pub one_run : (w : World) (list : List ℕ) (next at : ℕ) (p : Params) (frames : List (List Float))
      → hosted w list next at p frames ≡ run w (woven list next at p frames)

-- A key of a song is on time, on each channel: of every record and memory that set-up and any calls of a host leave,
-- runs of frames among them, and of a start c among the entries that are due at its own frame count.
pub record SongOnTime : Type 0 where
  -- Playing takes no time: the next sample has the count that it had before.
  pub no_time : (count : ℕ) (q : InitParams) (m : List ℕ) → set_up_number count (length m) ≡ 0
      → (hs : List Made) (j : ℕ) → j < count → (list : List ℕ) (next at : ℕ) (p : Params)
      → (w : World) → w ≡ makes (set_up count q m) hs
      → (chan (played w list next at p) j).head.now ≡ (chan w j).head.now
  -- "a start of the song with frame count n, accepted on a recording that isn't empty, sounds in sample n", the first
  -- behind `play` at n: unless a stop that is due at n too finds that very voice, or the recording is empty by then.
  pub on_time : (count : ℕ) (q : InitParams) (m : List ℕ) → set_up_number count (length m) ≡ 0
      → (hs : List Made) (j : ℕ) → j < count → (list : List ℕ) (next : ℕ) (p : Params)
      → (w : World) → w ≡ makes (set_up count q m) hs
      → (earlier : List Cue) (c : Cue) (later : List Cue) → due_in list next c.frame ≡ earlier ++ (c ∷ later)
      → c.starts ≡ true
      → (u : World) → u ≡ run w (hands p earlier)
      → code u (start_call p c) ≡ 0 → is_empty (chan u j) ≡ false
      → stopped_in (events (after u (start_call p c)) (hands p later) j) (chan (after u (start_call p c)) j)
      (length (live (chan u j))) ≡ false
      → (s : Call) (sp : Params) (x : Float) (part : List ℕ)
      → event (played w list next c.frame p) s j ≡ sounds sp x part
      → empty_at part (chan (played w list next c.frame p) j)
      (born_of p (as_float 0) (from_u64_of c.note) c.velocity (chan u j)) ≡ false
      → FirstIn (played w list next c.frame p) s j sp x part (length (live (chan u j)))
      (fresh_of p (as_float 0) (from_u64_of c.note) c.velocity (moment_of (chan u j).head))

-- A host that begins at entry 0 and count 0, and plays before the frame of each count, makes every call at its own
-- count.
pub record SongInTurn : Type 0 where
  -- the list of a file rises from 0
  pub begins : (rate : ℕ) (f : List ℕ) → Rising 0 (left_in (numbers_of (song_of rate f).entries) 0)
  -- of a list that rises from this count on, what is due is what has this count, and the rest rises from the next
  pub turns : (list : List ℕ) (next at : ℕ) → Rising at (left_in list next)
      → Each (λ (c : Cue). c.frame ≡ at) (due_in list next at)
      × Rising (at + 1) (left_in list (next + length (due_in list next at)))

pub record Songs : Type 0 where
  pub hand : SongByHand
  pub turn : SongInTurn
  pub time : SongOnTime
