-- From a file to its sound, as one statement: a host reads a song, and from count 0 on plays it before each of its
-- turns; then every start is heard in the frame of its own count. `proofs/Heard: heard` proves the record `SongHeard`.
-- Definitions only. Assumes nothing.
use Rattle.std.specs.Prelude.{Ok, ◌≡◌, true, false, List, [], ◌∷◌, ◌++◌, ℕ, ◌+◌, ◌*◌, ◌/◌, ◌<◌, length, take, Float}
use Rattle.binary32.specs.Leaves.{as_float}
use Rattle.common_types.specs.Notes.{from_u64_of}
use Rattle.common_types.specs.declared.InitParams.{InitParams}
use Rattle.common_types.specs.declared.Params.{Params}
use Rattle.voice.specs.Soundness.{FittingParams}
use Rattle.voice.specs.Voices.{fresh_of}
use Rattle.channel.specs.Channels.{live}
use Rattle.sampler.specs.Refusals.{set_up_number, run_number}
use Rattle.sampler.specs.Soundness.{FittingSampler}
use Rattle.smf.specs.Cues.{Entry, song_of, counted_judged, list_of, cue_of}
use Rattle.smf.specs.declared.Cue.{Cue}
use Rattle.songs.specs.Plays.{play_of}
use Rattle.channel.specs.Heads.{moment_of}
use Rattle.fates.specs.Engine.{born_of}
use Rattle.fates.specs.Events.{sounds, empty_at}
use Rattle.fates.specs.Places.{stopped_in}
use Rattle.promises.specs.Runs.{
  World,
  set_up,
  Call,
  frame,
  code,
  after,
  run,
  chan,
  event,
  events,
  Made,
  one,
  frames,
  makes,
}
use Rattle.promises.specs.Demands.{is_empty, FirstIn}
use Rattle.song_promises.specs.Songs.{start_call, hands, left_in, due_in, Rising, played}

-- what a host does between two plays of the song, and how many frames it takes it for
pub record HostTurn : Type 0 where
  pub calls : List Made
  pub span : ℕ

-- a host on its way through a song: record and memory, the next entry of the list, and the count of the next frame
pub record Host : Type 0 where
  pub world : World
  pub next : ℕ
  pub at : ℕ

abbrev pub host_begins : World → Host
host_begins w = record { world = w; next = 0; at = 0 }

-- after `songs::play`
abbrev pub called : List ℕ → Params → Host → World
called list p h = played h.world list h.next h.at p

-- and after a turn behind it
abbrev pub turn_taken : List ℕ → Params → Host → HostTurn → Host
turn_taken list p h t = record {
  world = makes (called list p h) t.calls;
  next = (play_of h.world.sampler list h.next h.at p).next;
  at = h.at + t.span;
}

unfoldable pub turned_all : List ℕ → Params → Host → List HostTurn → Host
turned_all list p h [] = h
turned_all list p h (t ∷ ts) = turned_all list p (turn_taken list p h t) ts

-- by channel j's clock a turn has the frames that it is taken for, one at least; one of several frames ends where the
-- next entry is due, or before
pub record Keeps (j : ℕ) (list : List ℕ) (p : Params) (h : Host) (t : HostTurn) : Type 0 where
  pub clock : (chan (turn_taken list p h t).world j).head.now ≡ (chan (called list p h) j).head.now + t.span
  pub some : 0 < t.span
  pub cut : 1 < t.span → Rising (turn_taken list p h t).at (left_in list (turn_taken list p h t).next)

unfoldable pub InStep : ℕ → List ℕ → Params → Host → List HostTurn → Type 0
InStep j list p h [] = Unit {0}
InStep j list p h (t ∷ ts) = Keeps j list p h t × InStep j list p (turn_taken list p h t) ts

-- The start c is heard on channel j by a host that stands at its count and began the song at w: it is due now; the next
-- sample of the channel has c's count from w on; and if the call is accepted on a recording that isn't empty, and no
-- stop that is due behind it finds that very voice, then this sample is the first in which it sounds, unless it finds
-- the recording empty.
pub record StartHeard (w : World) (j : ℕ) (list : List ℕ) (p : Params) (h : Host) (c : Cue) : Type 0 where
  pub due : (earlier later : List Cue) × (due_in list h.next h.at ≡ earlier ++ (c ∷ later))
  pub count : (chan (called list p h) j).head.now ≡ (chan w j).head.now + c.frame
  pub sounds : (earlier later : List Cue) → due_in list h.next h.at ≡ earlier ++ (c ∷ later)
      → (u : World) → u ≡ run h.world (hands p earlier) → code u (start_call p c) ≡ 0 → is_empty (chan u j) ≡ false
      → stopped_in (events (after u (start_call p c)) (hands p later) j) (chan (after u (start_call p c)) j)
      (length (live (chan u j))) ≡ false
      → (s : Call) (sp : Params) (x : Float) (part : List ℕ)
      → event (called list p h) s j ≡ sounds sp x part
      → empty_at part (chan (called list p h) j) (born_of p (as_float 0) (from_u64_of c.note) c.velocity (chan u j))
      ≡ false
      → FirstIn (called list p h) s j sp x part (length (live (chan u j)))
      (fresh_of p (as_float 0) (from_u64_of c.note) c.velocity (moment_of (chan u j).head))

pub record SongHeard : Type 0 where
  -- of a file that is read, a host whose turns keep step, and an entry e of the song that is a start
  pub on_time : (count : ℕ) (q : InitParams) (m : List ℕ) → set_up_number count (length m) ≡ 0
      → (hs : List Made) (j : ℕ) → j < count → (w : World) → w ≡ makes (set_up count q m) hs
      → (f : List ℕ) (rate : ℕ) (lent : List ℕ) (n : ℕ) → counted_judged f rate (length lent) ≡ Ok n
      → (list : List ℕ) → list ≡ take (2 * n) (list_of f rate lent)
      → (before : List Entry) (e : Entry) (behind : List Entry) → (song_of rate f).entries ≡ before ++ (e ∷ behind)
      → (c : Cue) → c ≡ cue_of e.frame e.key → c.starts ≡ true
      → (p : Params) (ts : List HostTurn) → InStep j list p (host_begins w) ts
      → (turned_all list p (host_begins w) ts).at ≡ e.frame
      → StartHeard w j list p (turned_all list p (host_begins w) ts) c
  -- an accepted frame with an entry for the channel keeps the clock of a turn of one frame,
  pub frame_turn : (count : ℕ) (q : InitParams) (m : List ℕ) → set_up_number count (length m) ≡ 0
      → (hs : List Made) (j : ℕ) → j < count → (w : World) → w ≡ makes (set_up count q m) hs
      → (xs : List Float) (p : Params) → code w (frame xs p) ≡ 0 → j < length xs
      → (chan (makes w (one (frame xs p) ∷ [])) j).head.now ≡ (chan w j).head.now + 1
  -- and an accepted run that of a turn of as many as it has
  pub run_turn : (count : ℕ) (q : InitParams) (m : List ℕ) → set_up_number count (length m) ≡ 0
      → (hs : List Made) (j : ℕ) → j < count → (w : World) → w ≡ makes (set_up count q m) hs
      → FittingSampler w.sampler → (xs : List Float) (p : Params) → FittingParams p
      → run_number w.sampler (length xs) p (length w.memory) ≡ 0
      → (chan (makes w (frames xs p ∷ [])) j).head.now ≡ (chan w j).head.now + length xs / count
