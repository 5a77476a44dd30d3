-- The starts and stops of a song with their frame counts, the list that holds them, and the answer of `read_song`.
-- Definitions only.
use Rattle.std.specs.Prelude.{Result, Ok, Err, Bool, false, not, cond, ◌&&◌, List, [], ◌∷◌, ◌++◌, ◌≡◌, ℕ, ◌+◌, ◌-◌, ◌*◌, ◌/◌, ◌%◌, ◌≤◌, ltb, leb, eqb, length, drop}
use Rattle.std.proofs.lemmas.List.Edits.{sets}
use Rattle.std.specs.Float.{binary32}
use Rattle.std.specs.Float.Ieee.{div}
use Rattle.binary32.specs.Leaves.{as_float}
use Rattle.smf.specs.Faults.{fault_at, refusal_of}
use Rattle.smf.specs.Files.{Events, header_of, events_of}
use Rattle.smf.specs.Files.Events.{then, over}
use Rattle.smf.specs.Times.{first_tempo, frame_at, last_frame}
use Rattle.smf.specs.declared.faults.Reason.TheVariants.{LateFrame}
use Rattle.smf.specs.declared.events.Event.{Event}
use Rattle.smf.specs.declared.events.Event.TheVariants.{Note, Tempo, Other}
use Rattle.smf.specs.declared.SongRefusal.{SongRefusal}
use Rattle.smf.specs.declared.SongRefusal.TheVariants.{BadRate, Faulty, Short}
use Rattle.smf.specs.declared.Cue.{Cue}
use Rattle.smf.specs.declared.faults.Fault.{Fault}

-- ---- a song: its starts and stops up to the first fault, and what is wrong with it

-- a start or a stop: its frame, and note, channel and velocity packed into one number
pub record Entry : Type 0 where
  pub frame : ℕ
  pub key : ℕ

pub record Song : Type 0 where
  pub entries : List Entry
  pub verdict : Result (Unit {0}) Fault

-- what an event at a frame adds to the song
unfoldable pub event_entries : ℕ → Event → List Entry
event_entries frame (Note key) = record { frame = frame; key = key } ∷ []
event_entries frame (Tempo new) = []
event_entries frame Other = []

-- the tempo for the delta-times behind an event
unfoldable pub tempo_after : ℕ → Event → ℕ
tempo_after tempo (Note key) = tempo
tempo_after tempo (Tempo new) = new
tempo_after tempo Other = tempo

-- a start or a stop, and no other event, may come too late
unfoldable pub too_late : ℕ → Event → Bool
too_late frame (Note key) = ltb last_frame frame
too_late frame (Tempo new) = false
too_late frame Other = false

abbrev pub empty_with : Result (Unit {0}) Fault → Song
empty_with v = record { entries = []; verdict = v }

abbrev pub entries_first : List Entry → Song → Song
entries_first es s = record { entries = es ++ s.entries; verdict = s.verdict }

-- at a rate and a division; `sum` is that of all delta-times so far, each times the tempo before its event
unfoldable pub song_from : ℕ → ℕ → ℕ → ℕ → Events → Song
song_from rate division tempo sum (over v) = empty_with v
song_from rate division tempo sum (then delta event next rest) =
    let later = sum + delta * tempo in
    let frame = frame_at rate division later in
    cond (too_late frame event) (empty_with (Err (fault_at LateFrame (next - 1))))
    (entries_first (event_entries frame event) (song_from rate division (tempo_after tempo event) later rest))

abbrev pub song_in : ℕ → List ℕ → Result (ℕ × ℕ) Fault → Song
song_in rate f (Err why) = empty_with (Err why)
song_in rate f (Ok (division, next)) = song_from rate division first_tempo 0 (events_of f next)

unfoldable pub song_of : ℕ → List ℕ → Song
song_of rate f = song_in rate f (header_of f)

-- how many starts and stops, where nothing is wrong
unfoldable pub count_closed : Result (Unit {0}) Fault → ℕ → Result ℕ Fault
count_closed (Ok done) n = Ok n
count_closed (Err why) n = Err why

abbrev pub count_of : Song → Result ℕ Fault
count_of s = count_closed s.verdict (length s.entries)

-- ---- the list: two numbers for each start or stop

unfoldable pub numbers_of : List Entry → List ℕ
numbers_of [] = []
numbers_of (e ∷ es) = e.frame ∷ e.key ∷ numbers_of es

-- a list that had room for them, afterwards
abbrev pub WrittenList : List ℕ → List ℕ → List Entry → Type 0
WrittenList list after es = 2 * length es ≤ length list → after ≡ sets list 0 (numbers_of es)

-- the answer for a list of so many places
abbrev pub good_rate : ℕ → Bool
good_rate rate = leb 1 rate && leb rate 192000

abbrev pub room_judged : ℕ → Result ℕ Fault → Result ℕ SongRefusal
room_judged room (Ok n) = cond (leb (2 * n) room) (Ok n) (Err (Short n))
room_judged room (Err why) = Err (Faulty why)

unfoldable pub counted_judged : List ℕ → ℕ → ℕ → Result ℕ SongRefusal
counted_judged f rate room = cond (good_rate rate) (room_judged room (count_of (song_of rate f))) (Err BadRate)

-- the list afterwards: a refused song leaves it
abbrev pub cues_after : List Entry → List ℕ → Result ℕ SongRefusal → List ℕ
cues_after es list (Ok n) = numbers_of es ++ drop (2 * n) list
cues_after es list (Err BadRate) = list
cues_after es list (Err (Faulty why)) = list
cues_after es list (Err (Short n)) = list

unfoldable pub list_of : List ℕ → ℕ → List ℕ → List ℕ
list_of f rate list = cues_after (song_of rate f).entries list (counted_judged f rate (length list))

-- the number of a refusal, and that of the answer
abbrev pub song_number : SongRefusal → ℕ
song_number BadRate = 22
song_number (Faulty why) = refusal_of why.reason
song_number (Short n) = 8

unfoldable pub cues_number : Result ℕ SongRefusal → ℕ
cues_number (Ok n) = 0
cues_number (Err why) = song_number why

-- ---- an entry read back: velocity v is v / 127, rounded once; velocity 0 is a stop. The note stays packed, as the
-- engine packs it
abbrev pub velocity_of : ℕ → ℕ
velocity_of key = key / 65536 % 256

unfoldable pub cue_of : ℕ → ℕ → Cue
cue_of frame key = record {
  frame = frame;
  velocity = div binary32 (as_float (velocity_of key)) (as_float 127);
  note = key % 65536;
  starts = not (eqb (velocity_of key) 0);
}
