-- The table of a channel's phrases (request 11/12), and what a change asks of it and stores in it. The table has the phrases
-- that aren't chosen; the chosen one's entry is not looked at, and where there aren't several phrases none is. Definitions
-- only. Assumes nothing.
use Rattle.std.specs.Prelude.{ℕ, min, Bool, true, false, not, ◌&&◌, ◌||◌, cond, Option, Some, None, List, leb, ltb, eqb, get_or, set}
use Rattle.phrases.specs.declared.Phrase.{Phrase}
use Rattle.phrases.specs.declared.Beside.{Beside}
use Rattle.phrases.specs.Phrases.{no_phrase, no_phrases, empty_from, good_phrases}
use Rattle.recorder.specs.Recording.{is_recording_of}
use Rattle.channel.specs.Heads.{recording_in, holds_of}
use Rattle.channel.specs.declared.Head.{Head}
use Rattle.channel.specs.declared.Change.{Change}
use Rattle.channel.specs.declared.Change.TheVariants as change
use Rattle.channel.specs.declared.HeadChange.{HeadChange}
use Rattle.channel.specs.declared.HeadChange.TheVariants.{
  StartRecording,
  StopRecording,
  Interpolate,
  Load,
  Choose,
  Delete,
}
use Rattle.channel.specs.declared.Ask.{Ask}
use Rattle.channel.specs.declared.Ask.TheVariants as ask
use Rattle.channel.specs.declared.Against.{Against}
use Rattle.channel.specs.declared.Entry.{Entry}

-- where a number's entry stands; past the last number it is the last
abbrev pub place_of : ℕ → ℕ
place_of k = min k 7

-- the phrases of a table, with the recording at the chosen number
abbrev pub with_recording : Head → List Phrase → List Phrase
with_recording h table = set table h.chosen (recording_in h)

-- row 9 by the table
unfoldable pub good_table : ℕ → Head → Bool → List Phrase → Bool
good_table capacity h several table = not several || good_phrases capacity (with_recording h table)

-- ---- the table after a change of the head

-- a choice of the phrase that is chosen changes nothing
abbrev pub stays_chosen : ℕ → Head → Bool
stays_chosen k h = eqb k h.chosen || leb 8 h.chosen

-- a choice puts the phrase into it that was chosen; a delete empties an entry, and leaves where it begins
unfoldable pub table_after : HeadChange → Head → Bool → List Phrase → List Phrase
table_after StartRecording h several table = table
table_after StopRecording h several table = table
table_after (Interpolate on) h several table = table
table_after (Load samples) h several table = table
table_after (Choose k) h several table =
    cond (stays_chosen k h) table (with_recording h (cond several table no_phrases))
table_after (Delete k) h several table = set table k (empty_from (get_or table k no_phrase).start)

-- whether it is looked at then
unfoldable pub several_after : HeadChange → Head → Bool → Bool
several_after StartRecording h several = several
several_after StopRecording h several = several
several_after (Interpolate on) h several = several
several_after (Load samples) h several = several
several_after (Choose k) h several = several || not (stays_chosen k h)
several_after (Delete k) h several = several

-- ---- how it is stored: the number that a change names, 0 where it names none
unfoldable pub head_names : HeadChange → ℕ
head_names StartRecording = 0
head_names StopRecording = 0
head_names (Interpolate on) = 0
head_names (Load samples) = 0
head_names (Choose k) = k
head_names (Delete k) = k

unfoldable pub names_of : Change → ℕ
names_of (change.Start p position note velocity) = 0
names_of (change.Stop p note) = 0
names_of (change.Speed note speed) = 0
names_of (change.Head d) = head_names d
names_of change.Reset = 0

-- what a change of the head finds of the others, of which `entry` is the one of the number that it names
unfoldable pub found_by : HeadChange → Bool → Phrase → ℕ → Phrase
found_by StartRecording several entry behind = empty_from behind
found_by StopRecording several entry behind = no_phrase
found_by (Interpolate on) several entry behind = no_phrase
found_by (Load samples) several entry behind = empty_from behind
found_by (Choose k) several entry behind = cond (several && ltb k 8) entry no_phrase
found_by (Delete k) several entry behind = no_phrase

-- the table as it is: its entry at a place is stored again
abbrev pub entry_kept : Bool → ℕ → Phrase → Entry
entry_kept several place entry = record { place = place; phrase = entry; clears = false; several = several }

unfoldable pub head_entry : HeadChange → Head → Bool → Phrase → Entry
head_entry StartRecording h several entry = entry_kept several 0 entry
head_entry StopRecording h several entry = entry_kept several 0 entry
head_entry (Interpolate on) h several entry = entry_kept several 0 entry
head_entry (Load samples) h several entry = entry_kept several 0 entry
head_entry (Choose k) h several entry =
    cond (stays_chosen k h) (entry_kept several (place_of k) entry)
    (record { place = place_of h.chosen; phrase = recording_in h; clears = not several; several = true })
head_entry (Delete k) h several entry =
    entry_kept several (place_of k) (cond (leb 8 k) entry (empty_from entry.start))

unfoldable pub entry_stored : Change → Head → Bool → Phrase → Entry
entry_stored (change.Start p position note velocity) h several entry = entry_kept several 0 entry
entry_stored (change.Stop p note) h several entry = entry_kept several 0 entry
entry_stored (change.Speed note speed) h several entry = entry_kept several 0 entry
entry_stored (change.Head d) h several entry = head_entry d h several entry
entry_stored change.Reset h several entry = entry_kept false 0 entry

-- the table with it
unfoldable pub stored_by : Entry → List Phrase → List Phrase
stored_by e table = set (cond e.clears no_phrases table) e.place e.phrase

-- ---- what the rows of a change ask of a channel
unfoldable pub head_asks : HeadChange → Ask
head_asks StartRecording = ask.Nothing
head_asks StopRecording = ask.Nothing
head_asks (Interpolate on) = ask.Nothing
head_asks (Load samples) = ask.Samples samples
head_asks (Choose k) = ask.Choice k
head_asks (Delete k) = ask.Delete k

unfoldable pub asks_of : Change → Ask
asks_of (change.Start p position note velocity) = ask.Voice
asks_of (change.Stop p note) = ask.Nothing
asks_of (change.Speed note speed) = ask.Nothing
asks_of (change.Head d) = head_asks d
asks_of change.Reset = ask.Nothing

-- the number of the phrase that is to be deleted, if one is
unfoldable pub leaving_of : Ask → Option ℕ
leaving_of ask.Voice = None
leaving_of (ask.Samples samples) = None
leaving_of (ask.Choice k) = None
leaving_of (ask.Delete k) = Some k
leaving_of ask.Nothing = None

-- what is in its way. A start (row 5): 32 voices on a recording that isn't empty. A read (row 15): it is recording. A choice
-- (row 21): it is recording another phrase. A delete (row 20): a voice has the phrase, or it is being recorded
unfoldable pub blocked_by : Ask → Head → ℕ → Bool → Bool
blocked_by ask.Voice h count used = not (eqb h.data_len 0) && leb 32 count
blocked_by (ask.Samples samples) h count used = is_recording_of h.recorder
blocked_by (ask.Choice k) h count used = is_recording_of h.recorder && not (eqb k h.chosen)
blocked_by (ask.Delete k) h count used = used || (is_recording_of h.recorder && eqb k h.chosen)
blocked_by ask.Nothing h count used = false

-- row 18, of a read: the recording may not hold so many samples
unfoldable pub short_by : Ask → Head → Beside → ℕ → Bool
short_by ask.Voice h b capacity = false
short_by (ask.Samples samples) h b capacity = ltb (holds_of b capacity h) samples
short_by (ask.Choice k) h b capacity = false
short_by (ask.Delete k) h b capacity = false
short_by ask.Nothing h b capacity = false

abbrev pub against_by : Ask → Head → ℕ → Bool → Beside → ℕ → Against
against_by a h count used b capacity = record { blocked = blocked_by a h count used; short = short_by a h b capacity }
