-- A recording's words in a memory and in a file. In a memory a channel's words stand one behind the other, from a place
-- of its own on; in a file the words of all channels stand frame by frame. Definitions only.
use Rattle.std.specs.Prelude.{Bool, false, cond, ◌&&◌, List, ◌++◌, ℕ, ◌+◌, ◌*◌, ◌/◌, ◌%◌, ◌^◌, ltb, leb, eqb, length, drop, get_or}
use Rattle.std.proofs.lemmas.List.Edits.{sets}
use Rattle.wave.specs.Fields.{listed}
use Rattle.wave.specs.Files.{file_of}
use Rattle.wave.specs.Reader.{words_in, file_judged}
use Rattle.wave.specs.declared.Starts.{Starts}
use Rattle.wave.specs.declared.Layout.{Layout}
use Rattle.wave.specs.declared.Wave.{Wave}
use Rattle.wave.specs.declared.Judged.{Judged}
use Rattle.wave.specs.declared.Judged.TheVariants.{Is, Refused}

-- where the recording of channel j begins
abbrev pub start_at : Starts → ℕ → ℕ
start_at starts j = cond (eqb j 0) starts.first starts.second

-- one recording ends in the memory; of two, the first ends where the second begins or before it, and that one in the
-- memory. The sampler has no third channel
unfoldable pub fits_memory : Layout → ℕ → Bool
fits_memory l size =
    cond (eqb l.channels 1) (leb (l.starts.first + l.samples) size)
    (eqb l.channels 2
    && (leb (l.starts.first + l.samples) l.starts.second && leb (l.starts.second + l.samples) size))

-- ---- from a memory to a file: word k is of channel k mod channels, sample k / channels

abbrev pub word_of : Layout → List ℕ → ℕ → ℕ
word_of l m k = get_or m (start_at l.starts (k % l.channels) + k / l.channels) 0

-- the words of a memory, frame by frame
unfoldable pub frame_words : Layout → List ℕ → List ℕ
frame_words l m = listed (word_of l m) 0 (l.channels * l.samples)

-- ---- and back

-- the words of channel j, of words that stand frame by frame
abbrev pub channel_words : ℕ → ℕ → ℕ → List ℕ → List ℕ
channel_words channels samples j words = listed (λ (i : ℕ). get_or words (i * channels + j) 0) 0 samples

-- a memory once those of channel j stand in it, from its start on,
abbrev pub channel_stored : Layout → List ℕ → ℕ → List ℕ → List ℕ
channel_stored l words j m = sets m (start_at l.starts j) (channel_words l.channels l.samples j words)

-- and once those of each of one or two channels do
unfoldable pub stored_of : Layout → List ℕ → List ℕ → List ℕ
stored_of l words m =
    cond (eqb l.channels 2) (channel_stored l words 1 (channel_stored l words 0 m)) (channel_stored l words 0 m)

-- ---- writing: so many bytes, or none where a size has no room in its field, in the memory or in the output

abbrev pub bytes_of : Layout → ℕ
bytes_of l = 58 + 4 * (l.channels * l.samples)

unfoldable pub fits_file : Layout → ℕ → Bool
fits_file l room = ltb (bytes_of l) (2 ^ 32 + 8) && leb (bytes_of l) room

unfoldable pub writes : Layout → ℕ → ℕ → Bool
writes l size room = fits_memory l size && fits_file l room

unfoldable pub written_of : Layout → ℕ → ℕ → ℕ
written_of l size room = cond (writes l size room) (bytes_of l) 0

-- a longer output keeps its rest
unfoldable pub output_after : ℕ → Layout → List ℕ → List ℕ → List ℕ
output_after rate l m out =
    cond (writes l (length m) (length out))
    (file_of rate l.channels l.samples (frame_words l m) ++ drop (bytes_of l) out) out

-- ---- reading: a good file whose recordings have room from their starts on

abbrev pub layout_of : Wave → Starts → Layout
layout_of w starts = record { channels = w.channels; samples = w.samples; starts = starts }

abbrev pub loads_in : Starts → ℕ → Judged → Bool
loads_in starts size (Is w) = fits_memory (layout_of w starts) size
loads_in starts size Refused = false

unfoldable pub loads : List ℕ → Starts → ℕ → Bool
loads f starts size = loads_in starts size (file_judged f)

abbrev pub loaded_in : List ℕ → Starts → List ℕ → Judged → List ℕ
loaded_in f starts m (Is w) =
    cond (fits_memory (layout_of w starts) (length m)) (stored_of (layout_of w starts) (words_in f w) m) m
loaded_in f starts m Refused = m

unfoldable pub loaded_of : List ℕ → Starts → List ℕ → List ℕ
loaded_of f starts m = loaded_in f starts m (file_judged f)
