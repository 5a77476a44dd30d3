-- Both calls at the edges of their rows, computed: what is refused, and its neighbour that is accepted; the file byte by byte, the record and the memory. Assumes nothing.
use Rattle.std.proofs.Common.{◌≡◌, ℕ, ◌-◌, ◌*◌, ◌^◌, false, List, [], ◌∷◌, ◌++◌, map, length, take, replicate, refl, Result, Ok, Err}
use Rattle.octets.specs.Octets.{bytes_at, little_of, little_bytes}
use Rattle.octets.proofs.Hex.{digits_of, pairs, from_hex}
use Rattle.wave.specs.Fields.{two_at, four_at, word_bytes, listed}
use Rattle.wave.specs.Files.{format_of, riff_row, format_row, fact_row, data_row, header_of, file_of}
use Rattle.wave.specs.Reader.{padded_at, met_of, chunk_at, walk_from, walk_of, good_riff, good_format, good_fact, counted_judged, judged_at, file_judged}
use Rattle.wave.specs.Memory.{fits_memory, frame_words, stored_of, loaded_of}
use Rattle.common_types.specs.declared.InitParams.{InitParams}
use Rattle.std.specs.List.{list_any, list_all, fold}
use Rattle.volume.specs.Levels.{good_volume}
use Rattle.recorder.specs.Recording.{in_state, start_of, is_recording_of, good_recorder}
use Rattle.phrases.specs.Phrases.{no_samples, is_over_by, reach_of, apart_of, others_of, every_below, good_at, good_phrases, beside_with, beside_of}
use Rattle.channel.specs.declared.Channel.{Channel}
use Rattle.channel.specs.declared.HeadChange.TheVariants.{StartRecording, Load, Choose}
use Rattle.channel.specs.Heads.{begins_at, holds_of, head_of, phrase_after, recorder_after, interpolates_after, chosen_after, head_changed_of, good_head}
use Rattle.channel.specs.Tables.{good_table, table_after, several_after, head_names, found_by, leaving_of, blocked_by, short_by}
use Rattle.channel.specs.Channels.{with_head, channel_of, uses_of, head_changed_in, changed_of, good_voices_of, good_channel}
use Rattle.sampler.specs.declared.Sampler.{Sampler}
use Rattle.sampler.specs.Refusals.{channel_at, good_sizes, good_sampler, capacity_of, good_with, against_any, set_up_judged}
use Rattle.sampler.specs.Samplers.{with_channels, set_up_of, each_of, answer_of}
use Rattle.refusals.specs.declared.Refusal.{Refusal}
use Rattle.refusals.specs.declared.Refusal.TheVariants.{ShortList, OtherChannels, BadWave, NoRoom}
use Rattle.recordings.specs.Waves.{write_judged, write_number, write_wave_of, wave_after, read_judged, read_number, read_wave_of, read_memory}
use Rattle.recordings.specs.declared.ReadAnswer.{ReadAnswer}

-- whatever an answer computes by
unfoldable pub computing : Unit {0}
unfolding from_hex pairs digits_of bytes_at little_of little_bytes two_at four_at word_bytes listed format_of riff_row format_row fact_row data_row header_of padded_at met_of chunk_at walk_from walk_of good_riff good_format good_fact counted_judged judged_at file_judged fits_memory frame_words stored_of loaded_of good_volume in_state start_of is_recording_of good_recorder no_samples is_over_by reach_of apart_of others_of every_below good_at good_phrases beside_with beside_of begins_at holds_of head_of phrase_after recorder_after interpolates_after chosen_after head_changed_of good_head good_table table_after several_after head_names found_by leaving_of blocked_by short_by channel_of uses_of head_changed_in changed_of good_voices_of good_channel good_sizes good_sampler capacity_of good_with against_any set_up_judged set_up_of each_of answer_of write_judged write_wave_of wave_after read_judged read_wave_of read_memory
computing = tt

-- ---- records: two channels with parts of three words, in a memory of seven
abbrev init : InitParams
init = record { auto_passthru = false }

abbrev new : Sampler
new = (set_up_of 2 init 7).sampler

-- with recordings of a and b samples
abbrev lasting : ℕ → ℕ → Sampler
lasting a b = with_channels (head_changed_in (Load a) (channel_at new 0) ∷ head_changed_in (Load b) (channel_at new 1) ∷ []) new

-- of which one channel records, and their lengths differ
abbrev first_records : Sampler
first_records = let s = lasting 2 1 in with_channels (head_changed_in StartRecording (channel_at s 0) ∷ channel_at s 1 ∷ []) s

abbrev second_records : Sampler
second_records = let s = lasting 2 1 in with_channels (channel_at s 0 ∷ head_changed_in StartRecording (channel_at s 1) ∷ []) s

-- with the second channel not in use
abbrev alone : Sampler → Sampler
alone s = record { channels = s.channels; count = 1; capacity = s.capacity }

-- with a recording that begins at that place of its part
abbrev begun : ℕ → Channel → Channel
begun place c =
    let h = c.head in
    with_head (record {
      now = h.now;
      data_len = h.data_len;
      start = place;
      passthru_volume = h.passthru_volume;
      recorder = h.recorder;
      passthru_on = h.passthru_on;
      interpolates = h.interpolates;
      chosen = h.chosen;
    }) c

-- both of two samples
abbrev beginning : ℕ → ℕ → Sampler
beginning a b = let s = lasting 2 2 in with_channels (begun a (channel_at s 0) ∷ begun b (channel_at s 1) ∷ []) s

-- with another phrase chosen, behind the recordings of a and b samples
abbrev chosen : ℕ → Sampler → Sampler
chosen k s = with_channels (head_changed_in (Choose k) (channel_at s 0) ∷ head_changed_in (Choose k) (channel_at s 1) ∷ []) s

-- the first samples: a NaN with a payload and 1, -0 and 0.5
abbrev memory : List ℕ
memory = 0x7FC00001 ∷ 0x3F800000 ∷ 12 ∷ 0x80000000 ∷ 0x3F000000 ∷ 22 ∷ 99 ∷ []

abbrev pub others : List ℕ
others = 30 ∷ 31 ∷ 32 ∷ 40 ∷ 41 ∷ 42 ∷ 98 ∷ []

-- ---- files: that of two samples a channel, at 44,100
abbrev file : List ℕ
file = from_hex "52494646 42000000 57415645 666D7420 12000000 0300 0200 44AC0000 20620500 0800 2000 0000 66616374 04000000 02000000 64617461 10000000 0100C07F 00000080 0000803F 0000003F"

abbrev pub no_samples_lem : List ℕ
no_samples_lem = from_hex "52494646 32000000 57415645 666D7420 12000000 0300 0200 44AC0000 20620500 0800 2000 0000 66616374 04000000 00000000 64617461 00000000"

-- any words, so many samples a channel
abbrev pub mono : ℕ → List ℕ
mono n = file_of 44100 1 n (replicate n 5)

abbrev pub stereo : ℕ → List ℕ
stereo n = file_of 44100 2 n (replicate (2 * n) 5)

-- without its last byte
abbrev pub cut : List ℕ → List ℕ
cut f = take (length f - 1) f

-- ---- writing: room for the last byte or none; a memory of the parts alone, and one word short; then 9, 15, 16, 8, each where those behind it hold too; a channel that isn't in use counts for nothing
write_rows : write_number (lasting 2 2) 74 7 ∷ write_number (lasting 2 2) 73 7 ∷ write_number (lasting 2 2) 74 6 ∷ write_number second_records 0 5
    ∷ write_number first_records 0 7 ∷ write_number second_records 0 7 ∷ write_number (lasting 1 2) 0 7 ∷ write_number (lasting 2 1) 0 7
    ∷ write_number (alone second_records) 66 7 ∷ write_number (alone second_records) 65 7 ∷ []
    ≡ 0 ∷ 8 ∷ 0 ∷ 9 ∷ 15 ∷ 15 ∷ 16 ∷ 16 ∷ 0 ∷ 8 ∷ []
unfolding computing
write_rows = refl

written : map (λ (room : ℕ). write_wave_of (lasting 2 2) room 7) (73 ∷ 74 ∷ 75 ∷ []) ≡ Err ShortList ∷ Ok 74 ∷ Ok 74 ∷ []
unfolding computing
written = refl

-- all bytes of the list, one longer than the file; and one too short for it
bytes : wave_after (lasting 2 2) 44100 memory (replicate 75 7) ≡ file ++ (7 ∷ [])
unfolding computing
bytes = refl

no_bytes : wave_after (lasting 2 2) 44100 memory (replicate 73 7) ≡ replicate 73 7
unfolding computing
no_bytes = refl

empty_bytes : wave_after new 44100 memory (replicate 58 7) ≡ no_samples_lem
unfolding computing
empty_bytes = refl

-- the file of one channel has its samples alone
one_channel : wave_after (alone second_records) 44100 memory (replicate 66 7) ≡ file_of 44100 1 2 (0x7FC00001 ∷ 0x3F800000 ∷ [])
unfolding computing
one_channel = refl

-- a recording is written from its start on, each channel's from its own; one past the part's end is refused, and of a channel not in use the start counts for nothing
from_starts : map (λ (s : Sampler). wave_after s 44100 memory (replicate 74 7)) (beginning 1 0 ∷ beginning 0 1 ∷ [])
    ≡ file_of 44100 2 2 (0x3F800000 ∷ 0x80000000 ∷ 12 ∷ 0x3F000000 ∷ []) ∷ file_of 44100 2 2 (0x7FC00001 ∷ 0x3F000000 ∷ 0x3F800000 ∷ 22 ∷ []) ∷ []
unfolding computing
from_starts = refl

past_ends : map (λ (s : Sampler). write_number s 74 7) (beginning 1 1 ∷ beginning 2 0 ∷ beginning 0 2 ∷ []) ≡ 0 ∷ 9 ∷ 9 ∷ []
unfolding computing
past_ends = refl

unused_start : wave_after (alone (beginning 1 (2 ^ 64 - 1))) 44100 memory (replicate 66 7) ≡ file_of 44100 1 2 (0x3F800000 ∷ 12 ∷ [])
unfolding computing
unused_start = refl

-- ---- reading: as many samples as the capacity, and one more; then 9, 15, 17, 16, 18, each where those behind it hold too
abbrev number : Sampler → List ℕ → ℕ
number s f = read_number s (file_judged f) 7

read_rows : number new (stereo 3) ∷ number new (stereo 4) ∷ number new (mono 3) ∷ number new (mono 4) ∷ number new (cut (mono 4)) ∷ number new (cut (stereo 3))
    ∷ number first_records (cut (mono 4)) ∷ number second_records (cut (mono 4)) ∷ read_number second_records (file_judged (cut (mono 4))) 5
    ∷ number (alone second_records) (mono 3) ∷ number (alone second_records) (stereo 3) ∷ []
    ≡ 0 ∷ 18 ∷ 16 ∷ 16 ∷ 17 ∷ 17 ∷ 15 ∷ 15 ∷ 9 ∷ 0 ∷ 16 ∷ []
unfolding computing
read_rows = refl

-- the record is that of recordings of two samples, each where its phrase was, and the answer has the rate
abbrev answers : Sampler → Result ℕ Refusal → ReadAnswer
answers s read = record { sampler = s; read = read }

reads : map (λ (s : Sampler). read_wave_of s file 7) (new ∷ lasting 3 1 ∷ beginning 1 1 ∷ []) ≡ answers (lasting 2 2) (Ok 44100) ∷ answers (lasting 2 2) (Ok 44100) ∷ answers (beginning 1 1) (Ok 44100) ∷ []
unfolding computing
reads = refl

-- a part keeps the word beside them, and the memory its last one
stored : map (λ (s : Sampler). read_memory s file others) (new ∷ beginning 1 1 ∷ [])
    ≡ (0x7FC00001 ∷ 0x3F800000 ∷ 32 ∷ 0x80000000 ∷ 0x3F000000 ∷ 42 ∷ 98 ∷ []) ∷ (30 ∷ 0x7FC00001 ∷ 0x3F800000 ∷ 40 ∷ 0x80000000 ∷ 0x3F000000 ∷ 98 ∷ []) ∷ []
unfolding computing
stored = refl

reads_none : read_wave_of (lasting 2 2) no_samples_lem 7 ≡ answers new (Ok 44100)
unfolding computing
reads_none = refl

stores_none : read_memory (lasting 2 2) no_samples_lem others ≡ others
unfolding computing
stores_none = refl

-- an empty phrase begins behind the others: one sample fits, and no two. A phrase with one behind it holds what it did
behind : number (chosen 1 (lasting 2 1)) (stereo 1) ∷ number (chosen 1 (lasting 2 1)) (stereo 2)
    ∷ number (chosen 0 (read_wave_of (chosen 1 (lasting 2 1)) (stereo 1) 7).sampler) (stereo 1) ∷ number (chosen 0 (read_wave_of (chosen 1 (lasting 2 1)) (stereo 1) 7).sampler) (stereo 2) ∷ []
    ≡ 0 ∷ 18 ∷ 0 ∷ 18 ∷ []
unfolding computing
behind = refl

stored_behind : read_memory (chosen 1 (lasting 2 1)) (stereo 1) others ≡ 30 ∷ 31 ∷ 5 ∷ 40 ∷ 5 ∷ 42 ∷ 98 ∷ []
unfolding computing
stored_behind = refl

-- refused: the record and the memory
refused : map (λ (f : List ℕ). read_wave_of (lasting 2 1) f 7) (stereo 4 ∷ mono 2 ∷ cut file ∷ []) ≡ answers (lasting 2 1) (Err NoRoom) ∷ answers (lasting 2 1) (Err OtherChannels) ∷ answers (lasting 2 1) (Err BadWave) ∷ []
unfolding computing
refused = refl

stores_nothing : map (λ (f : List ℕ). read_memory (lasting 2 1) f others) (stereo 4 ∷ mono 2 ∷ cut file ∷ []) ≡ others ∷ others ∷ others ∷ []
unfolding computing
stores_nothing = refl

-- ---- and back: rates at either end
rates : map (λ (rate : ℕ). read_wave_of new (wave_after (lasting 2 2) rate memory (replicate 74 7)) 7) (0 ∷ 4294967295 ∷ []) ≡ answers (lasting 2 2) (Ok 0) ∷ answers (lasting 2 2) (Ok 4294967295) ∷ []
unfolding computing
rates = refl
