-- Records and runs at the edges of document 01's rules, each computed: the numbers that they are answered with, and what they sound like. Each is met by the right definition, and not by its nearest wrong neighbour. Assumes nothing.
use mathlib.Core.Path.{◌≡◌, refl}
use mathlib.Core.Bool.{true, false}
use mathlib.Core.List.{List, [], ◌∷◌, ◌++◌, map}
use mathlib.Core.Option.{some}
use Prim.Native.Nat.{ℕ, ◌+◌, ◌-◌, ◌^◌}
use lib.IntN.{pos, negsuc}
use lib.ListN.{length, set, replicate}
use lib.Ieee.{Float, nan, inf, fin}
use Rattle.volume.specs.declared.Volume.{Volume}
use Rattle.volume.specs.declared.Volume.TheVariants.{Static, Linear}
use Rattle.clip.specs.declared.Clip.{Clip}
use Rattle.clip.specs.declared.Mode.TheVariants.{Loop}
use Rattle.binary32.specs.Leaves.{zero32, one32}
use Rattle.recorder.specs.declared.State.{State}
use Rattle.recorder.specs.declared.State.TheVariants.{Triggered, Idle}
use Rattle.phrases.specs.declared.Phrase.{Phrase}
use Rattle.phrases.specs.Phrases.{no_phrases}
use Rattle.voice.specs.declared.Voice.{Voice}
use Rattle.channel.specs.declared.Head.{Head}
use Rattle.channel.specs.declared.Channel.{Channel}
use Rattle.sampler.specs.declared.Sampler.{Sampler}
use Rattle.sampler.specs.Refusals.{capacity_of, set_up_number}
use Rattle.sampler.specs.Samplers.{set_up_of}
use Rattle.fates.specs.Places.{voice_at}
use Rattle.promises.specs.Runs.{World, Call, start_recording, sample, frame, chan, code, after, output}
use Rattle.promises.proofs.Examples.{computing, half, two, plain, key, quiet, init}

-- ==== row 9, condition by condition: the numbers of records at its edge and past it

-- a clip of any shift and speed
abbrev clip_with : ℕ → Float → Float → Float → Clip
clip_with since start length data_length = record { since = since; start = start; speed = nan; length = length; data_length = data_length; shift = inf true; mode = Loop }

abbrev clip : Clip
clip = clip_with 0 zero32 one32 one32

-- a voice of that phrase
abbrev voice_of : ℕ → ℕ → Volume → Clip → Voice
voice_of phrase finished_at volume c = record {
  finished_at = finished_at;
  last_sample_index = 0;
  clip2 = c;
  volume = volume;
  loop_start_percent = zero32;
  played = zero32;
  last_sample_value = zero32;
  speed = one32;
  note = key 60;
  finished = false;
  is_at_zero_crossing = false;
  phrase = phrase;
}

abbrev pub voice_with : ℕ → Volume → Clip → Voice
voice_with finished_at volume c = voice_of 0 finished_at volume c

abbrev voice : Voice
voice = voice_with 0 (Static one32) clip

-- the phrase with the number `chosen` is the recording: so many samples from `start` on
abbrev head_on : ℕ → ℕ → ℕ → ℕ → Volume → State → Head
head_on chosen start len now volume state = record {
  now = now;
  data_len = len;
  start = start;
  passthru_volume = volume;
  recorder = record { state = state; skipped_samples = 0; incorrect_state = 0 };
  passthru_on = false;
  interpolates = false;
  chosen = chosen;
}

abbrev head_with : ℕ → ℕ → Volume → State → Head
head_with now len volume state = head_on 0 0 len now volume state

-- 10 samples in, with 1 recorded
abbrev head : Head
head = head_with 10 1 (Static zero32) Idle

abbrev channel_with : List Voice → ℕ → Head → Channel
channel_with vs n h = record { voices = vs; table = no_phrases; count = n; head = h; several = false }

-- with other phrases beside its recording
abbrev tabled : Channel → List Phrase → Channel
tabled c table = record { voices = c.voices; table = table; count = c.count; head = c.head; several = true }

abbrev channel : Channel
channel = channel_with (voice ∷ []) 1 head

-- so many channels, of that capacity
abbrev sized : ℕ → ℕ → Sampler
sized count capacity = record { channels = channel ∷ channel ∷ []; count = count; capacity = capacity }

-- two channels of 4 samples
abbrev both : Channel → Channel → Sampler
both c d = record { channels = c ∷ d ∷ []; count = 2; capacity = 4 }

-- a good channel, and one with this head
abbrev heads : Head → Sampler
heads h = both channel (channel_with (voice ∷ []) 1 h)

-- a good channel, and one with a good voice and this one
abbrev voices : Voice → Sampler
voices v = both channel (channel_with (voice ∷ v ∷ []) 2 head)

-- the number that a call is answered with which no other row refuses
abbrev numbers : List Sampler → List ℕ
numbers records = map (λ (s : Sampler). code (record { sampler = s; memory = [] }) start_recording) records

-- "channel count or capacity is not one that set-up can give": 0 to 3 channels; capacities 0, 1, 2 ^ 22 and one more
pub counts_judged : numbers (sized 0 4 ∷ sized 1 4 ∷ sized 2 4 ∷ sized 3 4 ∷ []) ≡ 9 ∷ 0 ∷ 0 ∷ 9 ∷ []
unfolding computing
counts_judged = refl

pub capacities_judged : numbers (sized 2 0 ∷ sized 2 1 ∷ sized 2 (2 ^ 22) ∷ sized 2 (2 ^ 22 + 1) ∷ []) ≡ 9 ∷ 0 ∷ 0 ∷ 9 ∷ []
unfolding computing
capacities_judged = refl

-- "a voice count exceeds 32"
pub voice_counts_judged : numbers (both channel (channel_with (replicate 33 voice) 32 head) ∷ both channel (channel_with (replicate 33 voice) 33 head) ∷ []) ≡ 0 ∷ 9 ∷ []
unfolding computing
voice_counts_judged = refl

-- "data length exceeds capacity"
pub data_lengths_judged : numbers (heads (head_with 10 4 (Static one32) Idle) ∷ heads (head_with 10 5 (Static one32) Idle) ∷ []) ≡ 0 ∷ 9 ∷ []
unfolding computing
data_lengths_judged = refl

-- 11/12: the phrase that is chosen is one of eight,
abbrev chooses : ℕ → Sampler
chooses k = heads (head_on k 0 1 10 (Static one32) Idle)

pub chosen_judged : numbers (map chooses (0 ∷ 7 ∷ 8 ∷ [])) ≡ 0 ∷ 0 ∷ 9 ∷ []
unfolding computing
chosen_judged = refl

-- and it lies "within the channel's capacity", of 4 samples: its end there and one past it, with samples and with none
abbrev lies : ℕ → ℕ → Sampler
lies start len = heads (head_on 7 start len 10 (Static one32) Idle)

pub ends_of_phrases_judged : numbers (lies 1 3 ∷ lies 2 3 ∷ lies 4 0 ∷ lies 5 0 ∷ []) ≡ 0 ∷ 9 ∷ 0 ∷ 9 ∷ []
unfolding computing
ends_of_phrases_judged = refl

-- so does every other one: phrase 5 behind the recording, which is the first sample; an empty one begins by the capacity's end
abbrev lie_in : List Phrase → Sampler
lie_in table = both channel (tabled channel table)

abbrev span : ℕ → ℕ → Phrase
span start length = record { start = start; length = length }

abbrev fifth : ℕ → ℕ → List Phrase
fifth start length = set no_phrases 5 (span start length)

pub other_ends_judged : numbers (map lie_in (fifth 1 3 ∷ fifth 1 4 ∷ fifth 4 0 ∷ fifth 5 0 ∷ [])) ≡ 0 ∷ 9 ∷ 0 ∷ 9 ∷ []
unfolding computing
other_ends_judged = refl

-- "phrases don't overlap": with the recording, with one before it, with one behind it; an empty one overlaps none
pub overlaps_judged :
    (numbers (map lie_in (fifth 0 1 ∷ fifth 0 0 ∷ [])) ≡ 9 ∷ 0 ∷ [])
    × (numbers (map (λ (start : ℕ). lie_in (set (fifth 1 2) 2 (span start 1))) (1 ∷ 2 ∷ 3 ∷ [])) ≡ 9 ∷ 9 ∷ 0 ∷ [])
    × (numbers (map (λ (start : ℕ). lie_in (set (fifth 2 2) 7 (span start 1))) (1 ∷ 2 ∷ 3 ∷ [])) ≡ 0 ∷ 9 ∷ 9 ∷ [])
unfolding computing
overlaps_judged = (refl, refl, refl)

-- the chosen phrase's entry isn't judged, and where there aren't several phrases none is
pub entries_unjudged : numbers (lie_in (set no_phrases 0 (span 5 5)) ∷ both channel (record { voices = voice ∷ []; table = fifth 0 5; count = 1; head = head; several = false }) ∷ []) ≡ 0 ∷ 0 ∷ []
unfolding computing
entries_unjudged = refl

-- the number of a voice's phrase "is below eight"
abbrev of_phrase : ℕ → Sampler
of_phrase k = voices (voice_of k 0 (Static one32) clip)

pub phrases_judged : numbers (map of_phrase (0 ∷ 7 ∷ 8 ∷ [])) ≡ 0 ∷ 0 ∷ 9 ∷ []
unfolding computing
phrases_judged = refl

-- "a write place exceeds the data length"
pub write_places_judged : numbers (heads (head_with 10 3 (Static one32) (Triggered 3)) ∷ heads (head_with 10 3 (Static one32) (Triggered 4)) ∷ []) ≡ 0 ∷ 9 ∷ []
unfolding computing
write_places_judged = refl

-- "the clock exceeds 2^48"
pub clocks_judged : numbers (heads (head_with (2 ^ 48) 1 (Static one32) Idle) ∷ heads (head_with (2 ^ 48 + 1) 1 (Static one32) Idle) ∷ []) ≡ 0 ∷ 9 ∷ []
unfolding computing
clocks_judged = refl

-- "a `since`, `finished_at` or ramp start lies after the clock"
pub sinces_judged : numbers (voices (voice_with 0 (Static one32) (clip_with 10 zero32 one32 one32)) ∷ voices (voice_with 0 (Static one32) (clip_with 11 zero32 one32 one32)) ∷ []) ≡ 0 ∷ 9 ∷ []
unfolding computing
sinces_judged = refl

pub finished_ats_judged : numbers (voices (voice_with 10 (Static one32) clip) ∷ voices (voice_with 11 (Static one32) clip) ∷ []) ≡ 0 ∷ 9 ∷ []
unfolding computing
finished_ats_judged = refl

-- ramps of a voice and of pass-through
abbrev ramps : ℕ → ℕ → List Sampler
ramps a b = voices (voice_with 0 (Linear a b zero32 one32) clip) ∷ heads (head_with 10 1 (Linear a b zero32 one32) Idle) ∷ []

pub ramp_starts_judged : numbers (ramps 10 12 ++ ramps 11 12) ≡ 0 ∷ 0 ∷ 9 ∷ 9 ∷ []
unfolding computing
ramp_starts_judged = refl

-- "a ramp is empty or longer than 2^24": its end one after its start, at it and before it; 2 ^ 24 long, and one more
pub ramp_ends_judged : numbers (ramps 5 6 ++ (ramps 5 5 ++ ramps 5 4)) ≡ 0 ∷ 0 ∷ 9 ∷ 9 ∷ 9 ∷ 9 ∷ []
unfolding computing
ramp_ends_judged = refl

pub ramp_lengths_judged : numbers (ramps 5 (5 + 2 ^ 24) ++ ramps 5 (6 + 2 ^ 24)) ≡ 0 ∷ 0 ∷ 9 ∷ 9 ∷ []
unfolding computing
ramp_lengths_judged = refl

-- "a clip is bad": the numbers of clips of each length, of each data length and of each start
abbrev as_length : Float → Sampler
as_length x = voices (voice_with 0 (Static one32) (clip_with 0 zero32 x one32))

abbrev as_data_length : Float → Sampler
as_data_length x = voices (voice_with 0 (Static one32) (clip_with 0 zero32 one32 x))

abbrev as_start : Float → Sampler
as_start x = voices (voice_with 0 (Static one32) (clip_with 0 x one32 one32))

-- 1 and the float below it, 2 ^ 22 and the float above it, NaN and infinity
abbrev floats : List Float
floats = one32 ∷ fin false 16777215 (negsuc 23) ∷ fin false 1 (pos 22) ∷ fin false 8388609 (negsuc 0) ∷ nan ∷ inf false ∷ []

pub lengths_judged : numbers (map as_length floats) ≡ 0 ∷ 9 ∷ 0 ∷ 9 ∷ 9 ∷ 9 ∷ []
unfolding computing
lengths_judged = refl

pub clip_data_lengths_judged : numbers (map as_data_length floats) ≡ 0 ∷ 9 ∷ 0 ∷ 9 ∷ 9 ∷ 9 ∷ []
unfolding computing
clip_data_lengths_judged = refl

-- 0, -0 and the float below it
pub starts_judged : numbers (map as_start (zero32 ∷ fin true 0 (pos 0) ∷ fin true 1 (negsuc 148) ∷ floats)) ≡ 0 ∷ 0 ∷ 9 ∷ 0 ∷ 0 ∷ 0 ∷ 9 ∷ 9 ∷ 9 ∷ []
unfolding computing
starts_judged = refl

-- "Only voices below the count are judged", and channels: a bad one past it
abbrev bad : Voice
bad = voice_with 11 (Linear 11 11 nan nan) (clip_with 11 nan nan nan)

pub past_the_count :
    numbers (
    both channel (channel_with (voice ∷ bad ∷ []) 1 head)
    ∷ both channel (channel_with (voice ∷ bad ∷ []) 2 head)
    ∷ record { channels = channel ∷ channel_with (bad ∷ []) 1 head ∷ []; count = 1; capacity = 4 }
    ∷ record { channels = channel_with (bad ∷ []) 1 head ∷ channel ∷ []; count = 1; capacity = 4 }
    ∷ []
    )
    ≡ 0 ∷ 9 ∷ 0 ∷ 9 ∷ []
unfolding computing
past_the_count = refl

-- "sample memory shorter than channel count times capacity"
abbrev lent : ℕ → Call → ℕ
lent size c = code (record { sampler = sized 2 4; memory = replicate size 0 }) c

pub memory_judged : (lent 8 (sample 0 zero32 plain) ≡ 0) × (lent 7 (sample 0 zero32 plain) ≡ 9) × (lent 8 (quiet plain) ≡ 0) × (lent 7 (quiet plain) ≡ 9)
unfolding computing
memory_judged = (refl, refl, refl, refl)

-- ---- "A channel's capacity is the lent memory's length divided by the channel count, rounded down, at most 2^22": of one channel, and of two
abbrev sizes : List ℕ
sizes = (2 ^ 22 - 1) ∷ (2 ^ 22) ∷ (2 ^ 22 + 1) ∷ (2 ^ 23) ∷ []

pub capacities_of_one : map (capacity_of 1) sizes ≡ (2 ^ 22 - 1) ∷ (2 ^ 22) ∷ (2 ^ 22) ∷ (2 ^ 22) ∷ []
unfolding computing
capacities_of_one = refl

pub capacities_of_two :
    map (capacity_of 2) (1 ∷ 2 ∷ 3 ∷ (2 ^ 22) ∷ (2 ^ 23 - 1) ∷ (2 ^ 23) ∷ (2 ^ 23 + 2) ∷ (2 ^ 24) ∷ []) ≡ 0 ∷ 1 ∷ 1 ∷ (2 ^ 21) ∷ (2 ^ 22 - 1) ∷ (2 ^ 22) ∷ (2 ^ 22) ∷ (2 ^ 22) ∷ []
unfolding computing
capacities_of_two = refl

-- the record that set-up makes has it
pub capacities_made : map (λ (size : ℕ). (set_up_of 1 init size).sampler.capacity) sizes ≡ (2 ^ 22 - 1) ∷ (2 ^ 22) ∷ (2 ^ 22) ∷ (2 ^ 22) ∷ []
unfolding computing
capacities_made = refl

-- "set-up with another channel count or capacity 0"
pub set_ups_judged :
    (map (λ (count : ℕ). set_up_number count 8) (0 ∷ 1 ∷ 2 ∷ 3 ∷ []) ≡ 9 ∷ 0 ∷ 0 ∷ 9 ∷ [])
    × (map (set_up_number 1) (0 ∷ 1 ∷ (2 ^ 23) ∷ []) ≡ 9 ∷ 0 ∷ 0 ∷ [])
    × (map (set_up_number 2) (1 ∷ 2 ∷ (2 ^ 24) ∷ []) ≡ 9 ∷ 0 ∷ 0 ∷ [])
unfolding computing
set_ups_judged = (refl, refl, refl)

-- ==== row 6: "a channel the call would step has its clock at 2^48", here the second one's, at its end and one before it
abbrev clocks : ℕ → Call → ℕ
clocks now c = code (record { sampler = heads (head_with now 1 (Static one32) Idle); memory = replicate 8 0 }) c

pub ends_judged :
    map (clocks (2 ^ 48)) (sample 0 zero32 plain ∷ sample 1 zero32 plain ∷ frame [] plain ∷ frame (zero32 ∷ []) plain ∷ quiet plain ∷ []) ≡ 0 ∷ 6 ∷ 0 ∷ 0 ∷ 6 ∷ []
unfolding computing
ends_judged = refl

pub before_the_end : map (clocks (2 ^ 48 - 1)) (sample 1 zero32 plain ∷ quiet plain ∷ []) ≡ 0 ∷ 0 ∷ []
unfolding computing
before_the_end = refl

-- ==== 11/12: a voice goes by its own phrase. Of a part 1, 1/2, 2, 1/4 the phrase 3 is the recording, from sample 1 on, and every other phrase is empty; the voices are alike but for their phrases
abbrev one_of : ℕ → Voice
one_of k = voice_of k 0 (Static one32) (record { since = 10; start = zero32; speed = one32; length = two; data_length = two; shift = zero32; mode = Loop })

abbrev phrased : List Voice → World
phrased vs = record {
  sampler = both channel (channel_with vs (length vs) (head_on 3 1 2 10 (Static zero32) Idle));
  memory = replicate 4 0 ++ (0x3F800000 ∷ 0x3F000000 ∷ 0x40000000 ∷ 0x3E800000 ∷ []);
}

abbrev silence : Call
silence = sample 1 zero32 plain

-- what is heard of them in two samples
abbrev heard : List Voice → List Float
heard vs = output (phrased vs) silence 1 ∷ output (after (phrased vs) silence) silence 1 ∷ []

pub own_phrases_heard :
    (heard (one_of 3 ∷ []) ≡ half ∷ two ∷ []) × (heard (one_of 7 ∷ []) ≡ zero32 ∷ zero32 ∷ []) × (heard (one_of 7 ∷ one_of 3 ∷ []) ≡ half ∷ two ∷ [])
unfolding computing
own_phrases_heard = (refl, refl, refl)

-- with 1/4, the last sample, as phrase 7, its voice is heard too; the other's is as before
abbrev tabled_so : List Voice → World
tabled_so vs =
    let w = phrased vs in
    record { sampler = both channel (tabled (chan w 1) (set no_phrases 7 (span 3 1))); memory = w.memory }

abbrev heard_so : List Voice → List Float
heard_so vs = output (tabled_so vs) silence 1 ∷ output (after (tabled_so vs) silence) silence 1 ∷ []

pub other_phrases_heard : (heard_so (one_of 7 ∷ []) ≡ fin false 1 (negsuc 1) ∷ fin false 1 (negsuc 1) ∷ []) × (heard_so (one_of 3 ∷ []) ≡ half ∷ two ∷ [])
    × (heard_so (one_of 7 ∷ one_of 3 ∷ []) ≡ fin false 3 (negsuc 1) ∷ fin false 9 (negsuc 1) ∷ [])
unfolding computing
other_phrases_heard = (refl, refl, refl)

-- on an empty phrase a voice stays as it is
pub empty_phrase_rests : voice_at (chan (after (phrased (one_of 7 ∷ one_of 3 ∷ [])) silence) 1) 0 ≡ some (one_of 7)
unfolding computing
empty_phrase_rests = refl
