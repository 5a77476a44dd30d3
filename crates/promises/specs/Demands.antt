-- The client's demands, sentence by sentence: the words, then what is proved of them. `proofs/Demands: demands` proves
-- the record `Demands` at the end of this file. A reader needs beside it only the definitions that it names:
-- docs/READING.md says where each is and which rule of document 01 it says. Definitions only. Assumes nothing.
--
-- Names. A World is the record and the memory lent with it. `code w c` is the number of the call c on it, `after w c`
-- what the call leaves, `run w cs` what several leave, `chan w j` channel j, and `event w c j` what the call does to
-- channel j: nothing where it is refused, a change, or `sounds p x m`, a sample with the parameters p, the input x and
-- the channel's part m of the memory. `live c` are a channel's voices, `voice_at c n` is the one at place n, and
-- `follow` says where it is after an event: `at` a place, or `gone`. `own_part w j` is channel j's part of the memory.
-- A host's call (`Made`) is one of these or a run of frames: `makes w hs` is what several of them leave, `spread` the
-- frame calls of a run.
mod Names
use Rattle.promises.specs.Demands.Names.*

-- ==== Demand 1

-- the figures of channel j's voices, in their order; "voice info takes its loop length from channel 0's data length,
-- its other figures from the asked channel", and "uses the voice's phrase number, on channel 0 and on the asked channel"
-- (11/12).
abbrev pub figures : World → ℕ → Params → List VoiceInfo
figures w j p =
    map (λ (v : Voice). voice_info_of (loop_length_of p (phrase_at (chan w 0) v.phrase).length)
    (as_float (phrase_at (chan w j) v.phrase).length) v)
    (live (chan w j))

-- the values of channel 0's recording in so many columns
abbrev pub waveform : World → ℕ → List Float
waveform w columns = columns_of columns (recording_of (chan w 0) (own_part w 0))

pub record Demand1 : Type 0 where
  -- "Every public call takes every value of its arguments, NaN, infinities and an empty recording included, stays
  -- inside its memory and ends." No public function of the engine has a `requires`, and the check proves each of them
  -- safe and ending. Whatever is given, the contract allows one outcome and no other,
  pub takes : (g : Given) → Settled g
  pub one : (g : Given) (r s : Outcome g) → Allows g r → Allows g s → r ≡ s
  -- and lent memory keeps its size. "Channel j owns the j-th part of that size. Only a sample that records writes
  -- sample memory, at its write place in its channel's part", or a read (10/12: `Recordings.antt` says where) or a gather
  -- (11/12: `Phrases.antt`). So a call that is neither a sample of channel j nor one of these leaves its part as it was,
  -- for every j, past the last channel too; a sample x of it, alone or in a frame, leaves `memory_of x` of it.
  pub sized : (w : World) (c : Call) (r : Outcome (on w c)) → Allows (on w c) r
      → length (left_by w c r).memory ≡ length w.memory
  pub unwritten : (w : World) (c : Call) (r : Outcome (on w c)) → Allows (on w c) r
      → (j : ℕ) → is_sample (event w c j) ≡ false → rewrites c ≡ false → own_part (left_by w c r) j ≡ own_part w j
  pub written : (w : World) (c : Call) (r : Outcome (on w c)) → Allows (on w c) r
      → (j : ℕ) (p : Params) (x : Float) (m : List ℕ) → event w c j ≡ sounds p x m
      → own_part (left_by w c r) j ≡ memory_of x (chan w j) m
  -- So it is of several calls, and of a run of frames, which is its frame calls (`in_turn`).
  pub unwritten_run : (w : World) (cs : List Call) (j : ℕ) → list_any is_sample (events w cs j) ≡ false
      → list_any rewrites cs ≡ false → own_part (run w cs) j ≡ own_part w j
  pub run_sized : (w : World) → FittingSampler w.sampler → (xs : List Float) (p : Params) → FittingParams p
      → (r : RunOutcome) → Allows (along w xs p) r → length (world_left_along r).memory ≡ length w.memory
  -- "voice info fills a lent list of `VoiceInfo` records", and "a lent list longer than the answer keeps its rest." The
  -- answer is how many voices there are of the 32 places that a channel has by its type. By value the figures stand in
  -- front of 32.
  pub filled : (w : World) (j : ℕ) (p : Params) (list : List VoiceInfo) (r : InfoOutcome)
      → Allows (on w (asks (fill_voice_info j p list))) r → code w (asks (fill_voice_info j p list)) ≡ 0
      → length (chan w j).voices ≡ 32
      → (r.answer ≡ Ok (chan w j).count) × (r.lent ≡ figures w j p ++ drop (chan w j).count list)
  pub informed : (w : World) (j : ℕ) (p : Params) (room : ℕ) (r : Result VoiceInfos Refusal)
      → Allows (on w (asks (get_voice_info j p room))) r → code w (asks (get_voice_info j p room)) ≡ 0
      → length (chan w j).voices ≡ 32
      → (v : VoiceInfos) × (r ≡ Ok v) × (v.count ≡ (chan w j).count) × (take v.count v.infos ≡ figures w j p)
  -- 1/12: "for each of up to 4,096 columns of channel 0, the root of the mean square, plus the smallest and largest." A
  -- longer list keeps its rest.
  pub summarized : (w : World) (columns : ℕ) (list : List Float) (r : WaveformOutcome)
      → Allows (on w (asks (get_waveform_summary columns list))) r → code w (asks (get_waveform_summary columns list)) ≡ 0
      → (r.answer ≡ Ok (summary_with (smallest_of (waveform w columns)) (largest_of (waveform w columns))))
      × (r.lent ≡ waveform w columns ++ drop columns list)
  -- "A bad call is answered with a number from document 01," An outcome has the call's refusal, and so its number,
  pub named : (w : World) (c : Call) (r : Outcome (on w c)) → Allows (on w c) r → judged_in w c r ≡ call_judged w c
  pub numbered : (w : World) (c : Call) (r : Outcome (on w c)) → Allows (on w c) r → number_in (on w c) r ≡ code w c
  -- which is that of the first of the table's rows that holds, in the table's order, and 0 where none does. "Order: 9
  -- first. Start: 2, 3, 4, 5.
  pub start_rows_lem : (w : World) (position : Float) (note : Note) (velocity : Float) (p : Params)
      → code w (start position note velocity p)
      ≡ row (not (good_sampler w.sampler)) 9
      (row (bad_note note) 2 (row (bad_position position) 3 (row (beyond_limits p) 4 (row (any_full w.sampler) 5 0))))
  -- Stop: 2, 4.
  pub stop_rows_lem : (w : World) (note : Note) (p : Params)
      → code w (stop note p) ≡ row (not (good_sampler w.sampler)) 9 (row (bad_note note) 2 (row (beyond_limits p) 4 0))
  -- Note speed: 2.
  pub speed_rows_lem : (w : World) (note : Note) (s : Float)
      → code w (speed note s) ≡ row (not (good_sampler w.sampler)) 9 (row (bad_note note) 2 0)
  -- Sample and frame: 1, 4, 6.
  pub sample_rows : (w : World) (j : ℕ) (x : Float) (p : Params) → code w (sample j x p)
      ≡ row (not (good_with w.sampler (length w.memory))) 9
      (row (no_channel w.sampler j) 1 (row (beyond_limits p) 4 (row (at_end (channel_at w.sampler j)) 6 0)))
  pub frame_rows : (w : World) (xs : List Float) (p : Params) → code w (frame xs p)
      ≡ row (not (good_with w.sampler (length w.memory))) 9
      (row (ltb w.sampler.count (length xs)) 1
      (row (beyond_limits p) 4 (row (list_any at_end (take (length xs) w.sampler.channels)) 6 0)))
  -- A run of frames (request 3/12): "9, then 10 for a length that isn't a whole number of frames, then 4, then 6 with
  -- the count done." `frames_left` is what the largest clock of the channels in use has left.
  pub run_rows : (w : World) (xs : List Float) (p : Params) (r : RunOutcome) → Allows (along w xs p) r
      → code_of r.answer.ran.done
      ≡ row (not (good_with w.sampler (length w.memory))) 9
      (row (not (eqb (length xs % w.sampler.count) 0)) 10
      (row (beyond_limits p) 4 (row (ltb (frames_left w.sampler) (length xs / w.sampler.count)) 6 0)))
  -- Voice info: 1, 4, 8.
  pub info_rows : (w : World) (j : ℕ) (p : Params) (room : ℕ) → code w (asks (get_voice_info j p room))
      ≡ row (not (good_sampler w.sampler)) 9
      (row (no_channel w.sampler j) 1 (row (beyond_limits p) 4 (row (ltb room (channel_at w.sampler j).count) 8 0)))
  pub fill_rows : (w : World) (j : ℕ) (p : Params) (list : List VoiceInfo)
      → code w (asks (fill_voice_info j p list)) ≡ code w (asks (get_voice_info j p (length list)))
  -- Active notes and error text: 1, 8.
  pub notes_rows : (w : World) (j : ℕ) (notes : List ℕ) → code w (asks (iter_active_notes j notes))
      ≡ row (not (good_sampler w.sampler)) 9
      (row (no_channel w.sampler j) 1
      (row (ltb (length notes) (length (notes_of (live (channel_at w.sampler j))))) 8 0))
  pub text_rows : (w : World) (j : ℕ) (text : List ℕ) → code w (asks (print_error_info j text))
      ≡ row (not (good_sampler w.sampler)) 9
      (row (no_channel w.sampler j) 1 (row (ltb (length text) (length (error_text (recorder_at w.sampler j)))) 8 0))
  -- 1/12: "Refusals: 11 for too many columns, then 8, both after 9."
  pub summary_rows : (w : World) (columns : ℕ) (list : List Float) → code w (asks (get_waveform_summary columns list))
      ≡ row (not (good_with w.sampler (length w.memory))) 9
      (row (ltb 4096 columns) 11 (row (ltb (length list) columns) 8 0))
  -- Other queries, each of one channel: 1.
  pub query_rows : (w : World) (j : ℕ) (q : Question)
      → (q ≡ get_frames_processed j) ⊎ ((q ≡ get_data_len j) ⊎ ((q ≡ is_recording j) ⊎ (q ≡ get_last_recorded_offset j)))
      → code w (asks q) ≡ row (not (good_sampler w.sampler)) 9 (row (no_channel w.sampler j) 1 0)
  -- Start and stop of recording, reset: none but 9."
  pub plain_rows : (w : World) (c : Call) → (c ≡ start_recording) ⊎ ((c ≡ stop_recording) ⊎ (c ≡ reset))
      → code w c ≡ row (not (good_sampler w.sampler)) 9 0
  -- 7/12's setting: "Refusals: none new."
  pub interpolation_rows : (w : World) (on : Bool) → code w (set_interpolation on)
      ≡ row (not (good_sampler w.sampler)) 9 0
  pub set_up_rows : (count : ℕ) (p : InitParams) (m : List ℕ) (r : Answer) → Allows (new count p m) r
      → code_of r.done ≡ row (not (good_sizes count (capacity_of count (length m)))) 9 0
  -- A set-up that is refused leaves a record that every call answers with 9.
  pub unmade : (count : ℕ) (p : InitParams) (m : List ℕ) → set_up_number count (length m) ≢ 0 → (c : Call)
      → code (set_up count p m) c ≡ 9
  pub unmade_run : (count : ℕ) (p : InitParams) (m : List ℕ) → set_up_number count (length m) ≢ 0
      → (xs : List Float) (q : Params) → run_number (set_up count p m).sampler (length xs) q (length m) ≡ 9
  -- "and state, sample memory and frame hold what they held." So do lent lists.
  pub held : (w : World) (c : Call) (r : Outcome (on w c)) → Allows (on w c) r → code w c ≢ 0
      → (left_by w c r ≡ w) × Untouched w c r
  -- So they do after a run with 9, 10 or 4, of which no frame is done.
  pub run_held : (w : World) (xs : List Float) (p : Params) (r : RunOutcome) → Allows (along w xs p) r
      → code_of r.answer.ran.done ≢ 0 → code_of r.answer.ran.done ≢ 6
      → (r.answer.ran.frames ≡ 0) × (world_left_along r ≡ w) × (r.run ≡ xs)
  -- "The answer says how many frames were done." With 0 all of them;
  pub run_done : (w : World) (xs : List Float) (p : Params) (r : RunOutcome) → Allows (along w xs p) r
      → code_of r.answer.ran.done ≡ 0 → r.answer.ran.frames * w.sampler.count ≡ length xs
  -- "If the clock ends within the run, the frames before it stand and the rest of the lent run is as it came in; that
  -- is the one refusal after work has begun." With 6 all is as after the run of these frames alone, which is done.
  pub run_ends : (w : World) (xs : List Float) (p : Params) (r : RunOutcome) → Allows (along w xs p) r
      → code_of r.answer.ran.done ≡ 6 → (done : ℕ) → done ≡ r.answer.ran.frames * w.sampler.count
      → (q : RunOutcome) → Allows (along w (take done xs) p) q
      → (code_of q.answer.ran.done ≡ 0) × (q.answer.ran.frames ≡ r.answer.ran.frames)
      × (world_left_along r ≡ world_left_along q)
      × (r.run ≡ q.run ++ drop done xs)
  -- The tests of rows 1 to 6, "given exactly when", in document 01's words; row 7, of the small parts; and row 9, with
  -- what a broken record is.
  pub tests : RowTests
  pub small_parts : RowSeven
  pub broken : RowNine

-- "No accepted call reaches a panic of the Rust." docs/READING.md has each place of it that can panic. Those that
-- arguments reach are refused by the rows above; the others are shut out in every record that set-up and calls leave.

-- a voice's clip in a sample, after the updates of its length, speed and data length; after that of its mode it is
-- `moved_of`
abbrev pub lengthened : Tick → Voice → Clip
lengthened t v = with_length v.clip2 t.now t.span.length

abbrev pub sped : Tick → Voice → Clip
sped t v = with_speed (lengthened t v) t.now (mul binary32 v.speed t.speed)

abbrev pub told_length : Tick → Voice → Clip
told_length t v = with_data_length (sped t v) t.now t.span.data_length

-- the updates ask where the old offset lies in the clip as it is to be: it is in the data, and after another speed or
-- mode it is found
pub record Asked (t : Tick) (v : Voice) : Type 0 where
  pub length : data_to_clip_of (at_length v.clip2 t.span.length) (offset_at v.clip2 t.now)
      ≡ Ok (found_at (at_length v.clip2 t.span.length) (offset_at v.clip2 t.now))
  pub speed : data_to_clip_of (at_speed (lengthened t v) (mul binary32 v.speed t.speed))
      (offset_at (lengthened t v) t.now) ≡ Ok (Some (back_of (lengthened t v) (offset_at (lengthened t v) t.now)))
  pub mode : data_to_clip_of (at_mode (told_length t v) t.mode) (offset_at (told_length t v) t.now)
      ≡ Ok (Some (back_of (told_length t v) (offset_at (told_length t v) t.now)))

-- the place of a clip at a time lies from 0 to below its length, as the Rust's `clip_offset` asserts
abbrev pub Placed : Clip → ℕ → Type 0
Placed c now = Inside (clip_offset_at c now) c.length

-- a turn asks for the place of five clips: each update for that of the clip as it finds it, and the sound for that
-- after the last
pub record AllPlaced (t : Tick) (v : Voice) : Type 0 where
  pub before_length : Placed v.clip2 t.now
  pub before_speed : Placed (lengthened t v) t.now
  pub before_data_length : Placed (sped t v) t.now
  pub before_mode : Placed (told_length t v) t.now
  pub sounding : Placed (moved_of t v) t.now

-- a voice of channel j that has its turn in the sample s: at place n it is v, and its recording isn't empty
pub record Plays (w : World) (j n : ℕ) (v : Voice) (s : Call) (p : Params) (x : Float) (m : List ℕ) : Type 0 where
  pub present : j < w.sampler.count
  pub stands : voice_at (chan w j) n ≡ some v
  pub floats : FittingCall s
  pub sample : event w s j ≡ sounds p x m
  pub finds : empty_at m (chan w j) v ≡ false

pub record NoPanic (w : World) : Type 0 where
  -- The record is good by row 9's own tests: no time lies after the clock, no write place past the data, no ramp is
  -- empty, and no clip is bad.
  pub good : good_sampler w.sampler ≡ true
  pub asked : (j n : ℕ) (v : Voice) (s : Call) (p : Params) (x : Float) (m : List ℕ) → Plays w j n v s p x m
      → Asked (tick_at p m (chan w j) v) v
  -- "Bit-exact f32 loop position, with bound 0 to below length proved for every shift and speed". A place that is NaN
  -- is not inside.
  pub placed : (j n : ℕ) (v : Voice) (s : Call) (p : Params) (x : Float) (m : List ℕ) → Plays w j n v s p x m
      → AllPlaced (tick_at p m (chan w j) v) v
  -- The index that a voice sounds by lies inside the recording, the next one too, and the recording inside the
  -- channel's memory: so "its recorded value", in demand 3, is no default.
  pub inside : (j n : ℕ) (v : Voice) (s : Call) (p : Params) (x : Float) (m : List ℕ) → Plays w j n v s p x m
      → (index_at (moved_of (tick_at p m (chan w j) v) v) (chan w j).head.now < length_at m (chan w j) v)
      × (next_at (moved_of (tick_at p m (chan w j) v) v) (chan w j).head.now < length_at m (chan w j) v)
      × (length_at m (chan w j) v ≤ length (held_at x m (chan w j) v))

-- ==== Demand 2

-- of one update of a clip by all four values (2/12): a value that is equal to the clip's skips its own part alone, and
-- what is left is the other three in their order
pub record SkipsAlone (c : Clip) (now : ℕ) (l s d : Float) (m : Mode) : Type 0 where
  pub length : eq l c.length ≡ true
      → with_all c now l s d m ≡ with_mode (with_data_length (with_speed c now s) now d) now m
  pub speed : eq s c.speed ≡ true
      → with_all c now l s d m ≡ with_mode (with_data_length (with_length c now l) now d) now m
  pub data_length : eq d c.data_length ≡ true
      → with_all c now l s d m ≡ with_mode (with_speed (with_length c now l) now s) now m
  pub mode : same_mode m c.mode ≡ true
      → with_all c now l s d m ≡ with_data_length (with_speed (with_length c now l) now s) now d

-- "a, b and b - a finite" (7/12)
pub record Tame (a b : Float) : Type 0 where
  pub here : T (finite a)
  pub next : T (finite b)
  pub between : T (finite (sub binary32 b a))

pub record Demand2 : Type 0 where
  -- "On document 01's domain the port equals the Rust release build: output bits (one NaN counts as any other),
  -- recordings, voice lists, counts. Differential runs show it." oracle/README.md says which. No theorem can speak of
  -- the Rust: what each call does is a definition of specs/, to which the contract equates the function. "Conversions,
  -- floor, minimum, maximum and positions are proved against definitions from IEEE 754 and Rust's public documents;"
  -- The definitions are binary32/specs/Leaves.antt and clip/specs/Positions.antt, and each function's contract is its
  -- definition. What they are worth: a whole number up to 2 ^ 24 is converted to itself;
  pub exact : (n : ℕ) → n ≤ 2 ^ 24 → HasValue (as_float n) false n 1
  -- the cast to a narrower type is that to a wider one, held at its end, and a cast sees no fraction;
  pub narrow : (w v : ℕ) → w ≤ v → (x : Float) → as_whole w x ≡ min (as_whole v x) (2 ^ w - 1)
  pub whole_part : (w : ℕ) (x : Float) → T (fits binary32 x) → as_whole w (floor_of x) ≡ as_whole w x
  -- floor cuts the size down, and up for a negative value, with no rounding: m times 2 ^ e is m * up e / down e;
  pub floors_down : (m : ℕ) (e : ℤ) → T (fits binary32 (fin false m e))
      → HasValue (floor_of (fin false m e)) false (m * up e / down e) 1
  pub floors_up : (m : ℕ) (e : ℤ) → T (fits binary32 (fin true m e))
      → HasValue (floor_of (fin true m e)) true ((m * up e + (down e - 1)) / down e) 1
  -- minimum and maximum yield the other where one is NaN;
  pub smaller : (x : Float) → (min_of nan x ≡ x) × (min_of x nan ≡ x)
  pub larger : (x : Float) → (max_of nan x ≡ x) × (max_of x nan ≡ x)
  -- where neither is, they yield one of the two, not above (below) either;
  pub smaller_of_both : (x y : Float) → T (not (is_nan x)) → T (not (is_nan y))
      → ((min_of x y ≡ x) ⊎ (min_of x y ≡ y)) × T (le (min_of x y) x) × T (le (min_of x y) y)
  pub larger_of_both : (x y : Float) → T (not (is_nan x)) → T (not (is_nan y))
      → ((max_of x y ≡ x) ⊎ (max_of x y ≡ y)) × T (le x (max_of x y)) × T (le y (max_of x y))
  -- a float is its bit pattern, and a bit pattern that is no NaN's is its float.
  pub patterns : (x : Float) → T (fits binary32 x) → float_of (bits_of x) ≡ x
  pub values : (b : ℕ) → b < 2 ^ 32 → is_nan (float_of b) ≡ false → bits_of (float_of b) ≡ b
  -- A clip's position is from 0 to below its length, and its offset from 0 to below the data length, for every shift
  -- and speed.
  pub positions : (c : Clip) (now : ℕ) → Sound c
      → Inside (clip_offset_at c now) c.length × Within (offset_at c now) c.data_length
  -- 7/12: "The clip's offset should answer the whole index and the remaining fraction together, the two adding up exactly
  -- to what it answered before". The fraction is from +0 to below 1.
  pub adds_up : (c : Clip) (now : ℕ) → Sound c → AddsUp (position_at c now) (offset_at c now)
  -- "With it off demand 2 reads as now": the value that a voice sounds by is the one recorded at the index. With it on
  -- it is `value_of`, written from the request. "At fraction 0, with a, b and b - a finite, both settings give equal
  -- values."
  pub off : (t : Tick) (m : List ℕ) (c : Clip) → t.interpolates ≡ false
      → value_of t m c ≡ recorded_value_of m (index_at c t.now)
  pub whole_alike : (t : Tick) (m : List ℕ) (c : Clip) → eq (position_at c t.now).fraction zero32 ≡ true
      → Tame (recorded_value_of m (index_at c t.now)) (recorded_value_of m (next_at c t.now))
      → eq (value_of t m c) (recorded_value_of m (index_at c t.now)) ≡ true
  -- One update by all four values (2/12) ends as the four calls do in turn, whatever the clip and the values are; a call
  -- that is refused ends them, and the answer is that refusal. A value that is equal skips its own part alone.
  pub at_once : (c : Clip) (now : ℕ) (l s d : Float) (m : Mode) → update_all_of c now l s d m ≡ four_of c now l s d m
  pub skips_alone : (c : Clip) (now : ℕ) (l s d : Float) (m : Mode) → SkipsAlone c now l s d m
  -- "note packing both ways."
  pub packed : (n : Note) → n.note < 256 → n.channel < 256 → from_u64_of (into_u64_of n) ≡ n
  pub unpacked : (v : ℕ) → into_u64_of (from_u64_of v) ≡ v % 2 ^ 16
  -- 1/12: "the root is the one that IEEE 754 rounds to nearest, given by a definition over whole numbers."
  -- `root_of x` is a finite float that is not below 0, and every other one lies further from the root of x.
  pub roots : (x : Float) → T (positive x) → T (fits binary32 x) → NearestRoot x (root_of x)
  -- "The cuts .. follow the Rust": `cut_of`. "Show that no cut passes the end of the data." They begin at the first
  -- sample and don't fall. The last need not reach the end.
  pub cuts_inside : (n columns : ℕ) → n ≤ 2 ^ 22 → 0 < columns → columns ≤ 4096 → (i : ℕ) → i ≤ columns
      → cut_of n columns i ≤ n
  pub cuts_in_order : (n columns : ℕ) → n ≤ 2 ^ 22 → 0 < columns → columns ≤ 4096 → (i j : ℕ) → i ≤ j → j ≤ columns
      → cut_of n columns i ≤ cut_of n columns j
  pub cuts_begin : (n columns : ℕ) → n ≤ 2 ^ 22 → 0 < columns → columns ≤ 4096 → cut_of n columns 0 ≡ 0
  -- "A column with no samples is NaN and doesn't count for the extremes, which start at 0." That it doesn't count is
  -- `smaller` and `larger`. No root is below 0, so the smallest is always +0.
  pub empty_column : column_of [] ≡ nan
  pub smallest_is_zero : (columns : ℕ) (recording : List ℕ) → smallest_of (columns_of columns recording) ≡ zero32
  -- There are as many values as columns. "No columns gives no values and both extremes 0."
  pub columns_count : (columns : ℕ) (recording : List ℕ) → length (columns_of columns recording) ≡ columns
  pub no_columns : (recording : List ℕ)
      → (columns_of 0 recording ≡ []) × (smallest_of (columns_of 0 recording) ≡ zero32)
      × (largest_of (columns_of 0 recording) ≡ zero32)
  -- Document 01: "K1 to K10 stand as a single table under a single statement".
  pub table : TableHolds
  -- Document 02, 4/12: "a length kind in which a bar is numerator times 4 / denominator quarter notes, in the arithmetic
  -- of `as_samples`".
  pub bar : (p : Params) (n : ℕ) (x : Float) → p.loop_length ≡ WholeBars x
      → loop_length_of p n ≡ max_of (as_samples_of (Bars x) p.transport) (as_float 1)

-- ==== Demand 3: "On each channel, over any calls without a reset:"

-- channel j's recording holds nothing
abbrev pub is_empty : Channel → Bool
is_empty c = eqb c.head.data_len 0

-- the call in which the voice at place n leaves, of the calls cs: it stood at `place` by then
pub record Leaves (w : World) (j n : ℕ) (cs : List Call) : Type 0 where
  pub earlier : List Call
  pub call : Call
  pub later : List Call
  pub split : cs ≡ earlier ++ (call ∷ later)
  pub place : ℕ
  pub voice : Voice
  pub follows : follow_all (events w earlier j) (chan w j) n ≡ at place
  pub stands : voice_at (chan (run w earlier) j) place ≡ some voice
  pub leaves : follow (event (run w earlier) call j) (chan (run w earlier) j) place ≡ gone

-- the terms of channel c's sum in a sample x, with the parameters p and the memory m: the products of its voices in
-- their order, that of v at place n among them. A product is the recorded value times the level; a voice that is to be
-- removed has none
abbrev pub terms_with : Params → Float → List ℕ → Channel → ℕ → Voice → List Float
terms_with p x m c n v =
    terms_of p x m c (take n (live c)) ++ (term_of p x m c v ∷ terms_of p x m c (drop (suc n) (live c)))

-- The voice v, at place n of channel j and unfinished, sounds in the sample s: the call's output for the channel is
-- `volume` times the sum of those terms, from the left, and of the input at the pass-through's level. That the term can
-- be heard is not said: a float sum may absorb it.
pub record SoundsIn (w : World) (s : Call) (j : ℕ) (p : Params) (x : Float) (m : List ℕ) (n : ℕ) (v : Voice) : Type 0
  where
    pub stands : voice_at (chan w j) n ≡ some v
    pub unfinished : v.finished ≡ false
    pub output : output w s j
        ≡ mul binary32 p.volume
        (add binary32 (add binary32 zero32 (total_of (terms_with p x m (chan w j) n v)))
        (mul binary32 x (level_of (chan w j).head.passthru_volume (chan w j).head.now)))

-- So does one that a start made as `fresh`, and this is its first: it is as the start made it, but for a speed that was
-- set for its note meanwhile, and its clip began at the count of this sample.
pub record FirstIn (w : World) (s : Call) (j : ℕ) (p : Params) (x : Float) (m : List ℕ) (n : ℕ) (fresh : Voice) : Type 0
  where
    pub voice : Voice
    pub as_started : voice ≡ at_speed_of voice.speed fresh
    pub since : voice.clip2.since ≡ (chan w j).head.now
    pub sounds : SoundsIn w s j p x m n voice

-- A run of frames (request 3/12): "One call should do them all and equal the frame call made on each in turn under the
-- same parameters."
pub record InTurn (w : World) (xs : List Float) (p : Params) : Type 0 where
  -- Record and memory are those after the frame calls of the part that is done, each with its own entries;
  pub leaves : made w (frames xs p) ≡ run w (spread w (frames xs p))
  -- the entries of the run are those that these calls leave, one after the other, and then the rest as it was.
  pub entries : (ran_of w.sampler xs p w.memory).frame
      ≡ played_by w (spread w (frames xs p)) ++ drop (frames_done w xs p * w.sampler.count) xs
  -- Record, memory and parameters are tested once. That equals a test at each frame: each of these calls is accepted,
  pub accepted : Accepted w (spread w (frames xs p))
  -- with 6 the frame call on the next entries would be refused 6,
  pub next : run_number w.sampler (length xs) p (length w.memory) ≡ 6 → (ys : List Float)
      → length ys ≡ w.sampler.count → code (run w (spread w (frames xs p))) (frame ys p) ≡ 6
  -- and with 9 or 4 so would the first be, by the same number.
  pub alike : (n : ℕ) → run_number w.sampler (length xs) p (length w.memory) ≡ n → (n ≡ 9) ⊎ (n ≡ 4)
      → (ys : List Float) → length ys ≡ w.sampler.count → code w (frame ys p) ≡ n

pub record Demand3 (w : World) (j : ℕ) : Type 0 where
  -- What is done: each call does its event to the channel, and nothing else.
  pub does : (c : Call) → chan (after w c) j ≡ act (event w c j) (chan w j)
  -- What is counted: an accepted sample of the channel, alone or in a frame, moves its clock on by one,
  pub counts : (s : Call) (p : Params) (x : Float) (m : List ℕ) → event w s j ≡ sounds p x m
      → (chan (after w s) j).head.now ≡ (chan w j).head.now + 1
  -- and calls among which there is none leave it: so the next one after a start has the start's count.
  pub stands : (cs : List Call) → list_any is_reset_call cs ≡ false → list_any is_sample (events w cs j) ≡ false
      → (chan (run w cs) j).head.now ≡ (chan w j).head.now
  -- What is heard: the call's output for the channel is `volume` times the channel's own.
  pub hears : (s : Call) (p : Params) (x : Float) (m : List ℕ) → event w s j ≡ sounds p x m
      → output w s j ≡ mul binary32 p.volume (step_of p x (chan w j) m).output
  -- ON TIME. "a start accepted at count n on a recording that isn't empty sounds in accepted sample n (its recorded
  -- value times its level is a term of the output), unless that voice is stopped first or the recording is empty by
  -- then." Stopped means that a stop finds that very voice: with several of one note a stop goes to the oldest. The
  -- recording is judged once the sample has recorded.
  pub on_time : (position : Float) (note : Note) (velocity : Float) (p₀ : Params)
      → code w (start position note velocity p₀) ≡ 0 → is_empty (chan w j) ≡ false
      → (cs : List Call) → list_any is_reset_call cs ≡ false
      → (s : Call) (p : Params) (x : Float) (m : List ℕ)
      → event (run w (start position note velocity p₀ ∷ cs)) s j ≡ sounds p x m
      → (chan (run w (start position note velocity p₀ ∷ cs)) j).head.now ≡ (chan w j).head.now
      → stopped_in (events (after w (start position note velocity p₀)) cs j)
      (chan (after w (start position note velocity p₀)) j) (length (live (chan w j))) ≡ false
      → empty_at m (chan (run w (start position note velocity p₀ ∷ cs)) j) (born_of p₀ position note velocity (chan w j))
      ≡ false
      → FirstIn (run w (start position note velocity p₀ ∷ cs)) s j p x m (length (live (chan w j)))
      (fresh_of p₀ position note velocity (moment_of (chan w j).head))
  -- And until it is finished a voice sounds, where it then stands, in every accepted sample that finds the recording
  -- not empty.
  pub sounds_on : (n : ℕ) (v : Voice) → voice_at (chan w j) n ≡ some v → v.finished ≡ false
      → (cs : List Call) → list_any is_reset_call cs ≡ false → finished_in (events w cs j) (chan w j) n ≡ false
      → (s : Call) (p : Params) (x : Float) (m : List ℕ) → event (run w cs) s j ≡ sounds p x m
      → empty_at m (chan (run w cs) j) v ≡ false
      → (k : ℕ) × (u : Voice) × (follow_all (events w cs j) (chan w j) n ≡ at k) × SoundsIn (run w cs) s j p x m k u
  -- STAYS. "No voice leaves before a stop or play-once has finished it." The call that it leaves in may be the one that
  -- finishes it.
  pub stays : (n : ℕ) (v : Voice) → voice_at (chan w j) n ≡ some v → v.finished ≡ false
      → (cs : List Call) → list_any is_reset_call cs ≡ false → follow_all (events w cs j) (chan w j) n ≡ gone
      → finished_in (events w cs j) (chan w j) n ≡ true
  -- How a voice is followed: at the place that it is followed to stands what the call makes of that very voice. Voices
  -- keep their order,
  pub follows : (c : Call) (n k : ℕ) (v : Voice) → voice_at (chan w j) n ≡ some v
      → follow (event w c j) (chan w j) n ≡ at k
      → voice_at (chan (after w c) j) k ≡ some (becomes (event w c j) (chan w j) n v)
  pub in_order : (c : Call) (i n a b : ℕ) (u v : Voice) → i < n → voice_at (chan w j) i ≡ some u
      → voice_at (chan w j) n ≡ some v
      → follow (event w c j) (chan w j) i ≡ at a → follow (event w c j) (chan w j) n ≡ at b → a < b
  -- and each that is there after a call was there before it, or is the start's own, at the end.
  pub none_else : (c : Call) (k : ℕ) (u : Voice) → voice_at (chan (after w c) j) k ≡ some u
      → ((n : ℕ) × (v : Voice) × (voice_at (chan w j) n ≡ some v) × (follow (event w c j) (chan w j) n ≡ at k))
      ⊎ ((k ≡ length (live (chan w j))) × (added_by (event w c j) (chan w j) ≡ u ∷ []))
  -- GOES. "A voice finished at count r is gone by the end of any accepted sample n that finds the recording not empty,
  -- if n is at least r plus the larger of the decay at finishing and the decay at n." The call c finishes it, at the
  -- count of its channel then and with its own decay; the last of c ∷ cs, which may be c itself, is the sample. In
  -- between modes and decays may be anything.
  pub goes : (c : Call) (n : ℕ) (v : Voice) → voice_at (chan w j) n ≡ some v → finishes (event w c j) (chan w j) n ≡ true
      → (cs : List Call) (p : Params) (x : Float) (m : List ℕ) → event (before w c cs) (final c cs) j ≡ sounds p x m
      → empty_at m (chan (before w c cs) j) v ≡ false
      → (chan w j).head.now + max (decay_of (event w c j)) p.decay_samples ≤ (chan (before w c cs) j).head.now
      → follow_all (events w (c ∷ cs) j) (chan w j) n ≡ gone
  -- One that is gone left in one of the calls, where `free` holds:
  pub left_in : (n : ℕ) (v : Voice) → voice_at (chan w j) n ≡ some v → (cs : List Call)
      → follow_all (events w cs j) (chan w j) n ≡ gone → Leaves w j n cs
  -- FREE. "Its place is then free: row 5 of document 01 no longer counts that voice, and an accepted start can take the
  -- place." The call in which a voice leaves lowers the count that row 5 asks, so that row 5 doesn't hold by this
  -- channel (it may by the other one);
  pub free : (c : Call) (n : ℕ) (v : Voice) → voice_at (chan w j) n ≡ some v → is_reset_call c ≡ false
      → follow (event w c j) (chan w j) n ≡ gone
      → ((chan (after w c) j).count < (chan w j).count) × (full_of (chan (after w c) j) ≡ false)
  -- an accepted start on a recording that isn't empty takes a place at the end.
  pub taken : (position : Float) (note : Note) (velocity : Float) (p : Params)
      → code w (start position note velocity p) ≡ 0 → is_empty (chan w j) ≡ false
      → live (chan (after w (start position note velocity p)) j) ≡ live (chan w j)
      ++ (fresh_of p position note velocity (moment_of (chan w j).head) ∷ [])

-- ==== Request 8/12, after demand 3: "True positions at normal speed. Our lag measurement relies on this."

-- b is an accepted start, of the voice `born`, on a recording that isn't empty, and s an accepted sample, k later by the
-- channel's count, that finds the recording not empty. Between them come the calls cs, without a reset, in which neither
-- a stop nor play-once finishes that voice. "with no update in between that changes a field": no sample of all these, s
-- included, asks for another length, speed, data length or mode than the voice's clip has.
pub record Undisturbed (w : World) (j : ℕ) (b : Call) (cs : List Call) (s : Call) (p : Params) (x : Float) (m : List ℕ)
    (born : Voice) (k : ℕ) : Type 0 where
  pub accepted : code w b ≡ 0
  pub recorded : is_empty (chan w j) ≡ false
  pub no_reset : list_any is_reset_call cs ≡ false
  pub unfinished : finished_in (events (after w b) cs j) (chan (after w b) j) (length (live (chan w j))) ≡ false
  pub unaltered : altered_in (events (after w b) (cs ++ (s ∷ [])) j) (chan (after w b) j) (length (live (chan w j)))
      ≡ false
  pub sample : event (run w (b ∷ cs)) s j ≡ sounds p x m
  pub finds : empty_at m (chan (run w (b ∷ cs)) j) born ≡ false
  pub later : (chan (run w (b ∷ cs)) j).head.now ≡ (chan w j).head.now + k
  pub within : k ≤ 2 ^ 24

-- At the place that it is followed to, the voice that b made as `born` sounds in s: it has its clip still, and its term
-- is a value times its level. With 7/12's setting off that is the value recorded at `index`; with it on it is the
-- interpolated one, which is equal to that where the request has it.
pub record OnTheBeat (w : World) (j : ℕ) (b : Call) (cs : List Call) (s : Call) (p : Params) (x : Float) (m : List ℕ)
    (born : Voice) (index : ℕ) : Type 0 where
  pub place : ℕ
  pub voice : Voice
  pub follows : follow_all (events (after w b) cs j) (chan (after w b) j) (length (live (chan w j))) ≡ at place
  pub sounds : SoundsIn (run w (b ∷ cs)) s j p x m place voice
  pub clip : voice.clip2 ≡ born.clip2
  pub term : term_of p x m (chan (run w (b ∷ cs)) j) voice
      ≡ mul binary32
      (value_of (tick_at p m (chan (run w (b ∷ cs)) j) voice) (held_at x m (chan (run w (b ∷ cs)) j) voice) born.clip2)
      (level_of voice.volume (chan (run w (b ∷ cs)) j).head.now)
  pub off : (chan (run w (b ∷ cs)) j).head.interpolates ≡ false
      → value_of (tick_at p m (chan (run w (b ∷ cs)) j) voice) (held_at x m (chan (run w (b ∷ cs)) j) voice) born.clip2
      ≡ recorded_value_of (held_at x m (chan (run w (b ∷ cs)) j) voice) index
  pub alike : Tame (recorded_value_of (held_at x m (chan (run w (b ∷ cs)) j) voice) index)
      (recorded_value_of (held_at x m (chan (run w (b ∷ cs)) j) voice)
      (next_at born.clip2 (chan (run w (b ∷ cs)) j).head.now))
      → eq
      (value_of (tick_at p m (chan (run w (b ∷ cs)) j) voice) (held_at x m (chan (run w (b ∷ cs)) j) voice) born.clip2)
      (recorded_value_of (held_at x m (chan (run w (b ∷ cs)) j) voice) index) ≡ true

-- After s that voice, where it is still there, has `index` for its last index, and voice info shows it as a part of
-- the recording.
pub record Shows (w : World) (j : ℕ) (place index : ℕ) : Type 0 where
  pub voice : Voice
  pub stands : voice_at (chan w j) place ≡ some voice
  pub last : voice.last_sample_index ≡ index
  pub info : (l n : Float) → (voice_info_of l n voice).pos ≡ div binary32 (as_float index) n

pub record TruePositions (w : World) (j : ℕ) : Type 0 where
  -- "For a loop-mode clip with shift 0, speed 1, whole start, length and data length within the limits, .. and an
  -- elapsed count of at most 2^24, show that the index is (start + elapsed mod length) mod data length, over whole
  -- numbers". Here a, l and d are the start, the length and the data length. That the start is at most the data length
  -- need not be asked;
  pub true_index : (c : Clip) (now a l d : ℕ) → PlainClip c a l d → elapsed_at c now ≤ 2 ^ 24
      → index_at c now ≡ (a + elapsed_at c now % l) % d
  -- where it is, `plain_at` tests all of these premises.
  pub tested : (c : Clip) (now : ℕ) → plain_at c now ≡ true
      → index_at c now
      ≡ plain_index (as_whole 64 c.start) (as_whole 64 c.length) (as_whole 64 c.data_length) (elapsed_at c now)
  -- ON THE BEAT. A voice started at count n with such a clip sounds, in the sample of count n + k, the value recorded
  -- at (start + k mod length) mod data length,
  pub on_the_beat : (position : Float) (note : Note) (velocity : Float) (p₀ : Params) (a l d : ℕ)
      → PlainClip (born_of p₀ position note velocity (chan w j)).clip2 a l d
      → (cs : List Call) (s : Call) (p : Params) (x : Float) (m : List ℕ) (k : ℕ)
      → Undisturbed w j (start position note velocity p₀) cs s p x m (born_of p₀ position note velocity (chan w j)) k
      → OnTheBeat w j (start position note velocity p₀) cs s p x m (born_of p₀ position note velocity (chan w j))
      ((a + k % l) % d)
  -- and in the sample of its own count the one at its start: THE LAG IS 0.
  pub no_lag : (position : Float) (note : Note) (velocity : Float) (p₀ : Params) (a l d : ℕ)
      → PlainClip (born_of p₀ position note velocity (chan w j)).clip2 a l d
      → (cs : List Call) (s : Call) (p : Params) (x : Float) (m : List ℕ)
      → Undisturbed w j (start position note velocity p₀) cs s p x m (born_of p₀ position note velocity (chan w j)) 0
      → OnTheBeat w j (start position note velocity p₀) cs s p x m (born_of p₀ position note velocity (chan w j)) (a % d)
  -- SEEN. Where that voice is at a place i after the sample, its last index is that index.
  pub seen : (position : Float) (note : Note) (velocity : Float) (p₀ : Params) (a l d : ℕ)
      → PlainClip (born_of p₀ position note velocity (chan w j)).clip2 a l d
      → (cs : List Call) (s : Call) (p : Params) (x : Float) (m : List ℕ) (k : ℕ)
      → Undisturbed w j (start position note velocity p₀) cs s p x m (born_of p₀ position note velocity (chan w j)) k
      → (n i : ℕ)
      → follow_all (events (after w (start position note velocity p₀)) cs j)
      (chan (after w (start position note velocity p₀)) j) (length (live (chan w j))) ≡ at n
      → follow (event (run w (start position note velocity p₀ ∷ cs)) s j)
      (chan (run w (start position note velocity p₀ ∷ cs)) j) n ≡ at i
      → Shows (after (run w (start position note velocity p₀ ∷ cs)) s) j i ((a + k % l) % d)

-- ==== Request 12/12, after demand 3: "Remove all of a sample's finished voices in one walk that keeps the order."

pub record Tidying (w : World) : Type 0 where
  -- "The answer of the single-channel sample carries the number of records moved, which is the number of kept voices
  -- standing behind the first removed one": of the voices that `follow`, by which demand 3 tells them, takes to a place
  -- before their own;
  pub kept_behind : (j : ℕ) (x : Float) (p : Params) (r : SampleOutcome) → Allows (on w (sample j x p)) r
      → r.answer.moved ≡ up_in w (sample j x p) j
  -- a voice that stays goes to such a place exactly where one before it leaves;
  pub behind_first : (c : Call) (j n k : ℕ) (v : Voice) → voice_at (chan w j) n ≡ some v
      → follow (event w c j) (chan w j) n ≡ at k
      → (k < n) ↔ ((i : ℕ) × (i < n) × (follow (event w c j) (chan w j) i ≡ gone))
  -- "and so at most 31."
  pub bound : (j : ℕ) (x : Float) (p : Params) (r : SampleOutcome) → Allows (on w (sample j x p)) r
      → r.answer.moved ≤ 31
  -- "The frame answer carries the sum over its channels, at most 62."
  pub frame_sum : (xs : List Float) (p : Params) (r : FrameOutcome) → Allows (on w (frame xs p)) r
      → r.answer.moved ≡ sum_from (up_in w (frame xs p)) (length xs) 0
  pub frame_bound : (xs : List Float) (p : Params) (r : FrameOutcome) → Allows (on w (frame xs p)) r
      → r.answer.moved ≤ 62
  -- None moves up where none leaves, in a refused call, and where the phrase of every voice is empty.
  pub none : (c : Call) (j : ℕ)
      → ((n : ℕ) (v : Voice) → voice_at (chan w j) n ≡ some v → follow (event w c j) (chan w j) n ≢ gone)
      → up_in w c j ≡ 0
  pub refused : (c : Call) → code w c ≢ 0 → (j : ℕ) → up_in w c j ≡ 0
  pub empty : (j : ℕ) (x : Float) (p : Params)
      → ((n : ℕ) (v : Voice) → voice_at (chan w j) n ≡ some v → empty_at (own_part w j) (chan w j) v ≡ true)
      → up_in w (sample j x p) j ≡ 0

-- the voices once all have taken their turns in the sample, in their order
abbrev pub all_turned : Params → Float → List ℕ → Channel → List Voice
all_turned p x m c = map (turns_in p x m c).turn (live c)

-- "Outputs and lists are those of the old removal", of every accepted sample of channel j
pub record OldRemoval (w : World) (j : ℕ) : Type 0 where
  -- once all voices have taken their turns the places of those that leave are noted, and then taken away one at a time,
  -- the last first
  pub lists : (s : Call) (p : Params) (x : Float) (m : List ℕ) → event w s j ≡ sounds p x m
      → live (chan (after w s) j)
      ≡ taken_away (places_of (turns_in p x m (chan w j)).leaves 0 (all_turned p x m (chan w j))) (all_turned p x m (chan w j))
  -- an output is the sum over all voices, before any of them leaves
  pub outputs : (s : Call) (p : Params) (x : Float) (m : List ℕ) → event w s j ≡ sounds p x m
      → output w s j
      ≡ mul binary32 p.volume
      (add binary32 (add binary32 zero32 (heard_sum (turns_in p x m (chan w j)) (live (chan w j))))
      (mul binary32 x (level_of (chan w j).head.passthru_volume (chan w j).head.now)))

-- What holds beside it
pub record Whole (w : World) : Type 0 where
  -- Row 9 answers no call.
  pub unbroken : (c : Call) → code w c ≢ 9
  pub unbroken_run : (xs : List Float) (p : Params) → run_number w.sampler (length xs) p (length w.memory) ≢ 9
  -- Its floats are of binary32, and it has its channels and places: what `in_turn` asks of a record.
  pub fitting : FittingSampler w.sampler
  -- "an accepted start can take the place": a start that rows 2 to 4 let through is accepted where no channel in use is
  -- full.
  pub opens : (position : Float) (note : Note) (velocity : Float) (p : Params) → bad_note note ≡ false
      → bad_position position ≡ false → beyond_limits p ≡ false
      → ((j : ℕ) → j < w.sampler.count → full_of (chan w j) ≡ false) → code w (start position note velocity p) ≡ 0

-- ==== All of it

pub record Demands : Type 0 where
  pub first : Demand1
  pub no_panic : (count : ℕ) (p : InitParams) (m : List ℕ) → set_up_number count (length m) ≡ 0 → (hs : List Made)
      → Each FittingMade hs → NoPanic (makes (set_up count p m) hs)
  pub second : Demand2
  -- of every record and memory that set-up and any calls leave, runs of frames among them, for each channel of those
  -- that set-up was asked for
  pub third : (count : ℕ) (p : InitParams) (m : List ℕ) → set_up_number count (length m) ≡ 0
      → (hs : List Made) (j : ℕ) → j < count → Demand3 (makes (set_up count p m) hs) j
  -- of the same records and channels
  pub true_positions : (count : ℕ) (p : InitParams) (m : List ℕ) → set_up_number count (length m) ≡ 0
      → (hs : List Made) (j : ℕ) → j < count → TruePositions (makes (set_up count p m) hs) j
  -- 7/12: "It is a setting per sampler, off at set-up and kept by reset." Every channel has the one of the last accepted
  -- call that sets it.
  pub one_setting : (count : ℕ) (p : InitParams) (m : List ℕ) → set_up_number count (length m) ≡ 0
      → (cs : List Call) (j : ℕ) → j < count
      → (chan (run (set_up count p m) cs) j).head.interpolates ≡ setting_in (set_up count p m) false cs
  -- of every record and memory
  pub tidying : (w : World) → Tidying w
  -- of those that set-up and calls leave
  pub old_removal : (count : ℕ) (p : InitParams) (m : List ℕ) → set_up_number count (length m) ≡ 0
      → (hs : List Made) (j : ℕ) → j < count → OldRemoval (makes (set_up count p m) hs) j
  -- 10/12: `Recordings.antt`
  pub recordings : (w : World) → Recordings w
  -- 11/12: `Phrases.antt`
  pub phrases : (w : World) → Phrases w
  pub one_phrase : Base
  pub eight : (count : ℕ) (p : InitParams) (m : List ℕ) → set_up_number count (length m) ≡ 0
      → (hs : List Made) → Each FittingMade hs → Eight (makes (set_up count p m) hs)
  -- "Demand 3 counts each frame of a run as a sample." What demand 3 says of calls it says of a run's frames: the run
  -- is its frame calls, each one event on the channel, and so are any calls of a host, runs among them.
  pub in_turn : (w : World) → FittingSampler w.sampler → (xs : List Float) (p : Params) → FittingParams p
      → InTurn w xs p
  pub spreads : (count : ℕ) (p : InitParams) (m : List ℕ) → set_up_number count (length m) ≡ 0 → (hs ks : List Made)
      → Each FittingMade hs → Each FittingMade ks
      → makes (makes (set_up count p m) hs) ks
      ≡ run (makes (set_up count p m) hs) (spread_all (makes (set_up count p m) hs) ks)
  -- Their count stays, and so does the capacity: "the lent memory's length divided by the channel count, rounded down,
  -- at most 2^22."
  pub count_stays : (count : ℕ) (p : InitParams) (m : List ℕ) → set_up_number count (length m) ≡ 0
      → (hs : List Made) → (makes (set_up count p m) hs).sampler.count ≡ count
  pub capacity_stays : (count : ℕ) (p : InitParams) (m : List ℕ) → set_up_number count (length m) ≡ 0
      → (hs : List Made) → (makes (set_up count p m) hs).sampler.capacity ≡ min (length m / count) (2 ^ 22)
  -- and that this isn't met by an engine whose records break
  pub whole : (count : ℕ) (p : InitParams) (m : List ℕ) → set_up_number count (length m) ≡ 0 → (hs : List Made)
      → Each FittingMade hs → Whole (makes (set_up count p m) hs)
  -- The output that demand 3 speaks of is the one that the call answers.
  pub answers : (w : World) (c : Call) (r : Outcome (on w c)) → Allows (on w c) r
      → (j : ℕ) → output_in w c r j ≡ output w c j
  -- What calls leave, one after the other, is what their contracts allow them to leave, and nothing else is.
  pub runs : (w : World) (hs : List Made) → Chain w hs (makes w hs)
  pub no_other : (w u : World) (hs : List Made) → Chain w hs u → u ≡ makes w hs
