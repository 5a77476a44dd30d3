-- Recordings out and in as WAVE files (request 10/12), over runs of calls that are computed: takes that are written and read, that meet the premises of each statement, and voices that go on after a read. Assumes nothing.
use mathlib.Core.Path.{◌≡◌, refl, sym, ap, ◌∙◌}
use mathlib.Core.Bool.{Bool, true, false, cond}
use mathlib.Core.List.{List, [], ◌∷◌, ◌++◌}
use Prim.Native.Nat.{ℕ, ◌≤◌, ◌<◌}
use native.Mathlib.Omega.{arith}
use lib.Dec.{eqb, lit<}
use lib.IntN.{negsuc}
use lib.Ieee.{Float, fin}
use lib.ListN.{length, get_or, take, replicate}
use Rattle.std.specs.Prelude.{Ok, is_ok}
use Rattle.octets.proofs.Hex.{from_hex}
use Rattle.walks.specs.Each.{Each}
use Rattle.binary32.specs.Leaves.{zero32, one32}
use Rattle.voice.specs.Voices.{fresh_of}
use Rattle.common_types.specs.declared.Params.{Params}
use Rattle.voice.specs.declared.Voice.{Voice}
use Rattle.walks.specs.Walks.{without}
use Rattle.wave.specs.Reader.{file_judged}
use Rattle.channel.specs.declared.Change.TheVariants.{Head}
use Rattle.channel.specs.declared.HeadChange.TheVariants.{Load}
use Rattle.channel.specs.declared.Channel.{Channel}
use Rattle.channel.specs.Channels.{live, Turning, turning_of, kept_of, head_changed_in}
use Rattle.channel.proofs.Slots.{none}
use Rattle.channel.proofs.Turns.{Rests, resting_rests, turning_none}
use Rattle.fates.specs.Events.{Event, idle, changes, sounds, act}
use Rattle.fates.specs.Engine.{turns_by, turns_in, moment_at, held_at}
use Rattle.fates.specs.Places.{Housed}
use Rattle.fates.proofs.Lives.{live_sounded}
use Rattle.recordings.specs.Waves.{held_in, read_judged}
use Rattle.fates.specs.Sounding.{terms_of}
use Rattle.recordings.proofs.Examples.{computing as filing, no_samples_lem, others, cut, mono, stereo}
use Rattle.promises.specs.Runs.{own_part, event, call_judged, done_to, World, Call, start_recording, stop_recording, sample, read_wave, write_wave, asks, set_up, run, after, code, chan, output}
use Rattle.promises.specs.Outcomes.{on, ListOutcome, ReadOutcome, Allows, left_by}
use Rattle.promises.specs.Demands.{FirstIn, terms_with}
use Rattle.promises.specs.Recordings.{recording, write_place_of, Words, bytes_in, Written, Read}
use Rattle.promises.proofs.Calls.{Standing, chan_after, standing_run, standing_new}
use Rattle.promises.proofs.Demand3.{demand3}
use Rattle.promises.proofs.Recordings.{recordings}
use Rattle.promises.proofs.Examples.{computing, half, two, plain, key, press, quiet, init, cells, recorded, since, then}

-- ---- written: the take of two channels, 0.5, 1 and 1, 0.5, to a list one byte longer than its file
abbrev taken : World
taken = since []

abbrev file : List ℕ
file = from_hex "52494646 42000000 57415645 666D7420 12000000 0300 0200 44AC0000 20620500 0800 2000 0000 66616374 04000000 02000000 64617461 10000000 0000003F 0000803F 0000803F 0000003F"

abbrev writes : Call
writes = asks (write_wave 44100 (replicate 75 7))

abbrev wrote : ListOutcome
wrote = record { answer = Ok 74; lent = file ++ (7 ∷ []) }

pub wrote_met : Allows (on taken writes) wrote
unfolding computing filing
wrote_met = (refl, refl)

words : Words taken.memory
unfolding computing filing Each
words = (lit< tt, (lit< tt, (lit< tt, (lit< tt, tt))))

pub written_met : Written taken 44100 (replicate 75 7) wrote
unfolding computing filing
written_met = (recordings taken).written 44100 (replicate 75 7) wrote wrote_met refl (lit< tt) words refl

-- ---- read into parts of three words
abbrev fresh : World
fresh = set_up 2 init others

abbrev lent_front : List ℕ
lent_front = take (bytes_in taken) wrote.lent

abbrev got : ReadOutcome
got = record {
  answer = record { sampler = (after fresh (read_wave file)).sampler; read = Ok 44100 };
  memory = 0x3F000000 ∷ 0x3F800000 ∷ 32 ∷ 0x3F800000 ∷ 0x3F000000 ∷ 42 ∷ 98 ∷ [];
}

pub got_met : Allows (on fresh (read_wave lent_front)) got
unfolding computing filing
got_met = (refl, refl)

pub read_met : Read fresh (left_by fresh (read_wave lent_front) got) 44100 2 written_met.good.samples written_met.words got.answer.read
unfolding computing filing
read_met = (recordings fresh).read lent_front 44100 2 written_met.words written_met.good got got_met refl refl

pub back_met : recording (left_by fresh (read_wave lent_front) got) 1 ≡ recording taken 1
unfolding computing filing
back_met = ((recordings taken).back 44100 (replicate 75 7) wrote wrote_met refl (lit< tt) words refl fresh got got_met refl refl).1 1 (lit< tt)

-- what demand 3 then takes for the recording of each channel, and where the next sample would be written
pub read_recordings : (recording (after fresh (read_wave file)) 0 ≡ 0x3F000000 ∷ 0x3F800000 ∷ [])
    × (recording (after fresh (read_wave file)) 1 ≡ 0x3F800000 ∷ 0x3F000000 ∷ [])
    × (write_place_of (chan (after fresh (read_wave file)) 1).head ≡ 2)
unfolding computing filing
read_recordings = (refl, refl, refl)

-- ---- the numbers, of runs: each where those behind it hold too
abbrev uneven : List Call
uneven = start_recording ∷ sample 0 half plain ∷ sample 1 half plain ∷ sample 1 half plain ∷ []

abbrev no_memory : World → World
no_memory w = record { sampler = w.sampler; memory = [] }

pub write_numbers_met : (code taken (asks (write_wave 0 (replicate 74 7))) ≡ 0)
    × (code taken (asks (write_wave 0 (replicate 73 7))) ≡ 8)
    × (code (run fresh (uneven ++ (stop_recording ∷ []))) (asks (write_wave 0 [])) ≡ 16)
    × (code (run fresh uneven) (asks (write_wave 0 [])) ≡ 15)
    × (code (no_memory (run fresh uneven)) (asks (write_wave 0 [])) ≡ 9)
unfolding computing filing
write_numbers_met = (refl, refl, refl, refl, refl)

pub read_numbers_met : (code fresh (read_wave (stereo 3)) ≡ 0)
    × (code fresh (read_wave (stereo 4)) ≡ 18)
    × (code fresh (read_wave (mono 4)) ≡ 16)
    × (code fresh (read_wave (cut (mono 4))) ≡ 17)
    × (code (run fresh uneven) (read_wave (cut (mono 4))) ≡ 15)
    × (code (no_memory (run fresh uneven)) (read_wave (cut (mono 4))) ≡ 9)
unfolding computing filing
read_numbers_met = (refl, refl, refl, refl, refl, refl)

-- a refused read leaves all as it was
pub refused_met : after taken (read_wave (stereo 3)) ≡ taken
unfolding computing filing
refused_met = refl

-- ---- an empty file: a start is accepted, and no voice is added
abbrev emptied : World
emptied = after taken (read_wave no_samples_lem)

pub empty_met : ((chan emptied 0).head.data_len ≡ 0)
    × ((chan emptied 1).head.data_len ≡ 0)
    × (code emptied (press 60) ≡ 0)
    × (live (chan (after emptied (press 60)) 1) ≡ [])
    × (emptied.memory ≡ taken.memory)
unfolding computing filing
empty_met = (refl, refl, refl, refl, refl)

-- ---- a read moves no voice, whatever is answered
module _ (w : World) (two : length w.sampler.channels ≡ 2) (few : w.sampler.count ≤ 2) (j : ℕ) (h : j < w.sampler.count) where
  read_keeps : (f : List ℕ) → live (chan (after w (read_wave f)) j) ≡ live (chan w j)
  unfolding event call_judged done_to act head_changed_in
  read_keeps f = ap live (chan_after w two few j h (read_wave f)) ∙ go (is_ok (read_judged w.sampler (file_judged f) (length w.memory)))
    where
      go : (b : Bool) → live (act (cond b (changes (Head (Load (held_in (file_judged f)).samples))) idle) (chan w j)) ≡ live (chan w j)
      go true = refl
      go false = refl

-- ---- a voice alone on an empty phrase waits
one_kept : (s : Turning) (vs : List Voice) → length vs ≡ 1 → Rests s (get_or vs 0 none) → kept_of s vs ≡ vs
unfolding kept_of without
one_kept s [] l r = absurd (omega (arith, l))
one_kept s (v ∷ []) l r = ap (λ (u : Voice). cond (s.leaves u) [] (u ∷ [])) r.turns ∙ ap (λ (b : Bool). cond b [] (v ∷ [])) r.stays
one_kept s (v ∷ u ∷ vs) l r = absurd (omega (arith, l))

empty_rests : (p : Params) (x : Float) (m : List ℕ) (c : Channel) (v : Voice) → eqb (moment_at m c v).data_len 0 ≡ true → Rests (turns_in p x m c) v
unfolding turning_of
empty_rests p x m c v e =
    let nothing = turning_none turns_by p (moment_at m c v) (held_at x m c v) e in
    let rests = resting_rests v in
    record {
      turns = ap (λ (s : Turning). s.turn v) nothing ∙ rests.turns;
      stays = ap (λ (s : Turning). s.leaves v) nothing ∙ rests.stays;
      adds = λ out. ap (λ (s : Turning). s.adds out v) nothing ∙ rests.adds out;
    }

sample_keeps : (p : Params) (x : Float) (m : List ℕ) (c : Channel) → Housed c → length (live c) ≡ 1
    → eqb (moment_at m c (get_or (live c) 0 none)).data_len 0 ≡ true → live (act (sounds p x m) c) ≡ live c
unfolding act
sample_keeps p x m c housed l e =
    live_sounded p x m c housed ∙ one_kept (turns_in p x m c) (live c) l (empty_rests p x m c (get_or (live c) 0 none) e)

-- ---- a voice that sounds goes on: its second sample is the second of the new recording, 2 and 0.25 where the old one has 1 and 0.5
abbrev quarter : Float
quarter = fin false 1 (negsuc 1)

abbrev other_file : List ℕ
other_file = from_hex "52494646 42000000 57415645 666D7420 12000000 0300 0200 80BB0000 00DC0500 0800 2000 0000 66616374 04000000 02000000 64617461 10000000 0000803E 00000040 00000040 0000803E"

abbrev other : Call
other = read_wave other_file

abbrev sounding : World
sounding = since (press 60 ∷ quiet plain ∷ [])

sounding_stands : Standing sounding
sounding_stands = standing_run (set_up 2 init cells) (recorded ++ (press 60 ∷ quiet plain ∷ [])) (standing_new 2 init cells)

has_two : 1 < sounding.sampler.count
unfolding computing
has_two = lit< tt

read_kept : (f : List ℕ) → live (chan (after sounding (read_wave f)) 1) ≡ live (chan sounding 1)
read_kept = read_keeps sounding sounding_stands.two sounding_stands.few 1 has_two

pub goes_on_met : (output sounding (quiet plain) 0 ≡ one32)
    × (output sounding (quiet plain) 1 ≡ half)
    × (output (after sounding other) (quiet plain) 0 ≡ two)
    × (output (after sounding other) (quiet plain) 1 ≡ quarter)
    × (live (chan (after sounding other) 1) ≡ live (chan sounding 1))
unfolding computing filing
goes_on_met = (refl, refl, refl, refl, read_kept other_file)

-- on one of a sample, in a file without `fact`, it goes back to that; on an empty one it waits
abbrev shorter : Call
shorter = read_wave (from_hex "52494646 2E000000 57415645 666D7420 12000000 0300 0200 80BB0000 00DC0500 0800 2000 0000 64617461 08000000 00000040 0000803E")

pub shorter_met : (output (after sounding shorter) (quiet plain) 0 ≡ two) × (output (after sounding shorter) (quiet plain) 1 ≡ quarter)
unfolding computing filing
shorter_met = (refl, refl)

abbrev waiting : World
waiting = after sounding (read_wave no_samples_lem)

waited : live (chan (after waiting (quiet plain)) 1) ≡ live (chan waiting 1)
unfolding computing filing
waited =
    let stands = standing_run sounding (read_wave no_samples_lem ∷ []) sounding_stands in
    let c = chan waiting 1 in
    let m = own_part waiting 1 in
    let heard : event waiting (quiet plain) 1 ≡ sounds plain zero32 m = refl in
    ap live (chan_after waiting stands.two stands.few 1 (lit< tt) (quiet plain))
    ∙ ap (λ (e : Event). live (act e c)) heard
    ∙ sample_keeps plain zero32 m c (stands.housing 1 (lit< tt)) refl refl

pub waits_met : (output (after sounding (read_wave no_samples_lem)) (quiet plain) 1 ≡ zero32)
    × (live (chan (run sounding (read_wave no_samples_lem ∷ quiet plain ∷ [])) 1) ≡ live (chan sounding 1))
unfolding computing filing
waits_met = (refl, waited ∙ read_kept no_samples_lem)

-- ---- demand 3 on what was read: a start sounds the file's first sample, in the sample of its count
abbrev part : List ℕ
part = 0x40000000 ∷ 0x3E800000 ∷ []

abbrev replaced : World
replaced = since (other ∷ [])

-- the clock there, before the start and after it
clocked : (chan (after replaced (press 60)) 1).head.now ≡ (chan replaced 1).head.now
unfolding computing filing
clocked =
    let started : (chan (after replaced (press 60)) 1).head.now ≡ 2 = refl in
    let read : (chan replaced 1).head.now ≡ 2 = refl in
    started ∙ sym read

pub on_time_met : FirstIn (after replaced (press 60)) (quiet plain) 1 plain zero32 part 0 (fresh_of plain zero32 (key 60) one32 then)
unfolding computing filing
on_time_met = (demand3 2 init cells refl (recorded ++ (other ∷ [])) 1 (lit< tt)).on_time zero32 (key 60) one32 plain refl refl [] refl (quiet plain) plain zero32 part refl clocked refl refl

pub on_time_terms : terms_with plain zero32 part (chan (after replaced (press 60)) 1) 0 (fresh_of plain zero32 (key 60) one32 then) ≡ two ∷ []
unfolding computing filing terms_of
on_time_terms = refl
