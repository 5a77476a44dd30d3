-- Eight phrases a channel (request 11/12), over runs of calls that are computed: each rule on either side of its edge, and runs that meet the premises of each statement. Assumes nothing.
use mathlib.Core.Path.{◌≡◌, refl, sym, ap, ◌∙◌}
use mathlib.Core.Bool.{true, false}
use mathlib.Core.List.{List, [], ◌∷◌, ◌++◌, map}
use Prim.Native.Nat.{ℕ}
use native.Mathlib.Omega.{arith}
use lib.Dec.{lit<}
use lib.IntN.{negsuc}
use lib.Ieee.{Float, fin, fits}
use lib.ListN.{length, get_or, replicate}
use Rattle.walks.specs.Each.{Each}
use Rattle.phrases.specs.declared.Phrase.{Phrase}
use Rattle.binary32.specs.Leaves.{zero32, one32}
use Rattle.common_types.specs.declared.LoopMode.TheVariants as loop
use Rattle.common_types.specs.declared.NoteOffBehaviour.TheVariants as off
use Rattle.voice.specs.declared.Voice.{Voice}
use Rattle.voice.specs.Voices.{blank_voice}
use Rattle.channel.specs.Channels.{live}
use Rattle.channel.specs.Soundness.{FittingChange}
use Rattle.sampler.specs.Soundness.{FittingSampler}
use Rattle.fates.specs.Events.{sounds}
use Rattle.fates.specs.Sounding.{term_of}
use Rattle.recordings.proofs.Examples.{computing as filing, mono}
use Rattle.promises.specs.Runs.{World, Call, stop, start_recording, stop_recording, choose_phrase, delete_phrase, reset, sample, read_wave, gather, set_up, run, after, code, chan, own_part, output, FittingCall, event}
use Rattle.promises.specs.Outcomes.{on, left_by}
use Rattle.promises.specs.Recordings.{write_place_of}
use Rattle.promises.specs.Phrases.{phrase, samples_in, all_phrases, Chosen, Deleted, MovedDown, OthersKept, Behind}
use Rattle.promises.proofs.Outcomes.{settled}
use Rattle.promises.proofs.Whole.{whole}
use Rattle.promises.proofs.Demands.{demands}
use Rattle.promises.proofs.Examples.{computing, half, two, plain, with, key, press, init}

abbrev quarter : Float
quarter = fin false 1 (negsuc 1)

-- ---- one channel of 8 cells: a take on each of the phrases 0, 5 and 3, in that order: 0.5 and 1, then 2, then 0.25 and 0.5
abbrev sampled : List Float → List Call
sampled xs = map (λ (x : Float). sample 0 x plain) xs

abbrev taking : List Float → List Call
taking xs = start_recording ∷ (sampled xs ++ (stop_recording ∷ []))

abbrev fresh : World
fresh = set_up 1 init (replicate 8 0)

abbrev laying : List Call
laying = taking (half ∷ one32 ∷ []) ++ (choose_phrase 5 ∷ (taking (two ∷ []) ++ (choose_phrase 3 ∷ taking (quarter ∷ half ∷ []))))

abbrev laid : List Call → World
laid cs = run fresh (laying ++ cs)

abbrev span : ℕ → ℕ → Phrase
span start length = record { start = start; length = length }

abbrev phrases : World → List Phrase
phrases w = all_phrases w 0

-- those of the numbers 0, 3 and 5, the others being as set-up left them
abbrev with035 : Phrase → Phrase → Phrase → List Phrase
with035 p q r = p ∷ span 0 0 ∷ span 0 0 ∷ q ∷ span 0 0 ∷ r ∷ span 0 0 ∷ span 0 0 ∷ []

abbrev as_laid : List Phrase
as_laid = with035 (span 0 2) (span 3 2) (span 2 1)

-- each begins behind the others
pub laid_met : (phrases (laid []) ≡ as_laid)
    × (own_part (laid []) 0 ≡ 0x3F000000 ∷ 0x3F800000 ∷ 0x40000000 ∷ 0x3E800000 ∷ 0x3F000000 ∷ 0 ∷ 0 ∷ 0 ∷ [])
    × (map (samples_in (laid []) 0) (0 ∷ 3 ∷ 5 ∷ []) ≡ (0x3F000000 ∷ 0x3F800000 ∷ []) ∷ (0x3E800000 ∷ 0x3F000000 ∷ []) ∷ (0x40000000 ∷ []) ∷ [])
unfolding computing
laid_met = (refl, refl, refl)

-- ---- rows 19, 20 and 21, with row 9 before them
abbrev codes : World → List Call → List ℕ
codes w cs = map (code w) cs

pub numbers_judged : codes (laid []) (choose_phrase 7 ∷ choose_phrase 8 ∷ delete_phrase 7 ∷ delete_phrase 8 ∷ []) ≡ 0 ∷ 19 ∷ 0 ∷ 19 ∷ []
unfolding computing
numbers_judged = refl

-- while phrase 3 is recorded: another choice, the same one, a gather; a delete of it and of another; a number past the last is told first
abbrev recording : List Call
recording = start_recording ∷ []

pub recording_judged : codes (laid recording) (choose_phrase 5 ∷ choose_phrase 3 ∷ gather ∷ delete_phrase 3 ∷ delete_phrase 5 ∷ choose_phrase 8 ∷ delete_phrase 8 ∷ []) ≡ 21 ∷ 0 ∷ 21 ∷ 20 ∷ 0 ∷ 19 ∷ 19 ∷ []
unfolding computing
recording_judged = refl

-- and once it is stopped
pub stopped_judged : codes (laid (recording ++ (stop_recording ∷ []))) (choose_phrase 5 ∷ gather ∷ delete_phrase 3 ∷ []) ≡ 0 ∷ 0 ∷ 0 ∷ []
unfolding computing
stopped_judged = refl

-- a voice has phrase 3, sounding, then finished with a decay of two samples; the others are free, and it is once the voice has left
abbrev ending : ℕ → List Call
ending n = press 60 ∷ stop (key 60) (with 2 loop.Loop off.Decay) ∷ replicate n (sample 0 zero32 (with 2 loop.Loop off.Decay))

pub used_judged : (codes (laid (press 60 ∷ [])) (delete_phrase 3 ∷ delete_phrase 0 ∷ delete_phrase 5 ∷ []) ≡ 20 ∷ 0 ∷ 0 ∷ [])
    × (map (λ (v : Voice). v.finished) (live (chan (laid (ending 1)) 0)) ≡ true ∷ [])
    × (codes (laid (ending 1)) (delete_phrase 3 ∷ delete_phrase 0 ∷ []) ≡ 20 ∷ 0 ∷ [])
    × (live (chan (laid (ending 4)) 0) ≡ [])
    × (code (laid (ending 4)) (delete_phrase 3) ≡ 0)
unfolding computing
used_judged = (refl, refl, refl, refl, refl)

-- choice and delete act on all channels or none: of two, the second alone still has a voice
abbrev paired : List Call → World
paired cs = run (set_up 2 init (replicate 4 0)) ((start_recording ∷ sample 0 half plain ∷ sample 1 one32 plain ∷ stop_recording ∷ press 60 ∷ stop (key 60) plain ∷ []) ++ cs)

pub either_judged : (map (λ (j : ℕ). length (live (chan (paired (sample 0 zero32 plain ∷ [])) j))) (0 ∷ 1 ∷ []) ≡ 0 ∷ 1 ∷ [])
    × (code (paired (sample 0 zero32 plain ∷ [])) (delete_phrase 0) ≡ 20)
    × (code (paired (sample 0 zero32 plain ∷ sample 1 zero32 plain ∷ [])) (delete_phrase 0) ≡ 0)
unfolding computing
either_judged = (refl, refl, refl)

-- on a broken record all are answered with 9, and a gather on a memory that is short
pub broken_judged : (codes (set_up 3 init []) (choose_phrase 8 ∷ delete_phrase 8 ∷ gather ∷ []) ≡ 9 ∷ 9 ∷ 9 ∷ [])
    × (codes (record { sampler = (laid recording).sampler; memory = replicate 7 0 }) (gather ∷ choose_phrase 5 ∷ []) ≡ 9 ∷ 21 ∷ [])
unfolding computing
broken_judged = (refl, refl)

-- ---- a choice moves nothing, and puts the write place at the end of the chosen phrase's data
abbrev chosen_at : World → List ℕ
chosen_at w = (chan w 0).head.chosen ∷ (chan w 0).head.data_len ∷ write_place_of (chan w 0).head ∷ []

pub chosen_met : (map (λ (k : ℕ). chosen_at (laid (choose_phrase k ∷ []))) (0 ∷ 5 ∷ 3 ∷ 7 ∷ []) ≡ (0 ∷ 2 ∷ 2 ∷ []) ∷ (5 ∷ 1 ∷ 1 ∷ []) ∷ (3 ∷ 2 ∷ 2 ∷ []) ∷ (7 ∷ 0 ∷ 0 ∷ []) ∷ [])
    × (phrases (laid (choose_phrase 0 ∷ choose_phrase 7 ∷ [])) ≡ as_laid)
unfolding computing
chosen_met = (refl, refl)

-- ---- recording over a phrase that isn't last: phrase 0's two samples are replaced, and a third is dropped and counted
abbrev over0 : List Float → List Call
over0 xs = choose_phrase 0 ∷ start_recording ∷ sampled xs

abbrev counted : World → ℕ
counted w = (chan w 0).head.recorder.skipped_samples

pub over_met : (phrases (laid (over0 (two ∷ two ∷ one32 ∷ []))) ≡ as_laid)
    × (own_part (laid (over0 (two ∷ two ∷ one32 ∷ []))) 0 ≡ 0x40000000 ∷ 0x40000000 ∷ 0x40000000 ∷ 0x3E800000 ∷ 0x3F000000 ∷ 0 ∷ 0 ∷ 0 ∷ [])
unfolding computing
over_met = (refl, refl)

pub over_counted : map counted (laid (over0 (two ∷ two ∷ [])) ∷ laid (over0 (two ∷ two ∷ one32 ∷ [])) ∷ []) ≡ 0 ∷ 1 ∷ []
unfolding computing
over_counted = refl

-- a stop cuts it to the write place, as before
pub cut_met : phrases (laid (over0 (two ∷ []) ++ (stop_recording ∷ []))) ≡ with035 (span 0 1) (span 3 2) (span 2 1)
unfolding computing
cut_met = refl

-- a delete makes it last: with one of the two others gone the sample is dropped, with both it lengthens phrase 0
abbrev freed : List ℕ → World
freed ks = laid (over0 (two ∷ two ∷ []) ++ (map delete_phrase ks ++ sampled (one32 ∷ [])))

pub last_met : (map counted (freed (3 ∷ []) ∷ freed (5 ∷ []) ∷ freed (3 ∷ 5 ∷ []) ∷ []) ≡ 1 ∷ 1 ∷ 0 ∷ [])
    × (phrases (freed (5 ∷ [])) ≡ with035 (span 0 2) (span 3 2) (span 2 0))
    × (phrases (freed (3 ∷ 5 ∷ [])) ≡ with035 (span 0 3) (span 3 0) (span 2 0))
    × (samples_in (freed (3 ∷ 5 ∷ [])) 0 0 ≡ 0x40000000 ∷ 0x40000000 ∷ 0x3F800000 ∷ [])
unfolding computing
last_met = (refl, refl, refl, refl)

-- phrase 3 is last by its place, though 5 has the larger number
pub last_by_place : (phrases (laid (start_recording ∷ sampled (one32 ∷ one32 ∷ one32 ∷ []))) ≡ with035 (span 0 2) (span 3 3) (span 2 1))
    × (phrases (laid (choose_phrase 5 ∷ start_recording ∷ sampled (one32 ∷ one32 ∷ []))) ≡ as_laid)
unfolding computing
last_by_place = (refl, refl)

-- ---- where an empty phrase begins: behind the others, also one that was emptied, and while it is recorded no start moves it; where they leave no room, at the capacity's end, and every sample is dropped and counted
abbrev full : List Call
full = choose_phrase 1 ∷ (taking (one32 ∷ one32 ∷ one32 ∷ []) ++ (choose_phrase 2 ∷ start_recording ∷ []))

pub begins_met : (phrase (laid (choose_phrase 7 ∷ start_recording ∷ [])) 0 7 ≡ span 5 0)
    × (phrase (laid (delete_phrase 0 ∷ choose_phrase 0 ∷ [])) 0 0 ≡ span 0 0)
    × (phrase (laid (delete_phrase 0 ∷ choose_phrase 0 ∷ start_recording ∷ [])) 0 0 ≡ span 5 0)
    × (phrase (laid (choose_phrase 7 ∷ start_recording ∷ delete_phrase 3 ∷ start_recording ∷ [])) 0 7 ≡ span 5 0)
    × (phrase (laid (full ++ sampled (one32 ∷ []))) 0 2 ≡ span 8 0)
    × (map counted (laid full ∷ laid (full ++ sampled (one32 ∷ [])) ∷ []) ≡ 0 ∷ 1 ∷ [])
unfolding computing
begins_met = (refl, refl, refl, refl, refl, refl)

-- ---- gathered: with phrase 0 gone, 5 goes before 3, as they lie; the words behind them are as they were, and an empty phrase stays where it is
abbrev gathered : List Call → World
gathered cs = laid (cs ++ (gather ∷ []))

pub gather_met : (phrases (gathered (delete_phrase 0 ∷ [])) ≡ with035 (span 0 0) (span 1 2) (span 0 1))
    × (own_part (gathered (delete_phrase 0 ∷ [])) 0 ≡ 0x40000000 ∷ 0x3E800000 ∷ 0x3F000000 ∷ 0x3E800000 ∷ 0x3F000000 ∷ 0 ∷ 0 ∷ 0 ∷ [])
    × (phrases (gathered (delete_phrase 5 ∷ [])) ≡ with035 (span 0 2) (span 2 2) (span 2 0))
unfolding computing
gather_met = (refl, refl, refl)

-- where nothing is free before them, or no more is, nothing moves
pub gather_still : (phrases (gathered []) ≡ as_laid)
    × (own_part (gathered []) 0 ≡ 0x3F000000 ∷ 0x3F800000 ∷ 0x40000000 ∷ 0x3E800000 ∷ 0x3F000000 ∷ 0 ∷ 0 ∷ 0 ∷ [])
    × (phrases (gathered (delete_phrase 0 ∷ gather ∷ [])) ≡ with035 (span 0 0) (span 1 2) (span 0 1))
    × (own_part (gathered (delete_phrase 0 ∷ gather ∷ [])) 0 ≡ 0x40000000 ∷ 0x3E800000 ∷ 0x3F000000 ∷ 0x3E800000 ∷ 0x3F000000 ∷ 0 ∷ 0 ∷ 0 ∷ [])
unfolding computing
gather_still = (refl, refl, refl, refl)

-- so a take may have all the room that the others leave
pub gather_frees : (phrase (laid (delete_phrase 0 ∷ choose_phrase 7 ∷ start_recording ∷ sampled (replicate 6 one32))) 0 7 ≡ span 5 3)
    × (phrase (gathered (delete_phrase 0 ∷ choose_phrase 7 ∷ [])) 0 7 ≡ span 0 0)
    × (phrase (laid (delete_phrase 0 ∷ gather ∷ choose_phrase 7 ∷ start_recording ∷ sampled (replicate 6 one32))) 0 7 ≡ span 3 5)
unfolding computing
gather_frees = (refl, refl, refl)

-- ---- a voice keeps its phrase: started on 0, it sounds on after a choice, and after a gather below it
abbrev sounding : World → List Float
sounding w = output w (sample 0 zero32 plain) 0 ∷ output (after w (sample 0 zero32 plain)) (sample 0 zero32 plain) 0 ∷ []

abbrev first : World → Voice
first w = get_or (live (chan w 0)) 0 blank_voice

pub sounds_on_met : (sounding (laid (choose_phrase 0 ∷ press 60 ∷ [])) ≡ half ∷ one32 ∷ [])
    × (sounding (laid (choose_phrase 0 ∷ press 60 ∷ choose_phrase 5 ∷ [])) ≡ half ∷ one32 ∷ [])
    × (term_of plain zero32 (own_part (laid []) 0) (chan (laid (choose_phrase 0 ∷ press 60 ∷ choose_phrase 5 ∷ [])) 0) (first (laid (choose_phrase 0 ∷ press 60 ∷ choose_phrase 5 ∷ []))) ≡ half)
    × (sounding (laid (press 60 ∷ [])) ≡ quarter ∷ half ∷ [])
    × (sounding (laid (press 60 ∷ delete_phrase 0 ∷ gather ∷ [])) ≡ quarter ∷ half ∷ [])
    × (map (λ (v : Voice). v.phrase) (live (chan (laid (choose_phrase 0 ∷ press 60 ∷ choose_phrase 5 ∷ press 61 ∷ [])) 0)) ≡ 0 ∷ 5 ∷ [])
unfolding computing
sounds_on_met = (refl, refl, refl, refl, refl, refl)

-- ---- row 18: a read may fill the room up to the next phrase, one sample of phrase 5 and two of phrase 0, and behind the others the rest of the capacity
abbrev reads : List Call → List ℕ → List ℕ
reads cs ns = map (λ (n : ℕ). code (laid cs) (read_wave (mono n))) ns

pub room_judged : (reads (choose_phrase 5 ∷ []) (1 ∷ 2 ∷ []) ≡ 0 ∷ 18 ∷ [])
    × (reads (choose_phrase 0 ∷ []) (2 ∷ 3 ∷ []) ≡ 0 ∷ 18 ∷ [])
    × (reads [] (5 ∷ 6 ∷ []) ≡ 0 ∷ 18 ∷ [])
    × (reads (choose_phrase 7 ∷ []) (3 ∷ 4 ∷ []) ≡ 0 ∷ 18 ∷ [])
    × (reads (delete_phrase 3 ∷ choose_phrase 5 ∷ []) (6 ∷ 7 ∷ []) ≡ 0 ∷ 18 ∷ [])
unfolding computing filing
room_judged = (refl, refl, refl, refl, refl)

-- what is read stands where the phrase begins, and the others are as they were
pub read_met : (phrases (laid (choose_phrase 7 ∷ read_wave (mono 2) ∷ [])) ≡ span 0 2 ∷ span 0 0 ∷ span 0 0 ∷ span 3 2 ∷ span 0 0 ∷ span 2 1 ∷ span 0 0 ∷ span 5 2 ∷ [])
    × (own_part (laid (choose_phrase 7 ∷ read_wave (mono 2) ∷ [])) 0 ≡ 0x3F000000 ∷ 0x3F800000 ∷ 0x40000000 ∷ 0x3E800000 ∷ 0x3F000000 ∷ 5 ∷ 5 ∷ 0 ∷ [])
    × (own_part (laid (choose_phrase 0 ∷ read_wave (mono 1) ∷ [])) 0 ≡ 5 ∷ 0x3F800000 ∷ 0x40000000 ∷ 0x3E800000 ∷ 0x3F000000 ∷ 0 ∷ 0 ∷ 0 ∷ [])
unfolding computing filing
read_met = (refl, refl, refl)

-- ---- row 5 counts voices of any phrase, where the chosen one isn't empty; a reset leaves phrase 0 chosen, and all empty
abbrev crowded : List Call
crowded = replicate 16 (press 60) ++ (choose_phrase 5 ∷ replicate 16 (press 60))

pub crowded_judged : (code (laid crowded) (press 60) ≡ 5) × (code (laid (crowded ++ (choose_phrase 7 ∷ []))) (press 60) ≡ 0)
unfolding computing
crowded_judged = (refl, refl)

pub reset_met : (phrases (laid (reset ∷ [])) ≡ replicate 8 (span 0 0)) × ((chan (laid (reset ∷ [])) 0).head.chosen ≡ 0)
unfolding computing
reset_met = (refl, refl)

-- ---- the statements, met

-- each record of these runs fits, as every one of a program does
laying_fits : (cs : List Call) → Each FittingCall cs → Each FittingCall (laying ++ cs)
unfolding Each FittingCall FittingChange fits
laying_fits cs f = (tt, (tt, (tt, (tt, (tt, (tt, (tt, (tt, (tt, (tt, (tt, (tt, (tt, f)))))))))))))

laid_fits : (cs : List Call) → Each FittingCall cs → FittingSampler (laid cs).sampler
unfolding computing
laid_fits cs f = (whole 1 init (replicate 8 0) refl (laying ++ cs) (laying_fits cs f)).fitting

abbrev leaves : World → Call → World
leaves w c = left_by w c (settled (on w c)).outcome

pub choice_met : Chosen (laid []) (leaves (laid []) (choose_phrase 5)) 0 5
unfolding computing Each FittingCall FittingChange fits
choice_met = let r = settled (on (laid []) (choose_phrase 5)) in (demands.phrases (laid [])).choice 5 r.outcome r.allowed refl (laid_fits [] tt) 0 (lit< tt)

pub delete_met : Deleted (laid []) (leaves (laid []) (delete_phrase 5)) 0 5
unfolding computing Each FittingCall FittingChange fits
delete_met = let r = settled (on (laid []) (delete_phrase 5)) in (demands.phrases (laid [])).delete 5 r.outcome r.allowed refl (laid_fits [] tt) 0 (lit< tt)

pub gathering_met : MovedDown (laid (delete_phrase 0 ∷ [])) (leaves (laid (delete_phrase 0 ∷ [])) gather) 0
unfolding computing Each FittingCall FittingChange fits
gathering_met = let r = settled (on (laid (delete_phrase 0 ∷ [])) gather) in (demands.phrases (laid (delete_phrase 0 ∷ []))).gathering r.outcome r.allowed refl (laid_fits (delete_phrase 0 ∷ []) (tt, tt)) 0 (lit< tt)

pub behind_met : Behind (laid (choose_phrase 7 ∷ [])) 0 (phrase (leaves (laid (choose_phrase 7 ∷ [])) start_recording) 0 7).start
unfolding computing Each FittingCall FittingChange fits
behind_met = let r = settled (on (laid (choose_phrase 7 ∷ [])) start_recording) in (demands.phrases (laid (choose_phrase 7 ∷ []))).begins r.outcome r.allowed refl (laid_fits (choose_phrase 7 ∷ []) (tt, tt)) 0 (lit< tt) refl refl

-- what is heard over a phrase is what was laid
over_heard : event (laid (over0 [])) (sample 0 two plain) 0 ≡ sounds plain two (own_part (laid []) 0)
unfolding computing
over_heard =
    let heard : event (laid (over0 [])) (sample 0 two plain) 0 ≡ sounds plain two (own_part (laid (over0 [])) 0) = refl in
    let same : own_part (laid (over0 [])) 0 ≡ 0x3F000000 ∷ 0x3F800000 ∷ 0x40000000 ∷ 0x3E800000 ∷ 0x3F000000 ∷ 0 ∷ 0 ∷ 0 ∷ [] = refl in
    heard ∙ ap (sounds plain two) (same ∙ sym laid_met.1)

pub apart_met : OthersKept (laid (over0 [])) (leaves (laid (over0 [])) (sample 0 two plain)) 0
unfolding computing Each FittingCall FittingChange fits
apart_met =
    let r = settled (on (laid (over0 [])) (sample 0 two plain)) in
    (demands.phrases (laid (over0 []))).sample_apart (sample 0 two plain) r.outcome r.allowed (laid_fits (over0 []) (tt, (tt, tt))) 0 (lit< tt) plain two (own_part (laid []) 0) over_heard

pub not_lengthened_met : (phrase (leaves (laid (over0 (two ∷ two ∷ []))) (sample 0 two plain)) 0 0).length ≡ 2
unfolding computing Each FittingCall FittingChange fits
not_lengthened_met =
    let w = laid (over0 (two ∷ two ∷ [])) in
    let r = settled (on w (sample 0 two plain)) in
    (demands.phrases w).not_lengthened (sample 0 two plain) r.outcome r.allowed (laid_fits (over0 (two ∷ two ∷ [])) (tt, (tt, (tt, (tt, tt))))) 0 (lit< tt) plain two (own_part w 0) refl 3 (lit< tt) (λ e. omega arith) (λ e. omega arith) (lit< tt)
