-- A song, computed, that meets every premise of `SongHeard`: read from a file, and played by a host that cuts its run at the next entry. Assumes nothing.
use Rattle.std.specs.Prelude.{Ok}
use mathlib.Core.Path.{◌≡◌, refl}
use mathlib.Core.Bool.{true}
use mathlib.Core.List.{List, [], ◌∷◌, ◌++◌, map}
use Prim.Native.Nat.{ℕ, ◌+◌, ◌*◌}
use native.Mathlib.Omega.{arith}
use lib.ListN.{length, take}
use Rattle.binary32.specs.Leaves.{as_float, zero32}
use Rattle.common_types.specs.Notes.{from_u64_of}
use Rattle.octets.proofs.Hex.{from_hex}
use Rattle.smf.specs.Cues.{Entry, song_of, counted_judged, list_of, cue_of}
use Rattle.smf.specs.declared.Cue.{Cue}
use Rattle.smf.proofs.Examples.{computing as reading}
use Rattle.songs.specs.Plays.{cue_call, one_more_refused, cues_of, cues_played, play_of, due_of}
use Rattle.voice.specs.Voices.{fresh_of}
use Rattle.channel.specs.Heads.{moment_of}
use Rattle.channel.specs.Channels.{live}
use Rattle.promises.specs.Runs.{World, set_up, frame, run, chan, one, frames, made, makes}
use Rattle.promises.specs.Demands.{FirstIn}
use Rattle.promises.proofs.Examples.{computing, plain, init, cells, recorded}
use Rattle.song_promises.specs.Songs.{hand_of, hands, Rising}
use Rattle.song_promises.specs.Heard.{HostTurn, Host, host_begins, called, turned_all, InStep, StartHeard}
use Rattle.song_promises.proofs.Heard.{heard}

-- one tick a quarter note: a start at 0; 4 ticks later, at 2 seconds, a stop of that note and a start of another one
abbrev song : List ℕ
song = from_hex "4D546864 00000006 0000 0001 0001 4D54726B 00000010 00 903C7F 04 803C00 00 903E7F 00 FF2F00"

-- at a frame a second, into a list with a place to spare
abbrev lent : List ℕ
lent = 9 ∷ 9 ∷ 9 ∷ 9 ∷ 9 ∷ 9 ∷ 9 ∷ []

read : counted_judged song 1 7 ≡ Ok 3
unfolding reading
read = refl

abbrev list : List ℕ
list = take (2 * 3) (list_of song 1 lent)

-- what stands before the start of the second note, and that start
abbrev stopped : Entry
stopped = record { frame = 2; key = 0x3C00 }

abbrev started : Entry
started = record { frame = 2; key = 0x7F3E00 }

entries : (song_of 1 song).entries ≡ (record { frame = 0; key = 0x7F3C00 } ∷ stopped ∷ []) ++ (started ∷ [])
unfolding reading
entries = refl

abbrev second : Cue
second = cue_of 2 0x7F3E00

starts : second.starts ≡ true
unfolding reading
starts = refl

-- ---- two channels with a recording of two samples each, and a run of two frames: up to the next entry
abbrev ready : World
ready = makes (set_up 2 init cells) (map one recorded)

abbrev quiet : HostTurn
quiet = record { calls = frames (zero32 ∷ zero32 ∷ zero32 ∷ zero32 ∷ []) plain ∷ []; span = 2 }

abbrev host : Host
host = turned_all list plain (host_begins ready) (quiet ∷ [])

in_step : InStep 1 list plain (host_begins ready) (quiet ∷ [])
unfolding computing reading InStep Rising cue_call one_more_refused cues_of cues_played play_of due_of makes made
in_step = (record { clock = refl; some = omega arith; cut = λ _. (omega arith, (omega arith, tt)) }, tt)

there : host.at ≡ 2
unfolding turned_all
there = refl

met : StartHeard ready 1 list plain host second
unfolding computing
met = heard.on_time 2 init cells refl (map one recorded) 1 (omega arith) ready refl song 1 lent 3 read list refl (record { frame = 0; key = 0x7F3C00 } ∷ stopped ∷ []) started [] entries second refl starts plain (quiet ∷ []) in_step there

-- ---- the frame behind it: channel 1's part of the memory holds 1 and 0.5
abbrev part : List ℕ
part = 0x3f80_0000 ∷ 0x3f00_0000 ∷ []

-- the record and the memory as the second start finds them
abbrev found : World
found = run host.world (hands plain (cue_of 2 0x3C00 ∷ []))

in_the_second_frame : FirstIn (called list plain host) (frame (zero32 ∷ zero32 ∷ []) plain) 1 plain zero32 part (length (live (chan found 1)))
    (fresh_of plain (as_float 0) (from_u64_of second.note) second.velocity (moment_of (chan found 1).head))
unfolding computing reading turned_all cue_call one_more_refused cues_of cues_played play_of due_of hand_of makes made
in_the_second_frame = met.sounds (cue_of 2 0x3C00 ∷ []) [] refl found refl refl refl refl (frame (zero32 ∷ zero32 ∷ []) plain) plain zero32 part refl refl

-- its count: that of the song's beginning and 2
in_time : (chan (called list plain host) 1).head.now ≡ (chan ready 1).head.now + 2
unfolding cue_of
in_time = met.count
