-- Calls, computed, that meet the premises of `Members`, on either side of each edge. Assumes nothing.
use mathlib.Core.Path.{◌≡◌, refl}
use mathlib.Core.Bool.{Bool, true, false}
use mathlib.Core.List.{List, [], ◌∷◌, map}
use Prim.Native.Nat.{ℕ, ◌+◌, ◌-◌, ◌^◌}
use Rattle.binary32.specs.Leaves.{zero32, one32}
use Rattle.binary32.specs.Wholes.{is_whole_in}
use Rattle.common_types.specs.declared.Params.{Params}
use Rattle.clip.specs.Plain.{is_plain}
use Rattle.plain_voice.specs.declared.Hot.{Hot}
use Rattle.plain_voice.specs.Hots.{cold, plays_plain, hot_after, hot_at, judged_of}
use Rattle.channel.specs.declared.Head.{Head}
use Rattle.channel.specs.Channels.{with_head}
use Rattle.plain_channel.specs.Sides.{cold_side, taken_at, hots_kept, side_played, side_after}
use Rattle.sampler.specs.Samplers.{with_channels}
use Rattle.plain_sampler.specs.declared.Backing.{Backing}
use Rattle.plain_sampler.specs.Backings.{cold_backing, change_backing, side_stepped, sample_backing, entries_backing, frame_backing}
use Rattle.promises.specs.Runs.{World, Call, set_up, run, chan, start, stop, sample, set_interpolation}
use Rattle.promises.proofs.Examples.{computing, two, plain, key, press, quiet, init, cells, recorded}
use Rattle.plain_promises.specs.Backed.{beside_after, beside_run}
use Rattle.plain_promises.specs.Members.{hot_in, plain_in}

-- whatever is computed beside the record
unfoldable beside : Unit {0}
unfolding is_whole_in is_plain cold plays_plain hot_after hot_at judged_of cold_side taken_at hots_kept side_played side_after cold_backing change_backing side_stepped sample_backing entries_backing frame_backing beside_after beside_run
beside = tt

-- two channels with a recording of two samples each, and what calls leave beside them
abbrev ready : World
ready = run (set_up 2 init cells) recorded

abbrev after : List Call → Backing
after cs = beside_run ready cs cold_backing

abbrev plain_after : List (List Call) → List Bool
plain_after css = map (λ (cs : List Call). plain_in (after cs) 0 0) css

-- ---- which voices are taken: at speed 1, and not at speed 2, nor with 7/12's setting on
abbrev fast : Params
fast = record {
  attack_samples = plain.attack_samples;
  decay_samples = plain.decay_samples;
  transport = plain.transport;
  loop_length = plain.loop_length;
  speed = two;
  reverse_speed = plain.reverse_speed;
  volume = plain.volume;
  auto_passthru = plain.auto_passthru;
  loop_mode = plain.loop_mode;
  note_off_behavior = plain.note_off_behavior;
}

pub taken_or_not : plain_after ((press 60 ∷ []) ∷ (start zero32 (key 60) one32 fast ∷ []) ∷ (set_interpolation true ∷ press 60 ∷ []) ∷ []) ≡ true ∷ false ∷ false ∷ []
unfolding computing beside
taken_or_not = refl

-- a sample at speed 2 hands it back, and so does the setting; back at speed 1 it stays with the full engine
pub handed_back :
    plain_after ((press 60 ∷ quiet plain ∷ []) ∷ (press 60 ∷ quiet fast ∷ []) ∷ (press 60 ∷ set_interpolation true ∷ quiet plain ∷ []) ∷ (press 60 ∷ quiet fast ∷ quiet plain ∷ []) ∷ [])
    ≡ true ∷ false ∷ false ∷ false ∷ []
unfolding computing beside
handed_back = refl

-- ---- where it stands: after one sample at the second, after two at the first of the second lap
abbrev stands : ℕ → ℕ → Hot
stands place lap = record { place = place; lap = lap; start = 0; plain = true }

pub moves_by_one : map (λ (cs : List Call). hot_in (after cs) 1 0) ((press 60 ∷ []) ∷ (press 60 ∷ quiet plain ∷ []) ∷ (press 60 ∷ quiet plain ∷ quiet plain ∷ []) ∷ []) ≡ stands 0 0 ∷ stands 1 0 ∷ stands 0 1 ∷ []
unfolding computing beside
moves_by_one = refl

-- as the voice before it leaves, it moves up with its voice
pub moves_up : hot_in (after (press 60 ∷ quiet plain ∷ press 61 ∷ stop (key 60) plain ∷ quiet plain ∷ [])) 0 0 ≡ stands 1 0
unfolding computing beside
moves_up = refl

-- ---- "or at elapsed 2^24, and not sooner": the voice started at count 2, and channel 0's clock stands at n
abbrev timed : ℕ → Head → Head
timed n h = record { now = n; data_len = h.data_len; start = h.start; passthru_volume = h.passthru_volume; recorder = h.recorder; passthru_on = h.passthru_on; interpolates = h.interpolates; chosen = h.chosen }

abbrev playing : World
playing = run ready (press 60 ∷ [])

abbrev later : ℕ → World
later n = record { sampler = with_channels (with_head (timed n (chan playing 0).head) (chan playing 0) ∷ chan playing 1 ∷ []) playing.sampler; memory = playing.memory }

pub at_the_end : map (λ (n : ℕ). hot_in (beside_after (later n) (sample 0 zero32 plain) (after (press 60 ∷ []))) 0 0) ((2 + 2 ^ 24 - 1) ∷ (2 + 2 ^ 24) ∷ []) ≡ stands 0 (2 ^ 23) ∷ cold ∷ []
unfolding computing beside
at_the_end = refl
