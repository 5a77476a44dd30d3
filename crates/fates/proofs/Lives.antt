-- The voices that there are after each event, and that the 32 places stay. Assumes nothing.
use mathlib.Core.Path.{◌≡◌, refl, sym}
use mathlib.Core.Bool.{Bool, true, false, not, ◌||◌, cond}
use mathlib.Core.List.{List, [], ◌∷◌, ◌++◌, map, append-nil}
use Prim.Native.Nat.{ℕ, ◌+◌, ◌≤◌}
use native.Mathlib.Numerals.{add-one}
use native.Mathlib.Omega.{arith}
use borrow.Author.Tests.{ltb-true}
use lib.Dec.{eqb, ltb}
use lib.ListN.{length, set, length-map}
use lib.Seq.{take-suc-set, length-take-le}
use lib.Ieee.{Float}
use Rattle.walks.proofs.Lists.Each.{fewer, front_sets, front_map}
use Rattle.common_types.specs.declared.Params.{Params}
use Rattle.common_types.specs.declared.Note.{Note}
use Rattle.voice.specs.declared.Voice.{Voice}
use Rattle.channel.specs.declared.Channel.{Channel}
use Rattle.channel.specs.Channels.{
  live,
  with_voices,
  handled_of,
  pushed_of,
  sped_of,
  set_note_speed_of,
  Turning,
  kept_of,
  played_of,
  taken_of,
}
use Rattle.channel.specs.declared.Change.TheVariants as change
use Rattle.fates.specs.Engine.{born_of, begun_of, turns_in, step_of}
use Rattle.fates.specs.Events.{changes}
use Rattle.fates.specs.Places.{Housed, added_by}

pub live_length : (c : Channel) → Housed c → length (live c) ≡ c.count
live_length c h = length-take-le c.count c.voices (omega (arith, h.places, h.room))

-- ---- a start
pub live_started : (p : Params) (position : Float) (note : Note) (velocity : Float) (c : Channel) → Housed c
    → live (begun_of p position note velocity c) ≡ live c ++ added_by (changes (change.Start p position note velocity)) c
unfolding begun_of handled_of pushed_of added_by
live_started p position note velocity c h = go (eqb c.head.data_len 0) (ltb c.count 32) refl
  where
    v : Voice
    v = born_of p position note velocity c

    go : (a b : Bool) → ltb c.count 32 ≡ b
        → live (cond a c (handled_of p (cond b (with_voices (set c.voices c.count v) (c.count + 1) c) c))) ≡ live c ++ cond (a || not b) [] (v ∷ [])
    go true b e = sym (append-nil (live c))
    go false true e = rw (add-one c.count) (take-suc-set c.voices c.count v (omega (arith, h.places, ltb-true c.count 32 e)))
    go false false e = sym (append-nil (live c))

-- ---- note speed
pub live_sped : (note : Note) (speed : Float) (c : Channel) → Housed c → live (set_note_speed_of note speed c) ≡ map (sped_of note speed) (live c)
unfolding set_note_speed_of
live_sped note speed c h = front_map (sped_of note speed) c.voices c.count (omega (arith, h.places, h.room))

-- ---- a sample
pub left_length : (s : Turning) (vs : List Voice) → length (kept_of s vs) ≤ length vs
unfolding kept_of
left_length s vs = omega (arith, fewer s.leaves (map s.turn vs), length-map vs s.turn)

live_turned : (s : Turning) (c : Channel) → Housed c → live (played_of s c).channel ≡ kept_of s (live c)
unfolding played_of
live_turned s c h = front_sets c.voices (kept_of s (live c)) (omega (arith, left_length s (live c), live_length c h, h.places, h.room))

pub live_sounded : (p : Params) (x : Float) (m : List ℕ) (c : Channel) → Housed c → live (step_of p x c m).channel ≡ kept_of (turns_in p x m c) (live c)
unfolding step_of taken_of
live_sounded p x m c h = live_turned (turns_in p x m c) (taken_of m c) (record { places = h.places; room = h.room })
