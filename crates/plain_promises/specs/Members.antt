-- Which voices the second engine has (request 9/12), over calls: a voice is told by its place, as demand 3 follows it.
-- Definitions only. Assumes nothing.
use Rattle.std.specs.Prelude.{◌≡◌, ℕ, ◌+◌, ◌^◌, ◌≤◌, ◌<◌, Bool, true, false, not, ◌&&◌, List, [], ◌∷◌, length, get_or, Float}
use Rattle.std.proofs.Math.Option.{Option, none, some}
use Rattle.common_types.specs.declared.Params.{Params}
use Rattle.common_types.specs.declared.Note.{Note}
use Rattle.clip.specs.Positions.{elapsed_at}
use Rattle.clip.specs.Plain.{plain_at}
use Rattle.voice.specs.declared.Voice.{Voice}
use Rattle.plain_voice.specs.declared.Hot.{Hot}
use Rattle.plain_voice.specs.Hots.{cold, plays_plain, hot_after}
use Rattle.channel.specs.declared.Channel.{Channel}
use Rattle.channel.specs.Channels.{live}
use Rattle.plain_sampler.specs.declared.Backing.{Backing}
use Rattle.plain_sampler.specs.Backings.{side_at}
use Rattle.fates.specs.Engine.{born_of, turns_in}
use Rattle.fates.specs.Events.{Event, idle, changes, gathers, sounds, act, is_sample}
use Rattle.fates.specs.Places.{Place, at, gone, voice_at, follow, follow_all}
use Rattle.promises.specs.Runs.{World, Call, start, code, chan, event, events}
use Rattle.promises.specs.Demands.{is_empty}
use Rattle.plain_promises.specs.Backed.{beside_after, beside_run}

-- a value of the second record as every program has it: two sides of 32 positions
pub record Shaped (k : Backing) : Type 0 where
  pub two : length k.sides ≡ 2
  pub places : (j : ℕ) → length (side_at k j).hots ≡ 32

-- the position beside the voice at place n of channel j, and whether the second engine has that voice
abbrev pub hot_in : Backing → ℕ → ℕ → Hot
hot_in k j n = get_or (side_at k j).hots n cold

abbrev pub plain_in : Backing → ℕ → ℕ → Bool
plain_in k j n = (hot_in k j n).plain

-- ---- over events: whether each sample finds the premises met by the voice, where it then stands, after its updates
unfoldable pub held_of : Params → Float → List ℕ → Channel → Option Voice → Bool
held_of p x m c none = true
held_of p x m c (some v) = plays_plain c.head.interpolates ((turns_in p x m c).turn v).clip2 c.head.now

unfoldable pub holds : Event → Channel → ℕ → Bool
holds (sounds p x m) c n = held_of p x m c (voice_at c n)
holds (changes d) c n = true
holds (gathers m) c n = true
holds idle c n = true

abbrev pub there : Place → (ℕ → Bool) → Bool
there (at n) f = f n
there gone f = true

unfoldable pub holds_in : List Event → Channel → ℕ → Bool
holds_in [] c n = true
holds_in (e ∷ es) c n = holds e c n && there (follow e c n) (λ (i : ℕ). holds_in es (act e c) i)

-- ---- of a world w that set-up and calls leave, any value k beside it, and a channel j that there is
pub record Members (w : World) (k : Backing) (j : ℕ) : Type 0 where
  -- "takes every voice that at its start meets 8/12's premises with 7/12's setting off, and no other"
  pub taken_exactly : (position : Float) (note : Note) (velocity : Float) (p : Params)
      → code w (start position note velocity p) ≡ 0 → is_empty (chan w j) ≡ false
      → plain_in (beside_after w (start position note velocity p) k) j (length (live (chan w j)))
      ≡ (not (chan w j).head.interpolates
      && plain_at (born_of p position note velocity (chan w j)).clip2 (chan w j).head.now)
  -- What is no sample of the channel leaves each voice's position, a start too.
  pub left : (c : Call) → is_sample (event w c j) ≡ false
      → (n : ℕ) → n < length (live (chan w j)) → hot_in (beside_after w c k) j n ≡ hot_in k j n
  -- "hands it back to the full engine .. before any change that would break them": in an accepted sample, after the
  -- updates, at an elapsed count below 2^24,
  pub kept_exactly : (s : Call) (p : Params) (x : Float) (m : List ℕ) → event w s j ≡ sounds p x m
      → (n i : ℕ) (v : Voice) → voice_at (chan w j) n ≡ some v → follow (event w s j) (chan w j) n ≡ at i
      → elapsed_at ((turns_in p x m (chan w j)).turn v).clip2 (chan w j).head.now < 2 ^ 24
      → plain_in (beside_after w s k) j i
      ≡ (plain_in k j n && (not (chan w j).head.interpolates
      && plain_at ((turns_in p x m (chan w j)).turn v).clip2 (chan w j).head.now))
  -- "or at elapsed 2^24, and not sooner".
  pub handed_back_at : (s : Call) (p : Params) (x : Float) (m : List ℕ) → event w s j ≡ sounds p x m
      → (n i : ℕ) (v : Voice) → voice_at (chan w j) n ≡ some v → follow (event w s j) (chan w j) n ≡ at i
      → 2 ^ 24 ≤ elapsed_at ((turns_in p x m (chan w j)).turn v).clip2 (chan w j).head.now
      → plain_in (beside_after w s k) j i ≡ false
  -- "keeps the position as a whole number": that of the clip after one sample more
  pub position : (s : Call) (p : Params) (x : Float) (m : List ℕ) → event w s j ≡ sounds p x m
      → (n i : ℕ) (v : Voice) → voice_at (chan w j) n ≡ some v → follow (event w s j) (chan w j) n ≡ at i
      → plain_in (beside_after w s k) j i ≡ true
      → hot_in (beside_after w s k) j i
      ≡ hot_after ((turns_in p x m (chan w j)).turn v).clip2
      (elapsed_at ((turns_in p x m (chan w j)).turn v).clip2 (chan w j).head.now + 1)
  -- Over any calls, wherever the voice is followed to: the second engine has it if and only if it had it and each sample
  -- found the premises met.
  pub throughout : (cs : List Call) (n i : ℕ) (v : Voice) → voice_at (chan w j) n ≡ some v
      → follow_all (events w cs j) (chan w j) n ≡ at i
      → plain_in (beside_run w cs k) j i ≡ (plain_in k j n && holds_in (events w cs j) (chan w j) n)
