-- What stands beside a channel in the plain engine (request 9/12): a position for each voice. Definitions only. Assumes
-- nothing.
use Rattle.std.specs.Prelude.{◌≡◌, ℕ, ◌≤◌, min, cond, List, [], ◌∷◌, ltb, take, get_or, set, replicate, Float}
use Rattle.std.proofs.lemmas.List.Edits.{sets}
use Rattle.std.proofs.Math.Seq.{slice}
use Rattle.binary32.specs.Leaves.{zero32}
use Rattle.common_types.specs.declared.Params.{Params}
use Rattle.voice.specs.declared.Voice.{Voice}
use Rattle.voice.specs.declared.Tick.{Tick}
use Rattle.voice.specs.Voices.{blank_voice}
use Rattle.plain_voice.specs.declared.Hot.{Hot}
use Rattle.plain_voice.specs.declared.Beat.{Beat}
use Rattle.plain_voice.specs.Hots.{cold, hot_at, judged_of, beat_of}
use Rattle.channel.specs.declared.Head.{Head}
use Rattle.channel.specs.declared.Channel.{Channel}
use Rattle.channel.specs.Channels.{live, Turning, turning_in, taken_of, memory_of}
use Rattle.lent_channel.specs.declared.Going.{Going}
use Rattle.lent_channel.specs.Turns.{Onward, Follows}
use Rattle.plain_channel.specs.declared.Pour.{Pour}
use Rattle.plain_channel.specs.declared.Side.{Side}

-- nothing is poured
unfoldable pub no_pour : Pour
no_pour = record { sums = replicate 64 zero32; values = replicate 64 0; eased = 0; next = 0; left = 0 }

-- no voice is plain
unfoldable pub cold_side : Side
cold_side = record { hots = replicate 32 cold; pour = no_pour }

-- other positions beside the same
abbrev pub with_hots : List Hot → Side → Side
with_hots hs k = record { hots = hs; pour = k.pour }

-- ---- a start: the voice at that place is taken, or not
unfoldable pub taken_at : Channel → ℕ → Side → Side
taken_at c at k = cond (ltb at (min c.count 32))
    (with_hots (set k.hots at (hot_at c.head.interpolates (get_or c.voices at blank_voice).clip2 c.head.now)) k)
    k

-- ---- a sample

-- the positions of the voices that stay: each is judged by the clip that its voice has after its turn, and moves up with it
unfoldable pub hots_kept : Turning → Head → List Voice → List Hot → List Hot
hots_kept s t [] hs = []
hots_kept s t (v ∷ vs) [] = []
hots_kept s t (v ∷ vs) (h ∷ hs) =
    let w = s.turn v in
    cond (s.leaves w) (hots_kept s t vs hs)
    (judged_of h t.interpolates w.clip2 t.now ∷ hots_kept s t vs hs)

unfoldable pub side_played : Turning → Channel → Side → Side
side_played s c k = with_hots (sets k.hots 0 (hots_kept s c.head (live c) (take c.count k.hots))) k

-- the voices play once the sample is recorded
unfoldable pub side_after : Params → Float → Channel → List ℕ → Side → Side
side_after p x c m k =
    let d = taken_of m c in
    side_played (turning_in p d (memory_of x c m)) d k

-- ---- turns that stand between the first and the last

-- the positions once those from the next voice to the n-th are taken
unfoldable pub rest_hots : Turning → ℕ → Channel → Side → Going → List Hot
rest_hots s n c k g = sets k.hots g.kept
    (hots_kept s c.head (slice g.place n c.voices) (slice g.place n k.hots))

-- the voice at g's place has taken its turn or rested, after which c and r are: its position is judged if it stayed
unfoldable pub followed_by : Channel → Going → Going → Side → Side
followed_by c g r k = cond (ltb g.kept r.kept)
    (with_hots (set k.hots g.kept (judged_of (get_or k.hots g.place cold) c.head.interpolates
    (get_or c.voices g.kept blank_voice).clip2 c.head.now)) k)
    k

-- from channel c, side k and g to d, l and h turns have gone on: what is left of them gives the same
pub record Together (s : Turning) (n : ℕ) (c : Channel) (k : Side) (g : Going) (d : Channel) (l : Side) (h : Going) : Type 0 where
  pub onward : Onward s n c g d h
  pub same : rest_hots s n d l h ≡ rest_hots s n c k g
  pub pour : l.pour ≡ k.pour

-- turns of voices of the tick's phrase, whatever others do
abbrev pub GoTogether : Tick → List ℕ → ℕ → Channel → Side → Going → Channel → Side → Going → Type 0
GoTogether t m n c k g d l h = (s : Turning) → Follows s t m → Together s n c k g d l h

-- gliding turns: how far they go is left open
pub record GlideTogether (t : Tick) (m : List ℕ) (n : ℕ) (c : Channel) (k : Side) (g : Going) (d : Channel) (l : Side) (h : Going) : Type 0 where
  pub further : g.place ≤ h.place
  pub goes : GoTogether t m n c k g d l h
  pub none : h.place ≡ g.place → (d ≡ c) × (l ≡ k)

-- the tick is the channel's, and b its lengths
pub record Paced (c : Channel) (t : Tick) (b : Beat) : Type 0 where
  pub beat : b ≡ beat_of t
  pub now : t.now ≡ c.head.now
  pub setting : t.interpolates ≡ c.head.interpolates
