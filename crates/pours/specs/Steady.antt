-- When any voice is steady over n samples, plain or not, and what it then sounds (request 9/12, for runs). Definitions
-- only. Assumes nothing.
use Rattle.std.specs.Prelude.{◌≡◌, ℕ, zero, suc, ◌+◌, ◌-◌, ◌^◌, ◌≤◌, ◌<◌, Bool, true, false, not, ◌&&◌, cond, List, Option, IfSome, T, Float, length, get_or}
use Rattle.std.specs.Float.{binary32}
use Rattle.std.specs.Float.Ieee.{add, mul, div, rem, neg, lt, le, is_nan, of_bits}
use Rattle.binary32.specs.Leaves.{zero32, one32, as_float, as_whole, min_of, max_of, abs_of}
use Rattle.common_types.specs.declared.NoteOffBehaviour.{NoteOffBehaviour}
use Rattle.volume.specs.declared.Volume.{Volume}
use Rattle.volume.specs.Levels.{is_static_and_mute_of, level_of, keeps_of}
use Rattle.clip.specs.declared.Clip.{Clip}
use Rattle.clip.specs.declared.Mode.{Mode}
use Rattle.clip.specs.declared.Mode.TheVariants.{Loop, PingPong}
use Rattle.clip.specs.Positions.{two32, mirrored_of, clamped_of, placed_of, clip_to_data_of, travel_at, index_at}
use Rattle.clip.specs.Updates.{same_all}
use Rattle.voice.specs.declared.Voice.{Voice}
use Rattle.voice.specs.declared.Tick.{Tick}
use Rattle.voice.specs.Voices.{over_of}
use Rattle.plain_voice.specs.declared.Hot.{Hot}
use Rattle.pours.specs.declared.Fetched.{Fetched}
use Rattle.pours.specs.declared.Spot.{Spot}
use Rattle.pours.specs.declared.Way.{Way}
use Rattle.pours.specs.declared.Way.TheVariants.{Up, Down, Fold}
use Rattle.pours.specs.Eases.{term_at}
use Rattle.pours.specs.Pours.{judged_on}

-- ---- when it is steady

-- the product of speeds, by which it moves and plays
abbrev pub pace_of : Tick → Voice → Float
pace_of t v = mul binary32 v.speed t.speed

-- a finished voice may go at a sample, by what its note-off behaviour waits for, be it late then or not
abbrev pub may_go : NoteOffBehaviour → Voice → Bool
may_go behavior v = v.finished && over_of behavior (is_static_and_mute_of v.volume) true

-- one of the tick's phrase that stays, whose clip stays as it is, and whose level is steady or still on its way
pub record Steady (t : Tick) (n : ℕ) (v : Voice) : Type 0 where
  pub own : v.phrase ≡ t.phrase
  pub stays : may_go t.note_off_behavior v ≡ false
  pub sharp : t.interpolates ≡ false
  pub same : same_all v.clip2 t.span.length (pace_of t v) t.span.data_length t.mode ≡ true
  pub keeps : (k : ℕ) → k < n → keeps_of v.volume (t.now + k) ≡ true

-- how far it has played k samples on
unfoldable pub played_on : Float → Float → ℕ → Float
played_on by played zero = played
played_on by played (suc k) = add binary32 (played_on by played k) by

-- none of the next n sums reaches the whole length
abbrev pub PlaysBelow : Float → Float → Float → ℕ → Type 0
PlaysBelow played by whole n = (k : ℕ) → k < n → le whole (abs_of (played_on by played (suc k))) ≡ false

-- play-once, if it is so and hasn't ended it before, doesn't end it
abbrev pub Lasts : Tick → ℕ → Voice → Type 0
Lasts t n v =
    (k : ℕ) → k < n
    → (t.once && not v.finished && le t.span.whole_length (abs_of (played_on (pace_of t v) v.played (suc k))))
    ≡ false

-- What the test says: it is steady, over some samples whose times are counted.
pub record SteadyAt (t : Tick) (n : ℕ) (v : Voice) : Type 0 where
  pub steady : Steady t n v
  pub some : 1 ≤ n
  pub few : n ≤ 2 ^ 24
  pub early : t.now ≤ 2 ^ 62

-- ---- what it sounds

-- at a time, by its clip and level
abbrev pub sound_at : List ℕ → Clip → Volume → ℕ → Float
sound_at m c volume now = term_at m (level_of volume now) (index_at c now)

-- what a list has as its k-th, at the volume's level k samples on
abbrev pub leveled : List ℕ → Volume → ℕ → ℕ → Float
leveled values volume now k = term_at values (level_of volume (now + k)) k

-- the level of a ramp that rises so far over so many samples
abbrev pub ramp_by : Float → Float → Float → ℕ → Float
ramp_by over low rise count =
    add binary32 low (mul binary32 rise (min_of (max_of (div binary32 (as_float count) over) zero32) one32))

-- ---- where it is

-- x = shift + count * speed
abbrev pub travel_by : Float → Float → ℕ → Float
travel_by shift speed count = add binary32 shift (mul binary32 (as_float count) speed)

-- from 0 to below 2^23, as offsets are
abbrev pub Low : Float → Type 0
Low x = T (le zero32 x) × T (lt x (of_bits binary32 1258291200))

-- the sample of a place in a clip that begins and ends there, in so much data
abbrev pub spot_of : Float → Float → Float → Float → ℕ
spot_of y start length total = as_whole 64 (rem binary32 (add binary32 start (clamped_of y length)) total)

-- where r tells one it is that of the place, which is a number
abbrev pub Spots : Float → Float → Float → Float → Spot → Type 0
Spots y start length total r = r.told ≡ true → T (not (is_nan y)) × (r.index ≡ spot_of y start length total)

-- the samples of the places that n travels come to stand in the list
abbrev pub TravelledPlaces : Clip → (ℕ → Float) → ℕ → List ℕ → Type 0
TravelledPlaces c travel n values =
    (k : ℕ) → k < n
    → get_or values k 0 ≡ as_whole 64 (clip_to_data_of c (placed_of c.mode (travel k) c.length))

-- by how many samples there were since the clip's last change
abbrev pub CountedPlaces : Clip → ℕ → ℕ → List ℕ → Type 0
CountedPlaces c from n values =
    TravelledPlaces c (λ (k : ℕ). travel_by c.shift c.speed (from + k)) n values

-- by the time
abbrev pub Places : Clip → ℕ → ℕ → List ℕ → Type 0
Places c now n values = TravelledPlaces c (λ (k : ℕ). travel_at c (now + k)) n values

-- ---- within one lap

-- the way of a loop is on or back through it, that of ping-pong there and back
abbrev pub mode_by : Way → Mode
mode_by Up = Loop
mode_by Down = Loop
mode_by Fold = PingPong

-- the size of a travel that goes that way
abbrev pub size_by : Way → Float → Float
size_by Up x = x
size_by Down x = neg x
size_by Fold x = x

-- a lap
abbrev pub period_by : Way → Float → Float
period_by Up length = length
period_by Down length = length
period_by Fold length = mul binary32 two32 length

-- the place of one by what it leaves of a lap, which is above 0
abbrev pub place_by : Way → Float → Float → Float
place_by Up y length = y
place_by Down y length = add binary32 (neg y) length
place_by Fold y length =
    let m = mirrored_of y length in
    cond (lt y length) y (cond (lt m zero32) zero32 m)

-- r isn't above 0; or it is what x leaves, and x is
abbrev pub LeftBy : Float → Float → Float → Type 0
LeftBy x y r = T (lt zero32 r) → T (lt zero32 x) × (r ≡ rem binary32 x y)

-- What fetching promises: what is recorded at each of n samples stands in its place, the index is the last of them, and so
-- often the pace was added to what was played.
pub record Fetches (m : List ℕ) (played by : Float) (n : ℕ) (before after : List ℕ) (r : Fetched) : Type 0 where
  pub size : length after ≡ length before
  pub values : (k : ℕ) → k < n → get_or after k 0 ≡ get_or m (get_or before k 0) 0
  pub index : (k : ℕ) → n ≡ suc k → r.index ≡ get_or before k 0
  pub far : r.played ≡ played_on by played n

-- What gathering promises: what is recorded at each of n samples stands in the list, and the rest is what it is after
-- them, of which none ends the voice.
pub record Gathers (m : List ℕ) (t : Tick) (n : ℕ) (v : Voice) (values : List ℕ) (r : Fetched) : Type 0 where
  pub recorded : (k : ℕ) → k < n → get_or values k 0 ≡ get_or m (index_at v.clip2 (t.now + k)) 0
  pub index : r.index ≡ index_at v.clip2 (t.now + (n - 1))
  pub far : r.played ≡ played_on (pace_of t v) v.played n
  pub lasts : Lasts t n v

-- ---- its position

-- r isn't known; or it is the position after n steady turns
abbrev pub StoodOn : Hot → Tick → ℕ → Voice → Option Hot → Type 0
StoodOn h t n v r =
    IfSome r (λ (p : Hot). (m : List ℕ) → Steady t n v → Lasts t n v → p ≡ judged_on t m n v h)
