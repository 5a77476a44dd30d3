-- In a run of frames the first voices of a channel may be some samples ahead of it, each poured into the sums of these
-- samples, and the others play behind them. Definitions only. Assumes nothing.
use Rattle.std.specs.Prelude.{◌≡◌, ℕ, ◌+◌, ◌-◌, ◌%◌, ◌≤◌, ◌<◌, min, Bool, true, false, not, ◌&&◌, cond, List, [], ◌∷◌, ◌++◌, map, eqb, ltb, leb, take, drop, get_or, Float}
use Rattle.std.specs.Float.{binary32}
use Rattle.std.specs.Float.Ieee.{add}
use Rattle.binary32.specs.Leaves.{zero32}
use Rattle.std.specs.List.{fold}
use Rattle.common_types.specs.declared.Params.{Params}
use Rattle.phrases.specs.Phrases.{stored_in}
use Rattle.recorder.specs.Recording.{is_recording_of}
use Rattle.voice.specs.declared.Voice.{Voice}
use Rattle.voice.specs.declared.Tick.{Tick}
use Rattle.voice.specs.Voices.{tick_of, blank_voice}
use Rattle.plain_voice.specs.declared.Hot.{Hot}
use Rattle.pours.specs.Pours.{turns_of, GlidesOn, judged_on}
use Rattle.channel.specs.declared.Head.{Head}
use Rattle.channel.specs.declared.Channel.{Channel}
use Rattle.channel.specs.declared.Played.{Played}
use Rattle.channel.specs.Heads.{last_time, closed_of, mixed_of}
use Rattle.channel.specs.Channels.{with_head, with_voices, any_unfinished_of, phrase_at, moment_for, turning_in, taken_of, memory_of, process_sample_of}
use Rattle.lent_channel.specs.declared.Heard.{Heard}
use Rattle.lent_channel.specs.Turns.{glided_to, rest_of, heard_of}
use Rattle.plain_channel.specs.declared.Side.{Side}
use Rattle.plain_channel.specs.Sides.{no_pour, with_hots, rest_hots, side_after}

-- ---- what a voice goes by in the next sample
abbrev pub tick_in : Params → Channel → Voice → Tick
tick_in p c v = tick_of p (moment_for c v.phrase)

abbrev pub recording_held : List ℕ → Channel → Voice → List ℕ
recording_held m c v = stored_in (phrase_at c v.phrase) m

-- ---- n samples ahead

-- a voice, and its position
abbrev pub on_by : Params → List ℕ → Channel → ℕ → Voice → Voice
on_by p m c n v = turns_of (tick_in p c v) (recording_held m c v) n v

abbrev pub hot_on_by : Params → List ℕ → Channel → ℕ → Voice → Hot → Hot
hot_on_by p m c n v h = judged_on (tick_in p c v) (recording_held m c v) n v h

-- the channel with its first e voices
unfoldable pub ahead_of : Params → List ℕ → ℕ → ℕ → Channel → Channel
ahead_of p m e n c = with_voices (map (on_by p m c n) (take e c.voices) ++ drop e c.voices) c.count c

-- their positions
unfoldable pub hots_on : Params → List ℕ → Channel → ℕ → List Voice → List Hot → List Hot
hots_on p m c n [] hs = hs
hots_on p m c n (v ∷ vs) [] = []
hots_on p m c n (v ∷ vs) (h ∷ hs) = hot_on_by p m c n v h ∷ hots_on p m c n vs hs

abbrev pub hots_ahead : Params → List ℕ → ℕ → ℕ → Channel → List Hot → List Hot
hots_ahead p m e n c hs = hots_on p m c n (take e c.voices) hs

-- what they add in the k-th sample from now, in their order
unfoldable pub sum_at : Params → List ℕ → ℕ → Channel → ℕ → Float
sum_at p m e c k =
    fold (λ (out : Float) (v : Voice). add binary32 out (on_by p m c (k + 1) v).last_sample_value) zero32
    (take e c.voices)

-- a voice of c may be poured over n samples
pub record Easy (p : Params) (m : List ℕ) (n : ℕ) (c : Channel) (v : Voice) : Type 0 where
  pub full : eqb (phrase_at c v.phrase).length 0 ≡ false
  pub glides : GlidesOn (tick_in p c v) (recording_held m c v) n v

-- the first e voices of c may be
pub record Eased (p : Params) (m : List ℕ) (e n : ℕ) (c : Channel) : Type 0 where
  pub still : 0 < e → is_recording_of c.head.recorder ≡ false
  pub clock : 0 < e → c.head.now + n ≤ last_time
  pub inside : e ≤ min c.count 32
  pub each : (i : ℕ) → i < e → Easy p m n c (get_or c.voices i blank_voice)

-- ---- a sample behind the first e voices, which are ahead, with what they add
unfoldable pub behind_of : Params → Float → ℕ → Float → Channel → List ℕ → Played
behind_of p x e first c m =
    let d = taken_of m c in
    let r = rest_of (turning_in p d (memory_of x c m)) (min d.count 32) d (glided_to e first) in
    record {
      channel = with_head (closed_of p (any_unfinished_of r.channel) d.head) r.channel;
      output = mixed_of x r.output d.head;
      moved = r.moved;
    }

unfoldable pub hots_behind : Params → Float → ℕ → Channel → List ℕ → Side → List Hot
hots_behind p x e c m k =
    let d = taken_of m c in
    rest_hots (turning_in p d (memory_of x c m)) (min d.count 32) d k (glided_to e zero32)

abbrev pub side_behind : Params → Float → ℕ → Channel → List ℕ → Side → Side
side_behind p x e c m k = with_hots (hots_behind p x e c m k) k

-- the turns of the voices behind them, once the sample is recorded
pub record PlaysFrom (p : Params) (m : List ℕ) (e : ℕ) (first : Float) (c : Channel) (k : Side) (r : Heard) (d : Channel) (l : Side) : Type 0 where
  pub heard : r ≡ heard_of (rest_of (turning_in p c m) (min c.count 32) c (glided_to e first))
  pub channel : d ≡ (rest_of (turning_in p c m) (min c.count 32) c (glided_to e first)).channel
  pub side : l ≡ with_hots (rest_hots (turning_in p c m) (min c.count 32) c k (glided_to e first)) k

-- nothing is poured any more
abbrev pub rested_side : Side → Side
rested_side k = record { hots = k.hots; pour = no_pour }

-- ---- in a run: the channel is c where it would be d, and the positions beside it are ks where they would be hs; the first
-- e voices are n samples ahead, and the sums of these samples are what they add
pub record Ahead (p : Params) (m : List ℕ) (e n : ℕ) (sums : List Float) (d : Channel) (hs : List Hot) (c : Channel) (ks : List Hot) : Type 0 where
  pub eased : Eased p m e n d
  pub channel : c ≡ ahead_of p m e n d
  pub hots : ks ≡ hots_ahead p m e n d hs
  pub adds : (k : ℕ) → k < n → get_or sums k zero32 ≡ sum_at p m e d k

-- ---- what the steps of a run promise. What is ahead on entry is so of some d and hs, and on exit of the same

-- nothing is recorded, and the clock doesn't end within n samples
unfoldable pub may_ease : Head → ℕ → Bool
may_ease h n = not (is_recording_of h.recorder) && leb (h.now + n) last_time

-- no more than a stretch is poured at a time
abbrev pub stretch_of : ℕ → ℕ
stretch_of togo = cond (ltb togo 64) togo 64

-- where none eases over a stretch of n samples, at an even number to go, one is played, and then it is tried again
abbrev pub left_of : ℕ → ℕ → ℕ → ℕ
left_of togo n eased = cond (eqb eased 0) (cond (eqb (togo % 2) 0) (cond (ltb 1 n) 1 n) n) n

-- the channel with the positions beside it is ahead by what stands in the side's pour
abbrev pub AheadBy : Params → List ℕ → Channel → List Hot → Channel → Side → Type 0
AheadBy p m d hs c k =
    Ahead p m k.pour.eased k.pour.left (drop k.pour.next k.pour.sums) d hs c k.hots

-- a side's pour but for its sums is what it was
pub record Elsewhere (k l : Side) : Type 0 where
  pub eased : l.pour.eased ≡ k.pour.eased
  pub next : l.pour.next ≡ k.pour.next
  pub left : l.pour.left ≡ k.pour.left

-- the first i voices are poured over n samples, of a channel and positions, and the next may be
pub record Easing (p : Params) (m : List ℕ) (i n : ℕ) (c : Channel) (k : Side) : Type 0 where
  pub channel : Channel
  pub hots : List Hot
  pub ahead : Ahead p m i n k.pour.sums channel hots c k.hots
  pub may : may_ease c.head n ≡ true
  pub few : n ≤ 64

-- the next is poured too, if r says so
pub record Eases (p : Params) (m : List ℕ) (i n : ℕ) (c : Channel) (k : Side) (r : Bool) (e : Channel) (l : Side) : Type 0 where
  pub ahead : (d : Channel) (hs : List Hot) → Ahead p m i n k.pour.sums d hs c k.hots
      → Ahead p m (cond r (i + 1) i) n l.pour.sums d hs e l.hots
  pub head : e.head ≡ c.head
  pub count : e.count ≡ c.count
  pub else : Elsewhere k l

-- the first r voices of a channel are poured over n samples
pub record EasedBy (p : Params) (m : List ℕ) (n : ℕ) (c : Channel) (k : Side) (r : ℕ) (e : Channel) (l : Side) : Type 0 where
  pub ahead : Ahead p m r n l.pour.sums c k.hots e l.hots
  pub else : Elsewhere k l

-- as many as can be, over the next samples of a run that has so many to go
pub record Refilled (p : Params) (m : List ℕ) (togo : ℕ) (c : Channel) (k : Side) (e : Channel) (l : Side) : Type 0 where
  pub ahead : AheadBy p m c k.hots e l
  pub next : l.pour.next ≡ 0
  pub left : l.pour.left ≤ stretch_of togo
  pub some : 0 < togo → 0 < l.pour.left

-- a run that has so many samples to go is under way
pub record Underway (p : Params) (m : List ℕ) (togo : ℕ) (d : Channel) (hs : List Hot) (c : Channel) (k : Side) : Type 0 where
  pub ahead : AheadBy p m d hs c k
  pub room : k.pour.next + k.pour.left ≤ 64
  pub left : k.pour.left ≤ togo

pub record InRun (p : Params) (m : List ℕ) (togo : ℕ) (c : Channel) (k : Side) : Type 0 where
  pub channel : Channel
  pub hots : List Hot
  pub under : Underway p m togo channel hots c k
  pub some : 0 < togo

-- a sample of it: what is heard and recorded is that of d, and what d and its positions become is under way with one
-- sample fewer to go
pub record Along (p : Params) (x : Float) (m : List ℕ) (togo : ℕ) (c : Channel) (k : Side) (r : Heard) (e : Channel) (l : Side) (m' : List ℕ) : Type 0 where
  pub heard : (d : Channel) (hs : List Hot) → Underway p m togo d hs c k → r ≡ heard_of (process_sample_of p x d m)
  pub memory : (d : Channel) (hs : List Hot) → Underway p m togo d hs c k → m' ≡ memory_of x d m
  pub under : (d : Channel) (hs : List Hot) → Underway p m togo d hs c k
      → Underway p m' (togo - 1) (process_sample_of p x d m).channel (side_after p x d m (with_hots hs k)).hots e l
