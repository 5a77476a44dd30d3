-- A voice's position as a whole number, which the plain engine keeps beside it (request 9/12). Definitions only. Assumes
-- nothing.
use Rattle.std.specs.Prelude.{◌≡◌, ℕ, ◌+◌, ◌-◌, ◌*◌, ◌/◌, ◌%◌, ◌^◌, ◌<◌, ◌≤◌, Bool, true, false, cond, not, ◌&&◌, List, Option, Some, nat_lt, Float}
use Rattle.binary32.specs.Leaves.{as_whole}
use Rattle.binary32.specs.Wholes.{is_whole_in}
use Rattle.clip.specs.declared.Clip.{Clip}
use Rattle.clip.specs.declared.Mode.TheVariants.{Loop}
use Rattle.clip.specs.Positions.{elapsed_at, index_at}
use Rattle.clip.specs.Updates.{same_mode, same_all}
use Rattle.clip.specs.Plain.{PlainClip, is_plain}
use Rattle.voice.specs.declared.Voice.{Voice}
use Rattle.voice.specs.declared.Tick.{Tick}
use Rattle.voice.specs.declared.Quick.{Quick}
use Rattle.voice.specs.Gliding.{Quickly}
use Rattle.plain_voice.specs.declared.Hot.{Hot}
use Rattle.plain_voice.specs.declared.Beat.{Beat}

-- ---- which voices are plain

-- that of a voice of the full engine
unfoldable pub cold : Hot
cold = record { place = 0; lap = 0; start = 0; plain = false }

-- whether the plain engine plays a voice of that clip at that time: "8/12's premises with 7/12's setting off", and the
-- elapsed count isn't 2^24 yet
unfoldable pub plays_plain : Bool → Clip → ℕ → Bool
plays_plain smooth c now = not smooth && (is_plain c && nat_lt (elapsed_at c now) (2 ^ 24))

-- where a clip of 8/12's profile stands after so many samples
unfoldable pub hot_after : Clip → ℕ → Hot
hot_after c elapsed =
    let length = as_whole 64 c.length in
    record { place = elapsed % length; lap = elapsed / length; start = as_whole 64 c.start; plain = true }

-- a voice that starts at that time with that clip: it is taken, or not
unfoldable pub hot_at : Bool → Clip → ℕ → Hot
hot_at smooth c now = cond (plays_plain smooth c now) (hot_after c (elapsed_at c now)) cold

-- one whose clip is c after its turn at that time: it is kept and stands one sample on, or handed back
unfoldable pub judged_of : Hot → Bool → Clip → ℕ → Hot
judged_of h smooth c now = cond h.plain (cond (plays_plain smooth c now) (hot_after c (elapsed_at c now + 1)) cold) h

-- the position moved by one
unfoldable pub stepped_hot : Hot → ℕ → Hot
stepped_hot h length =
    let next = (h.place + 1) % 2 ^ 32 in
    cond (nat_lt next length) (record { place = next; lap = h.lap; start = h.start; plain = true })
    (record { place = 0; lap = (h.lap + 1) % 2 ^ 32; start = h.start; plain = true })

-- ---- a turn by the position

-- whether a voice of that tick can be plain
unfoldable pub can_plain : Tick → Bool
can_plain t =
    same_mode t.mode Loop
    && (not t.interpolates
    && (is_whole_in 1 (2 ^ 22) t.span.length && is_whole_in 1 (2 ^ 22) t.span.data_length))

-- the tick's lengths as whole numbers, 0 where none can be
unfoldable pub beat_of : Tick → Beat
beat_of t = record {
  length = cond (can_plain t) (as_whole 64 t.span.length) 0;
  total = cond (can_plain t) (as_whole 64 t.span.data_length) 0;
}

-- The position is that of the clip, which none of the four parts of the tick's update changes: it is of 8/12's profile,
-- and its elapsed count is at most `last`.
pub record Agrees (h : Hot) (c : Clip) (t : Tick) (b : Beat) (speed : Float) (last : ℕ) : Type 0 where
  pub same : same_all c t.span.length speed t.span.data_length t.mode ≡ true
  pub profile : PlainClip c h.start b.length b.total
  pub inside : h.start ≤ b.total
  pub sharp : t.interpolates ≡ false
  pub early : elapsed_at c t.now ≤ last
  pub place : h.place < b.length
  pub stands : h.lap * b.length + h.place ≡ elapsed_at c t.now

-- r denies it; or, if b is the tick's, it is so
abbrev pub Agreeing : Hot → Clip → Tick → Beat → Float → ℕ → Bool → Type 0
Agreeing h c t b speed last r = r ≡ true → b ≡ beat_of t → Agrees h c t b speed last

-- r has no index; or, if b is the tick's, the position agrees and it has the clip's index
abbrev pub PlainIndex : Hot → Clip → Tick → Beat → Float → Option ℕ → Type 0
PlainIndex h c t b speed r =
    (i : ℕ) → r ≡ Some i → b ≡ beat_of t → Agrees h c t b speed (2 ^ 24 - 1) × (i ≡ index_at c t.now)

-- What a quick turn by the position promises, if b is the tick's: what a quick turn does, and that the position moved by
-- one is that of the voice after it.
abbrev pub PlainQuickly : Hot → Voice → Tick → Beat → List ℕ → Quick → Type 0
PlainQuickly h v t b m r =
    b ≡ beat_of t → Quickly t m v r
    × (r.glides ≡ true → h.plain ≡ true
    → stepped_hot h b.length ≡ judged_of h t.interpolates r.voice.clip2 t.now)
