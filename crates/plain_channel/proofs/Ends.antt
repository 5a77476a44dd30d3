-- Turns behind some voices: where they begin (`together_first`, with the positions), what they have come to where none is left, and a channel whose voices are all ahead, which stays as it is. Assumes nothing.
use mathlib.Core.Path.{◌≡◌, refl, sym, ◌∙◌, ap, ap₂, subst}
use Prim.Native.Nat.{ℕ, ◌+◌, ◌-◌, ◌≤◌, min, zero-le}
use native.Mathlib.Nat.{le_refl, add-zero}
use native.Mathlib.Omega.{arith}
use mathlib.Core.Bool.{cond}
use mathlib.Core.List.{List, []}
use lib.Dec.{ltb}
use lib.Seq.{slice, slice_empty}
use lib.Ieee.{Float}
use borrow.Author.Tests.{le-ltb}
use Rattle.walks.specs.Walks.{without, behind}
use Rattle.plain_voice.specs.declared.Hot.{Hot}
use Rattle.channel.specs.declared.Channel.{Channel}
use Rattle.channel.specs.declared.Played.{Played}
use Rattle.common_types.specs.declared.Params.{Params}
use Rattle.channel.specs.Channels.{with_voices, Turning, turning_in, kept_of, tidied_of, taken_of, memory_of, any_unfinished_of, with_head}
use Rattle.channel.specs.Heads.{closed_of}
use Rattle.channel.proofs.Turns as T
use Rattle.lent_channel.specs.declared.Going.{Going}
use Rattle.lent_channel.specs.declared.Heard.{Heard}
use Rattle.lent_channel.specs.Turns.{mixed_with, glided_to, moved_by, Stands, rest_by, rest_of, heard_of}
use Rattle.plain_channel.specs.declared.Pour.{Pour}
use Rattle.plain_channel.specs.declared.Side.{Side}
use Rattle.plain_channel.specs.Sides.{with_hots, rest_hots, Together}
use Rattle.plain_channel.specs.Ahead.{behind_of, hots_behind, side_behind, PlaysFrom}
use Rattle.plain_channel.proofs.Sides.{hots_end}

-- turns may begin behind any of the voices
pub from_there : (n e : ℕ) (first : Float) → n ≤ 32 → e ≤ n → Stands n (glided_to e first)
unfolding glided_to
from_there n e first few inside = record { few = few; inside = inside; up = le_refl e; first = zero-le; all = λ _. refl }

-- what they have come to where none is left
pub rest_end : (s : Turning) (n : ℕ) (c : Channel) (g : Going) → g.place ≡ n → rest_of s n c g ≡ record { channel = with_voices c.voices g.kept c; output = g.output; moved = moved_by g }
unfolding rest_by moved_by tidied_of behind kept_of without
rest_end s n c g end =
    ap (rest_by s c g) (ap (λ (j : ℕ). slice j n c.voices) end ∙ slice_empty n c.voices)
    ∙ (λ i. record { channel = (walked i).channel; output = (walked i).output; moved = moved i })
  where
    walked : T.rest_of s c g.kept g.output [] ≡ record { channel = with_voices c.voices g.kept c; output = g.output }
    walked = T.rest_end s c g.kept g.output

    moved : cond (ltb g.kept g.place) (g.kept + 0 - g.first) 0 ≡ cond (ltb g.kept g.place) (g.kept - g.first) 0
    moved = ap (λ (k : ℕ). cond (ltb g.kept g.place) (k - g.first) 0) (add-zero g.kept)

-- ---- a sample's voices are all ahead: nothing is heard of others, and the channel and the positions beside it stay as they are
module _ (s : Turning) (c : Channel) (e : ℕ) (first : Float) (inside : e ≤ min c.count 32) (level : c.count ≡ e) where
  abbrev others : Played
  others = rest_of s (min c.count 32) c (glided_to e first)

  no_other : (glided_to e first).place ≡ min c.count 32
  unfolding glided_to
  no_other = omega (arith, inside, level)

  others_give : others ≡ record { channel = c; output = first; moved = 0 }
  unfolding glided_to moved_by
  others_give =
      rest_end s (min c.count 32) c (glided_to e first) no_other
      ∙ (λ i. record { channel = with_voices c.voices (sym level i) c; output = first; moved = cond (le-ltb e e (le_refl e) i) (e - 0) 0 })

  pub ahead_heard : record { output = first; moved = 0 } ≡ heard_of others
  ahead_heard = sym (ap heard_of others_give)

  pub ahead_gone : c ≡ others.channel
  ahead_gone = sym (ap (λ (r : Played). r.channel) others_give)

  pub ahead_beside : (k : Side) → k ≡ with_hots (rest_hots s (min c.count 32) c k (glided_to e first)) k
  ahead_beside k = sym (ap (λ (hs : List Hot). with_hots hs k) (hots_end s (min c.count 32) c k (glided_to e first) no_other))

-- once the sample is recorded
pub taken_some : (m : List ℕ) (e : ℕ) (c : Channel) → e ≤ min c.count 32 → e ≤ min (taken_of m c).count 32
unfolding taken_of
taken_some m e c some = some

-- ---- turns that have gone on together till none is left give what `play` promises
pub played_from : (p : Params) (m : List ℕ) (e : ℕ) (first : Float) (c : Channel) (k : Side) (n : ℕ) (d : Channel) (l : Side) (g : Going) (moved : ℕ)
    → n ≡ min c.count 32 → Together (turning_in p c m) n c k (glided_to e first) d l g → n ≤ g.place → moved ≡ moved_by g
    → PlaysFrom p m e first c k (record { output = g.output; moved = moved }) (with_voices d.voices g.kept d) l
played_from p m e first c k n d l g moved all on none is_moved =
    let s : Turning = turning_in p c m in
    let end : g.place ≡ n = omega (arith, on.onward.stands.inside, none) in
    let ended : record { channel = with_voices d.voices g.kept d; output = g.output; moved = moved_by g } ≡ rest_of s (min c.count 32) c (glided_to e first) =
    sym (rest_end s n d g end) ∙ on.onward.same ∙ ap (λ (j : ℕ). rest_of s j c (glided_to e first)) all in
    record {
      heard = ap (λ (j : ℕ). record { output = g.output; moved = j }) is_moved ∙ ap heard_of ended;
      channel = ap (λ (r : Played). r.channel) ended;
      side = ap₂ (λ (hs : List Hot) (u : Pour). record { hots = hs; pour = u }) (sym (hots_end s n d l g end) ∙ on.same ∙ ap (λ (j : ℕ). rest_hots s j c k (glided_to e first)) all) on.pour;
    }

-- and where they begin
pub together_first : (p : Params) (m : List ℕ) (e : ℕ) (first : Float) (c : Channel) (k : Side) (n : ℕ) (g : Going) → n ≡ min c.count 32 → e ≤ min c.count 32 → g ≡ glided_to e first
    → Together (turning_in p c m) n c k (glided_to e first) c k g
together_first p m e first c k n g all inside is =
    subst (Together (turning_in p c m) n c k (glided_to e first) c k) (sym is)
    (record { onward = record { stands = from_there n e first (omega (arith, all)) (omega (arith, all, inside)); same = refl }; same = refl; pour = refl })

-- the same of what is the same
pub plays_as : {p : Params} {m : List ℕ} {e : ℕ} {first : Float} {c d d' : Channel} {k l l' : Side} {r r' : Heard} → r ≡ r' → d ≡ d' → l ≡ l' → PlaysFrom p m e first c k r' d' l' → PlaysFrom p m e first c k r d l
plays_as u v w plays = record { heard = u ∙ plays.heard; channel = v ∙ plays.channel; side = w ∙ plays.side }

-- where all are ahead
pub played_ahead : (p : Params) (m : List ℕ) (e : ℕ) (first : Float) (c : Channel) (k : Side) (r : Heard) → e ≤ min c.count 32 → c.count ≡ e → r ≡ record { output = first; moved = 0 } → PlaysFrom p m e first c k r c k
played_ahead p m e first c k r inside level is = record {
  heard = is ∙ ahead_heard (turning_in p c m) c e first inside level;
  channel = ahead_gone (turning_in p c m) c e first inside level;
  side = ahead_beside (turning_in p c m) c e first inside level k;
}

-- ---- a sample behind some voices, once it is recorded, they have played, and it is closed
module _ (p : Params) (x : Float) (from : ℕ) (first : Float) (h : Channel) (ms : List ℕ) (k : Side) where
  abbrev others_of : Channel → List ℕ → Played
  others_of c m = rest_of (turning_in p c m) (min c.count 32) c (glided_to from first)

  abbrev closed : Channel → Channel
  closed c = with_head (closed_of p (any_unfinished_of c) c.head) c

  abbrev Gives : Heard → Channel → List ℕ → Side → Type 0
  Gives out last m l = (out ≡ heard_of (behind_of p x from first h ms)) × (last ≡ (behind_of p x from first h ms).channel) × (m ≡ memory_of x h ms) × (l ≡ side_behind p x from h ms k)

  done_so : let o = others_of (taken_of ms h) (memory_of x h ms) in
      Gives (mixed_with o.channel.head x (heard_of o)) (closed o.channel) (memory_of x h ms) (with_hots (rest_hots (turning_in p (taken_of ms h) (memory_of x h ms)) (min (taken_of ms h).count 32) (taken_of ms h) k (glided_to from first)) k)
  unfolding behind_of hots_behind rest_by rest_hots glided_to
  done_so = (refl, refl, refl, refl)

  pub closes_so : (c : Channel) (m : List ℕ) → c ≡ taken_of ms h → m ≡ memory_of x h ms → (r : Heard) (d : Channel) (l : Side) → PlaysFrom p m from first c k r d l
      → (out : Heard) → out ≡ mixed_with d.head x r → (last : Channel) → last ≡ closed d → Gives out last m l
  closes_so c m is_taken is_memory r d l plays out is_out last is_last = (
    is_out ∙ ap₂ (λ (u : Channel) (z : Heard). mixed_with u.head x z) plays.channel plays.heard ∙ ap₂ (λ (u : Channel) (n : List ℕ). mixed_with (others_of u n).channel.head x (heard_of (others_of u n))) is_taken is_memory ∙ done_so.0,
    is_last ∙ ap closed plays.channel ∙ ap₂ (λ (u : Channel) (n : List ℕ). closed (others_of u n).channel) is_taken is_memory ∙ done_so.1,
    is_memory,
    plays.side ∙ ap₂ (λ (u : Channel) (n : List ℕ). with_hots (rest_hots (turning_in p u n) (min u.count 32) u k (glided_to from first)) k) is_taken is_memory ∙ done_so.3,
  )
