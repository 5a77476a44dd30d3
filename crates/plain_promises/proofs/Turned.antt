-- What a sample of one channel leaves beside its voices: at the place to which a voice is followed stands its own position, judged by the clip that it has after its turn. Assumes nothing.
use mathlib.Core.Path.{◌≡◌, refl, sym, ap, ◌∙◌, subst}
use mathlib.Core.Bool.{Bool, true, false, cond}
use mathlib.Core.List.{List, [], ◌∷◌, map}
use mathlib.Core.Option.{Option, some}
use Prim.Native.Nat.{ℕ, zero, suc, ◌≤◌, ◌<◌, zero-le}
use native.Mathlib.Omega.{arith}
use lib.ListN.{length, take, drop, get_or, get_elem?, get_or-append}
use lib.Seq.{sets, length-take-le, get_or-take}
use lib.Ieee.{Float}
use Rattle.walks.specs.Walks.{without}
use Rattle.walks.proofs.Lists.Looks.{never, look_below, look-value}
use Rattle.walks.proofs.Lists.Runs.{run_front}
use Rattle.common_types.specs.declared.Params.{Params}
use Rattle.phrases.specs.Phrases.{stored_in}
use Rattle.voice.specs.declared.Voice.{Voice}
use Rattle.voice.specs.declared.Tick.{Tick}
use Rattle.plain_voice.specs.declared.Hot.{Hot}
use Rattle.plain_voice.specs.Hots.{cold, judged_of}
use Rattle.channel.specs.declared.Head.{Head}
use Rattle.channel.specs.declared.Channel.{Channel}
use Rattle.channel.specs.Channels.{live, Turning, kept_of, turning_of, phrase_at, moment_for, turning_in, taken_of, memory_of}
use Rattle.plain_channel.specs.declared.Side.{Side}
use Rattle.plain_channel.specs.Sides.{hots_kept, side_played, side_after}
use Rattle.fates.specs.Engine.{moment_at, held_at, turns_in}
use Rattle.fates.specs.Events.{sounds}
use Rattle.fates.specs.Places.{Housed, voice_at, at, gone, fate_of, follow}
use Rattle.fates.proofs.Lives.{live_length}
use Rattle.fates.proofs.Tracks.{at_same, gone_never}
use Rattle.promises.proofs.Engine.{turns_same}

-- ---- the turns that the contracts cite are those of the engine in parts
turning_same : (p : Params) (x : Float) (m : List ℕ) (c : Channel) → turning_in p (taken_of m c) (memory_of x c m) ≡ turns_in p x m c
unfolding turning_in moment_at held_at
turning_same p x m c =
    let d = taken_of m c in
    sym (ap (λ (by : Tick → List ℕ → Turning). turning_of by p (λ (v : Voice). moment_for d v.phrase) (λ (v : Voice). stored_in (phrase_at d v.phrase) (memory_of x c m)))
    (λ i t l. turns_same t l i))

-- ---- the positions of the voices that stay
module _ (s : Turning) (t : Head) where
  abbrev judged : Hot → Voice → Hot
  judged h v = judged_of h t.interpolates (s.turn v).clip2 t.now

  abbrev left : List Voice → List Voice
  left vs = without s.leaves (map s.turn vs)

  -- one that stays stands behind those that stay before it
  hot_kept : (vs : List Voice) (hs : List Hot) → length vs ≤ length hs → (n : ℕ) (v : Voice) → get_elem? vs n ≡ some v → s.leaves (s.turn v) ≡ false
      → get_elem? (hots_kept s t vs hs) (length (left (take n vs))) ≡ some (judged (get_or hs n cold) v)
  unfolding hots_kept without
  hot_kept [] hs l n v h stays = absurd (never v h)
  hot_kept (u ∷ vs) [] l n v h stays = absurd (omega arith)
  hot_kept (u ∷ vs) (x ∷ hs) l zero v h stays =
      let same : u ≡ v = cc in
      ap (λ (b : Bool). get_elem? (cond b (hots_kept s t vs hs) (judged x u ∷ hots_kept s t vs hs)) 0) (ap (λ (z : Voice). s.leaves (s.turn z)) same ∙ stays)
      ∙ ap (λ (z : Voice). some (judged x z)) same
  hot_kept (u ∷ vs) (x ∷ hs) l (suc n) v h stays = go (s.leaves (s.turn u)) (hot_kept vs hs (omega arith) n v h stays)
    where
      go : (b : Bool) → get_elem? (hots_kept s t vs hs) (length (left (take n vs))) ≡ some (judged (get_or hs n cold) v)
          → get_elem? (cond b (hots_kept s t vs hs) (judged x u ∷ hots_kept s t vs hs)) (length (cond b (left (take n vs)) (s.turn u ∷ left (take n vs)))) ≡ some (judged (get_or hs n cold) v)
      go true r = r
      go false r = r

  hots_fewer : (vs : List Voice) (hs : List Hot) → length (hots_kept s t vs hs) ≤ length hs
  unfolding hots_kept
  hots_fewer [] hs = zero-le
  hots_fewer (v ∷ vs) [] = zero-le
  hots_fewer (v ∷ vs) (h ∷ hs) = go (s.leaves (s.turn v)) (hots_fewer vs hs)
    where
      go : (b : Bool) → length (hots_kept s t vs hs) ≤ length hs → length (cond b (hots_kept s t vs hs) (judged h v ∷ hots_kept s t vs hs)) ≤ suc (length hs)
      go true l = omega arith
      go false l = omega arith

-- the front of a list in which others were stored
stored_front : (l xs : List Hot) (i : ℕ) → length xs ≤ length l → i < length xs → get_or (sets l 0 xs) i cold ≡ get_or xs i cold
stored_front l xs i h k = ap (λ (r : List Hot). get_or r i cold) (run_front l xs h) ∙ get_or-append xs (drop (length xs) l) cold i k

module _ (s : Turning) (c : Channel) (house : Housed c) (k : Side) (places : length k.hots ≡ 32) where
  played_hot : (n : ℕ) (v : Voice) → voice_at c n ≡ some v → s.leaves (s.turn v) ≡ false
      → get_or (side_played s c k).hots (length (kept_of s (take n (live c)))) cold ≡ judged_of (get_or k.hots n cold) c.head.interpolates (s.turn v).clip2 c.head.now
  unfolding side_played kept_of
  played_hot n v h stays =
      let hs = take c.count k.hots in
      let kept = hots_kept s c.head (live c) hs in
      let few : length hs ≡ c.count = length-take-le c.count k.hots (omega (arith, places, house.room)) in
      let long : length (live c) ≡ c.count = live_length c house in
      let here : get_elem? kept (length (kept_of s (take n (live c)))) ≡ some (judged s c.head (get_or hs n cold) v) = hot_kept s c.head (live c) hs (omega (arith, few, long)) n v h stays in
      stored_front k.hots kept (length (kept_of s (take n (live c)))) (omega (arith, hots_fewer s c.head (live c) hs, few, places, house.room)) (look_below kept _ _ here)
      ∙ look-value kept _ _ cold here
      ∙ ap (λ (x : Hot). judged s c.head x v) (get_or-take c.count k.hots n cold (omega (arith, long, look_below (live c) n v h)))

-- ---- a sample
pub sounded_hot : (p : Params) (x : Float) (m : List ℕ) (c : Channel) → Housed c → (k : Side) → length k.hots ≡ 32 → (n i : ℕ) (v : Voice) → voice_at c n ≡ some v → follow (sounds p x m) c n ≡ at i
    → get_or (side_after p x c m k).hots i cold ≡ judged_of (get_or k.hots n cold) c.head.interpolates ((turns_in p x m c).turn v).clip2 c.head.now
unfolding side_after follow fate_of taken_of
sounded_hot p x m c house k places n i v h f =
    ap (λ (s : Turning). get_or (side_played s d k).hots i cold) (turning_same p x m c)
    ∙ go (turns.leaves (turns.turn v)) refl (subst (λ (o : Option Voice). fate_of turns (live c) n o ≡ at i) h f)
  where
    turns : Turning
    turns = turns_in p x m c

    d : Channel
    d = taken_of m c

    go : (b : Bool) → turns.leaves (turns.turn v) ≡ b → cond b gone (at (length (kept_of turns (take n (live c))))) ≡ at i
        → get_or (side_played turns d k).hots i cold ≡ judged_of (get_or k.hots n cold) c.head.interpolates (turns.turn v).clip2 c.head.now
    go true e z = absurd (gone_never i z)
    go false e z =
        subst (λ (y : ℕ). get_or (side_played turns d k).hots y cold ≡ judged_of (get_or k.hots n cold) c.head.interpolates (turns.turn v).clip2 c.head.now) (at_same _ i z)
        (played_hot turns d (record { places = house.places; room = house.room }) k places n v h e)
