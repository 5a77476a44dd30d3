-- At the place to which a voice is followed stands what the event makes of that voice. Assumes nothing.
use mathlib.Core.Path.{◌≡◌, refl, sym, ap, ◌∙◌, subst}
use mathlib.Core.Bool.{Bool, true, false, cond}
use mathlib.Core.List.{List, map}
use mathlib.Core.Option.{Option, some}
use Prim.Native.Nat.{ℕ}
use native.Mathlib.Omega.{arith}
use borrow.Author.Tests.{eqb-true, eqb-false}
use lib.Dec.{eqb}
use lib.ListN.{length, take, get_elem?}
use lib.Ieee.{Float}
use Rattle.common_types.specs.declared.Params.{Params}
use Rattle.common_types.specs.declared.Note.{Note}
use Rattle.voice.specs.declared.Voice.{Voice}
use Rattle.voice.specs.Voices.{finish_of}
use Rattle.channel.specs.declared.Channel.{Channel}
use Rattle.channel.specs.declared.Change.TheVariants as change
use Rattle.std.specs.Prelude.{Option as Found, Some, None}
use Rattle.channel.specs.Channels.{
  live,
  find_of,
  stop_playing_of,
  sped_of,
  head_changed_in,
  gathered_in,
  Turning,
  kept_of,
}
use Rattle.fates.specs.Engine.{begun_of, turns_in}
use Rattle.fates.specs.Events.{Event, idle, changes, gathers, sounds, act, is_reset}
use Rattle.fates.specs.Places.{Housed, voice_at, at, gone, fate_of, follow, finds_at, becomes}
use Rattle.walks.proofs.Lists.Looks.{look_front, look_map, look_set_same, look_set_other, take-map, keep_look}
use Rattle.fates.proofs.Lives.{live_started, live_sped, live_sounded}
use Rattle.fates.proofs.Stops.{found, stopped_none, live_stopped}

-- ---- no place is two places
pub at_same : (i k : ℕ) → at i ≡ at k → i ≡ k
at_same i k h = cc

pub gone_never : (k : ℕ) → gone ≡ at k → ⊥
gone_never k h = let z : ◌≡◌ {A = ℕ} 0 1 = cc in omega arith

-- ---- a start
look_started : (p : Params) (position : Float) (note : Note) (velocity : Float) (c : Channel) → Housed c → (n : ℕ) (v : Voice) → voice_at c n ≡ some v
    → voice_at (begun_of p position note velocity c) n ≡ some v
look_started p position note velocity c h n v k =
    subst (λ (l : List Voice). get_elem? l n ≡ some v) (sym (live_started p position note velocity c h)) (look_front (live c) _ n v k)

-- ---- a stop
pub look_stopped : (p : Params) (note : Note) (c : Channel) → Housed c → (n : ℕ) (v : Voice) → voice_at c n ≡ some v
    → voice_at (stop_playing_of p note c) n ≡ some (cond (finds_at (find_of note c) n) (finish_of c.head.now p.decay_samples v) v)
look_stopped p note c h n v k = go (find_of note c) refl
  where
    w : Voice
    w = finish_of c.head.now p.decay_samples v

    placed : (i : ℕ) → find_of note c ≡ Some i → (b : Bool) → eqb i n ≡ b → voice_at (stop_playing_of p note c) n ≡ some (cond b w v)
    placed i e true q =
        let z : i ≡ n = eqb-true i n q in
        let l = live_stopped p note c h n v (e ∙ ap Some z) k in
        subst (λ (l : List Voice). get_elem? l n ≡ some w) (sym l) (look_set_same (live c) n v w k)
    placed i e false q =
        let f = found note c i e in
        subst (λ (l : List Voice). get_elem? l n ≡ some v) (sym (live_stopped p note c h i f.voice e f.stands))
        (look_set_other (live c) i n _ (eqb-false i n q) ∙ k)

    go : (f : Found ℕ) → find_of note c ≡ f → voice_at (stop_playing_of p note c) n ≡ some (cond (finds_at f n) w v)
    go None e = subst (λ (d : Channel). voice_at d n ≡ some v) (sym (stopped_none p note c e)) k
    go (Some i) e = placed i e (eqb i n) refl

-- ---- a sample
left_look : (s : Turning) (vs : List Voice) (n k : ℕ) (v : Voice) → get_elem? vs n ≡ some v → fate_of s vs n (some v) ≡ at k → get_elem? (kept_of s vs) k ≡ some (s.turn v)
unfolding kept_of fate_of
left_look s vs n k v h f = go (s.leaves (s.turn v)) refl f
  where
    go : (b : Bool) → s.leaves (s.turn v) ≡ b → cond b gone (at (length (kept_of s (take n vs)))) ≡ at k → get_elem? (kept_of s vs) k ≡ some (s.turn v)
    go true e f = absurd (gone_never k f)
    go false e f =
        subst (λ (j : ℕ). get_elem? (kept_of s vs) j ≡ some (s.turn v))
        (rw (take-map s.turn n vs) (at_same _ k f))
        (keep_look s.leaves (map s.turn vs) n (s.turn v) (look_map s.turn vs n v h) e)

-- ---- every event
pub tracks : (e : Event) (c : Channel) → Housed c → (n k : ℕ) (v : Voice) → voice_at c n ≡ some v → follow e c n ≡ at k
    → voice_at (act e c) k ≡ some (becomes e c n v)
unfolding act follow is_reset becomes head_changed_in gathered_in
tracks idle c h n k v s f = rw (← at_same n k f) s
tracks (changes (change.Start p position note velocity)) c h n k v s f = rw (← at_same n k f) (look_started p position note velocity c h n v s)
tracks (changes (change.Stop p note)) c h n k v s f = rw (← at_same n k f) (look_stopped p note c h n v s)
tracks (changes (change.Speed note speed)) c h n k v s f =
    rw (← at_same n k f)
    (subst (λ (l : List Voice). get_elem? l n ≡ some (sped_of note speed v)) (sym (live_sped note speed c h)) (look_map (sped_of note speed) (live c) n v s))
tracks (changes (change.Head d)) c h n k v s f = rw (← at_same n k f) s
tracks (changes change.Reset) c h n k v s f = absurd (gone_never k f)
tracks (gathers m) c h n k v s f = rw (← at_same n k f) s
tracks (sounds p x m) c h n k v s f =
    let turns = turns_in p x m c in
    subst (λ (l : List Voice). get_elem? l k ≡ some (turns.turn v)) (sym (live_sounded p x m c h))
    (left_look turns (live c) n k v s (subst (λ (o : Option Voice). fate_of turns (live c) n o ≡ at k) s f))
