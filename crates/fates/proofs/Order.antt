-- What pins the following of a voice, beside Tracks: voices keep their order, so that no two are followed to one place; each voice after an event was followed there or is the start's own, at the end;
-- and where one is gone, the count falls. Assumes nothing.
use mathlib.Core.Path.{◌≡◌, refl, sym, ap, subst}
use mathlib.Core.Bool.{Bool, true, false, not, ◌||◌, cond}
use mathlib.Core.Logic.{◌⊎◌, inl, inr}
use mathlib.Core.List.{List, [], ◌∷◌, ◌++◌, map, append-nil}
use mathlib.Core.Option.{Option, some}
use Prim.Native.Nat.{ℕ, ◌<◌}
use native.Mathlib.Omega.{arith}
use lib.Dec.{eqb, ltb}
use lib.ListN.{length, take, get_or, set, get_elem?, length-set, length-map}
use Rattle.voice.specs.declared.Voice.{Voice}
use Rattle.voice.specs.Voices.{finish_of, blank_voice}
use Rattle.channel.specs.declared.Channel.{Channel}
use Rattle.channel.specs.declared.Change.TheVariants as change
use Rattle.std.specs.Prelude.{Option as Found, Some, None}
use Rattle.channel.specs.Channels.{
  live,
  find_of,
  sped_of,
  head_changed_in,
  gathered_in,
  reset_of,
  Turning,
  kept_of,
}
use Rattle.fates.specs.Engine.{born_of, turns_in}
use Rattle.fates.specs.Events.{Event, idle, changes, gathers, sounds, act, is_reset}
use Rattle.fates.specs.Places.{Housed, voice_at, at, gone, fate_of, follow, added_by}
use Rattle.walks.proofs.Lists.Looks.{never, look_below, look_some, look_back, look_map, look_unmap, take-map, rank_order, keep_stood, without_fewer}
use Rattle.fates.proofs.Lives.{live_length, live_started, live_sped, live_sounded}
use Rattle.fates.proofs.Stops.{found, stopped_none, live_stopped}
use Rattle.fates.proofs.Housing.{housed}
use Rattle.fates.proofs.Tracks.{at_same, gone_never}

-- ---- order
fate_order : (s : Turning) (vs : List Voice) (i n a b : ℕ) (v w : Voice) → i < n → get_elem? vs i ≡ some v → fate_of s vs i (some v) ≡ at a → fate_of s vs n (some w) ≡ at b → a < b
unfolding fate_of kept_of
fate_order s vs i n a b v w o k f g = go (s.leaves (s.turn v)) refl (s.leaves (s.turn w)) f g
  where
    go : (x : Bool) → s.leaves (s.turn v) ≡ x → (y : Bool) → cond x gone (at (length (kept_of s (take i vs)))) ≡ at a
        → cond y gone (at (length (kept_of s (take n vs)))) ≡ at b → a < b
    go true e y f g = absurd (gone_never a f)
    go false e true f g = absurd (gone_never b g)
    go false e false f g =
        let r = rank_order s.leaves (map s.turn vs) i n (s.turn v) o (look_map s.turn vs i v k) e in
        omega (arith, rw (take-map s.turn i vs, take-map s.turn n vs) at r, at_same _ a f, at_same _ b g)

pub ordered : (e : Event) (c : Channel) (i n a b : ℕ) (v w : Voice) → i < n → voice_at c i ≡ some v → voice_at c n ≡ some w
    → follow e c i ≡ at a → follow e c n ≡ at b → a < b
unfolding follow
ordered idle c i n a b v w o s r f g = omega (arith, at_same i a f, at_same n b g)
ordered (changes d) c i n a b v w o s r f g = go (is_reset (changes d)) f g
  where
    go : (x : Bool) → cond x gone (at i) ≡ at a → cond x gone (at n) ≡ at b → a < b
    go true f g = absurd (gone_never a f)
    go false f g = omega (arith, at_same i a f, at_same n b g)
ordered (gathers m) c i n a b v w o s r f g = omega (arith, at_same i a f, at_same n b g)
ordered (sounds p x m) c i n a b v w o s r f g =
    let turns = turns_in p x m c in
    fate_order turns (live c) i n a b v w o s
    (subst (λ (y : Option Voice). fate_of turns (live c) i y ≡ at a) s f)
    (subst (λ (y : Option Voice). fate_of turns (live c) n y ≡ at b) r g)

-- ---- whatever stands there afterwards
-- a voice that was there was followed to place k
pub record Came (e : Event) (c : Channel) (k : ℕ) : Type 0 where
  pub place : ℕ
  pub voice : Voice
  pub stood : voice_at c place ≡ some voice
  pub follows : follow e c place ≡ at k

left_came : (s : Turning) (vs : List Voice) (k : ℕ) (u : Voice) → get_elem? (kept_of s vs) k ≡ some u
    → (n : ℕ) × (v : Voice) × (get_elem? vs n ≡ some v) × (fate_of s vs n (some v) ≡ at k)
unfolding kept_of fate_of
left_came s vs k u h =
    let q = keep_stood s.leaves (map s.turn vs) k u h in
    let w = look_unmap s.turn vs q.place u q.stood in
    let b : s.leaves (s.turn w.0) ≡ false = subst (λ (y : Voice). s.leaves y ≡ false) w.2 q.stays in
    (q.place, w.0, w.1, rw (b, ← take-map s.turn q.place vs) (ap at q.moves))

pub covered : (e : Event) (c : Channel) → Housed c → (k : ℕ) (u : Voice) → voice_at (act e c) k ≡ some u
    → Came e c k ⊎ ((k ≡ length (live c)) × (added_by e c ≡ u ∷ []))
unfolding act follow is_reset added_by head_changed_in gathered_in reset_of
covered idle c h k u s = inl (record { place = k; voice = u; stood = s; follows = refl })
covered (changes (change.Start p position note velocity)) c h k u s =
    go (eqb c.head.data_len 0 || not (ltb c.count 32)) (subst (λ (l : List Voice). get_elem? l k ≡ some u) (live_started p position note velocity c h) s)
  where
    e : Event
    e = changes (change.Start p position note velocity)

    v : Voice
    v = born_of p position note velocity c

    last : (get_elem? (live c) k ≡ some u) ⊎ ((k ≡ length (live c)) × (u ≡ v)) → Came e c k ⊎ ((k ≡ length (live c)) × (v ∷ [] ≡ u ∷ []))
    last (inl r) = inl (record { place = k; voice = u; stood = r; follows = refl })
    last (inr r) = inr (r.0, ap (λ (w : Voice). w ∷ []) (sym r.1))

    go : (b : Bool) → get_elem? (live c ++ cond b [] (v ∷ [])) k ≡ some u → Came e c k ⊎ ((k ≡ length (live c)) × (cond b [] (v ∷ []) ≡ u ∷ []))
    go true r = inl (record { place = k; voice = u; stood = subst (λ (l : List Voice). get_elem? l k ≡ some u) (append-nil (live c)) r; follows = refl })
    go false r = last (look_back (live c) v k u r)
covered (changes (change.Stop p note)) c h k u s = inl (record { place = k; voice = get_or (live c) k blank_voice; stood = look_some (live c) k blank_voice (go (find_of note c) refl); follows = refl })
  where
    go : (f : Found ℕ) → find_of note c ≡ f → k < length (live c)
    go None e = look_below (live c) k u (subst (λ (d : Channel). voice_at d k ≡ some u) (stopped_none p note c e) s)
    go (Some i) e =
        let f = found note c i e in
        let v : Voice = finish_of c.head.now p.decay_samples f.voice in
        omega (arith, look_below (set (live c) i v) k u (subst (λ (l : List Voice). get_elem? l k ≡ some u) (live_stopped p note c h i f.voice e f.stands) s), length-set (live c) i v)
covered (changes (change.Speed note speed)) c h k u s =
    let r = look_unmap (sped_of note speed) (live c) k u (subst (λ (l : List Voice). get_elem? l k ≡ some u) (live_sped note speed c h) s) in
    inl (record { place = k; voice = r.0; stood = r.1; follows = refl })
covered (changes (change.Head d)) c h k u s = inl (record { place = k; voice = u; stood = s; follows = refl })
covered (changes change.Reset) c h k u s = absurd (never u s)
covered (gathers m) c h k u s = inl (record { place = k; voice = u; stood = s; follows = refl })
covered (sounds p x m) c h k u s =
    let q = left_came (turns_in p x m c) (live c) k u (subst (λ (l : List Voice). get_elem? l k ≡ some u) (live_sounded p x m c h) s) in
    inl (record { place = q.0; voice = q.1; stood = q.2; follows = rw q.2 q.3 })

-- ---- the count falls
nowhere : (i : ℕ) → at i ≡ gone → ⊥
nowhere i h = gone_never i (sym h)

left_fewer : (s : Turning) (vs : List Voice) (n : ℕ) (v : Voice) → get_elem? vs n ≡ some v → fate_of s vs n (some v) ≡ gone → length (kept_of s vs) < length vs
unfolding fate_of kept_of
left_fewer s vs n v k f = go (s.leaves (s.turn v)) refl f
  where
    go : (b : Bool) → s.leaves (s.turn v) ≡ b → cond b gone (at (length (kept_of s (take n vs)))) ≡ gone → length (kept_of s vs) < length vs
    go true e f = omega (arith, without_fewer s.leaves (map s.turn vs) n (s.turn v) (look_map s.turn vs n v k) e, length-map vs s.turn)
    go false e f = absurd (nowhere _ f)

live_fewer : (e : Event) (c : Channel) → Housed c → is_reset e ≡ false → (n : ℕ) (v : Voice) → voice_at c n ≡ some v → follow e c n ≡ gone
    → length (live (act e c)) < length (live c)
unfolding act follow
live_fewer idle c h r n v s f = absurd (nowhere n f)
live_fewer (changes d) c h r n v s f = absurd (nowhere n (rw r at f))
live_fewer (gathers m) c h r n v s f = absurd (nowhere n f)
live_fewer (sounds p x m) c h r n v s f =
    let turns = turns_in p x m c in
    subst (λ (l : List Voice). length l < length (live c)) (sym (live_sounded p x m c h))
    (left_fewer turns (live c) n v s (subst (λ (y : Option Voice). fate_of turns (live c) n y ≡ gone) s f))

pub fewer : (e : Event) (c : Channel) → Housed c → is_reset e ≡ false → (n : ℕ) (v : Voice) → voice_at c n ≡ some v → follow e c n ≡ gone → (act e c).count < c.count
fewer e c h r n v s f = omega (arith, live_fewer e c h r n v s f, live_length c h, live_length (act e c) (housed e c h))
