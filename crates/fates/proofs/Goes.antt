-- Goes: a voice that an event finishes at count r is gone by the end of any later sample n, or of that sample itself, that finds the recording not empty, if n is at least r plus the larger of the decay at finishing and
-- the decay at n. Modes and decays may change in between: the larger decay covers all three modes. A sample that finds the recording empty removes nothing, however late. Assumes nothing.
use mathlib.Core.Path.{◌≡◌, refl, sym, ap, ◌∙◌, subst}
use mathlib.Core.Bool.{Bool, true, false, not, ◌&&◌, ◌||◌, cond, true≢false}
use mathlib.Core.List.{List, [], ◌∷◌}
use mathlib.Core.Option.{Option, some}
use Prim.Native.Nat.{ℕ, ◌+◌, ◌≤◌, max}
use borrow.Author.Tests.{eqb-true, not-true}
use lib.Ieee.{Float}
use Rattle.walks.proofs.Lists.Every.{both}
use Rattle.common_types.specs.declared.Params.{Params}
use Rattle.common_types.specs.declared.Note.{Note}
use Rattle.voice.specs.declared.Voice.{Voice}
use Rattle.voice.specs.declared.Tick.{Tick}
use Rattle.voice.specs.Voices.{tick_of, sounded_of, played_out_of, finish_of}
use Rattle.channel.specs.declared.Channel.{Channel}
use Rattle.channel.specs.declared.Change.TheVariants as change
use Rattle.std.specs.Prelude.{Option as Found, Some, None}
use Rattle.channel.specs.Channels.{same_note, unfinished_of, wanted_of, find_of, taken_of}
use Rattle.fates.specs.Engine.{voice_turned, leaves_of, moment_at, held_at}
use Rattle.fates.specs.Events.{Event, idle, changes, gathers, sounds, act, empty_at, tick_at, SampledIn, decay_of, last_of, before_last}
use Rattle.fates.specs.Places.{Housed, voice_at, Place, at, gone, fate_of, follow, finds_at, becomes, stops, out_of, plays_out, finishes, onward, follow_all}
use Rattle.fates.proofs.Own.{sampled_kept, own_turn, own_leaves, becomes_phrase}
use Rattle.fates.proofs.Housing.{housed}
use Rattle.fates.proofs.Stops.{found}
use Rattle.fates.proofs.Tracks.{tracks}
use Rattle.fates.proofs.Ending.{Ending, Turns, finish_ending, ending_turns, ending_sped, out_turns, turns_ending, turns_over}

-- ---- a stop finds no finished voice
stop_unfinished : (note : Note) (c : Channel) (n : ℕ) (v : Voice) → voice_at c n ≡ some v → finds_at (find_of note c) n ≡ true → v.finished ≡ false
unfolding wanted_of
stop_unfinished note c n v s f = go (find_of note c) refl f
  where
    go : (g : Found ℕ) → find_of note c ≡ g → finds_at g n ≡ true → v.finished ≡ false
    go None e f = absurd (true≢false (sym f))
    go (Some i) e f =
        let z : i ≡ n = eqb-true i n f in
        let w = found note c n (e ∙ ap Some z) in
        let q : w.voice ≡ v = cc w.stands in
        not-true v.finished (subst (λ (u : Voice). unfinished_of u ≡ true) q (both (same_note w.voice.note note) (unfinished_of w.voice) w.wanted).1)

-- ---- every event keeps an ending voice ending
ending_on : (e : Event) (c : Channel) (n : ℕ) (v : Voice) (r d : ℕ) → voice_at c n ≡ some v → Ending r d v → Ending r d (becomes e c n v)
unfolding becomes
ending_on idle c n v r d s h = h
ending_on (changes (change.Start p position note velocity)) c n v r d s h = h
ending_on (changes (change.Stop p note)) c n v r d s h = go (finds_at (find_of note c) n) refl
  where
    go : (b : Bool) → finds_at (find_of note c) n ≡ b → Ending r d (cond b (finish_of c.head.now p.decay_samples v) v)
    go true e = absurd (true≢false (sym h.done ∙ stop_unfinished note c n v s e))
    go false e = h
ending_on (changes (change.Speed note speed)) c n v r d s h = ending_sped note speed r d v h
ending_on (changes (change.Head x)) c n v r d s h = h
ending_on (changes change.Reset) c n v r d s h = h
ending_on (gathers m) c n v r d s h = h
ending_on (sounds p x m) c n v r d s h = subst (Ending r d) (sym (own_turn p x m c v)) (go (empty_at m c v))
  where
    t : Tick
    t = tick_at p m c v

    mem : List ℕ
    mem = held_at x m c v

    go : (b : Bool) → Ending r d (cond b v (voice_turned t mem v))
    go true = h
    go false = turns_ending t mem v r d (ending_turns t mem v r d h)

-- ---- the finishing event
out_true : (p : Params) (x : Float) (m : List ℕ) (c : Channel) (o : Option Voice) (v : Voice) → o ≡ some v → out_of p x m c o ≡ true
    → (empty_at m c v ≡ false) × Turns (tick_at p m c v) (held_at x m c v) v c.head.now p.decay_samples
unfolding out_of tick_of moment_at taken_of
out_true p x m c o v s h = go (empty_at m c v) refl (subst (λ (z : Option Voice). out_of p x m c z ≡ true) s h)
  where
    t : Tick
    t = tick_at p m c v

    mem : List ℕ
    mem = held_at x m c v

    go : (b : Bool) → empty_at m c v ≡ b → (not b && played_out_of t (sounded_of t mem v)) ≡ true → (empty_at m c v ≡ false) × Turns t mem v c.head.now p.decay_samples
    go true e h = absurd (true≢false (sym h))
    go false e h = (e, out_turns t mem v h)

finished_ending : (e : Event) (c : Channel) (n : ℕ) (v : Voice) → voice_at c n ≡ some v → finishes e c n ≡ true → Ending c.head.now (decay_of e) (becomes e c n v)
unfolding stops plays_out becomes decay_of
finished_ending idle c n v s f = absurd (true≢false (sym f))
finished_ending (changes (change.Start p position note velocity)) c n v s f = absurd (true≢false (sym f))
finished_ending (changes (change.Stop p note)) c n v s f = go (finds_at (find_of note c) n) f
  where
    go : (b : Bool) → (b || false) ≡ true → Ending c.head.now p.decay_samples (cond b (finish_of c.head.now p.decay_samples v) v)
    go true e = finish_ending c.head.now p.decay_samples v
    go false e = absurd (true≢false (sym e))
finished_ending (changes (change.Speed note speed)) c n v s f = absurd (true≢false (sym f))
finished_ending (changes (change.Head d)) c n v s f = absurd (true≢false (sym f))
finished_ending (changes change.Reset) c n v s f = absurd (true≢false (sym f))
finished_ending (gathers m) c n v s f = absurd (true≢false (sym f))
finished_ending (sounds p x m) c n v s f =
    let t : Tick = tick_at p m c v in
    let mem : List ℕ = held_at x m c v in
    let q = out_true p x m c (voice_at c n) v s f in
    subst (Ending c.head.now p.decay_samples) (sym (own_turn p x m c v ∙ ap (λ (b : Bool). cond b v (voice_turned t mem v)) q.0))
    (turns_ending t mem v c.head.now p.decay_samples q.1)

-- ---- a late sample
late_leaves : (p : Params) (x : Float) (m : List ℕ) (c : Channel) (v : Voice) (r d : ℕ) → Turns (tick_at p m c v) (held_at x m c v) v r d → r + max d p.decay_samples ≤ c.head.now
    → leaves_of (tick_at p m c v) (voice_turned (tick_at p m c v) (held_at x m c v) v) ≡ true
unfolding tick_of moment_at taken_of
late_leaves p x m c v r d h l = turns_over (tick_at p m c v) (held_at x m c v) v r d h l

turns_gone : (p : Params) (x : Float) (m : List ℕ) (c : Channel) (n : ℕ) (v : Voice) (r d : ℕ) → voice_at c n ≡ some v → empty_at m c v ≡ false
    → Turns (tick_at p m c v) (held_at x m c v) v r d → r + max d p.decay_samples ≤ c.head.now → follow (sounds p x m) c n ≡ gone
unfolding follow fate_of
turns_gone p x m c n v r d s e h l = rw (s, own_leaves p x m c v, e, late_leaves p x m c v r d h l)

-- the place after an event, if there is one, and then whatever holds from there on
gone_on : (e : Event) (c : Channel) (es : List Event) (n : ℕ) → ((k : ℕ) → follow e c n ≡ at k → follow_all es (act e c) k ≡ gone) → follow_all (e ∷ es) c n ≡ gone
unfolding follow_all
gone_on e c es n f = go (follow e c n) refl
  where
    go : (z : Place) → follow e c n ≡ z → onward z (λ (k : ℕ). follow_all es (act e c) k) ≡ gone
    go (at k) h = f k h
    go gone h = refl

gone_now : (e : Event) (c : Channel) (n : ℕ) → follow e c n ≡ gone → follow_all (e ∷ []) c n ≡ gone
unfolding follow_all
gone_now e c n h = rw h

fading : (r d : ℕ) (e : Event) (es : List Event) (c : Channel) → Housed c → (n : ℕ) (v : Voice) → voice_at c n ≡ some v → Ending r d v
    → (p : Params) → SampledIn (last_of e es) (before_last e es c) p v → r + max d p.decay_samples ≤ (before_last e es c).head.now → follow_all (e ∷ es) c n ≡ gone
unfolding before_last
fading r d e [] c h n v s w p q l =
    gone_now e c n
    (subst (λ (z : Event). follow z c n ≡ gone) (sym q.sample)
    (turns_gone p q.input q.memory c n v r d s q.finds (ending_turns (tick_at p q.memory c v) (held_at q.input q.memory c v) v r d w) l))
fading r d e (e' ∷ es) c h n v s w p q l =
    gone_on e c (e' ∷ es) n (λ k f. fading r d e' es (act e c) (housed e c h) k (becomes e c n v) (tracks e c h n k v s f) (ending_on e c n v r d s w) p (sampled_kept v (becomes e c n v) (becomes_phrase e c n v) q) l)

pub goes : (e : Event) (es : List Event) (c : Channel) → Housed c → (n : ℕ) (v : Voice) → voice_at c n ≡ some v
    → finishes e c n ≡ true
    → (p : Params) → SampledIn (last_of e es) (before_last e es c) p v
    → c.head.now + max (decay_of e) p.decay_samples ≤ (before_last e es c).head.now
    → follow_all (e ∷ es) c n ≡ gone
unfolding before_last decay_of plays_out stops
goes e [] c h n v s f p q l =
    let w = out_true p q.input q.memory c (voice_at c n) v s (subst (λ (z : Event). finishes z c n ≡ true) q.sample f) in
    let k : c.head.now + max p.decay_samples p.decay_samples ≤ c.head.now
    = subst (λ (z : Event). c.head.now + max (decay_of z) p.decay_samples ≤ c.head.now) q.sample l in
    gone_now e c n
    (subst (λ (z : Event). follow z c n ≡ gone) (sym q.sample) (turns_gone p q.input q.memory c n v c.head.now p.decay_samples s q.finds w.1 k))
goes e (e' ∷ es) c h n v s f p q l =
    gone_on e c (e' ∷ es) n
    (λ k g. fading c.head.now (decay_of e) e' es (act e c) (housed e c h) k (becomes e c n v) (tracks e c h n k v s g) (finished_ending e c n v s f) p (sampled_kept v (becomes e c n v) (becomes_phrase e c n v) q) l)
