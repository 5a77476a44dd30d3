-- On time: a start on a recording that isn't empty sounds in the next sample of its channel, which has the start's count, unless that voice is stopped first or the recording is empty by then.
-- "Stopped" is by a stop that finds that very voice: with several of one note a stop goes to the oldest. Assumes nothing.
use mathlib.Core.Path.{◌≡◌, refl, sym, ap, ◌∙◌, subst}
use mathlib.Core.Bool.{Bool, true, false, cond, true≢false}
use mathlib.Core.List.{List, [], ◌∷◌, ◌++◌}
use mathlib.Core.Option.{some}
use Prim.Native.Nat.{ℕ, ◌<◌}
use borrow.Author.Tests.{lt-ltb}
use lib.Dec.{eqb}
use lib.ListN.{length, get_elem?}
use lib.Ieee.{Float}
use Rattle.std.specs.List.{list_any}
use Rattle.common_types.specs.declared.Params.{Params}
use Rattle.common_types.specs.declared.Note.{Note}
use Rattle.voice.specs.declared.Voice.{Voice}
use Rattle.voice.specs.Voices.{finish_of, fresh_of, at_speed_of}
use Rattle.channel.specs.declared.Channel.{Channel}
use Rattle.channel.specs.declared.Change.TheVariants as change
use Rattle.channel.specs.Channels.{live, same_note, sped_of}
use Rattle.fates.specs.Engine.{born_of}
use Rattle.fates.specs.Events.{Event, idle, changes, gathers, sounds, act, acts, is_reset, is_sample, empty_at}
use Rattle.fates.specs.Places.{Housed, voice_at, Place, at, follow, becomes, added_by, stops, onward, follow_all, somewhere, stopped_in}
use Rattle.fates.specs.Sounding.{First}
use Rattle.walks.proofs.Tests.{neither}
use Rattle.walks.proofs.Lists.Looks.{look_last}
use Rattle.fates.proofs.Own.{finds_kept}
use Rattle.fates.proofs.Lives.{live_started}
use Rattle.fates.proofs.Housing.{housed}
use Rattle.fates.proofs.Tracks.{tracks}
use Rattle.fates.proofs.Terms.{sounds_each}
use Rattle.fates.proofs.Clocks.{clock_stands}

-- ---- between samples a voice that isn't stopped keeps its place, and all but its speed
pub record Waits (es : List Event) (c : Channel) (n : ℕ) (v : Voice) : Type 0 where
  pub voice : Voice
  pub follows : follow_all es c n ≡ at n
  pub stands : voice_at (acts es c) n ≡ some voice
  pub same : voice ≡ at_speed_of voice.speed v

itself : (v : Voice) → v ≡ at_speed_of v.speed v
unfolding at_speed_of
itself v = refl

sped_same : (note : Note) (speed : Float) (v : Voice) → sped_of note speed v ≡ at_speed_of (sped_of note speed v).speed v
unfolding sped_of at_speed_of
sped_same note speed v = go (same_note v.note note)
  where
    go : (b : Bool) → cond b (at_speed_of speed v) v ≡ at_speed_of (cond b (at_speed_of speed v) v).speed v
    go true = refl
    go false = refl

wait_place : (e : Event) (c : Channel) (n : ℕ) → is_reset e ≡ false → is_sample e ≡ false → follow e c n ≡ at n
unfolding follow is_sample
wait_place idle c n r q = refl
wait_place (changes d) c n r q = rw r
wait_place (gathers m) c n r q = refl
wait_place (sounds p x m) c n r q = absurd (true≢false q)

wait_same : (e : Event) (c : Channel) (n : ℕ) (v : Voice) → is_sample e ≡ false → stops e c n ≡ false → becomes e c n v ≡ at_speed_of (becomes e c n v).speed v
unfolding becomes is_sample stops
wait_same idle c n v q f = itself v
wait_same (changes (change.Start p position note velocity)) c n v q f = itself v
wait_same (changes (change.Stop p note)) c n v q f =
    subst (λ (b : Bool). cond b (finish_of c.head.now p.decay_samples v) v ≡ at_speed_of (cond b (finish_of c.head.now p.decay_samples v) v).speed v) (sym f) (itself v)
wait_same (changes (change.Speed note speed)) c n v q f = sped_same note speed v
wait_same (changes (change.Head d)) c n v q f = itself v
wait_same (changes change.Reset) c n v q f = itself v
wait_same (gathers m) c n v q f = itself v
wait_same (sounds p x m) c n v q f = absurd (true≢false q)

same_on : (u v w : Voice) → v ≡ at_speed_of v.speed w → u ≡ at_speed_of u.speed v → u ≡ at_speed_of u.speed w
unfolding at_speed_of
same_on u v w h k = k ∙ ap (λ (z : Voice). at_speed_of u.speed z) h

pub waits : (es : List Event) (c : Channel) → Housed c → list_any is_reset es ≡ false → list_any is_sample es ≡ false → (n : ℕ) (v : Voice) → voice_at c n ≡ some v
    → stopped_in es c n ≡ false → Waits es c n v
unfolding acts follow_all stopped_in
waits [] c h r q n v s f = record { voice = v; follows = refl; stands = s; same = itself v }
waits (e ∷ es) c h r q n v s f =
    let a = neither (is_reset e) (list_any is_reset es) r in
    let b = neither (is_sample e) (list_any is_sample es) q in
    let g = neither (stops e c n) (somewhere (follow e c n) (λ (k : ℕ). stopped_in es (act e c) k)) f in
    let k = wait_place e c n a.0 b.0 in
    let i : stopped_in es (act e c) n ≡ false = subst (λ (z : Place). somewhere z (λ (k : ℕ). stopped_in es (act e c) k) ≡ false) k g.1 in
    let w = waits es (act e c) (housed e c h) a.1 b.1 n (becomes e c n v) (tracks e c h n n v s k) i in
    record {
      voice = w.voice;
      follows = ap (λ (z : Place). onward z (λ (k : ℕ). follow_all es (act e c) k)) k ∙ w.follows;
      stands = w.stands;
      same = same_on w.voice (becomes e c n v) v (wait_same e c n v b.0 g.0) w.same;
    }

-- ---- a start
module _ (p₀ : Params) (position : Float) (note : Note) (velocity : Float) where
  abbrev pub begin : Event
  begin = changes (change.Start p₀ position note velocity)

  module _ (c : Channel) (h : Housed c) (e : eqb c.head.data_len 0 ≡ false) (k : c.count < 32) where
    -- it takes the place at the end
    pub taken : live (act begin c) ≡ live c ++ (born_of p₀ position note velocity c ∷ [])
    unfolding act added_by
    taken = live_started p₀ position note velocity c h ∙ rw (e, lt-ltb c.count 32 k)

    pub stands : voice_at (act begin c) (length (live c)) ≡ some (born_of p₀ position note velocity c)
    stands = subst (λ (l : List Voice). get_elem? l (length (live c)) ≡ some (born_of p₀ position note velocity c)) (sym taken) (look_last (live c) (born_of p₀ position note velocity c))

    pub on_time : (es : List Event) → list_any is_reset es ≡ false → list_any is_sample es ≡ false → stopped_in es (act begin c) (length (live c)) ≡ false
        → (p : Params) (x : Float) (m : List ℕ) → empty_at m (acts (begin ∷ es) c) (born_of p₀ position note velocity c) ≡ false
        → First p x m (acts (begin ∷ es) c) (length (live c)) (born_of p₀ position note velocity c)
    unfolding acts at_speed_of fresh_of is_reset is_sample
    on_time es r q f p x m g =
        let w = waits es (act begin c) (housed begin c h) r q (length (live c)) (born_of p₀ position note velocity c) stands f in
        let z = clock_stands (begin ∷ es) c r q in
        record {
          voice = w.voice;
          sounds = sounds_each p x m (acts es (act begin c)) (length (live c)) w.voice w.stands (ap (λ (v : Voice). v.finished) w.same) (finds_kept m (acts es (act begin c)) (born_of p₀ position note velocity c) w.voice (ap (λ (v : Voice). v.phrase) w.same) g);
          as_started = w.same;
          since = ap (λ (v : Voice). v.clip2.since) w.same ∙ sym z;
        }
