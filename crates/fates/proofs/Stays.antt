-- Stays: no voice leaves before a stop or play-once has finished it. An event other than a reset that doesn't finish an unfinished voice keeps it, unfinished; it may be the leaving event itself that finishes it,
-- as play-once does with no decay. Assumes nothing.
use mathlib.Core.Path.{◌≡◌, refl, sym, ap, ◌∙◌, subst}
use mathlib.Core.Bool.{Bool, true, false, not, ◌&&◌, cond, true≢false}
use mathlib.Core.List.{List, [], ◌∷◌}
use mathlib.Core.Option.{Option, some}
use Prim.Native.Nat.{ℕ}
use lib.ListN.{length, take}
use lib.Ieee.{Float}
use Rattle.std.specs.List.{list_any}
use Rattle.common_types.specs.declared.Note.{Note}
use Rattle.voice.specs.declared.Voice.{Voice}
use Rattle.voice.specs.declared.Tick.{Tick}
use Rattle.voice.specs.Voices.{should_remove_of, sounded_of, played_out_of, ended_of, volume_stepped, at_speed_of}
use Rattle.channel.specs.declared.Channel.{Channel}
use Rattle.channel.specs.declared.Change.TheVariants as change
use Rattle.channel.specs.Channels.{live, find_of, same_note, sped_of, kept_of}
use Rattle.fates.specs.Engine.{passes_over, voice_turned, leaves_of, held_at, turns_in}
use Rattle.fates.specs.Events.{Event, idle, changes, gathers, sounds, act, acts, is_reset, empty_at, tick_at}
use Rattle.fates.specs.Places.{
  Housed,
  voice_at,
  Place,
  at,
  gone,
  fate_of,
  follow,
  finds_at,
  becomes,
  stops,
  out_of,
  plays_out,
  finishes,
  onward,
  follow_all,
  somewhere,
  finished_in,
}
use Rattle.walks.proofs.Tests.{neither, either}
use Rattle.fates.proofs.Own.{own_turn, own_leaves, becomes_phrase}
use Rattle.fates.proofs.Housing.{housed}
use Rattle.fates.proofs.Tracks.{gone_never, tracks}

-- ---- one turn
-- an unfinished voice is not passed over,
pub unfinished_sounds : (t : Tick) (v : Voice) → v.finished ≡ false → passes_over t v ≡ false
unfolding passes_over should_remove_of
unfinished_sounds t v h = rw h

-- and doesn't leave
unfinished_stays : (t : Tick) (u : Voice) → u.finished ≡ false → leaves_of t u ≡ false
unfolding leaves_of
unfinished_stays t u h = rw h

pub turn_unfinished : (t : Tick) (m : List ℕ) (v : Voice) → v.finished ≡ false → played_out_of t (sounded_of t m v) ≡ false → (voice_turned t m v).finished ≡ false
unfolding voice_turned volume_stepped ended_of sounded_of
turn_unfinished t m v h k = rw (unfinished_sounds t v h, k) h

sped_finished : (note : Note) (speed : Float) (v : Voice) → (sped_of note speed v).finished ≡ v.finished
unfolding sped_of at_speed_of
sped_finished note speed v = either (λ (w : Voice). w.finished) (same_note v.note note) (at_speed_of speed v) v v.finished refl refl

-- ---- one event
pub record Stays (e : Event) (c : Channel) (n : ℕ) (v : Voice) : Type 0 where
  pub place : ℕ
  pub follows : follow e c n ≡ at place
  pub unfinished : (becomes e c n v).finished ≡ false

pub stays_one : (e : Event) (c : Channel) → is_reset e ≡ false → (n : ℕ) (v : Voice) → voice_at c n ≡ some v → v.finished ≡ false → finishes e c n ≡ false → Stays e c n v
unfolding follow becomes stops plays_out is_reset fate_of out_of
stays_one idle c r n v s u f = record { place = n; follows = refl; unfinished = u }
stays_one (changes (change.Start p position note velocity)) c r n v s u f = record { place = n; follows = refl; unfinished = u }
stays_one (changes (change.Stop p note)) c r n v s u f = record { place = n; follows = refl; unfinished = rw (neither (finds_at (find_of note c) n) false f).0 u }
stays_one (changes (change.Speed note speed)) c r n v s u f = record { place = n; follows = refl; unfinished = sped_finished note speed v ∙ u }
stays_one (changes (change.Head d)) c r n v s u f = record { place = n; follows = refl; unfinished = u }
stays_one (changes change.Reset) c r n v s u f = absurd (true≢false r)
stays_one (gathers m) c r n v s u f = record { place = n; follows = refl; unfinished = u }
stays_one (sounds p x m) c r n v s u f = go (empty_at m c v) refl (subst (λ (o : Option Voice). out_of p x m c o ≡ false) s f)
  where
    t : Tick
    t = tick_at p m c v

    mem : List ℕ
    mem = held_at x m c v

    stay : (b : Bool) → empty_at m c v ≡ b → cond b false (leaves_of t (voice_turned t mem v)) ≡ false → (cond b v (voice_turned t mem v)).finished ≡ false → Stays (sounds p x m) c n v
    stay b e leaves unfinished = record {
      place = length (kept_of (turns_in p x m c) (take n (live c)));
      follows = rw (s, own_leaves p x m c v, e, leaves);
      unfinished = ap (λ (w : Voice). w.finished) (own_turn p x m c v ∙ ap (λ (z : Bool). cond z v (voice_turned t mem v)) e) ∙ unfinished;
    }

    go : (b : Bool) → empty_at m c v ≡ b → (not b && played_out_of t (sounded_of t mem v)) ≡ false → Stays (sounds p x m) c n v
    go true e f = stay true e refl u
    go false e f =
        let w = turn_unfinished t mem v u f in
        stay false e (unfinished_stays t (voice_turned t mem v) w) w

-- ---- any events without a reset
pub record StaysAll (es : List Event) (c : Channel) (n : ℕ) (v : Voice) : Type 0 where
  pub place : ℕ
  pub voice : Voice
  pub follows : follow_all es c n ≡ at place
  pub stands : voice_at (acts es c) place ≡ some voice
  pub unfinished : voice.finished ≡ false
  pub phrase : voice.phrase ≡ v.phrase

pub stays_all : (es : List Event) (c : Channel) → Housed c → list_any is_reset es ≡ false → (n : ℕ) (v : Voice) → voice_at c n ≡ some v → v.finished ≡ false
    → finished_in es c n ≡ false → StaysAll es c n v
unfolding acts follow_all finished_in
stays_all [] c h r n v s u f = record { place = n; voice = v; follows = refl; stands = s; unfinished = u; phrase = refl }
stays_all (e ∷ es) c h r n v s u f =
    let a = neither (is_reset e) (list_any is_reset es) r in
    let b = neither (finishes e c n) (somewhere (follow e c n) (λ (k : ℕ). finished_in es (act e c) k)) f in
    let w = stays_one e c a.0 n v s u b.0 in
    let g : finished_in es (act e c) w.place ≡ false = subst (λ (z : Place). somewhere z (λ (k : ℕ). finished_in es (act e c) k) ≡ false) w.follows b.1 in
    let q = stays_all es (act e c) (housed e c h) a.1 w.place (becomes e c n v) (tracks e c h n w.place v s w.follows) w.unfinished g in
    record {
      place = q.place;
      voice = q.voice;
      follows = ap (λ (z : Place). onward z (λ (k : ℕ). follow_all es (act e c) k)) w.follows ∙ q.follows;
      stands = q.stands;
      unfinished = q.unfinished;
      phrase = q.phrase ∙ becomes_phrase e c n v;
    }

pub stays : (es : List Event) (c : Channel) → Housed c → list_any is_reset es ≡ false → (n : ℕ) (v : Voice) → voice_at c n ≡ some v → v.finished ≡ false
    → follow_all es c n ≡ gone → finished_in es c n ≡ true
stays es c h r n v s u g = go (finished_in es c n) refl
  where
    go : (b : Bool) → finished_in es c n ≡ b → b ≡ true
    go true e = refl
    go false e = let q = stays_all es c h r n v s u e in absurd (gone_never q.place (sym g ∙ q.follows))
