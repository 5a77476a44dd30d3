-- Steady: where no sample asks for another length, speed, data length or mode, a voice keeps the clip that it has, and sounds by it where it then stands. Assumes nothing.
use mathlib.Core.Path.{◌≡◌, refl, sym, ap, ◌∙◌, subst}
use mathlib.Core.Bool.{Bool, true, false, not, ◌&&◌, cond}
use mathlib.Core.List.{List, [], ◌∷◌, ◌++◌}
use mathlib.Core.Option.{Option, some}
use Prim.Native.Nat.{ℕ}
use lib.Ieee.{Float, binary32, mul}
use Rattle.std.specs.List.{list_any}
use Rattle.common_types.specs.declared.Params.{Params}
use Rattle.volume.specs.Levels.{level_of}
use Rattle.clip.specs.declared.Clip.{Clip}
use Rattle.clip.specs.Positions.{index_at}
use Rattle.voice.specs.declared.Voice.{Voice}
use Rattle.voice.specs.declared.Tick.{Tick}
use Rattle.voice.specs.Voices.{tick_of, moved_of, value_of, product_of, sounded_of, finish_of, played_out_of, ended_of, volume_stepped, at_speed_of}
use Rattle.voice.specs.Agreeing.{agrees_of}
use Rattle.voice.proofs.Unmoved.{unmoved}
use Rattle.channel.specs.declared.Channel.{Channel}
use Rattle.channel.specs.declared.Change.TheVariants as change
use Rattle.channel.specs.Channels.{find_of, same_note, sped_of, taken_of}
use Rattle.fates.specs.Engine.{passes_over, voice_turned, moment_at, held_at}
use Rattle.fates.specs.Events.{Event, idle, changes, gathers, sounds, act, acts, is_reset, empty_at, tick_at}
use Rattle.fates.specs.Places.{Housed, voice_at, Place, at, gone, follow, finds_at, becomes, onward, follow_all, somewhere, finished_in}
use Rattle.fates.specs.Sounding.{term_of, Sounds}
use Rattle.fates.specs.Steady.{disagrees, alters, altered_in}
use Rattle.walks.proofs.Tests.{neither, either}
use borrow.Author.Tests.{not-false}
use Rattle.fates.proofs.Own.{finds_kept, own_turn}
use Rattle.fates.proofs.Housing.{housed}
use Rattle.fates.proofs.Tracks.{at_same, gone_never, tracks}
use Rattle.fates.proofs.Stays.{unfinished_sounds, stays_all}
use Rattle.fates.proofs.Terms.{sounds_each}

-- ---- one turn
module _ (t : Tick) (m : List ℕ) (v : Voice) (a : agrees_of t v ≡ true) where
  turned_clip : (voice_turned t m v).clip2 ≡ v.clip2
  unfolding voice_turned volume_stepped ended_of sounded_of finish_of
  turned_clip =
      let u = sounded_of t m v in
      either (λ (w : Voice). w.clip2) (passes_over t v) v (ended_of t u) v.clip2 refl
      (either (λ (w : Voice). w.clip2) (played_out_of t u) (finish_of t.now t.decay_samples u) u v.clip2 (unmoved t v a) (unmoved t v a))

  -- its term
  product_is : product_of t m v ≡ mul binary32 (value_of t m v.clip2) (level_of v.volume t.now)
  unfolding product_of
  product_is = ap (λ (q : Clip). mul binary32 (value_of t m q) (level_of v.volume t.now)) (unmoved t v a)

  -- the index that it keeps, where it sounds
  turned_last : v.finished ≡ false → (voice_turned t m v).last_sample_index ≡ index_at v.clip2 t.now
  unfolding voice_turned volume_stepped ended_of sounded_of finish_of
  turned_last f =
      let u = sounded_of t m v in
      let i : index_at (moved_of t v) t.now ≡ index_at v.clip2 t.now = ap (λ (q : Clip). index_at q t.now) (unmoved t v a) in
      ap (λ (b : Bool). (cond b v (ended_of t u)).last_sample_index) (unfinished_sounds t v f)
      ∙ either (λ (w : Voice). w.last_sample_index) (played_out_of t u) (finish_of t.now t.decay_samples u) u (index_at v.clip2 t.now) i i

-- ---- one event
-- a sample that finds the recording and changes no field agrees
agrees : (p : Params) (x : Float) (m : List ℕ) (c : Channel) (n : ℕ) (v : Voice) → voice_at c n ≡ some v → empty_at m c v ≡ false → alters (sounds p x m) c n ≡ false
    → agrees_of (tick_at p m c v) v ≡ true
unfolding alters disagrees
agrees p x m c n v s e h =
    not-false (agrees_of (tick_at p m c v) v)
    (subst (λ (b : Bool). (not b && not (agrees_of (tick_at p m c v) v)) ≡ false) e (subst (λ (o : Option Voice). disagrees p m c o ≡ false) s h))

becomes_clip : (e : Event) (c : Channel) (n : ℕ) (v : Voice) → voice_at c n ≡ some v → alters e c n ≡ false → (becomes e c n v).clip2 ≡ v.clip2
unfolding becomes finish_of sped_of at_speed_of
becomes_clip idle c n v s h = refl
becomes_clip (changes (change.Start p position note velocity)) c n v s h = refl
becomes_clip (changes (change.Stop p note)) c n v s h =
    either (λ (w : Voice). w.clip2) (finds_at (find_of note c) n) (finish_of c.head.now p.decay_samples v) v v.clip2 refl refl
becomes_clip (changes (change.Speed note speed)) c n v s h = either (λ (w : Voice). w.clip2) (same_note v.note note) (at_speed_of speed v) v v.clip2 refl refl
becomes_clip (changes (change.Head d)) c n v s h = refl
becomes_clip (changes change.Reset) c n v s h = refl
becomes_clip (gathers m) c n v s h = refl
becomes_clip (sounds p x m) c n v s h = ap (λ (w : Voice). w.clip2) (own_turn p x m c v) ∙ go (empty_at m c v) refl
  where
    go : (b : Bool) → empty_at m c v ≡ b → (cond b v (voice_turned (tick_at p m c v) (held_at x m c v) v)).clip2 ≡ v.clip2
    go true e = refl
    go false e = turned_clip (tick_at p m c v) (held_at x m c v) v (agrees p x m c n v s e h)

-- ---- any events
-- where none is left to come, the place is reached
reached : (c : Channel) (n k : ℕ) → follow_all [] c n ≡ at k → n ≡ k
unfolding follow_all
reached c n k f = at_same n k f

-- the place after the first of them
followed : (e : Event) (es : List Event) (c : Channel) (n k : ℕ) → follow_all (e ∷ es) c n ≡ at k → (i : ℕ) × (follow e c n ≡ at i) × (follow_all es (act e c) i ≡ at k)
unfolding follow_all
followed e es c n k f = go (follow e c n) refl f
  where
    go : (z : Place) → follow e c n ≡ z → onward z (λ (i : ℕ). follow_all es (act e c) i) ≡ at k → (i : ℕ) × (follow e c n ≡ at i) × (follow_all es (act e c) i ≡ at k)
    go (at i) g f = (i, g, f)
    go gone g f = absurd (gone_never k f)

-- where nothing is altered in them, nothing is in the first, nor in the others
unaltered_first : (e : Event) (es : List Event) (c : Channel) (n : ℕ) → altered_in (e ∷ es) c n ≡ false → alters e c n ≡ false
unfolding altered_in
unaltered_first e es c n a = (neither (alters e c n) (somewhere (follow e c n) (λ (k : ℕ). altered_in es (act e c) k)) a).0

unaltered_rest : (e : Event) (es : List Event) (c : Channel) (n i : ℕ) → follow e c n ≡ at i → altered_in (e ∷ es) c n ≡ false → altered_in es (act e c) i ≡ false
unfolding altered_in
unaltered_rest e es c n i g a =
    subst (λ (z : Place). somewhere z (λ (k : ℕ). altered_in es (act e c) k) ≡ false) g
    (neither (alters e c n) (somewhere (follow e c n) (λ (k : ℕ). altered_in es (act e c) k)) a).1

-- at place n of the channel stands a voice with the clip q
pub record Keeps (c : Channel) (n : ℕ) (q : Clip) : Type 0 where
  pub voice : Voice
  pub stands : voice_at c n ≡ some voice
  pub clip : voice.clip2 ≡ q

-- the events es, and a last one e: neither alters the clip of the voice v
pub record Unaltered (es : List Event) (e : Event) (c : Channel) (k : ℕ) (q : Clip) : Type 0 where
  pub keeps : Keeps (acts es c) k q
  pub last : alters e (acts es c) k ≡ false

pub steady : (es : List Event) (e : Event) (c : Channel) → Housed c → (n k : ℕ) (v : Voice) → voice_at c n ≡ some v → follow_all es c n ≡ at k → altered_in (es ++ (e ∷ [])) c n ≡ false
    → Unaltered es e c k v.clip2
unfolding acts
steady [] e c h n k v s f a =
    let z = reached c n k f in
    record {
      keeps = record { voice = v; stands = subst (λ (i : ℕ). voice_at c i ≡ some v) z s; clip = refl };
      last = subst (λ (i : ℕ). alters e c i ≡ false) z (unaltered_first e [] c n a);
    }
steady (d ∷ es) e c h n k v s f a =
    let g = followed d es c n k f in
    let i = g.0 in
    let r = steady es e (act d c) (housed d c h) i k (becomes d c n v) (tracks d c h n i v s g.1) g.2 (unaltered_rest d (es ++ (e ∷ [])) c n i g.1 a) in
    record {
      keeps = record { voice = r.keeps.voice; stands = r.keeps.stands; clip = r.keeps.clip ∙ becomes_clip d c n v s (unaltered_first d (es ++ (e ∷ [])) c n a) };
      last = r.last;
    }

-- ---- a sample at the end of them
-- the voice at place n of the channel sounds by the clip q
pub record Beats (p : Params) (x : Float) (m : List ℕ) (c : Channel) (n : ℕ) (q : Clip) : Type 0 where
  pub voice : Voice
  pub finds : empty_at m c voice ≡ false
  pub sounds : Sounds p x m c n voice
  pub clip : voice.clip2 ≡ q
  pub term : term_of p x m c voice ≡ mul binary32 (value_of (tick_at p m c voice) (held_at x m c voice) q) (level_of voice.volume c.head.now)
  pub last : (voice_turned (tick_at p m c voice) (held_at x m c voice) voice).last_sample_index ≡ index_at q c.head.now

module _ (p : Params) (x : Float) (m : List ℕ) where
  beat : (c : Channel) (n : ℕ) (v : Voice) → voice_at c n ≡ some v → v.finished ≡ false → empty_at m c v ≡ false → alters (sounds p x m) c n ≡ false → Beats p x m c n v.clip2
  unfolding tick_of moment_at taken_of
  beat c n v s u e a =
      let t = tick_at p m c v in
      let mem = held_at x m c v in
      let b = agrees p x m c n v s e a in
      record { voice = v; finds = e; sounds = sounds_each p x m c n v s u e; clip = refl; term = product_is t mem v b; last = turned_last t mem v b u }

  pub record BeatsAt (es : List Event) (c : Channel) (n : ℕ) (q : Clip) : Type 0 where
    pub place : ℕ
    pub follows : follow_all es c n ≡ at place
    pub beats : Beats p x m (acts es c) place q

  pub beats_at : (es : List Event) (c : Channel) → Housed c → list_any is_reset es ≡ false → (n : ℕ) (v : Voice) → voice_at c n ≡ some v → v.finished ≡ false → finished_in es c n ≡ false
      → empty_at m (acts es c) v ≡ false → altered_in (es ++ (sounds p x m ∷ [])) c n ≡ false → BeatsAt es c n v.clip2
  beats_at es c h r n v s u f e a =
      let w = stays_all es c h r n v s u f in
      let k = steady es (sounds p x m) c h n w.place v s w.follows a in
      let same : w.voice ≡ k.keeps.voice = alike w.voice k.keeps.voice (sym w.stands ∙ k.keeps.stands) in
      record {
        place = w.place;
        follows = w.follows;
        beats = subst (Beats p x m (acts es c) w.place) (ap (λ (y : Voice). y.clip2) same ∙ k.keeps.clip) (beat (acts es c) w.place w.voice w.stands w.unfinished (finds_kept m (acts es c) v w.voice w.phrase e) k.last);
      }
    where
      alike : (a b : Voice) → some a ≡ some b → a ≡ b
      alike a b h = cc

  -- after the sample, where it is still there
  pub shown : (c : Channel) → Housed c → (n i : ℕ) (q : Clip) (b : Beats p x m c n q) → follow (sounds p x m) c n ≡ at i
      → (u : Voice) × (voice_at (act (sounds p x m) c) i ≡ some u) × (u.last_sample_index ≡ index_at q c.head.now)
  unfolding becomes
  shown c h n i q b f =
      let v = b.voice in (
        becomes (sounds p x m) c n v,
        tracks (sounds p x m) c h n i v b.sounds.stands f,
        ap (λ (w : Voice). w.last_sample_index) (own_turn p x m c v ∙ ap (λ (t : Bool). cond t v (voice_turned (tick_at p m c v) (held_at x m c v) v)) b.finds) ∙ b.last,
      )
