-- A turn in which a voice glides changes four of its fields, and the voice stays. Assumes nothing.
use mathlib.Core.Path.{◌≡◌, refl, sym, ap, ◌∙◌, subst}
use Prim.Native.Nat.{ℕ, ◌<◌}
use mathlib.Core.Bool.{Bool, true, false, not, ◌&&◌, cond}
use mathlib.Core.List.{List}
use lib.Ieee.{Float, binary32, mul}
use lib.Ieee.Bits.{is_true}
use lib.Ieee.Fits.{and_l, and_r}
use borrow.Author.Tests.{not-true}
use Rattle.binary32.proofs.Truth.{yes}
use Rattle.volume.specs.Levels.{keeps_of}
use Rattle.volume.proofs.Ends.{stepped_keeps}
use Rattle.clip.specs.declared.Position.{Position}
use Rattle.clip.specs.Positions.{index_of, position_of, position_at, index_at, next_at}
use Rattle.clip.specs.Updates.{same_all}
use Rattle.clip.specs.Quick.{no_index, QuickIndex}
use Rattle.clip.specs.declared.Near.{Near}
use Rattle.voice.specs.Voices.{recorded_value_of, between_of, value_at, value_of, product_of, at_level_of, sounded_of, played_out_of, ended_of, should_remove_of, volume_stepped, turn_of}
use Rattle.voice.specs.Agreeing.{agrees_of}
use Rattle.voice.specs.Gliding.{glides_of, glided_at, glided_of, goes_on_of, QuickBeside, QuickValue, quick_at, Quickly}
use Rattle.voice.specs.declared.Voice.{Voice}
use Rattle.voice.specs.declared.Tick.{Tick}
use Rattle.voice.specs.declared.Quick.{Quick}
use Rattle.voice.proofs.Unmoved.{unmoved, agrees}

module _ (t : Tick) (m : List ℕ) (v : Voice) where
  -- its clip stays, so it sounds at the index that it had
  sounded_glides : agrees_of t v ≡ true → sounded_of t m v ≡ glided_of t m v
  unfolding sounded_of product_of glided_at
  sounded_glides h = simp (unmoved t v h)

  -- whether play-once is over hangs neither on the index nor on the value
  out_at : (index : ℕ) (sample : Float) → played_out_of t (sounded_of t m v) ≡ played_out_of t (glided_at t v index sample)
  unfolding played_out_of sounded_of glided_at
  out_at index sample = refl

  stepped_glided : (index : ℕ) (sample : Float) → keeps_of v.volume t.now ≡ true → volume_stepped t.now (glided_at t v index sample) ≡ glided_at t v index sample
  unfolding volume_stepped glided_at
  stepped_glided index sample h = simp (stepped_keeps v.volume t.now h)

  -- the first four parts of `glides_of` are enough for what the turn comes to
  turn_glides : agrees_of t v ≡ true → keeps_of v.volume t.now ≡ true → played_out_of t (sounded_of t m v) ≡ false → should_remove_of t v ≡ false → turn_of t m v ≡ glided_of t m v
  unfolding turn_of ended_of
  turn_glides a k o r =
      let index : ℕ = index_at v.clip2 t.now in
      let sample : Float = value_of t m v.clip2 in
      simp (r, sounded_glides a, sym (out_at index sample) ∙ o) (stepped_glided index sample k)

  -- ---- the parts of it
  record Parts : Type 0 where
    agrees : agrees_of t v ≡ true
    keeps : keeps_of v.volume t.now ≡ true
    plays_on : played_out_of t (sounded_of t m v) ≡ false
    stays : should_remove_of t v ≡ false
    stays_after : should_remove_of t (turn_of t m v) ≡ false

  parts : glides_of t m v ≡ true → Parts
  unfolding glides_of
  parts h =
      let a : Bool = agrees_of t v in
      let k : Bool = keeps_of v.volume t.now in
      let o : Bool = not (played_out_of t (sounded_of t m v)) in
      let r : Bool = not (should_remove_of t v) in
      let s : Bool = not (should_remove_of t (turn_of t m v)) in
      let h₁ = yes h in
      let h₂ = and_r a (k && (o && (r && s))) h₁ in
      let h₃ = and_r k (o && (r && s)) h₂ in
      let h₄ = and_r o (r && s) h₃ in
      record {
        agrees = is_true a (and_l a (k && (o && (r && s))) h₁);
        keeps = is_true k (and_l k (o && (r && s)) h₂);
        plays_on = not-true _ (is_true o (and_l o (r && s) h₃));
        stays = not-true _ (is_true r (and_l r s h₄));
        stays_after = not-true _ (is_true s (and_r r s h₄));
      }

  -- ---- what such a turn does
  pub record GlidedTurn : Type 0 where
    pub turn : turn_of t m v ≡ glided_of t m v
    pub stays : should_remove_of t v ≡ false
    pub stays_after : should_remove_of t (turn_of t m v) ≡ false

  pub glides : glides_of t m v ≡ true → GlidedTurn
  glides h =
      let p = parts h in
      record { turn = turn_glides p.agrees p.keeps p.plays_on p.stays; stays = p.stays; stays_after = p.stays_after }

  -- every field but the four is what it was
  pub record Held (w : Voice) : Type 0 where
    pub finished_at : w.finished_at ≡ v.finished_at
    pub clip : w.clip2 ≡ v.clip2
    pub volume : w.volume ≡ v.volume
    pub start : w.loop_start_percent ≡ v.loop_start_percent
    pub speed : w.speed ≡ v.speed
    pub note : w.note ≡ v.note
    pub finished : w.finished ≡ v.finished
    pub phrase : w.phrase ≡ v.phrase

  glided_holds : Held (glided_of t m v)
  unfolding glided_at
  glided_holds = record { finished_at = refl; clip = refl; volume = refl; start = refl; speed = refl; note = refl; finished = refl; phrase = refl }

  pub holds : glides_of t m v ≡ true → Held (turn_of t m v)
  holds h = subst Held (sym (glides h).turn) glided_holds

  -- ---- the tests of a quick turn are enough
  going : (w : Voice) → agrees_of t v ≡ true → w ≡ glided_of t m v → keeps_of v.volume t.now ≡ true → goes_on_of t v w ≡ true → (glides_of t m v ≡ true) × (w ≡ turn_of t m v)
  unfolding goes_on_of glides_of
  going w a e k g =
      let o : Bool = not (played_out_of t w) in
      let r : Bool = not (should_remove_of t v) in
      let s : Bool = not (should_remove_of t w) in
      let g₁ = yes g in
      let g₂ = and_r o (r && s) g₁ in
      let out : played_out_of t (sounded_of t m v) ≡ false = out_at _ _ ∙ sym (ap (played_out_of t) e) ∙ not-true (played_out_of t w) (is_true o (and_l o (r && s) g₁)) in
      let stays : should_remove_of t v ≡ false = not-true (should_remove_of t v) (is_true r (and_l r s g₂)) in
      let stays_after : should_remove_of t w ≡ false = not-true (should_remove_of t w) (is_true s (and_r r s g₂)) in
      let turned : turn_of t m v ≡ w = turn_glides a k out stays ∙ sym e in
      (simp (a, k, out, stays, turned, stays_after), sym turned)

  -- whatever way the index was found
  pub quickly_at : (index : ℕ) (sample : Float) → same_all v.clip2 t.span.length (mul binary32 v.speed t.speed) t.span.data_length t.mode ≡ true → index ≡ index_at v.clip2 t.now → sample ≡ value_of t m v.clip2
      → (r : Quick) (keeps : Bool) → r ≡ quick_at t v index (at_level_of t v sample) → keeps ≡ keeps_of v.volume t.now → v.phrase ≡ t.phrase → keeps ≡ true → Quickly t m v r
  unfolding quick_at glided_at
  quickly_at index sample unchanged at valued r keeps is k phrase kept so =
      let w : Voice = glided_at t v index sample in
      let same : w ≡ glided_of t m v = ap (λ (i : ℕ). glided_at t v i sample) at ∙ ap (glided_at t v (index_at v.clip2 t.now)) valued in
      let goes_on = going w (agrees t v unchanged) same (sym k ∙ kept) (sym (ap (λ (q : Quick). q.glides) is) ∙ so) in
      (phrase, goes_on.0, ap (λ (q : Quick). q.voice) is ∙ goes_on.1)

  -- ---- each as a call answers it
  module _ (near : Near) (next : ℕ) (sample : Float) (found : QuickIndex v.clip2 t.now t.span.length (mul binary32 v.speed t.speed) t.span.data_length t.mode near)
      (beside : QuickBeside v.clip2 near.index t next) (value : QuickValue t m near next sample) (some : near.index < no_index) (more : next < no_index) where
    -- what was found quickly is the clip's position, and its next index where that is heard
    valued : sample ≡ value_of t m v.clip2
    unfolding value_of index_at
    valued =
        let at = found some in
        value some (at.1 ∙ ap index_of (sym at.2)) at.3
        ∙ ap (λ (x : Float). value_at t m (position_of x) next) at.2
        ∙ go t.interpolates (beside more (mul binary32 v.speed t.speed) at.0)
      where
        p : Position
        p = position_at v.clip2 t.now

        go : (b : Bool) → next ≡ cond b (next_at v.clip2 t.now) near.index
            → cond b (between_of (recorded_value_of m p.index) (recorded_value_of m next) p.fraction) (recorded_value_of m p.index)
            ≡ cond b (between_of (recorded_value_of m p.index) (recorded_value_of m (next_at v.clip2 t.now)) p.fraction) (recorded_value_of m p.index)
        go true e = ap (λ (i : ℕ). between_of (recorded_value_of m p.index) (recorded_value_of m i) p.fraction) e
        go false e = refl

    pub answered : (r : Quick) (keeps : Bool) → r ≡ quick_at t v near.index (at_level_of t v sample) → keeps ≡ keeps_of v.volume t.now → v.phrase ≡ t.phrase → keeps ≡ true → Quickly t m v r
    answered r keeps =
        let at = found some in
        quickly_at near.index sample at.0 at.1 valued r keeps
