-- An unfinished voice sounds in each sample in which it finds its recording not empty. Assumes nothing.
use mathlib.Core.Path.{◌≡◌, refl, ap, ◌∙◌}
use mathlib.Core.Bool.{Bool, true, false, ◌||◌, cond}
use mathlib.Core.List.{List, [], ◌∷◌, ◌++◌}
use mathlib.Core.Option.{some}
use Prim.Native.Nat.{ℕ, zero, suc}
use lib.ListN.{take, drop, get_elem?}
use lib.Ieee.{Float, binary32, add, mul}
use Rattle.std.specs.List.{list_any, fold}
use Rattle.common_types.specs.declared.Params.{Params}
use Rattle.binary32.specs.Leaves.{zero32}
use Rattle.volume.specs.Levels.{level_of}
use Rattle.voice.specs.declared.Voice.{Voice}
use Rattle.channel.specs.declared.Channel.{Channel}
use Rattle.channel.specs.Channels.{live, heard_sum, added_of}
use Rattle.fates.specs.Engine.{passes_over, turns_in}
use Rattle.fates.specs.Events.{Event, acts, is_reset, empty_at, tick_at}
use Rattle.fates.specs.Places.{Housed, voice_at, at, follow_all, finished_in}
use Rattle.fates.specs.Sounding.{term_of, terms_of, total_of, Sounds}
use Rattle.walks.proofs.Lists.Looks.{never}
use Rattle.fates.proofs.Own.{finds_kept, own_adds, step_output}
use Rattle.fates.proofs.Stays.{unfinished_sounds, stays_all}

module _ (p : Params) (x : Float) (m : List ℕ) (c : Channel) where
  -- a voice that adds none
  abbrev skips : Voice → Bool
  skips v = empty_at m c v || passes_over (tick_at p m c v) v

  -- the output from `out` on
  heard_from : (out : Float) (vs : List Voice) → fold (turns_in p x m c).adds out vs ≡ fold (add binary32) out (terms_of p x m c vs)
  unfolding terms_of added_of
  heard_from out [] = refl
  heard_from out (v ∷ vs) =
      ap (λ (y : Float). fold (turns_in p x m c).adds y vs) (own_adds p x m c v out)
      ∙ go (skips v) (heard_from out vs) (heard_from (add binary32 out (term_of p x m c v)) vs)
    where
      go : (b : Bool)
          → fold (turns_in p x m c).adds out vs ≡ fold (add binary32) out (terms_of p x m c vs)
          → fold (turns_in p x m c).adds (add binary32 out (term_of p x m c v)) vs ≡ fold (add binary32) (add binary32 out (term_of p x m c v)) (terms_of p x m c vs)
          → fold (turns_in p x m c).adds (added_of b out (term_of p x m c v)) vs ≡ fold (add binary32) out (cond b (terms_of p x m c vs) (term_of p x m c v ∷ terms_of p x m c vs))
      go true silent sounding = silent
      go false silent sounding = sounding

  heard_total : (vs : List Voice) → heard_sum (turns_in p x m c) vs ≡ total_of (terms_of p x m c vs)
  unfolding heard_sum total_of
  heard_total vs = heard_from zero32 vs

  terms_split : (vs : List Voice) (n : ℕ) (v : Voice) → get_elem? vs n ≡ some v → skips v ≡ false
      → terms_of p x m c vs ≡ terms_of p x m c (take n vs) ++ (term_of p x m c v ∷ terms_of p x m c (drop (suc n) vs))
  unfolding terms_of
  terms_split [] n v h k = absurd (never v h)
  terms_split (u ∷ vs) zero v h k = let e : v ≡ u = cc in rw (← e, k)
  terms_split (u ∷ vs) (suc n) v h k = go (skips u) (terms_split vs n v h k)
    where
      go : (b : Bool) → terms_of p x m c vs ≡ terms_of p x m c (take n vs) ++ (term_of p x m c v ∷ terms_of p x m c (drop (suc n) vs))
          → cond b (terms_of p x m c vs) (term_of p x m c u ∷ terms_of p x m c vs)
          ≡ cond b (terms_of p x m c (take n vs)) (term_of p x m c u ∷ terms_of p x m c (take n vs)) ++ (term_of p x m c v ∷ terms_of p x m c (drop (suc n) vs))
      go true r = r
      go false r = ap (λ (xs : List Float). term_of p x m c u ∷ xs) r

  pub sounds_each : (n : ℕ) (v : Voice) → voice_at c n ≡ some v → v.finished ≡ false → empty_at m c v ≡ false → Sounds p x m c n v
  sounds_each n v s u e =
      let k : skips v ≡ false = rw (e, unfinished_sounds (tick_at p m c v) v u) in
      record {
        stands = s;
        unfinished = u;
        output = step_output p x m c
            ∙ ap (λ (y : Float). add binary32 (add binary32 zero32 y) (mul binary32 x (level_of c.head.passthru_volume c.head.now)))
            (heard_total (live c) ∙ ap total_of (terms_split (live c) n v s k));
      }

-- and so until it is finished, at whatever place it then has
pub record Later (p : Params) (x : Float) (m : List ℕ) (es : List Event) (c : Channel) (n : ℕ) : Type 0 where
  pub place : ℕ
  pub voice : Voice
  pub follows : follow_all es c n ≡ at place
  pub sounds : Sounds p x m (acts es c) place voice

pub sounds_later : (es : List Event) (c : Channel) → Housed c → list_any is_reset es ≡ false → (n : ℕ) (v : Voice) → voice_at c n ≡ some v → v.finished ≡ false → finished_in es c n ≡ false
    → (p : Params) (x : Float) (m : List ℕ) → empty_at m (acts es c) v ≡ false → Later p x m es c n
sounds_later es c h r n v s u f p x m e =
    let w = stays_all es c h r n v s u f in
    record { place = w.place; voice = w.voice; follows = w.follows; sounds = sounds_each p x m (acts es c) w.place w.voice w.stands w.unfinished (finds_kept m (acts es c) v w.voice w.phrase e) }
