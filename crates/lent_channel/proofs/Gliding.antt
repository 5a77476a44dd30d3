-- Gliding turns of voices in place: how far they have gone where a turn begins, and what they promise where they end. Assumes nothing.
use mathlib.Core.Path.{◌≡◌, refl, sym, ◌∙◌, subst}
use Prim.Native.Nat.{ℕ, ◌+◌, ◌≤◌, ◌<◌}
use native.Mathlib.Nat.{le_refl}
use native.Mathlib.Omega.{arith}
use mathlib.Core.Bool.{Bool, true, false}
use mathlib.Core.List.{List}
use lib.Dec.{ltb}
use lib.ListN.{length, get_or, set}
use Rattle.std.proofs.Common.{get_or-set_other}
use lib.Ieee.{Float, binary32, add}
use borrow.Author.Tests.{ltb-true, ltb-false}
use Rattle.walks.proofs.Lists.Loops.{get_d_any}
use Rattle.voice.specs.declared.Voice.{Voice}
use Rattle.voice.specs.declared.Tick.{Tick}
use Rattle.voice.specs.declared.Quick.{Quick}
use Rattle.voice.specs.Voices.{blank_voice}
use Rattle.voice.specs.Gliding.{glides_of, Quickly}
use Rattle.channel.specs.declared.Channel.{Channel}
use Rattle.channel.specs.Channels.{with_voices}
use Rattle.channel.proofs.Slots.{none}
use Rattle.lent_channel.specs.declared.Going.{Going}
use Rattle.lent_channel.specs.Turns.{glided_to, Stands, Goes, Glides}
use Rattle.lent_channel.proofs.Turns.{goes_on, glides_from, glide_on}

module _ (t : Tick) (m : List ℕ) (n : ℕ) (c : Channel) (g : Going) where
  abbrev Glided : Voice → Type 0
  Glided u = (u.phrase ≡ t.phrase) × (glides_of t m u ≡ true)

  -- where a turn begins, on channel d: the next voice's place is i, and out is heard so far
  pub record Still (d : Channel) (i : ℕ) (out : Float) : Type 0 where
    pub upto : i ≤ n
    pub from : g.place ≤ i
    pub goes : (e : ℕ) → n ≤ e → e ≤ 32 → Goes t m e c g d (glided_to i out)
    pub same : i ≡ g.place → d ≡ c
    pub glided : (j : ℕ) → g.place ≤ j → j < i → Glided (get_or c.voices j blank_voice)
    pub rest : (j : ℕ) → i ≤ j → get_or d.voices j blank_voice ≡ get_or c.voices j blank_voice

  pub still_first : Stands n g → g.kept ≡ g.place → Still c g.place g.output
  still_first s level = record {
    upto = s.inside;
    from = le_refl g.place;
    goes = λ e more most. glides_from t m e c g (record { few = most; inside = omega (arith, s.inside, more); up = s.up; first = s.first; all = s.all }) level;
    same = λ e. refl;
    glided = λ j low high. absurd (omega (arith, low, high));
    rest = λ j low. refl;
  }

  -- voice i glides as well
  module _ (d : Channel) (i : ℕ) (out : Float) (g' : Still d i out) (lt : i < n) (few : n ≤ 32) (all : length d.voices ≡ 32) (r : Quick) (quickly : Quickly t m (get_or d.voices i none) r) (glides : r.glides ≡ true) where
    here : Glided (get_or c.voices i blank_voice)
    here =
        let inside : i < length d.voices = omega (arith, lt, few, all) in
        let q = quickly glides in
        subst Glided (sym (sym (g'.rest i (le_refl i)) ∙ get_d_any d.voices i blank_voice none inside)) (q.0, q.1)

    upto : (j : ℕ) → g.place ≤ j → j < i + 1 → (b : Bool) → ltb j i ≡ b → Glided (get_or c.voices j blank_voice)
    upto j low high true is = g'.glided j low (ltb-true j i is)
    upto j low high false is =
        let same : j ≡ i = let u = ltb-false j i is in omega (arith, high, u) in
        subst (λ (k : ℕ). Glided (get_or c.voices k blank_voice)) (sym same) here

    pub still_next : Still (with_voices (set d.voices i r.voice) d.count d) (i + 1) (add binary32 out r.voice.last_sample_value)
    still_next =
        let inside : i < length d.voices = omega (arith, lt, few, all) in
        record {
          upto = omega (arith, lt);
          from = omega (arith, g'.from);
          goes = λ e more most. goes_on (g'.goes e more most)
              (glide_on t m e d i out (get_or d.voices i none) r most (omega (arith, lt, more)) all (get_d_any d.voices i blank_voice none inside) quickly glides);
          same = λ e. absurd (omega (arith, g'.from, e));
          glided = λ j low high. upto j low high (ltb j i) refl;
          rest = λ j low. get_or-set_other d.voices i j r.voice blank_voice (λ e. omega (arith, low, e)) ∙ g'.rest j (omega (arith, low));
        }

  pub still_glides : {d : Channel} {i : ℕ} {out : Float} → Still d i out → Glides t m n c g d (glided_to i out)
  unfolding glided_to
  still_glides s = record { further = s.from; goes = s.goes; none = s.same; level = refl; glided = s.glided; rest = s.rest }
