-- Turns that have gone on with the positions beside them go on; and where plain voices begin to glide. Assumes nothing.
use mathlib.Core.Path.{◌≡◌, refl, sym, ◌∙◌, ap}
use Prim.Native.Nat.{ℕ}
use mathlib.Core.List.{List}
use lib.Seq.{sets, slice}
use Rattle.voice.specs.declared.Tick.{Tick}
use Rattle.channel.specs.declared.Channel.{Channel}
use Rattle.channel.specs.Channels.{Turning}
use Rattle.lent_channel.specs.declared.Going.{Going}
use Rattle.lent_channel.specs.Turns.{glided_to, Stands}
use Rattle.lent_channel.proofs.Turns.{onward, glides_from}
use Rattle.plain_channel.specs.declared.Side.{Side}
use Rattle.plain_channel.specs.Sides.{hots_kept, rest_hots, Together, GoTogether}

pub together_on : {s : Turning} {n : ℕ} {c d e : Channel} {k l m : Side} {g h i : Going} → Together s n c k g d l h → Together s n d l h e m i → Together s n c k g e m i
together_on x y = record { onward = onward x.onward y.onward; same = y.same ∙ x.same; pour = y.pour ∙ x.pour }

pub goes_together : {t : Tick} {ms : List ℕ} {n : ℕ} {c d e : Channel} {k l m : Side} {g h i : Going} → GoTogether t ms n c k g d l h → GoTogether t ms n d l h e m i → GoTogether t ms n c k g e m i
goes_together x y s f = together_on (x s f) (y s f)

-- plain voices glide from anywhere where no voice has left
pub together_from : (t : Tick) (ms : List ℕ) (n : ℕ) (c : Channel) (k : Side) (g : Going) → Stands n g → g.kept ≡ g.place → GoTogether t ms n c k g c k (glided_to g.place g.output)
unfolding glided_to rest_hots
together_from t ms n c k g stands level s follows = record {
  onward = glides_from t ms n c g stands level s follows;
  same = ap (λ (j : ℕ). sets k.hots j (hots_kept s c.head (slice g.place n c.voices) (slice g.place n k.hots))) (sym level);
  pour = refl;
}
