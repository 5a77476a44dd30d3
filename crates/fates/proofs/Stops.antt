-- What a stop finds, and the voices after it. Assumes nothing.
use mathlib.Core.Path.{◌≡◌, refl, sym, ◌∙◌, subst}
use mathlib.Core.Bool.{Bool, true, false, cond}
use mathlib.Core.List.{List, [], ◌∷◌}
use mathlib.Core.Option.{some}
use Prim.Native.Nat.{ℕ, suc, ◌+◌, ◌<◌}
use native.Mathlib.Omega.{arith}
use borrow.Author.Tests.{lt-ltb}
use lib.ListN.{get_or, set, get_elem?}
use lib.Seq.{take-set-lt, get_or-take}
use Rattle.std.specs.List.{position_from}
use Rattle.common_types.specs.declared.Params.{Params}
use Rattle.common_types.specs.declared.Note.{Note}
use Rattle.voice.specs.declared.Voice.{Voice}
use Rattle.voice.specs.Voices.{finish_of, blank_voice}
use Rattle.channel.specs.declared.Channel.{Channel}
use Rattle.std.specs.Prelude.{Some, None}
use Rattle.channel.specs.Channels.{live, handled_of, wanted_of, find_of, finished_at_of, stop_playing_of}
use Rattle.fates.specs.Places.{Housed, voice_at}
use Rattle.walks.proofs.Lists.Looks.{look_below, look-value}
use Rattle.fates.proofs.Lives.{live_length}

module _ {A : Type 0} (p : A → Bool) where
  record Sought (l : List A) (k i : ℕ) : Type 0 where
    steps : ℕ
    it : A
    sum : i ≡ k + steps
    stands : get_elem? l steps ≡ some it
    wanted : p it ≡ true

  position_sought : (l : List A) (k i : ℕ) → position_from p k l ≡ Some i → Sought l k i
  position_sought [] k i h = let z : ◌≡◌ {A = ℕ} 0 1 = cc in absurd (omega arith)
  position_sought (y ∷ l) k i h = go (p y) refl h (position_sought l (k + 1) i)
    where
      go : (b : Bool) → p y ≡ b → cond b (Some k) (position_from p (k + 1) l) ≡ Some i → (position_from p (k + 1) l ≡ Some i → Sought l (k + 1) i) → Sought (y ∷ l) k i
      go true e h f = let z : k ≡ i = cc in record { steps = 0; it = y; sum = omega arith; stands = refl; wanted = e }
      go false e h f =
          let s = f h in
          record { steps = suc s.steps; it = s.it; sum = omega (arith, s.sum); stands = s.stands; wanted = s.wanted }

pub record Finds (note : Note) (c : Channel) (i : ℕ) : Type 0 where
  pub voice : Voice
  pub stands : voice_at c i ≡ some voice
  pub wanted : wanted_of note voice ≡ true

pub found : (note : Note) (c : Channel) (i : ℕ) → find_of note c ≡ Some i → Finds note c i
unfolding find_of
found note c i h =
    let s = position_sought (wanted_of note) (live c) 0 i h in
    let e : s.steps ≡ i = omega (arith, s.sum) in
    record { voice = s.it; stands = subst (λ (n : ℕ). voice_at c n ≡ some s.it) e s.stands; wanted = s.wanted }

-- ---- the voices afterwards
pub stopped_none : (p : Params) (note : Note) (c : Channel) → find_of note c ≡ None → stop_playing_of p note c ≡ c
unfolding stop_playing_of finished_at_of
stopped_none p note c h = rw h

pub live_stopped : (p : Params) (note : Note) (c : Channel) → Housed c → (i : ℕ) (v : Voice) → find_of note c ≡ Some i → voice_at c i ≡ some v
    → live (stop_playing_of p note c) ≡ set (live c) i (finish_of c.head.now p.decay_samples v)
unfolding stop_playing_of finished_at_of handled_of
live_stopped p note c h i v e k =
    let n : i < c.count = omega (arith, look_below (live c) i v k, live_length c h) in
    let b : get_or c.voices i blank_voice ≡ v = sym (get_or-take c.count c.voices i blank_voice n) ∙ look-value (live c) i v blank_voice k in
    rw (e, lt-ltb i 32 (omega (arith, h.room)), b) (take-set-lt c.count c.voices i (finish_of c.head.now p.decay_samples v) n)
