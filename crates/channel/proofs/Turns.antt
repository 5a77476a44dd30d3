-- A voice's turn on its own phrase, and one turn of `play`: what is left of the walk, with the turn taken, is what the walk gives; and where voices rest nothing moves. Assumes nothing.
use mathlib.Core.Path.{◌≡◌, refl, sym, ap, ◌∙◌, subst}
use mathlib.Core.Bool.{Bool, true, false, not, cond}
use mathlib.Core.List.{List, [], ◌∷◌, map}
use Prim.Native.Nat.{ℕ, suc, ◌+◌, ◌-◌, ◌≤◌}
use native.Mathlib.Nat.{le_trans, le_of_eq, add-zero, zero-add, add-suc, suc-add}
use native.Mathlib.Omega.{arith}
use native.Mathlib.Numerals.{add-one}
use borrow.Author.Tests.{not-true, not-false, lt-ltb, le-ltb, ltb-true, ltb-false}
use lib.Dec.{eqb, ltb}
use lib.ListN.{length, take, drop, set}
use lib.Seq.{sets}
use lib.Ieee.{Float}
use Rattle.std.specs.List.{fold}
use Rattle.walks.specs.Walks.{without, behind}
use Rattle.common_types.specs.declared.Params.{Params}
use Rattle.binary32.specs.Leaves.{zero32}
use Rattle.phrases.specs.declared.Phrase.{Phrase}
use Rattle.phrases.specs.declared.Room.{Room}
use Rattle.phrases.specs.Phrases.{stored_in, room_of}
use Rattle.phrases.proofs.Rooms.{room_stored}
use Rattle.voice.specs.declared.Voice.{Voice}
use Rattle.voice.specs.declared.Moment.{Moment}
use Rattle.voice.specs.declared.Tick.{Tick}
use Rattle.voice.specs.Voices.{tick_of, should_remove_of, product_of, turn_of, sounded_of, ended_of, finish_of, volume_stepped, played_out_of}
use Rattle.voice.proofs.PhraseKept.{turn_phrase}
use Rattle.channel.specs.Heads.{moment_on}
use Rattle.channel.specs.Channels.{live, with_voices, Turning, kept_of, tidied_of, heard_sum, played_of, added_of, turning_by, resting, turning_at, turning_of, turned_of, phrase_at, moment_for, turning_in}
use Rattle.channel.specs.declared.Channel.{Channel}
use Rattle.channel.specs.declared.Played.{Played}
use Rattle.channel.specs.declared.Turned.{Turned}

-- what a walk leaves and what is heard of it
pub record Walked : Type 0 where
  pub channel : Channel
  pub output : Float

abbrev pub walked : Played → Walked
walked r = record { channel = r.channel; output = r.output }

-- a turn moves one at most
pub step_up : (moved k i moved' : ℕ) → moved ≤ i → moved' ≡ cond (ltb k i) (moved + 1) moved → moved' ≤ i + 1
step_up moved k i moved' h e = le_trans (le_of_eq e) (go (ltb k i))
  where
    go : (b : Bool) → cond b (moved + 1) moved ≤ i + 1
    go true = omega arith
    go false = omega arith

-- ---- the voices of one recording
module _ (t : Tick) (m : List ℕ) where
  -- a voice that is not skipped leaves its product as its last value
  ended_value : (v : Voice) → (ended_of t v).last_sample_value ≡ v.last_sample_value
  unfolding ended_of finish_of
  ended_value v = go (played_out_of t v)
    where
      go : (b : Bool) → (cond b (finish_of t.now t.decay_samples v) v).last_sample_value ≡ v.last_sample_value
      go true = refl
      go false = refl

  turn_value : (v : Voice) → should_remove_of t v ≡ false → (turn_of t m v).last_sample_value ≡ product_of t m v
  unfolding turn_of volume_stepped sounded_of
  turn_value v h = ap (λ (b : Bool). (cond b v (ended_of t (sounded_of t m v))).last_sample_value) h ∙ ended_value (sounded_of t m v)

  -- so that value is what it adds
  pub sounds_by : (out out' : Float) (v w : Voice) → w ≡ turn_of t m v → out' ≡ added_of (should_remove_of t v) out w.last_sample_value → out' ≡ (turning_by t m).adds out v
  unfolding turning_by added_of
  sounds_by out out' v w turned sounds = sounds ∙ ap (λ (u : Voice). added_of (should_remove_of t v) out u.last_sample_value) turned ∙ go (should_remove_of t v) refl
    where
      go : (b : Bool) → should_remove_of t v ≡ b → added_of b out (turn_of t m v).last_sample_value ≡ added_of b out (product_of t m v)
      go true e = refl
      go false e = ap (λ (x : Float). added_of false out x) (turn_value v e)

  -- and these are the parts of its turn
  pub turned_by : (out out' : Float) (v w : Voice) (gone : Bool) → w ≡ turn_of t m v → gone ≡ should_remove_of t w → out' ≡ added_of (should_remove_of t v) out w.last_sample_value
      → record { voice = w; stays = not gone; output = out' } ≡ turned_of (turning_by t m) out v
  unfolding turning_by
  turned_by out out' v w gone turned is sounds =
      let leaves : gone ≡ should_remove_of t (turn_of t m v) = is ∙ ap (should_remove_of t) turned in
      λ i. record { voice = turned i; stays = not (leaves i); output = sounds_by out out' v w turned sounds i }

-- ---- a voice at its moment, with its recording: on an empty one it rests
module _ (by : Tick → List ℕ → Turning) (p : Params) (at : Moment) (m : List ℕ) where
  pub turning_none : eqb at.data_len 0 ≡ true → turning_at by p at m ≡ resting
  unfolding turning_at
  turning_none e = rw e

  pub turning_some : eqb at.data_len 0 ≡ false → turning_at by p at m ≡ by (tick_of p at) m
  unfolding turning_at
  turning_some e = rw e

-- s does with a voice what t does
pub record Alike (s t : Turning) (v : Voice) : Type 0 where
  pub turns : s.turn v ≡ t.turn v
  pub leaves : s.leaves v ≡ t.leaves v
  pub adds : (out : Float) → s.adds out v ≡ t.adds out v

-- it does nothing with it
pub record Rests (s : Turning) (v : Voice) : Type 0 where
  pub turns : s.turn v ≡ v
  pub stays : s.leaves v ≡ false
  pub adds : (out : Float) → s.adds out v ≡ out

pub resting_rests : (v : Voice) → Rests resting v
unfolding resting
resting_rests v = record { turns = refl; stays = refl; adds = λ out. refl }

-- ---- each voice on its own phrase
module _ (p : Params) (c : Channel) (m : List ℕ) where
  -- what a sample does with the voices of a phrase
  abbrev pub turning_on : ℕ → Turning
  turning_on k = turning_at turning_by p (moment_for c k) (stored_in (phrase_at c k) m)

  pub turning_own : (v : Voice) → Alike (turning_in p c m) (turning_on v.phrase) v
  unfolding turning_in turning_of
  turning_own v = record { turns = refl; leaves = refl; adds = λ out. refl }

  module _ (v : Voice) where
    pub turning_rests : eqb (phrase_at c v.phrase).length 0 ≡ true → Rests (turning_in p c m) v
    turning_rests e =
        let none = turning_none turning_by p (moment_for c v.phrase) (stored_in (phrase_at c v.phrase) m) e in
        let own = subst (λ (s : Turning). Alike (turning_in p c m) s v) none (turning_own v) in
        let rests = resting_rests v in
        record { turns = own.turns ∙ rests.turns; stays = own.leaves ∙ rests.stays; adds = λ out. own.adds out ∙ rests.adds out }

    pub turning_turns : eqb (phrase_at c v.phrase).length 0 ≡ false
        → Alike (turning_in p c m) (turning_by (tick_of p (moment_for c v.phrase)) (stored_in (phrase_at c v.phrase) m)) v
    turning_turns e =
        subst (λ (s : Turning). Alike (turning_in p c m) s v) (turning_some turning_by p (moment_for c v.phrase) (stored_in (phrase_at c v.phrase) m) e) (turning_own v)

    -- a voice's turn leaves it on its phrase
    pub turning_phrase : ((turning_in p c m).turn v).phrase ≡ v.phrase
    unfolding turning_by
    turning_phrase = go (eqb (phrase_at c v.phrase).length 0) refl
      where
        go : (b : Bool) → eqb (phrase_at c v.phrase).length 0 ≡ b → ((turning_in p c m).turn v).phrase ≡ v.phrase
        go true e = ap (λ (w : Voice). w.phrase) (turning_rests e).turns
        go false e = ap (λ (w : Voice). w.phrase) (turning_turns e).turns ∙ turn_phrase (tick_of p (moment_for c v.phrase)) (stored_in (phrase_at c v.phrase) m) v

    -- so whether it leaves, once it has taken it, is told by that phrase too
    pub turning_turned : (out : Float) → turned_of (turning_on v.phrase) out v ≡ turned_of (turning_in p c m) out v
    turning_turned out =
        let own = turning_own v in
        let w = (turning_in p c m).turn v in
        let gone : (turning_on v.phrase).leaves ((turning_on v.phrase).turn v) ≡ (turning_in p c m).leaves w =
        ap (turning_on v.phrase).leaves (sym own.turns) ∙ ap (λ (k : ℕ). (turning_on k).leaves w) (sym turning_phrase) ∙ sym (turning_own w).leaves in
        λ i. record { voice = sym own.turns i; stays = not (gone i); output = sym (own.adds out) i }

    -- as its parts are worked out
    module _ (q : Phrase) (is : q ≡ phrase_at c v.phrase) where
      pub turned_there : (out : Float) (room : Room) (at : Moment) (r : Turned) → room ≡ room_of q (length m) → at ≡ moment_on c.head v.phrase q.length
          → r ≡ turned_of (turning_at turning_by p at (take (room.to - room.from) (drop room.from m))) out v → r ≡ turned_of (turning_in p c m) out v
      turned_there out room at r lies moment gives =
          let own : take (room.to - room.from) (drop room.from m) ≡ stored_in (phrase_at c v.phrase) m =
          ap (λ (z : Room). take (z.to - z.from) (drop z.from m)) lies ∙ room_stored q m ∙ ap (λ (z : Phrase). stored_in z m) is in
          let then : at ≡ moment_for c v.phrase = moment ∙ ap (λ (z : Phrase). moment_on c.head v.phrase z.length) is in
          gives ∙ (λ i. turned_of (turning_at turning_by p (then i) (own i)) out v) ∙ turning_turned out

-- ---- a walk over the voices, whatever a sample does with each
module _ (s : Turning) where
  -- the output from `out` on
  abbrev pub heard_from : Float → List Voice → Float
  heard_from out vs = fold s.adds out vs

  -- what the rest of the walk gives, with k voices kept so far
  abbrev pub rest_of : Channel → ℕ → Float → List Voice → Walked
  rest_of c k out vs = record {
    channel = with_voices (sets c.voices k (kept_of s vs)) (k + length (kept_of s vs)) c;
    output = heard_from out vs;
  }

  pub rest_start : (c : Channel) → rest_of c 0 zero32 (live c) ≡ walked (played_of s c)
  unfolding played_of heard_sum
  rest_start c = simp zero-add

  pub rest_end : (c : Channel) (k : ℕ) (out : Float) → rest_of c k out [] ≡ record { channel = with_voices c.voices k c; output = out }
  unfolding kept_of without
  rest_end c k out = simp add-zero

  -- how many the rest of the walk has moved up at its end, with the voice at i next, k kept so far and `moved` of them moved: once one has left, each that is kept
  abbrev pub tidied_from : ℕ → ℕ → ℕ → List Voice → ℕ
  tidied_from moved k i vs = moved + cond (ltb k i) (length (kept_of s vs)) (tidied_of s vs)

  pub tidied_start : (c : Channel) → tidied_from 0 0 0 (live c) ≡ (played_of s c).moved
  unfolding played_of
  tidied_start c = simp zero-add

  pub tidied_end : (moved k i : ℕ) → tidied_from moved k i [] ≡ moved
  unfolding kept_of tidied_of without behind
  tidied_end moved k i = go (ltb k i)
    where
      go : (b : Bool) → moved + cond b 0 0 ≡ moved
      go true = add-zero moved
      go false = add-zero moved

  module _ (c : Channel) (k : ℕ) (out out' : Float) (v w : Voice) (b : Bool) (turned : w ≡ s.turn v)
      (sounds : out' ≡ s.adds out v) (is : b ≡ s.leaves w) (vs : List Voice) where
    heard_on : heard_from out (v ∷ vs) ≡ heard_from out' vs
    heard_on = ap (λ (x : Float). heard_from x vs) (sym sounds)

    kept_on : kept_of s (v ∷ vs) ≡ cond b (kept_of s vs) (w ∷ kept_of s vs)
    unfolding kept_of without
    kept_on = simp (is, turned)

    pub rest_keep : not b ≡ true → rest_of c k out (v ∷ vs) ≡ rest_of (with_voices (set c.voices k w) c.count c) (k + 1) out' vs
    rest_keep h =
        let kept : kept_of s (v ∷ vs) ≡ w ∷ kept_of s vs = kept_on ∙ ap (λ (x : Bool). cond x (kept_of s vs) (w ∷ kept_of s vs)) (not-true b h) in
        simp (kept, heard_on, add-one k, add-suc, suc-add)

    pub rest_gone : not b ≡ false → rest_of c k out (v ∷ vs) ≡ rest_of c k out' vs
    rest_gone h =
        let kept : kept_of s (v ∷ vs) ≡ kept_of s vs = kept_on ∙ ap (λ (x : Bool). cond x (kept_of s vs) (w ∷ kept_of s vs)) (not-false b h) in
        simp (kept, heard_on)

    behind_on : behind s.leaves (map s.turn (v ∷ vs)) ≡ cond b (kept_of s vs) (behind s.leaves (map s.turn vs))
    unfolding kept_of behind
    behind_on = simp (is, turned)

    pub tidied_same : not b ≡ true → tidied_of s (v ∷ vs) ≡ tidied_of s vs
    unfolding tidied_of
    tidied_same h = ap length (behind_on ∙ ap (λ (x : Bool). cond x (kept_of s vs) (behind s.leaves (map s.turn vs))) (not-true b h))

    tidied_first : not b ≡ false → tidied_of s (v ∷ vs) ≡ length (kept_of s vs)
    unfolding tidied_of
    tidied_first h = ap length (behind_on ∙ ap (λ (x : Bool). cond x (kept_of s vs) (behind s.leaves (map s.turn vs))) (not-false b h))

    -- the count goes on: it is one more where one that is kept isn't stored where it stood
    module _ (moved i : ℕ) (upto : k ≤ i) where
      pub tidied_keep : (moved' : ℕ) → moved' ≡ cond (ltb k i) (moved + 1) moved → not b ≡ true → tidied_from moved k i (v ∷ vs) ≡ tidied_from moved' (k + 1) (i + 1) vs
      tidied_keep moved' e h = go (ltb k i) refl
        where
          kept : kept_of s (v ∷ vs) ≡ w ∷ kept_of s vs
          kept = kept_on ∙ ap (λ (x : Bool). cond x (kept_of s vs) (w ∷ kept_of s vs)) (not-true b h)

          go : (z : Bool) → ltb k i ≡ z → tidied_from moved k i (v ∷ vs) ≡ tidied_from moved' (k + 1) (i + 1) vs
          go true f =
              let g : ltb (k + 1) (i + 1) ≡ true = lt-ltb (k + 1) (i + 1) (let u = ltb-true k i f in omega arith) in
              let q : moved + suc (length (kept_of s vs)) ≡ moved + 1 + length (kept_of s vs) = omega arith in
              let a : tidied_from moved k i (v ∷ vs) ≡ moved + suc (length (kept_of s vs)) = simp (f, kept) in
              let d : moved + 1 + length (kept_of s vs) ≡ tidied_from moved' (k + 1) (i + 1) vs = simp (e, f, g) in
              a ∙ q ∙ d
          go false f =
              let g : ltb (k + 1) (i + 1) ≡ false = le-ltb (k + 1) (i + 1) (let u = ltb-false k i f in omega arith) in
              simp (f, g, e, tidied_same h)

      pub tidied_gone : not b ≡ false → tidied_from moved k i (v ∷ vs) ≡ tidied_from moved k (i + 1) vs
      tidied_gone h = go (ltb k i) refl
        where
          kept : kept_of s (v ∷ vs) ≡ kept_of s vs
          kept = kept_on ∙ ap (λ (x : Bool). cond x (kept_of s vs) (w ∷ kept_of s vs)) (not-false b h)

          later : ltb k (i + 1) ≡ true
          later = lt-ltb k (i + 1) (omega (arith, upto))

          go : (z : Bool) → ltb k i ≡ z → tidied_from moved k i (v ∷ vs) ≡ tidied_from moved k (i + 1) vs
          go true f = simp (f, later, kept)
          go false f = simp (f, later, tidied_first h)

-- ---- on an empty recording nothing moves
pub resting_kept : (vs : List Voice) → kept_of resting vs ≡ vs
unfolding kept_of resting without
resting_kept [] = refl
resting_kept (v ∷ vs) = ap (λ (l : List Voice). v ∷ l) (resting_kept vs)

pub resting_tidied : (vs : List Voice) → tidied_of resting vs ≡ 0
unfolding tidied_of resting behind
resting_tidied [] = refl
resting_tidied (v ∷ vs) = resting_tidied vs

pub resting_heard : (vs : List Voice) → heard_sum resting vs ≡ zero32
unfolding heard_sum resting
resting_heard [] = refl
resting_heard (v ∷ vs) = resting_heard vs
