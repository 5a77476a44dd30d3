-- What turns of voices leave to those behind them: where they begin, how one turn goes on, one that glides and one that a voice doesn't take, and what they have come to where they end; and a channel without voices. Assumes nothing.
use mathlib.Core.Path.{◌≡◌, refl, sym, ◌∙◌, ap, subst}
use Prim.Native.Nat.{ℕ, zero, suc, ◌+◌, ◌-◌, ◌≤◌, ◌<◌, min, zero-le}
use native.Mathlib.Nat.{le_refl, add-zero}
use native.Mathlib.Omega.{arith}
use mathlib.Core.Bool.{Bool, true, false, not, cond, true≢false}
use mathlib.Core.List.{List, [], ◌∷◌}
use lib.Dec.{ltb, eqb}
use lib.ListN.{length, get_or, set, take, drop}
use lib.Seq.{slice, slice_empty}
use lib.Ieee.{Float, binary32, add}
use borrow.Author.Tests.{eq-eqb, ne_eqb, lt-ltb, le-ltb, ltb-true, ltb-false}
use Rattle.std.specs.List.{list_any, fold}
use Rattle.walks.specs.Walks.{without, behind}
use Rattle.walks.proofs.Lists.Loops.{Walk, turns, stores, get_d_any}
use Rattle.common_types.specs.declared.Params.{Params}
use Rattle.binary32.specs.Leaves.{zero32}
use Rattle.common_types.specs.declared.Measure.{Measure}
use Rattle.common_types.specs.Settings.{measure_of}
use Rattle.phrases.specs.declared.Phrase.{Phrase}
use Rattle.phrases.specs.declared.Room.{Room}
use Rattle.phrases.specs.Phrases.{stored_in, room_of}
use Rattle.phrases.proofs.Rooms.{room_stored}
use Rattle.voice.specs.declared.Moment.{Moment}
use Rattle.voice.specs.declared.Voice.{Voice}
use Rattle.voice.specs.declared.Tick.{Tick}
use Rattle.voice.specs.declared.Quick.{Quick}
use Rattle.voice.specs.Voices.{span_by, tick_with, tick_of, turn_of, should_remove_of, blank_voice}
use Rattle.voice.specs.Gliding.{Quickly}
use Rattle.voice.proofs.Gliding.{glides}
use Rattle.voice.proofs.Measured.{tick_measured}
use Rattle.voice.proofs.PhraseKept.{turn_phrase, tick_phrase}
use Rattle.channel.specs.declared.Head.{Head}
use Rattle.channel.specs.declared.Channel.{Channel}
use Rattle.channel.specs.declared.Played.{Played}
use Rattle.channel.specs.Heads.{moment_on, mixed_of, closed_of}
use Rattle.channel.specs.Channels.{with_head, with_voices, any_unfinished_of, Turning, kept_of, tidied_of, added_of, heard_sum, played_of, turning_by, phrase_at, moment_for, turning_in, taken_of, memory_of, process_sample_of}
use Rattle.channel.proofs.Samples.{played_head}
use Rattle.channel.proofs.Slots.{none}
use Rattle.channel.proofs.Turns as T
use Rattle.lent_channel.specs.declared.Going.{Going}
use Rattle.lent_channel.specs.declared.Heard.{Heard}
use Rattle.lent_channel.specs.declared.Turn.{Turn}
use Rattle.lent_channel.proofs.Seen.{take_seen}
use Rattle.lent_channel.specs.Turns.{silent, begun, glided_to, next_voice, next_turn, turned_in, rested_of, rested_in, moved_by, Stands, Next, rest_by, rest_of, Onward, Follows, Goes, heard_of, mixed_with}

-- what a walk leaves and what is heard of it, with how many have moved up
abbrev counting : T.Walked → ℕ → Played
counting r n = record { channel = r.channel; output = r.output; moved = n }

with_count : {r r' : T.Walked} {n n' : ℕ} → r ≡ r' → n ≡ n' → counting r n ≡ counting r' n'
with_count e f = λ i. counting (e i) (f i)

-- ---- turns that have gone on go on
pub onward : {s : Turning} {n : ℕ} {c d e : Channel} {g h k : Going} → Onward s n c g d h → Onward s n d h e k → Onward s n c g e k
onward x y = record { stands = y.stands; same = y.same ∙ x.same }

pub goes_on : {t : Tick} {m : List ℕ} {n : ℕ} {c d e : Channel} {g h k : Going} → Goes t m n c g d h → Goes t m n d h e k → Goes t m n c g e k
goes_on x y s f = onward (x s f) (y s f)

-- ---- one turn, by which the voice v becomes w: it stays, or it leaves
module _ (s : Turning) (c : Channel) (g : Going) (up : g.kept ≤ g.place) (v w : Voice) (out : Float) (turned : w ≡ s.turn v) (sounds : out ≡ s.adds g.output v) where
  abbrev k : ℕ
  k = g.kept

  abbrev i : ℕ
  i = g.place

  abbrev staying : Bool → Going
  staying b = record { place = i + 1; kept = k + 1; output = out; first = g.first; glides = b }

  abbrev leaving : Going
  leaving = record { place = i + 1; kept = k; output = out; first = cond (ltb k i) g.first i; glides = false }

  rest_stays : s.leaves w ≡ false → (b : Bool) (vs : List Voice) → rest_by s c g (v ∷ vs) ≡ rest_by s (with_voices (set c.voices k w) c.count c) (staying b) vs
  unfolding rest_by
  rest_stays stays b vs = with_count on (go (ltb k i) refl)
    where
      on : T.rest_of s c k g.output (v ∷ vs) ≡ T.rest_of s (with_voices (set c.voices k w) c.count c) (k + 1) out vs
      on = T.rest_keep s c k g.output out v w false turned sounds (sym stays) vs refl

      before : Bool → ℕ
      before z = cond z (k + length (kept_of s (v ∷ vs)) - g.first) (tidied_of s (v ∷ vs))

      behind_it : Bool → ℕ
      behind_it z = cond z (k + 1 + length (kept_of s vs) - g.first) (tidied_of s vs)

      go : (z : Bool) → ltb k i ≡ z → before (ltb k i) ≡ behind_it (ltb (k + 1) (i + 1))
      go true f =
          let g' : ltb (k + 1) (i + 1) ≡ true = lt-ltb (k + 1) (i + 1) (let u = ltb-true k i f in omega (arith, u)) in
          ap before f ∙ ap (λ (r : T.Walked). r.channel.count - g.first) on ∙ sym (ap behind_it g')
      go false f =
          let g' : ltb (k + 1) (i + 1) ≡ false = le-ltb (k + 1) (i + 1) (let u = ltb-false k i f in omega (arith, u)) in
          ap before f ∙ T.tidied_same s c k g.output out v w false turned sounds (sym stays) vs refl ∙ sym (ap behind_it g')

  rest_leaves : s.leaves w ≡ true → (vs : List Voice) → rest_by s c g (v ∷ vs) ≡ rest_by s c leaving vs
  unfolding rest_by
  rest_leaves gone vs = with_count on (go (ltb k i) refl)
    where
      on : T.rest_of s c k g.output (v ∷ vs) ≡ T.rest_of s c k out vs
      on = T.rest_gone s c k g.output out v w true turned sounds (sym gone) vs refl

      later : ltb k (i + 1) ≡ true
      later = lt-ltb k (i + 1) (omega (arith, up))

      go : (z : Bool) → ltb k i ≡ z → cond (ltb k i) (k + length (kept_of s (v ∷ vs)) - g.first) (tidied_of s (v ∷ vs)) ≡ cond (ltb k (i + 1)) (k + length (kept_of s vs) - cond (ltb k i) g.first i) (tidied_of s vs)
      go true f =
          ap (λ (z : Bool). cond z (k + length (kept_of s (v ∷ vs)) - g.first) (tidied_of s (v ∷ vs))) f ∙ ap (λ (r : T.Walked). r.channel.count - g.first) on
          ∙ sym (ap (λ (z : Bool). cond z (k + length (kept_of s vs) - cond (ltb k i) g.first i) (tidied_of s vs)) later ∙ ap (λ (z : Bool). k + length (kept_of s vs) - cond z g.first i) f)
      go false f =
          let level : i ≡ k = let u = ltb-false k i f in omega (arith, up, u) in
          let first : 0 + cond (ltb k i) (length (kept_of s (v ∷ vs))) (tidied_of s (v ∷ vs)) ≡ 0 + cond (ltb k (i + 1)) (length (kept_of s vs)) (tidied_of s vs) =
          T.tidied_gone s c k g.output out v w true turned sounds (sym gone) vs 0 i up refl in
          let here : 0 + tidied_of s (v ∷ vs) ≡ 0 + length (kept_of s vs) =
          sym (ap (λ (z : Bool). 0 + cond z (length (kept_of s (v ∷ vs))) (tidied_of s (v ∷ vs))) f) ∙ first ∙ ap (λ (z : Bool). 0 + cond z (length (kept_of s vs)) (tidied_of s vs)) later in
          let all : tidied_of s (v ∷ vs) ≡ k + length (kept_of s vs) - i = omega (arith, level, here) in
          ap (λ (z : Bool). cond z (k + length (kept_of s (v ∷ vs)) - g.first) (tidied_of s (v ∷ vs))) f ∙ all
          ∙ sym (ap (λ (z : Bool). cond z (k + length (kept_of s vs) - cond (ltb k i) g.first i) (tidied_of s vs)) later ∙ ap (λ (z : Bool). k + length (kept_of s vs) - cond z g.first i) f)

  -- on a channel that has all voices
  module _ (n : ℕ) (few : n ≤ 32) (below : g.place < n) (all : length c.voices ≡ 32) (is : get_or c.voices g.place blank_voice ≡ v) (first : g.first ≤ g.kept) where
    walk : Walk (rest_of s n c g) (rest_by s c g) c.voices n g.place
    walk = record { upto = omega (arith, below); within = omega (arith, few, all); same = refl }

    now_next : {go : List Voice → Played} → ((vs : List Voice) → rest_by s c g (v ∷ vs) ≡ go vs) → (vs : List Voice) → rest_by s c g (get_or c.voices g.place blank_voice ∷ vs) ≡ go vs
    now_next e vs = ap (λ (u : Voice). rest_by s c g (u ∷ vs)) is ∙ e vs

    pub stays_on : s.leaves w ≡ false → (b : Bool) → (b ≡ true → k ≡ i) → Onward s n c g (with_voices (set c.voices k w) c.count c) (staying b)
    stays_on stays b level = record {
      stands = record { few = few; inside = omega (arith, below); up = omega (arith, up); first = omega (arith, first); all = λ e. ap (λ (j : ℕ). j + 1) (level e) };
      same = (stores blank_voice k w walk below up (now_next (rest_stays stays b))).same;
    }

    pub leaves_on : s.leaves w ≡ true → Onward s n c g c leaving
    leaves_on gone = record {
      stands = record { few = few; inside = omega (arith, below); up = omega (arith, up); first = low (ltb k i) refl; all = λ e. absurd (true≢false (sym e)) };
      same = (turns blank_voice walk below (now_next (rest_leaves gone))).same;
    }
      where
        low : (z : Bool) → ltb k i ≡ z → cond z g.first i ≤ k
        low true f = first
        low false f = ltb-false k i f

-- ---- the channel with the turn r: the voice is stored, or it is not
module _ (c : Channel) (g : Going) (r : Turn) where
  pub turned_stored : r.stays ≡ true → with_voices (set c.voices g.kept r.voice) c.count c ≡ turned_in g r c
  unfolding turned_in
  turned_stored e = sym (ap (λ (b : Bool). cond b (with_voices (set c.voices g.kept r.voice) c.count c) c) e)

  pub turned_left : r.stays ≡ false → c ≡ turned_in g r c
  unfolding turned_in
  turned_left e = sym (ap (λ (b : Bool). cond b (with_voices (set c.voices g.kept r.voice) c.count c) c) e)

-- ---- the turn of the next voice, which is of the tick's phrase
module _ (t : Tick) (m : List ℕ) (n : ℕ) (c : Channel) (g : Going) (stands : Stands n g) (below : g.place < n) (all : length c.voices ≡ 32) (own : (next_voice g c).phrase ≡ t.phrase) where
  abbrev next : Voice
  next = next_voice g c

  pub turn_on : Goes t m n c g (turned_in g (next_turn t m g next) c) (next_turn t m g next).next
  unfolding next_turn turned_in turning_by
  turn_on s follows = go (should_remove_of t (turn_of t m next)) refl
    where
      out : Float
      out = added_of (should_remove_of t next) g.output (turn_of t m next).last_sample_value

      turned : turn_of t m next ≡ s.turn next
      turned = sym (follows.turns next own)

      sounds : out ≡ s.adds g.output next
      sounds = T.sounds_by t m g.output out next (turn_of t m next) refl refl ∙ sym (follows.adds g.output next own)

      gone : s.leaves (turn_of t m next) ≡ should_remove_of t (turn_of t m next)
      gone = follows.leaves (turn_of t m next) (turn_phrase t m next ∙ own)

      so : Bool → Turn
      so b = record {
        voice = turn_of t m next;
        stays = not b;
        next = record {
          place = g.place + 1;
          kept = cond b g.kept (g.kept + 1);
          output = out;
          first = cond b (cond (ltb g.kept g.place) g.first g.place) g.first;
          glides = false;
        };
      }

      go : (b : Bool) → should_remove_of t (turn_of t m next) ≡ b → Onward s n c g (cond (not b) (with_voices (set c.voices g.kept (turn_of t m next)) c.count c) c) (so b).next
      go true e = leaves_on s c g stands.up next (turn_of t m next) out turned sounds n stands.few below all refl stands.first (gone ∙ e)
      go false e = stays_on s c g stands.up next (turn_of t m next) out turned sounds n stands.few below all refl stands.first (gone ∙ e) false (λ f. absurd (true≢false (sym f)))

  -- as `turn_next` has it
  pub turn_goes : (r : Going) (d : Channel) → (r ≡ (next_turn t m g next).next) × (d ≡ turned_in g (next_turn t m g next) c) → (g.place < r.place) × Goes t m n c g d r
  unfolding next_turn
  turn_goes r d is =
      let further : r.place ≡ g.place + 1 = ap (λ (z : Going). z.place) is.0 in
      (omega (arith, further), subst (λ (e : Channel). Goes t m n c g e r) (sym is.1) (subst (λ (z : Going). Goes t m n c g (turned_in g (next_turn t m g next) c) z) (sym is.0) turn_on))

-- ---- a voice that rests
pub rest_on : (s : Turning) (n : ℕ) (c : Channel) (g : Going) → Stands n g → g.place < n → length c.voices ≡ 32 → T.Rests s (next_voice g c) → Onward s n c g (rested_in g c) (rested_of g)
unfolding rested_in rested_of
rest_on s n c g stands below all rests =
    let v : Voice = next_voice g c in
    stays_on s c g stands.up v v g.output (sym rests.turns) (sym (rests.adds g.output)) n stands.few below all refl stands.first rests.stays g.glides stands.all

-- as `rest_next` has it
pub rest_goes : (s : Turning) (n : ℕ) (c : Channel) (g : Going) → Stands n g → g.place < n → length c.voices ≡ 32 → T.Rests s (next_voice g c) → (r : Going) (d : Channel) → (r ≡ rested_of g) × (d ≡ rested_in g c)
    → (g.place < r.place) × Onward s n c g d r
unfolding rested_of
rest_goes s n c g stands below all rests r d is =
    let further : r.place ≡ g.place + 1 = ap (λ (z : Going). z.place) is.0 in
    (omega (arith, further), subst (λ (e : Channel). Onward s n c g e r) (sym is.1) (subst (λ (z : Going). Onward s n c g (rested_in g c) z) (sym is.0) (rest_on s n c g stands below all rests)))

-- ---- gliding turns
-- they begin anywhere where no voice has left
pub glides_from : (t : Tick) (m : List ℕ) (n : ℕ) (c : Channel) (g : Going) → Stands n g → g.kept ≡ g.place → Goes t m n c g c (glided_to g.place g.output)
unfolding glided_to rest_by
glides_from t m n c g stands level s follows = record {
  stands = record { few = stands.few; inside = stands.inside; up = le_refl g.place; first = zero-le; all = λ e. refl };
  same = with_count (ap (λ (k : ℕ). T.rest_of s c k g.output vs) (sym level)) (ap (λ (z : Bool). cond z (g.place + length (kept_of s vs) - 0) (tidied_of s vs)) (le-ltb g.place g.place (le_refl g.place))
      ∙ sym (ap (λ (z : Bool). cond z (g.kept + length (kept_of s vs) - g.first) (tidied_of s vs)) (le-ltb g.kept g.place (omega (arith, level)))));
}
  where
    vs : List Voice
    vs = slice g.place n c.voices

-- the voice stays in its place, and is heard
module _ (t : Tick) (m : List ℕ) (n : ℕ) (c : Channel) (i : ℕ) (out : Float) (v : Voice) (r : Quick) where
  pub glide_on : n ≤ 32 → i < n → length c.voices ≡ 32 → get_or c.voices i blank_voice ≡ v → Quickly t m v r → r.glides ≡ true
      → Goes t m n c (glided_to i out) (with_voices (set c.voices i r.voice) c.count c) (glided_to (i + 1) (add binary32 out r.voice.last_sample_value))
  unfolding glided_to turning_by added_of
  glide_on few below all is quickly plain s follows =
      let turned = quickly plain in
      let stays = glides t m v turned.1 in
      let w : Voice = r.voice in
      let same : w ≡ s.turn v = turned.2 ∙ sym (follows.turns v turned.0) in
      let sum : Float = add binary32 out r.voice.last_sample_value in
      let sounds : sum ≡ s.adds out v = T.sounds_by t m out sum v w turned.2 (ap (λ (b : Bool). added_of b out w.last_sample_value) (sym stays.stays)) ∙ sym (follows.adds out v turned.0) in
      let own : w.phrase ≡ t.phrase = ap (λ (u : Voice). u.phrase) turned.2 ∙ turn_phrase t m v ∙ turned.0 in
      let kept : s.leaves w ≡ false = follows.leaves w own ∙ ap (should_remove_of t) turned.2 ∙ stays.stays_after in
      stays_on s c (glided_to i out) (le_refl i) v w sum same sounds n few below all is zero-le kept true (λ e. refl)

-- ---- what each voice does on its own phrase
pub follows_own : (p : Params) (c : Channel) (m : List ℕ) (k : ℕ) → eqb (phrase_at c k).length 0 ≡ false → Follows (turning_in p c m) (tick_of p (moment_for c k)) (stored_in (phrase_at c k) m)
follows_own p c m k full =
    let to : (v : Voice) → v.phrase ≡ (tick_of p (moment_for c k)).phrase → T.Alike (turning_in p c m) (turning_by (tick_of p (moment_for c k)) (stored_in (phrase_at c k) m)) v =
    λ v e. subst (λ (j : ℕ). T.Alike (turning_in p c m) (turning_by (tick_of p (moment_for c j)) (stored_in (phrase_at c j) m)) v) (e ∙ tick_phrase p (moment_for c k))
    (T.turning_turns p c m v (subst (λ (j : ℕ). eqb (phrase_at c j).length 0 ≡ false) (sym (e ∙ tick_phrase p (moment_for c k))) full)) in
    record { turns = λ v e. (to v e).turns; leaves = λ v e. (to v e).leaves; adds = λ out v e. (to v e).adds out }

-- the next voice, whose phrase is ph: it rests, or takes its turn at its phrase's tick
module _ (p : Params) (c : Channel) (g : Going) (n : ℕ) (m : List ℕ) (stands : Stands n g) (below : g.place < n) (all : length c.voices ≡ 32) (ph : Phrase) (is : ph ≡ phrase_at c (get_or c.voices g.place none).phrase) where
  abbrev v : Voice
  v = get_or c.voices g.place none

  same_voice : next_voice g c ≡ v
  same_voice = get_d_any c.voices g.place blank_voice none (omega (arith, below, stands.few, all))

  pub next_rests : ph.length ≡ 0 → (r : Going) (d : Channel) → r ≡ rested_of g → d ≡ rested_in g c → (g.place < r.place) × Onward (turning_in p c m) n c g d r
  next_rests none_there r d e f =
      let empty : eqb (phrase_at c v.phrase).length 0 ≡ true = ap (λ (q : Phrase). eqb q.length 0) (sym is) ∙ eq-eqb ph.length 0 none_there in
      rest_goes (turning_in p c m) n c g stands below all (subst (T.Rests (turning_in p c m)) (sym same_voice) (T.turning_rests p c m v empty)) r d (e, f)

  module _ (ms : Measure) (measured : ms ≡ measure_of p) (at : Moment) (then : at ≡ moment_on c.head v.phrase ph.length) (t : Tick) (ticks : t ≡ tick_with (span_by ms at.data_len) p at) where
    tick_is : t ≡ tick_of p (moment_for c v.phrase)
    tick_is = ticks ∙ tick_measured p ms measured at ∙ ap (tick_of p) (then ∙ ap (λ (q : Phrase). moment_on c.head v.phrase q.length) is)

    pub next_ticks : Next n c t g
    next_ticks = record { stands = stands; below = below; phrase = ap (λ (u : Voice). u.phrase) same_voice ∙ sym (tick_phrase p (moment_for c v.phrase)) ∙ sym (ap (λ (u : Tick). u.phrase) tick_is) }

    pub next_follows : (ph.length ≡ 0 → ⊥) → (room : Room) → room ≡ room_of ph (length m) → Follows (turning_in p c m) t (take (room.to - room.from) (drop room.from m))
    next_follows some room there =
        let full : eqb (phrase_at c v.phrase).length 0 ≡ false = ap (λ (q : Phrase). eqb q.length 0) (sym is) ∙ ne_eqb ph.length 0 some in
        let stored : take (room.to - room.from) (drop room.from m) ≡ stored_in (phrase_at c v.phrase) m =
        ap (λ (r : Room). take (r.to - r.from) (drop r.from m)) there ∙ room_stored ph m ∙ ap (λ (q : Phrase). stored_in q m) is in
        subst (λ (u : Tick). Follows (turning_in p c m) u (take (room.to - room.from) (drop room.from m))) (sym tick_is)
        (subst (Follows (turning_in p c m) (tick_of p (moment_for c v.phrase))) (sym stored) (follows_own p c m v.phrase full))

-- turns leave all but the voices, and by that the voices go
pub onward_else : {s : Turning} {n : ℕ} {c d : Channel} {g h : Going} → Onward s n c g d h → with_voices [] 0 d ≡ with_voices [] 0 c
unfolding rest_by
onward_else x = ap (λ (r : Played). with_voices [] 0 r.channel) x.same

pub same_turning : (p : Params) (m : List ℕ) (c d : Channel) → with_voices [] 0 d ≡ with_voices [] 0 c → turning_in p d m ≡ turning_in p c m
unfolding turning_in
same_turning p m c d e = ap (λ (x : Channel). turning_in p x m) e

-- ---- from the first turn to the last. How many places a channel has, is known once a turn has been taken
module _ (s : Turning) (c : Channel) where
  pub begins : Stands (min c.count 32) begun
  unfolding begun
  begins = record { few = omega arith; inside = zero-le; up = zero-le; first = zero-le; all = λ e. refl }

  rest_start : (0 < min c.count 32 → length c.voices ≡ 32) → rest_of s (min c.count 32) c begun ≡ played_of s c
  unfolding begun rest_by played_of heard_sum
  rest_start all =
      ap (λ (vs : List Voice). counting (T.rest_of s c 0 zero32 vs) (tidied_of s vs)) (take_seen c.voices c.count 32 (min c.count 32) (omega arith) refl all)
      ∙ with_count (T.rest_start s c) refl

  -- where a turn begins, on channel d
  pub record PlayedTo (d : Channel) (g : Going) : Type 0 where
    pub on : Onward s (min c.count 32) c begun d g
    pub same : g.place ≡ 0 → d ≡ c
    pub all : 0 < g.place → length c.voices ≡ 32

  pub played_first : PlayedTo c begun
  unfolding begun
  played_first = record { on = record { stands = begins; same = refl }; same = λ e. refl; all = λ h. absurd (omega (arith, h)) }

  pub played_next : (d e : Channel) (g h : Going) → PlayedTo d g → g.place < h.place → length d.voices ≡ 32 → Onward s (min c.count 32) d g e h → PlayedTo e h
  played_next d e g h x further all on = record {
    on = onward x.on on;
    same = λ z. absurd (omega (arith, further, z));
    all = λ _. long g.place refl;
  }
    where
      long : (i : ℕ) → g.place ≡ i → length c.voices ≡ 32
      long zero z = ap (λ (f : Channel). length f.voices) (sym (x.same z)) ∙ all
      long (suc i) z = x.all (omega (arith, z))

  -- where none is left
  module _ (d : Channel) (g : Going) (x : PlayedTo d g) (end : min c.count 32 ≤ g.place) where
    abbrev left : Played
    left = record { channel = with_voices d.voices g.kept d; output = g.output; moved = moved_by g }

    rest_none : rest_by s d g [] ≡ left
    unfolding rest_by moved_by tidied_of behind kept_of without
    rest_none = with_count (T.rest_end s d g.kept g.output) (ap (λ (n : ℕ). cond (ltb g.kept g.place) (n - g.first) 0) (add-zero g.kept))

    ended : left ≡ played_of s c
    ended =
        let level : g.place ≡ min c.count 32 = omega (arith, end, x.on.stands.inside) in
        sym rest_none ∙ ap (rest_by s d g) (sym (ap (λ (j : ℕ). slice j (min c.count 32) d.voices) level ∙ slice_empty (min c.count 32) d.voices)) ∙ x.on.same
        ∙ rest_start (λ h. x.all (omega (arith, h, level)))

    pub ended_heard : record { output = g.output; moved = moved_by g } ≡ heard_of (played_of s c)
    ended_heard = ap heard_of ended

    pub ended_channel : with_voices d.voices g.kept d ≡ (played_of s c).channel
    ended_channel = ap (λ (r : Played). r.channel) ended

-- ---- a sample, once it is recorded: the voices play and leave the head as it was, which is closed
abbrev closing : Params → Float → Head → Played → Played
closing p x t r = record { channel = with_head (closed_of p (any_unfinished_of r.channel) t) r.channel; output = mixed_of x r.output t; moved = r.moved }

pub sample_by : (p : Params) (x : Float) (s : Turning) (c : Channel) → closing p x (played_of s c).channel.head (played_of s c) ≡ closing p x c.head (played_of s c)
sample_by p x s c = ap (λ (t : Head). closing p x t (played_of s c)) (played_head s c)

-- the whole sample
module _ (p : Params) (x : Float) (c : Channel) (m : List ℕ) where
  abbrev recorded : Channel
  recorded = taken_of m c

  abbrev heard_by : Turning
  heard_by = turning_in p recorded (memory_of x c m)

  abbrev played : Played
  played = played_of heard_by recorded

  pub sample_done : (h : Heard) (unfinished : Bool) (f : Channel) → h ≡ heard_of played → unfinished ≡ any_unfinished_of f → f ≡ played.channel
      → (mixed_with f.head x h ≡ heard_of (process_sample_of p x c m)) × (with_head (closed_of p unfinished f.head) f ≡ (process_sample_of p x c m).channel)
  unfolding process_sample_of
  sample_done h unfinished f eh eu ef =
      let u : unfinished ≡ any_unfinished_of played.channel = eu ∙ ap any_unfinished_of ef in (
        ap (λ (y : Heard). mixed_with f.head x y) eh ∙ ap (λ (g : Channel). mixed_with g.head x (heard_of played)) ef ∙ ap heard_of (sample_by p x heard_by recorded),
        ap (λ (b : Bool). with_head (closed_of p b f.head) f) u ∙ ap (λ (g : Channel). with_head (closed_of p (any_unfinished_of played.channel) g.head) g) ef
            ∙ ap (λ (r : Played). r.channel) (sample_by p x heard_by recorded),
      )

-- ---- a channel without voices: nothing is heard of it, it stays as it is, and no voice is unfinished
module _ (s : Turning) (c : Channel) (none : c.count ≡ 0) where
  abbrev with_none : Channel → Played
  with_none d = record { channel = d; output = zero32; moved = 0 }

  abbrev of_count : ℕ → Channel
  of_count n = with_voices c.voices n c

  played_none : played_of s c ≡ with_none c
  unfolding played_of kept_of tidied_of heard_sum without behind
  played_none = subst (λ (n : ℕ). played_of s (of_count n) ≡ with_none (of_count n)) (sym none) refl

  pub none_heard : silent ≡ heard_of (played_of s c)
  unfolding silent
  none_heard = sym (ap heard_of played_none)

  pub none_gone : c ≡ (played_of s c).channel
  none_gone = sym (ap (λ (r : Played). r.channel) played_none)

  pub none_unfinished : false ≡ any_unfinished_of (played_of s c).channel
  unfolding any_unfinished_of
  none_unfinished = subst (λ (n : ℕ). false ≡ any_unfinished_of (of_count n)) (sym none) refl ∙ ap any_unfinished_of none_gone
