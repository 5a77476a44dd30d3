-- Turns have gone on together with the positions.
--     turn_follows, rest_follows     a voice has taken its turn, or rested, and `followed` has judged its position if it stayed
-- Assumes nothing.
use mathlib.Core.Path.{◌≡◌, refl, sym, ◌∙◌, ap, ap₂}
use Prim.Native.Nat.{ℕ, ◌+◌, ◌<◌}
use native.Mathlib.Omega.{arith}
use mathlib.Core.Bool.{Bool, true, false, not, cond}
use mathlib.Core.List.{List}
use lib.Dec.{ltb}
use lib.ListN.{length, get_or, set}
use lib.Seq.{get_or-set_same}
use borrow.Author.Tests.{lt-ltb, le-ltb}
use Rattle.voice.specs.declared.Voice.{Voice}
use Rattle.voice.specs.declared.Tick.{Tick}
use Rattle.voice.specs.Voices.{turn_of, should_remove_of, blank_voice}
use Rattle.voice.proofs.PhraseKept.{turn_phrase}
use Rattle.plain_voice.specs.declared.Hot.{Hot}
use Rattle.plain_voice.specs.Hots.{cold, judged_of}
use Rattle.channel.specs.declared.Channel.{Channel}
use Rattle.channel.specs.Channels.{with_voices, Turning, turning_by}
use Rattle.channel.proofs.Turns.{Rests}
use Rattle.lent_channel.specs.declared.Going.{Going}
use Rattle.lent_channel.specs.Turns.{next_voice, next_turn, turned_in, rested_of, rested_in, Stands, Follows}
use Rattle.lent_channel.proofs.Turns.{turn_goes, rest_goes}
use Rattle.plain_channel.specs.declared.Side.{Side}
use Rattle.plain_channel.specs.Sides.{with_hots, rest_hots, followed_by, Together, GoTogether}
use Rattle.plain_channel.proofs.Sides.{hots_stay, hots_leave}

-- ---- what `followed` leaves gives the same
-- with where the turns stand and the channel as equations say them
-- what is poured is left
as_poured : (d : Channel) (k : Side) (g r : Going) (l : Side) → l ≡ followed_by d g r k → l.pour ≡ k.pour
unfolding followed_by
as_poured d k g r l judged = ap (λ (x : Side). x.pour) judged ∙ go (ltb g.kept r.kept)
  where
    go : (b : Bool) → (cond b (with_hots (set k.hots g.kept (judged_of (get_or k.hots g.place cold) d.head.interpolates (get_or d.voices g.kept blank_voice).clip2 d.head.now)) k) k).pour ≡ k.pour
    go true = refl
    go false = refl

as_left : (s : Turning) (n : ℕ) (k : Side) (g : Going) {d e : Channel} {l : Side} {r z : Going} → (r ≡ z) × (d ≡ e) → l ≡ followed_by d g r k → rest_hots s n d l r ≡ rest_hots s n e (followed_by e g z k) z
as_left s n k g {d} {r = r} is judged = ap (λ (x : Side). rest_hots s n d x r) judged ∙ ap₂ (λ (x : Channel) (y : Going). rest_hots s n x (followed_by x g y k) y) is.1 is.0

module _ (s : Turning) (c : Channel) (k : Side) (g : Going) (n : ℕ) (stands : Stands n g) (below : g.place < n) (voices : length c.voices ≡ 32) (hots : length k.hots ≡ 32) (w : Voice) (turned : w ≡ s.turn (next_voice g c)) where
  abbrev at : ℕ
  at = g.kept

  abbrev judged : Voice → Hot
  judged u = judged_of (get_or k.hots g.place cold) c.head.interpolates u.clip2 c.head.now

  -- the voice stays
  follows_stay : s.leaves w ≡ false → (r : Going) → r.place ≡ g.place + 1 → r.kept ≡ at + 1
      → rest_hots s n (with_voices (set c.voices at w) c.count c) (followed_by (with_voices (set c.voices at w) c.count c) g r k) r ≡ rest_hots s n c k g
  unfolding followed_by
  follows_stay stays r place kept =
      let d : Channel = with_voices (set c.voices at w) c.count c in
      let far : ltb at r.kept ≡ true = lt-ltb at r.kept (omega (arith, kept)) in
      let there : get_or (set c.voices at w) at blank_voice ≡ w = get_or-set_same c.voices at w blank_voice (omega (arith, stands.up, below, stands.few, voices)) in
      ap (λ (z : Bool). rest_hots s n d (cond z (with_hots (set k.hots at (judged (get_or (set c.voices at w) at blank_voice))) k) k) r) far
      ∙ ap (λ (u : Voice). rest_hots s n d (with_hots (set k.hots at (judged u)) k) r) there
      ∙ hots_stay s c k g n stands.few below voices hots w turned stays stands.up r place kept

  -- it leaves
  follows_leave : s.leaves w ≡ true → (r : Going) → r.place ≡ g.place + 1 → r.kept ≡ at → rest_hots s n c (followed_by c g r k) r ≡ rest_hots s n c k g
  unfolding followed_by
  follows_leave gone r place kept =
      ap (λ (z : Bool). rest_hots s n c (cond z (with_hots (set k.hots at (judged (get_or c.voices at blank_voice))) k) k) r) (le-ltb at r.kept (omega (arith, kept)))
      ∙ hots_leave s c k g n stands.few below voices hots w turned gone r place kept

-- ---- as `turn_next` and `followed` have it
module _ (t : Tick) (m : List ℕ) (n : ℕ) (c : Channel) (k : Side) (g : Going) (stands : Stands n g) (below : g.place < n) (voices : length c.voices ≡ 32) (hots : length k.hots ≡ 32) (own : (next_voice g c).phrase ≡ t.phrase) where
  abbrev next : Voice
  next = next_voice g c

  abbrev w : Voice
  w = turn_of t m next

  turn_judged : (s : Turning) → Follows s t m → rest_hots s n (turned_in g (next_turn t m g next) c) (followed_by (turned_in g (next_turn t m g next) c) g (next_turn t m g next).next k) (next_turn t m g next).next ≡ rest_hots s n c k g
  unfolding next_turn turned_in turning_by
  turn_judged s follows = go (should_remove_of t w) refl
    where
      turned : w ≡ s.turn next
      turned = sym (follows.turns next own)

      gone : s.leaves w ≡ should_remove_of t w
      gone = follows.leaves w (turn_phrase t m next ∙ own)

      so : Bool → Channel
      so b = cond (not b) (with_voices (set c.voices g.kept w) c.count c) c

      to : Bool → Going
      to b = record {
        place = g.place + 1;
        kept = cond b g.kept (g.kept + 1);
        output = (next_turn t m g next).next.output;
        first = cond b (cond (ltb g.kept g.place) g.first g.place) g.first;
        glides = false;
      }

      go : (b : Bool) → should_remove_of t w ≡ b → rest_hots s n (so b) (followed_by (so b) g (to b) k) (to b) ≡ rest_hots s n c k g
      go true e = follows_leave s c k g n stands below voices hots w turned (gone ∙ e) (to true) refl refl
      go false e = follows_stay s c k g n stands below voices hots w turned (gone ∙ e) (to false) refl refl

  pub turn_follows : (r : Going) (d : Channel) → (r ≡ (next_turn t m g next).next) × (d ≡ turned_in g (next_turn t m g next) c) → (l : Side) → l ≡ followed_by d g r k → (g.place < r.place) × GoTogether t m n c k g d l r
  turn_follows r d is l judged =
      let goes = turn_goes t m n c g stands below voices own r d is in (
        goes.0,
        λ s follows. record {
          onward = goes.1 s follows;
          same = as_left s n k g is judged ∙ turn_judged s follows;
          pour = as_poured d k g r l judged;
        },
      )

-- ---- as `rest_next` and `followed` have it: the voice is its own turn
module _ (s : Turning) (n : ℕ) (c : Channel) (k : Side) (g : Going) (stands : Stands n g) (below : g.place < n) (voices : length c.voices ≡ 32) (hots : length k.hots ≡ 32) (rests : Rests s (next_voice g c)) where
  rest_judged : rest_hots s n (rested_in g c) (followed_by (rested_in g c) g (rested_of g) k) (rested_of g) ≡ rest_hots s n c k g
  unfolding rested_in rested_of
  rest_judged = follows_stay s c k g n stands below voices hots (next_voice g c) (sym rests.turns) rests.stays (rested_of g) refl refl

  pub rest_follows : (r : Going) (d : Channel) → (r ≡ rested_of g) × (d ≡ rested_in g c) → (l : Side) → l ≡ followed_by d g r k → (g.place < r.place) × Together s n c k g d l r
  rest_follows r d is l judged =
      let goes = rest_goes s n c g stands below voices rests r d is in (
        goes.0,
        record {
          onward = goes.1;
          same = as_left s n k g is judged ∙ rest_judged;
          pour = as_poured d k g r l judged;
        },
      )
