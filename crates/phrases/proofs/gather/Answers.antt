-- `gather` meets its contract. The loop's invariant: the turns left, from what is gathered, give what all of them give. Assumes nothing.
use Rattle.std.proofs.Common.{◌≡◌, ℕ, suc, ◌+◌, ◌-◌, ◌<◌, ◌≤◌, Option, Some, None, List, length, get_or, set, sym, refl, ap, ◌∙◌, subst, arith}
use Rattle.std.specs.Option.{option_map_or}
use Rattle.phrases.specs.Phrases.{no_phrase, room_of}
use Rattle.phrases.specs.Gathering.{Gathering, first_from, moved_down, gather_phrase, gather_next, gather_turns, gathering_of}
use Rattle.phrases.specs.declared.Phrase.{Phrase}
use Rattle.phrases.specs.declared.Room.{Room}
use Rattle.phrases.proofs.Gathered.Firsts.{first_found}
use Rattle.phrases.proofs.Fits.{Fits, room_down, turn_length, turn-fits}
use Rattle.phrases.proofs.gather.Invariants.{Going}
use Rattle.phrases.proofs.gather.Goals as goal
use Rattle.phrases.proofs.gather.Goals.{in-Some, in_default}

same : (g h : Gathering) → g.phrases ≡ h.phrases → g.memory ≡ h.memory → g.from ≡ h.from → g.to ≡ h.to → g ≡ h
same g h ps m from to =
    let e : ◌≡◌ {A = Gathering} (record { phrases = g.phrases; memory = g.memory; from = g.from; to = g.to })
    (record { phrases = h.phrases; memory = h.memory; from = h.from; to = h.to }) = rw (ps, m, from, to) in
    e

-- ---- a turn, by the number and the room that the code found
module _ (g : Gathering) where
  module _ (k : ℕ) (found : Some k ≡ first_from g.from g.phrases) where
    abbrev p : Phrase
    p = get_or g.phrases k no_phrase

    module _ (r : Room) (is : r ≡ room_of p (length g.memory)) where
      goes_down : Fits g → g.to ≤ r.from
      goes_down fits = rw is (room_down g fits k (first_found g.from g.phrases k (sym found)).behind)

      moved_on : (g' : Gathering) → g'.phrases ≡ set g.phrases k (record { start = g.to; length = p.length })
          → g'.memory ≡ moved_down r.from g.to (r.to - r.from) g.memory → g'.from ≡ r.to → g'.to ≡ g.to + (r.to - r.from) → g' ≡ gather_next g
      unfolding gather_next gather_phrase
      moved_on g' ps m from to =
          same g' (gather_phrase k g) ps
          (m ∙ ap (λ (q : Room). moved_down q.from g.to (q.to - q.from) g.memory) is)
          (from ∙ ap (λ (q : Room). q.to) is)
          (to ∙ ap (λ (q : Room). g.to + (q.to - q.from)) is)
          ∙ ap (λ (f : Option ℕ). option_map_or (λ k. gather_phrase k g) f g) found

  stays : (g' : Gathering) → None ≡ first_from g.from g.phrases → g'.phrases ≡ g.phrases → g'.memory ≡ g.memory → g'.from ≡ g.from → g'.to ≡ g.to → g' ≡ gather_next g
  unfolding gather_next
  stays g' none ps m from to = same g' g ps m from to ∙ ap (λ (f : Option ℕ). option_map_or (λ k. gather_phrase k g) f g) none

-- ---- the turns left
module _ {all : List Phrase} {m : List ℕ} {turn : ℕ} {g : Gathering} (go : Going all m turn g) where
  goes_on : turn < 8 → (g' : Gathering) → g' ≡ gather_next g → Going all m (turn + 1) g'
  unfolding gather_turns
  goes_on h g' e =
      let n : 8 - turn ≡ suc (8 - (turn + 1)) = omega arith in
      subst (Going all m (turn + 1)) (sym e) (record {
        upto = omega arith;
        left = sym (ap (λ (k : ℕ). gather_turns k g) n) ∙ go.left;
        fits = turn-fits g go.fits;
        size = turn_length g go.fits ∙ go.size;
      })

  ends : 8 ≤ turn → g ≡ gathering_of all m
  unfolding gather_turns
  ends h =
      let n : 8 - turn ≡ 0 = omega arith in
      sym (ap (λ (k : ℕ). gather_turns k g) n) ∙ go.left

pub loop-turn-init : goal.loop-turn-init
unfolding gathering_of
loop-turn-init c = record { upto = omega arith; left = refl; fits = record { down = omega arith; inside = omega arith }; size = refl }

pub move_down-requires : goal.move_down-requires
move_down-requires c =
    let room = c.room-room in
    (goes_down _ c.in-Some.k c.in-Some.ensures.value room.result room.ensures.value c.loop-turn.invariant.fits, omega (arith, room.ensures.from_le_to))

pub loop-turn-preserved : goal.loop-turn-preserved
loop-turn-preserved c =
    let on = goes_on c.loop-turn.invariant c.loop-turn-test.true _ in
    elim c.match-first_from.branch [
      | in-Some w ↦ on (moved_on _ w.in-Some.k w.in-Some.ensures.value w.room-room.result w.room-room.ensures.value _ w.moved-is (w.data-is ∙ w.move_down.ensures) w.from-is w.to-is)
      | in_default w ↦ on (stays _ _ (sym w.in_default.is ∙ c.first_from.ensures.value) w.moved-is w.data-is w.from-is w.to-is)
    ]

pub returns-clause-value : goal.returns-clause-value
returns-clause-value c = ap (λ (g : Gathering). g.phrases) (ends c.loop-turn.invariant c.loop-turn-test.false)

pub returns-clause-data_after : goal.returns-clause-data_after
returns-clause-data_after c = ap (λ (g : Gathering). g.memory) (ends c.loop-turn.invariant c.loop-turn-test.false)
