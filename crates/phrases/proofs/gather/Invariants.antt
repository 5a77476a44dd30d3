use Rattle.std.proofs.Common.{◌≡◌, ℕ, ◌-◌, ◌≤◌, List, length}
use Rattle.phrases.specs.Gathering.{Gathering, gather_turns, gathering_of}
use Rattle.phrases.specs.declared.Phrase.{Phrase}
use Rattle.phrases.proofs.Fits.{Fits}
use Rattle.phrases.proofs.gather.Given as goal

-- the turns left
pub record Going (all : List Phrase) (m : List ℕ) (turn : ℕ) (g : Gathering) : Type 0 where
  pub upto : turn ≤ 8
  pub left : gather_turns (8 - turn) g ≡ gathering_of all m
  pub fits : Fits g
  pub size : length g.memory ≡ length m

abbrev pub invariant-loop-turn : goal.invariant-loop-turn
invariant-loop-turn l =
    Going l.initial.moved l.initial.data l.turn (record { phrases = l.moved; memory = l.data; from = l.from; to = l.to })
