-- `first_from` meets its contract. The loop's invariant: it found the first of those passed. Assumes nothing.
use Rattle.std.proofs.Common.{rules, ◌≡◌, ℕ, ◌+◌, ◌<◌, Bool, true, false, cond, not, ◌&&◌, ltb, leb, Option, Some, None, IsTrue, IfSome, MatchOption, List, get_or, sym, refl, ◌∙◌, subst, add-one, arith}
use Rattle.std.specs.Option.{option_map_or}
use Rattle.phrases.specs.Phrases.{no_phrase, no_samples}
use Rattle.phrases.specs.Gathering.{first_below}
use Rattle.phrases.specs.declared.Phrase.{Phrase}
use Rattle.phrases.proofs.first_from.Goals as goal
use Rattle.phrases.proofs.first_from.Goals.{then-is_empty-place, else-is_empty-place}

-- one more, by the test that the code makes
module _ (place : ℕ) (all : List Phrase) (i : ℕ) where
  abbrev p : Phrase
  p = get_or all i no_phrase

  asked : (o : Option ℕ) (r : Bool) (Post : ℕ → Type 0) → ((k : ℕ) → Post k → r ≡ ltb p.start (get_or all k no_phrase).start) → MatchOption o (IsTrue r) Post
      → r ≡ option_map_or (λ k. ltb p.start (get_or all k no_phrase).start) o true
  asked None r Post same e = e
  asked (Some k) r Post same e = same k e

  next : (o : Option ℕ) (none sooner test : Bool) → o ≡ first_below place all i → none ≡ no_samples p
      → sooner ≡ option_map_or (λ k. ltb p.start (get_or all k no_phrase).start) o true
      → ((not none && leb place p.start) && sooner) ≡ test → first_below place all (i + 1) ≡ cond test (Some i) o
  unfolding first_below
  next o none sooner test is e s t = rw (add-one i, ← is, ← s, ← e, t)

pub loop-i-init : goal.loop-i-init
unfolding first_below
loop-i-init c = (omega arith, refl, tt)

pub loop-i-preserved : goal.loop-i-preserved
loop-i-preserved c =
    let l = c.loop-i in
    let n = next c.args.place c.args.all l.i l.found c.is_empty.result c.is_none_or.result in
    let e = c.is_empty.ensures in
    let s = asked c.args.place c.args.all l.i l.found c.is_none_or.result _ (λ k e. search rules) c.is_none_or.ensures in
    let before = c.loop-i-test.true in
    elim c.if-is_empty-place.branch [
      | then-is_empty-place w ↦
          (omega arith, w.found-is ∙ sym (n true l.invariant.1 e s w.if-is_empty-place.true), subst (λ o. IfSome o (λ k. k < 8)) (sym w.found-is) before)
      | else-is_empty-place w ↦
          (omega arith, w.found-is ∙ sym (n false l.invariant.1 e s w.if-is_empty-place.false), subst (λ o. IfSome o (λ k. k < 8)) (sym w.found-is) l.invariant.2)
    ]
