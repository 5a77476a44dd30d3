-- `good` meets its contract. The loop's invariant: the flag is the answer for those passed. Assumes nothing.
use Rattle.std.proofs.Common.{◌≡◌, ℕ, length, get_or, rules, sym, refl, ap, ◌∙◌, arith}
use Rattle.phrases.specs.Phrases.{no_phrase, apart_of, every_below, good_at, good_phrases}
use Rattle.phrases.proofs.Below.{below_next, front_all}
use Rattle.phrases.proofs.good.Goals as goal

pub loop-i-init : goal.loop-i-init
unfolding every_below
loop-i-init c = (omega arith, refl)

pub loop-i-preserved : goal.loop-i-preserved
unfolding good_at
loop-i-preserved c =
    let a = c.args in
    let l = c.loop-i in
    let eight : length a.all ≡ 8 = search rules in
    let front = front_all (apart_of (get_or a.all l.i no_phrase)) a.all no_phrase l.i (omega (arith, eight)) in
    (omega arith, simp (l.invariant.1, c.ends_by.ensures, c.apart_from.ensures, front) (sym (below_next _ _)))

pub returns : goal.returns
unfolding good_phrases
returns c =
    let l = c.loop-i in
    let e : l.i ≡ 8 = omega arith in
    l.invariant.1 ∙ ap (λ (n : ℕ). every_below n (good_at c.args.capacity c.args.all)) e
