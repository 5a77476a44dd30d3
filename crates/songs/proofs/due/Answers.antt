-- `due` meets its contract. The invariant: with those from here on, as many are due as from the first. Assumes nothing.
use Rattle.std.proofs.Common.{◌≡◌, ℕ, ◌+◌, ◌≤◌, max, Bool, true, false, leb, leb-true, leb-false, refl, ◌∙◌, arith}
use Rattle.songs.proofs.Dues.{dues_from, dues_over, dues_none, dues_next}
use Rattle.songs.proofs.due.Goals as goal

-- at the end of the list none is due from here on, and none where the first place was past it
dues_end : (next entries place here first : ℕ) → place + here ≡ next + first → here ≡ 0 → entries ≤ place → (next ≤ entries → place ≤ entries) → (entries ≤ next → first ≡ 0) → max next entries ≡ next + first
dues_end next entries place here first e none out upto past = go (leb next entries) refl
  where
    go : (b : Bool) → leb next entries ≡ b → max next entries ≡ next + first
    go true h = let k : place ≤ entries = upto (leb-true next entries h) in omega arith
    go false h = let l = leb-false next entries h in let k : first ≡ 0 = past (omega arith) in omega arith

pub loop-place-init : goal.loop-place-init
loop-place-init c = refl

pub overflow_mul-place : goal.overflow_mul-place
overflow_mul-place c = omega arith

pub offset_bounds-list-place : goal.offset_bounds-list-place
offset_bounds-list-place c = omega arith

pub bounds-list-place : goal.bounds-list-place
bounds-list-place c = omega arith

pub returns-then-at-list : goal.returns-then-at-list
returns-then-at-list c = let none = dues_none c.args.list.now c.args.at c.loop-place.place (omega arith) c.if-at-list.true in omega (arith, none, c.loop-place.invariant)

pub loop-place-preserved : goal.loop-place-preserved
loop-place-preserved c = let next = dues_next c.args.list.now c.args.at c.loop-place.place (omega arith) c.if-at-list.false in omega (arith, next, c.loop-place.invariant)

pub returns : goal.returns
returns c =
    let a = c.args in
    c.max.ensures ∙ dues_end _ _ _ _ _ c.loop-place.invariant (dues_over a.list.now a.at c.loop-place.place c.loop-place-test.false) c.loop-place-test.false c.loop-place.auto.place-end (dues_over a.list.now a.at a.next)
