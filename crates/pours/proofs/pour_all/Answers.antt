-- `pour_all` meets its contract. The invariant: f terms are added, and `at` is the place f samples on. The measure is how many are left.
-- Each turn adds a part that goes straight on. Assumes nothing.
use mathlib.Core.Path.{◌≡◌, sym, ap, ◌∙◌, subst}
use Prim.Native.Nat.{ℕ, ◌+◌, ◌-◌, ◌%◌, ◌≤◌, ◌<◌, zero-le, min}
use native.Mathlib.Nat.{mod-lt, mod-eq_of_lt, add-zero}
use native.Mathlib.Omega.{arith}
use borrow.Author.Rules.{rules}
use Rattle.pours.specs.Eases.{Added}
use Rattle.pours.proofs.Added.{none}
use Rattle.pours.proofs.Straight.{term, further, place_next}
use Rattle.pours.proofs.pour_all.Goals as goal

pub loop-f-init : goal.loop-f-init
loop-f-init c =
    let a = c.args in
    (zero-le, c.requires.1, sym (ap (λ (x : ℕ). x % a.b.length) (add-zero a.h.place) ∙ mod-eq_of_lt c.requires.1), none _ 0 a.sums.now)

pub overflow_sub-total : goal.overflow_sub-total
overflow_sub-total c = omega (arith, c.rest-from.ensures, mod-lt (c.args.h.start + c.loop-f.at) c.requires.3)

pub smaller-m-requires : goal.smaller-m-requires
smaller-m-requires c = search rules

-- the part of a turn: not empty, and no longer than the loop, the data or the samples that are left
record Part (f n at round from total m : ℕ) : Type 0 where
  some : 1 ≤ m
  to : f + m ≤ n
  in_loop : at + m ≤ round
  in_data : from + m ≤ total

part : {f n at round from total m : ℕ} → f < n → at < round → from < total → m ≡ min (min (round - at) (total - from)) (n - f) → Part f n at round from total m
part left inside below is = record { some = omega (arith, is); to = omega (arith, is); in_loop = omega (arith, is); in_data = omega (arith, is) }

pub pour-requires : goal.pour-requires
pour-requires c =
    let f = part c.loop-f-test.true c.loop-f.invariant.1 (subst (λ (x : ℕ). x < c.args.b.total) (sym c.rest-from.ensures) (mod-lt (c.args.h.start + c.loop-f.at) c.requires.3)) (c.smaller-m.ensures ∙ ap (λ (x : ℕ). min x (c.args.n - c.loop-f.f)) c.smaller.ensures) in
    (omega (arith, f.in_data, c.requires.4), omega (arith, f.to, c.requires.5, c.loop-f.invariant.3.size))

pub loop-f-smaller : goal.loop-f-smaller
loop-f-smaller c = let f = part c.loop-f-test.true c.loop-f.invariant.1 (subst (λ (x : ℕ). x < c.args.b.total) (sym c.rest-from.ensures) (mod-lt (c.args.h.start + c.loop-f.at) c.requires.3)) (c.smaller-m.ensures ∙ ap (λ (x : ℕ). min x (c.args.n - c.loop-f.f)) c.smaller.ensures) in omega (arith, f.some, f.to)

pub loop-f-preserved : goal.loop-f-preserved
loop-f-preserved c =
    let a = c.args in
    let l = c.loop-f in
    let f = part c.loop-f-test.true c.loop-f.invariant.1 (subst (λ (x : ℕ). x < c.args.b.total) (sym c.rest-from.ensures) (mod-lt (c.args.h.start + c.loop-f.at) c.requires.3)) (c.smaller-m.ensures ∙ ap (λ (x : ℕ). min x (c.args.n - c.loop-f.f)) c.smaller.ensures) in
    let m = c.smaller-m.result in (
      f.to,
      subst (λ (x : ℕ). x < a.b.length) (sym c.rest-at.ensures) (mod-lt (l.at + m) (omega (arith, c.requires.1))),
      c.rest-at.ensures ∙ place_next a.h.place a.b.length l.f l.at m l.invariant.2,
      further a.h.start a.h.place a.b.length a.b.total a.«data».now a.level l.f l.at c.rest-from.result m l.invariant.2 c.rest-from.ensures f.in_loop f.in_data l.invariant.3 c.pour.ensures,
    )

pub returns : goal.returns
returns c =
    let l = c.loop-f in
    let a = c.args in
    subst (λ (k : ℕ). Added (term a.h.start a.h.place a.b.length a.b.total a.«data».now a.level) 0 k a.sums.now l.sums) (omega (arith, l.invariant.0, c.loop-f-test.false)) l.invariant.3
