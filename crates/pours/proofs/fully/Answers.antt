-- `fully` meets its contract: past the tests the voice is steady, what is gathered is what it sounds, and what is done is
-- what is promised. Assumes nothing.
use mathlib.Core.Path.{subst}
use native.Mathlib.Omega.{arith}
use Rattle.std.proofs.Common.{Option, IfSome}
use Rattle.plain_voice.specs.declared.Hot.{Hot}
use Rattle.pours.specs.declared.Fetched.{Fetched}
use Rattle.pours.specs.Steady.{leveled, StoodOn, Gathers}
use Rattle.pours.proofs.Promised.{steadily, sounds}
use Rattle.pours.proofs.fully.Goals as goal

pub position_on-requires : goal.position_on-requires
position_on-requires c = (c.requires.0, c.steady.ensures c.if-not-steady.false)

pub gather-requires : goal.gather-requires
gather-requires c = (c.steady.ensures c.if-not-steady.false, c.requires.2)

pub overflow_sub-n : goal.overflow_sub-n
overflow_sub-n c = (c.steady.ensures c.if-not-steady.false).some

pub value_at-value-requires : goal.value_at-value-requires
value_at-value-requires c = let e = c.steady.ensures c.if-not-steady.false in (e.early, omega (arith, e.few), omega (arith, e.some, c.requires.2, c.gather.ensures.0))

pub value_before-last-requires : goal.value_before-last-requires
value_before-last-requires c = let e = c.steady.ensures c.if-not-steady.false in (e.early, e.few, omega (arith, c.requires.2, c.gather.ensures.0))

pub add_at-requires : goal.add_at-requires
add_at-requires c = let e = c.steady.ensures c.if-not-steady.false in (e.early, e.few, omega (arith, c.requires.2, c.gather.ensures.0), c.requires.1)

pub returns : goal.returns
returns c =
    let a = c.args in
    let e = c.steady.ensures c.if-not-steady.false in
    let values = c.gather.new.values in
    let stood = subst (λ (r : Option Hot). StoodOn a.h a.t a.n a.v r) c.in_ok-hot.was c.position_on.ensures in
    let G = subst (λ (r : Option Fetched). IfSome r (Gathers a.«data».now a.t a.n a.v values)) c.in_ok-g.was c.gather.ensures.1 in
    steadily a.h a.v a.t a.«data».now a.sums.now _ a.n e.some e.steady G.lasts c.requires.1 (leveled values a.v.volume a.t.now)
    (sounds a.«data».now a.t a.n a.v _ c.in_ok-g.g G) _ _ _ _ _ G.index c.value_at-value.ensures c.value_before-last.ensures G.far
    c.heard.ensures (stood a.«data».now e.steady G.lasts) c.add_at.ensures
