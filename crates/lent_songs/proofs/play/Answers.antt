-- `play` meets its contract: `songs`' `Dues.antt` says what stands before an entry. Assumes nothing.
use Rattle.std.proofs.Common.{arith}
use Rattle.songs.proofs.Dues.{begins, here, no_wrap, goes_on, over}
use Rattle.lent_songs.proofs.play.Goals as goal

pub loop-place-init : goal.loop-place-init
loop-place-init c = begins _ _ _ _ _ _ c.due-end.ensures

pub change_at-requires : goal.change_at-requires
change_at-requires c = (here c.loop-place.invariant c.loop-place-test.true).0

pub loop-place-preserved : goal.loop-place-preserved
loop-place-preserved c =
    let g = c.loop-place.invariant in
    let more = c.loop-place-test.true in
    rw (c.one_more-refused.ensures, no_wrap g more (omega arith) c.change-done.result)
    (goes_on g more (record { sampler = c.change-done.new.s; done = c.change-done.result }) (simp (c.change-done.ensures, c.change_at.ensures)))

pub returns : goal.returns
returns c = over c.loop-place.invariant c.loop-place-test.false
