-- `change` meets its contract: each channel's voice that the change starts is taken beside it. Assumes nothing.
use Rattle.std.proofs.Common.{rules, ◌≡◌, length}
use Rattle.plain_sampler.proofs.Beside.{change_so}
use Rattle.plain_sampler.proofs.change.Goals as goal

pub returns : goal.returns
returns c =
    let two : length c.args.s.now.channels ≡ 2 = search rules in
    let both : length c.args.k.now.sides ≡ 2 = search rules in
    let after : length c.change-done.new.s.channels ≡ 2 = search rules in
    (c.change-done.ensures, change_so c.args.s.now c.args.change c.args.k.now _ two both (record { sampler = c.change-done.new.s; done = c.change-done.result }) _ _ c.change-done.ensures after c.take.ensures c.take-2.ensures)
