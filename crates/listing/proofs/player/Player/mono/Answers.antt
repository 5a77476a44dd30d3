-- `Player::mono` meets its contract: a frame of one. Assumes nothing.
use Rattle.std.proofs.Common.{ap, ◌∙◌}
use lib.Ieee.{nan}
use Rattle.lent_sampler.specs.Hearing.{done_in}
use Rattle.listing.proofs.Frames.{one_of, answer_of, shows_outputs, shows_number}
use Rattle.listing.proofs.player.Player.mono.Goals as goal

pub returns-in-Ok : goal.returns-in-Ok
returns-in-Ok c = let a = c.args in
    let p = c.process_frame-a in
    let outputs = one_of p.new.frame nan p.auto.frame in
    let both =
    shows_outputs a.self _ a.memory.now (answer_of p.result) p.new.frame _ p.ensures.0 p.ensures.1 _ (ap done_in c.in-Ok.is)
    (c.mono_line.ensures ∙ simp (c.clock-before.ensures, c.voices.ensures, outputs)) in
    record { value = both.0; memory_after = both.1 }

pub returns-in-Err : goal.returns-in-Err
returns-in-Err c = let a = c.args in
    let p = c.process_frame-a in
    let both =
    shows_number a.self _ a.memory.now (answer_of p.result) _ _ p.ensures.0 p.ensures.1 _ c.in-Err.refusal (ap done_in c.in-Err.is) c.answered.ensures in
    record { value = both.0; memory_after = both.1 }
