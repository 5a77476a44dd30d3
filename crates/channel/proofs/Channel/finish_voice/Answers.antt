-- `Channel::finish_voice` meets its contract: its tests are those of `finished_at_of`. Assumes nothing.
use borrow.Author.Tests.{lt-ltb, le-ltb}
use Rattle.voice.specs.Voices.{blank_voice}
use Rattle.walks.proofs.Lists.Loops.{get_d_any}
use Rattle.channel.specs.Channels.{finished_at_of}
use Rattle.channel.proofs.Slots.{none}
use native.Mathlib.Omega.{arith}
use Rattle.channel.proofs.Channel.finish_voice.Goals as goal

pub returns-in_default : goal.returns-in_default
unfolding finished_at_of
returns-in_default c = simp c.in_default.is

pub returns-then-i-ge32 : goal.returns-then-i-ge32
unfolding finished_at_of
returns-then-i-ge32 c = simp (c.in-Some.is, le-ltb _ _ c.if-i-ge32.true)

pub returns : goal.returns
unfolding finished_at_of
returns c = simp (c.handle_passthru.ensures, c.finish.ensures, c.in-Some.is, lt-ltb _ _ c.if-i-ge32.false, get_d_any c.args.self.voices c.in-Some.i none blank_voice (omega (arith, c.well_formed.0.1.1.0.1.0.1)))
