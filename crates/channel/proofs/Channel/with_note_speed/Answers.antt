-- `Channel::with_note_speed` meets its contract, by the law of loops that store. Assumes nothing.
use native.Mathlib.Nat.{le_refl}
use Rattle.walks.proofs.Lists.Loops.{stores, ends, begins}
use Rattle.channel.specs.Channels.{sped_of, set_note_speed_of}
use Rattle.channel.proofs.Slots.{none, map_from, map_on}
use borrow.Author.Rules.{rules}
use Rattle.channel.proofs.Channel.with_note_speed.Goals as goal

pub loop-i-init : goal.loop-i-init
loop-i-init c = begins (map_from (sped_of c.args.note c.args.speed) c.args.self 0) c.args.self.voices c.args.self.count _ 32 (search rules) c.places-n.ensures

pub loop-i-preserved : goal.loop-i-preserved
loop-i-preserved c = stores none c.loop-i.i _ c.loop-i.invariant (search rules) (le_refl _) (λ xs. map_on _ c.loop-i.self c.loop-i.i _ _ xs c.sped.ensures)

pub returns : goal.returns
unfolding set_note_speed_of
returns c = ends c.loop-i.invariant c.loop-i-test.false
