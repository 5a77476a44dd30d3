-- `take` meets its contract: its test is that of `taken_at`. Assumes nothing.
use Rattle.std.proofs.Common.{◌≡◌, sym, ◌<◌, length, rules, arith, lt-ltb, le-ltb}
use Rattle.walks.proofs.Lists.Loops.{get_d_any}
use Rattle.voice.specs.Voices.{blank_voice}
use Rattle.channel.proofs.Slots.{none}
use Rattle.plain_channel.specs.Sides.{taken_at}
use Rattle.plain_channel.proofs.take.Goals as goal

pub returns-then-at-places : goal.returns-then-at-places
unfolding taken_at
returns-then-at-places c =
    let all : length c.args.c.now.voices ≡ 32 = search rules in
    let inside : c.args.at < length c.args.c.now.voices = omega (arith, all, c.places.ensures, c.if-at-places.true) in
    simp (sym c.places.ensures, lt-ltb _ _ c.if-at-places.true, c.hot_at.ensures, get_d_any c.args.c.now.voices c.args.at none blank_voice inside)

pub returns-else-at-places : goal.returns-else-at-places
unfolding taken_at
returns-else-at-places c = simp (sym c.places.ensures, le-ltb _ _ c.if-at-places.false)
