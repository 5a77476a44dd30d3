-- `followed` meets its contract: the tests are those of `followed_by`. Assumes nothing.
use Rattle.std.proofs.Common.{◌≡◌, refl, ◌<◌, length, get_or, rules, arith, lt-ltb, le-ltb}
use Rattle.walks.proofs.Lists.Loops.{get_d_any}
use Rattle.voice.specs.Voices.{blank_voice}
use Rattle.plain_voice.specs.Hots.{cold}
use Rattle.channel.proofs.Slots.{none}
use Rattle.plain_channel.specs.Sides.{followed_by}
use Rattle.plain_channel.proofs.Sides.{unjudged}
use Rattle.plain_channel.proofs.followed.Goals as goal

pub returns-then-side-g : goal.returns-then-side-g
unfolding followed_by cold
returns-then-side-g c =
    let all : length c.args.c.now.voices ≡ 32 = search rules in
    let inside : c.args.g.kept < length c.args.c.now.voices = let r = c.requires in omega (arith, all, r.0, r.1) in
    (refl, simp (lt-ltb _ _ c.if-g-r.true, c.judged.ensures, get_d_any c.args.c.now.voices c.args.g.kept none blank_voice inside))

pub returns-else-side-g : goal.returns-else-side-g
unfolding followed_by cold
returns-else-side-g c = (refl, simp (lt-ltb _ _ c.if-g-r.true, unjudged (get_or c.args.side.now.hots c.args.g.place cold) c.args.c.now.head.interpolates (get_or c.args.c.now.voices c.args.g.kept blank_voice).clip2 c.args.c.now.head.now c.if-side-g.false))

pub returns-else-g-r : goal.returns-else-g-r
unfolding followed_by
returns-else-g-r c = (refl, simp (le-ltb _ _ c.if-g-r.false))
