-- `rest_next` meets its contract: the next voice is stored behind those that stayed. Assumes nothing.
use Rattle.std.proofs.Common.{rules, arith, ◌≡◌, ◌<◌, length, set, refl, ap}
use Rattle.walks.proofs.Lists.Loops.{get_d_any}
use Rattle.voice.specs.declared.Voice.{Voice}
use Rattle.voice.specs.Voices.{blank_voice}
use Rattle.channel.specs.Channels.{with_voices}
use Rattle.channel.proofs.Slots.{none}
use Rattle.lent_channel.specs.Turns.{rested_of, rested_in}
use Rattle.lent_channel.proofs.rest_next.Goals as goal

pub returns : goal.returns
unfolding rested_of rested_in
returns c =
    let all : length c.args.c.now.voices ≡ 32 = search rules in
    let inside : c.args.g.place < length c.args.c.now.voices = let few = c.requires.0 in omega (arith, all, few) in
    record {
      next = refl;
      channel = ap (λ (v : Voice). with_voices (set c.args.c.now.voices c.args.g.kept v) c.args.c.now.count c.args.c.now) (get_d_any c.args.c.now.voices c.args.g.place none blank_voice inside);
      all = all;
    }
