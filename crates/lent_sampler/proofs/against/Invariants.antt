use Rattle.std.proofs.Common.{◌≡◌, take}
use Rattle.std.specs.List.{list_any}
use Rattle.channel.specs.declared.Channel.{Channel}
use Rattle.channel.specs.Channels.{against_of}
use Rattle.lent_sampler.proofs.against.Given as goal

abbrev pub invariant-loop-c : goal.invariant-loop-c
invariant-loop-c l = record {
  blocked : l.blocked ≡ list_any (λ (c : Channel). (against_of l.asking.capacity l.asking.ask c).blocked) (take l.c-index l.c-items);
  short : l.short ≡ list_any (λ (c : Channel). (against_of l.asking.capacity l.asking.ask c).short) (take l.c-index l.c-items);
}
