-- `look` meets its contract. Assumes nothing.
use Rattle.std.proofs.Common.{rules, ◌≡◌, length, arith}
use Rattle.lent_sampler.proofs.Surveys.{there}
use Rattle.lent_sampler.proofs.look.Goals as goal

pub returns : goal.returns
returns c =
    let both : length c.args.s.now.channels ≡ 2 = search rules in
    record {
      seen = λ i. record {
        good = c.good.ensures i;
        count = c.args.s.now.count;
        capacity = c.args.s.now.capacity;
        first = (there c.args.s.now both 0 (omega arith) i).head;
        second = (there c.args.s.now both 1 (omega arith) i).head;
      };
      two = both;
    }
