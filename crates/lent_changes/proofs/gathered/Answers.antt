-- `gathered` meets its contract. Assumes nothing.
use Rattle.lent_changes.proofs.gathered.Goals as goal

pub returns : goal.returns
returns c =
    let gather = c.gather-moved in
    let all = c.all_of-all in
    (simp (c.laid_of.ensures, gather.ensures.value, all.ensures), simp (gather.ensures.data_after, all.ensures))
