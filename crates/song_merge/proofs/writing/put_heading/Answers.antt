-- `put_heading` meets its contract. Assumes nothing.
use Rattle.octets.specs.Octets.{bytes_at}
use Rattle.song_merge.proofs.writing.put_heading.Goals as goal

pub returns : goal.returns
unfolding bytes_at
returns c = c.copy.ensures
