-- `goes_first` meets its contract. Assumes nothing.
use mathlib.Core.Path.{◌≡◌}
use mathlib.Core.Bool.{false}
use Rattle.song_merge.proofs.cursors.goes_first.Goals as goal

pub returns : goal.returns
returns c = let p : c.args.a.ended ≡ false = c.if-a.false in
    let q : c.args.b.ended ≡ false = c.if-b.false in
    rw (p, q)
