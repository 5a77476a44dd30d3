-- `put_event` meets its contract. Assumes nothing.
use native.Mathlib.Omega.{arith}
use lib.ListN.{length-append}
use Rattle.song_merge.specs.Written.{delta_bytes, whole_event}
use Rattle.song_merge.proofs.Bytes.{behind}
use Rattle.song_merge.proofs.Deltas.{long_4}
use Rattle.song_merge.proofs.writing.put_event.Goals as goal

pub put_told-requires : goal.put_told-requires
put_told-requires c = let kept = c.put_delta-place.auto.out in
    let short = long_4 c.args.c.wait in
    (omega arith, omega arith)

pub returns : goal.returns
returns c = let a = c.args in
    let d = delta_bytes a.c.wait in
    let t = whole_event a.list.now a.c in
    let first = c.put_delta-place.ensures in record {
      value = omega (arith, c.put_told.ensures.value, first.value, length-append d t);
      out_after = behind a.out.now d t a.at _ first.value first.out_after c.put_told.ensures.out_after;
    }
