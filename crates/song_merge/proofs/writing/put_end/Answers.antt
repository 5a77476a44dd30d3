-- `put_end` meets its contract. Assumes nothing.
use Prim.Native.Nat.{ℕ}
use mathlib.Core.List.{List, [], ◌∷◌}
use native.Mathlib.Omega.{arith}
use lib.ListN.{length-set, length-append}
use Rattle.song_merge.specs.Written.{delta_bytes}
use Rattle.song_merge.proofs.Bytes.{behind, three}
use Rattle.song_merge.proofs.Deltas.{long_4}
use Rattle.song_merge.proofs.writing.put_end.Goals as goal

pub bounds-out-place : goal.bounds-out-place
bounds-out-place c = let kept = c.put_delta-place.auto.out in
    let at = c.put_delta-place.ensures.value in
    let short = long_4 c.args.wait in
    omega arith

pub overflow_add-out : goal.overflow_add-out
overflow_add-out c = let kept = c.put_delta-place.auto.out in
    let at = c.put_delta-place.ensures.value in
    let short = long_4 c.args.wait in
    omega arith

pub bounds-out-place-2 : goal.bounds-out-place-2
bounds-out-place-2 c = let kept = c.put_delta-place.auto.out in
    let at = c.put_delta-place.ensures.value in
    let short = long_4 c.args.wait in
    simp length-set (omega arith)

pub overflow_add-out-2 : goal.overflow_add-out-2
overflow_add-out-2 c = let kept = c.put_delta-place.auto.out in
    let at = c.put_delta-place.ensures.value in
    let short = long_4 c.args.wait in
    omega arith

pub bounds-out-place-3 : goal.bounds-out-place-3
bounds-out-place-3 c = let kept = c.put_delta-place.auto.out in
    let at = c.put_delta-place.ensures.value in
    let short = long_4 c.args.wait in
    simp length-set (omega arith)

pub overflow_add-result : goal.overflow_add-result
overflow_add-result c = let kept = c.put_delta-place.auto.out in
    let at = c.put_delta-place.ensures.value in
    let short = long_4 c.args.wait in
    omega arith

pub returns : goal.returns
returns c = let a = c.args in
    let d = delta_bytes a.wait in
    let end : List ℕ = 0xFF ∷ 0x2F ∷ 0 ∷ [] in
    let first = c.put_delta-place in record {
      value = omega (arith, first.ensures.value, length-append d end);
      out_after = behind a.out.now d end a.at _ first.ensures.value first.ensures.out_after (three first.new.out first.result 0xFF 0x2F 0);
    }
