-- `copy` meets its contract. Assumes nothing.
use mathlib.Core.Path.{◌≡◌, refl, ap, ◌∙◌}
use Prim.Native.Nat.{ℕ, ◌+◌}
use native.Mathlib.Omega.{arith}
use mathlib.Core.List.{List}
use lib.ListN.{set}
use lib.Seq.{sets}
use Rattle.octets.specs.Octets.{byte_at, bytes_at}
use Rattle.song_merge.proofs.Bytes.{copy_more, sets_long}
use Rattle.song_merge.proofs.writing.copy.Goals as goal

pub loop-i-init : goal.loop-i-init
unfolding bytes_at
loop-i-init c = record { within = omega arith; is_copied = refl }

pub bounds-out-at : goal.bounds-out-at
bounds-out-at c = let a = c.args in
    let kept = sets_long a.out.now (bytes_at c.loop-i.i a.list.now a.from) a.at c.loop-i.invariant.is_copied in
    omega arith

pub loop-i-preserved : goal.loop-i-preserved
loop-i-preserved c = let a = c.args in
    let i = c.loop-i.i in record {
      within = omega arith;
      is_copied = ap (λ (b : ℕ). set c.loop-i.out (a.at + i) b) c.byte_at.ensures
          ∙ ap (λ (l : List ℕ). set l (a.at + i) (byte_at a.list.now (a.from + i))) c.loop-i.invariant.is_copied
          ∙ copy_more a.list.now a.out.now a.at a.from i;
    }

pub returns : goal.returns
returns c = let a = c.args in
    let over : c.loop-i.i ≡ a.size = omega arith in
    c.loop-i.invariant.is_copied ∙ ap (λ (n : ℕ). sets a.out.now a.at (bytes_at n a.list.now a.from)) over
