-- `write_bytes` meets its contract: the copied part is a run of stores. Assumes nothing.
use mathlib.Core.Path.{◌≡◌, sym, ap, ◌∙◌}
use mathlib.Core.List.{List, append_assoc}
use Prim.Native.Nat.{ℕ, ◌+◌, ◌-◌, ◌≤◌}
use native.Mathlib.Omega.{arith}
use lib.ListN.{length}
use Rattle.std.proofs.Common.{drop-drop}
use lib.Seq.{sets, sets-eq}
use borrow.Rule.Slice.PartMut.{put_mid}
use Rattle.decimal.proofs.writing.write_bytes.Goals as goal

copied : (l xs : List ℕ) (at k : ℕ) → k ≡ length xs → at + length xs ≤ length l → put_mid at k l xs ≡ sets l at xs
copied l xs at k e h = sym (sets-eq xs l at h ∙ simp (append_assoc, e, drop-drop))

pub returns-clause-text_after : goal.returns-clause-text_after
returns-clause-text_after c =
    ap (put_mid c.args.at (c.args.at + length c.args.bytes.now - c.args.at) c.args.text.now) c.copy_from_slice.ensures.after
    ∙ copied c.args.text.now c.args.bytes.now c.args.at _ (omega arith) (omega arith)
