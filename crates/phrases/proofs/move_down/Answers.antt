-- `move_down` meets its contract: words moved down are words copied within. Assumes nothing.
use Rattle.std.proofs.Common.{ℕ, drop, sym, ap, ◌∙◌}
use native.Mathlib.Nat.{add-sub_cancel_left}
use lib.Seq.{paste}
use Rattle.phrases.proofs.Gathered.Moved.{as_pasted}
use Rattle.phrases.proofs.move_down.Goals as goal

pub returns : goal.returns
returns c =
    let a = c.args in
    c.copy_within.ensures.after
    ∙ ap (λ (k : ℕ). paste a.«data».now a.to (drop a.from a.«data».now) k) (add-sub_cancel_left a.from a.n)
    ∙ sym (as_pasted a.from a.to a.n a.«data».now)
