-- `begun` meets its contract. Assumes nothing.
use mathlib.Core.Path.{◌≡◌, ap, ◌∙◌}
use Prim.Native.Nat.{ℕ}
use lib.ListN.{length, length-replicate}
use Rattle.listing.specs.Records.{good_header, header_of}
use Rattle.listing.specs.Steps.{opened_of}
use Rattle.events.proofs.feeds.begun.Goals as goal

pub returns : goal.returns
unfolding opened_of header_of good_header
returns c =
    let size : length c.args.memory.now ≡ 8192 = ap length c.requires ∙ length-replicate {A = ℕ} 8192 0 in
    simp (c.open-step.ensures, size)
