-- `binary32::scaled_rest` meets its contract: what is left, moved by the places that remain, leaves the same rest (`step`). Assumes nothing.
use Rattle.std.proofs.Common.{◌≡◌, ℕ, ◌-◌, ◌+◌, ◌*◌, ◌%◌, ◌^◌, ◌≤◌, ap, ◌∙◌, lt_trans, mod-lt, arith}
use Rattle.std.proofs.lemmas.Nat.{mul-mod_first}
use Rattle.binary32.proofs.Rests.{step, fits_word}
use Rattle.binary32.proofs.scaled_rest.Goals as goal

pub loop-more-init : goal.loop-more-init
loop-more-init c = (mod-lt c.args.m c.requires.0, mul-mod_first c.args.m (2 ^ c.args.places) c.args.by)

pub loop-more-preserved : goal.loop-more-preserved
loop-more-preserved c =
    let r = c.loop-more.left in
    let more = c.loop-more.more in
    let b = c.args.by in
    let word : r * 2 ^ 32 % 2 ^ 64 ≡ r * 2 ^ 32 = fits_word r 32 (lt_trans c.loop-more.invariant.0 c.requires.1) (omega arith) in
    let places : 32 + (more - 32) ≡ more = omega arith in (
      mod-lt _ c.requires.0,
      ap (λ (z : ℕ). z % b * 2 ^ (more - 32) % b) word ∙ step r 32 (more - 32) b ∙ ap (λ (z : ℕ). r * 2 ^ z % b) places ∙ c.loop-more.invariant.1,
    )

pub returns : goal.returns
returns c =
    let h : c.loop-more.more ≤ 32 = omega arith in
    ap (λ (z : ℕ). z % c.args.by) (fits_word c.loop-more.left c.loop-more.more (lt_trans c.loop-more.invariant.0 c.requires.1) h) ∙ c.loop-more.invariant.1
