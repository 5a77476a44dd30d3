-- `judged_at` meets its contract: a format that is good has a channel, and so blocks of some bytes. Assumes nothing.
-- by the numbers that were read
use mathlib.Core.Path.{◌≡◌, sym, ◌∙◌}
use Prim.Native.Nat.{ℕ, ◌*◌}
use native.Mathlib.Omega.{arith}
use mathlib.Core.List.{List}
use Rattle.wave.specs.Reader.{counted_judged}
use Rattle.wave.specs.declared.chunks.Places.{Places}
use Rattle.wave.proofs.Judgements.{format_true, judged_none, judged_other, judged_is}
use Rattle.wave.proofs.judged_at.Goals as goal

counted_of : (f : List ℕ) (p : Places) {channels size c n : ℕ} → channels ≡ c → size ≡ n → counted_judged f p (4 * channels) size ≡ counted_judged f p (4 * c) n
counted_of f p e h = cc

pub returns-then-p-eq0 : goal.returns-then-p-eq0
returns-then-p-eq0 c = sym (judged_none _ _ c.if-p-eq0.true)

pub counted-requires : goal.counted-requires
counted-requires c = let some = format_true _ _ (sym c.good_format.ensures ∙ c.if-good_format.true) in let same = c.two_at.ensures.value in record { block_nonzero = omega arith; format_bound = c.requires }

pub returns-then-good_format : goal.returns-then-good_format
returns-then-good_format c = c.counted.ensures ∙ counted_of _ _ c.two_at.ensures.value c.four_at.ensures ∙ sym (judged_is _ _ c.if-p-eq0.false (sym c.good_format.ensures ∙ c.if-good_format.true))

pub returns-else-good_format : goal.returns-else-good_format
returns-else-good_format c = sym (judged_other _ _ c.if-p-eq0.false (sym c.good_format.ensures ∙ c.if-good_format.false))
