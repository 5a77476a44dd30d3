-- `behind` meets its contract. Assumes nothing.
use mathlib.Core.Path.{sym, ◌∙◌}
use native.Mathlib.Omega.{arith}
use Rattle.smf.proofs.Searches.{behind_early, behind_cut, behind_whole}
use Rattle.smf.proofs.chunks.behind.Goals as goal

pub returns-then-at-all : goal.returns-then-at-all
returns-then-at-all c = sym (behind_early _ _ _ (omega arith) (omega arith))

pub returns-then-all-full : goal.returns-then-all-full
returns-then-all-full c = sym (behind_cut _ _ _ (omega arith) (omega arith))

pub returns-then-at-full : goal.returns-then-at-full
returns-then-at-full c = sym (behind_early _ _ _ (omega arith) (omega arith))

pub returns : goal.returns
returns c = c.rest.ensures ∙ sym (behind_whole _ _ _ (omega arith) (omega arith))
