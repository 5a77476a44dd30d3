-- `turn` meets its contract. Assumes nothing.
use mathlib.Core.Path.{sym, ◌∙◌}
use Prim.Native.Nat.{◌^◌}
use native.Mathlib.Omega.{arith}
use Rattle.wave_forms.proofs.Widths.{known_is}
use Rattle.wave_forms.proofs.Sources.{sourced, first_below, turn_refused, turn_short, turn_done}
use Rattle.wave_forms.proofs.turn.Goals as goal

pub overflow_mul-length : goal.overflow_mul-length
overflow_mul-length c = let s = sourced _ _ (sym c.judge.ensures ∙ c.in-Some.is) in omega arith

pub overflow_add-length : goal.overflow_add-length
overflow_add-length c = let s = sourced _ _ (sym c.judge.ensures ∙ c.in-Some.is) in omega arith

pub returns-then-out-length : goal.returns-then-out-length
returns-then-out-length c = let both = turn_short _ _ _ (sym c.judge.ensures ∙ c.in-Some.is) c.if-out-length.true in record { value = both.0; out_after = both.1 }

pub put_words-requires : goal.put_words-requires
put_words-requires c = let s = sourced _ _ (sym c.judge.ensures ∙ c.in-Some.is) in record { bits_value = known_is s.form.kind; first_bound = (first_below _ _ (2 ^ 63) (sym c.judge.ensures ∙ c.in-Some.is) (omega arith), omega arith, omega (arith, c.put_head.auto.out)) }

pub returns-in-None : goal.returns-in-None
returns-in-None c = let both = turn_refused _ _ (sym c.judge.ensures ∙ c.in-None.is) in record { value = both.0; out_after = both.1 }

pub returns-else-out-length : goal.returns-else-out-length
returns-else-out-length c = let both = turn_done _ _ _ (sym c.judge.ensures ∙ c.in-Some.is) (omega arith) c.put_head.ensures c.put_words.ensures in record { value = both.0; out_after = both.1 }
