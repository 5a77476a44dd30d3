-- `load` meets its contract. Assumes nothing.
use mathlib.Core.Path.{sym, ◌∙◌}
use Rattle.wave.proofs.Answers.{judged_inside}
use Rattle.wave.proofs.Calls.{load_refused, load_short, load_done}
use Rattle.wave.proofs.load.Goals as goal

pub take_words-requires : goal.take_words-requires
take_words-requires c = record { samples_in_bounds = judged_inside _ _ (sym c.judge.ensures ∙ c.in-Is.is); memory_value = sym c.fits_memory.ensures ∙ c.if-fits_memory.true }

pub returns-in-Refused : goal.returns-in-Refused
returns-in-Refused c = let both = load_refused _ _ _ (sym c.judge.ensures ∙ c.in-Refused.is) in record { value = both.0; memory_after = both.1 }

pub returns-then-fits_memory : goal.returns-then-fits_memory
returns-then-fits_memory c = let done = load_done _ _ _ _ (sym c.judge.ensures ∙ c.in-Is.is) (sym c.fits_memory.ensures ∙ c.if-fits_memory.true) in record { value = done.0; memory_after = c.take_words.ensures ∙ done.1 }

pub returns-else-fits_memory : goal.returns-else-fits_memory
returns-else-fits_memory c = let both = load_short _ _ _ _ (sym c.judge.ensures ∙ c.in-Is.is) (sym c.fits_memory.ensures ∙ c.if-fits_memory.false) in record { value = both.0; memory_after = both.1 }
