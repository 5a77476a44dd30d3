-- `write` meets its contract. Assumes nothing.
use mathlib.Core.Path.{sym, ◌∙◌}
use native.Mathlib.Omega.{arith}
use Rattle.wave.proofs.Layouts.{fits_true, file_true, samples_few}
use Rattle.wave.proofs.Calls.{write_unfit, write_short, write_done}
use Rattle.wave.proofs.write.Goals as goal

pub fits_file-requires : goal.fits_file-requires
fits_file-requires c = let l = fits_true _ _ (sym c.fits_memory.ensures ∙ c.if-fits_memory.true) in (l.some, l.few)

pub overflow_cast-l : goal.overflow_cast-l
overflow_cast-l c = let l = fits_true _ _ (sym c.fits_memory.ensures ∙ c.if-fits_memory.true) in let fits = file_true _ _ (sym c.fits_file.ensures ∙ c.if-fits_file.true) in let few = samples_few c.args.l l.some in omega arith

pub overflow_cast-l-then-fits_file : goal.overflow_cast-l-then-fits_file
overflow_cast-l-then-fits_file c = let l = fits_true _ _ (sym c.fits_memory.ensures ∙ c.if-fits_memory.true) in let fits = file_true _ _ (sym c.fits_file.ensures ∙ c.if-fits_file.true) in let few = samples_few c.args.l l.some in omega arith

pub put_header-requires : goal.put_header-requires
put_header-requires c = let l = fits_true _ _ (sym c.fits_memory.ensures ∙ c.if-fits_memory.true) in let fits = file_true _ _ (sym c.fits_file.ensures ∙ c.if-fits_file.true) in let few = samples_few c.args.l l.some in (omega arith, omega arith, omega arith)

pub put_words-requires : goal.put_words-requires
put_words-requires c = let fits = file_true _ _ (sym c.fits_file.ensures ∙ c.if-fits_file.true) in record { memory_value = sym c.fits_memory.ensures ∙ c.if-fits_memory.true; samples_in_bounds = omega (arith, c.put_header.auto.out) }

pub overflow_mul-result : goal.overflow_mul-result
overflow_mul-result c = let fits = file_true _ _ (sym c.fits_file.ensures ∙ c.if-fits_file.true) in omega arith

pub overflow_mul-result-then-fits_file : goal.overflow_mul-result-then-fits_file
overflow_mul-result-then-fits_file c = let fits = file_true _ _ (sym c.fits_file.ensures ∙ c.if-fits_file.true) in omega arith

pub overflow_add-result : goal.overflow_add-result
overflow_add-result c = let fits = file_true _ _ (sym c.fits_file.ensures ∙ c.if-fits_file.true) in omega arith

pub returns-then-fits_file : goal.returns-then-fits_file
returns-then-fits_file c = let both = write_done _ _ _ _ (sym c.fits_memory.ensures ∙ c.if-fits_memory.true) (sym c.fits_file.ensures ∙ c.if-fits_file.true) c.put_header.ensures c.put_words.ensures in record { value = both.0; out_after = both.1 }

pub returns-then-fits_memory : goal.returns-then-fits_memory
returns-then-fits_memory c = let both = write_short _ _ _ _ (sym c.fits_memory.ensures ∙ c.if-fits_memory.true) (sym c.fits_file.ensures ∙ c.if-fits_file.false) in record { value = both.0; out_after = both.1 }

pub returns : goal.returns
returns c = let both = write_unfit _ _ _ _ (sym c.fits_memory.ensures ∙ c.if-fits_memory.false) in record { value = both.0; out_after = both.1 }
