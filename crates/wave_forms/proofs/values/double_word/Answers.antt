-- `values::double_word` meets its contract. Assumes nothing.
use Rattle.wave_forms.proofs.Doubles.{nan_word, plus_word, minus_word}
use Rattle.wave_forms.proofs.values.double_word.Goals as goal

pub returns-then-rest-gt9218868437227405312 : goal.returns-then-rest-gt9218868437227405312
returns-then-rest-gt9218868437227405312 c = nan_word _ c.if-rest-gt9218868437227405312.true

pub returns-then-n-lt9223372036854775808 : goal.returns-then-n-lt9223372036854775808
returns-then-n-lt9223372036854775808 c = plus_word _ _ c.size_word-size.ensures.value c.if-n-lt9223372036854775808.true

pub returns-else-n-lt9223372036854775808 : goal.returns-else-n-lt9223372036854775808
returns-else-n-lt9223372036854775808 c = minus_word _ _ c.size_word-size.ensures.value c.if-n-lt9223372036854775808.false c.if-rest-gt9218868437227405312.false
