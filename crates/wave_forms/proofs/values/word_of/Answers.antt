-- `values::word_of` meets its contract. Assumes nothing.
use mathlib.Core.Path.{◌≡◌, ◌∙◌}
use Prim.Native.Nat.{ℕ}
use lib.Ieee.{binary32, binary64, of_bits, to_bits}
use borrow.Author.Tests.{eq-eqb, ne_eqb}
use Rattle.wave_forms.specs.Values.{whole_of, narrow_of, number_word}
use Rattle.wave_forms.proofs.Widths.{kind_of, whole_fits, word_fits}
use Rattle.wave_forms.proofs.values.word_of.Goals as goal

module _ (tag bits n : ℕ) where
  whole_is : tag ≡ 1 → to_bits binary32 (whole_of bits n) ≡ number_word tag bits n
  unfolding number_word
  whole_is e = rw (eq-eqb tag 1 e)

  double_is : (tag ≡ 1 → ⊥) → bits ≡ 64 → to_bits binary32 (narrow_of (of_bits binary64 n)) ≡ number_word tag bits n
  unfolding number_word
  double_is e g = rw (ne_eqb tag 1 e, eq-eqb bits 64 g)

  own_is : (tag ≡ 1 → ⊥) → (bits ≡ 64 → ⊥) → n ≡ number_word tag bits n
  unfolding number_word
  own_is e g = rw (ne_eqb tag 1 e, ne_eqb bits 64 g)

pub whole_word-requires : goal.whole_word-requires
whole_word-requires c = whole_fits (kind_of _ _ c.requires.bits_value) c.if-tag-eq1.true _ c.requires.n_bound

pub overflow_cast-result : goal.overflow_cast-result
overflow_cast-result c = record { fits = word_fits (kind_of _ _ c.requires.bits_value) c.if-tag-eq1.false c.if-bits-eq64.false _ c.requires.n_bound }

pub returns-then-tag-eq1 : goal.returns-then-tag-eq1
returns-then-tag-eq1 c = c.whole_word.ensures ∙ whole_is _ _ _ c.if-tag-eq1.true

pub returns-then-bits-eq64 : goal.returns-then-bits-eq64
returns-then-bits-eq64 c = c.double_word.ensures ∙ double_is _ _ _ c.if-tag-eq1.false c.if-bits-eq64.true

pub returns-else-bits-eq64 : goal.returns-else-bits-eq64
returns-else-bits-eq64 c = own_is _ _ _ c.if-tag-eq1.false c.if-bits-eq64.false
