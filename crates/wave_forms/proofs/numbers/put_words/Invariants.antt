-- The words up to here are written (`Copies: written`).
use mathlib.Core.Path.{◌≡◌}
use mathlib.Core.List.{List}
use Prim.Native.Nat.{ℕ, ◌+◌, ◌-◌, ◌*◌, ◌/◌, ◌≤◌}
use Rattle.wave_forms.specs.Values.{number_word}
use Rattle.wave_forms.specs.Reader.{number_at}
use Rattle.wave_forms.specs.declared.Source.{Source}
use Rattle.wave_forms.proofs.Copies.{written}
use Rattle.wave_forms.proofs.numbers.put_words.Given as goal

abbrev word_at : List ℕ → Source → ℕ → ℕ
word_at f s k = number_word s.form.tag s.form.bits (number_at f (s.form.bits / 8) (s.first + s.form.bits / 8 * k))

abbrev pub invariant-loop-k : goal.invariant-loop-k
invariant-loop-k l = record {
  within : l.k ≤ l.s.count;
  is_written : l.out ≡ written l.initial.out (word_at l.file l.s) l.k;
}
