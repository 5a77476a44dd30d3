-- `numbers::put_words` meets its contract. The invariant: the words up to here are written (`Copies: written`). Assumes nothing.
use mathlib.Core.Path.{◌≡◌, ap, ◌∙◌}
use Prim.Native.Nat.{◌/◌}
use native.Mathlib.Omega.{arith}
use Rattle.wave_forms.specs.Values.{number_word}
use Rattle.wave_forms.proofs.Widths.{kind_of, bytes_few}
use Rattle.wave_forms.proofs.Copies.{place_fits, written, written_none, written_next, length_written}
use Rattle.wave_forms.proofs.numbers.put_words.Goals as goal

pub overflow_cast-bytes : goal.overflow_cast-bytes
overflow_cast-bytes c = let few = bytes_few (kind_of _ _ c.requires.bits_value) in omega arith

pub loop-k-init : goal.loop-k-init
loop-k-init c = record { within = omega arith; is_written = written_none _ _ }

pub overflow_mul-bytes : goal.overflow_mul-bytes
overflow_mul-bytes c =
    let few = bytes_few (kind_of _ _ c.requires.bits_value) in
    let place = place_fits (c.args.s.form.bits / 8) c.loop-k.k few.1 (omega arith) in
    omega arith

pub overflow_add-s : goal.overflow_add-s
overflow_add-s c =
    let few = bytes_few (kind_of _ _ c.requires.bits_value) in
    let place = place_fits (c.args.s.form.bits / 8) c.loop-k.k few.1 (omega arith) in
    omega arith

pub number_at-n-requires : goal.number_at-n-requires
number_at-n-requires c =
    let few = bytes_few (kind_of _ _ c.requires.bits_value) in
    let place = place_fits (c.args.s.form.bits / 8) c.loop-k.k few.1 (omega arith) in
    (omega arith, few.1)

pub word_of-requires : goal.word_of-requires
word_of-requires c = record { bits_value = c.requires.bits_value; n_bound = c.number_at-n.ensures.upper_bound }

pub loop-k-preserved : goal.loop-k-preserved
loop-k-preserved c =
    let word = c.word_of.ensures ∙ ap (number_word _ _) c.number_at-n.ensures.value in
    let now = c.loop-k.invariant.is_written in
    let kept = length_written _ _ _ _ now in
    record { within = omega arith; is_written = c.put_word.ensures ∙ written_next _ _ _ _ _ now word (omega arith) }

pub returns : goal.returns
returns c =
    let e = c.loop-k.invariant in
    let all : c.loop-k.k ≡ c.args.s.count = omega arith in
    e.is_written ∙ ap (written _ _) all
