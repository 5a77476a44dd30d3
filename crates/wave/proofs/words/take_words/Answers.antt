-- `take_words` meets its contract. Assumes nothing.
use mathlib.Core.Path.{sym, ap, ◌∙◌}
use mathlib.Core.List.{List}
use Prim.Native.Nat.{ℕ}
use native.Mathlib.Omega.{arith}
use lib.Seq.{sets}
use Rattle.wave.specs.Reader.{words_in}
use Rattle.wave.specs.Memory.{channel_words, layout_of}
use Rattle.wave.proofs.Layouts.{fits_true}
use Rattle.wave.proofs.Copies.{stored_one, stored_two}
use Rattle.wave.proofs.words.take_words.Goals as goal

pub take_channel-requires : goal.take_channel-requires
take_channel-requires c = let fits = fits_true _ _ c.requires.memory_value in record { samples_in_bounds = c.requires.samples_in_bounds; j_lt_channels = (fits.some, fits.first_fits) }

pub take_channel-requires-then-w-eq2 : goal.take_channel-requires-then-w-eq2
take_channel-requires-then-w-eq2 c =
    let two = c.if-w-eq2.true in
    let ends = (fits_true _ _ c.requires.memory_value).second_fits two in
    record { samples_in_bounds = c.requires.samples_in_bounds; j_lt_channels = (omega arith, omega (arith, c.take_channel.auto.memory)) }

pub returns-then-w-eq2 : goal.returns-then-w-eq2
returns-then-w-eq2 c =
    let a = c.args in
    let second = channel_words a.w.channels a.w.samples 1 (words_in a.file.now a.w) in
    c.take_channel-then-w-eq2.ensures ∙ ap (λ (m : List ℕ). sets m a.starts.second second) c.take_channel.ensures ∙ sym (stored_two (layout_of a.w a.starts) _ _ c.if-w-eq2.true)

pub returns-else-w-eq2 : goal.returns-else-w-eq2
returns-else-w-eq2 c = c.take_channel.ensures ∙ sym (stored_one _ _ _ c.if-w-eq2.false)
