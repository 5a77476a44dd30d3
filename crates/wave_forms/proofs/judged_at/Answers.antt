-- `judged_at` meets its contract: a good form has blocks of some bytes. Assumes nothing.
-- by what was read
use mathlib.Core.Path.{◌≡◌, sym, ap, ◌∙◌}
use Prim.Native.Nat.{ℕ}
use Rattle.wave_forms.specs.Reader.{good_form, counted_judged}
use Rattle.wave_forms.specs.declared.formats.Form.{Form}
use Rattle.wave_forms.proofs.Judgements.{form_true, block_some, judged_none, judged_other, judged_is}
use Rattle.wave_forms.proofs.judged_at.Goals as goal

counted_of : (first : ℕ) {o p : Form} {size n : ℕ} → o ≡ p → size ≡ n → counted_judged o first size ≡ counted_judged p first n
counted_of first e h = cc

pub returns-then-p-eq0 : goal.returns-then-p-eq0
returns-then-p-eq0 c = sym (judged_none _ _ c.if-p-eq0.true)

pub counted-requires : goal.counted-requires
counted-requires c = block_some _ (form_true _ (sym c.good_form.ensures ∙ c.if-good_form.true))

pub returns-then-good_form : goal.returns-then-good_form
returns-then-good_form c =
    let o = c.form_at-o.ensures in
    c.counted.ensures ∙ counted_of _ o c.four_at.ensures
    ∙ sym (judged_is _ _ c.if-p-eq0.false (ap good_form (sym o) ∙ sym c.good_form.ensures ∙ c.if-good_form.true))

pub returns-else-good_form : goal.returns-else-good_form
returns-else-good_form c = sym (judged_other _ _ c.if-p-eq0.false (ap good_form (sym c.form_at-o.ensures) ∙ sym c.good_form.ensures ∙ c.if-good_form.false))
