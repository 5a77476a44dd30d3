-- `error_in` meets its contract: the writer tells whether the text fits. Assumes nothing.
use mathlib.Core.Path.{sym, ◌∙◌}
use mathlib.Core.Bool.{not}
use lib.Dec.{ltb}
use Rattle.questions.specs.Sights.{head_in}
use Rattle.questions.proofs.Answers.{rows_open, text_answered, text_left}
use Rattle.questions.proofs.error_in.Goals as goal

pub returns : goal.returns
returns c =
    let t = c.args.t in
    let text = c.args.text.now in
    let passed = rows_open (not t.good) (not (ltb c.args.channel t.count)) (sym c.in_ok-rows.was ∙ c.rows.ensures) in
    let r = (head_in t c.args.channel).recorder in
    record {
      value = simp (c.print_error_info.ensures.value, c.recorder_in.ensures, passed.0, passed.1) (text_answered r text);
      text_after = simp (c.print_error_info.ensures.text_after, c.recorder_in.ensures, passed.0, passed.1) (text_left r text);
    }
