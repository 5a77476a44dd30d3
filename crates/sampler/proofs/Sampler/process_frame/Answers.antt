-- `Sampler::process_frame` meets its contract: refused, it leaves all as it was, and otherwise its entries go in turn. Assumes nothing.
use mathlib.Core.Path.{◌≡◌, sym, ◌∙◌}
use lib.ListN.{length}
use Rattle.refusals.proofs.Codes.{zero_at, refused_by, told}
use Rattle.sampler.specs.Refusals.{frame_judged}
use Rattle.sampler.proofs.Rows.{frame_asked, frame_steps}
use Rattle.sampler.proofs.Framing.{frame_refused, frame_done, moved_refused, moved_done}
use Rattle.sampler.proofs.Sampler.process_frame.Goals as goal

pub returns-then-not-is_ok : goal.returns-then-not-is_ok
returns-then-not-is_ok c =
    let is = frame_asked _ _ _ _ _ _ c.frame_rows-done.ensures c.frame_asked-asked.ensures in
    let no = refused_by (frame_judged c.args.self (length c.args.frame.now) c.args.params (length c.args.memory.now)) (told is c.is_ok.ensures.value c.if-not-is_ok.true) in
    record {
      done_value = is;
      frames = frame_refused c.args.self c.args.frame.now c.args.params c.args.memory.now no;
      moved_value = sym (moved_refused c.args.self c.args.frame.now c.args.params c.args.memory.now no);
    }

pub entries-entered-requires : goal.entries-entered-requires
entries-entered-requires c =
    frame_steps _ _ _ _ (zero_at _ (told (frame_asked _ _ _ _ _ _ c.frame_rows-done.ensures c.frame_asked-asked.ensures) c.is_ok.ensures.value c.if-not-is_ok.false))

pub returns : goal.returns
returns c =
    let is = frame_asked _ _ _ _ _ _ c.frame_rows-done.ensures c.frame_asked-asked.ensures in
    let e = zero_at (frame_judged c.args.self (length c.args.frame.now) c.args.params (length c.args.memory.now)) (told is c.is_ok.ensures.value c.if-not-is_ok.false) in
    let r = c.entries-entered.ensures in
    record {
      done_value = is;
      frames = frame_done c.args.self c.args.frame.now c.args.params c.args.memory.now e r.frames;
      moved_value = r.moved_value ∙ sym (moved_done c.args.self c.args.frame.now c.args.params c.args.memory.now e);
    }
