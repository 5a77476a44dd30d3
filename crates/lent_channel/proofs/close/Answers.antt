-- `close` meets its contract: where pass-through rests the clock alone moves. Assumes nothing.
use Rattle.std.proofs.Common.{◌≡◌, ℕ, Bool, true, sym, ap, ◌∙◌}
use Rattle.channel.specs.declared.Head.{Head}
use Rattle.channel.specs.Heads.{passes_of, rests_of}
use Rattle.channel.specs.Channels.{with_head}
use Rattle.channel.proofs.Resting.{closed_resting}
use Rattle.lent_channel.proofs.close.Goals as goal

pub returns-then-rests : goal.returns-then-rests
returns-then-rests c =
    let h : Head = c.args.c.now.head in
    let rests : rests_of (passes_of c.args.params c.args.unfinished) h ≡ true =
    sym (ap (λ (b : Bool). rests_of b h) c.passes.ensures) ∙ sym c.rests.ensures ∙ c.if-rests.true in
    let clocked : ℕ → Head = λ now. record {
      now = now;
      data_len = h.data_len;
      start = h.start;
      passthru_volume = h.passthru_volume;
      recorder = h.recorder;
      passthru_on = h.passthru_on;
      interpolates = h.interpolates;
      chosen = h.chosen;
    } in (
      c.mixed-heard.ensures,
      ap (λ (n : ℕ). with_head (clocked n) c.args.c.now) c.next_time-c.ensures
          ∙ ap (λ (x : Head). with_head x c.args.c.now) (sym (closed_resting c.args.params c.args.unfinished h rests)),
    )
