-- `read_wave` meets its contract, refused or done. Assumes nothing.
use Rattle.std.proofs.Common.{rules, ℕ, ◌≡◌, length, sym, ap, subst, ◌∙◌}
use Rattle.std.specs.Prelude.{Result, Ok, Err}
use Rattle.refusals.specs.declared.Refusal.{Refusal}
use Rattle.sampler.specs.declared.Sampler.{Sampler}
use Rattle.recordings.specs.declared.Surveyed.{Surveyed}
use Rattle.recordings.specs.Sights.{loading_seen, memory_left}
use Rattle.recordings.specs.Waves.{read_wave_of, read_memory}
use Rattle.recordings.proofs.Sights.{memory_seen}
use Rattle.lent_sampler.proofs.Surveys.{read_refused, read_done}
use Rattle.lent_sampler.proofs.read_wave.Goals as goal

pub returns-in_err-loading : goal.returns-in_err-loading
returns-in_err-loading c =
    let seen = c.survey.ensures.surveyed in
    let r = c.read_in.ensures.value ∙ ap (λ (t : Surveyed). loading_seen t c.args.file.now (length c.args.memory.now)) seen in
    let e : c.from_residual.result ≡ Err c.in_err-loading.field-0.0 = search rules in (
      subst (λ (q : Result ℕ Refusal). record { sampler = c.args.s.now; read = q } ≡ read_wave_of c.args.s.now c.args.file.now (length c.args.memory.now)) (sym e)
          (read_refused c.args.s.now c.args.file.now (length c.args.memory.now) c.survey.ensures.two _ r _ c.in_err-loading.was),
      c.read_in.ensures.memory_after ∙ ap (λ (t : Surveyed). memory_left t c.args.file.now c.args.memory.now) seen
          ∙ memory_seen c.args.s.now c.survey.ensures.two c.survey.ensures.eight c.args.file.now c.args.memory.now,
    )

pub returns : goal.returns
returns c =
    let seen = c.survey.ensures.surveyed in
    let r = c.read_in.ensures.value ∙ ap (λ (t : Surveyed). loading_seen t c.args.file.now (length c.args.memory.now)) seen in (
      ap (λ (x : Sampler). record { sampler = x; read = Ok c.in_ok-loading.loading.rate }) c.each.ensures
          ∙ read_done c.args.s.now c.args.file.now (length c.args.memory.now) c.survey.ensures.two _ r _ c.in_ok-loading.was,
      c.read_in.ensures.memory_after ∙ ap (λ (t : Surveyed). memory_left t c.args.file.now c.args.memory.now) seen
          ∙ memory_seen c.args.s.now c.survey.ensures.two c.survey.ensures.eight c.args.file.now c.args.memory.now,
    )
