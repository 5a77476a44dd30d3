-- What a call answers a host, from what the engine's call answers. Assumes nothing.
use Rattle.std.proofs.Common.{◌≡◌, ℕ, ap, ◌∙◌}
use Rattle.std.specs.Prelude.{Result}
use Rattle.refusals.specs.declared.Refusal.{Refusal}
use Rattle.refusals.specs.Refusals.{code_of}
use Rattle.sampler.specs.declared.Sampler.{Sampler}
use Rattle.sampler.specs.declared.Answer.{Answer}
use Rattle.host.specs.Crossing.{Coded}

pub coded : (a : Answer) (s : Sampler) (d : Result (Unit {0}) Refusal) (n : ℕ) → record { sampler = s; done = d } ≡ a → n ≡ code_of d → Coded a s n
coded a s d n e f = (ap (λ (b : Answer). b.sampler) e, f ∙ ap (λ (b : Answer). code_of b.done) e)
