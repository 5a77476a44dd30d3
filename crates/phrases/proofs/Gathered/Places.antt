-- Where gathered phrases stand: each behind the samples of those that began before it. Definitions only. Assumes nothing.
use Rattle.std.proofs.Common.{ℕ, ◌<◌, cond, List, [], ◌∷◌, ◌++◌, get_or}
use Rattle.walks.specs.Each.{Each}
use Rattle.phrases.specs.declared.Phrase.{Phrase}
use Rattle.phrases.specs.Phrases.{no_phrase, no_samples, stored_in}
use Rattle.phrases.specs.Gathering.{samples_before}

abbrev pub nth : List Phrase → ℕ → Phrase
nth ps i = get_or ps i no_phrase

-- one of the eight where gathering puts it: behind the samples of those that begin before it. An empty one stays
unfoldable pub gathered_phrase : List Phrase → Phrase → Phrase
gathered_phrase ps p = cond (no_samples p) p (record { start = samples_before p.start ps; length = p.length })

-- ---- some of the eight, by their numbers: their samples, one's behind another's
unfoldable pub stored_all : List Phrase → List ℕ → List ℕ → List ℕ
stored_all ps m [] = []
stored_all ps m (k ∷ ks) = stored_in (get_or ps k no_phrase) m ++ stored_all ps m ks

-- each begins before those behind it
abbrev pub Rising : List Phrase → List ℕ → Type 0
Rising ps [] = Unit {0}
Rising ps (k ∷ ks) = Each (λ (j : ℕ). (get_or ps k no_phrase).start < (get_or ps j no_phrase).start) ks × Rising ps ks
