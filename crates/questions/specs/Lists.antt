-- Voice info on a lent list: what is answered, and the list afterwards, from the answer that is given by value.
-- Definitions only. Assumes nothing.
use Rattle.std.specs.Prelude.{ℕ, List, length, take, Result, Ok, Err}
use Rattle.refusals.specs.declared.Refusal.{Refusal}
use Rattle.common_types.specs.declared.Params.{Params}
use Rattle.sampler.specs.declared.Sampler.{Sampler}
use Rattle.questions.specs.declared.VoiceInfo.{VoiceInfo}
use Rattle.questions.specs.declared.VoiceInfos.{VoiceInfos}
use Rattle.questions.specs.Questions.{in_front, get_voice_info_of}

-- how many there are, or why the question is refused
unfoldable pub infos_counted : Result VoiceInfos Refusal → Result ℕ Refusal
infos_counted (Ok v) = Ok v.count
infos_counted (Err refusal) = Err refusal

-- the infos in the front of a list, whose rest is kept; a refused answer has none
unfoldable pub listed_of : Result VoiceInfos Refusal → List VoiceInfo → List VoiceInfo
listed_of (Ok v) l = in_front (take v.count v.infos) l
listed_of (Err refusal) l = l

abbrev pub voice_info_counted : Sampler → ℕ → Params → List VoiceInfo → Result ℕ Refusal
voice_info_counted s j p l = infos_counted (get_voice_info_of s j p (length l))

abbrev pub voice_info_after : Sampler → ℕ → Params → List VoiceInfo → List VoiceInfo
voice_info_after s j p l = listed_of (get_voice_info_of s j p (length l)) l
