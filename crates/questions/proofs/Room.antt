-- An answer of infos has at most as many as there is room for, and at most 32: a channel that is asked is a good one. Assumes nothing.
use mathlib.Core.Path.{◌≡◌, refl, sym, ap, ◌∙◌, subst}
use mathlib.Core.Bool.{Bool, true, false, not, true≢false}
use Prim.Native.Nat.{ℕ, ◌≤◌}
use native.Mathlib.Omega.{arith}
use borrow.Author.Tests.{ltb-true, ltb-false}
use lib.Dec.{ltb}
use Rattle.std.specs.Prelude.{Result, Ok, Err, is_ok}
use Rattle.refusals.specs.declared.Refusal.{Refusal}
use Rattle.refusals.specs.declared.Refusal.TheVariants.{NoChannel, BeyondLimits, ShortList, Broken}
use Rattle.refusals.specs.Refusals.{row}
use Rattle.common_types.specs.declared.Params.{Params}
use Rattle.common_types.specs.Settings.{beyond_limits}
use Rattle.sampler.specs.declared.Sampler.{Sampler}
use Rattle.sampler.specs.Refusals.{channel_at, good_sampler}
use Rattle.sampler.proofs.Channels.{few_voices}
use Rattle.questions.specs.declared.VoiceInfos.{VoiceInfos}
use Rattle.questions.specs.Questions.{get_voice_info_of, voice_infos_of}

module _ (s : Sampler) (j : ℕ) (p : Params) (room : ℕ) where
  abbrev infos : VoiceInfos
  infos = voice_infos_of p (channel_at s 0) (channel_at s j)

  pub infos_fit : (v : VoiceInfos) → get_voice_info_of s j p room ≡ Ok v → (v.count ≤ room) × (v.count ≤ 32)
  unfolding get_voice_info_of voice_infos_of
  infos_fit v h = go (good_sampler s) (ltb j s.count) (beyond_limits p) (ltb room (channel_at s j).count) refl refl refl h
    where
      go : (good below beyond short : Bool) → good_sampler s ≡ good → ltb j s.count ≡ below → ltb room (channel_at s j).count ≡ short
          → ◌≡◌ {A = Result VoiceInfos Refusal} (row (not good) Broken (row (not below) NoChannel (row beyond BeyondLimits (row short ShortList (Ok infos))))) (Ok v)
          → (v.count ≤ room) × (v.count ≤ 32)
      go false below beyond short g b f e = absurd (true≢false (sym (ap is_ok e)))
      go true false beyond short g b f e = absurd (true≢false (sym (ap is_ok e)))
      go true true true short g b f e = absurd (true≢false (sym (ap is_ok e)))
      go true true false true g b f e = absurd (true≢false (sym (ap is_ok e)))
      go true true false false g b f e =
          let same : infos ≡ v = cc in
          subst (λ (w : VoiceInfos). (w.count ≤ room) × (w.count ≤ 32)) same
          (ltb-false room (channel_at s j).count f, few_voices s j g (ltb-true j s.count b))
