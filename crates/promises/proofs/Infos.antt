-- What accepted voice info answers: the count of the channel's voices, and their figures in front. Assumes nothing.
use mathlib.Core.Path.{◌≡◌, refl, ap, ◌∙◌}
use mathlib.Core.Bool.{not}
use mathlib.Core.List.{List, ◌++◌}
use Prim.Native.Nat.{ℕ, ◌≤◌}
use native.Mathlib.Omega.{arith}
use borrow.Author.Tests.{ltb-true}
use lib.Dec.{ltb}
use lib.ListN.{length, take, drop, length-map}
use lib.Seq.{length-take-le, take_at}
use Rattle.std.specs.Prelude.{Result, Ok}
use Rattle.refusals.specs.declared.Refusal.{Refusal}
use Rattle.refusals.specs.declared.Refusal.TheVariants.{NoChannel, BeyondLimits, ShortList, Broken}
use Rattle.refusals.proofs.Codes.{passed}
use Rattle.common_types.specs.declared.Params.{Params}
use Rattle.common_types.specs.Settings.{beyond_limits}
use Rattle.sampler.specs.Refusals.{good_sampler, no_channel}
use Rattle.sampler.proofs.Rows.{is_true}
use Rattle.sampler.proofs.Channels.{few_voices}
use Rattle.channel.specs.Channels.{live}
use Rattle.questions.specs.declared.VoiceInfo.{VoiceInfo}
use Rattle.questions.specs.declared.VoiceInfos.{VoiceInfos}
use Rattle.questions.specs.Questions.{no_infos, in_front, figures_of, voice_infos_of, info_number, get_voice_info_of}
use Rattle.questions.specs.Lists.{infos_counted, listed_of}
use Rattle.promises.specs.Runs.{World, chan}
use Rattle.promises.specs.Demands.{figures}

module _ (w : World) (j : ℕ) (p : Params) (room : ℕ) (ok : info_number w.sampler j p room ≡ 0) (places : length (chan w j).voices ≡ 32) where
  infos : VoiceInfos
  infos = voice_infos_of p (chan w 0) (chan w j)

  given : get_voice_info_of w.sampler j p room ≡ Ok infos
  unfolding get_voice_info_of infos
  given =
      let a = passed (not (good_sampler w.sampler)) Broken _ ok in
      let b = passed (no_channel w.sampler j) NoChannel _ a.1 in
      let c = passed (beyond_limits p) BeyondLimits _ b.1 in
      let d = passed (ltb room (chan w j).count) ShortList _ c.1 in
      rw (a.0, b.0, c.0, d.0) refl

  few : (chan w j).count ≤ 32
  unfolding get_voice_info_of
  few =
      let a = passed (not (good_sampler w.sampler)) Broken _ ok in
      let b = passed (no_channel w.sampler j) NoChannel _ a.1 in
      few_voices w.sampler j (is_true (good_sampler w.sampler) a.0) (ltb-true j w.sampler.count (is_true (ltb j w.sampler.count) b.0))

  as_many : length (figures w j p) ≡ (chan w j).count
  as_many = length-map (live (chan w j)) _ ∙ length-take-le (chan w j).count (chan w j).voices (omega (arith, few))

  in_front_lem : take (chan w j).count infos.infos ≡ figures w j p
  unfolding infos voice_infos_of figures_of
  in_front_lem = take_at (figures w j p) (drop (length (figures w j p)) no_infos) (chan w j).count as_many

  pub infos_given : (r : Result VoiceInfos Refusal) → r ≡ get_voice_info_of w.sampler j p room
      → (v : VoiceInfos) × (r ≡ Ok v) × (v.count ≡ (chan w j).count) × (take v.count v.infos ≡ figures w j p)
  unfolding infos voice_infos_of
  infos_given r h = (infos, h ∙ given, refl, in_front_lem)

  pub infos_counted_lem : infos_counted (get_voice_info_of w.sampler j p room) ≡ Ok (chan w j).count
  unfolding infos_counted infos voice_infos_of
  infos_counted_lem = ap infos_counted given

  pub infos_listed : (list : List VoiceInfo) → listed_of (get_voice_info_of w.sampler j p room) list ≡ figures w j p ++ drop (chan w j).count list
  unfolding listed_of infos voice_infos_of
  infos_listed list =
      ap (λ (v : Result VoiceInfos Refusal). listed_of v list) given
      ∙ ap (λ (l : List VoiceInfo). in_front l list) in_front_lem
      ∙ ap (λ (n : ℕ). figures w j p ++ drop n list) as_many
