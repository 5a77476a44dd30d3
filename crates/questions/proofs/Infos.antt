-- The walk over the voices that fills the infos: one turn of it, and what it leaves. Assumes nothing.
use mathlib.Core.Path.{◌≡◌, refl, ap}
use mathlib.Core.List.{List, ◌∷◌, map}
use Prim.Native.Nat.{ℕ, ◌+◌}
use native.Mathlib.Numerals.{add-one}
use native.Mathlib.Omega.{arith}
use lib.ListN.{length, set, length-map, length-take}
use lib.Seq.{sets}
use lib.Ieee.{Float}
use Rattle.binary32.specs.Leaves.{as_float}
use Rattle.walks.proofs.Lists.Runs.{run_front}
use Rattle.common_types.specs.declared.Params.{Params}
use Rattle.common_types.specs.Settings.{loop_length_of}
use Rattle.phrases.specs.declared.Phrase.{Phrase}
use Rattle.channel.specs.declared.Channel.{Channel}
use Rattle.channel.specs.Channels.{live, phrase_at}
use Rattle.voice.specs.declared.Voice.{Voice}
use Rattle.questions.specs.declared.VoiceInfo.{VoiceInfo}
use Rattle.questions.specs.Questions.{voice_info_of, in_front, no_infos, figures_of}

-- a voice's figures, by its phrase on the two channels
pub figured : (p : Params) (first own : Channel) (v : Voice) (a b : Phrase) (size n : Float) (x : VoiceInfo) → a ≡ phrase_at first v.phrase
    → b ≡ phrase_at own v.phrase → size ≡ loop_length_of p a.length → n ≡ as_float b.length → x ≡ voice_info_of size n v → x ≡ figures_of p first own v
unfolding figures_of
figured p first own v a b size n x e f g h k = rw (k, g, h, e, f) refl

-- what the rest of the walk gives, from place i on, where f gives a voice's figures
abbrev pub filled : (Voice → VoiceInfo) → List VoiceInfo → ℕ → List Voice → List VoiceInfo
filled f infos i vs = sets infos i (map f vs)

pub filled_on : (f : Voice → VoiceInfo) (infos : List VoiceInfo) (i : ℕ) (v : Voice) (x : VoiceInfo) (vs : List Voice) → x ≡ f v
    → filled f infos i (v ∷ vs) ≡ filled f (set infos i x) (i + 1) vs
filled_on f infos i v x vs e = rw (e, add-one i)

pub filled_front : (f : Voice → VoiceInfo) (c : Channel) → length c.voices ≡ 32
    → filled f no_infos 0 (live c) ≡ in_front (map f (live c)) no_infos
filled_front f c long = run_front no_infos (map f (live c)) (omega (arith, length-map (live c) f, length-take c.count c.voices))
