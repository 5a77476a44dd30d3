-- What a sample of one channel of a lent record leaves, refused or not, by the laws of `sampler`. Assumes nothing.
use Rattle.std.proofs.Common.{◌≡◌, ℕ, ◌+◌, ◌-◌, ◌*◌, ◌<◌, ◌≤◌, Bool, false, cond, List, ◌++◌, length, get_or, take, drop, set, sym, refl, ap, ◌∙◌, subst, arith, eq-eqb, ne_eqb}
use lib.Ieee.{Float, binary32, mul}
use Rattle.binary32.specs.Leaves.{zero32}
use Rattle.walks.proofs.Lists.Loops.{get_d_any}
use Rattle.common_types.specs.declared.Params.{Params}
use Rattle.channel.specs.declared.Played.{Played}
use Rattle.channel.specs.declared.Channel.{Channel}
use Rattle.channel.specs.Channels.{channel_of, memory_of}
use Rattle.channel.specs.Channels.{process_sample_of as channel_sample_of}
use Rattle.sampler.specs.declared.Sampler.{Sampler}
use Rattle.sampler.specs.declared.SampleAnswer.{SampleAnswer}
use Rattle.std.specs.Prelude.{Result, Ok, Err, is_ok}
use Rattle.refusals.specs.declared.Refusal.{Refusal}
use Rattle.refusals.specs.Refusals.{code_of}
use Rattle.sampler.specs.Refusals.{channel_at, sample_judged}
use Rattle.sampler.specs.Samplers.{with_channels, channel_stepped_of, output_of, moved_at, memory_at, process_sample_of, sample_memory}
use Rattle.sampler.proofs.Rows.{sample_ready}
use Rattle.sampler.proofs.Seats.{none}
use Rattle.sampler.proofs.Parts.{stepped_is, output-is, moved_is, memory_is}
use Rattle.lent_channel.specs.declared.Heard.{Heard}
use Rattle.lent_channel.specs.Turns.{heard_of}
use Rattle.lent_sampler.specs.Hearing.{at_volume, done_in, heard_in}

-- what the call leaves
abbrev pub Leaves : Sampler → ℕ → Float → Params → List ℕ → Result Heard Refusal → Sampler → List ℕ → Type 0
Leaves s j x p m r t k =
    (record { sampler = t; output = (heard_in r).output; done = done_in r; moved = (heard_in r).moved } ≡ process_sample_of s j x p m)
    × (k ≡ sample_memory s j x p m)

module _ (s : Sampler) (j : ℕ) (x : Float) (p : Params) (m : List ℕ) where
  abbrev answer : Result (Unit {0}) Refusal → SampleAnswer
  answer d = record { sampler = cond (is_ok d) (channel_stepped_of s j p x m) s; output = cond (is_ok d) (output_of s j p x m) zero32; done = d; moved = cond (is_ok d) (moved_at s j p x m) 0 }

  abbrev left : Result (Unit {0}) Refusal → List ℕ
  left d = cond (is_ok d) (memory_at s j x m) m

  pub is_refused : (f : Refusal) → sample_judged s j p (length m) ≡ Err f → Leaves s j x p m (Err f) s m
  unfolding process_sample_of sample_memory
  is_refused f e = (sym (ap answer e), sym (ap left e))

  -- the sample on the part, which begins at a
  module _ (accepted : sample_judged s j p (length m) ≡ Ok tt) (a : ℕ) (starts : a ≡ j * s.capacity) where
    abbrev e : ℕ
    e = a + s.capacity

    abbrev part : List ℕ
    part = take (e - a) (drop a m)

    abbrev played : Played
    played = channel_sample_of p x (channel_at s j) part

    pub is_played : Leaves s j x p m (Ok (record { output = mul binary32 p.volume played.output; moved = played.moved })) (with_channels (set s.channels j played.channel) s)
        (take a m ++ (memory_of x (channel_at s j) part ++ drop (e - a) (drop a m)))
    unfolding process_sample_of sample_memory
    is_played =
        let stepped = stepped_is s j a e m starts refl p x (channel_at s j) refl played refl in
        let output = output-is s j a e m starts refl p x (channel_at s j) refl played refl in
        let moved = moved_is s j a e m starts refl p x (channel_at s j) refl played refl in
        ((λ i. record { sampler = stepped i; output = output i; done = Ok tt; moved = moved i }) ∙ sym (ap answer accepted), memory_is s j a e m starts refl x (channel_at s j) _ refl refl ∙ sym (ap left accepted))

    -- the channel is one of the two, and its part is there
    pub sample_low : (j < 2) × (a + s.capacity ≤ length m)
    sample_low =
        let r = sample_ready s j p (length m) (ap code_of accepted) in
        (r.below, subst (λ (n : ℕ). n + s.capacity ≤ length m) (sym starts) r.part)

    -- the same as the code has it, which reads the channel where it stands
    module _ (two : length s.channels ≡ 2) (d : Channel) (r : Heard) (k : List ℕ) where
      abbrev c : Channel
      c = get_or s.channels j none

      c_is : c ≡ channel_at s j
      c_is = get_d_any s.channels j none (channel_of (record { auto_passthru = false })) (omega (arith, two, sample_low.0))

      pub sample_so : r ≡ at_volume p (heard_of (channel_sample_of p x c part)) → d ≡ (channel_sample_of p x c part).channel
          → k ≡ take a m ++ (memory_of x c part ++ drop (e - a) (drop a m))
          → Leaves s j x p m (Ok r) (with_channels (set s.channels j d) s) k
      sample_so gives becomes leaves =
          let is_r : r ≡ at_volume p (heard_of played) = gives ∙ ap (λ (b : Channel). at_volume p (heard_of (channel_sample_of p x b part))) c_is in
          let is_d : d ≡ played.channel = becomes ∙ ap (λ (b : Channel). (channel_sample_of p x b part).channel) c_is in
          let is_k = leaves ∙ ap (λ (b : Channel). take a m ++ (memory_of x b part ++ drop (e - a) (drop a m))) c_is in
          ((λ q. record { sampler = with_channels (set s.channels j (is_d q)) s; output = (is_r q).output; done = Ok tt; moved = (is_r q).moved }) ∙ is_played.0, is_k ∙ is_played.1)
