-- A sample, and a gather, on channel j's part of the memory: what the call on the part leaves of the whole. Assumes nothing.
use mathlib.Core.Path.{◌≡◌, sym, ap, ◌∙◌}
use mathlib.Core.List.{List, ◌++◌}
use Prim.Native.Nat.{ℕ, ◌+◌, ◌-◌, ◌*◌, ◌<◌, min}
use native.Mathlib.Omega.{arith}
use native.Mathlib.Nat.{add-sub_cancel_left}
use lib.ListN.{take, drop, set}
use lib.Seq.{drop-drop}
use lib.Ieee.{Float, binary32, mul}
use Rattle.common_types.specs.declared.Params.{Params}
use Rattle.channel.specs.declared.Channel.{Channel}
use Rattle.channel.specs.declared.Played.{Played}
use Rattle.channel.specs.Channels.{memory_of, gathered_in, gathered_memory}
use Rattle.channel.specs.Channels.{process_sample_of as channel_sample_of}
use Rattle.sampler.specs.Refusals.{channel_at}
use Rattle.sampler.specs.Samplers.{with_channels, part_of, played_at, channel_stepped_of, output_of, moved_at, memory_at, gather_channel}
use Rattle.sampler.specs.declared.Sampler.{Sampler}
use Rattle.sampler.proofs.Replaced.{replaced}

-- where `part_start` says that the part of one of the two channels begins
pub starts_at : (j c a : ℕ) → j < 2 → a ≡ min j 1 * c → a ≡ j * c
starts_at j c a low h = let e : min j 1 ≡ j = omega arith in h ∙ ap (λ (n : ℕ). n * c) e

module _ (s : Sampler) (j a e : ℕ) (m : List ℕ) (starts : a ≡ j * s.capacity) (ends : e ≡ a + s.capacity) where
  size : e - a ≡ s.capacity
  size = ap (λ (z : ℕ). z - a) ends ∙ add-sub_cancel_left a s.capacity

  pub part_is : take (e - a) (drop a m) ≡ part_of s j m
  unfolding part_of
  part_is = ap (λ (n : ℕ). take n (drop a m)) size ∙ ap (λ (i : ℕ). take s.capacity (drop i m)) starts

  module _ (p : Params) (x : Float) (c : Channel) (is : c ≡ channel_at s j) (r : Played) (plays : r ≡ channel_sample_of p x c (take (e - a) (drop a m))) where
    played_is : r ≡ played_at s j p x m
    unfolding played_at
    played_is = plays ∙ ap (λ (d : Channel). channel_sample_of p x d (take (e - a) (drop a m))) is ∙ ap (channel_sample_of p x (channel_at s j)) part_is

    pub stepped_is : with_channels (set s.channels j r.channel) s ≡ channel_stepped_of s j p x m
    unfolding channel_stepped_of
    stepped_is = ap (λ (q : Played). with_channels (set s.channels j q.channel) s) played_is

    pub output-is : mul binary32 p.volume r.output ≡ output_of s j p x m
    unfolding output_of
    output-is = ap (λ (q : Played). mul binary32 p.volume q.output) played_is

    pub moved_is : r.moved ≡ moved_at s j p x m
    unfolding moved_at
    moved_is = ap (λ (q : Played). q.moved) played_is

  -- what the call on the part leaves of it, in its place
  module _ (f : Channel → List ℕ → List ℕ) (c : Channel) (last : List ℕ) (is : c ≡ channel_at s j) (left : last ≡ f c (take (e - a) (drop a m))) where
    whole_is : take a m ++ (last ++ drop (e - a) (drop a m)) ≡ replaced s j m (f (channel_at s j) (part_of s j m))
    whole_is =
        let rest = drop (e - a) (drop a m) in
        let part = f (channel_at s j) (part_of s j m) in
        let l : last ≡ part = left ∙ ap (λ (d : Channel). f d (take (e - a) (drop a m))) is ∙ ap (f (channel_at s j)) part_is in
        ap (λ (k : List ℕ). take a m ++ (k ++ rest)) l
        ∙ ap (λ (k : List ℕ). take a m ++ (part ++ k)) (drop-drop (e - a) a m ∙ ap (λ (n : ℕ). drop (a + n) m) size)
        ∙ ap (λ (i : ℕ). take i m ++ (part ++ drop (i + s.capacity) m)) starts

  pub memory_is : (x : Float) (c : Channel) (last : List ℕ) → c ≡ channel_at s j → last ≡ memory_of x c (take (e - a) (drop a m))
      → take a m ++ (last ++ drop (e - a) (drop a m)) ≡ memory_at s j x m
  unfolding memory_at
  memory_is x c last is h = whole_is (memory_of x) c last is h

  -- a gather of the channel
  pub gather_is : (c d : Channel) (last : List ℕ) → c ≡ channel_at s j → d ≡ gathered_in c (take (e - a) (drop a m)) → last ≡ gathered_memory c (take (e - a) (drop a m))
      → gather_channel j (record { sampler = s; memory = m })
      ≡ record { sampler = with_channels (set s.channels j d) s; memory = take a m ++ (last ++ drop (e - a) (drop a m)) }
  unfolding gather_channel
  gather_is c d last is h l =
      let channel : d ≡ gathered_in (channel_at s j) (part_of s j m) = h ∙ ap (λ (b : Channel). gathered_in b (take (e - a) (drop a m))) is ∙ ap (gathered_in (channel_at s j)) part_is in
      let memory = whole_is gathered_memory c last is l in
      sym (λ i. record { sampler = with_channels (set s.channels j (channel i)) s; memory = memory i })
