-- The loop of a gather: what the channels left give, from the state now, is what the whole call gives. Assumes nothing.
use mathlib.Core.Path.{◌≡◌, refl, sym, ap, ◌∙◌}
use mathlib.Core.List.{List, ◌++◌}
use Prim.Native.Nat.{ℕ, suc, ◌+◌, ◌-◌, ◌*◌, ◌≤◌, ◌<◌, zero-le}
use native.Mathlib.Nat.{le_trans, le_of_eq, mul-le-mul_right, suc-mul, sub-zero}
use native.Mathlib.Omega.{arith}
use lib.ListN.{length, take, drop, set, length-set, length-append, length-take, length-drop}
use Rattle.channel.specs.declared.Channel.{Channel}
use Rattle.channel.specs.Channels.{gathered_in, gathered_memory}
use Rattle.sampler.specs.Refusals.{channel_at}
use Rattle.sampler.specs.Samplers.{with_channels, Steps, Gathered, gather_channel, gather_channels, gathered_all}
use Rattle.sampler.specs.declared.Sampler.{Sampler}
use Rattle.sampler.proofs.Parts.{gather_is}

abbrev pub gathered : Sampler → List ℕ → Gathered
gathered s m = record { sampler = s; memory = m }

pub record Gathering (goal : Gathered) (capacity n size : ℕ) (s : Sampler) (m : List ℕ) (j : ℕ) : Type 0 where
  pub upto : j ≤ n
  pub whole : length m ≡ size
  pub seats : length s.channels ≡ 2
  pub parted : s.capacity ≡ capacity
  pub below : n ≤ 2
  pub parts : n * capacity ≤ size
  pub same : gather_channels (n - j) j (gathered s m) ≡ goal

pub gathering_starts : (s : Sampler) (m : List ℕ) → length s.channels ≡ 2 → Steps s s.count (length m)
    → Gathering (gathered_all s m) s.capacity s.count (length m) s m 0
gathering_starts s m two h = record {
  upto = zero-le;
  whole = refl;
  seats = two;
  parted = refl;
  below = h.below;
  parts = h.parts;
  same = ap (λ (k : ℕ). gather_channels k 0 (gathered s m)) (sub-zero s.count);
}

module _ {goal : Gathered} {capacity n size : ℕ} {s : Sampler} {m : List ℕ} {j : ℕ} (f : Gathering goal capacity n size s m j) where
  pub gathering_low : j < n → j < 2
  gathering_low h = omega (arith, f.below)

  -- the channel's part lies in the memory
  pub gathering_room : j < n → j * capacity + capacity ≤ length m
  gathering_room h =
      le_trans (le_of_eq (sym (suc-mul j capacity))) (le_trans (mul-le-mul_right capacity h) (le_trans f.parts (le_of_eq (sym f.whole))))

  pub gathering_ends : n ≤ j → gathered s m ≡ goal
  unfolding gather_channels
  gathering_ends h = sym (ap (λ (k : ℕ). gather_channels k j (gathered s m)) (none h)) ∙ f.same
    where
      none : n ≤ j → n - j ≡ 0
      none h = omega arith

  module _ (h : j < n) (a : ℕ) (starts : a ≡ j * capacity) (d : Channel) (last : List ℕ) where
    abbrev part : List ℕ
    part = take (a + capacity - a) (drop a m)

    abbrev left : List ℕ
    left = take a m ++ (last ++ drop (a + capacity - a) (drop a m))

    one_less : n - j ≡ suc (n - (j + 1))
    one_less = omega arith

    pub gathering_on : (c : Channel) → c ≡ channel_at s j → d ≡ gathered_in c part → last ≡ gathered_memory c part → length last ≡ length part
        → Gathering goal capacity n size (with_channels (set s.channels j d) s) left (j + 1)
    unfolding gather_channels
    gathering_on c is gathers leaves long = record {
      upto = omega arith;
      whole = (simp (length-append, length-take, length-drop, long) (omega (arith, gathering_room h))) ∙ f.whole;
      seats = length-set s.channels j d ∙ f.seats;
      parted = f.parted;
      below = f.below;
      parts = f.parts;
      same = sym (ap (gather_channels (n - (j + 1)) (j + 1)) turn) ∙ sym (ap (λ (k : ℕ). gather_channels k j (gathered s m)) one_less) ∙ f.same;
    }
      where
        turn : gather_channel j (gathered s m) ≡ gathered (with_channels (set s.channels j d) s) left
        turn = gather_is s j a (a + capacity) m (starts ∙ ap (λ (k : ℕ). j * k) (sym f.parted)) (ap (λ (k : ℕ). a + k) (sym f.parted)) c d last is gathers leaves
