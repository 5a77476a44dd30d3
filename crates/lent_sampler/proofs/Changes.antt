-- The loop of a change over the channels of a lent record: what stands after j of n turns, and that what it leaves is each channel changed. How many channels there are is known once a turn has looked. Assumes nothing.
use Rattle.std.proofs.Common.{◌≡◌, ℕ, zero, suc, ◌+◌, ◌<◌, ◌≤◌, min, List, map, length, get_or, take, set, sym, refl, ap, ◌∙◌, arith, length-set}
use lib.Seq.{sets}
use Rattle.walks.proofs.Lists.Loops.{Walk, stores, ends, take_most}
use Rattle.channel.specs.declared.Channel.{Channel}
use Rattle.channel.specs.declared.Change.{Change}
use Rattle.channel.specs.Channels.{changed_of}
use Rattle.sampler.specs.declared.Sampler.{Sampler}
use Rattle.sampler.specs.Samplers.{with_channels, each_of}
use Rattle.sampler.proofs.Seats.{none, each_from, each_on}

module _ (s : Sampler) (x : Change) where
  -- the record after j of n turns
  pub record Turned (n j : ℕ) (t : Sampler) : Type 0 where
    pub upto : j ≤ n
    pub few : n ≤ 2
    pub size : length t.channels ≡ length s.channels
    pub kept : j ≡ 0 → t ≡ s
    pub long : 0 < j → length s.channels ≡ 2
    pub walk : length s.channels ≡ 2 → Walk (each_from x s 0 (take n s.channels)) (each_from x t j) t.channels n j

  pub turned_starts : (n : ℕ) → n ≤ 2 → Turned n 0 s
  turned_starts n few = record {
    upto = omega arith;
    few = few;
    size = refl;
    kept = λ e. refl;
    long = λ h. absurd (omega (arith, h));
    walk = λ two. record { upto = omega arith; within = omega (arith, two, few); same = refl };
  }

  module _ {n j : ℕ} {t : Sampler} (z : Turned n j t) where
    pub turned_on : j < n → length t.channels ≡ 2 → (d : Channel) → d ≡ changed_of x (get_or t.channels j none) → Turned n (j + 1) (with_channels (set t.channels j d) t)
    turned_on small two d e = record {
      upto = omega (arith, small);
      few = z.few;
      size = length-set t.channels j d ∙ z.size;
      kept = λ h. absurd (omega (arith, h));
      long = λ h. sym z.size ∙ two;
      walk = λ all. stores none j d (z.walk all) small (omega arith) (λ cs. each_on x t j (get_or t.channels j none) d cs e);
    }

  -- where no channel is changed the record is as it was
  none_taken : min s.count 2 ≡ 0 → s ≡ each_of x s
  unfolding each_of
  none_taken h =
      let no : 0 ≡ s.count = omega (arith, h) in
      ap (λ (k : ℕ). with_channels (sets s.channels 0 (map (changed_of x) (take k s.channels))) s) no

  leaves : length s.channels ≡ 2 → each_from x s 0 (take (min s.count 2) s.channels) ≡ each_of x s
  unfolding each_of
  leaves two = ap (each_from x s 0) (take_most s.channels s.count 2 two)

  pub turned_ends : (n j : ℕ) (t : Sampler) → n ≡ min s.count 2 → Turned n j t → n ≤ j → t ≡ each_of x s
  turned_ends n zero t all z end =
      let no : min s.count 2 ≡ 0 = omega (arith, all, end) in
      z.kept refl ∙ none_taken no
  turned_ends n (suc j) t all z end =
      let two : length s.channels ≡ 2 = z.long (omega arith) in
      ends (z.walk two) end ∙ ap (λ (k : ℕ). each_from x s 0 (take k s.channels)) all ∙ leaves two
