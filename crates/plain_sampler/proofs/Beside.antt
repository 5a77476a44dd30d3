-- What stands beside the record after a change and after a sample, as the code has it, which reads a channel and a side where they stand. Assumes nothing.
use Rattle.std.proofs.Common.{◌≡◌, refl, ap, sym, ◌∙◌, ℕ, ◌+◌, ◌-◌, ◌*◌, ◌<◌, Bool, false, cond, List, length, get_or, take, drop, set, length-set, arith, eqb}
use lib.Ieee.{Float}
use Rattle.std.specs.Prelude.{Result, Ok, Err}
use Rattle.refusals.specs.declared.Refusal.{Refusal}
use Rattle.refusals.specs.Refusals.{code_of}
use Rattle.refusals.proofs.Codes.{numbered}
use Rattle.walks.proofs.Lists.Loops.{get_d_any}
use Rattle.common_types.specs.declared.Params.{Params}
use Rattle.plain_voice.specs.declared.Hot.{Hot}
use Rattle.channel.specs.declared.Change.{Change}
use Rattle.channel.specs.declared.Channel.{Channel}
use Rattle.channel.specs.Channels.{channel_of}
use Rattle.plain_channel.specs.declared.Side.{Side}
use Rattle.plain_channel.specs.Sides.{cold_side, with_hots, taken_at, side_after, side_played}
use Rattle.plain_channel.specs.Ahead.{rested_side, side_behind}
use Rattle.plain_channel.proofs.Aheads.{hots_none}
use Rattle.sampler.specs.declared.Answer.{Answer}
use Rattle.sampler.specs.declared.Sampler.{Sampler}
use Rattle.sampler.specs.Refusals.{channel_at, sample_judged}
use Rattle.sampler.specs.Samplers.{change_of}
use Rattle.sampler.proofs.Seats.{none}
use Rattle.sampler.proofs.Parts.{part_is}
use Rattle.plain_sampler.specs.declared.Backing.{Backing}
use Rattle.plain_sampler.specs.Backings.{side_at, with_side, taken_on, change_backing, side_stepped, sample_backing, rested_on, rested_backing}

-- ---- one of two, whatever would stand for one that isn't there
pub channel_is : (s : Sampler) → length s.channels ≡ 2 → (j : ℕ) → j < 2 → get_or s.channels j none ≡ channel_at s j
channel_is s two j low = get_d_any s.channels j none (channel_of (record { auto_passthru = false })) (omega (arith, low, two))

pub side_is : (k : Backing) (spare : Side) → length k.sides ≡ 2 → (j : ℕ) → j < 2 → get_or k.sides j spare ≡ side_at k j
side_is k spare both j low = get_d_any k.sides j spare cold_side (omega (arith, low, both))

-- ---- a sample behind no voice
module _ (p : Params) (x : Float) (c : Channel) (m : List ℕ) (d : Side) where
  pub side_none : length c.voices ≡ 32 → length d.hots ≡ 32 → side_behind p x 0 c m d ≡ side_after p x c m d
  unfolding side_after side_played
  side_none voices hots = ap (λ (hs : List Hot). with_hots hs d) (hots_none p x c m voices d hots)

-- ---- a change
module _ (s : Sampler) (x : Change) (k : Backing) (spare : Side) (two : length s.channels ≡ 2) (both : length k.sides ≡ 2) where
  pub change_so : (a : Answer) (y z : Side) → a ≡ change_of s x → length a.sampler.channels ≡ 2
      → y ≡ taken_at (get_or a.sampler.channels 0 none) (get_or s.channels 0 none).count (get_or k.sides 0 spare)
      → z ≡ taken_at (get_or a.sampler.channels 1 none) (get_or s.channels 1 none).count (get_or (set k.sides 0 y) 1 spare)
      → with_side (with_side k 0 y) 1 z ≡ change_backing s x k
  unfolding change_backing
  change_so a y z made after first second =
      let t : Sampler = a.sampler in
      let is_y : y ≡ taken_at (channel_at t 0) (channel_at s 0).count (side_at k 0) =
      first ∙ (λ q. taken_at (channel_is t after 0 (omega arith) q) (channel_is s two 0 (omega arith) q).count (side_is k spare both 0 (omega arith) q)) in
      let is_z : z ≡ taken_at (channel_at t 1) (channel_at s 1).count (side_at (with_side k 0 y) 1) =
      second ∙ (λ q. taken_at (channel_is t after 1 (omega arith) q) (channel_is s two 1 (omega arith) q).count (side_is (with_side k 0 y) spare (length-set k.sides 0 y ∙ both) 1 (omega arith) q)) in
      (λ q. with_side (with_side k 0 y) 1 (is_z q))
      ∙ ap (λ (u : Side). taken_on s t 1 (with_side k 0 u)) is_y
      ∙ ap (λ (b : Answer). taken_on s b.sampler 1 (taken_on s b.sampler 0 k)) made

-- ---- both sides at rest
module _ (k : Backing) (spare : Side) (both : length k.sides ≡ 2) where
  pub rested_so : (y z : Side) → y ≡ rested_side (get_or k.sides 0 spare) → z ≡ rested_side (get_or (set k.sides 0 y) 1 spare) → with_side (with_side k 0 y) 1 z ≡ rested_backing k
  unfolding rested_backing
  rested_so y z first second =
      let is_y : y ≡ rested_side (side_at k 0) = first ∙ ap rested_side (side_is k spare both 0 (omega arith)) in
      let is_z : z ≡ rested_side (side_at (with_side k 0 y) 1) = second ∙ ap rested_side (side_is (with_side k 0 y) spare (length-set k.sides 0 y ∙ both) 1 (omega arith)) in
      (λ q. with_side (with_side k 0 y) 1 (is_z q)) ∙ ap (λ (u : Side). rested_on 1 (with_side k 0 u)) is_y

-- ---- a sample of one channel
module _ (s : Sampler) (k : Backing) (j : ℕ) (x : Float) (p : Params) (m : List ℕ) where
  abbrev left : Result (Unit {0}) Refusal → Backing
  left d = cond (eqb (code_of d) 0) (side_stepped s j p x m k) k

  pub beside_refused : (f : Refusal) → sample_judged s j p (length m) ≡ Err f → k ≡ sample_backing s j x p m k
  unfolding sample_backing
  beside_refused f e = sym (ap left e ∙ ap (λ (b : Bool). cond b (side_stepped s j p x m k) k) (numbered f))

  -- on the part, which begins at a
  pub beside_played : sample_judged s j p (length m) ≡ Ok tt → (a : ℕ) → a ≡ j * s.capacity → j < 2 → length s.channels ≡ 2 → length k.sides ≡ 2 → (spare y : Side)
      → y ≡ side_after p x (get_or s.channels j none) (take (a + s.capacity - a) (drop a m)) (get_or k.sides j spare) → with_side k j y ≡ sample_backing s j x p m k
  unfolding sample_backing side_stepped
  beside_played accepted a starts low two both spare y follows =
      let is_y : y ≡ side_after p x (channel_at s j) (take (a + s.capacity - a) (drop a m)) (side_at k j) =
      follows ∙ (λ q. side_after p x (channel_is s two j low q) (take (a + s.capacity - a) (drop a m)) (side_is k spare both j low q)) in
      ap (with_side k j) is_y
      ∙ ap (λ (l : List ℕ). with_side k j (side_after p x (channel_at s j) l (side_at k j))) (part_is s j a (a + s.capacity) m starts refl)
      ∙ sym (ap left accepted)
