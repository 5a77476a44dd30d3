-- The first voices of a channel, poured one after the other.
--     Still            how many have been poured;  `still_first`, `still_asks`, `still_after`, `still_eased`, none yet, what the next asks, what it comes to, and what all come to
--     pours_one        the next is poured, as its phrase is looked up
-- Assumes nothing.
use mathlib.Core.Path.{◌≡◌, refl, ◌∙◌, ap, subst}
use Prim.Native.Nat.{ℕ, ◌+◌, ◌≤◌, ◌<◌, min}
use native.Mathlib.Omega.{arith}
use mathlib.Core.Bool.{Bool, true, false, cond}
use mathlib.Core.List.{List}
use lib.Dec.{eqb}
use lib.ListN.{length, get_or, set}
use lib.Ieee.{Float}
use Rattle.walks.proofs.Lists.Loops.{get_d_any}
use Rattle.common_types.specs.declared.Params.{Params}
use Rattle.voice.specs.declared.Voice.{Voice}
use Rattle.voice.specs.declared.Tick.{Tick}
use Rattle.voice.specs.Voices.{blank_voice}
use Rattle.pours.specs.declared.Pouring.{Pouring}
use Rattle.pours.specs.Pours.{Poured}
use Rattle.channel.specs.declared.Head.{Head}
use Rattle.channel.specs.declared.Channel.{Channel}
use Rattle.channel.specs.Channels.{with_voices, phrase_at}
use Rattle.channel.proofs.Slots.{none}
use Rattle.plain_channel.specs.declared.Side.{Side}
use Rattle.plain_channel.specs.Ahead.{tick_in, recording_held, Ahead, Elsewhere, may_ease, Easing, Eases, EasedBy}
use Rattle.plain_channel.proofs.Aheads.{ahead_nothing, sum_nobody}
use Rattle.plain_channel.proofs.Hotting.{hot_at, with_hot}
use Rattle.plain_channel.proofs.Summing.{with_sums}
use Rattle.plain_channel.proofs.Nexts.{eases_one}

pub record Still (p : Params) (m : List ℕ) (n : ℕ) (c : Channel) (k : Side) (i : ℕ) (d : Channel) (l : Side) : Type 0 where
  pub ahead : Ahead p m i n l.pour.sums c k.hots d l.hots
  pub head : d.head ≡ c.head
  pub count : d.count ≡ c.count
  pub else : Elsewhere k l

module _ {p : Params} {m : List ℕ} {n : ℕ} {c : Channel} {k : Side} where
  pub still_first : Easing p m 0 n c k → Still p m n c k 0 c k
  still_first may = record {
    ahead = ahead_nothing p m n k.pour.sums c k.hots (λ j low. may.ahead.adds j low ∙ sum_nobody p m may.channel j);
    head = refl;
    count = refl;
    else = record { eased = refl; next = refl; left = refl };
  }

  module _ {i : ℕ} {d : Channel} {l : Side} (s : Still p m n c k i d l) where
    pub still_asks : may_ease c.head n ≡ true → n ≤ 64 → Easing p m i n d l
    still_asks may few = record { channel = c; hots = k.hots; ahead = s.ahead; may = ap (λ (u : Head). may_ease u n) s.head ∙ may; few = few }

    pub still_after : {z : Bool} {e : Channel} {j : Side} → Eases p m i n d l z e j → (w : Bool) → z ≡ w → Still p m n c k (cond w (i + 1) i) e j
    still_after {e = e} {j} said w is = record {
      ahead = subst (λ (w : Bool). Ahead p m (cond w (i + 1) i) n j.pour.sums c k.hots e j.hots) is (said.ahead c k.hots s.ahead);
      head = said.head ∙ s.head;
      count = said.count ∙ s.count;
      else = record { eased = said.else.eased ∙ s.else.eased; next = said.else.next ∙ s.else.next; left = said.else.left ∙ s.else.left };
    }

    pub still_eased : EasedBy p m n c k i d l
    still_eased = record { ahead = s.ahead; else = s.else }

-- with the voice as it is read, its tick, its part of the memory, and what they are
pub pours_one : (p : Params) (m : List ℕ) (i n : ℕ) (c : Channel) (k : Side) → length c.voices ≡ 32 → i < min c.count 32 → may_ease c.head n ≡ true → n ≤ length k.pour.sums
    → (t : Tick) → t ≡ tick_in p c (get_or c.voices i none) → (ms : List ℕ) → ms ≡ recording_held m c (get_or c.voices i none) → eqb (phrase_at c (get_or c.voices i none).phrase).length 0 ≡ false
    → (zs : List Float) (us : List ℕ) (r : Pouring) → Poured (hot_at k i) (get_or c.voices i none) t ms n k.pour.sums zs r
    → Eases p m i n c k true (with_voices (set c.voices i r.voice) c.count c) (with_hot (with_sums zs us k) i r.hot)
pours_one p m i n c k voices below may room t is_tick ms is_memory full zs us r pours =
    let same : get_or c.voices i none ≡ get_or c.voices i blank_voice = get_d_any c.voices i none blank_voice (omega (arith, voices, below)) in
    eases_one p m i n c k voices below may room zs us r
    (subst (λ (v : Voice). eqb (phrase_at c v.phrase).length 0 ≡ false) same full)
    (subst (λ (v : Voice). Poured (hot_at k i) v (tick_in p c v) (recording_held m c v) n k.pour.sums zs r) same
    (subst (λ (u : Tick). Poured (hot_at k i) (get_or c.voices i none) u (recording_held m c (get_or c.voices i none)) n k.pour.sums zs r) is_tick
    (subst (λ (l : List ℕ). Poured (hot_at k i) (get_or c.voices i none) t l n k.pour.sums zs r) is_memory pours)))
