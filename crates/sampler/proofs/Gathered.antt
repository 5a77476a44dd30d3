-- What a gather leaves: each channel in use, and its part of the memory, is what a gather of that channel alone makes of it, and all else is as it was. Assumes nothing.
use mathlib.Core.Path.{◌≡◌, refl, sym, ap, ◌∙◌, subst}
use mathlib.Core.Bool.{Bool, true, false, cond}
use mathlib.Core.Logic.{◌≢◌, ⊎_elim}
use mathlib.Core.List.{List}
use Prim.Native.Nat.{ℕ, zero, suc, ◌+◌, ◌*◌, ◌≤◌, ◌<◌, zero-le}
use native.Mathlib.Nat.{le_refl, le_trans, le_of_eq, mul-le-mul_right, suc-mul, zero-add, eq-or-lt_of_le}
use native.Mathlib.Omega.{arith}
use native.Mathlib.Numerals.{add-one}
use Rattle.std.specs.Prelude.{Result, is_ok}
use lib.ListN.{length, take, drop, set, length-set}
use lib.Seq.{drop-drop, get_or-set_same, get_or-set_other}
use Rattle.refusals.specs.declared.Refusal.{Refusal}
use Rattle.refusals.proofs.Codes.{done_at, zero_at, refused_at}
use Rattle.channel.specs.declared.Channel.{Channel}
use Rattle.phrases.specs.Gathering.{Gathering, gather_next, gather_turns, gathering_of}
use Rattle.phrases.proofs.Fits.{Fits, turn_length, turn-fits}
use Rattle.channel.specs.Channels.{phrases_in, gathered_in, gathered_memory}
use Rattle.sampler.specs.Refusals.{channel_at, gather_judged, gather_number}
use Rattle.sampler.specs.Samplers.{with_channels, part_of, Gathered, gather_channel, gather_channels, gathered_all, gather_of, gather_memory}
use Rattle.sampler.specs.declared.Sampler.{Sampler}
use Rattle.sampler.proofs.Rows.{gather_steps}
use Rattle.sampler.proofs.Replaced.{replaced, replaced_length, replaced_behind, replaced_apart, replaced_own}
use Rattle.sampler.proofs.Entries.{Kept, kept_refl, kept_trans, Reaches, part_length}
use Rattle.sampler.proofs.Gathers.{gathered}

-- ---- a gather keeps the memory's length, whatever the channel
turns_length : (n : ℕ) (g : Gathering) → Fits g → length (gather_turns n g).memory ≡ length g.memory
unfolding gather_turns
turns_length zero g f = refl
turns_length (suc n) g f = turns_length n (gather_next g) (turn-fits g f) ∙ turn_length g f

gathered_long : (c : Channel) (m : List ℕ) → length (gathered_memory c m) ≡ length m
unfolding gathered_memory gathering_of
gathered_long c m = turns_length 8 (record { phrases = phrases_in c; memory = m; from = 0; to = 0 }) (record { down = le_refl 0; inside = zero-le })

module _ (s : Sampler) (j : ℕ) (m : List ℕ) (within : j * s.capacity + s.capacity ≤ length m) (c : Channel) where
  part_long : length (gathered_memory c (part_of s j m)) ≡ s.capacity
  part_long = gathered_long c (part_of s j m) ∙ part_length s j m within

channel_length : (j : ℕ) (g : Gathered) → Reaches g.sampler j (length g.memory) → length (gather_channel j g).memory ≡ length g.memory
unfolding gather_channel
channel_length j g r =
    let s = g.sampler in
    replaced_length s j g.memory (gathered_memory (channel_at s j) (part_of s j g.memory)) r.part (part_long s j g.memory r.part (channel_at s j))

-- ---- what each channel's gather keeps, the call keeps
front : (j n : ℕ) → suc j ≤ j + suc n
front j n = omega arith

module _ (P : Gathered → Type 0) (keeps : (j : ℕ) (g : Gathered) → Reaches g.sampler j (length g.memory) → P g → P (gather_channel j g)) where
  gathers_keep : (n j : ℕ) (g : Gathered) → j + n ≤ g.sampler.count → (j + n) * g.sampler.capacity ≤ length g.memory → P g → P (gather_channels n j g)
  unfolding gather_channels gather_channel
  gathers_keep zero j g a b h = h
  gathers_keep (suc n) j g a b h =
      let s = g.sampler in
      let e : j + suc n ≡ j + 1 + n = omega arith in
      let r : Reaches s j (length g.memory) = record {
        below = le_trans (front j n) a;
        part = le_trans (le_of_eq (sym (suc-mul j s.capacity))) (le_trans (mul-le-mul_right s.capacity (front j n)) b);
      } in
      gathers_keep n (j + 1) (gather_channel j g) (subst (λ (i : ℕ). i ≤ s.count) e a)
      (le_trans (subst (λ (i : ℕ). i * s.capacity ≤ length g.memory) e b) (le_of_eq (sym (channel_length j g r)))) (keeps j g r h)

  pub gather_keeps : (s : Sampler) (m : List ℕ) → P (gathered s m) → P (gathered (gather_of s m).sampler (gather_memory s m))
  unfolding gather_of gather_memory
  gather_keeps s m h = go (is_ok done) refl
    where
      done : Result (Unit {0}) Refusal
      done = gather_judged s (length m)

      go : (b : Bool) → is_ok done ≡ b → P (gathered (cond b (gathered_all s m).sampler s) (cond b (gathered_all s m).memory m))
      go true e =
          let k = gather_steps s (length m) (zero_at done e) in
          gathers_keep s.count 0 (gathered s m) (le_of_eq (zero-add s.count))
          (le_trans (le_of_eq (ap (λ (n : ℕ). n * s.capacity) (zero-add s.count))) k.parts) h
      go false e = h

pub gather_memory_length : (s : Sampler) (m : List ℕ) → length (gather_memory s m) ≡ length m
gather_memory_length s m = gather_keeps (λ (g : Gathered). length g.memory ≡ length m) (λ j g r h. channel_length j g r ∙ h) s m refl

pub gather_same : (s : Sampler) (m : List ℕ) → Kept s (gather_of s m).sampler
unfolding gather_channel
gather_same s m =
    gather_keeps (λ (g : Gathered). Kept s g.sampler)
    (λ j g r h. kept_trans s g.sampler _ h (record { channels = length-set g.sampler.channels j _; count = refl; capacity = refl })) s m (kept_refl s)

-- ---- a call that is refused
module _ (s : Sampler) (m : List ℕ) (no : gather_number s (length m) ≢ 0) where
  pub gather_refused : (gather_of s m).sampler ≡ s
  unfolding gather_of
  gather_refused = ap (λ (b : Bool). cond b (gathered_all s m).sampler s) (refused_at _ no)

  pub gather_leaves : gather_memory s m ≡ m
  unfolding gather_memory
  gather_leaves = ap (λ (b : Bool). cond b (gathered_all s m).memory m) (refused_at _ no)

-- ---- channel by channel
module _ (s : Sampler) (m : List ℕ) where
  -- what a gather of a channel makes of it and of its part
  abbrev channel_of : ℕ → Channel
  channel_of i = gathered_in (channel_at s i) (part_of s i m)

  abbrev part_after : ℕ → List ℕ
  part_after i = gathered_memory (channel_at s i) (part_of s i m)

  -- n channels are gathered
  record Done (n : ℕ) (g : Gathered) : Type 0 where
    size : length g.memory ≡ length m
    channels : (i : ℕ) → i < n → i < length s.channels → channel_at g.sampler i ≡ channel_of i
    parts : (i : ℕ) → i < n → part_of s i g.memory ≡ part_after i
    others : (i : ℕ) → n ≤ i → channel_at g.sampler i ≡ channel_at s i
    rest : drop (n * s.capacity) g.memory ≡ drop (n * s.capacity) m

  module _ (n : ℕ) (room : n * s.capacity ≤ length m) where
    -- one more
    module _ (j : ℕ) (h : j < n) (cs : List Channel) (w : List ℕ) (seats : length cs ≡ length s.channels) (d : Done j (gathered (with_channels cs s) w)) where
      within : j * s.capacity + s.capacity ≤ length w
      within = le_trans (le_of_eq (sym (suc-mul j s.capacity))) (le_trans (mul-le-mul_right s.capacity h) (le_trans room (le_of_eq (sym d.size))))

      same : channel_at (with_channels cs s) j ≡ channel_at s j
      same = d.others j (le_refl j)

      part : part_of s j w ≡ part_of s j m
      unfolding part_of
      part = ap (take s.capacity) d.rest

      abbrev new : Channel
      new = gathered_in (channel_at (with_channels cs s) j) (part_of s j w)

      abbrev after : List ℕ
      after = gathered_memory (channel_at (with_channels cs s) j) (part_of s j w)

      long : length after ≡ s.capacity
      long = part_long s j w within (channel_at (with_channels cs s) j)

      new_is : new ≡ channel_of j
      new_is = λ i. gathered_in (same i) (part i)

      after_is : after ≡ part_after j
      after_is = λ i. gathered_memory (same i) (part i)

      ends : j * s.capacity + s.capacity ≡ (j + 1) * s.capacity
      ends = sym (suc-mul j s.capacity) ∙ ap (λ (k : ℕ). k * s.capacity) (sym (add-one j))

      channels_on : (i : ℕ) → i < j + 1 → i < length s.channels → channel_at (with_channels (set cs j new) s) i ≡ channel_of i
      channels_on i l k = ⊎_elim own (λ q. get_or-set_other cs j i new _ (λ e. omega arith) ∙ d.channels i q k) (eq-or-lt_of_le (le i l))
        where
          le : (i : ℕ) → i < j + 1 → i ≤ j
          le i l = omega arith

          own : i ≡ j → channel_at (with_channels (set cs j new) s) i ≡ channel_of i
          own e =
              subst (λ (z : ℕ). channel_at (with_channels (set cs j new) s) z ≡ channel_of z) (sym e)
              (get_or-set_same cs j new _ (subst (λ (z : ℕ). z < length cs) e (le_trans k (le_of_eq (sym seats)))) ∙ new_is)

      parts_on : (i : ℕ) → i < j + 1 → part_of s i (replaced s j w after) ≡ part_after i
      parts_on i l = ⊎_elim own (λ q. replaced_apart s j w after within long i (λ e. omega arith) ∙ d.parts i q) (eq-or-lt_of_le (le i l))
        where
          le : (i : ℕ) → i < j + 1 → i ≤ j
          le i l = omega arith

          own : i ≡ j → part_of s i (replaced s j w after) ≡ part_after i
          own e = subst (λ (z : ℕ). part_of s z (replaced s j w after) ≡ part_after z) (sym e) (replaced_own s j w after within long ∙ after_is)

      done_on : Done (j + 1) (gathered (with_channels (set cs j new) s) (replaced s j w after))
      done_on = record {
        size = replaced_length s j w after within long ∙ d.size;
        channels = channels_on;
        parts = parts_on;
        others = λ i k. get_or-set_other cs j i new _ (λ e. omega arith) ∙ d.others i (omega arith);
        rest = replaced_behind s j w after within long ((j + 1) * s.capacity) (le_of_eq ends)
            ∙ ap (λ (k : ℕ). drop k w) (sym ends)
            ∙ sym (drop-drop s.capacity (j * s.capacity) w)
            ∙ ap (drop s.capacity) d.rest
            ∙ drop-drop s.capacity (j * s.capacity) m
            ∙ ap (λ (k : ℕ). drop k m) ends;
      }

    all_done : (k j : ℕ) → j + k ≡ n → (cs : List Channel) (w : List ℕ) → length cs ≡ length s.channels → Done j (gathered (with_channels cs s) w)
        → Done n (gather_channels k j (gathered (with_channels cs s) w))
    unfolding gather_channels gather_channel part_of
    all_done zero j e cs w seats d = subst (λ (i : ℕ). Done i (gathered (with_channels cs s) w)) e' d
      where
        e' : j ≡ n
        e' = omega arith
    all_done (suc k) j e cs w seats d =
        let l : j < n = omega arith in
        let c = new j l cs w seats d in
        all_done k (j + 1) (omega arith) (set cs j c) _ (length-set cs j c ∙ seats) (done_on j l cs w seats d)

  module _ (z : gather_number s (length m) ≡ 0) where
    done : Done s.count (gathered_all s m)
    done = all_done s.count (gather_steps s (length m) z).parts s.count 0 (zero-add s.count) s.channels m refl
        (record { size = refl; channels = λ i l. absurd (omega arith); parts = λ i l. absurd (omega arith); others = λ i l. refl; rest = refl })

    sampler_is : (gather_of s m).sampler ≡ (gathered_all s m).sampler
    unfolding gather_of
    sampler_is = ap (λ (b : Bool). cond b (gathered_all s m).sampler s) (done_at _ z)

    memory_is : gather_memory s m ≡ (gathered_all s m).memory
    unfolding gather_memory
    memory_is = ap (λ (b : Bool). cond b (gathered_all s m).memory m) (done_at _ z)

    pub gather_channel_lem : (j : ℕ) → j < s.count → j < length s.channels → channel_at (gather_of s m).sampler j ≡ gathered_in (channel_at s j) (part_of s j m)
    gather_channel_lem j h k = ap (λ (r : Sampler). channel_at r j) sampler_is ∙ done.channels j h k

    pub gather_other : (j : ℕ) → s.count ≤ j → channel_at (gather_of s m).sampler j ≡ channel_at s j
    gather_other j h = ap (λ (r : Sampler). channel_at r j) sampler_is ∙ done.others j h

    pub gather_part : (j : ℕ) → j < s.count → part_of s j (gather_memory s m) ≡ gathered_memory (channel_at s j) (part_of s j m)
    gather_part j h = ap (part_of s j) memory_is ∙ done.parts j h

    pub gather_rest : drop (s.count * s.capacity) (gather_memory s m) ≡ drop (s.count * s.capacity) m
    gather_rest = ap (drop (s.count * s.capacity)) memory_is ∙ done.rest
