-- The steps of a run: before voices are poured none are ahead, what is poured over a stretch is what they are then ahead by, and a sample of the run takes the first of it. Assumes nothing.
use mathlib.Core.Path.{◌≡◌, refl, sym, ◌∙◌, ap, ap₂, subst}
use Prim.Native.Nat.{ℕ, suc, ◌+◌, ◌-◌, ◌%◌, ◌≤◌, ◌<◌, min}
use native.Mathlib.Omega.{arith}
use mathlib.Core.Bool.{Bool, true, false, cond}
use mathlib.Core.List.{List, [], ◌∷◌, map}
use lib.ListN.{length, take, drop, get_or, get_or-replicate, length-map}
use lib.Seq.{length_front, drop-cons}
use lib.Dec.{eqb, ltb}
use lib.Ieee.{Float}
use borrow.Author.Tests.{ltb-true, ltb-false, eqb-true}
use Rattle.binary32.specs.Leaves.{zero32}
use Rattle.walks.proofs.Tests.{one_more}
use Rattle.common_types.specs.declared.Params.{Params}
use Rattle.voice.specs.declared.Voice.{Voice}
use Rattle.plain_voice.specs.declared.Hot.{Hot}
use Rattle.channel.specs.declared.Channel.{Channel}
use Rattle.channel.specs.declared.Played.{Played}
use Rattle.channel.specs.Channels.{memory_of, process_sample_of}
use Rattle.lent_channel.specs.declared.Heard.{Heard}
use Rattle.lent_channel.specs.Turns.{heard_of}
use Rattle.plain_channel.specs.declared.Pour.{Pour}
use Rattle.plain_channel.specs.declared.Side.{Side}
use Rattle.plain_channel.specs.Sides.{no_pour, with_hots, side_after}
use Rattle.plain_channel.specs.Ahead.{on_by, ahead_of, hots_on, behind_of, hots_behind, side_behind, may_ease, stretch_of, left_of, Ahead, AheadBy, Easing, EasedBy, Refilled, Underway, Along}
use Rattle.plain_channel.proofs.Aheads.{ahead_memory, ahead_now, hots_now, ahead_nothing, ahead_fewer}
use Rattle.plain_channel.proofs.Eases.{asks_inside}
use Rattle.plain_channel.proofs.Frames.{ahead_heard, ahead_on}
use Rattle.plain_channel.proofs.Filling.{with_pour, with_eased, with_next, with_left}

-- ---- a stretch
module _ (togo : ℕ) where
  by_test : (P : ℕ → Type 0) → (togo < 64 → P togo) → (64 ≤ togo → P 64) → P (stretch_of togo)
  by_test P low high = choose (ltb togo 64) refl
    where
      choose : (b : Bool) → ltb togo 64 ≡ b → P (cond b togo 64)
      choose true e = low (ltb-true togo 64 e)
      choose false e = high (ltb-false togo 64 e)

  pub stretch_few : stretch_of togo ≤ 64
  stretch_few = by_test (λ n. n ≤ 64) (λ low. omega (arith, low)) (λ _. omega arith)

  pub stretch_low : stretch_of togo ≤ togo
  stretch_low = by_test (λ n. n ≤ togo) (λ _. omega arith) (λ high. high)

  pub stretch_some : 0 < togo → 0 < stretch_of togo
  stretch_some some = by_test (λ n. 0 < n) (λ _. some) (λ _. omega arith)

-- ---- what is left of one
module _ (togo n r : ℕ) where
  by_none : (P : ℕ → Type 0) → (r ≡ 0 → 1 < n → P 1) → P n → P (left_of togo n r)
  by_none P none whole = choose (eqb r 0) refl (eqb (togo % 2) 0) (ltb 1 n) refl
    where
      choose : (b : Bool) → eqb r 0 ≡ b → (even d : Bool) → ltb 1 n ≡ d → P (cond b (cond even (cond d 1 n) n) n)
      choose false e even d f = whole
      choose true e false d f = whole
      choose true e true false f = whole
      choose true e true true f = none (eqb-true r 0 e) (ltb-true 1 n f)

  left_few : left_of togo n r ≤ n
  left_few = by_none (λ i. i ≤ n) (λ _ more. omega (arith, more)) (omega arith)

  left_some : 0 < n → 0 < left_of togo n r
  left_some some = by_none (λ i. 0 < i) (λ _ _. omega arith) some

-- ---- a refill
empty : (j : ℕ) → j < 64 → get_or no_pour.sums j zero32 ≡ zero32
unfolding no_pour
empty j low = get_or-replicate 64 j zero32 zero32 low

module _ (p : Params) (m : List ℕ) (togo : ℕ) (c : Channel) (k : Side) where
  -- the side that is emptied for a stretch
  abbrev pub emptied : Side
  emptied = with_pour (with_left (stretch_of togo) no_pour) k

  none_ahead : Ahead p m 0 (stretch_of togo) no_pour.sums c k.hots c k.hots
  none_ahead = ahead_nothing p m (stretch_of togo) no_pour.sums c k.hots (λ j low. empty j (let few = stretch_few togo in omega (arith, low, few)))

  pub easing_begins : may_ease c.head (stretch_of togo) ≡ true → Easing p m 0 (stretch_of togo) c emptied
  easing_begins may = record { channel = c; hots = k.hots; ahead = none_ahead; may = may; few = stretch_few togo }

  -- none is poured
  pub unfilled : Refilled p m togo c k c emptied
  unfolding no_pour
  unfilled = record { ahead = none_ahead; next = refl; left = omega arith; some = stretch_some togo }

  -- the first r are, over the stretch or what is left of it
  ahead_left : (r : ℕ) (sums : List Float) (e : Channel) (ks : List Hot) → Ahead p m r (stretch_of togo) sums c k.hots e ks → Ahead p m r (left_of togo (stretch_of togo) r) sums c k.hots e ks
  ahead_left r sums e ks ahead =
      by_none togo (stretch_of togo) r (λ i. Ahead p m r i sums c k.hots e ks)
      (λ none more. subst (λ (j : ℕ). Ahead p m j 1 sums c k.hots e ks) (sym none) (ahead_fewer p m (stretch_of togo) 1 sums (omega (arith, more)) (subst (λ (j : ℕ). Ahead p m j (stretch_of togo) sums c k.hots e ks) none ahead)))
      ahead

  pub filled : (r : ℕ) (e : Channel) (l : Side) → EasedBy p m (stretch_of togo) c emptied r e l → Refilled p m togo c k e (with_pour (with_eased r (with_left (left_of togo (stretch_of togo) r) l.pour)) l)
  unfolding no_pour
  filled r e l by_these = record {
    ahead = ahead_left r (drop l.pour.next l.pour.sums) e l.hots (subst (λ (i : ℕ). Ahead p m r (stretch_of togo) (drop i l.pour.sums) c k.hots e l.hots) (sym by_these.else.next) by_these.ahead);
    next = by_these.else.next;
    left = left_few togo (stretch_of togo) r;
    some = λ more. left_some togo (stretch_of togo) r (stretch_some togo more);
  }

  -- as it is stored: the pour u is emptied, and n is the stretch
  module _ (u : Pour) (is_none : u ≡ no_pour) (n : ℕ) (is_stretch : n ≡ stretch_of togo) where
    abbrev begun : Side
    begun = with_pour (with_left n u) k

    is_emptied : begun ≡ emptied
    is_emptied = ap₂ (λ (v : Pour) (i : ℕ). with_pour (with_left i v) k) is_none is_stretch

    pub easing_so : may_ease c.head n ≡ true → Easing p m 0 n c begun
    easing_so may =
        subst (λ (i : ℕ). Easing p m 0 i c begun) (sym is_stretch)
        (subst (Easing p m 0 (stretch_of togo) c) (sym is_emptied) (easing_begins (subst (λ (i : ℕ). may_ease c.head i ≡ true) is_stretch may)))

    pub unfilled_so : Refilled p m togo c k c begun
    unfilled_so = subst (Refilled p m togo c k c) (sym is_emptied) unfilled

    pub filled_so : (r : ℕ) (e : Channel) (l : Side) → EasedBy p m n c begun r e l → (left : ℕ) → left ≡ left_of togo n r → Refilled p m togo c k e (with_pour (with_eased r (with_left left l.pour)) l)
    filled_so r e l by_these left is_left =
        subst (λ (i : ℕ). Refilled p m togo c k e (with_pour (with_eased r (with_left i l.pour)) l)) (sym (is_left ∙ ap (λ (i : ℕ). left_of togo i r) is_stretch))
        (filled r e l (subst (λ (i : ℕ). EasedBy p m i c emptied r e l) is_stretch (subst (λ (y : Side). EasedBy p m n c y r e l) is_emptied by_these)))

-- ---- a run is under way where it was, and a sample is poured
pub record Ready (p : Params) (m : List ℕ) (togo : ℕ) (c : Channel) (k : Side) (e : Channel) (l : Side) : Type 0 where
  pub same : (d : Channel) (hs : List Hot) → Underway p m togo d hs c k → Underway p m togo d hs e l
  pub some : 0 < l.pour.left

module _ (p : Params) (m : List ℕ) (togo : ℕ) (c : Channel) (k : Side) where
  -- it is as it was
  pub still_ready : 0 < k.pour.left → Ready p m togo c k c k
  still_ready some = record { same = λ d hs under. under; some = some }

  -- nothing was left, and it is refilled
  pub filled_ready : k.pour.left ≡ 0 → 0 < togo → (e : Channel) (l : Side) → Refilled p m togo c k e l → Ready p m togo c k e l
  filled_ready none some e l filled = record {
    same = λ d hs under.
        let ahead : Ahead p m k.pour.eased 0 (drop k.pour.next k.pour.sums) d hs c k.hots =
        subst (λ (n : ℕ). Ahead p m k.pour.eased n (drop k.pour.next k.pour.sums) d hs c k.hots) none under.ahead in
        record {
          ahead = subst (λ (y : Channel). AheadBy p m y hs e l) (ahead.channel ∙ ahead_now p m k.pour.eased d)
              (subst (λ (ks : List Hot). AheadBy p m c ks e l) (ahead.hots ∙ hots_now p m d (take k.pour.eased d.voices) hs) filled.ahead);
          room = let few = stretch_few togo in omega (arith, few, filled.next, filled.left);
          left = let low = stretch_low togo in omega (arith, low, filled.left);
        };
    some = filled.some some;
  }

-- ---- a sample of it

-- as many voices, and positions
hots_long : (p : Params) (m : List ℕ) (d : Channel) (n : ℕ) (vs : List Voice) (hs : List Hot) → length (hots_on p m d n vs hs) ≡ length hs
unfolding hots_on
hots_long p m d n [] hs = refl
hots_long p m d n (v ∷ vs) [] = refl
hots_long p m d n (v ∷ vs) (h ∷ hs) = ap suc (hots_long p m d n vs hs)

module _ (p : Params) (m : List ℕ) {e n : ℕ} {sums : List Float} {d c : Channel} {hs ks : List Hot} (ahead : Ahead p m e n sums d hs c ks) where
  as_many_voices : length c.voices ≡ 32 → length d.voices ≡ 32
  unfolding ahead_of
  as_many_voices voices =
      sym (ap (λ (y : Channel). length y.voices) ahead.channel ∙ length_front d.voices (map (on_by p m d n) (take e d.voices)) e (length-map (take e d.voices) (on_by p m d n))) ∙ voices

  as_many_hots : length ks ≡ 32 → length hs ≡ 32
  as_many_hots hots = sym (ap length ahead.hots ∙ hots_long p m d n (take e d.voices) hs) ∙ hots

-- what those that are ahead add in the next sample, a side that has one less, and the sample behind them
abbrev pub first : Side → Float
first l = get_or l.pour.sums l.pour.next zero32

abbrev pub stepped : Side → Side
stepped l = with_pour (with_left (l.pour.left - 1) (with_next (l.pour.next + 1) l.pour)) l

abbrev pub played : Params → Float → List ℕ → Channel → Side → Played
played p x m e l = behind_of p x l.pour.eased (first l) e m

module _ (p : Params) (x : Float) (m : List ℕ) (togo : ℕ) (e : Channel) (l : Side) (some : 0 < l.pour.left) (voices : length e.voices ≡ 32) (hots : length l.hots ≡ 32) (all : length l.pour.sums ≡ 64) where
  abbrev eased : ℕ
  eased = l.pour.eased

  abbrev next : ℕ
  next = l.pour.next

  abbrev sums : List Float
  sums = l.pour.sums

  module _ (d : Channel) (hs : List Hot) (under : Underway p m togo d hs e l) where
    pub next_low : next < 64
    next_low = omega (arith, some, under.room)

    the_next : drop next sums ≡ first l ∷ drop (suc next) sums
    the_next = drop-cons sums next zero32 (let low = next_low in omega (arith, low, all))

    ahead : Ahead p m eased (suc (l.pour.left - 1)) (drop next sums) d hs e l.hots
    ahead = subst (λ (n : ℕ). Ahead p m eased n (drop next sums) d hs e l.hots) (omega (arith, some)) under.ahead

    pub asks_so : eased ≤ min e.count 32
    asks_so = asks_inside p m (as_many_voices p m ahead voices) ahead

    heard_so : heard_of (played p x m e l) ≡ heard_of (process_sample_of p x d m)
    heard_so = subst (λ (ys : List Float). heard_of (behind_of p x eased (get_or ys 0 zero32) e m) ≡ heard_of (process_sample_of p x d m)) the_next
        (ahead_heard p m (l.pour.left - 1) (drop next sums) d e x (as_many_voices p m ahead voices) hs l.hots eased ahead)

    memory_so : memory_of x e m ≡ memory_of x d m
    memory_so = ahead_memory p m ahead x

    module _ (k : Side) where
      abbrev After : List ℕ → List Float → Float → Type 0
      After m' ys out = Ahead p m' eased (l.pour.left - 1) ys (process_sample_of p x d m).channel (side_after p x d m (with_hots hs k)).hots (behind_of p x eased out e m).channel (hots_behind p x eased e m (stepped l))

      ahead_next : After (memory_of x e m) (drop (next + 1) sums) (first l)
      ahead_next =
          subst (λ (m' : List ℕ). After m' (drop (next + 1) sums) (first l)) (sym memory_so)
          (subst (λ (j : ℕ). After (memory_of x d m) (drop j sums) (first l)) (sym (one_more next))
          (subst (λ (ys : List Float). After (memory_of x d m) (drop 1 ys) (get_or ys 0 zero32)) the_next
          (ahead_on p m (l.pour.left - 1) (drop next sums) d e x (as_many_voices p m ahead voices) (with_hots hs k) (stepped l) (as_many_hots p m ahead hots) eased ahead)))

      under_next : Underway p (memory_of x e m) (togo - 1) (process_sample_of p x d m).channel (side_after p x d m (with_hots hs k)).hots (played p x m e l).channel (side_behind p x eased e m (stepped l))
      under_next = record { ahead = ahead_next; room = omega (arith, some, under.room); left = omega (arith, some, under.left) }

  pub goes_along : (c : Channel) (k : Side) → Ready p m togo c k e l → Along p x m togo c k (heard_of (played p x m e l)) (played p x m e l).channel (side_behind p x eased e m (stepped l)) (memory_of x e m)
  goes_along c k ready = record {
    heard = λ d hs under. heard_so d hs (ready.same d hs under);
    memory = λ d hs under. memory_so d hs (ready.same d hs under);
    under = λ d hs under. under_next d hs (ready.same d hs under) k;
  }

  -- with what is heard of the first as it is read, and what `behind` gives
  pub along_so : (c : Channel) (k : Side) → Ready p m togo c k e l → (y : Float) → y ≡ first l → (r : Heard) → r ≡ heard_of (behind_of p x eased y e m) → (d : Channel) → d ≡ (behind_of p x eased y e m).channel
      → (m' : List ℕ) → m' ≡ memory_of x e m → (l' : Side) → l' ≡ side_behind p x eased e m (stepped l) → Along p x m togo c k r d l' m'
  along_so c k ready y is_first r is_heard d is_channel m' is_memory l' is_side =
      let same : behind_of p x eased y e m ≡ played p x m e l = ap (λ (z : Float). behind_of p x eased z e m) is_first in
      subst (λ (u : Heard). Along p x m togo c k u d l' m') (sym (is_heard ∙ ap heard_of same))
      (subst (λ (u : Channel). Along p x m togo c k (heard_of (played p x m e l)) u l' m') (sym (is_channel ∙ ap (λ (z : Played). z.channel) same))
      (subst (λ (u : Side). Along p x m togo c k (heard_of (played p x m e l)) (played p x m e l).channel u m') (sym is_side)
      (subst (Along p x m togo c k (heard_of (played p x m e l)) (played p x m e l).channel (side_behind p x eased e m (stepped l))) (sym is_memory) (goes_along c k ready))))

-- the same of what is the same
pub ready_as : {p : Params} {m : List ℕ} {togo : ℕ} {c d d' : Channel} {k l l' : Side} → d ≡ d' → l ≡ l' → Ready p m togo c k d' l' → Ready p m togo c k d l
ready_as {p} {m} {togo} {c} {d} {d'} {k} {l} {l'} u v ready = subst (λ (x : Channel). Ready p m togo c k x l) (sym u) (subst (Ready p m togo c k d') (sym v) ready)
