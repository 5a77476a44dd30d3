-- The loop of a gather over the channels of a lent record: what stands after j turns, by the laws of `sampler`'s `Gathers`, and that what it leaves is the answer. How many channels there are is known once a turn has looked. Assumes nothing.
use Rattle.std.proofs.Common.{◌≡◌, ℕ, suc, ◌+◌, ◌-◌, ◌*◌, ◌<◌, ◌≤◌, min, Bool, true, false, cond, eqb, List, ◌++◌, length, get_or, take, drop, set, sym, refl, ap, ◌∙◌, subst, le_trans, le_of_eq, mul-le-mul_right, suc-mul, arith, length-append, length-drop, length-set, length-take, eqb-true}
use Rattle.walks.proofs.Lists.Loops.{get_d_any}
use Rattle.channel.specs.declared.Channel.{Channel}
use Rattle.channel.specs.Channels.{channel_of, gathered_in, gathered_memory}
use Rattle.sampler.specs.declared.Sampler.{Sampler}
use Rattle.std.specs.Prelude.{Result, Ok, Err, is_ok}
use Rattle.refusals.specs.declared.Refusal.{Refusal}
use Rattle.refusals.specs.Refusals.{code_of}
use Rattle.sampler.specs.Refusals.{channel_at, gather_judged}
use Rattle.sampler.specs.Samplers.{with_channels, Gathered, gathered_all, gather_of, gather_memory}
use Rattle.sampler.proofs.Rows.{gather_steps, fitting, gather_says}
use Rattle.sampler.proofs.Seats.{none}
use Rattle.sampler.proofs.Gathers as loop
use Rattle.sampler.proofs.Gathers.{gathering_starts, gathering_on, gathering_ends}

-- what is put in a part's place is as long as the part, if the memory stays as long
part_long : (a n : ℕ) (k l : List ℕ) → a + n ≤ length k → length (take a k ++ (l ++ drop n (drop a k))) ≡ length k → length l ≡ length (take n (drop a k))
part_long a n k l inside same =
    let whole : length (take a k ++ (l ++ drop n (drop a k))) ≡ min a (length k) + (length l + (length k - a - n)) = simp (length-append, length-take, length-drop) refl in
    let part : length (take n (drop a k)) ≡ min n (length k - a) = simp (length-take, length-drop) refl in
    omega (arith, whole, part, same, inside)

module _ (s : Sampler) (m : List ℕ) where
  -- what stands after j turns of a gather that isn't refused
  pub record Turned (j : ℕ) (t : Sampler) (k : List ℕ) : Type 0 where
    pub accepted : gather_judged s (length m) ≡ Ok tt
    pub upto : j ≤ s.count
    pub size : length k ≡ length m
    pub seats : length t.channels ≡ length s.channels
    pub long : 0 < j → length s.channels ≡ 2
    pub going : length s.channels ≡ 2 → loop.Gathering (gathered_all s m) s.capacity s.count (length m) t k j

  pub turned_starts : gather_judged s (length m) ≡ Ok tt → Turned 0 s m
  turned_starts e = record {
    accepted = e;
    upto = omega arith;
    size = refl;
    seats = refl;
    long = λ h. absurd (omega (arith, h));
    going = λ two. gathering_starts s m two (gather_steps s (length m) (ap code_of e));
  }

  -- a refused gather
  pub refused : (f : Refusal) → gather_judged s (length m) ≡ Err f → (record { sampler = s; done = Err f } ≡ gather_of s m) × (m ≡ gather_memory s m)
  unfolding gather_of gather_memory
  refused f e = (
    sym (ap (λ (d : Result (Unit {0}) Refusal). record { sampler = cond (is_ok d) (gathered_all s m).sampler s; done = d }) e),
    sym (ap (λ (d : Result (Unit {0}) Refusal). cond (is_ok d) (gathered_all s m).memory m) e),
  )

  module _ {j : ℕ} {t : Sampler} {k : List ℕ} (z : Turned j t k) where
    pub turned_low : j < s.count → (j < 2) × (j * s.capacity + s.capacity ≤ length k)
    turned_low h =
        let g = gather_steps s (length m) (ap code_of z.accepted) in (
          omega (arith, h, g.below),
          le_trans (le_of_eq (sym (suc-mul j s.capacity))) (le_trans (mul-le-mul_right s.capacity h) (le_trans g.parts (le_of_eq (sym z.size)))),
        )

    -- a channel more
    module _ (h : j < s.count) (two : length t.channels ≡ 2) (a : ℕ) (begins : a ≡ j * s.capacity) (d : Channel) (l : List ℕ) where
      abbrev c : Channel
      c = get_or t.channels j none

      abbrev e : ℕ
      e = a + s.capacity - a

      abbrev part : List ℕ
      part = take e (drop a k)

      pub turned_on : d ≡ gathered_in c part → l ≡ take a k ++ (gathered_memory c part ++ drop e (drop a k)) → length l ≡ length k → Turned (j + 1) (with_channels (set t.channels j d) t) l
      turned_on is_d is_l same =
          let c_is : c ≡ channel_at t j = get_d_any t.channels j none (channel_of (record { auto_passthru = false })) (omega (arith, two, (turned_low h).0)) in
          let whole : length (take a k ++ (gathered_memory c part ++ drop e (drop a k))) ≡ length k = ap length (sym is_l) ∙ same in
          record {
            accepted = z.accepted;
            upto = omega (arith, h);
            size = same ∙ z.size;
            seats = length-set t.channels j d ∙ z.seats;
            long = λ _. sym z.seats ∙ two;
            going = λ all. subst (λ (q : List ℕ). loop.Gathering (gathered_all s m) s.capacity s.count (length m) (with_channels (set t.channels j d) t) q (j + 1)) (sym is_l)
                (gathering_on (z.going all) h a begins d (gathered_memory c part) c c_is is_d refl (part_long a e k (gathered_memory c part) (omega (arith, begins, (turned_low h).1)) whole));
          }

    -- a record whose channels are gathered has one
    pub turned_ends : s.count ≤ j → (record { sampler = t; done = Ok tt } ≡ gather_of s m) × (k ≡ gather_memory s m)
    unfolding gather_of gather_memory
    turned_ends end =
        let some : 1 ≤ s.count = (fitting s (length m) (gather_says s (length m) (ap code_of z.accepted)).0).some in
        let all : loop.gathered t k ≡ gathered_all s m = gathering_ends (z.going (z.long (omega (arith, some, end)))) end in (
          (λ q. record { sampler = (all q).sampler; done = Ok tt })
              ∙ sym (ap (λ (d : Result (Unit {0}) Refusal). record { sampler = cond (is_ok d) (gathered_all s m).sampler s; done = d }) z.accepted),
          ap (λ (g : Gathered). g.memory) all ∙ sym (ap (λ (d : Result (Unit {0}) Refusal). cond (is_ok d) (gathered_all s m).memory m) z.accepted),
        )
