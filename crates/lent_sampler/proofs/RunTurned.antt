-- The loop of a run on a lent record: what stands after i entries, by the laws of the call by value. A refused run has no entry to play but those before a clock's end. Assumes nothing.
use Rattle.std.proofs.Common.{add-one, ◌≡◌, ℕ, zero, suc, ◌+◌, ◌-◌, ◌*◌, ◌/◌, ◌<◌, ◌≤◌, min, Bool, true, false, cond, List, ◌++◌, length, get_or, take, drop, set, sym, refl, ap, ◌∙◌, subst, le_trans, le_of_eq, mul-le-mul_right, suc-mul, zero-mul, arith, length-set}
use native.Mathlib.Nat.{sub-zero}
use lib.Ieee.{Float, nan, binary32, mul}
use Rattle.binary32.specs.Leaves.{zero32}
use Rattle.walks.proofs.Lists.Loops.{get_d_any}
use Rattle.common_types.specs.declared.Params.{Params}
use Rattle.channel.specs.declared.Played.{Played}
use Rattle.channel.specs.declared.Channel.{Channel}
use Rattle.channel.specs.Channels.{channel_of, memory_of}
use Rattle.channel.specs.Channels.{process_sample_of as channel_sample_of}
use Rattle.sampler.specs.declared.Sampler.{Sampler}
use Rattle.sampler.specs.Refusals.{channel_at, frames_left, run_judged, begun, done_of}
use Rattle.sampler.specs.Samplers.{with_channels, channel_stepped_of, output_of, memory_at, Framed, framed, Frames, frames_of, ran_of, run_answer}
use Rattle.sampler.proofs.Rows.{Fitting, fitting}
use Rattle.sampler.proofs.RunRows.{run_begins, done_turns}
use Rattle.sampler.proofs.Parts.{stepped_is, output-is, memory_is}
use Rattle.sampler.proofs.Entries.{memory_at_length}
use Rattle.sampler.proofs.Seats.{none}
use Rattle.lent_channel.specs.declared.Heard.{Heard}
use Rattle.lent_channel.specs.Turns.{heard_of}
use Rattle.lent_sampler.specs.Hearing.{at_volume}
use Rattle.lent_sampler.specs.Runs.{run_seat}
use Rattle.lent_sampler.proofs.RunTurns.{turn_of, turns_of, all_turns, seat_low}

module _ (s : Sampler) (l : List Float) (p : Params) (m : List ℕ) where
  abbrev frames : ℕ
  frames = (run_answer s (length l) p (length m)).frames

  abbrev pub steps : ℕ
  steps = frames * s.count

  abbrev seat : ℕ → ℕ
  seat i = run_seat i s.count

  abbrev goal : Framed
  goal = turns_of p seat steps 0 (framed s l m)

  -- the record, the run and the memory after i entries
  pub record Turned (i : ℕ) (t : Sampler) (io : List Float) (k : List ℕ) : Type 0 where
    pub count : t.count ≡ s.count
    pub capacity : t.capacity ≡ s.capacity
    pub entries : length io ≡ length l
    pub size : length k ≡ length m
    pub same : turns_of p seat (steps - i) i (framed t io k) ≡ goal

  pub turned_starts : Turned 0 s l m
  turned_starts = record {
    count = refl;
    capacity = refl;
    entries = refl;
    size = refl;
    same = ap (λ (n : ℕ). turns_of p seat n 0 (framed s l m)) (sub-zero steps);
  }

  -- a run of which a frame is done has a good record
  pub done_fitting : 0 < frames → Fitting s (length m)
  unfolding run_answer done_of
  done_fitting h = go (begun (run_judged s (length l) p (length m))) refl h
    where
      go : (b : Bool) → begun (run_judged s (length l) p (length m)) ≡ b → 0 < cond b (min (length l / s.count) (frames_left s)) 0 → Fitting s (length m)
      go true e less = fitting s (length m) (run_begins s (length l) p (length m) e).good
      go false e less = absurd (omega (arith, less))

  pub inside : steps ≤ length l
  unfolding run_answer
  inside = (done_turns s (length l) p (length m)).entries

  -- an entry is played of a run of which a frame is done
  some_done : (n c i : ℕ) → i < n * c → 0 < n
  some_done zero c i h = absurd (omega (arith, h, zero-mul c))
  some_done (suc n) c i h = omega arith

  module _ {i : ℕ} {t : Sampler} {io : List Float} {k : List ℕ} (z : Turned i t io k) where
    -- the channel is one of the two, the entry is there, and so is the part
    pub turned_low : i < steps → (run_seat i t.count < 2) × (i < length l) × (run_seat i t.count * s.capacity + s.capacity ≤ length k)
    turned_low h =
        let f = done_fitting (some_done frames s.count i h) in
        let low : run_seat i t.count < s.count = subst (λ (c : ℕ). run_seat i c < s.count) (sym z.count) (seat_low i s.count f.some f.few) in (
          omega (arith, low, f.few),
          omega (arith, h, inside),
          le_trans (le_of_eq (sym (suc-mul (run_seat i t.count) s.capacity))) (le_trans (mul-le-mul_right s.capacity low) (le_trans f.fits (le_of_eq (sym z.size)))),
        )

    pub turned_ends : i ≡ steps → Frames (ran_of s l p m) t io k
    unfolding turns_of ran_of run_answer frames_of
    turned_ends e =
        let none : steps - i ≡ 0 = omega (arith, e) in
        let g : framed t io k ≡ ran_of s l p m = sym (ap (λ (n : ℕ). turns_of p seat n i (framed t io k)) none) ∙ z.same ∙ whole frames refl in
        record { sampler = ap (λ (f : Framed). f.sampler) g; frame = ap (λ (f : Framed). f.frame) g; memory = ap (λ (f : Framed). f.memory) g }
      where
        whole : (n : ℕ) → frames ≡ n → turns_of p seat (frames * s.count) 0 (framed s l m) ≡ frames_of p frames (framed s l m)
        whole zero a = ap (λ (n : ℕ). turns_of p seat n 0 (framed s l m)) (ap (λ (n : ℕ). n * s.count) a ∙ zero-mul s.count) ∙ sym (ap (λ (n : ℕ). frames_of p n (framed s l m)) a)
        whole (suc n) a = let f = done_fitting (omega (arith, a)) in all_turns p s.count frames s l m refl f.some f.few inside

    -- one entry more: its channel's sample on its part, which begins at a
    module _ (h : i < steps) (a : ℕ) (starts : a ≡ run_seat i t.count * s.capacity) where
      abbrev j : ℕ
      j = run_seat i t.count

      abbrev e : ℕ
      e = a + s.capacity

      abbrev x : Float
      x = get_or io i nan

      abbrev played : Played
      played = channel_sample_of p x (channel_at t j) (take (e - a) (drop a k))

      abbrev t' : Sampler
      t' = with_channels (set t.channels j played.channel) t

      abbrev k' : List ℕ
      k' = take a k ++ (memory_of x (channel_at t j) (take (e - a) (drop a k)) ++ drop (e - a) (drop a k))

      abbrev y : Float
      y = mul binary32 p.volume played.output

      starts' : a ≡ j * t.capacity
      starts' = starts ∙ ap (λ (c : ℕ). j * c) (sym z.capacity)

      ends' : e ≡ a + t.capacity
      ends' = ap (λ (c : ℕ). a + c) (sym z.capacity)

      written : k' ≡ memory_at t j x k
      written = memory_is t j a e k starts' ends' x (channel_at t j) _ refl refl

      long : length k' ≡ length k
      long = ap length written ∙ memory_at_length t j k (subst (λ (c : ℕ). j * c + c ≤ length k) (sym z.capacity) (turned_low h).2) x

      turned_one : turn_of p (seat i) i (framed t io k) ≡ framed t' (set io i y) k'
      turned_one =
          let w : get_or io i zero32 ≡ x = get_d_any io i zero32 nan (omega (arith, z.entries, (turned_low h).1)) in
          ap (λ (c : ℕ). turn_of p (run_seat i c) i (framed t io k)) (sym z.count)
          ∙ ap (λ (v : Float). framed (channel_stepped_of t j p v k) (set io i (output_of t j p v k)) (memory_at t j v k)) w
          ∙ sym (λ q. framed (stepped_is t j a e k starts' ends' p x (channel_at t j) refl played refl q) (set io i (output-is t j a e k starts' ends' p x (channel_at t j) refl played refl q)) (written q))

      one_less : steps - i ≡ suc (steps - suc i)
      one_less = omega (arith, h)

      pub turned_on : Turned (suc i) t' (set io i y) k'
      unfolding turns_of
      turned_on = record {
        count = z.count;
        capacity = z.capacity;
        entries = length-set io i y ∙ z.entries;
        size = long ∙ z.size;
        same = sym (ap (turns_of p seat (steps - suc i) (suc i)) turned_one) ∙ sym (ap (λ (n : ℕ). turns_of p seat n i (framed t io k)) one_less) ∙ z.same;
      }

      -- the same as the code has it, which reads the channel where it stands
      module _ (two : length t.channels ≡ 2) (n : ℕ) (is_j : n ≡ run_seat i t.count) (d : Channel) (r : Heard) (k'' : List ℕ) where
        abbrev c : Channel
        c = get_or t.channels n none

        abbrev part : List ℕ
        part = take (e - a) (drop a k)

        c_is : c ≡ channel_at t j
        c_is = ap (λ (q : ℕ). get_or t.channels q none) is_j ∙ get_d_any t.channels j none (channel_of (record { auto_passthru = false })) (omega (arith, two, (turned_low h).0))

        pub turned_next : r ≡ at_volume p (heard_of (channel_sample_of p x c part)) → d ≡ (channel_sample_of p x c part).channel
            → k'' ≡ take a k ++ (memory_of x c part ++ drop (e - a) (drop a k))
            → Turned (i + 1) (with_channels (set t.channels n d) t) (set io i r.output) k''
        turned_next gives becomes leaves =
            let is_r : r ≡ at_volume p (heard_of played) = gives ∙ ap (λ (b : Channel). at_volume p (heard_of (channel_sample_of p x b part))) c_is in
            let is_d : d ≡ played.channel = becomes ∙ ap (λ (b : Channel). (channel_sample_of p x b part).channel) c_is in
            let is_k : k'' ≡ k' = leaves ∙ ap (λ (b : Channel). take a k ++ (memory_of x b part ++ drop (e - a) (drop a k))) c_is in
            let is_t : with_channels (set t.channels n d) t ≡ t' = λ q. with_channels (set t.channels (is_j q) (is_d q)) t in
            subst (λ (q : ℕ). Turned q (with_channels (set t.channels n d) t) (set io i r.output) k'') (sym (add-one i))
            (subst (λ (b : Sampler). Turned (suc i) b (set io i r.output) k'') (sym is_t)
            (subst (λ (b : Heard). Turned (suc i) t' (set io i b.output) k'') (sym is_r)
            (subst (λ (b : List ℕ). Turned (suc i) t' (set io i y) b) (sym is_k) turned_on)))
