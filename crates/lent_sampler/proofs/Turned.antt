-- The loop of a frame on a lent record: what stands after i entries, and what is gathered of them, by the laws of the call by value. Assumes nothing.
use Rattle.std.proofs.Common.{◌≡◌, ℕ, suc, ◌+◌, ◌-◌, ◌*◌, ◌%◌, ◌^◌, ◌<◌, ◌≤◌, Bool, true, false, cond, eqb, List, ◌++◌, length, get_or, take, drop, set, sym, refl, ap, ◌∙◌, subst, true≢false, le_refl, mod-eq_of_lt, add-one, arith, length-set, get_or-set_other, eq-eqb, eqb-true}
use lib.Ieee.{Float, nan, binary32, mul}
use Rattle.walks.proofs.Lists.Loops.{get_d_any}
use Rattle.common_types.specs.declared.Params.{Params}
use Rattle.channel.specs.declared.Played.{Played}
use Rattle.channel.specs.Channels.{channel_of, live, memory_of}
use Rattle.channel.specs.declared.Channel.{Channel}
use Rattle.channel.proofs.Samples.{moved_few}
use Rattle.channel.specs.Channels.{process_sample_of as channel_sample_of}
use Rattle.sampler.specs.declared.Sampler.{Sampler}
use Rattle.std.specs.Prelude.{Result, Ok, Err, is_ok}
use Rattle.refusals.specs.declared.Refusal.{Refusal}
use Rattle.refusals.specs.Refusals.{code_of}
use Rattle.sampler.specs.Refusals.{channel_at, frame_judged, frame_number}
use Rattle.sampler.specs.Samplers.{with_channels, memory_at, Ready, Frames, Framed, framed, entries_of, entries_moved, framed_of, frame_moved}
use Rattle.sampler.proofs.Rows.{frame_steps, frame_few}
use Rattle.sampler.proofs.Seats.{none}
use Rattle.sampler.proofs.Parts.{stepped_is, output-is, moved_is, memory_is}
use Rattle.sampler.proofs.Entries.{memory_at_length}
use Rattle.lent_channel.specs.declared.Heard.{Heard}
use Rattle.lent_channel.specs.Turns.{heard_of}
use Rattle.lent_sampler.specs.Hearing.{at_volume}
use Rattle.sampler.proofs.Framing.{Framing, framing_starts, framing_ready, framing_on, framing_ends, Summing, summing_starts, summing_on, summing_ends, frame_done, moved_done}

module _ (s : Sampler) (l : List Float) (p : Params) (m : List ℕ) where
  -- the record, the frame and the memory after i entries of a frame that isn't refused, u gathered
  pub record Turned (i u : ℕ) (t : Sampler) (io : List Float) (k : List ℕ) : Type 0 where
    pub accepted : frame_number s (length l) p (length m) ≡ 0
    pub capacity : t.capacity ≡ s.capacity
    pub entries : length io ≡ length l
    pub size : length k ≡ length m
    pub done : Framing (entries_of p (length l) 0 (framed s l m)) p (length l) (length m) t io k i
    pub summed : Summing (entries_moved p (length l) 0 (framed s l m)) p (length l) t io k i u
    pub ahead : (j : ℕ) → i ≤ j → channel_at t j ≡ channel_at s j

  pub turned_starts : frame_judged s (length l) p (length m) ≡ Ok tt → Turned 0 0 s l m
  turned_starts e =
      let n : frame_number s (length l) p (length m) ≡ 0 = ap code_of e in
      record {
        accepted = n;
        capacity = refl;
        entries = refl;
        size = refl;
        done = framing_starts p s l m (frame_steps s (length l) p (length m) n);
        summed = summing_starts p s l m;
        ahead = λ j h. refl;
      }

  -- a refused frame
  module _ (f : Refusal) (e : frame_judged s (length l) p (length m) ≡ Err f) where
    pub refused : Frames (framed_of s l p m) s l m
    unfolding framed_of
    refused = subst (λ (g : Framed). Frames g s l m) (sym (ap (λ (d : Result (Unit {0}) Refusal). cond (is_ok d) (entries_of p (length l) 0 (framed s l m)) (framed s l m)) e)) (record { sampler = refl; frame = refl; memory = refl })

    pub none_moved : 0 ≡ frame_moved s l p m
    unfolding frame_moved
    none_moved = sym (ap (λ (d : Result (Unit {0}) Refusal). cond (is_ok d) (entries_moved p (length l) 0 (framed s l m)) 0) e)

  module _ {i u : ℕ} {t : Sampler} {io : List Float} {k : List ℕ} (z : Turned i u t io k) where
    pub turned_ready : i < length l → Ready t i (length k)
    turned_ready h = framing_ready z.done h

    -- the channel is one of the two, the entry is there, and so is the part
    pub turned_low : i < length l → (i < 2) × (i * s.capacity + s.capacity ≤ length k)
    turned_low h = ((turned_ready h).below, subst (λ (c : ℕ). i * c + c ≤ length k) z.capacity (turned_ready h).part)

    pub turned_ends : length l ≤ i → Frames (framed_of s l p m) t io k
    turned_ends e = frame_done s l p m z.accepted (framing_ends z.done e)

    pub turned_moved : length l ≤ i → u ≡ frame_moved s l p m
    turned_moved e = summing_ends z.summed e ∙ sym (moved_done s l p m z.accepted)

    -- one entry more: channel i's sample on its part, which begins at a
    module _ (h : i < length l) (a : ℕ) (starts : a ≡ i * s.capacity) where
      abbrev e : ℕ
      e = a + s.capacity

      abbrev x : Float
      x = get_or io i nan

      abbrev played : Played
      played = channel_sample_of p x (channel_at t i) (take (e - a) (drop a k))

      abbrev t' : Sampler
      t' = with_channels (set t.channels i played.channel) t

      abbrev k' : List ℕ
      k' = take a k ++ (memory_of x (channel_at t i) (take (e - a) (drop a k)) ++ drop (e - a) (drop a k))

      abbrev y : Float
      y = mul binary32 p.volume played.output

      starts' : a ≡ i * t.capacity
      starts' = starts ∙ ap (λ (c : ℕ). i * c) (sym z.capacity)

      ends' : e ≡ a + t.capacity
      ends' = ap (λ (c : ℕ). a + c) (sym z.capacity)

      written : k' ≡ memory_at t i x k
      written = memory_is t i a e k starts' ends' x (channel_at t i) _ refl refl

      long : length k' ≡ length k
      long = ap length written ∙ memory_at_length t i k (turned_ready h).part x

      few : played.moved ≤ 31
      few = moved_few p x (channel_at t i) (take (e - a) (drop a k)) (subst (λ (c : Channel). length (live c) ≤ 32) (sym (z.ahead i (le_refl i))) (frame_few s (length l) p (length m) z.accepted i h))

      pub turned_on : Turned (i + 1) (u + played.moved) t' (set io i y) k'
      turned_on = record {
        accepted = z.accepted;
        capacity = z.capacity;
        entries = length-set io i y ∙ z.entries;
        size = long ∙ z.size;
        done = framing_on z.done h t' y k' (stepped_is t i a e k starts' ends' p x (channel_at t i) refl played refl) (output-is t i a e k starts' ends' p x (channel_at t i) refl played refl) written long;
        summed = summing_on z.done h t' y k' (stepped_is t i a e k starts' ends' p x (channel_at t i) refl played refl) (output-is t i a e k starts' ends' p x (channel_at t i) refl played refl) written long
            _ u played.moved z.summed (moved_is t i a e k starts' ends' p x (channel_at t i) refl played refl) (omega (arith, few));
        ahead = λ j q. get_or-set_other t.channels i j played.channel _ (λ same. omega (arith, q, same)) ∙ z.ahead j (omega (arith, q));
      }

      -- the same as the code has it, which reads the channel where it stands
      module _ (two : length t.channels ≡ 2) (d : Channel) (r : Heard) (k'' : List ℕ) where
        abbrev c : Channel
        c = get_or t.channels i none

        abbrev part : List ℕ
        part = take (e - a) (drop a k)

        c_is : c ≡ channel_at t i
        c_is = get_d_any t.channels i none (channel_of (record { auto_passthru = false })) (omega (arith, two, (turned_low h).0))

        heard_so : r ≡ at_volume p (heard_of (channel_sample_of p x c part)) → r ≡ at_volume p (heard_of played)
        heard_so gives = gives ∙ ap (λ (b : Channel). at_volume p (heard_of (channel_sample_of p x b part))) c_is

        -- the sum is far from where a byte ends
        pub turned_few : r ≡ at_volume p (heard_of (channel_sample_of p x c part)) → u + r.moved ≤ 63
        turned_few gives = let is : r.moved ≡ played.moved = ap (λ (b : Heard). b.moved) (heard_so gives) in omega (arith, is, few, z.summed.few, (turned_low h).0)

        pub turned_next : r ≡ at_volume p (heard_of (channel_sample_of p x c part)) → d ≡ (channel_sample_of p x c part).channel
            → k'' ≡ take a k ++ (memory_of x c part ++ drop (e - a) (drop a k))
            → Turned (i + 1) (u + r.moved) (with_channels (set t.channels i d) t) (set io i r.output) k''
        turned_next gives becomes leaves =
            let is_r : r ≡ at_volume p (heard_of played) = heard_so gives in
            let is_d : d ≡ played.channel = becomes ∙ ap (λ (b : Channel). (channel_sample_of p x b part).channel) c_is in
            let is_k : k'' ≡ k' = leaves ∙ ap (λ (b : Channel). take a k ++ (memory_of x b part ++ drop (e - a) (drop a k))) c_is in
            subst (λ (b : Channel). Turned (i + 1) (u + r.moved) (with_channels (set t.channels i b) t) (set io i r.output) k'') (sym is_d)
            (subst (λ (b : Heard). Turned (i + 1) (u + b.moved) t' (set io i b.output) k'') (sym is_r)
            (subst (λ (b : List ℕ). Turned (i + 1) (u + played.moved) t' (set io i y) b) (sym is_k) turned_on))
