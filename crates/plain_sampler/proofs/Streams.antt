-- The loop of a run in which voices are ahead: what stands after i entries, beside the record and the backing that there would be without easing. The memory and the run are the same of both.
--     Streamed         so after i entries: each channel and its side are under way of those that there would be
--     streamed_starts, streamed_low, streamed_asks, streamed_on, streamed_ends     before the first entry; where an entry's channel stands, and what its sample asks; after it; after the last
--     streamed_may, streamed_next     what an entry's sample asks, and after it, as the code has it
-- Assumes nothing.
use Rattle.std.proofs.Common.{◌≡◌, ◌≢◌, refl, sym, ap, ◌∙◌, subst, Bool, true, false, List, [], ◌∷◌, ◌++◌, ℕ, zero, suc, ◌+◌, ◌-◌, ◌*◌, ◌≤◌, ◌<◌, zero-le, add-one, arith, eqb, eqb-true, length, get_or, take, drop, set, length-set, get_or-set_same, get_or-set_other}
use Rattle.std.proofs.lemmas.Bool.{eqb-false}
use lib.Ieee.{Float, nan, binary32, mul}
use Rattle.common_types.specs.declared.Params.{Params}
use Rattle.plain_voice.specs.declared.Hot.{Hot}
use Rattle.channel.specs.declared.Channel.{Channel}
use Rattle.channel.specs.declared.Played.{Played}
use Rattle.channel.specs.Channels.{channel_of, memory_of}
use Rattle.channel.specs.Channels.{process_sample_of as channel_sample_of}
use Rattle.channel.proofs.Samples.{memory_kept}
use Rattle.lent_channel.specs.declared.Heard.{Heard}
use Rattle.plain_channel.specs.declared.Side.{Side}
use Rattle.plain_channel.specs.Sides.{no_pour, cold_side, side_played, side_after}
use Rattle.plain_channel.specs.Ahead.{ahead_of, hots_ahead, rested_side, Underway, InRun}
use Rattle.plain_channel.proofs.Aheads.{ahead_now, hots_now, ahead_nothing}
use Rattle.sampler.specs.declared.Sampler.{Sampler}
use Rattle.sampler.specs.Refusals.{channel_at}
use Rattle.sampler.specs.Samplers.{with_channels, part_of, memory_at, framed, Frames, ran_of, run_answer}
use Rattle.sampler.proofs.Seats.{none}
use Rattle.sampler.proofs.Parts.{part_is, memory_is}
use Rattle.sampler.proofs.Entries.{part_length}
use Rattle.sampler.proofs.Replaced.{replaced_own, replaced_apart}
use Rattle.lent_sampler.specs.Hearing.{at_volume}
use Rattle.lent_sampler.specs.Runs.{run_seat}
use Rattle.lent_sampler.proofs.RunTurned.{Turned, turned_starts, turned_low, turned_on, turned_ends}
use Rattle.plain_sampler.specs.declared.Backing.{Backing}
use Rattle.plain_sampler.specs.Backings.{side_at, with_side, rested_backing, run_backing}
use Rattle.plain_sampler.specs.Streams.{to_go, PartAlong}
use Rattle.plain_sampler.proofs.Beside.{channel_is, side_is}
use Rattle.plain_sampler.proofs.Flanked.{Flanked, flanked_starts, flanked_on, flanked_ends, whole_run}
use Rattle.plain_sampler.proofs.Togos.{togo_of, togo_at, togo_less, togo_some, togo_other, togo_none}

-- ---- lists of two
same_two : {A : Type 0} (a b : List A) (d : A) → length a ≡ 2 → length b ≡ 2 → ((j : ℕ) → j < 2 → get_or a j d ≡ get_or b j d) → a ≡ b
same_two [] b d two both e = absurd (omega (arith, two))
same_two (x ∷ []) b d two both e = absurd (omega (arith, two))
same_two (x ∷ y ∷ z ∷ a) b d two both e = absurd (omega (arith, two))
same_two (x ∷ y ∷ []) [] d two both e = absurd (omega (arith, both))
same_two (x ∷ y ∷ []) (u ∷ []) d two both e = absurd (omega (arith, both))
same_two (x ∷ y ∷ []) (u ∷ v ∷ w ∷ b) d two both e = absurd (omega (arith, both))
same_two (x ∷ y ∷ []) (u ∷ v ∷ []) d two both e = λ q. e 0 (omega arith) q ∷ e 1 (omega arith) q ∷ []

-- ---- sides where nothing is poured
abbrev rested_both : List Side → List Side
rested_both ks = set (set ks 0 (rested_side (get_or ks 0 cold_side))) 1 (rested_side (get_or (set ks 0 (rested_side (get_or ks 0 cold_side))) 1 cold_side))

rested_each : (ks : List Side) → length ks ≡ 2 → (j : ℕ) → j < 2 → get_or (rested_both ks) j cold_side ≡ rested_side (get_or ks j cold_side)
rested_each [] two j low = absurd (omega (arith, two))
rested_each (a ∷ []) two j low = absurd (omega (arith, two))
rested_each (a ∷ b ∷ c ∷ ks) two j low = absurd (omega (arith, two))
rested_each (a ∷ b ∷ []) two zero low = refl
rested_each (a ∷ b ∷ []) two (suc zero) low = refl
rested_each (a ∷ b ∷ []) two (suc (suc j)) low = absurd (omega (arith, low))

module _ (k : Backing) where
  pub rested_two : length k.sides ≡ 2 → length (rested_backing k).sides ≡ 2
  unfolding rested_backing
  rested_two two = length-set (set k.sides 0 _) 1 _ ∙ length-set k.sides 0 _ ∙ two

  pub rested_side_lem : length k.sides ≡ 2 → (j : ℕ) → j < 2 → side_at (rested_backing k) j ≡ rested_side (side_at k j)
  unfolding rested_backing
  rested_side_lem two = rested_each k.sides two

-- backings of the same positions are the same once they are rested
rested_same : (h k : Backing) → length h.sides ≡ 2 → length k.sides ≡ 2 → ((j : ℕ) → j < 2 → (side_at h j).hots ≡ (side_at k j).hots) → rested_backing h ≡ rested_backing k
rested_same h k two both e =
    ap (λ (ks : List Side). record { sides = ks })
    (same_two (rested_backing h).sides (rested_backing k).sides cold_side (rested_two h two) (rested_two k both) (λ j low.
    rested_side_lem h two j low ∙ ap (λ (hs : List Hot). record { hots = hs; pour = no_pour }) (e j low) ∙ sym (rested_side_lem k both j low)))

-- ---- a channel and its side, under way
module _ (p : Params) (m : List ℕ) where
  -- at first
  under_starts : (togo : ℕ) (d : Channel) (k : Side) → Underway p m togo d k.hots d (rested_side k)
  unfolding no_pour
  under_starts togo d k = record { ahead = ahead_nothing p m 0 _ d k.hots (λ i low. absurd (omega (arith, low))); room = omega arith; left = zero-le }

  -- and at last
  module _ {togo : ℕ} {d : Channel} {hs : List Hot} {c : Channel} {k : Side} (u : Underway p m togo d hs c k) (none : togo ≡ 0) where
    last : k.pour.left ≡ 0
    last = let z = u.left in omega (arith, z, none)

    under_channel : c ≡ d
    under_channel = u.ahead.channel ∙ ap (λ (n : ℕ). ahead_of p m k.pour.eased n d) last ∙ ahead_now p m k.pour.eased d

    under_hots : k.hots ≡ hs
    under_hots = u.ahead.hots ∙ ap (λ (n : ℕ). hots_ahead p m k.pour.eased n d hs) last ∙ hots_now p m d _ hs

module _ (s : Sampler) (l : List Float) (p : Params) (m : List ℕ) (f : Backing) where
  abbrev n : ℕ
  n = (run_answer s (length l) p (length m)).frames * s.count

  abbrev seat : ℕ → ℕ
  seat i = run_seat i s.count

  pub record Streamed (i : ℕ) (t : Sampler) (io : List Float) (k : List ℕ) (h : Backing) : Type 0 where
    pub sampler : Sampler
    pub backing : Backing
    pub turned : Turned s l p m i sampler io k
    pub flanked : Flanked p seat n (framed s l m) f i sampler io k backing
    pub else : t ≡ with_channels t.channels sampler
    pub whole : length sampler.channels ≡ 2
    pub two : length t.channels ≡ 2
    pub both : length h.sides ≡ 2
    pub under : (j : ℕ) → j < 2 → Underway p (part_of sampler j k) (togo_of j i n s.count) (channel_at sampler j) (side_at backing j).hots (channel_at t j) (side_at h j)

  pub streamed_starts : length s.channels ≡ 2 → length f.sides ≡ 2 → Streamed 0 s l m (rested_backing f)
  streamed_starts two both = record {
    sampler = s;
    backing = f;
    turned = turned_starts s l p m;
    flanked = flanked_starts p seat n s l m f both;
    else = refl;
    whole = two;
    two = two;
    both = rested_two f both;
    under = λ j low. subst (Underway p (part_of s j m) (togo_of j 0 n s.count) (channel_at s j) (side_at f j).hots (channel_at s j)) (sym (rested_side_lem f both j low)) (under_starts p (part_of s j m) _ (channel_at s j) (side_at f j));
  }

  module _ {i : ℕ} {t : Sampler} {io : List Float} {k : List ℕ} {h : Backing} (z : Streamed i t io k h) where
    pub streamed_ends : i ≡ n → Frames (ran_of s l p m) t io k × (rested_backing h ≡ run_backing s l p m f)
    streamed_ends e =
        let none : (j : ℕ) → togo_of j i n s.count ≡ 0 = λ j. ap (λ (c : ℕ). togo_of j c n s.count) e ∙ togo_none j n s.count in
        let same : z.sampler ≡ t = sym (z.else ∙ ap (λ (cs : List Channel). with_channels cs z.sampler) (same_two t.channels z.sampler.channels _ z.two z.whole (λ j low. under_channel p _ (z.under j low) (none j)))) in (
          subst (λ (g : Sampler). Frames (ran_of s l p m) g io k) same (turned_ends s l p m z.turned e),
          rested_same h z.backing z.both z.flanked.two (λ j low. under_hots p _ (z.under j low) (none j)) ∙ ap rested_backing (flanked_ends p seat n (framed s l m) f i z.sampler io k z.backing z.flanked e) ∙ whole_run s l p m f,
        )

    count-is : z.sampler.count ≡ t.count
    count-is = sym (ap (λ (g : Sampler). g.count) z.else)

    abbrev j : ℕ
    j = run_seat i t.count

    seat_is : j ≡ seat i
    seat_is = ap (run_seat i) (sym count-is ∙ z.turned.count)

    pub streamed_low : i < n → (j < 2) × (i < length l) × (j * s.capacity + s.capacity ≤ length k)
    streamed_low more = subst (λ (c : ℕ). (run_seat i c < 2) × (i < length l) × (run_seat i c * s.capacity + s.capacity ≤ length k)) count-is (turned_low s l p m z.turned more)

    -- the entry of channel j, on its part, which begins at a
    module _ (more : i < n) (a : ℕ) (starts : a ≡ j * s.capacity) where
      abbrev e : ℕ
      e = a + s.capacity

      abbrev x : Float
      x = get_or io i nan

      abbrev g : Sampler
      g = z.sampler

      abbrev b : Backing
      b = z.backing

      abbrev d : Channel
      d = channel_at g j

      abbrev part : List ℕ
      part = take (e - a) (drop a k)

      abbrev togo : ℕ
      togo = to_go i n t.count

      starts' : a ≡ j * g.capacity
      starts' = starts ∙ ap (λ (c : ℕ). j * c) (sym z.turned.capacity)

      ends' : e ≡ a + g.capacity
      ends' = ap (λ (c : ℕ). a + c) (sym z.turned.capacity)

      within : j * g.capacity + g.capacity ≤ length k
      within = subst (λ (c : ℕ). j * c + c ≤ length k) (sym z.turned.capacity) (streamed_low more).2

      there : i < length io
      there = let y = (streamed_low more).1 in omega (arith, z.turned.entries, y)

      -- how many samples each has to go, before the entry and behind it
      togo_is : togo_of j i n s.count ≡ togo
      togo_is = (λ q. togo_of (seat_is q) i n s.count) ∙ togo_at i n s.count more ∙ ap (to_go i n) (sym z.turned.count ∙ count-is)

      togo_next : togo - 1 ≡ togo_of j (suc i) n s.count
      togo_next = ap (λ (c : ℕ). to_go i n c - 1) (sym (sym z.turned.count ∙ count-is)) ∙ sym (togo_less i n s.count more) ∙ (λ q. togo_of (sym seat_is q) (suc i) n s.count)

      here : Underway p part togo d (side_at b j).hots (channel_at t j) (side_at h j)
      here = subst (λ (c : ℕ). Underway p part c d (side_at b j).hots (channel_at t j) (side_at h j)) togo_is
          (subst (λ (r : List ℕ). Underway p r (togo_of j i n s.count) d (side_at b j).hots (channel_at t j) (side_at h j)) (sym (part_is g j a e k starts' ends')) (z.under j (streamed_low more).0))

      pub streamed_asks : InRun p part togo (channel_at t j) (side_at h j)
      streamed_asks = record { channel = d; hots = (side_at b j).hots; under = here; some = togo_some i n t.count more }

      module _ (r : Heard) (c' : Channel) (d' : Side) (k' : List ℕ) (w : PartAlong p x a e togo (channel_at t j) (side_at h j) k r c' d' k') where
        abbrev played : Played
        played = channel_sample_of p x d part

        abbrev y : Float
        y = mul binary32 p.volume played.output

        -- what it would leave without easing
        abbrev g' : Sampler
        g' = with_channels (set g.channels j played.channel) g

        abbrev b' : Backing
        b' = with_side b j (side_after p x d part (side_at b j))

        abbrev k'' : List ℕ
        k'' = take a k ++ (memory_of x d part ++ drop (e - a) (drop a k))

        abbrev t' : Sampler
        t' = with_channels (set t.channels j c') t

        abbrev h' : Backing
        h' = with_side h j d'

        heard : r.output ≡ y
        heard = ap (λ (v : Heard). v.output) (w.volume ∙ ap (at_volume p) (w.along.heard d (side_at b j).hots here))

        recorded : w.part ≡ memory_of x d part
        recorded = w.along.memory d (side_at b j).hots here

        written : k' ≡ k''
        written = w.memory ∙ ap (λ (q : List ℕ). take a k ++ (q ++ drop (e - a) (drop a k))) recorded

        turned' : Turned s l p m (suc i) g' (set io i y) k''
        turned' = at (run_seat i g.count) (ap (run_seat i) count-is) (starts ∙ ap (λ (c : ℕ). run_seat i c * s.capacity) (sym count-is)) (turned_on s l p m z.turned more a)
          where
            On : ℕ → Type 0
            On u =
                let q : Played = channel_sample_of p x (channel_at g u) part in
                Turned s l p m (suc i) (with_channels (set g.channels u q.channel) g) (set io i (mul binary32 p.volume q.output)) (take a k ++ (memory_of x (channel_at g u) part ++ drop (e - a) (drop a k)))

            at : (u : ℕ) → u ≡ j → a ≡ u * s.capacity → (a ≡ u * s.capacity → On u) → On j
            at u eq from on = subst On eq (on from)

        flanked' : Flanked p seat n (framed s l m) f (suc i) g' (set io i y) k'' b'
        flanked' = flanked_on p seat n (framed s l m) f i g io k b j a e z.flanked more seat_is starts' ends' there

        low : j < 2
        low = (streamed_low more).0

        -- the parts of the memory
        part_long : length (memory_of x d (part_of g j k)) ≡ g.capacity
        part_long = memory_kept x d (part_of g j k) ∙ part_length g j k within

        is_memory : k'' ≡ memory_at g j x k
        is_memory = memory_is g j a e k starts' ends' x d (memory_of x d part) refl refl

        own : w.part ≡ part_of g' j k''
        unfolding memory_at part_of
        own = recorded ∙ ap (memory_of x d) (part_is g j a e k starts' ends') ∙ sym (replaced_own g j k (memory_of x d (part_of g j k)) within part_long) ∙ ap (part_of g j) (sym is_memory)

        apart : (v : ℕ) → v ≢ j → part_of g v k ≡ part_of g' v k''
        unfolding memory_at part_of
        apart v other = sym (replaced_apart g j k (memory_of x d (part_of g j k)) within part_long v other) ∙ ap (part_of g v) (sym is_memory)

        abbrev new : Channel
        new = channel_of (record { auto_passthru = false })

        -- its own channel
        mine : Underway p (part_of g' j k'') (togo_of j (suc i) n s.count) (channel_at g' j) (side_at b' j).hots (channel_at t' j) (side_at h' j)
        unfolding side_after side_played
        mine = subst (λ (X : Type 0). X)
            (λ q. Underway p (own q) (togo_next q) (sym (get_or-set_same g.channels j played.channel new (omega (arith, low, z.whole))) q)
            (sym (get_or-set_same b.sides j (side_after p x d part (side_at b j)) cold_side (omega (arith, low, z.flanked.two))) q).hots
            (sym (get_or-set_same t.channels j c' new (omega (arith, low, z.two))) q) (sym (get_or-set_same h.sides j d' cold_side (omega (arith, low, z.both))) q))
            (w.along.under d (side_at b j).hots here)

        -- and the other
        theirs : (v : ℕ) → v < 2 → v ≢ j → Underway p (part_of g' v k'') (togo_of v (suc i) n s.count) (channel_at g' v) (side_at b' v).hots (channel_at t' v) (side_at h' v)
        theirs v small other = subst (λ (X : Type 0). X)
            (λ q. Underway p (apart v other q) (sym (togo_other i n s.count more v small (λ eq. other (eq ∙ sym seat_is))) q) (sym (get_or-set_other g.channels j v played.channel new other) q)
            (sym (get_or-set_other b.sides j v (side_after p x d part (side_at b j)) cold_side other) q).hots
            (sym (get_or-set_other t.channels j v c' new other) q) (sym (get_or-set_other h.sides j v d' cold_side other) q))
            (z.under v small)

        under' : (v : ℕ) → v < 2 → Underway p (part_of g' v k'') (togo_of v (suc i) n s.count) (channel_at g' v) (side_at b' v).hots (channel_at t' v) (side_at h' v)
        under' v small = go (eqb v j) refl
          where
            go : (c : Bool) → eqb v j ≡ c → Underway p (part_of g' v k'') (togo_of v (suc i) n s.count) (channel_at g' v) (side_at b' v).hots (channel_at t' v) (side_at h' v)
            go true eq = subst (λ (u : ℕ). Underway p (part_of g' u k'') (togo_of u (suc i) n s.count) (channel_at g' u) (side_at b' u).hots (channel_at t' u) (side_at h' u)) (sym (eqb-true v j eq)) mine
            go false eq = theirs v small (eqb-false v j eq)

        pub streamed_on : Streamed (suc i) t' (set io i r.output) k' h'
        streamed_on = subst (λ (v : Float). Streamed (suc i) t' (set io i v) k' h') (sym heard) (subst (λ (q : List ℕ). Streamed (suc i) t' (set io i y) q h') (sym written) (record {
          sampler = g';
          backing = b';
          turned = turned';
          flanked = flanked';
          else = ap (with_channels (set t.channels j c')) z.else;
          whole = length-set g.channels j played.channel ∙ z.whole;
          two = length-set t.channels j c' ∙ z.two;
          both = length-set h.sides j d' ∙ z.both;
          under = under';
        }))

    -- the same as the code has it, which reads the channel and its side where they stand
    module _ (more : i < n) (v : ℕ) (is_v : v ≡ j) (a : ℕ) (starts : a ≡ j * s.capacity) (last : ℕ) (is_last : last ≡ n) (togo : ℕ) (is_togo : togo ≡ to_go i last t.count) (spare : Side) where
      abbrev end : ℕ
      end = a + s.capacity

      abbrev c : Channel
      c = get_or t.channels v none

      abbrev d' : Side
      d' = get_or h.sides v spare

      c_is : c ≡ channel_at t j
      c_is = ap (λ (u : ℕ). get_or t.channels u none) is_v ∙ channel_is t z.two j (streamed_low more).0

      d_is : d' ≡ side_at h j
      d_is = ap (λ (u : ℕ). get_or h.sides u spare) is_v ∙ side_is h spare z.both j (streamed_low more).0

      togo_same : togo ≡ to_go i n t.count
      togo_same = is_togo ∙ ap (λ (u : ℕ). to_go i u t.count) is_last

      pub streamed_may : InRun p (take (end - a) (drop a k)) togo c d'
      streamed_may = subst (λ (X : Type 0). X) (λ q. InRun p (take (end - a) (drop a k)) (sym togo_same q) (sym c_is q) (sym d_is q)) (streamed_asks more a starts)

      pub streamed_next : (r : Heard) (e : Channel) (l' : Side) (k' : List ℕ) → PartAlong p (get_or io i nan) a end togo c d' k r e l' k'
          → Streamed (i + 1) (with_channels (set t.channels v e) t) (set io i r.output) k' (with_side h v l')
      streamed_next r e l' k' w =
          subst (λ (X : Type 0). X) (λ q. Streamed (sym (add-one i) q) (with_channels (set t.channels (sym is_v q) e) t) (set io i r.output) k' (with_side h (sym is_v q) l'))
          (streamed_on more a starts r e l' k' (subst (λ (X : Type 0). X) (λ q. PartAlong p (get_or io i nan) a end (togo_same q) (c_is q) (d_is q) k r e l' k') w))
