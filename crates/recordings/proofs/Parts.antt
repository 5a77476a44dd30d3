-- Where recordings stand in the memory: a file's where each channel's recording begins in its part, and those of the record from their starts on in it. Assumes nothing.
use Rattle.std.proofs.Common.{◌≡◌, ℕ, zero, suc, ◌+◌, ◌*◌, ◌^◌, ◌<◌, ◌≤◌, Bool, true, false, not, ◌||◌, eqb, ltb, ◌⊎◌, List, [], ◌∷◌, ◌++◌, length, get_or, take, drop, sym, refl, ap, ◌∙◌, subst, inl, inr, ⊎_elim, le_trans, le_refl, mul-le-mul_right, suc-mul, eq-or-lt_of_le, one-mul, zero-mul, arith, length-drop, take-append-drop, length-take, get_or-drop, get_or-take, drop-drop, ext_get_or, ltb-false, ltb-true, eqb-true, le-leb}
use Rattle.std.specs.List.{list_any}
use Rattle.walks.proofs.Tests.{neither}
use Rattle.walks.proofs.Lists.Loops.{get_d_any}
use Rattle.wave.specs.declared.Starts.{Starts}
use Rattle.wave.specs.declared.Layout.{Layout}
use Rattle.wave.specs.Memory.{start_at, fits_memory}
use Rattle.wave.specs.Promised.{recording_at}
use Rattle.wave.proofs.Layouts.{fits_made}
use Rattle.phrases.specs.declared.Phrase.{Phrase}
use Rattle.phrases.specs.Phrases.{stored_in}
use Rattle.channel.specs.declared.Channel.{Channel}
use Rattle.channel.specs.Heads.{recording_in}
use Rattle.channel.specs.Channels.{recording_of, begins_in}
use Rattle.sampler.specs.declared.Sampler.{Sampler}
use Rattle.sampler.specs.Refusals.{channel_at, good_sampler, good_with}
use Rattle.sampler.specs.Samplers.{part_of}
use Rattle.sampler.proofs.Rows.{is_true, Fitting, fitting}
use Rattle.sampler.proofs.Channels.{good_at, recording_within, begins_within}
use Rattle.questions.proofs.Stored.{stored_at}
use Rattle.recordings.specs.Waves.{samples_of, lengths_differ, starts_in, layout_in, beginnings_in}

-- where none of two is, the second isn't
second_not : {A : Type 0} (p : A → Bool) (l : List A) (d : A) → length l ≡ 2 → list_any p (take 2 l) ≡ false → p (get_or l 1 d) ≡ false
second_not p [] d long none = absurd (omega arith)
second_not p (a ∷ []) d long none = absurd (omega arith)
second_not p (a ∷ b ∷ l) d long none = (neither (p b) false (neither (p a) (p b || false) none).1).0

-- recordings within their parts fit the memory
pub parts_fit : (count capacity size : ℕ) (l : Layout) → 1 ≤ count → count ≤ 2 → count * capacity ≤ size → l.channels ≡ count → l.starts.first + l.samples ≤ capacity
    → (count ≡ 2 → (capacity ≤ l.starts.second) × (l.starts.second + l.samples ≤ capacity + capacity)) → fits_memory l size ≡ true
parts_fit count capacity size l some few fits c first second =
    let parts : (k : ℕ) → k ≤ count → k * capacity ≤ size = λ k h. le_trans (mul-le-mul_right capacity h) fits in
    fits_made l size (record {
      some = omega (arith, c, some);
      few = omega (arith, c, few);
      first_fits = omega (arith, first, parts 1 some);
      apart = λ two. omega (arith, first, (second (sym c ∙ two)).0);
      second_fits = λ two. omega (arith, (second (sym c ∙ two)).1, parts 2 (omega (arith, c)));
    })

module _ (s : Sampler) where
  -- ---- a file's, from where each channel's recording begins
  module _ (few : s.count ≤ 2) where
    begin_is : (j : ℕ) → j < s.count → start_at (beginnings_in s) j ≡ j * s.capacity + begins_in (channel_at s j)
    begin_is zero h = omega (arith, zero-mul s.capacity)
    begin_is (suc j) h =
        let one : suc j ≡ 1 = omega arith in
        let two : s.count ≡ 2 = omega arith in
        rw (one, two) (omega (arith, one-mul s.capacity))

    -- each has room in its part
    abbrev pub Roomy : ℕ → Type 0
    Roomy n = (j : ℕ) → j < s.count → begins_in (channel_at s j) + n ≤ s.capacity

    pub beginnings_fit : (size : ℕ) (l : Layout) → Fitting s size → l.channels ≡ s.count → l.starts ≡ beginnings_in s → Roomy l.samples → fits_memory l size ≡ true
    beginnings_fit size l g c e room =
        parts_fit s.count s.capacity size l g.some g.few g.fits c (omega (arith, ap (λ (x : Starts). x.first) e, room 0 g.some))
        (λ two. let there : l.starts.second ≡ s.capacity + begins_in (channel_at s 1) = ap (λ (x : Starts). x.second) e ∙ rw two refl in
        (omega (arith, there), omega (arith, there, room 1 (omega (arith, two)))))

    -- what is read for a channel
    abbrev pub read_to : ℕ → ℕ → Phrase
    read_to n j = record { start = begins_in (channel_at s j); length = n }

    pub part_read : (n : ℕ) → Roomy n → (j : ℕ) → j < s.count → (m : List ℕ) → stored_in (read_to n j) (part_of s j m) ≡ recording_at (beginnings_in s) n j m
    part_read n room j h m =
        stored_at s j m (read_to n j) (room j h) ∙ ap (λ (at : ℕ). take n (drop at m)) (sym (begin_is j h))

    -- where each word beside the recordings is kept, a part keeps what stands before and behind its own, and the memory what stands behind the parts
    module _ (n : ℕ) (room : Roomy n) (x y : List ℕ) (long : length x ≡ length y)
        (kept : (z : ℕ) → ((j : ℕ) → j < s.count → (z < start_at (beginnings_in s) j) ⊎ (start_at (beginnings_in s) j + n ≤ z)) → get_or x z 0 ≡ get_or y z 0) where
      module _ (j : ℕ) (h : j < s.count) where
        abbrev begin : ℕ
        begin = begins_in (channel_at s j)

        element : (l : List ℕ) (i : ℕ) → i < s.capacity → get_or (part_of s j l) i 0 ≡ get_or l (j * s.capacity + i) 0
        unfolding part_of
        element l i less = get_or-take s.capacity (drop (j * s.capacity) l) i 0 less ∙ get_or-drop (j * s.capacity) l i 0

        -- a word of the part that isn't its own is none of another part's
        beside : (i : ℕ) → i < s.capacity → (i < begin) ⊎ (begin + n ≤ i) → (k : ℕ) → k < s.count
            → (j * s.capacity + i < start_at (beginnings_in s) k) ⊎ (start_at (beginnings_in s) k + n ≤ j * s.capacity + i)
        beside i less off k few = go (ltb k j) refl
          where
            own : (i < begin) ⊎ (begin + n ≤ i) → (j * s.capacity + i < start_at (beginnings_in s) j) ⊎ (start_at (beginnings_in s) j + n ≤ j * s.capacity + i)
            own (inl a) = inl (omega (arith, begin_is j h))
            own (inr a) = inr (omega (arith, begin_is j h))

            later : j ≤ k → (j * s.capacity + i < start_at (beginnings_in s) k) ⊎ (start_at (beginnings_in s) k + n ≤ j * s.capacity + i)
            later a =
                ⊎_elim (λ e. subst (λ (z : ℕ). (j * s.capacity + i < start_at (beginnings_in s) z) ⊎ (start_at (beginnings_in s) z + n ≤ j * s.capacity + i)) e (own off))
                (λ o. inl (omega (arith, begin_is k few, suc-mul j s.capacity, mul-le-mul_right {m = suc j} {n = k} s.capacity o))) (eq-or-lt_of_le a)

            go : (b : Bool) → ltb k j ≡ b → (j * s.capacity + i < start_at (beginnings_in s) k) ⊎ (start_at (beginnings_in s) k + n ≤ j * s.capacity + i)
            go true e = inr (omega (arith, begin_is k few, room k few, suc-mul k s.capacity, mul-le-mul_right {m = suc k} {n = j} s.capacity (ltb-true k j e)))
            go false e = later (ltb-false k j e)

        word : (i : ℕ) → i < s.capacity → (i < begin) ⊎ (begin + n ≤ i) → get_or (part_of s j x) i 0 ≡ get_or (part_of s j y) i 0
        word i less off = element x i less ∙ kept (j * s.capacity + i) (beside i less off) ∙ sym (element y i less)

        part_size : length (part_of s j x) ≡ length (part_of s j y)
        unfolding part_of
        part_size = simp (length-take, length-drop) (rw long)

        few_words : length (part_of s j x) ≤ s.capacity
        unfolding part_of
        few_words = omega (arith, length-take s.capacity (drop (j * s.capacity) x))

        pub part_before : take begin (part_of s j x) ≡ take begin (part_of s j y)
        part_before =
            ext_get_or 0 _ _ (simp length-take (rw part_size))
            (λ i less. let a : i < begin = omega (arith, length-take begin (part_of s j x)) in
            get_or-take begin (part_of s j x) i 0 a ∙ word i (omega (arith, room j h)) (inl a) ∙ sym (get_or-take begin (part_of s j y) i 0 a))

        pub part-rest : drop (begin + n) (part_of s j x) ≡ drop (begin + n) (part_of s j y)
        part-rest =
            ext_get_or 0 _ _ (simp length-drop (rw part_size))
            (λ i less. get_or-drop (begin + n) (part_of s j x) i 0
            ∙ word (begin + n + i) (omega (arith, length-drop (begin + n) (part_of s j x), few_words)) (inr (omega arith))
            ∙ sym (get_or-drop (begin + n) (part_of s j y) i 0))

        -- so it is the part with those words in their place
        pub part_with : part_of s j x ≡ take begin (part_of s j y) ++ (recording_at (beginnings_in s) n j x ++ drop (begin + n) (part_of s j y))
        unfolding stored_in
        part_with =
            let p = part_of s j x in
            sym (take-append-drop begin p)
            ∙ ap (λ (l : List ℕ). take begin p ++ l) (sym (take-append-drop n (drop begin p)))
            ∙ (λ i. part_before i ++ (part_read n room j h x i ++ (drop-drop n begin p ∙ part-rest) i))

      pub parts_rest : drop (s.count * s.capacity) x ≡ drop (s.count * s.capacity) y
      parts_rest =
          let all = s.count * s.capacity in
          ext_get_or 0 _ _ (simp length-drop (rw long))
          (λ i less. get_or-drop all x i 0
          ∙ kept (all + i) (λ j h. inr (omega (arith, begin_is j h, room j h, suc-mul j s.capacity, mul-le-mul_right {m = suc j} {n = s.count} s.capacity h)))
          ∙ sym (get_or-drop all y i 0))

  -- ---- those of the record, from their starts on
  module _ (good : good_sampler s ≡ true) (few : s.count ≤ 2) where
    start_is : (j : ℕ) → j < s.count → start_at (starts_in s) j ≡ j * s.capacity + (channel_at s j).head.start
    start_is zero h = omega (arith, zero-mul s.capacity)
    start_is (suc j) h =
        let one : suc j ≡ 1 = omega arith in
        let two : s.count ≡ 2 = omega arith in
        rw (one, two) (omega (arith, one-mul s.capacity))

    pub recording_there : (j : ℕ) → j < s.count → (m : List ℕ)
        → recording_of (channel_at s j) (part_of s j m) ≡ recording_at (starts_in s) (channel_at s j).head.data_len j m
    recording_there j h m =
        stored_at s j m (recording_in (channel_at s j).head) (recording_within s j good h)
        ∙ ap (λ (at : ℕ). take (channel_at s j).head.data_len (drop at m)) (sym (start_is j h))

  module _ (two : s.count ≡ 2) where
    -- the capacity is small
    small : good_sampler s ≡ true → s.capacity ≤ 2 ^ 22
    unfolding good_with
    small good = (fitting s (s.count * s.capacity) (rw (good, le-leb _ _ (le_refl (s.count * s.capacity))) refl)).small

    -- whatever stands past the last channel
    pub second_begins_there : length s.channels ≡ 2 → (d : Channel) → s.capacity + begins_in (get_or s.channels 1 d) ≡ (beginnings_in s).second
    second_begins_there long d = rw two (ap (λ (c : Channel). s.capacity + begins_in c) (get_d_any s.channels 1 d _ (omega (arith, long))))

    pub second_begins_small : good_sampler s ≡ true → length (channel_at s 1).table ≡ 8 → (beginnings_in s).second ≤ 2 ^ 23
    second_begins_small good eight =
        rw two (omega (arith, small good, begins_within s.capacity (channel_at s 1) (good_at s 1 good (omega (arith, two))) eight))

  -- where row 16 doesn't answer they are alike
  pub alike_at : length s.channels ≡ 2 → s.count ≤ 2 → lengths_differ s ≡ false → (j : ℕ) → j < s.count → (channel_at s j).head.data_len ≡ samples_of s
  alike_at long few alike zero h = refl
  alike_at long few alike (suc j) h =
      let one : suc j ≡ 1 = omega arith in
      let two : s.count ≡ 2 = omega arith in
      let other : Channel → Bool = λ c. not (eqb c.head.data_len (samples_of s)) in
      rw one (eqb-true _ _ (is_true _ (second_not other s.channels _ long (ap (λ (n : ℕ). list_any other (take n s.channels)) (sym two) ∙ alike))))

  pub starts_fit : (size : ℕ) → Fitting s size → length s.channels ≡ 2 → lengths_differ s ≡ false → fits_memory (layout_in s) size ≡ true
  starts_fit size g long alike =
      parts_fit s.count s.capacity size (layout_in s) g.some g.few g.fits refl (recording_within s 0 g.good g.some)
      (λ two. let there : (starts_in s).second ≡ s.capacity + (channel_at s 1).head.start = rw two refl in
      let second : 1 < s.count = omega (arith, two) in
      let within = recording_within s 1 g.good second in
      let same = alike_at long g.few alike 1 second in
      (omega (arith, there), omega (arith, there, within, same)))
