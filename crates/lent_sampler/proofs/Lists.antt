-- The lists of a lent record: its rows, which channel is read, what a voice more adds to the list, and that all of it is what the question answers. Assumes nothing.
use Rattle.std.proofs.Common.{◌≡◌, ℕ, zero, suc, ◌+◌, ◌<◌, ◌≤◌, min, Bool, true, false, cond, not, eqb, ltb, List, [], ◌∷◌, ◌++◌, map, length, get_or, take, drop, set, sym, refl, ap, ◌∙◌, true≢false, arith, length-append, length-drop, length-take, get_or-take, ltb-false, ltb-true, ne_eqb}
use Rattle.std.specs.Prelude.{Result, Ok, Err, is_ok, fold, count_by}
use lib.ListN.{length-map, get_or-map}
use lib.Seq.{take-length, take-append_seam}
use Rattle.refusals.specs.declared.Refusal.{Refusal}
use Rattle.refusals.specs.declared.Refusal.TheVariants.{NoChannel, BeyondLimits, ShortList, Broken}
use Rattle.refusals.specs.Refusals.{code_of, row}
use Rattle.refusals.proofs.Codes.{passed}
use Rattle.walks.specs.Walks.{without}
use Rattle.walks.proofs.Tests.{one_more}
use Rattle.walks.proofs.Lists.Stored.{fronted, fronted_next}
use Rattle.common_types.specs.Notes.{into_u64_of}
use Rattle.common_types.specs.declared.Params.{Params}
use Rattle.common_types.specs.Settings.{beyond_limits}
use Rattle.voice.specs.declared.Voice.{Voice}
use Rattle.channel.specs.declared.Channel.{Channel}
use Rattle.channel.specs.Channels.{live}
use Rattle.sampler.specs.declared.Sampler.{Sampler}
use Rattle.sampler.specs.Refusals.{channel_at, good_sampler, question_rows}
use Rattle.sampler.proofs.Rows.{good_sizes_lem, sizes_count}
use Rattle.sampler.proofs.Channels.{few_voices}
use Rattle.questions.specs.Questions.{in_front, notes_of, list_counted, list_after, iter_active_notes_of, active_notes_after, no_infos, figures_of, voice_infos_of, get_voice_info_of}
use Rattle.questions.specs.Lists.{infos_counted, listed_of, voice_info_counted, voice_info_after}
use Rattle.questions.specs.declared.VoiceInfo.{VoiceInfo}
use Rattle.questions.specs.declared.VoiceInfos.{VoiceInfos}
use Rattle.lent_sampler.specs.Lists.{seat_of, seated, unfinished}

-- ---- a call that isn't refused
abbrev pub ok : Result (Unit {0}) Refusal
ok = Ok tt

-- ---- a row that is passed, and one that refuses
module _ {A : Type 0} (test : Bool) (g : Refusal) (rest : Result A Refusal) where
  pub row_passes : ok ≡ row test g ok → row test g rest ≡ rest
  row_passes h = ap (λ (b : Bool). row b g rest) (passed test g ok (sym (ap code_of h))).0

  pub row_refuses : (f : Refusal) → Err f ≡ row test g ok → row test g rest ≡ Err f
  row_refuses f h = go test h
    where
      refusal_in : Result (Unit {0}) Refusal → Result A Refusal
      refusal_in (Ok d) = rest
      refusal_in (Err e) = Err e

      go : (b : Bool) → Err f ≡ row b g ok → row b g rest ≡ Err f
      go true h = sym (ap refusal_in h)
      go false h = absurd (true≢false (sym (ap is_ok h)))

-- what a test that was passed says
pub row_fails : (test : Bool) (g : Refusal) → ok ≡ row test g ok → test ≡ false
row_fails test g h = (passed test g ok (sym (ap code_of h))).0

-- ---- the rows before a list's own
module _ {A : Type 0} where
  refuses : (good there : Bool) (rest : Result A Refusal) (f : Refusal) → Err f ≡ row (not good) Broken (row (not there) NoChannel ok)
      → row (not good) Broken (row (not there) NoChannel rest) ≡ Err f
  refuses false there rest f h = sym (ap refusal_in h)
    where
      refusal_in : Result (Unit {0}) Refusal → Result A Refusal
      refusal_in (Ok d) = rest
      refusal_in (Err e) = Err e
  refuses true there rest f h = row_refuses (not there) NoChannel rest f h

goes : (good there : Bool) → ok ≡ row (not good) Broken (row (not there) NoChannel ok) → (good ≡ true) × (there ≡ true)
goes false there h = absurd (true≢false (ap is_ok h))
goes true false h = absurd (true≢false (ap is_ok h))
goes true true h = (refl, refl)

pub seat_is : (j : ℕ) → j < 2 → seat_of j ≡ j
unfolding seat_of
seat_is zero h = refl
seat_is (suc zero) h = refl
seat_is (suc (suc j)) h = absurd (omega arith)

pub seat_two : (j : ℕ) → seat_of j < 2
unfolding seat_of
seat_two j = go (eqb j 1)
  where
    go : (b : Bool) → cond b 1 0 < 2
    go true = omega arith
    go false = omega arith

pub seat_one : (j : ℕ) → j ≡ 1 → 1 ≡ seat_of j
unfolding seat_of
seat_one j e = ap (λ (n : ℕ). cond (eqb n 1) 1 0) (sym e)

pub seat_other : (j : ℕ) → (j ≡ 1 → ⊥) → 0 ≡ seat_of j
unfolding seat_of
seat_other j h = sym (ap (λ (b : Bool). cond b 1 0) (ne_eqb j 1 h))

module _ (s : Sampler) (j : ℕ) where
  pub rows_refuse : {A : Type 0} (rest : Result A Refusal) (f : Refusal) → Err f ≡ question_rows s j ok → question_rows s j rest ≡ Err f
  rows_refuse rest f h = refuses (good_sampler s) (ltb j s.count) rest f h

  module _ (h : ok ≡ question_rows s j ok) where
    is_good : good_sampler s ≡ true
    is_good = (goes (good_sampler s) (ltb j s.count) h).0

    is_there : j < s.count
    is_there = ltb-true j s.count (goes (good_sampler s) (ltb j s.count) h).1

    pub rows_pass : {A : Type 0} (rest : Result A Refusal) → question_rows s j rest ≡ rest
    rows_pass rest = let g = goes (good_sampler s) (ltb j s.count) h in λ i. row (not (g.0 i)) Broken (row (not (g.1 i)) NoChannel rest)

    -- the channel that is read is the asked one
    pub seated_is : seated s j ≡ channel_at s j
    seated_is = ap (channel_at s) (seat_is j (omega (arith, is_there, sizes_count _ _ (good_sizes_lem s is_good))))

    -- as many voices as it says are in use
    pub all_live : length (seated s j).voices ≡ 32 → length (live (seated s j)) ≡ (seated s j).count
    all_live all =
        let same : (seated s j).count ≡ (channel_at s j).count = ap (λ (c : Channel). c.count) seated_is in
        omega (arith, few_voices s j is_good is_there, same, all, length-take (seated s j).count (seated s j).voices)

-- ---- what one voice more adds
module _ (p : Voice → Bool) where
  without_suc : (d : Voice) (i : ℕ) (l : List Voice) → i < length l → without p (take (suc i) l) ≡ without p (take i l) ++ cond (p (get_or l i d)) [] (get_or l i d ∷ [])
  unfolding without
  without_suc d i [] lt = absurd (omega (arith, lt))
  without_suc d zero (x ∷ xs) lt = refl
  without_suc d (suc i) (x ∷ xs) lt = go (p x) (without_suc d i xs (omega (arith, lt)))
    where
      more : List Voice
      more = cond (p (get_or xs i d)) [] (get_or xs i d ∷ [])

      go : (b : Bool) → without p (take (suc i) xs) ≡ without p (take i xs) ++ more
          → cond b (without p (take (suc i) xs)) (x ∷ without p (take (suc i) xs)) ≡ cond b (without p (take i xs)) (x ∷ without p (take i xs)) ++ more
      go true e = e
      go false e = ap (λ (ys : List Voice). x ∷ ys) e

  without_next : (d : Voice) (i : ℕ) (l : List Voice) → i < length l → without p (take (i + 1) l) ≡ without p (take i l) ++ cond (p (get_or l i d)) [] (get_or l i d ∷ [])
  without_next d i l lt = ap (λ (k : ℕ). without p (take k l)) (one_more i) ∙ without_suc d i l lt

  -- no more of its front than of it all
  rises : (i : ℕ) (l : List Voice) → length (without p (take i l)) ≤ length (without p l)
  unfolding without
  rises zero l = omega arith
  rises (suc i) [] = omega arith
  rises (suc i) (x ∷ xs) = go (p x) (rises i xs)
    where
      go : (b : Bool) → length (without p (take i xs)) ≤ length (without p xs)
          → length (cond b (without p (take i xs)) (x ∷ without p (take i xs))) ≤ length (cond b (without p xs) (x ∷ without p xs))
      go true k = k
      go false k = omega (arith, k)

-- ---- the notes
abbrev done : Voice → Bool
done v = v.finished

abbrev noted : List Voice → List ℕ
noted vs = map (λ (v : Voice). into_u64_of v.note) vs

noted_on : (vs ws : List Voice) → noted (vs ++ ws) ≡ noted vs ++ noted ws
noted_on [] ws = refl
noted_on (w ∷ vs) ws = ap (λ (ns : List ℕ). into_u64_of w.note ∷ ns) (noted_on vs ws)

-- there is one for each voice that is counted
counted_from : (n : ℕ) (l : List Voice) → n + length (without done l) ≡ fold (λ (a : ℕ) (v : Voice). a + cond (not v.finished) 1 0) n l
unfolding without
counted_from n [] = omega arith
counted_from n (x ∷ xs) = go x.finished (λ k. counted_from k xs)
  where
    go : (b : Bool) → ((k : ℕ) → k + length (without done xs) ≡ fold (λ (a : ℕ) (v : Voice). a + cond (not v.finished) 1 0) k xs) → n + length (cond b (without done xs) (x ∷ without done xs)) ≡ fold (λ (a : ℕ) (v : Voice). a + cond (not v.finished) 1 0) (n + cond (not b) 1 0) xs
    go true rest = let e : n + length (without done xs) ≡ n + 0 + length (without done xs) = omega arith in e ∙ rest (n + 0)
    go false rest = let e : n + length (x ∷ without done xs) ≡ n + 1 + length (without done xs) = omega arith in e ∙ rest (n + 1)

counted_without : (l : List Voice) → length (without done l) ≡ count_by (λ (v : Voice). not v.finished) l
counted_without l = let e : length (without done l) ≡ 0 + length (without done l) = omega arith in e ∙ counted_from 0 l

pub notes_count : (l : List Voice) → length (notes_of l) ≡ count_by (λ (v : Voice). not v.finished) l
unfolding notes_of
notes_count l = length-map (without done l) _ ∙ counted_without l

append-nil : {X : Type 0} (a : List X) → a ++ [] ≡ a
append-nil [] = refl
append-nil (x ∷ a) = ap (λ (ys : List _). x ∷ ys) (append-nil a)

stored_front : {X : Type 0} (a l : List X) (x : X) → length a < length l → set (in_front a l) (length a) x ≡ in_front (a ++ (x ∷ [])) l
stored_front [] [] x lt = absurd (omega (arith, lt))
stored_front [] (y ∷ l) x lt = refl
stored_front (b ∷ a) [] x lt = absurd (omega (arith, lt))
stored_front (b ∷ a) (y ∷ l) x lt = ap (λ (ys : List _). b ∷ ys) (stored_front a l x (omega (arith, lt)))

-- the notes of the first i voices stand in the front of the list
module _ (l : List Voice) (lent : List ℕ) where
  pub record Noted (i k : ℕ) (notes : List ℕ) : Type 0 where
    pub counted : k ≡ length (notes_of (take i l))
    pub listed : notes ≡ in_front (notes_of (take i l)) lent

  pub noted_none : Noted 0 0 lent
  unfolding notes_of without
  noted_none = record { counted = refl; listed = refl }

  module _ {i k : ℕ} {notes : List ℕ} (z : Noted i k notes) (d : Voice) (lt : i < length l) where
    abbrev u : Voice
    u = get_or l i d

    next_notes : (b : Bool) → u.finished ≡ b → notes_of (take (i + 1) l) ≡ notes_of (take i l) ++ noted (cond b [] (u ∷ []))
    unfolding notes_of
    next_notes b e = ap noted (without_next done d i l lt ∙ ap (λ (c : Bool). without done (take i l) ++ cond c [] (u ∷ [])) e) ∙ noted_on (without done (take i l)) (cond b [] (u ∷ []))

    pub noted_kept : u.finished ≡ true → Noted (i + 1) k notes
    noted_kept e =
        let same : notes_of (take i l) ≡ notes_of (take (i + 1) l) = sym (append-nil (notes_of (take i l))) ∙ sym (next_notes true e) in
        record { counted = z.counted ∙ ap length same; listed = z.listed ∙ ap (λ (ns : List ℕ). in_front ns lent) same }

    -- there is room for the note of a voice that isn't finished
    pub noted_room : u.finished ≡ false → count_by (λ (v : Voice). not v.finished) l ≤ length lent → k < length lent
    unfolding notes_of
    noted_room e room =
        let more : length (notes_of (take (i + 1) l)) ≡ length (notes_of (take i l) ++ noted (u ∷ [])) = ap length (next_notes false e) in
        let most : length (without done (take (i + 1) l)) ≤ length (without done l) = rises done (i + 1) l in
        omega (arith, z.counted, more, length-append (notes_of (take i l)) (noted (u ∷ [])), most, length-map (without done (take (i + 1) l)) (λ (v : Voice). into_u64_of v.note), counted_without l, room)

    pub noted_more : u.finished ≡ false → k < length lent → Noted (i + 1) (k + 1) (set notes k (into_u64_of u.note))
    noted_more e room =
        let more : notes_of (take (i + 1) l) ≡ notes_of (take i l) ++ noted (u ∷ []) = next_notes false e in
        record {
          counted = omega (arith, z.counted, ap length more, length-append (notes_of (take i l)) (noted (u ∷ [])));
          listed = (λ q. set (z.listed q) (z.counted q) (into_u64_of u.note))
              ∙ stored_front (notes_of (take i l)) lent (into_u64_of u.note) (omega (arith, z.counted, room))
              ∙ ap (λ (ns : List ℕ). in_front ns lent) (sym more);
        }

  pub noted_all : {k : ℕ} {notes : List ℕ} → (i : ℕ) → length l ≤ i → Noted i k notes → notes ≡ in_front (notes_of l) lent
  noted_all i h z = z.listed ∙ ap (λ (vs : List Voice). in_front (notes_of vs) lent) (all_taken i l h)
    where
      all_taken : (i : ℕ) (l : List Voice) → length l ≤ i → take i l ≡ l
      all_taken zero [] h = refl
      all_taken zero (x ∷ xs) h = absurd (omega (arith, h))
      all_taken (suc i) [] h = refl
      all_taken (suc i) (x ∷ xs) h = ap (λ (ys : List Voice). x ∷ ys) (all_taken i xs (omega (arith, h)))

-- ---- the answers of both questions
module _ (s : Sampler) (j : ℕ) (lent : List ℕ) where
  abbrev answer : List ℕ
  answer = notes_of (live (channel_at s j))

  abbrev own_row : Result ℕ Refusal
  own_row = row (ltb (length lent) (length answer)) ShortList (Ok (length answer))

  abbrev Answers : Result ℕ Refusal → List ℕ → Type 0
  Answers r notes = (r ≡ iter_active_notes_of s j (length lent)) × (notes ≡ active_notes_after s j lent)

  answers : (r : Result ℕ Refusal) → question_rows s j own_row ≡ r → Answers r (cond (is_ok r) (in_front answer lent) lent)
  unfolding list_counted list_after
  answers r e = (sym e, sym (ap (λ (c : Result ℕ Refusal). cond (is_ok c) (in_front answer lent) lent) e))

  pub notes_refused : (f : Refusal) → Err f ≡ question_rows s j ok → Answers (Err f) lent
  notes_refused f h = answers (Err f) (rows_refuse s j own_row f h)

  module _ (h : ok ≡ question_rows s j ok) (n : ℕ) (counts : n ≡ unfinished (seated s j)) where
    as_many : n ≡ length answer
    unfolding unfinished
    as_many = counts ∙ ap (λ (c : Channel). count_by (λ (v : Voice). not v.finished) (live c)) (seated_is s j h) ∙ sym (notes_count (live (channel_at s j)))

    pub notes_short : (f : Refusal) → Err f ≡ row (ltb (length lent) n) ShortList ok → Answers (Err f) lent
    notes_short f e =
        answers (Err f) (rows_pass s j h own_row ∙ row_refuses (ltb (length lent) (length answer)) ShortList (Ok (length answer)) f (e ∙ ap (λ (k : ℕ). row (ltb (length lent) k) ShortList ok) as_many))

    pub notes_room : ok ≡ row (ltb (length lent) n) ShortList ok → count_by (λ (v : Voice). not v.finished) (live (seated s j)) ≤ length lent
    unfolding unfinished
    notes_room e = let fits : n ≤ length lent = ltb-false (length lent) n (row_fails (ltb (length lent) n) ShortList e) in omega (arith, fits, counts)

    pub notes_listed : ok ≡ row (ltb (length lent) n) ShortList ok → (notes : List ℕ) → notes ≡ in_front (notes_of (live (seated s j))) lent → Answers (Ok n) notes
    notes_listed e notes is =
        let a = answers (Ok (length answer)) (rows_pass s j h own_row ∙ row_passes (ltb (length lent) (length answer)) ShortList (Ok (length answer)) (e ∙ ap (λ (k : ℕ). row (ltb (length lent) k) ShortList ok) as_many)) in
        (ap Ok as_many ∙ a.0, is ∙ ap (λ (c : Channel). in_front (notes_of (live c)) lent) (seated_is s j h) ∙ a.1)

-- ---- the figures of the voices, which go by channel a
module _ (p : Params) (a c : Channel) (lent : List VoiceInfo) where
  abbrev figures : List VoiceInfo
  figures = map (figures_of p a c) (live c)

  -- the list with those of the first i voices in its front
  abbrev pub figured_upto : ℕ → List VoiceInfo
  figured_upto i = fronted figures lent i

  pub figured_next : (i : ℕ) (d : Voice) → i < length (live c) → length (live c) ≤ length lent → set (figured_upto i) i (figures_of p a c (get_or (live c) i d)) ≡ figured_upto (i + 1)
  figured_next i d lt room =
      ap (set (figured_upto i) i) (sym (get_or-map (figures_of p a c) (live c) i d))
      ∙ fronted_next figures lent i (figures_of p a c d) (omega (arith, lt, length-map (live c) (figures_of p a c))) (omega (arith, lt, room))
      ∙ ap figured_upto (sym (one_more i))

  figured_all : length (live c) ≡ c.count → figured_upto (length (live c)) ≡ in_front (take c.count (in_front figures no_infos)) lent
  figured_all full =
      let many : length figures ≡ c.count = length-map (live c) (figures_of p a c) ∙ full in
      ap figured_upto (sym (length-map (live c) (figures_of p a c)))
      ∙ ap (λ (ys : List VoiceInfo). ys ++ drop (length figures) lent) (take-length figures)
      ∙ sym (ap (λ (ys : List VoiceInfo). in_front ys lent) (ap (λ (k : ℕ). take k (in_front figures no_infos)) (sym many) ∙ take-append_seam figures (drop (length figures) no_infos)))

module _ (s : Sampler) (j : ℕ) (p : Params) (lent : List VoiceInfo) where
  abbrev own : Channel → Result VoiceInfos Refusal
  own c = row (ltb (length lent) c.count) ShortList (Ok (voice_infos_of p (channel_at s 0) c))

  abbrev Infos : Result ℕ Refusal → List VoiceInfo → Type 0
  Infos r list = (r ≡ voice_info_counted s j p lent) × (list ≡ voice_info_after s j p lent)

  infos_are : (r : Result VoiceInfos Refusal) → question_rows s j (row (beyond_limits p) BeyondLimits (own (channel_at s j))) ≡ r → Infos (infos_counted r) (listed_of r lent)
  unfolding get_voice_info_of
  infos_are r e = (sym (ap infos_counted e), sym (ap (λ (v : Result VoiceInfos Refusal). listed_of v lent) e))

  pub infos_refused : (f : Refusal) → Err f ≡ question_rows s j ok → Infos (Err f) lent
  unfolding infos_counted listed_of
  infos_refused f h = infos_are (Err f) (rows_refuse s j _ f h)

  module _ (h : ok ≡ question_rows s j ok) where
    pub infos_beyond : (f : Refusal) → Err f ≡ row (beyond_limits p) BeyondLimits ok → Infos (Err f) lent
    unfolding infos_counted listed_of
    infos_beyond f e = infos_are (Err f) (rows_pass s j h _ ∙ row_refuses (beyond_limits p) BeyondLimits (own (channel_at s j)) f e)

    module _ (within : ok ≡ row (beyond_limits p) BeyondLimits ok) where
      own_is : question_rows s j (row (beyond_limits p) BeyondLimits (own (channel_at s j))) ≡ own (seated s j)
      own_is = rows_pass s j h _ ∙ row_passes (beyond_limits p) BeyondLimits (own (channel_at s j)) within ∙ sym (ap own (seated_is s j h))

      pub infos_short : (f : Refusal) → Err f ≡ row (ltb (length lent) (seated s j).count) ShortList ok → Infos (Err f) lent
      unfolding infos_counted listed_of
      infos_short f e = infos_are (Err f) (own_is ∙ row_refuses (ltb (length lent) (seated s j).count) ShortList (Ok (voice_infos_of p (channel_at s 0) (seated s j))) f e)

      pub infos_room : ok ≡ row (ltb (length lent) (seated s j).count) ShortList ok → (seated s j).count ≤ length lent
      infos_room e = ltb-false (length lent) (seated s j).count (row_fails (ltb (length lent) (seated s j).count) ShortList e)

      pub infos_listed : ok ≡ row (ltb (length lent) (seated s j).count) ShortList ok → length (seated s j).voices ≡ 32
          → (list : List VoiceInfo) → list ≡ figured_upto p (channel_at s 0) (seated s j) lent (length (live (seated s j))) → Infos (Ok (seated s j).count) list
      unfolding infos_counted listed_of voice_infos_of
      infos_listed e whole list is =
          let a = infos_are (Ok (voice_infos_of p (channel_at s 0) (seated s j))) (own_is ∙ row_passes (ltb (length lent) (seated s j).count) ShortList (Ok (voice_infos_of p (channel_at s 0) (seated s j))) e) in
          (a.0, is ∙ figured_all p (channel_at s 0) (seated s j) lent (all_live s j h whole) ∙ a.1)
