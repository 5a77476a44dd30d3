-- What a walk that isn't refused has met, in both directions: a walk over chunks that are in order meets them, and what a walk meets tiles the file. Assumes nothing.
use Rattle.std.specs.Prelude.{Option, Some, None}
use mathlib.Core.Path.{◌≡◌, sym, ap, ◌∙◌, subst}
use mathlib.Core.List.{List, [], ◌∷◌, ◌++◌, append-nil}
use mathlib.Core.Logic.{inl, inr}
use Prim.Native.Nat.{ℕ, zero, suc, pred, ◌+◌, ◌-◌, ◌≤◌, ◌<◌}
use native.Mathlib.Omega.{arith}
use lib.Dec.{ltb, leb, eqb}
use lib.ListN.{length, drop, length-drop, drop_of_length-le}
use lib.Seq.{append_snoc}
use borrow.Author.Tests.{eqb-true, eqb-false, leb-true, ltb-false, eq-eqb, ne_eqb}
use Rattle.octets.specs.Octets.{Bytes}
use Rattle.wave.specs.Fields.{four_at, format_id, fact_id, data_id}
use Rattle.wave.specs.Reader.{padded_at, missing, met_of, and_then, chunk_at, walk_from}
use Rattle.wave.specs.Grammar.{Chunk, chunk_bytes, Chunks}
use Rattle.wave.specs.Grammar.Chunks.{none, main, fact, other}
use Rattle.wave.specs.declared.chunks.Places.{Places}
use Rattle.wave.proofs.Judgements.{both}
use Rattle.wave.proofs.Walks.{walk_over, walk-next}
use Rattle.wave.proofs.Tiles.{Stands, chunk_of, chunk_stands, chunk_behind, stands_id, stands_behind, stands_whole}

-- ---- where the chunks of a list stand, in order; 0 where there is none
pub record At (f : List ℕ) (at id : ℕ) (c : Chunk) : Type 0 where
  pub some : 0 < at
  pub named : c.id ≡ id
  pub stands : Stands f at c

abbrev pub Mains : List ℕ → ℕ → ℕ → List Chunk → Type 0
Mains f a b [] = (a ≡ 0) × (b ≡ 0)
Mains f a b (c ∷ []) = At f a format_id c × (b ≡ 0)
Mains f a b (c ∷ d ∷ []) = At f a format_id c × At f b data_id d
Mains f a b (c ∷ d ∷ e ∷ cs) = ⊥

abbrev pub Facts : List ℕ → ℕ → List Chunk → Type 0
Facts f a [] = a ≡ 0
Facts f a (c ∷ []) = At f a fact_id c
Facts f a (c ∷ d ∷ cs) = ⊥

-- places that hold the chunks of two lists
pub record Held (f : List ℕ) (p : Places) (mains facts : List Chunk) : Type 0 where
  pub mains_held : Mains f p.format p.words mains
  pub facts_held : Facts f p.fact facts

-- ---- the four cases of a chunk that is met
abbrev pub format_at : ℕ → Places → Places
format_at at p = record { format = at; words = p.words; fact = p.fact }

abbrev pub words_at : ℕ → Places → Places
words_at at p = record { format = p.format; words = at; fact = p.fact }

abbrev pub fact_at : ℕ → Places → Places
fact_at at p = record { format = p.format; words = p.words; fact = at }

refused : {p : Places} → None ≡ Some p → ⊥
refused e = let z : ◌≡◌ {A = ℕ} 0 1 = cc in omega arith

data Case (id at : ℕ) (p : Places) : Option Places → Type 0 where
  is_format : id ≡ format_id → p.format ≡ 0 → Case id at p (Some (format_at at p))
  is_words : id ≡ data_id → (p.format ≡ 0 → ⊥) → p.words ≡ 0 → Case id at p (Some (words_at at p))
  is_fact : id ≡ fact_id → p.fact ≡ 0 → Case id at p (Some (fact_at at p))
  is_other : (id ≡ format_id → ⊥) → (id ≡ data_id → ⊥) → (id ≡ fact_id → ⊥) → Case id at p (Some p)
  is_wrong : Case id at p None

case_of : (id at : ℕ) (p : Places) → Case id at p (met_of id at p)
unfolding met_of
case_of id at p =
    both (Case id at p) (eqb id format_id) _ _
    (λ e. both (Case id at p) (missing p.format) _ _ (λ m. is_format (eqb-true _ _ e) (eqb-true _ _ m)) (λ _. is_wrong))
    (λ e. both (Case id at p) (eqb id data_id) _ _
    (λ g. both (Case id at p) (missing p.format) _ _ (λ _. is_wrong)
    (λ m. both (Case id at p) (missing p.words) _ _ (λ n. is_words (eqb-true _ _ g) (eqb-false _ _ m) (eqb-true _ _ n)) (λ _. is_wrong)))
    (λ g. both (Case id at p) (eqb id fact_id) _ _
    (λ h. both (Case id at p) (missing p.fact) _ _ (λ m. is_fact (eqb-true _ _ h) (eqb-true _ _ m)) (λ _. is_wrong))
    (λ h. is_other (eqb-false _ _ e) (eqb-false _ _ g) (eqb-false _ _ h))))

-- ---- one more chunk
module _ (f : List ℕ) (at : ℕ) (c : Chunk) where
  more_format : (a b : ℕ) (cs : List Chunk) → Mains f a b cs → a ≡ 0 → At f at format_id c → Mains f at b (cs ++ (c ∷ []))
  more_format a b [] h z k = (k, h.1)
  more_format a b (x ∷ []) h z k = let some = h.0.some in absurd (omega arith)
  more_format a b (x ∷ y ∷ []) h z k = let some = h.0.some in absurd (omega arith)
  more_format a b (x ∷ y ∷ e ∷ cs) h z k = absurd h

  more_words : (a b : ℕ) (cs : List Chunk) → Mains f a b cs → (a ≡ 0 → ⊥) → b ≡ 0 → At f at data_id c → Mains f a at (cs ++ (c ∷ []))
  more_words a b [] h z y k = absurd (z h.0)
  more_words a b (x ∷ []) h z y k = (h.0, k)
  more_words a b (x ∷ d ∷ []) h z y k = let some = h.1.some in absurd (omega arith)
  more_words a b (x ∷ d ∷ e ∷ cs) h z y k = absurd h

  more_fact : (a : ℕ) (cs : List Chunk) → Facts f a cs → a ≡ 0 → At f at fact_id c → Facts f at (cs ++ (c ∷ []))
  more_fact a [] h z k = k
  more_fact a (x ∷ []) h z k = let some = h.some in absurd (omega arith)
  more_fact a (x ∷ y ∷ cs) h z k = absurd h

-- ---- what a walk meets tiles what it walks over
pub record Tiled (f : List ℕ) (at : ℕ) (q : Places) (mains facts : List Chunk) : Type 0 where
  pub more_mains : List Chunk
  pub more_facts : List Chunk
  pub tiles : Chunks (drop at f) more_mains more_facts
  pub held : Held f q (mains ++ more_mains) (facts ++ more_facts)

over_tiled : (f : List ℕ) (at : ℕ) (p q : Places) (mains facts : List Chunk) → length f ≤ at → Held f p mains facts → Some p ≡ Some q → Tiled f at q mains facts
over_tiled f at p q mains facts h k e =
    let same : p ≡ q = cc in
    record {
      more_mains = [];
      more_facts = [];
      tiles = rw (drop_of_length-le f h) none;
      held = rw (append-nil mains, append-nil facts) (subst (λ (x : Places). Held f x mains facts) same k);
    }

module _ (f : List ℕ) (at : ℕ) (p q : Places) (mains facts : List Chunk) (bytes : Bytes f) (some : 0 < at)
    (whole : at + 8 + padded_at f at ≤ length f) (behind : Places → Option Places)
    (again : (p₁ : Places) (ms fs : List Chunk) → Held f p₁ ms fs → behind p₁ ≡ Some q → Tiled f (at + 8 + padded_at f at) q ms fs)
    (held : Held f p mains facts) where
  stands : Stands f at (chunk_of f at)
  stands = chunk_stands f at bytes whole

  back : (ms fs : List Chunk) → Chunks (chunk_bytes (chunk_of f at) ++ drop (at + 8 + padded_at f at) f) ms fs → Chunks (drop at f) ms fs
  back ms fs t = rw (chunk_behind f at bytes whole) t

  step_tiled : (m : Option Places) → Case (four_at f at) at p m → and_then m behind ≡ Some q → Tiled f at q mains facts
  step_tiled _ (is_format e z) r =
      let t = again (format_at at p) (mains ++ (chunk_of f at ∷ [])) facts (record {
        mains_held = more_format f at (chunk_of f at) p.format p.words mains held.mains_held z (record { some = some; named = e; stands = stands });
        facts_held = held.facts_held;
      }) r in
      record {
        more_mains = chunk_of f at ∷ t.more_mains;
        more_facts = t.more_facts;
        tiles = back _ _ (main (chunk_of f at) stands.whole (inl e) t.tiles);
        held = rw append_snoc at t.held;
      }
  step_tiled _ (is_words e z y) r =
      let t = again (words_at at p) (mains ++ (chunk_of f at ∷ [])) facts (record {
        mains_held = more_words f at (chunk_of f at) p.format p.words mains held.mains_held z y (record { some = some; named = e; stands = stands });
        facts_held = held.facts_held;
      }) r in
      record {
        more_mains = chunk_of f at ∷ t.more_mains;
        more_facts = t.more_facts;
        tiles = back _ _ (main (chunk_of f at) stands.whole (inr e) t.tiles);
        held = rw append_snoc at t.held;
      }
  step_tiled _ (is_fact e z) r =
      let t = again (fact_at at p) mains (facts ++ (chunk_of f at ∷ [])) (record {
        mains_held = held.mains_held;
        facts_held = more_fact f at (chunk_of f at) p.fact facts held.facts_held z (record { some = some; named = e; stands = stands });
      }) r in
      record {
        more_mains = t.more_mains;
        more_facts = chunk_of f at ∷ t.more_facts;
        tiles = back _ _ (fact (chunk_of f at) stands.whole e t.tiles);
        held = rw append_snoc at t.held;
      }
  step_tiled _ (is_other e g h) r =
      let t = again p mains facts held r in
      record {
        more_mains = t.more_mains;
        more_facts = t.more_facts;
        tiles = back _ _ (other (chunk_of f at) stands.whole e g h t.tiles);
        held = t.held;
      }
  step_tiled _ is_wrong r = absurd (refused r)

pub walk_tiled : (n : ℕ) (f : List ℕ) (at : ℕ) (p q : Places) (mains facts : List Chunk) → Bytes f → 0 < at → length f - at ≤ n
    → Held f p mains facts → walk_from n f at p ≡ Some q → Tiled f at q mains facts
unfolding walk_from chunk_at
walk_tiled zero f at p q mains facts bytes some h k = λ e. over_tiled f at p q mains facts (omega arith) k e
walk_tiled (suc n) f at p q mains facts bytes some h k =
    both (λ (m : Option Places). m ≡ Some q → Tiled f at q mains facts) (leb (length f) at) _ _
    (λ end e. over_tiled f at p q mains facts (leb-true _ _ end) k e)
    (λ _. both (λ (m : Option Places). m ≡ Some q → Tiled f at q mains facts) (ltb (length f) (at + 8)) _ _ (λ _ e. absurd (refused e))
    (λ _. both (λ (m : Option Places). m ≡ Some q → Tiled f at q mains facts) (ltb (length f) (at + 8 + padded_at f at)) _ _ (λ _ e. absurd (refused e))
    (λ whole e. step_tiled f at p q mains facts bytes some (ltb-false _ _ whole) (walk_from n f (at + 8 + padded_at f at))
    (λ p₁ ms fs held r. walk_tiled n f (at + 8 + padded_at f at) p₁ q ms fs bytes (omega arith) (omega (arith, ltb-false (length f) (at + 8 + padded_at f at) whole)) held r)
    k (met_of (four_at f at) at p) (case_of (four_at f at) at p) e)))

-- ---- a walk over chunks in order meets them

abbrev pub Ordered : List Chunk → Type 0
Ordered [] = ⊥
Ordered (c ∷ []) = ⊥
Ordered (c ∷ d ∷ []) = (c.id ≡ format_id) × (d.id ≡ data_id)
Ordered (c ∷ d ∷ e ∷ cs) = ⊥

-- what was met before a chunk that is in order
module _ (f : List ℕ) (c : Chunk) where
  first_format : (a b : ℕ) (cs ds : List Chunk) → Mains f a b cs → Ordered (cs ++ (c ∷ ds)) → c.id ≡ format_id → a ≡ 0
  first_format a b [] ds h k e = h.0
  first_format a b (x ∷ []) [] h k e = let z : data_id ≡ format_id = sym k.1 ∙ e in absurd (omega arith)
  first_format a b (x ∷ []) (y ∷ ds) h k e = absurd k
  first_format a b (x ∷ y ∷ []) ds h k e = absurd k
  first_format a b (x ∷ y ∷ z ∷ cs) ds h k e = absurd h

  second_words : (a b : ℕ) (cs ds : List Chunk) → Mains f a b cs → Ordered (cs ++ (c ∷ ds)) → c.id ≡ data_id → (a ≡ 0 → ⊥) × (b ≡ 0)
  second_words a b [] [] h k e = absurd k
  second_words a b [] (y ∷ []) h k e = let z : data_id ≡ format_id = sym e ∙ k.0 in absurd (omega arith)
  second_words a b [] (y ∷ z ∷ ds) h k e = absurd k
  second_words a b (x ∷ []) ds h k e = (λ z. let some = h.0.some in omega arith, h.1)
  second_words a b (x ∷ y ∷ []) ds h k e = absurd k
  second_words a b (x ∷ y ∷ z ∷ cs) ds h k e = absurd h

  only_fact : (a : ℕ) (cs ds : List Chunk) → Facts f a cs → length (cs ++ (c ∷ ds)) ≤ 1 → a ≡ 0
  only_fact a [] ds h k = h
  only_fact a (x ∷ []) ds h k = absurd (omega arith)
  only_fact a (x ∷ y ∷ cs) ds h k = absurd h

module _ (id at : ℕ) (p : Places) where
  meets_format : id ≡ format_id → p.format ≡ 0 → met_of id at p ≡ Some (format_at at p)
  unfolding met_of
  meets_format e z = simp (eq-eqb _ _ e, eq-eqb _ _ z)

  meets_words : id ≡ data_id → (p.format ≡ 0 → ⊥) → p.words ≡ 0 → met_of id at p ≡ Some (words_at at p)
  unfolding met_of
  meets_words e z y =
      let else : (id ≡ format_id → ⊥) = λ g. omega arith in
      simp (ne_eqb _ _ else, eq-eqb _ _ e, ne_eqb _ _ z, eq-eqb _ _ y)

  meets_fact : id ≡ fact_id → p.fact ≡ 0 → met_of id at p ≡ Some (fact_at at p)
  unfolding met_of
  meets_fact e z =
      let no_format : (id ≡ format_id → ⊥) = λ g. omega arith in
      let no_words : (id ≡ data_id → ⊥) = λ g. omega arith in
      simp (ne_eqb _ _ no_format, ne_eqb _ _ no_words, eq-eqb _ _ e, eq-eqb _ _ z)

  meets_other : (id ≡ format_id → ⊥) → (id ≡ data_id → ⊥) → (id ≡ fact_id → ⊥) → met_of id at p ≡ Some p
  unfolding met_of
  meets_other e g h = simp (ne_eqb _ _ e, ne_eqb _ _ g, ne_eqb _ _ h)

pub record Reached (n : ℕ) (f : List ℕ) (at : ℕ) (p : Places) (mains facts : List Chunk) : Type 0 where
  pub end : Places
  pub walks : walk_from n f at p ≡ Some end
  pub held : Held f end mains facts

-- over a chunk that stands here
module _ (n : ℕ) (f : List ℕ) (at : ℕ) (p : Places) (c : Chunk) (s : Stands f at c) (steps : length f - at ≤ n) where
  step_on : (q : Places) → met_of c.id at p ≡ Some q → walk_from n f at p ≡ walk_from (pred n) f (at + 8 + padded_at f at) q
  step_on q e =
      let whole = stands_whole f at c s in
      walk-next n f at p (omega arith) steps (omega arith) (omega arith) (Some q) (ap (λ (id : ℕ). met_of id at p) (stands_id f at c s) ∙ e)

  step_reached : (q : Places) (mains facts : List Chunk) → met_of c.id at p ≡ Some q
      → Reached (pred n) f (at + 8 + padded_at f at) q mains facts → Reached n f at p mains facts
  step_reached q mains facts e r = record { end = r.end; walks = step_on q e ∙ r.walks; held = r.held }

pub tiles_reached : (f : List ℕ) {b : List ℕ} {ms fs : List Chunk} → Chunks b ms fs → (n at : ℕ) (p : Places) (mains facts : List Chunk)
    → drop at f ≡ b → 0 < at → length f - at ≤ n → Held f p mains facts → Ordered (mains ++ ms) → length (facts ++ fs) ≤ 1
    → Reached n f at p (mains ++ ms) (facts ++ fs)
tiles_reached f none n at p mains facts e some steps held o k =
    let over : length f ≤ at = omega (arith, sym (length-drop at f) ∙ ap length e) in
    record { end = p; walks = walk_over n f at p over; held = rw (append-nil mains, append-nil facts) held }
tiles_reached f (main c {f = rest} {mains = ms} {facts = fs} w (inl is) t) n at p mains facts e some steps held o k =
    let s : Stands f at c = record { whole = w; rest = rest; here = e } in
    let z = first_format f c p.format p.words mains ms held.mains_held o is in
    let here : At f at format_id c = record { some = some; named = is; stands = s } in
    step_reached n f at p c s steps (format_at at p) _ _ (meets_format c.id at p is z)
    (rw append_snoc at (tiles_reached f t (pred n) (at + 8 + padded_at f at) (format_at at p) (mains ++ (c ∷ [])) facts (stands_behind f at c s) (omega arith) (omega arith)
    (record { mains_held = more_format f at c p.format p.words mains held.mains_held z here; facts_held = held.facts_held }) (rw append_snoc o) k))
tiles_reached f (main c {f = rest} {mains = ms} {facts = fs} w (inr is) t) n at p mains facts e some steps held o k =
    let s : Stands f at c = record { whole = w; rest = rest; here = e } in
    let z = second_words f c p.format p.words mains ms held.mains_held o is in
    let here : At f at data_id c = record { some = some; named = is; stands = s } in
    step_reached n f at p c s steps (words_at at p) _ _ (meets_words c.id at p is z.0 z.1)
    (rw append_snoc at (tiles_reached f t (pred n) (at + 8 + padded_at f at) (words_at at p) (mains ++ (c ∷ [])) facts (stands_behind f at c s) (omega arith) (omega arith)
    (record { mains_held = more_words f at c p.format p.words mains held.mains_held z.0 z.1 here; facts_held = held.facts_held }) (rw append_snoc o) k))
tiles_reached f (fact c {f = rest} {mains = ms} {facts = fs} w is t) n at p mains facts e some steps held o k =
    let s : Stands f at c = record { whole = w; rest = rest; here = e } in
    let z = only_fact f c p.fact facts fs held.facts_held k in
    let here : At f at fact_id c = record { some = some; named = is; stands = s } in
    step_reached n f at p c s steps (fact_at at p) _ _ (meets_fact c.id at p is z)
    (rw append_snoc at (tiles_reached f t (pred n) (at + 8 + padded_at f at) (fact_at at p) mains (facts ++ (c ∷ [])) (stands_behind f at c s) (omega arith) (omega arith)
    (record { mains_held = held.mains_held; facts_held = more_fact f at c p.fact facts held.facts_held z here }) o (rw append_snoc k)))
tiles_reached f (other c {f = rest} {mains = ms} {facts = fs} w no_format no_words no_fact t) n at p mains facts e some steps held o k =
    let s : Stands f at c = record { whole = w; rest = rest; here = e } in
    step_reached n f at p c s steps p (mains ++ ms) (facts ++ fs) (meets_other c.id at p no_format no_words no_fact)
    (tiles_reached f t (pred n) (at + 8 + padded_at f at) p mains facts (stands_behind f at c s) (omega arith) (omega arith) held o k)
