-- The chunks of a file of any form, in both directions: where a good walk has met `fmt ` and `data` the file is made of chunks, and over such a file the walk is good. Assumes nothing.
use Rattle.std.specs.Prelude.{Some}
use mathlib.Core.Path.{◌≡◌, refl, sym, ap, ◌∙◌}
use mathlib.Core.Bool.{true}
use mathlib.Core.List.{List, [], ◌∷◌, ◌++◌, append_assoc}
use Prim.Native.Nat.{ℕ, ◌+◌, ◌≤◌}
use native.Mathlib.Omega.{arith}
use lib.ListN.{length, take, drop, length-append, length-drop}
use lib.Seq.{take_at}
use borrow.Author.Tests.{eq-eqb, le-leb}
use Rattle.octets.specs.Octets.{Bytes, little_bytes}
use Rattle.octets.proofs.Orders.{length_little}
use Rattle.wave.specs.Fields.{two_at, four_at, riff_id, wave_id, format_id, data_id}
use Rattle.wave.specs.Reader.{nowhere, walk_of, good_riff}
use Rattle.wave.specs.Grammar.{Chunk, Chunks, InChunks}
use Rattle.wave.specs.declared.chunks.Places.{Places}
use Rattle.wave.proofs.Judgements.{RiffIs, riff_true}
use Rattle.wave.proofs.Standing.{four_stands, behind_two, behind_four, two_splits, four_splits, four_below}
use Rattle.wave.proofs.Tiles.{Stands, stands_size, stands_body}
use Rattle.wave.proofs.Held.{At, Mains, Facts, Held, walk_tiled, tiles_reached}

-- ---- fields one behind the other, each at its place
module _ (f : List ℕ) (bytes : Bytes f) where
  pub two_to : (at next : ℕ) → at + 2 ≡ next → next ≤ length f → drop at f ≡ little_bytes 2 (two_at f at) ++ drop next f
  two_to at next e h = rw (← e) (two_splits f at bytes (omega arith))

  pub four_to : (at next : ℕ) → at + 4 ≡ next → next ≤ length f → drop at f ≡ little_bytes 4 (four_at f at) ++ drop next f
  four_to at next e h = rw (← e) (four_splits f at bytes (omega arith))

module _ (f : List ℕ) where
  pub two_from : (x at next : ℕ) (rest : List ℕ) → at + 2 ≡ next → drop at f ≡ little_bytes 2 x ++ rest → drop next f ≡ rest
  two_from x at next rest e h = rw (← e) (behind_two x f at rest h)

  pub four_from : (x at next : ℕ) (rest : List ℕ) → at + 4 ≡ next → drop at f ≡ little_bytes 4 x ++ rest → drop next f ≡ rest
  four_from x at next rest e h = rw (← e) (behind_four x f at rest h)

  -- the body of a chunk is the bytes behind its size
  pub body_is : (a n : ℕ) (c : Chunk) (bs rest : List ℕ) → Stands f a c → four_at f (a + 4) ≡ n → length bs ≡ n → drop (a + 8) f ≡ bs ++ rest → c.body ≡ bs
  body_is a n c bs rest s e h k =
      let long : length c.body ≡ n = sym (stands_size f a c s) ∙ e in
      sym (take_at c.body _ n long) ∙ ap (take n) (sym (stands_body f a c s) ∙ k) ∙ take_at bs rest n h

three : (a b c rest : List ℕ) {x y z : List ℕ} → x ≡ a ++ y → y ≡ b ++ z → z ≡ c ++ rest → x ≡ a ++ b ++ c ++ rest
three a b c rest p q r = simp append_assoc (cc)

-- ---- a good walk's file is made of chunks
pub record Found (f : List ℕ) (p : Places) : Type 0 where
  pub format : Chunk
  pub sound : Chunk
  pub facts : List Chunk
  pub framed : InChunks f format sound facts
  pub format_at : At f p.format format_id format
  pub sound_at : At f p.words data_id sound
  pub facts_at : Facts f p.fact facts

module _ (f : List ℕ) (bytes : Bytes f) where
  riff_splits : RiffIs f → f ≡ little_bytes 4 riff_id ++ little_bytes 4 (4 + length (drop 12 f)) ++ little_bytes 4 wave_id ++ drop 12 f
  riff_splits r =
      let size : four_at f 4 ≡ 4 + length (drop 12 f) = omega (arith, length-drop 12 f, r.size, r.long) in
      let long = r.long in
      three (little_bytes 4 riff_id) (little_bytes 4 (4 + length (drop 12 f))) (little_bytes 4 wave_id) (drop 12 f)
      (rw r.riff at (four_to f bytes 0 4 refl (omega arith)))
      (rw size at (four_to f bytes 4 8 refl (omega arith)))
      (rw r.wave at (four_to f bytes 8 12 refl (omega arith)))

  few_facts : (a : ℕ) (cs : List Chunk) → Facts f a cs → length cs ≤ 1
  few_facts a [] k = omega arith
  few_facts a (c ∷ []) k = omega arith
  few_facts a (c ∷ d ∷ cs) k = absurd k

  module _ (p : Places) (r : good_riff f ≡ true) (some : p.words ≡ 0 → ⊥) where
    found_in : (mains facts : List Chunk) → Chunks (drop 12 f) mains facts → Mains f p.format p.words mains → Facts f p.fact facts → Found f p
    found_in [] facts t m k = absurd (some m.1)
    found_in (c ∷ []) facts t m k = absurd (some m.1)
    found_in (c ∷ d ∷ []) facts t m k =
        let riff = riff_true f r in
        record {
          format = c;
          sound = d;
          facts = facts;
          framed = record {
            chunks = drop 12 f;
            riff = riff_splits riff;
            riff_size = omega (arith, length-drop 12 f, riff.size, riff.long, four_below f 4 bytes);
            tiled = t;
            format_first = m.0.named;
            sound_second = m.1.named;
            one_fact = few_facts p.fact facts k;
          };
          format_at = m.0;
          sound_at = m.1;
          facts_at = k;
        }
    found_in (c ∷ d ∷ e ∷ mains) facts t m k = absurd m

    pub found : walk_of f ≡ Some p → Found f p
    unfolding walk_of
    found e =
        let t = walk_tiled (length f) f 12 nowhere p [] [] bytes (omega arith) (omega arith) (record { mains_held = (refl, refl); facts_held = refl }) e in
        found_in t.more_mains t.more_facts t.tiles t.held.mains_held t.held.facts_held

-- ---- and over such a file the walk is good
pub record Walked (f : List ℕ) (format sound : Chunk) (facts : List Chunk) : Type 0 where
  pub places : Places
  pub riff : good_riff f ≡ true
  pub met : walk_of f ≡ Some places
  pub held : Held f places (format ∷ sound ∷ []) facts

riff_good : (f : List ℕ) → RiffIs f → good_riff f ≡ true
unfolding good_riff
riff_good f r = simp (le-leb _ _ r.long, eq-eqb _ _ r.riff, eq-eqb _ _ r.size, eq-eqb _ _ r.wave)

module _ (f : List ℕ) (format sound : Chunk) (facts : List Chunk) (g : InChunks f format sound facts) where
  riff_fields : RiffIs f × (drop 12 f ≡ g.chunks)
  riff_fields =
      let e0 : drop 0 f ≡ little_bytes 4 riff_id ++ (little_bytes 4 (4 + length g.chunks) ++ (little_bytes 4 wave_id ++ g.chunks)) = simp append_assoc at g.riff in
      let e1 = four_from f riff_id 0 4 _ refl e0 in
      let e2 = four_from f (4 + length g.chunks) 4 8 _ refl e1 in
      let all : length f ≡ 12 + length g.chunks = ap length g.riff ∙ simp (length-append, length_little) in (
        record {
          long = omega arith;
          riff = four_stands riff_id f 0 _ (omega arith) e0;
          size = omega (arith, four_stands (4 + length g.chunks) f 4 _ g.riff_size e1);
          wave = four_stands wave_id f 8 _ (omega arith) e2;
        },
        four_from f wave_id 8 12 _ refl e2,
      )

  pub walked : Walked f format sound facts
  unfolding walk_of
  walked =
      let r = tiles_reached f g.tiled (length f) 12 nowhere [] [] riff_fields.1 (omega arith) (omega arith)
      (record { mains_held = (refl, refl); facts_held = refl }) (g.format_first, g.sound_second) g.one_fact in
      record { places = r.end; riff = riff_good f riff_fields.0; met = r.walks; held = r.held }
