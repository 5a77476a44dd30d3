-- The body of `fmt `, in both directions: what is read of it stands there, and what stands there is read. Assumes nothing.
use mathlib.Core.Path.{◌≡◌, refl, ap, ◌∙◌}
use mathlib.Core.Bool.{Bool, true, false, ◌&&◌, ◌||◌}
use mathlib.Core.List.{List, [], ◌++◌, append_assoc}
use Prim.Native.Nat.{ℕ, ◌+◌, ◌^◌, ◌≤◌, ◌<◌}
use native.Mathlib.Omega.{arith}
use lib.Dec.{eqb, leb}
use lib.ListN.{length, drop, length-append}
use borrow.Author.Tests.{eqb-true, leb-true, le-leb}
use Rattle.walks.proofs.Lists.Every.{both as and_both}
use Rattle.octets.specs.Octets.{Bytes, little_bytes}
use Rattle.octets.proofs.Orders.{length_little}
use Rattle.wave.specs.Fields.{two_at, four_at}
use Rattle.wave.proofs.Standing.{two_stands, four_stands, four_below}
use Rattle.wave.proofs.Frames.{two_to, four_to, two_from, four_from}
use Rattle.wave.proofs.Answers.{seven}
use Rattle.wave_forms.specs.Reader.{bare_format, sub_format_at, extensible_at, tag_at}
use Rattle.wave_forms.specs.Grammar.{sub_format, Tail, body_of}
use Rattle.wave_forms.specs.Grammar.Tail.{plain, empty, extensible}

four : (a b c d rest : List ℕ) {x y z u : List ℕ} → x ≡ a ++ y → y ≡ b ++ z → z ≡ c ++ u → u ≡ d ++ rest → x ≡ a ++ b ++ c ++ d ++ rest
four a b c d rest p q r s = simp append_assoc (cc)

five : (a b c d e rest : List ℕ) {x y z u v : List ℕ} → x ≡ a ++ y → y ≡ b ++ z → z ≡ c ++ u → u ≡ d ++ v → v ≡ e ++ rest → x ≡ a ++ b ++ c ++ d ++ e ++ rest
five a b c d e rest p q r s t = simp append_assoc (cc)

-- the 14 bytes behind a sub-format's tag, as the reader reads them
sub_format_is : (tag : ℕ) → sub_format tag ≡ little_bytes 2 tag ++ little_bytes 4 0 ++ little_bytes 4 0x00800010 ++ little_bytes 4 0x3800aa00 ++ little_bytes 2 0x719b
unfolding sub_format little_bytes
sub_format_is tag = refl

pub length_body : (field channels rate byte_rate block bits : ℕ) (tail : List ℕ) → length (body_of field channels rate byte_rate block bits tail) ≡ 16 + length tail
unfolding body_of
length_body field channels rate byte_rate block bits tail = simp (length-append, length_little) (omega arith)

length_extensible : (tag valid mask : ℕ) → length (little_bytes 2 22 ++ little_bytes 2 valid ++ little_bytes 4 mask ++ sub_format tag) ≡ 24
unfolding sub_format little_bytes
length_extensible tag valid mask = refl

-- ---- which tests held
record SubFormatIs (f : List ℕ) (at : ℕ) : Type 0 where
  a : four_at f (at + 34) ≡ 0
  b : four_at f (at + 38) ≡ 0x00800010
  c : four_at f (at + 42) ≡ 0x3800aa00
  d : two_at f (at + 46) ≡ 0x719b

sub_format_true : (f : List ℕ) (at : ℕ) → sub_format_at f at ≡ true → SubFormatIs f at
unfolding sub_format_at
sub_format_true f at e =
    let x = and_both (eqb (four_at f (at + 34)) 0 && eqb (four_at f (at + 38)) 0x00800010 && eqb (four_at f (at + 42)) 0x3800aa00) _ e in
    let y = and_both (eqb (four_at f (at + 34)) 0 && eqb (four_at f (at + 38)) 0x00800010) _ x.0 in
    let z = and_both (eqb (four_at f (at + 34)) 0) _ y.0 in
    record { a = eqb-true _ _ z.0; b = eqb-true _ _ z.1; c = eqb-true _ _ y.1; d = eqb-true _ _ x.1 }

record ExtensibleIs (f : List ℕ) (at : ℕ) : Type 0 where
  size : four_at f (at + 4) ≡ 40
  field : two_at f (at + 8) ≡ 0xfffe
  extra : two_at f (at + 24) ≡ 22
  valid : two_at f (at + 26) ≤ two_at f (at + 22)
  sub : SubFormatIs f at

extensible_true : (f : List ℕ) (at : ℕ) → extensible_at f at ≡ true → ExtensibleIs f at
unfolding extensible_at
extensible_true f at e =
    let x = and_both (eqb (four_at f (at + 4)) 40 && eqb (two_at f (at + 8)) 0xfffe && eqb (two_at f (at + 24)) 22 && leb (two_at f (at + 26)) (two_at f (at + 22))) _ e in
    let y = and_both (eqb (four_at f (at + 4)) 40 && eqb (two_at f (at + 8)) 0xfffe && eqb (two_at f (at + 24)) 22) _ x.0 in
    let z = and_both (eqb (four_at f (at + 4)) 40 && eqb (two_at f (at + 8)) 0xfffe) _ y.0 in
    let w = and_both (eqb (four_at f (at + 4)) 40) _ z.0 in
    record { size = eqb-true _ _ w.0; field = eqb-true _ _ w.1; extra = eqb-true _ _ z.1; valid = leb-true _ _ y.1; sub = sub_format_true f at x.1 }

-- ---- what is read stands there
pub record Shaped (f : List ℕ) (at tag : ℕ) : Type 0 where
  pub tail : List ℕ
  pub tailed : Tail tag (two_at f (at + 22)) (two_at f (at + 8)) tail
  pub size : four_at f (at + 4) ≡ 16 + length tail
  pub rest : List ℕ
  pub here : drop (at + 24) f ≡ tail ++ rest

module _ (f : List ℕ) (bytes : Bytes f) (at : ℕ) (long : at + 8 + four_at f (at + 4) ≤ length f) where
  sub_format_splits : at + 48 ≤ length f → SubFormatIs f at → drop (at + 32) f ≡ sub_format (two_at f (at + 32)) ++ drop (at + 48) f
  sub_format_splits h i =
      rw (sub_format_is (two_at f (at + 32)))
      (five (little_bytes 2 (two_at f (at + 32))) (little_bytes 4 0) (little_bytes 4 0x00800010) (little_bytes 4 0x3800aa00) (little_bytes 2 0x719b) (drop (at + 48) f)
      (two_to f bytes (at + 32) (at + 34) (omega arith) (omega arith))
      (rw i.a at (four_to f bytes (at + 34) (at + 38) (omega arith) (omega arith)))
      (rw i.b at (four_to f bytes (at + 38) (at + 42) (omega arith) (omega arith)))
      (rw i.c at (four_to f bytes (at + 42) (at + 46) (omega arith) (omega arith)))
      (rw i.d at (two_to f bytes (at + 46) (at + 48) (omega arith) (omega arith))))

  extensible_shaped : ExtensibleIs f at → Shaped f at (two_at f (at + 32))
  unfolding sub_format little_bytes
  extensible_shaped i =
      let size = i.size in
      record {
        tail = little_bytes 2 22 ++ little_bytes 2 (two_at f (at + 26)) ++ little_bytes 4 (four_at f (at + 28)) ++ sub_format (two_at f (at + 32));
        tailed = rw i.field (extensible (two_at f (at + 26)) (four_at f (at + 28)) i.valid (four_below f (at + 28) bytes));
        size = i.size;
        rest = drop (at + 48) f;
        here = extensible_splits i (omega arith);
      }
    where
      extensible_splits : ExtensibleIs f at → at + 48 ≤ length f
          → drop (at + 24) f ≡ little_bytes 2 22 ++ little_bytes 2 (two_at f (at + 26)) ++ little_bytes 4 (four_at f (at + 28)) ++ sub_format (two_at f (at + 32)) ++ drop (at + 48) f
      extensible_splits i h =
          four (little_bytes 2 22) (little_bytes 2 (two_at f (at + 26))) (little_bytes 4 (four_at f (at + 28))) (sub_format (two_at f (at + 32))) (drop (at + 48) f)
          (rw i.extra at (two_to f bytes (at + 24) (at + 26) (omega arith) (omega arith)))
          (two_to f bytes (at + 26) (at + 28) (omega arith) (omega arith))
          (four_to f bytes (at + 28) (at + 32) (omega arith) (omega arith))
          (sub_format_splits h i.sub)

  plain_shaped : bare_format f at ≡ true → Shaped f at (two_at f (at + 8))
  unfolding bare_format little_bytes
  plain_shaped = go (eqb (four_at f (at + 4)) 16) refl
    where
      go : (b : Bool) → eqb (four_at f (at + 4)) 16 ≡ b → (b || (eqb (four_at f (at + 4)) 18 && eqb (two_at f (at + 24)) 0)) ≡ true → Shaped f at (two_at f (at + 8))
      go true h e = record { tail = []; tailed = plain; size = eqb-true _ _ h; rest = drop (at + 24) f; here = refl }
      go false h e =
          let x = and_both (eqb (four_at f (at + 4)) 18) _ e in
          let size = eqb-true _ _ x.0 in
          record {
            tail = little_bytes 2 0;
            tailed = empty;
            size = size;
            rest = drop (at + 26) f;
            here = rw (eqb-true (two_at f (at + 24)) 0 x.1) at (two_to f bytes (at + 24) (at + 26) (omega arith) (omega arith));
          }

  -- a tag that isn't 0 was read from one of the three shapes
  pub shaped : (tag_at f at ≡ 0 → ⊥) → Shaped f at (tag_at f at)
  unfolding tag_at
  shaped some = go (bare_format f at) (extensible_at f at) refl refl
    where
      go : (b d : Bool) → bare_format f at ≡ b → extensible_at f at ≡ d → Shaped f at (tag_at f at)
      go true d h k = rw h (plain_shaped h)
      go false true h k = rw (h, k) (extensible_shaped (extensible_true f at k))
      go false false h k = absurd (some (rw (h, k)))

  pub body_splits : (s : Shaped f at (tag_at f at))
      → drop (at + 8) f ≡ body_of (two_at f (at + 8)) (two_at f (at + 10)) (four_at f (at + 12)) (four_at f (at + 16)) (two_at f (at + 20)) (two_at f (at + 22)) s.tail ++ s.rest
  unfolding body_of
  body_splits s =
      let size = s.size in
      seven (little_bytes 2 (two_at f (at + 8))) (little_bytes 2 (two_at f (at + 10))) (little_bytes 4 (four_at f (at + 12))) (little_bytes 4 (four_at f (at + 16)))
      (little_bytes 2 (two_at f (at + 20))) (little_bytes 2 (two_at f (at + 22))) s.tail s.rest
      (two_to f bytes (at + 8) (at + 10) (omega arith) (omega arith))
      (two_to f bytes (at + 10) (at + 12) (omega arith) (omega arith))
      (four_to f bytes (at + 12) (at + 16) (omega arith) (omega arith))
      (four_to f bytes (at + 16) (at + 20) (omega arith) (omega arith))
      (two_to f bytes (at + 20) (at + 22) (omega arith) (omega arith))
      (two_to f bytes (at + 22) (at + 24) (omega arith) (omega arith))
      s.here

-- ---- what stands there is read
pub record Fields (f : List ℕ) (at field channels rate block bits : ℕ) (tail rest : List ℕ) : Type 0 where
  pub field_is : two_at f (at + 8) ≡ field
  pub channels_is : two_at f (at + 10) ≡ channels
  pub rate_is : four_at f (at + 12) ≡ rate
  pub block_is : two_at f (at + 20) ≡ block
  pub bits_is : two_at f (at + 22) ≡ bits
  pub behind : drop (at + 24) f ≡ tail ++ rest

module _ (f : List ℕ) (at : ℕ) where
  pub body_fields : (field channels rate byte_rate block bits : ℕ) (tail rest : List ℕ) → field < 2 ^ 16 → channels < 2 ^ 16 → rate < 2 ^ 32 → block < 2 ^ 16 → bits < 2 ^ 16
      → drop (at + 8) f ≡ body_of field channels rate byte_rate block bits tail ++ rest → Fields f at field channels rate block bits tail rest
  unfolding body_of
  body_fields field channels rate byte_rate block bits tail rest hf hc hr hb hs h =
      let e0 = simp append_assoc at h in
      let e1 = two_from f field (at + 8) (at + 10) _ (omega arith) e0 in
      let e2 = two_from f channels (at + 10) (at + 12) _ (omega arith) e1 in
      let e3 = four_from f rate (at + 12) (at + 16) _ (omega arith) e2 in
      let e4 = four_from f byte_rate (at + 16) (at + 20) _ (omega arith) e3 in
      let e5 = two_from f block (at + 20) (at + 22) _ (omega arith) e4 in
      record {
        field_is = two_stands field f (at + 8) _ hf e0;
        channels_is = two_stands channels f (at + 10) _ hc e1;
        rate_is = four_stands rate f (at + 12) _ hr e2;
        block_is = two_stands block f (at + 20) _ hb e4;
        bits_is = two_stands bits f (at + 22) _ hs e5;
        behind = two_from f bits (at + 22) (at + 24) _ (omega arith) e5;
      }

  sub_format_good : (tag : ℕ) (rest : List ℕ) → tag < 2 ^ 16 → drop (at + 32) f ≡ sub_format tag ++ rest → (two_at f (at + 32) ≡ tag) × (sub_format_at f at ≡ true)
  unfolding sub_format_at
  sub_format_good tag rest small h =
      let e0 = simp (sub_format_is tag, append_assoc) at h in
      let e1 = two_from f tag (at + 32) (at + 34) _ (omega arith) e0 in
      let e2 = four_from f 0 (at + 34) (at + 38) _ (omega arith) e1 in
      let e3 = four_from f 0x00800010 (at + 38) (at + 42) _ (omega arith) e2 in
      let e4 = four_from f 0x3800aa00 (at + 42) (at + 46) _ (omega arith) e3 in (
        two_stands tag f (at + 32) _ small e0,
        simp (
          four_stands 0 f (at + 34) _ (omega arith) e1,
          four_stands 0x00800010 f (at + 38) _ (omega arith) e2,
          four_stands 0x3800aa00 f (at + 42) _ (omega arith) e3,
          two_stands 0x719b f (at + 46) _ (omega arith) e4,
        ),
      )

  pub tail_tag : {tag bits field : ℕ} {tail : List ℕ} (rest : List ℕ) → Tail tag bits field tail → tag < 2 ^ 16 → bits < 2 ^ 16 → two_at f (at + 8) ≡ field → two_at f (at + 22) ≡ bits
      → four_at f (at + 4) ≡ 16 + length tail → drop (at + 24) f ≡ tail ++ rest → tag_at f at ≡ tag
  unfolding tag_at bare_format extensible_at
  tail_tag rest plain hs hb is same size h = simp (size, is)
  tail_tag rest empty hs hb is same size h =
      let long : four_at f (at + 4) ≡ 18 = size ∙ ap (λ (n : ℕ). 16 + n) (length_little 2 0) in
      simp (long, two_stands 0 f (at + 24) rest (omega arith) h, is)
  tail_tag {tag} {bits} rest (extensible valid mask few small) hs hb is same size h =
      let e0 = simp append_assoc at h in
      let e1 = two_from f 22 (at + 24) (at + 26) _ (omega arith) e0 in
      let e2 = two_from f valid (at + 26) (at + 28) _ (omega arith) e1 in
      let e3 = four_from f mask (at + 28) (at + 32) _ (omega arith) e2 in
      let sub = sub_format_good tag rest hs e3 in
      let valid-is : two_at f (at + 26) ≡ valid = two_stands valid f (at + 26) _ (omega arith) e1 in
      let long : four_at f (at + 4) ≡ 40 = size ∙ ap (λ (n : ℕ). 16 + n) (length_extensible tag valid mask) in
      simp (long, is, two_stands 22 f (at + 24) _ (omega arith) e0, valid-is, same, le-leb valid bits few, sub.1, sub.0)
