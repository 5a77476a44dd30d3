-- What the tests of a form say where they hold, and the answers that they lead to. Assumes nothing.
use Rattle.std.specs.Prelude.{Option, Some, None}
use mathlib.Core.Path.{◌≡◌}
use mathlib.Core.Bool.{true, false, ◌&&◌}
use mathlib.Core.List.{List}
use Prim.Native.Nat.{ℕ, ◌+◌, ◌*◌, ◌/◌, ◌%◌, ◌^◌, ◌≤◌, ◌<◌}
use native.Mathlib.Nat.{mul-le-mul}
use native.Mathlib.Omega.{arith}
use lib.Dec.{leb}
use borrow.Author.Tests.{eqb-true, leb-true, eq-eqb, ne_eqb, le-leb, lt-ltb, le-ltb}
use Rattle.walks.proofs.Lists.Every.{both as and_both}
use Rattle.wave.specs.Fields.{four_at}
use Rattle.wave.specs.Reader.{walk_of, good_riff}
use Rattle.wave.specs.declared.chunks.Places.{Places}
use Rattle.wave_forms.specs.Reader.{known_form, good_form, form_at, counted_judged, judged_at, judged_in, file_judged}
use Rattle.wave_forms.specs.Grammar.{Kind}
use Rattle.wave_forms.specs.declared.formats.Form.{Form}
use Rattle.wave_forms.proofs.Widths.{known_is, kind_of, bytes_few}

-- ---- a good form
pub record FormIs (o : Form) : Type 0 where
  pub some : 1 ≤ o.channels
  pub few : o.channels ≤ 0x3fff
  pub kind : Kind o.tag o.bits
  pub block : o.block ≡ o.channels * (o.bits / 8)

pub form_true : (o : Form) → good_form o ≡ true → FormIs o
unfolding good_form
form_true o e =
    let a = and_both (leb 1 o.channels && leb o.channels 0x3fff && known_form o.tag o.bits) _ e in
    let b = and_both (leb 1 o.channels && leb o.channels 0x3fff) _ a.0 in
    let c = and_both (leb 1 o.channels) _ b.0 in
    record { some = leb-true _ _ c.0; few = leb-true _ _ c.1; kind = kind_of _ _ b.1; block = eqb-true _ _ a.1 }

pub form_good : (o : Form) → FormIs o → good_form o ≡ true
unfolding good_form
form_good o i = simp (le-leb _ _ i.some, le-leb _ _ i.few, known_is i.kind, eq-eqb _ _ i.block)

-- it has blocks of some bytes
pub block_some : (o : Form) → FormIs o → (0 < o.block) × (8 ≤ o.bits)
block_some o i =
    let few = bytes_few i.kind in
    let least : 1 * 2 ≤ o.channels * (o.bits / 8) = mul-le-mul i.some few.0 in
    let same = i.block in
    (omega arith, omega arith)

-- ---- answers
module _ (o : Form) (first size : ℕ) where
  pub counted_uneven : (size % o.block ≡ 0 → ⊥) → counted_judged o first size ≡ None
  unfolding counted_judged
  counted_uneven h = simp (ne_eqb _ _ h)

  pub counted_many : size % o.block ≡ 0 → 2 ^ 32 ≤ 50 + 4 * (size / (o.bits / 8)) → counted_judged o first size ≡ None
  unfolding counted_judged
  counted_many h k = simp (eq-eqb _ _ h, le-ltb _ _ k)

  pub counted_is : size % o.block ≡ 0 → 50 + 4 * (size / (o.bits / 8)) < 2 ^ 32
      → counted_judged o first size ≡ Some (record { form = o; samples = size / o.block; count = size / (o.bits / 8); first = first })
  unfolding counted_judged
  counted_is h k = simp (eq-eqb _ _ h, lt-ltb _ _ k)

module _ (f : List ℕ) (p : Places) where
  pub judged_none : p.words ≡ 0 → judged_at f p ≡ None
  unfolding judged_at
  judged_none h = simp (eq-eqb _ _ h)

  pub judged_other : (p.words ≡ 0 → ⊥) → good_form (form_at f p.format) ≡ false → judged_at f p ≡ None
  unfolding judged_at
  judged_other h k = simp (ne_eqb _ _ h, k)

  pub judged_is : (p.words ≡ 0 → ⊥) → good_form (form_at f p.format) ≡ true → judged_at f p ≡ counted_judged (form_at f p.format) (p.words + 8) (four_at f (p.words + 4))
  unfolding judged_at
  judged_is h k = simp (ne_eqb _ _ h, k)

pub judged_riff : (f : List ℕ) (m : Option Places) → good_riff f ≡ true → walk_of f ≡ m → file_judged f ≡ judged_in f m
unfolding file_judged
judged_riff f m h e = rw (h, e)

pub judged_no_riff : (f : List ℕ) → good_riff f ≡ false → file_judged f ≡ None
unfolding file_judged
judged_no_riff f h = rw h
