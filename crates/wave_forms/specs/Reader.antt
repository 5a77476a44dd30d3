-- What is read of a WAVE file of another form, behind the walk over its chunks that 10/12's reader makes. `Grammar.antt`
-- says the same of a file as a whole. Definitions only.
use Rattle.std.specs.Prelude.{Option, Some, None, Bool, cond, ◌&&◌, ◌||◌, List, ℕ, ◌+◌, ◌*◌, ◌/◌, ◌%◌, ◌^◌, ltb, leb, eqb}
use Rattle.octets.specs.Octets.{bytes_at, little_of}
use Rattle.wave.specs.Fields.{two_at, four_at, listed}
use Rattle.wave.specs.Reader.{missing, walk_of, good_riff}
use Rattle.wave.specs.declared.chunks.Places.{Places}
use Rattle.wave_forms.specs.Values.{number_word}
use Rattle.wave_forms.specs.declared.formats.Form.{Form}
use Rattle.wave_forms.specs.declared.Source.{Source}

-- ---- `fmt `, whose body begins 8 bytes behind its place

-- 16 bytes, or 18 of which the last two say that none follow
unfoldable pub bare_format : List ℕ → ℕ → Bool
bare_format f at = eqb (four_at f (at + 4)) 16 || (eqb (four_at f (at + 4)) 18 && eqb (two_at f (at + 24)) 0)

-- the 14 bytes of a sub-format behind its tag
unfoldable pub sub_format_at : List ℕ → ℕ → Bool
sub_format_at f at =
    eqb (four_at f (at + 34)) 0 && eqb (four_at f (at + 38)) 0x00800010 && eqb (four_at f (at + 42)) 0x3800aa00
    && eqb (two_at f (at + 46)) 0x719b

-- 40 bytes, 22 of which follow: no more valid bits than there are, any speakers, and a sub-format. Fewer valid bits are the
-- upper ones, so that the value is the same
unfoldable pub extensible_at : List ℕ → ℕ → Bool
extensible_at f at =
    eqb (four_at f (at + 4)) 40 && eqb (two_at f (at + 8)) 0xfffe && eqb (two_at f (at + 24)) 22
    && leb (two_at f (at + 26)) (two_at f (at + 22)) && sub_format_at f at

-- 0 where it is neither
unfoldable pub tag_at : List ℕ → ℕ → ℕ
tag_at f at = cond (bare_format f at) (two_at f (at + 8)) (cond (extensible_at f at) (two_at f (at + 32)) 0)

unfoldable pub form_at : List ℕ → ℕ → Form
form_at f at = record {
  tag = tag_at f at;
  channels = two_at f (at + 10);
  rate = four_at f (at + 12);
  block = two_at f (at + 20);
  bits = two_at f (at + 22);
}

-- whole numbers of 16, 24 or 32 bits, floats of 32 or 64
unfoldable pub known_form : ℕ → ℕ → Bool
known_form tag bits =
    (eqb tag 1 && (eqb bits 16 || eqb bits 24 || eqb bits 32)) || (eqb tag 3 && (eqb bits 32 || eqb bits 64))

-- at least a channel, and no more than a block of 10/12's form has room for; blocks of whole numbers, unwrapped
unfoldable pub good_form : Form → Bool
good_form o =
    leb 1 o.channels && leb o.channels 0x3fff && known_form o.tag o.bits
    && eqb o.block (o.channels * (o.bits / 8))

-- ---- so many bytes of data from a place on: whole frames, and no more than 10/12's form has room for
unfoldable pub counted_judged : Form → ℕ → ℕ → Option Source
counted_judged o first size =
    cond (eqb (size % o.block) 0)
    (cond (ltb (50 + 4 * (size / (o.bits / 8))) (2 ^ 32))
    (Some (record { form = o; samples = size / o.block; count = size / (o.bits / 8); first = first })) None)
    None

unfoldable pub judged_at : List ℕ → Places → Option Source
judged_at f p =
    cond (missing p.words) None
    (cond (good_form (form_at f p.format)) (counted_judged (form_at f p.format) (p.words + 8) (four_at f (p.words + 4)))
    None)

abbrev pub judged_in : List ℕ → Option Places → Option Source
judged_in f (Some p) = judged_at f p
judged_in f None = None

unfoldable pub file_judged : List ℕ → Option Source
file_judged f = cond (good_riff f) (judged_in f (walk_of f)) None

-- ---- the numbers, of so many bytes each, one behind the other, and their words
unfoldable pub number_at : List ℕ → ℕ → ℕ → ℕ
number_at f bytes at = little_of (bytes_at bytes f at)

abbrev pub numbers_in : List ℕ → Source → List ℕ
numbers_in f s = listed (λ (k : ℕ). number_at f (s.form.bits / 8) (s.first + s.form.bits / 8 * k)) 0 s.count

abbrev pub words_in : List ℕ → Source → List ℕ
words_in f s =
    listed (λ (k : ℕ). number_word s.form.tag s.form.bits
    (number_at f (s.form.bits / 8) (s.first + s.form.bits / 8 * k))) 0 s.count
