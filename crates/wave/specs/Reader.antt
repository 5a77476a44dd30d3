-- What the reader answers, front to back: it goes from chunk to chunk, keeps where `fmt `, `data` and `fact` stand, and
-- judges them at the end. `Grammar.antt` says the same of a file as a whole. Definitions only.
use Rattle.std.specs.Prelude.{Option, Some, None, Bool, cond, ◌&&◌, ◌||◌, List, ℕ, zero, suc, ◌+◌, ◌*◌, ◌/◌, ◌%◌, ltb, leb, eqb, length}
use Rattle.wave.specs.Fields.{two_at, four_at, riff_id, wave_id, format_id, fact_id, data_id, listed}
use Rattle.wave.specs.declared.chunks.Places.{Places}
use Rattle.wave.specs.declared.Wave.{Wave}
use Rattle.wave.specs.declared.Judged.{Judged}
use Rattle.wave.specs.declared.Judged.TheVariants.{Is, Refused}

-- ---- chunks: an id and a size, four bytes each, so many bytes, and a pad byte behind an odd number of them

-- the body of the chunk at a place with its pad byte
unfoldable pub padded_at : List ℕ → ℕ → ℕ
padded_at f at = four_at f (at + 4) + four_at f (at + 4) % 2

-- 0 is the place of a chunk that wasn't met
abbrev pub nowhere : Places
nowhere = record { format = 0; words = 0; fact = 0 }

abbrev pub missing : ℕ → Bool
missing place = eqb place 0

-- a chunk of this id at a place: one `fmt `, one `data` behind it, at most one `fact`; others are skipped
unfoldable pub met_of : ℕ → ℕ → Places → Option Places
met_of id at p =
    cond (eqb id format_id)
    (cond (missing p.format) (Some (record { format = at; words = p.words; fact = p.fact })) None)
    (cond (eqb id data_id)
    (cond (missing p.format) None
    (cond (missing p.words) (Some (record { format = p.format; words = at; fact = p.fact })) None))
    (cond (eqb id fact_id)
    (cond (missing p.fact) (Some (record { format = p.format; words = p.words; fact = at })) None)
    (Some p)))

abbrev pub and_then : Option Places → (Places → Option Places) → Option Places
and_then (Some p) behind = behind p
and_then None behind = None

-- the chunk at a place, whole, and what is met behind it
unfoldable pub chunk_at : List ℕ → ℕ → Places → (ℕ → Places → Option Places) → Option Places
chunk_at f at p behind =
    cond (leb (length f) at) (Some p)
    (cond (ltb (length f) (at + 8)) None
    (cond (ltb (length f) (at + 8 + padded_at f at)) None
    (and_then (met_of (four_at f at) at p) (behind (at + 8 + padded_at f at)))))

-- in n steps at most
unfoldable pub walk_from : ℕ → List ℕ → ℕ → Places → Option Places
walk_from zero f at p = Some p
walk_from (suc n) f at p = chunk_at f at p (walk_from n f)

-- a chunk has at least eight bytes, so a step for each byte is enough
unfoldable pub walk_of : List ℕ → Option Places
walk_of f = walk_from (length f) f 12 nowhere

-- ---- what they hold

unfoldable pub good_riff : List ℕ → Bool
good_riff f =
    leb 12 (length f) && (eqb (four_at f 0) riff_id
    && (eqb (8 + four_at f 4) (length f) && eqb (four_at f 8) wave_id))

abbrev pub channels_at : List ℕ → ℕ → ℕ
channels_at f at = two_at f (at + 10)

-- `fmt ` of 18 bytes, tag 3, at least a channel, blocks of 4 bytes a channel, 32 bits a sample, nothing that follows.
-- Bytes a second aren't judged: they are a rate and no size
unfoldable pub good_format : List ℕ → ℕ → Bool
good_format f at =
    eqb (four_at f (at + 4)) 18 && (eqb (two_at f (at + 8)) 3 && (leb 1 (channels_at f at)
    && (eqb (two_at f (at + 20)) (4 * channels_at f at) && (eqb (two_at f (at + 22)) 32 && eqb (two_at f (at + 24)) 0))))

-- `fact` may be missing
unfoldable pub good_fact : List ℕ → ℕ → ℕ → Bool
good_fact f at samples = missing at || (eqb (four_at f (at + 4)) 4 && eqb (four_at f (at + 8)) samples)

-- whole frames of data, and as many as `fact` says
unfoldable pub counted_judged : List ℕ → Places → ℕ → ℕ → Judged
counted_judged f p block size =
    cond (eqb (size % block) 0)
    (cond (good_fact f p.fact (size / block))
    (Is (record {
      rate = four_at f (p.format + 12);
      channels = channels_at f p.format;
      samples = size / block;
      first = p.words + 8;
    })) Refused)
    Refused

-- data are met only behind a format
unfoldable pub judged_at : List ℕ → Places → Judged
judged_at f p =
    cond (missing p.words) Refused
    (cond (good_format f p.format) (counted_judged f p (4 * channels_at f p.format) (four_at f (p.words + 4))) Refused)

abbrev pub judged_in : List ℕ → Option Places → Judged
judged_in f (Some p) = judged_at f p
judged_in f None = Refused

unfoldable pub file_judged : List ℕ → Judged
file_judged f = cond (good_riff f) (judged_in f (walk_of f)) Refused

-- the number of the answer
unfoldable pub judged_number : Judged → ℕ
judged_number (Is w) = 0
judged_number Refused = 17

-- ---- the rate, the number of channels and the words of all channels, frame by frame
pub data Reading : Type 0 where
  is : ℕ → ℕ → List ℕ → Reading
  refused : Reading

abbrev pub words_in : List ℕ → Wave → List ℕ
words_in f w = listed (λ (k : ℕ). four_at f (w.first + 4 * k)) 0 (w.channels * w.samples)

abbrev pub read_in : List ℕ → Judged → Reading
read_in f (Is w) = Reading.is w.rate w.channels (words_in f w)
read_in f Refused = Reading.refused

unfoldable pub read_of : List ℕ → Reading
read_of f = read_in f (file_judged f)
