-- A whole listing: what is printed on all the bytes of an input, read as the program reads them. Definitions only.
use Rattle.std.specs.Prelude.{ℕ, zero, suc, ◌+◌, cond, List, [], ◌++◌, length, take, drop, replicate}
use Rattle.decimal.specs.Lines.{text_of}
use Rattle.listing.specs.Records.{to_read}
use Rattle.listing.specs.Steps.{open_of, record_step, step_memory}
use Rattle.listing.specs.declared.Listing.{Listing}

-- the next record: two bytes of length, and what belongs to it, or as many bytes as there are
abbrev pub next_of : List ℕ → List ℕ
next_of input = take (2 + to_read (take 2 input)) input

-- what is printed from here on, in n steps at most
unfoldable pub printed_from : ℕ → Listing → List ℕ → List ℕ → List ℕ
printed_from zero l m input = []
printed_from (suc n) l m input =
    let r = next_of input in
    let s = record_step l r m in
    cond l.on (text_of s.line ++ printed_from n s.listing (step_memory l r m) (drop (length r) input)) []

-- with 8,192 samples of memory; each record has at least a byte, and the end is one step more
unfoldable pub printed : List ℕ → List ℕ
printed input =
    let s = open_of (take 3 input) 8192 in
    text_of s.line ++ printed_from (length input + 1) s.listing (replicate 8192 0) (drop 3 input)
