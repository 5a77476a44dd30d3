-- Version 2 of the listing beside version 1 (document 02, 4/12). An input that doesn't begin with 02 prints what it
-- printed when there was version 1 alone, and where no length is in whole bars both versions print the same:
-- `proofs/Versions: versions` proves the record `Versions` at the end. Definitions only.
use Rattle.std.specs.Prelude.{ℕ, zero, suc, ◌+◌, ◌≡◌, ◌≢◌, Bool, true, false, not, cond, Option, Some, None, ◌&&◌, ◌||◌, List, [], ◌∷◌, ◌++◌, eqb, leb, length, get_or, take, drop, replicate, Float}
use Rattle.std.specs.List.{list_any}
use Rattle.common_types.specs.declared.Params.{Params}
use Rattle.common_types.specs.declared.time_value.TimeValue.TheVariants.{QuarterNotes, Samples, Seconds, Bars}
use Rattle.common_types.specs.declared.time_value.TimeOrRatio.{TimeOrRatio}
use Rattle.common_types.specs.declared.time_value.TimeOrRatio.TheVariants.{Time, Ratio}
use Rattle.decimal.specs.Lines.{line_of, text_of}
use Rattle.listing.specs.Lines.{bad_line}
use Rattle.octets.specs.Octets.{byte_at}
use Rattle.listing.specs.Records.{
  half_at,
  word_at,
  float_at,
  kind_of,
  kind_length,
  header_of,
  loop_mode_of,
  note_off_of,
  transport_of,
  call_of,
  record_of,
}
use Rattle.listing.specs.Steps.{call_played, memory_after, later_by, opened_of, over_with}
use Rattle.listing.specs.Whole.{next_of, printed}
use Rattle.listing.specs.declared.records.Header.{Header}
use Rattle.listing.specs.declared.records.Call.{Call}
use Rattle.listing.specs.declared.records.Call.TheVariants.{Parameters}
use Rattle.listing.specs.declared.records.Call.{Call}
use Rattle.listing.specs.declared.Listing.{Listing}
use Rattle.listing.specs.declared.Step.{Step}

-- ---- what bytes meant when there was version 1 alone: what version 2 changed in `Records.antt`, as it stood before

abbrev pub good_first_header : List ℕ → Bool
good_first_header b = eqb (length b) 3 && eqb (byte_at b 0) 1 && (eqb (byte_at b 1) 1 || eqb (byte_at b 1) 2)
    && leb (byte_at b 2) 1

unfoldable pub first_header_of : List ℕ → Option Header
first_header_of b = cond (good_first_header b)
    (Some (record { second = false; stereo = eqb (byte_at b 1) 2; auto_passthru = eqb (byte_at b 2) 1 }))
    None

abbrev pub good_first_settings : List ℕ → Bool
good_first_settings r = leb (byte_at r 11) 1 && leb (byte_at r 12) 2 && leb (byte_at r 13) 4 && leb (byte_at r 26) 2

unfoldable pub good_first_record : Header → List ℕ → Bool
good_first_record h r =
    eqb (length r) (half_at r 0 + 2) && eqb (half_at r 0) (kind_length h (kind_of r))
    && (not (eqb (kind_of r) 0) || good_first_settings r)

unfoldable pub first_length_of : ℕ → Float → TimeOrRatio
first_length_of kind x =
    get_or (Time (QuarterNotes x) ∷ Time (Samples x) ∷ Time (Seconds x) ∷ Time (Bars x) ∷ []) kind (Ratio x)

unfoldable pub first_params_of : List ℕ → Params
first_params_of r = record {
  attack_samples = word_at r 3;
  decay_samples = word_at r 7;
  transport = transport_of r;
  loop_length = first_length_of (byte_at r 13) (float_at r 14);
  speed = float_at r 18;
  reverse_speed = float_at r 22;
  volume = float_at r 27;
  auto_passthru = eqb (byte_at r 11) 1;
  loop_mode = loop_mode_of (byte_at r 12);
  note_off_behavior = note_off_of (byte_at r 26);
}

-- the calls of kinds 1 to 7 are what they were
unfoldable pub first_record_of : Header → List ℕ → Option Call
first_record_of h r =
    cond (good_first_record h r)
    (Some (cond (eqb (kind_of r) 0) (Parameters (first_params_of r)) (call_of h r)))
    None

-- ---- what is printed, for any meaning of the bytes: `record_step`, `step_memory`, `printed_from` and `printed` with `opens`
-- for what a header means, and `reads` for a record

unfoldable pub step_by : Option Call → Listing → List ℕ → List ℕ → Step
step_by x l r m = cond (eqb (length r) 0) (over_with l (line_of [])) (elim x [
  | Some call ↦
      let played = call_played l.player call m in
      record {
        listing =
            record { header = l.header; player = played.player; offset = later_by (length r) l.offset; on = true };
        line = played.line;
      }
  | None ↦ over_with l (line_of (bad_line l.offset))
])

unfoldable pub memory_by : Option Call → Listing → List ℕ → List ℕ → List ℕ
memory_by x l r m = cond (eqb (length r) 0) m (elim x [
  | Some call ↦ memory_after l.player call m
  | None ↦ m
])

unfoldable pub printed_from_by : (Header → List ℕ → Option Call) → ℕ → Listing → List ℕ → List ℕ → List ℕ
printed_from_by reads zero l m input = []
printed_from_by reads (suc n) l m input =
    let r = next_of input in
    let x = reads l.header r in
    let s = step_by x l r m in
    cond l.on (text_of s.line ++ printed_from_by reads n s.listing (memory_by x l r m) (drop (length r) input)) []

unfoldable pub printed_by : (List ℕ → Option Header) → (Header → List ℕ → Option Call) → List ℕ → List ℕ
printed_by opens reads input =
    let s = opened_of (opens (take 3 input)) 8192 in
    text_of s.line ++ printed_from_by reads (length input + 1) s.listing (replicate 8192 0) (drop 3 input)

-- ---- the records of an input, as they are read: n of them, empty ones after the last
unfoldable pub records_from : ℕ → List ℕ → List (List ℕ)
records_from zero input = []
records_from (suc n) input = next_of input ∷ records_from n (drop (length (next_of input)) input)

abbrev pub records_of : List ℕ → List (List ℕ)
records_of input = records_from (length input + 1) (drop 3 input)

-- parameters with length kind 5
abbrev pub in_whole_bars : List ℕ → Bool
in_whole_bars r = eqb (kind_of r) 0 && eqb (byte_at r 13) 5

-- ---- the statement
pub record Versions : Type 0 where
  -- `printed_by` is `printed` where the bytes mean what they do,
  pub now : (input : List ℕ) → printed input ≡ printed_by header_of record_of input
  -- and what was printed before there was version 2, on every input that doesn't begin with 02.
  pub version_one : (input : List ℕ) → byte_at input 0 ≢ 2 → printed input ≡ printed_by first_header_of first_record_of input
  -- A listing of which no length is in whole bars prints the same under both versions.
  pub same_otherwise : (rest : List ℕ) → list_any in_whole_bars (records_of (1 ∷ rest)) ≡ false
      → printed (2 ∷ rest) ≡ printed (1 ∷ rest)
