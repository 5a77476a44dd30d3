-- A refusal is told by its number, and so is how a call was judged. Assumes nothing.
use Rattle.std.proofs.Common.{◌≡◌, ◌≢◌, ℕ, Bool, true, false, cond, eqb, Result, Ok, Err, is_ok, true≢false, refl, sym, ap, ◌∙◌}
use Rattle.std.proofs.lemmas.Bool.{eqb-false}
use Rattle.refusals.specs.Refusals.{number_of, code_of, row}
use Rattle.refusals.proofs.Codes.{numbered, coded}
use Rattle.refusals.specs.declared.Refusal.{Refusal}
use Rattle.refusals.specs.declared.Refusal.TheVariants.{
  NoChannel,
  BadNote,
  BadPosition,
  BeyondLimits,
  Full,
  ClockEnd,
  BadArgument,
  ShortList,
  Broken,
  BadRun,
  TooManyColumns,
  BadSong,
  OtherFormat,
  LateSong,
  Recording,
  OtherChannels,
  BadWave,
  NoRoom,
  NoPhrase,
  PhraseInUse,
  PhraseRecording,
  BadRate,
}

-- the refusal of a number
refusal_of : ℕ → Refusal
refusal_of n =
    cond (eqb n 1) NoChannel
    (cond (eqb n 2) BadNote
    (cond (eqb n 3) BadPosition
    (cond (eqb n 4) BeyondLimits
    (cond (eqb n 5) Full
    (cond (eqb n 6) ClockEnd
    (cond (eqb n 7) BadArgument
    (cond (eqb n 8) ShortList
    (cond (eqb n 9) Broken
    (cond (eqb n 10) BadRun
    (cond (eqb n 11) TooManyColumns
    (cond (eqb n 12) BadSong
    (cond (eqb n 13) OtherFormat
    (cond (eqb n 14) LateSong
    (cond (eqb n 15) Recording
    (cond (eqb n 16) OtherChannels
    (cond (eqb n 17) BadWave
    (cond (eqb n 18) NoRoom
    (cond (eqb n 19) NoPhrase (cond (eqb n 20) PhraseInUse (cond (eqb n 21) PhraseRecording BadRate))))))))))))))))))))

refusal_back : (r : Refusal) → refusal_of (number_of r) ≡ r
unfolding refusal_of
refusal_back NoChannel = refl
refusal_back r = refl

-- no two refusals have one number
pub number_same : (r s : Refusal) → number_of r ≡ number_of s → r ≡ s
number_same r s h = sym (refusal_back r) ∙ ap refusal_of h ∙ refusal_back s

-- ---- of what is answered by so much
module _ {A : Type 0} where
  pub refused_code : (r : Result A Refusal) → is_ok r ≡ false → code_of r ≢ 0
  refused_code (Ok x) h k = true≢false h
  refused_code (Err e) h k = eqb-false (number_of e) 0 (numbered e) k

  -- a row of the table, by its number, before rows whose number is known
  pub code_row : (test : Bool) (e : Refusal) (rest : Result A Refusal) (n : ℕ) → code_of rest ≡ n → code_of (row test e rest) ≡ cond test (number_of e) n
  code_row test e rest n h = coded test e rest ∙ ap (cond test (number_of e)) h

-- what two numbers say of calls that answer nothing more
pub code_same : (r s : Result (Unit {0}) Refusal) → code_of r ≡ code_of s → r ≡ s
code_same (Ok x) (Ok y) h = refl
code_same (Ok x) (Err e) h = absurd (eqb-false (number_of e) 0 (numbered e) (sym h))
code_same (Err d) (Ok y) h = absurd (eqb-false (number_of d) 0 (numbered d) h)
code_same (Err d) (Err e) h = ap Err (number_same d e h)

pub zero_unit : (r : Result (Unit {0}) Refusal) → code_of r ≡ 0 → r ≡ Ok tt
zero_unit r h = code_same r (Ok tt) h
