-- What the number of a call says: 0 is that it isn't refused, and a row that doesn't hold leaves it to the rest. Assumes
-- nothing.
use Rattle.std.proofs.Common.{◌≡◌, ℕ, refl, sym, ap, ◌∙◌, Bool, true, false, T, eqb, cond, true≢false, Result, Ok, Err}
use Rattle.std.specs.Prelude.{is_ok}
use Rattle.refusals.specs.declared.Refusal.{Refusal}
use Rattle.refusals.specs.declared.Refusal.TheVariants.{
  NoChannel,
  BadNote,
  BadPosition,
  BeyondLimits,
  Full,
  ClockEnd,
  BadArgument,
  ShortList,
  Broken,
  BadRun,
  TooManyColumns,
  BadSong,
  OtherFormat,
  LateSong,
  Recording,
  OtherChannels,
  BadWave,
  NoRoom,
  NoPhrase,
  PhraseInUse,
  PhraseRecording,
  BadRate,
}
use Rattle.refusals.specs.Refusals.{number_of, code_of, row}

-- no refusal has the number 0
pub numbered : (f : Refusal) → eqb (number_of f) 0 ≡ false
numbered NoChannel = refl
numbered BadNote = refl
numbered BadPosition = refl
numbered BeyondLimits = refl
numbered Full = refl
numbered ClockEnd = refl
numbered BadArgument = refl
numbered ShortList = refl
numbered Broken = refl
numbered BadRun = refl
numbered TooManyColumns = refl
numbered BadSong = refl
numbered OtherFormat = refl
numbered LateSong = refl
numbered Recording = refl
numbered OtherChannels = refl
numbered BadWave = refl
numbered NoRoom = refl
numbered NoPhrase = refl
numbered PhraseInUse = refl
numbered PhraseRecording = refl
numbered BadRate = refl

module _ {A : Type 0} where
  -- a call is done exactly where its number is 0
  pub done_is : (r : Result A Refusal) → is_ok r ≡ eqb (code_of r) 0
  done_is (Ok a) = refl
  done_is (Err f) = sym (numbered f)

  pub done_at : (r : Result A Refusal) → code_of r ≡ 0 → is_ok r ≡ true
  done_at r h = done_is r ∙ ap (λ (n : ℕ). eqb n 0) h

  pub zero_at : (r : Result A Refusal) → is_ok r ≡ true → code_of r ≡ 0
  zero_at (Ok a) h = refl
  zero_at (Err f) h = absurd (true≢false (sym h))

  pub zero_when : (r : Result A Refusal) → T (is_ok r) → code_of r ≡ 0
  zero_when (Ok a) h = refl
  zero_when (Err f) h = absurd h

  pub refused_at : (r : Result A Refusal) → (code_of r ≡ 0 → ⊥) → is_ok r ≡ false
  refused_at (Ok a) h = absurd (h refl)
  refused_at (Err f) h = refl

  pub refused_by : (r : Result A Refusal) → is_ok r ≡ false → code_of r ≡ 0 → ⊥
  refused_by (Ok a) h e = true≢false h
  refused_by (Err f) h e = true≢false (sym (ap (λ (n : ℕ). eqb n 0) e) ∙ numbered f)

  -- what `is_ok` answered of a result tells of what that is
  pub told : {r s : Result A Refusal} {b v : Bool} → r ≡ s → b ≡ is_ok r → b ≡ v → is_ok s ≡ v
  told e f h = sym (ap is_ok e) ∙ sym f ∙ h

  -- a row that doesn't hold leaves it to the rest
  pub passed : (test : Bool) (f : Refusal) (rest : Result A Refusal) → code_of (row test f rest) ≡ 0 → (test ≡ false) × (code_of rest ≡ 0)
  passed true f rest h = absurd (refused_by (Err f) refl h)
  passed false f rest h = (refl, h)

  pub open_row : (test : Bool) (f : Refusal) (rest : Result A Refusal) (a : A) → Ok a ≡ row test f rest → test ≡ false
  open_row true f rest a h = absurd (true≢false (ap is_ok h))
  open_row false f rest a h = refl

  -- and its refusal has its number
  pub coded : (test : Bool) (f : Refusal) (rest : Result A Refusal) → code_of (row test f rest) ≡ cond test (number_of f) (code_of rest)
  coded true f rest = refl
  coded false f rest = refl

-- of a call that answers no value
pub done_unit : (r : Result (Unit {0}) Refusal) → code_of r ≡ 0 → r ≡ Ok tt
done_unit (Ok tt) h = refl
done_unit (Err f) h = absurd (refused_by {A = Unit {0}} (Err f) refl h)
