-- The numbers of document 01's table, and of the requests of document 02 that add to it. Definitions only.
use Rattle.std.specs.Prelude.{ℕ, Bool, cond, Result, Ok, Err}
use Rattle.refusals.specs.declared.Refusal.{Refusal}
use Rattle.refusals.specs.declared.Refusal.TheVariants.{
  NoChannel,
  BadNote,
  BadPosition,
  BeyondLimits,
  Full,
  ClockEnd,
  BadArgument,
  ShortList,
  Broken,
  BadRun,
  TooManyColumns,
  BadSong,
  OtherFormat,
  LateSong,
  Recording,
  OtherChannels,
  BadWave,
  NoRoom,
  NoPhrase,
  PhraseInUse,
  PhraseRecording,
  BadRate,
}

abbrev pub number_of : Refusal → ℕ
number_of NoChannel = 1
number_of BadNote = 2
number_of BadPosition = 3
number_of BeyondLimits = 4
number_of Full = 5
number_of ClockEnd = 6
number_of BadArgument = 7
number_of ShortList = 8
number_of Broken = 9
number_of BadRun = 10
number_of TooManyColumns = 11
number_of BadSong = 12
number_of OtherFormat = 13
number_of LateSong = 14
number_of Recording = 15
number_of OtherChannels = 16
number_of BadWave = 17
number_of NoRoom = 18
number_of NoPhrase = 19
number_of PhraseInUse = 20
number_of PhraseRecording = 21
number_of BadRate = 22

-- what a call answers to a host: 0 where it is done
abbrev pub code_of : {A : Type 0} → Result A Refusal → ℕ
code_of (Ok done) = 0
code_of (Err refusal) = number_of refusal

-- a row of the table: its refusal where its test holds, else what the rows after it say
abbrev pub row : {A : Type 0} → Bool → Refusal → Result A Refusal → Result A Refusal
row test refusal rest = cond test (Err refusal) rest
