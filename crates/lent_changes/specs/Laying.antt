-- What a gather leaves of a channel beside its voices. Definitions only. Assumes nothing.
use Rattle.std.specs.Prelude.{Bool, cond, List, get_or}
use Rattle.phrases.specs.declared.Phrase.{Phrase}
use Rattle.phrases.specs.Phrases.{no_phrase, others_of}
use Rattle.channel.specs.declared.Head.{Head}
use Rattle.channel.specs.Heads.{starting_at}
use Rattle.channel.specs.Tables.{place_of, with_recording}
use Rattle.lent_changes.specs.declared.Laid.{Laid}

-- all eight phrases, by their numbers: `phrases_in`
abbrev pub phrases_by : List Phrase → Bool → Head → List Phrase
phrases_by table several h = with_recording h (others_of several h.chosen table)

-- table and head, the phrases being where they stand in ps
unfoldable pub laid_of : List Phrase → Bool → Head → List Phrase → Laid
laid_of table several h ps = record {
  table = cond several ps table;
  head = starting_at (get_or ps (place_of h.chosen) no_phrase).start h;
}
