-- `Channel::gathered` meets its contract. Assumes nothing.
use mathlib.Core.Path.{◌≡◌, sym, ap, ◌∙◌}
use mathlib.Core.Bool.{Bool, true, false, cond}
use mathlib.Core.List.{List}
use Prim.Native.Nat.{ℕ}
use lib.ListN.{get_or}
use Rattle.phrases.specs.declared.Phrase.{Phrase}
use Rattle.phrases.specs.Phrases.{no_phrase}
use Rattle.phrases.specs.Gathering.{gathering_of}
use Rattle.channel.specs.Heads.{starting_at}
use Rattle.channel.specs.Tables.{place_of}
use Rattle.channel.specs.Channels.{phrases_in, gathered_in, gathered_memory}
use Rattle.channel.specs.declared.Channel.{Channel}
use Rattle.channel.proofs.Channel.gathered.Goals as goal

-- the channel with its phrases gathered, as it is put together
module _ (c : Channel) (m : List ℕ) (all : List Phrase) where
  moved : (ps : List Phrase) (k : ℕ) (several : Bool) → all ≡ phrases_in c → ps ≡ (gathering_of all m).phrases → k ≡ place_of c.head.chosen → c.several ≡ several
      → record {
        voices = c.voices;
        table = cond several ps c.table;
        count = c.count;
        head = starting_at (get_or ps k no_phrase).start c.head;
        several = c.several;
      } ≡ gathered_in c m
  unfolding gathered_in
  moved ps k several are gives place is =
      let same : ps ≡ (gathering_of (phrases_in c) m).phrases = gives ∙ ap (λ (l : List Phrase). (gathering_of l m).phrases) are in
      λ i. record {
        voices = c.voices;
        table = cond (sym is i) (same i) c.table;
        count = c.count;
        head = starting_at (get_or (same i) (place i) no_phrase).start c.head;
        several = c.several;
      }

  kept : (last : List ℕ) → all ≡ phrases_in c → last ≡ (gathering_of all m).memory → last ≡ gathered_memory c m
  unfolding gathered_memory
  kept last are gives = gives ∙ ap (λ (l : List Phrase). (gathering_of l m).memory) are

pub returns-then-self : goal.returns-then-self
returns-then-self c =
    let a = c.args in
    let m = a.«data».now in
    let all = c.all in
    let gather = c.gather-all in
    let place = c.place_of in
    record {
      value = moved a.self m all.result gather.result place.result true all.ensures gather.ensures.value place.ensures.value c.if-self.true;
      data_after = kept a.self m all.result _ all.ensures gather.ensures.data_after;
    }

pub returns-else-self : goal.returns-else-self
returns-else-self c =
    let a = c.args in
    let m = a.«data».now in
    let all = c.all in
    let gather = c.gather-all in
    let place = c.place_of in
    record {
      value = moved a.self m all.result gather.result place.result false all.ensures gather.ensures.value place.ensures.value c.if-self.false;
      data_after = kept a.self m all.result _ all.ensures gather.ensures.data_after;
    }
