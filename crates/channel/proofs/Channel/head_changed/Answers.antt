-- `Channel::head_changed` meets its contract: what it stores in the table is the table after the change. Assumes nothing.
use mathlib.Core.Path.{◌≡◌, sym, ap, subst, ◌∙◌}
use mathlib.Core.Bool.{Bool, cond}
use Prim.Native.Nat.{◌<◌}
use native.Mathlib.Omega.{arith}
use lib.ListN.{length, get_or, set}
use Rattle.phrases.specs.declared.Phrase.{Phrase}
use Rattle.phrases.specs.Phrases.{no_phrase, no_phrases}
use Rattle.channel.specs.Heads.{head_changed_of}
use Rattle.channel.specs.Tables.{place_of, head_names, found_by, head_entry, stored_by}
use Rattle.channel.specs.Channels.{behind_in, head_changed_in}
use Rattle.channel.specs.declared.Head.{Head}
use Rattle.channel.specs.declared.Channel.{Channel}
use Rattle.channel.specs.declared.Entry.{Entry}
use Rattle.channel.specs.declared.HeadChange.{HeadChange}
use Rattle.channel.proofs.Entries.{head_entry_below, head_stored, head_several}
use Rattle.channel.proofs.Channel.head_changed.Goals as goal
use Rattle.channel.proofs.Channel.head_changed.Goals.{then-e, else-e}

-- what is stored has a place below eight
placed : (d : HeadChange) (h : Head) (several : Bool) (entry : Phrase) (e : Entry) → e ≡ head_entry d h several entry → e.place < 8
placed d h several entry e is = subst (λ (e : Entry). e.place < 8) (sym is) (head_entry_below _ _ _ _)

pub offset_bounds-self-e : goal.offset_bounds-self-e
offset_bounds-self-e c = let below = placed _ _ _ _ _ c.head_entry-e.ensures in omega arith

pub bounds-self-e : goal.bounds-self-e
bounds-self-e c = placed _ _ _ _ _ c.head_entry-e.ensures

-- the channel with its table emptied or not
abbrev emptied : Bool → Channel → Channel
emptied clears c = record { voices = c.voices; table = cond clears no_phrases c.table; count = c.count; head = c.head; several = c.several }

put : (d : HeadChange) (c s : Channel) (e : Entry) (h : Head) → length c.table ≡ 8 → s ≡ emptied e.clears c
    → e ≡ head_entry d c.head c.several (get_or c.table (place_of (head_names d)) no_phrase)
    → h ≡ head_changed_of d (found_by d c.several (get_or c.table (place_of (head_names d)) no_phrase) (behind_in c)) c.head
    → record { voices = s.voices; table = set s.table e.place e.phrase; count = s.count; head = h; several = e.several } ≡ head_changed_in d c
unfolding head_changed_in stored_by
put d c s e h eight is stores changes =
    let table = ap (λ (z : Channel). set z.table e.place e.phrase) is ∙ ap (λ (z : Entry). stored_by z c.table) stores ∙ head_stored d c.head c.several c.table eight in
    let several = ap (λ (z : Entry). z.several) stores ∙ head_several d c.head c.several _ in
    λ i. record { voices = (is i).voices; table = table i; count = (is i).count; head = changes i; several = several i }

pub returns : goal.returns
returns c =
    let e = c.head_entry-e in
    let place = c.place_of.ensures.value in
    let names = c.head_names.ensures in
    let eight = c.well_formed.0.1.1.1.0.1.0.1 in
    let cleared : c.if-e.self ≡ emptied e.result.clears c.args.self = elim c.if-e.branch [ then-e w ↦ w.self-is ∙ simp (w.none-self.ensures, w.if-e.true) | else-e w ↦ w.self-is ∙ simp w.if-e.false ] in
    put c.args.change c.args.self c.if-e.self e.result c.changed-self.result eight cleared (simp (e.ensures, place, names))
    (simp (c.changed-self.ensures, c.finds-found.ensures, c.beside.ensures, place, names))
