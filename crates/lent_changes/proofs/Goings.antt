-- A change in place, by what its loop knows where a turn begins, and what it comes to. Assumes nothing.
use mathlib.Core.Path.{◌≡◌, refl, sym, ap, ◌∙◌}
use Prim.Native.Nat.{ℕ, ◌+◌, ◌≤◌, ◌<◌, zero-le}
use native.Mathlib.Nat.{le_refl}
use native.Mathlib.Omega.{arith}
use mathlib.Core.Bool.{Bool, true, false, cond}
use mathlib.Core.List.{List}
use lib.ListN.{length, length-set, take, get_or, set}
use Rattle.walks.proofs.Lists.Loops.{Walk, turns as turns_on, stores, ends as ends_there}
use Rattle.phrases.specs.declared.Beside.{Beside}
use Rattle.phrases.specs.Phrases.{no_phrase, no_phrases}
use Rattle.voice.specs.declared.Voice.{Voice}
use Rattle.channel.specs.declared.Head.{Head}
use Rattle.channel.specs.declared.Change.{Change}
use Rattle.channel.specs.declared.Channel.{Channel}
use Rattle.channel.specs.declared.Entry.{Entry}
use Rattle.channel.specs.Tables.{place_of, names_of, entry_stored, stored_by}
use Rattle.channel.specs.Channels.{with_voices, beside_in, changed_of}
use Rattle.channel.proofs.Slots.{none}
use Rattle.lent_changes.specs.declared.Pass.{Pass}
use Rattle.lent_changes.specs.declared.Aside.{Aside}
use Rattle.lent_changes.specs.Changes.{pass_of, hits_of, remade_of, passed_of, started_voice, aside_of, head_ended}
use Rattle.lent_changes.proofs.Passes.{aside, entry, rest_of, rest_hit, rest_miss, few_turns, fresh_room, whole_change}

module _ (x : Change) (h : Channel) where
  -- where it begins, how many turns there are, and what the whole walk gives
  abbrev pub begins : Pass
  begins = pass_of x h.head h.count

  abbrev n : ℕ
  n = begins.turns

  abbrev whole : Channel
  whole = rest_of x h begins h.voices 0 (take n h.voices)

  -- where a turn begins, on channel d: its voices alone may be others
  pub record Goes (d : Channel) (p : Pass) (i : ℕ) : Type 0 where
    pub upto : i ≤ n
    pub only : d ≡ with_voices d.voices h.count h
    pub long : length d.voices ≡ length h.voices
    pub walk : length h.voices ≡ 32 → Walk whole (rest_of x h p d.voices i) d.voices n i
    pub opens : p.fresh ≡ true → h.count < 32

  pub goes_first : Goes h begins 0
  goes_first = record {
    upto = zero-le;
    only = refl;
    long = refl;
    walk = λ all. record { upto = zero-le; within = let few = few_turns x h in omega (arith, few, all); same = refl };
    opens = fresh_room x h;
  }

  -- a turn: the voice is changed, or not
  module _ (d : Channel) (p : Pass) (i : ℕ) (g : Goes d p i) (lt : i < n) (hit : Bool) (e_hit : hit ≡ hits_of p (get_or d.voices i none)) (p' : Pass) (e_p : p' ≡ passed_of p (get_or d.voices i none) hit) where
    still_opens : p'.fresh ≡ true → h.count < 32
    unfolding passed_of
    still_opens y = g.opens (sym (ap (λ (r : Pass). r.fresh) e_p) ∙ y)

    pub has_hit : (w : Voice) → w ≡ remade_of p (get_or d.voices i none) → hit ≡ true → Goes (with_voices (set d.voices i w) d.count d) p' (i + 1)
    has_hit w e_w y = record {
      upto = omega (arith, lt);
      only = ap (λ (e : Channel). with_voices (set d.voices i w) e.count e) g.only;
      long = length-set d.voices i w ∙ g.long;
      walk = λ all. stores none i w (g.walk all) lt (le_refl i) (λ vs. rest_hit x h p p' (get_or d.voices i none) w hit d.voices i vs e_hit e_w e_p y);
      opens = still_opens;
    }

    pub has_missed : hit ≡ false → Goes d p' (i + 1)
    has_missed y = record {
      upto = omega (arith, lt);
      only = g.only;
      long = g.long;
      walk = λ all. turns_on none (g.walk all) lt (λ vs. rest_miss x h p p' hit d.voices i none vs e_hit e_p y);
      opens = still_opens;
    }

  -- where no turn is left
  module _ (d : Channel) (p : Pass) (i : ℕ) (g : Goes d p i) where
    -- the voices with the new one, where there is one
    abbrev opened : List Voice
    opened = cond p.fresh (set d.voices h.count (started_voice x h.head)) d.voices

    pub room_left : p.fresh ≡ true → d.count < 32
    room_left y = let same : d.count ≡ h.count = ap (λ (e : Channel). e.count) g.only in let room = g.opens y in omega (arith, same, room)

    pub opens_one : p.fresh ≡ true → (w : Voice) → w ≡ started_voice x d.head → with_voices (set d.voices d.count w) d.count d ≡ with_voices opened h.count h
    opens_one y w e =
        ap (λ (u : Voice). with_voices (set d.voices d.count u) d.count d) e
        ∙ ap (λ (f : Channel). with_voices (set d.voices f.count (started_voice x f.head)) f.count f) g.only
        ∙ sym (ap (λ (b : Bool). with_voices (cond b (set d.voices h.count (started_voice x h.head)) d.voices) h.count h) y)

    pub opens_none : p.fresh ≡ false → d ≡ with_voices opened h.count h
    opens_none y = g.only ∙ sym (ap (λ (b : Bool). with_voices (cond b (set d.voices h.count (started_voice x h.head)) d.voices) h.count h) y)

    opened_long : length opened ≡ length h.voices
    opened_long = go p.fresh
      where
        go : (b : Bool) → length (cond b (set d.voices h.count (started_voice x h.head)) d.voices) ≡ length h.voices
        go true = length-set d.voices h.count (started_voice x h.head) ∙ g.long
        go false = g.long

    ended : n ≤ i → length h.voices ≡ 32 → length h.table ≡ 8
        → record { voices = opened; table = stored_by (entry x h) h.table; count = p.count; head = head_ended p x h.head (aside x h); several = (entry x h).several } ≡ changed_of x h
    ended end all eight = ends_there (g.walk all) end ∙ whole_change x h all eight

    -- what is stored behind the loop, on channel f, which has the new voice
    module _ (end : n ≤ i) (f : Channel) (is : f ≡ with_voices opened h.count h) (all : length f.voices ≡ 32) (eight : length f.table ≡ 8)
        (j : ℕ) (names : j ≡ place_of (names_of x)) (b : Beside) (besides : b ≡ beside_in 0 (with_voices f.voices p.count f)) (a : Aside) (asides : a ≡ aside_of (get_or f.table j no_phrase) f.several b)
        (e : Entry) (enters : e ≡ entry_stored x f.head a.several a.entry) where
      aside_is : a ≡ aside x h
      aside_is = let beside_is : b ≡ beside_in 0 h = besides ∙ ap (λ (k : Channel). beside_in 0 (with_voices k.voices p.count k)) is in
          asides ∙ ap (λ (k : Channel). aside_of (get_or k.table j no_phrase) k.several b) is
          ∙ ap (λ (k : ℕ). aside_of (get_or h.table k no_phrase) h.several b) names ∙ ap (aside_of (get_or h.table (place_of (names_of x)) no_phrase) h.several) beside_is

      entry_is : e ≡ entry x h
      entry_is = enters ∙ ap (λ (k : Channel). entry_stored x k.head a.several a.entry) is ∙ ap (λ (z : Aside). entry_stored x h.head z.several z.entry) aside_is

      abbrev emptied : Channel → Entry → Channel
      emptied k z = record { voices = k.voices; table = cond z.clears no_phrases k.table; count = p.count; head = k.head; several = k.several }

      abbrev closed : Channel → Entry → Head → Channel
      closed k z t = record { voices = k.voices; table = set k.table z.place z.phrase; count = k.count; head = t; several = z.several }

      pub goes_done : (k : Channel) → k ≡ emptied f e → (t : Head) → t ≡ head_ended p x k.head a → closed k e t ≡ changed_of x h
      unfolding stored_by
      goes_done k e_k t e_t =
          let k_is : k ≡ emptied (with_voices opened h.count h) (entry x h) = e_k ∙ ap (λ (m : Channel). emptied m e) is ∙ ap (emptied (with_voices opened h.count h)) entry_is in
          let t_is : t ≡ head_ended p x h.head (aside x h) = e_t ∙ ap (λ (m : Channel). head_ended p x m.head a) k_is ∙ ap (head_ended p x h.head) aside_is in
          let voices : length h.voices ≡ 32 = sym opened_long ∙ sym (ap (λ (m : Channel). length m.voices) is) ∙ all in
          let table : length h.table ≡ 8 = sym (ap (λ (m : Channel). length m.table) is) ∙ eight in
          ap (closed k e) t_is ∙ ap (λ (m : Channel). closed m e (head_ended p x h.head (aside x h))) k_is
          ∙ ap (λ (z : Entry). closed (emptied (with_voices opened h.count h) (entry x h)) z (head_ended p x h.head (aside x h))) entry_is
          ∙ ended end voices table
