-- `iter_active_notes` meets its contract: the notes of the voices so far stand in front of the list. Assumes nothing.
use Rattle.std.proofs.Common.{rules, ◌≡◌, ℕ, ◌+◌, ◌<◌, ◌≤◌, List, not, length, set, sym, ap, ◌∙◌, subst, arith}
use Rattle.std.specs.Prelude.{Result, Ok, Err, count_by}
use Rattle.refusals.specs.declared.Refusal.{Refusal}
use Rattle.voice.specs.declared.Voice.{Voice}
use Rattle.channel.specs.Channels.{live}
use Rattle.questions.specs.Questions.{in_front, notes_of, iter_active_notes_of, active_notes_after}
use Rattle.lent_sampler.specs.Lists.{seated, unfinished}
use Rattle.lent_sampler.proofs.Lists.{Noted, noted_none, noted_kept, noted_room, noted_more, noted_all, notes_refused, notes_short, notes_room, notes_listed}
use Rattle.lent_sampler.proofs.iter_active_notes.Goals as goal
use Rattle.lent_sampler.proofs.iter_active_notes.Goals.{then-not-v, else-not-v}

pub returns-in_err-rows : goal.returns-in_err-rows
returns-in_err-rows c =
    let e : c.from_residual.result ≡ Err c.in_err-rows.field-0.0 = search rules in
    let at = c.args in
    subst (λ (r : Result ℕ Refusal). (r ≡ iter_active_notes_of at.s.now at.channel (length at.notes.now)) × (at.notes.now ≡ active_notes_after at.s.now at.channel at.notes.now)) (sym e)
    (notes_refused at.s.now at.channel at.notes.now _ c.in_err-rows.ensures)

pub returns-in_err-when : goal.returns-in_err-when
returns-in_err-when c =
    let e : c.from_residual-in_err-when.result ≡ Err c.in_err-when.field-0.0 = search rules in
    let at = c.args in
    subst (λ (r : Result ℕ Refusal). (r ≡ iter_active_notes_of at.s.now at.channel (length at.notes.now)) × (at.notes.now ≡ active_notes_after at.s.now at.channel at.notes.now)) (sym e)
    (notes_short at.s.now at.channel at.notes.now c.in_ok-rows.ensures _ (c.unfinished-count.ensures ∙ ap unfinished c.seated-c.ensures.asked) _ c.in_err-when.ensures)

pub loop-v-init : goal.loop-v-init
loop-v-init c = noted_none _ c.args.notes.now

pub bounds-notes-k : goal.bounds-notes-k
bounds-notes-k c =
    let at = c.args in
    let same : c.live-v-items.result.now ≡ live (seated at.s.now at.channel) = c.live-v-items.ensures ∙ ap live c.seated-c.ensures.asked in
    let counts : c.unfinished-count.result ≡ unfinished (seated at.s.now at.channel) = c.unfinished-count.ensures ∙ ap unfinished c.seated-c.ensures.asked in
    let lt : c.loop-v.v-index < length c.live-v-items.result.now = omega arith in
    let room : count_by (λ (v : Voice). not v.finished) c.live-v-items.result.now ≤ length at.notes.now =
    subst (λ (l : List Voice). count_by (λ (v : Voice). not v.finished) l ≤ length at.notes.now) (sym same) (notes_room at.s.now at.channel at.notes.now c.in_ok-rows.ensures _ counts c.in_ok-when.ensures) in
    omega (arith, noted_room c.live-v-items.result.now at.notes.now c.loop-v.invariant _ lt c.if-not-v.true room, c.loop-v.auto.notes)

pub loop-v-preserved : goal.loop-v-preserved
loop-v-preserved c =
    let at = c.args in
    let same : c.live-v-items.result.now ≡ live (seated at.s.now at.channel) = c.live-v-items.ensures ∙ ap live c.seated-c.ensures.asked in
    let counts : c.unfinished-count.result ≡ unfinished (seated at.s.now at.channel) = c.unfinished-count.ensures ∙ ap unfinished c.seated-c.ensures.asked in
    let lt : c.loop-v.v-index < length c.live-v-items.result.now = omega arith in
    let room : count_by (λ (v : Voice). not v.finished) c.live-v-items.result.now ≤ length at.notes.now =
    subst (λ (l : List Voice). count_by (λ (v : Voice). not v.finished) l ≤ length at.notes.now) (sym same) (notes_room at.s.now at.channel at.notes.now c.in_ok-rows.ensures _ counts c.in_ok-when.ensures) in
    let z = c.loop-v.invariant in
    let l : List Voice = c.live-v-items.result.now in
    elim c.if-not-v.branch [
      | then-not-v w ↦
          let more = noted_more l at.notes.now z _ lt w.if-not-v.true (noted_room l at.notes.now z _ lt w.if-not-v.true room) in
          subst (λ (k : ℕ). Noted l at.notes.now (c.loop-v.v-index + 1) k c.if-not-v.notes) (sym w.k-is)
          (subst (λ (ns : List ℕ). Noted l at.notes.now (c.loop-v.v-index + 1) (c.loop-v.k + 1) ns) (sym (w.notes-is ∙ ap (set c.loop-v.notes c.loop-v.k) w.from.ensures)) more)
      | else-not-v w ↦
          subst (λ (k : ℕ). Noted l at.notes.now (c.loop-v.v-index + 1) k c.if-not-v.notes) (sym w.k-is)
          (subst (λ (ns : List ℕ). Noted l at.notes.now (c.loop-v.v-index + 1) c.loop-v.k ns) (sym w.notes-is) (noted_kept l at.notes.now z _ lt w.if-not-v.false))
    ]

pub returns : goal.returns
returns c =
    let at = c.args in
    let same : c.live-v-items.result.now ≡ live (seated at.s.now at.channel) = c.live-v-items.ensures ∙ ap live c.seated-c.ensures.asked in
    let counts : c.unfinished-count.result ≡ unfinished (seated at.s.now at.channel) = c.unfinished-count.ensures ∙ ap unfinished c.seated-c.ensures.asked in
    notes_listed at.s.now at.channel at.notes.now c.in_ok-rows.ensures _ counts c.in_ok-when.ensures c.loop-v.notes
    (noted_all c.live-v-items.result.now at.notes.now c.loop-v.v-index c.loop-v-test.false c.loop-v.invariant ∙ ap (λ (vs : List Voice). in_front (notes_of vs) at.notes.now) same)
