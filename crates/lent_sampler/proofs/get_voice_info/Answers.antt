-- `get_voice_info` meets its contract: the figures of the voices so far stand in front of the list. Assumes nothing.
use Rattle.std.proofs.Common.{rules, ◌≡◌, ℕ, ◌<◌, ◌≤◌, Bool, ltb, length, get_or, set, refl, sym, ap, ◌∙◌, subst, arith}
use Rattle.std.specs.Prelude.{Result, Ok, Err}
use Rattle.refusals.specs.declared.Refusal.{Refusal}
use Rattle.refusals.specs.declared.Refusal.TheVariants.{BeyondLimits, ShortList}
use Rattle.refusals.specs.Refusals.{row}
use Rattle.common_types.specs.Settings.{beyond_limits}
use Rattle.channel.specs.declared.Channel.{Channel}
use Rattle.channel.specs.Channels.{live}
use Rattle.channel.proofs.Slots.{none}
use Rattle.sampler.specs.Refusals.{channel_at}
use Rattle.questions.specs.Questions.{figures_of}
use Rattle.questions.specs.Lists.{voice_info_counted, voice_info_after}
use Rattle.lent_sampler.proofs.Lists.{ok, seat_is, all_live, figured_upto, figured_next, infos_refused, infos_beyond, infos_short, infos_room, infos_listed}
use Rattle.lent_sampler.specs.Lists.{seated}
use Rattle.lent_sampler.proofs.get_voice_info.Goals as goal

pub returns-in_err-rows : goal.returns-in_err-rows
returns-in_err-rows c =
    let e : c.from_residual.result ≡ Err c.in_err-rows.field-0.0 = search rules in
    let at = c.args in
    subst (λ (r : Result ℕ Refusal). (r ≡ voice_info_counted at.s.now at.channel at.params at.list.now) × (at.list.now ≡ voice_info_after at.s.now at.channel at.params at.list.now)) (sym e)
    (infos_refused at.s.now at.channel at.params at.list.now _ c.in_err-rows.ensures)

pub returns-in_err-when : goal.returns-in_err-when
returns-in_err-when c =
    let e : c.from_residual-in_err-when.result ≡ Err c.in_err-when.field-0.0 = search rules in
    let at = c.args in
    subst (λ (r : Result ℕ Refusal). (r ≡ voice_info_counted at.s.now at.channel at.params at.list.now) × (at.list.now ≡ voice_info_after at.s.now at.channel at.params at.list.now)) (sym e)
    (infos_beyond at.s.now at.channel at.params at.list.now c.in_ok-rows.ensures _ (c.in_err-when.ensures ∙ ap (λ (b : Bool). row b BeyondLimits ok) c.beyond_limits.ensures))

pub returns-in_err-when-2 : goal.returns-in_err-when-2
returns-in_err-when-2 c =
    let e : c.from_residual-in_err-when-2.result ≡ Err c.in_err-when-2.field-0.0 = search rules in
    let at = c.args in
    let within : ok ≡ row (beyond_limits at.params) BeyondLimits ok = c.in_ok-when.ensures ∙ ap (λ (b : Bool). row b BeyondLimits ok) c.beyond_limits.ensures in
    subst (λ (r : Result ℕ Refusal). (r ≡ voice_info_counted at.s.now at.channel at.params at.list.now) × (at.list.now ≡ voice_info_after at.s.now at.channel at.params at.list.now)) (sym e)
    (infos_short at.s.now at.channel at.params at.list.now c.in_ok-rows.ensures within _
    (c.in_err-when-2.ensures ∙ ap (λ (d : Channel). row (ltb (length at.list.now) d.count) ShortList ok) c.seated-c.ensures.asked))

pub loop-i-init : goal.loop-i-init
loop-i-init c = refl

pub bounds-list-i : goal.bounds-list-i
bounds-list-i c =
    let at = c.args in
    let within : ok ≡ row (beyond_limits at.params) BeyondLimits ok = c.in_ok-when.ensures ∙ ap (λ (b : Bool). row b BeyondLimits ok) c.beyond_limits.ensures in
    let fits : ok ≡ row (ltb (length at.list.now) (seated at.s.now at.channel).count) ShortList ok = c.in_ok-when-2.ensures ∙ ap (λ (d : Channel). row (ltb (length at.list.now) d.count) ShortList ok) c.seated-c.ensures.asked in
    let full : length (live c.seated-c.result.now) ≡ (seated at.s.now at.channel).count = ap (λ (d : Channel). length (live d)) c.seated-c.ensures.asked ∙ all_live at.s.now at.channel c.in_ok-rows.ensures c.seated-c.ensures.whole in
    let room : length (live c.seated-c.result.now) ≤ length at.list.now = omega (arith, full, infos_room at.s.now at.channel at.params at.list.now c.in_ok-rows.ensures within fits) in
    let lt : c.loop-i.i < length (live c.seated-c.result.now) = omega (arith, ap length c.live-v-items.ensures) in
    omega (arith, lt, room, c.loop-i.auto.list)

pub loop-i-preserved : goal.loop-i-preserved
loop-i-preserved c =
    let at = c.args in
    let within : ok ≡ row (beyond_limits at.params) BeyondLimits ok = c.in_ok-when.ensures ∙ ap (λ (b : Bool). row b BeyondLimits ok) c.beyond_limits.ensures in
    let fits : ok ≡ row (ltb (length at.list.now) (seated at.s.now at.channel).count) ShortList ok = c.in_ok-when-2.ensures ∙ ap (λ (d : Channel). row (ltb (length at.list.now) d.count) ShortList ok) c.seated-c.ensures.asked in
    let full : length (live c.seated-c.result.now) ≡ (seated at.s.now at.channel).count = ap (λ (d : Channel). length (live d)) c.seated-c.ensures.asked ∙ all_live at.s.now at.channel c.in_ok-rows.ensures c.seated-c.ensures.whole in
    let room : length (live c.seated-c.result.now) ≤ length at.list.now = omega (arith, full, infos_room at.s.now at.channel at.params at.list.now c.in_ok-rows.ensures within fits) in
    let lt : c.loop-i.i < length (live c.seated-c.result.now) = omega (arith, ap length c.live-v-items.ensures) in
    let first : c.seated.result.now ≡ channel_at at.s.now 0 = c.seated.ensures.asked ∙ ap (channel_at at.s.now) (seat_is 0 (omega arith)) in
    let info = c.info.ensures ∙ (λ q. figures_of at.params (first q) c.seated-c.result.now (get_or (c.live-v-items.ensures q) c.loop-i.i none)) in
    (λ q. set (c.loop-i.invariant q) c.loop-i.i (info q)) ∙ figured_next at.params (channel_at at.s.now 0) c.seated-c.result.now at.list.now c.loop-i.i none lt room

pub returns : goal.returns
returns c =
    let at = c.args in
    let within : ok ≡ row (beyond_limits at.params) BeyondLimits ok = c.in_ok-when.ensures ∙ ap (λ (b : Bool). row b BeyondLimits ok) c.beyond_limits.ensures in
    let fits : ok ≡ row (ltb (length at.list.now) (seated at.s.now at.channel).count) ShortList ok = c.in_ok-when-2.ensures ∙ ap (λ (d : Channel). row (ltb (length at.list.now) d.count) ShortList ok) c.seated-c.ensures.asked in
    let i_is : c.loop-i.i ≡ length (live c.seated-c.result.now) = omega (arith, ap length c.live-v-items.ensures) in
    let is = c.loop-i.invariant
    ∙ ap (figured_upto at.params (channel_at at.s.now 0) c.seated-c.result.now at.list.now) i_is
    ∙ ap (λ (d : Channel). figured_upto at.params (channel_at at.s.now 0) d at.list.now (length (live d))) c.seated-c.ensures.asked in
    let a = infos_listed at.s.now at.channel at.params at.list.now c.in_ok-rows.ensures within fits c.seated-c.ensures.whole _ is in
    (ap (λ (d : Channel). Ok d.count) c.seated-c.ensures.asked ∙ a.0, a.1)
