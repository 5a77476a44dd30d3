-- `hot_glide` meets its contract: plain voices take their turns until one isn't plain, or doesn't glide. Assumes nothing.
use Rattle.std.proofs.Common.{rules, arith, refl, get_or, ◌≡◌, ◌≤◌, ◌<◌, length, ap, ◌∙◌}
use borrow.Author.Tests.{not-false}
use mathlib.Core.Bool.{Bool}
use Prim.Native.Nat.{ℕ}
use lib.Ieee.{Float}
use Rattle.walks.proofs.Lists.Loops.{get_d_any}
use Rattle.voice.specs.declared.Voice.{Voice}
use Rattle.voice.specs.Voices.{blank_voice}
use Rattle.plain_voice.specs.declared.Hot.{Hot}
use Rattle.plain_voice.specs.Hots.{cold}
use Rattle.channel.proofs.Slots.{none}
use Rattle.lent_channel.specs.Turns.{glided_to}
use Rattle.plain_channel.proofs.Gliding.{still_first, still_glides, hot_stored, twice, four_times}
use Rattle.plain_channel.proofs.hot_glide.Goals as goal

-- a voice with one field anew
abbrev with_index : Voice → ℕ → Voice
with_index v x = record { finished_at = v.finished_at; last_sample_index = x; clip2 = v.clip2; volume = v.volume; loop_start_percent = v.loop_start_percent; played = v.played; last_sample_value = v.last_sample_value; speed = v.speed; note = v.note; finished = v.finished; is_at_zero_crossing = v.is_at_zero_crossing; phrase = v.phrase }

abbrev with_played : Voice → Float → Voice
with_played v x = record { finished_at = v.finished_at; last_sample_index = v.last_sample_index; clip2 = v.clip2; volume = v.volume; loop_start_percent = v.loop_start_percent; played = x; last_sample_value = v.last_sample_value; speed = v.speed; note = v.note; finished = v.finished; is_at_zero_crossing = v.is_at_zero_crossing; phrase = v.phrase }

abbrev with_value : Voice → Float → Voice
with_value v x = record { finished_at = v.finished_at; last_sample_index = v.last_sample_index; clip2 = v.clip2; volume = v.volume; loop_start_percent = v.loop_start_percent; played = v.played; last_sample_value = x; speed = v.speed; note = v.note; finished = v.finished; is_at_zero_crossing = v.is_at_zero_crossing; phrase = v.phrase }

abbrev with_crossing : Voice → Bool → Voice
with_crossing v x = record { finished_at = v.finished_at; last_sample_index = v.last_sample_index; clip2 = v.clip2; volume = v.volume; loop_start_percent = v.loop_start_percent; played = v.played; last_sample_value = v.last_sample_value; speed = v.speed; note = v.note; finished = v.finished; is_at_zero_crossing = x; phrase = v.phrase }

pub loop-i-init : goal.loop-i-init
loop-i-init c = let a = c.args in still_first a.t a.«data».now a.n a.c.now a.side.now a.g c.requires.0 c.requires.1

pub loop-i-preserved : goal.loop-i-preserved
unfolding cold
loop-i-preserved c =
    let l = c.loop-i in
    let q = c.quick-q.result in
    let w = q.voice in
    let p = c.stepped-next.result in
    let few : c.args.n ≤ 32 = c.requires.0.few in
    let below : l.i < c.args.n = c.loop-i-test.true in
    let voices : length l.c.voices ≡ 32 = search rules in
    let hots : length l.side.hots ≡ 32 = search rules in
    let inside : l.i < length l.c.voices = omega (arith, below, few, voices) in
    let inside_hots : l.i < length l.side.hots = omega (arith, below, few, hots) in
    hot_stored l.invariant below few voices hots _ (get_d_any l.c.voices l.i blank_voice none inside) q (not-false q.glides c.if-not-q.false)
    c.args.b (get_or l.side.hots l.i cold) p refl c.requires.2 c.quick-q.ensures (not-false _ c.if-not-h.false) c.stepped-next.ensures
    _ (four_times l.c.voices l.i none inside (λ (v : Voice). with_index v w.last_sample_index) (λ (v : Voice). with_played v w.played) (λ (v : Voice). with_value v w.last_sample_value) (λ (v : Voice). with_crossing v w.is_at_zero_crossing))
    _ (twice l.side.hots l.i cold inside_hots (λ (h : Hot). record { place = p.place; lap = h.lap; start = h.start; plain = h.plain }) (λ (h : Hot). record { place = h.place; lap = p.lap; start = h.start; plain = h.plain }))
    _ c.added-output.ensures

pub returns-then-not-h : goal.returns-then-not-h
returns-then-not-h c = still_glides c.loop-i.invariant c.glided.result c.glided.ensures

pub returns-then-not-q : goal.returns-then-not-q
returns-then-not-q c = still_glides c.loop-i.invariant c.glided-then-not-q.result c.glided-then-not-q.ensures

pub returns : goal.returns
returns c =
    let l = c.loop-i in
    let end : c.args.n ≡ l.i = omega (arith, l.invariant.inside, c.loop-i-test.false) in
    still_glides l.invariant c.glided-2.result (c.glided-2.ensures ∙ ap (λ (i : ℕ). glided_to i l.output) end)
