-- `along` meets its contract: where nothing is left the side is refilled, and a sample is played behind what is poured. Assumes nothing.
use Rattle.std.proofs.Common.{rules, arith, ◌≡◌, ◌<◌, length}
use lib.Ieee.{nan}
use Rattle.walks.proofs.Lists.Loops.{get_d_any}
use Rattle.binary32.specs.Leaves.{zero32}
use Rattle.plain_channel.proofs.Runs.{Ready, ready_as, still_ready, filled_ready, next_low, asks_so, along_so}
use Rattle.plain_channel.proofs.along.Goals as goal
use Rattle.plain_channel.proofs.along.Goals.{then-side-eq0, else-side-eq0}

pub behind-requires : goal.behind-requires
behind-requires c =
    let voices : length c.if-side-eq0.c.voices ≡ 32 = search rules in
    let hots : length c.if-side-eq0.side.hots ≡ 32 = search rules in
    let sums : length c.if-side-eq0.side.pour.sums ≡ 64 = search rules in
    let a = c.args in
    let j = c.if-side-eq0 in
    let q = c.requires in
    let ready : Ready a.params a.«data».now a.togo a.c.now a.side.now j.c j.side = elim j.branch [
      | then-side-eq0 w ↦ ready_as w.c-is w.side-is (filled_ready a.params a.«data».now a.togo a.c.now a.side.now w.if-side-eq0.true q.some w.refill.new.c w.refill.new.side w.refill.ensures)
      | else-side-eq0 w ↦ ready_as w.c-is w.side-is (still_ready a.params a.«data».now a.togo a.c.now a.side.now (let no = w.if-side-eq0.false in omega (arith, no)))
    ] in
    asks_so a.params a.input a.«data».now a.togo j.c j.side ready.some voices hots sums q.channel q.hots (ready.same q.channel q.hots q.under)

pub returns : goal.returns
returns c =
    let voices : length c.if-side-eq0.c.voices ≡ 32 = search rules in
    let hots : length c.if-side-eq0.side.hots ≡ 32 = search rules in
    let sums : length c.if-side-eq0.side.pour.sums ≡ 64 = search rules in
    let a = c.args in
    let j = c.if-side-eq0 in
    let q = c.requires in
    let b = c.behind in
    let ready : Ready a.params a.«data».now a.togo a.c.now a.side.now j.c j.side = elim j.branch [
      | then-side-eq0 w ↦ ready_as w.c-is w.side-is (filled_ready a.params a.«data».now a.togo a.c.now a.side.now w.if-side-eq0.true q.some w.refill.new.c w.refill.new.side w.refill.ensures)
      | else-side-eq0 w ↦ ready_as w.c-is w.side-is (still_ready a.params a.«data».now a.togo a.c.now a.side.now (let no = w.if-side-eq0.false in omega (arith, no)))
    ] in
    let low : j.side.pour.next < 64 = next_low a.params a.input a.«data».now a.togo j.c j.side ready.some voices hots sums q.channel q.hots (ready.same q.channel q.hots q.under) in
    along_so a.params a.input a.«data».now a.togo j.c j.side ready.some voices hots sums a.c.now a.side.now ready _ (get_d_any j.side.pour.sums j.side.pour.next nan zero32 (omega (arith, low, sums)))
    b.result b.ensures.0 b.new.c b.ensures.1 b.new.«data» b.ensures.2 b.new.side b.ensures.3
