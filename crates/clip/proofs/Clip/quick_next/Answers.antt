-- `Clip::quick_next` meets its contract, by those of its parts and by `offset_worked`. Assumes nothing.
use mathlib.Core.Path.{◌≡◌, ap, ap₂, ◌∙◌}
use mathlib.Core.Bool.{Bool, ◌&&◌}
use lib.Dec.{T}
use native.Mathlib.Omega.{arith}
use lib.Ieee.{Float, binary32, add, rem, lt, eq, of_bits}
use lib.Ieee.Fits.{and_l, and_r}
use Rattle.binary32.specs.Leaves.{zero32}
use Rattle.binary32.proofs.Truth.{yes}
use Rattle.binary32.proofs.Between.{eq_not_nan}
use Rattle.clip.specs.Positions.{travel_at, wrapped_of, clamped_of, index_of, one_further, next_at}
use Rattle.clip.specs.Updates.{same_mode, same_values, same_all}
use Rattle.clip.specs.declared.Mode.{Mode}
use Rattle.clip.proofs.Equal.{same_modes}
use Rattle.clip.proofs.Quick.{offset_worked}
use borrow.Author.Rules.{rules}
use Rattle.clip.proofs.Clip.quick_next.Goals as goal

pub quick_travel-requires : goal.quick_travel-requires
unfolding of_bits
quick_travel-requires c =
    let a = c.args in
    let s = a.self in
    (eq_not_nan s.speed s.speed (and_r (lt zero32 a.length) (eq s.speed s.speed) (yes c.if-length-self.true))).1

pub returns-then-y : goal.returns-then-y
unfolding same_all next_at of_bits
returns-then-y c some speed same =
    let g = c.well_formed in
    let a = c.args in
    let s = a.self in
    let l = a.length in
    let m = a.data_length in
    let x = one_further (travel_at s a.now) s.speed in
    let all : Bool = same_values s l speed m in
    let modes : Bool = same_mode a.mode s.mode in
    let told : T (all && modes) = yes same in
    let above : T (lt zero32 l) = and_l (lt zero32 l) (eq s.speed s.speed) (yes c.if-length-self.true) in
    let got = c.quick_whole.ensures some in
    let y : c.quick_stepped-y.result ≡ wrapped_of s.mode x l =
    c.quick_stepped-y.ensures (yes c.if-y.true)
    ∙ ap₂ (λ (k : Mode) (z : Float). wrapped_of k z l) (same_modes a.mode s.mode (and_r all modes told))
    (c.ahead.ensures ∙ ap (λ (z : Float). one_further z s.speed) c.quick_travel.ensures) in
    got.1
    ∙ ap index_of
    (ap (λ (z : Float). rem binary32 (add binary32 s.start z) m) (c.clamped.ensures ∙ ap (λ (z : Float). clamped_of z l) y)
    ∙ offset_worked s x l speed m (and_l all modes told) (search rules) (search rules) (yes g.1.1.1.0.1) (yes g.0.1.1.1.1.1.1.0.1) above got.0)

pub returns-else-y : goal.returns-else-y
returns-else-y c h = absurd (omega (arith, h))

pub returns-else-length-self : goal.returns-else-length-self
returns-else-length-self c h = absurd (omega (arith, h))
