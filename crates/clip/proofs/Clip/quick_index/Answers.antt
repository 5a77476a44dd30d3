-- `Clip::quick_index` meets its contract, by those of its parts and by `offset_worked`. Assumes nothing.
use mathlib.Core.Path.{◌≡◌, ap, sym, ◌∙◌, subst}
use mathlib.Core.Bool.{Bool, ◌&&◌}
use lib.Dec.{T}
use native.Mathlib.Omega.{arith}
use lib.Ieee.{Float, binary32, add, rem, lt, eq, to_unsigned, of_bits}
use lib.Ieee.Bits.{is_true}
use lib.Ieee.Fits.{and_i, and_l, and_r}
use Rattle.binary32.specs.Leaves.{zero32}
use Rattle.binary32.proofs.Truth.{yes}
use Rattle.binary32.proofs.Between.{eq_not_nan}
use Rattle.binary32.proofs.Floors.{floor_cast}
use Rattle.clip.specs.Positions.{travel_at, wrapped_of, clamped_of, clip_offset_at, offset_at, index_at}
use Rattle.clip.specs.Updates.{same_mode, same_values, same_all}
use Rattle.clip.proofs.Offsets.{offset_fits}
use Rattle.clip.proofs.Quick.{divided, offset_worked}
use borrow.Author.Rules.{rules}
use Rattle.clip.proofs.Clip.quick_index.Goals as goal

pub quick_travel-requires : goal.quick_travel-requires
unfolding of_bits
quick_travel-requires c =
    let a = c.args in
    let s = a.self in
    let x : Bool = eq a.length s.length in
    let y : Bool = eq a.speed s.speed in
    let z : Bool = eq a.data_length s.data_length in
    let w : Bool = lt zero32 a.length in
    let h : T (x && y && z && w) = subst (λ (b : Bool). T (b && w)) c.same_values.ensures (yes c.if-same_values-length.true) in
    (eq_not_nan a.speed s.speed (and_r x y (and_l (x && y) z (and_l (x && y && z) w h)))).1

pub returns-then-offset : goal.returns-then-offset
unfolding same_all offset_at clip_offset_at index_at of_bits
returns-then-offset c h =
    let g = c.well_formed in
    let a = c.args in
    let s = a.self in
    let l = a.length in
    let m = a.data_length in
    let all : Bool = same_values s l a.speed m in
    let both : T (all && lt zero32 l) =
    subst (λ (b : Bool). T (b && lt zero32 l)) c.same_values.ensures (yes c.if-same_values-length.true) in
    let low = yes c.if-offset.true in
    let left = c.quick_rem-offset.ensures low in
    let y = c.quick_wrapped-y.ensures (yes c.if-y.true) in
    let is : c.quick_rem-offset.result ≡ offset_at s a.now =
    left
    ∙ ap (λ (y : Float). rem binary32 (add binary32 s.start y) m)
    (c.clamped.ensures
    ∙ ap (λ (y : Float). clamped_of y l) (y.1 ∙ ap (λ (x : Float). wrapped_of s.mode x l) c.quick_travel.ensures))
    ∙ offset_worked s (travel_at s a.now) l a.speed m (and_l all (lt zero32 l) both) (search rules) (search rules) (yes g.1.1.1.1.0.1) (yes g.0.1.1.1.1.1.1.0.1) (and_r all (lt zero32 l) both) (divided _ m _ low left) in (
      is_true (all && same_mode a.mode s.mode) (and_i all (same_mode a.mode s.mode) (and_l all (lt zero32 l) both) (yes y.0)),
      c.f32_to_usize.ensures ∙ ap (to_unsigned 64) is ∙ sym (floor_cast 64 (offset_at s a.now) (offset_fits s a.now)),
      is,
      low,
    )

pub returns-else-offset : goal.returns-else-offset
returns-else-offset c h = absurd (omega (arith, h))

pub returns-else-y : goal.returns-else-y
returns-else-y c h = absurd (omega (arith, h))

pub returns-else-same_values-length : goal.returns-else-same_values-length
returns-else-same_values-length c h = absurd (omega (arith, h))
