-- `merge` meets its contract. Assumes nothing.
use Rattle.std.specs.Prelude.{Err}
use mathlib.Core.Path.{sym, ap, ◌∙◌, subst}
use mathlib.Core.List.{[]}
use Prim.Native.Nat.{ℕ}
use native.Mathlib.Omega.{arith}
use lib.ListN.{length}
use Rattle.song_grammar.proofs.Wholes.{Octets}
use Rattle.song_merge.specs.Gathers.{GathersTracks}
use Rattle.song_merge.specs.Answers.{Answers}
use Rattle.song_merge.proofs.Answered.{refused_heading, in_file, small, refused_tracks, no_room, fits, done}
use Rattle.song_merge.proofs.merge.Goals as goal

pub gather-requires : goal.gather-requires
gather-requires c = let a = c.args in
    let octets : Octets a.file.now = (λ i. omega (arith, c.type_inv.file i)) in
    in_file a.file.now octets 0 [] _ _ _ (sym c.opening.ensures ∙ c.in-Ok.is)

pub overflow_sub-end : goal.overflow_sub-end
overflow_sub-end c = let a = c.args in
    let octets : Octets a.file.now = (λ i. omega (arith, c.type_inv.file i)) in
    let fit = fits a.file.now octets (length a.spare.now) c.gather.new.out _ _ _ (sym c.opening.ensures ∙ c.in-Ok.is) _ (subst (GathersTracks a.file.now _ _ (length a.spare.now) c.gather.new.out) c.in-Ok-gather.is c.gather.ensures) in
    omega arith

pub overflow_cast-end : goal.overflow_cast-end
overflow_cast-end c = let a = c.args in
    let octets : Octets a.file.now = (λ i. omega (arith, c.type_inv.file i)) in
    let fit = fits a.file.now octets (length a.spare.now) c.gather.new.out _ _ _ (sym c.opening.ensures ∙ c.in-Ok.is) _ (subst (GathersTracks a.file.now _ _ (length a.spare.now) c.gather.new.out) c.in-Ok-gather.is c.gather.ensures) in
    omega arith

pub put_heading-requires : goal.put_heading-requires
put_heading-requires c = let a = c.args in
    let octets : Octets a.file.now = (λ i. omega (arith, c.type_inv.file i)) in
    let fit = fits a.file.now octets (length a.spare.now) c.gather.new.out _ _ _ (sym c.opening.ensures ∙ c.in-Ok.is) _ (subst (GathersTracks a.file.now _ _ (length a.spare.now) c.gather.new.out) c.in-Ok-gather.is c.gather.ensures) in
    let few = small a.file.now octets (length a.spare.now) c.gather.new.out _ _ _ (sym c.opening.ensures ∙ c.in-Ok.is) in
    (omega arith, omega arith)

pub returns-in-Err : goal.returns-in-Err
returns-in-Err c = let a = c.args in
    let octets : Octets a.file.now = (λ i. omega (arith, c.type_inv.file i)) in
    subst (Answers a.file.now (length a.spare.now) a.out.now) (sym (c.refused.ensures ∙ ap (λ (n : ℕ). record { length = 0; number = n }) c.refusal.ensures))
    (refused_heading a.file.now octets (length a.spare.now) a.out.now _ (sym c.opening.ensures ∙ c.in-Err.is))

pub returns-in-Err-Broken : goal.returns-in-Err-Broken
returns-in-Err-Broken c = let a = c.args in
    let octets : Octets a.file.now = (λ i. omega (arith, c.type_inv.file i)) in
    subst (Answers a.file.now (length a.spare.now) _) (sym c.refused-in-Err-Broken.ensures)
    (refused_tracks a.file.now octets (length a.spare.now) c.gather.new.out _ _ _ (sym c.opening.ensures ∙ c.in-Ok.is) (subst (GathersTracks a.file.now _ _ (length a.spare.now) c.gather.new.out) (c.in-Err-Broken.is ∙ ap Err c.in-Err-Broken.field-0-is) c.gather.ensures))

pub returns-in-Err-Short : goal.returns-in-Err-Short
returns-in-Err-Short c = let a = c.args in
    let octets : Octets a.file.now = (λ i. omega (arith, c.type_inv.file i)) in
    no_room a.file.now octets (length a.spare.now) c.gather.new.out _ _ _ (sym c.opening.ensures ∙ c.in-Ok.is) (subst (GathersTracks a.file.now _ _ (length a.spare.now) c.gather.new.out) (c.in-Err-Short.is ∙ ap Err c.in-Err-Short.field-0-is) c.gather.ensures)

pub returns-in-Ok-gather : goal.returns-in-Ok-gather
returns-in-Ok-gather c = let a = c.args in
    let octets : Octets a.file.now = (λ i. omega (arith, c.type_inv.file i)) in
    done a.file.now octets (length a.spare.now) c.gather.new.out _ _ _ (sym c.opening.ensures ∙ c.in-Ok.is) _ (subst (GathersTracks a.file.now _ _ (length a.spare.now) c.gather.new.out) c.in-Ok-gather.is c.gather.ensures) _ c.put_heading.ensures
