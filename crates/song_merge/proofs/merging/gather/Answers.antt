-- `gather` meets its contract. The invariant: what the tracks so far come to, and what is left of them (`Gathering: Round`). Assumes nothing.
use Rattle.std.specs.Prelude.{Option, None, Result, Ok, Err}
use mathlib.Core.Path.{◌≡◌, refl, sym, ap, ◌∙◌, subst}
use Prim.Native.Nat.{ℕ, ◌+◌}
use native.Mathlib.Omega.{arith}
use lib.ListN.{length}
use Rattle.song_grammar.proofs.Wholes.{Octets}
use Rattle.song_merge.specs.Standing.{ChunkEnd}
use Rattle.song_merge.specs.Gathers.{Grown, gathered_to, GathersTracks}
use Rattle.song_merge.proofs.Gathering.{begins, no_track, no_chunk, found_inside, again, closes}
use Rattle.song_merge.proofs.merging.gather.Goals as goal
use Rattle.smf.specs.declared.faults.Fault.{Fault}

pub loop-i-init : goal.loop-i-init
loop-i-init c = record { round = begins c.args.file.now (λ i. omega (arith, c.type_inv.file i)) c.args.count c.args.at (length c.args.spare.now) _ _ _ (omega arith) refl c.start-end.ensures; same_length = refl }

pub returns-in-Ok-None : goal.returns-in-Ok-None
returns-in-Ok-None c = let a = c.args in
    let l = c.loop-i in
    let octets : Octets a.file.now = (λ i. omega (arith, c.type_inv.file i)) in
    no_track a.file.now octets a.count a.at (length a.spare.now) _ _ l.place l.end l.i l.invariant.round (omega arith) (Ok None) (sym c.track_at.ensures ∙ c.in-Ok-None.is ∙ ap Ok c.in-Ok-None.field-0-is) (λ chunk k. let z : ◌≡◌ {A = ℕ} 0 1 = cc in omega arith)

pub returns-in-Err : goal.returns-in-Err
returns-in-Err c = let a = c.args in
    let l = c.loop-i in
    let octets : Octets a.file.now = (λ i. omega (arith, c.type_inv.file i)) in
    no_track a.file.now octets a.count a.at (length a.spare.now) _ _ l.place l.end l.i l.invariant.round (omega arith) (Err _) (sym c.track_at.ensures ∙ c.in-Err.is) (λ chunk k. let z : ◌≡◌ {A = ℕ} 0 1 = cc in omega arith)

pub chunk_end-full-requires : goal.chunk_end-full-requires
chunk_end-full-requires c = let a = c.args in
    let l = c.loop-i in
    let octets : Octets a.file.now = (λ i. omega (arith, c.type_inv.file i)) in
    let inside = found_inside a.file.now octets l.place c.in-Ok-Some.chunk l.invariant.round.room (sym c.track_at.ensures ∙ c.in-Ok-Some.is ∙ ap Ok c.in-Ok-Some.field-0-is) in
    omega arith

pub returns-then-full-eq0 : goal.returns-then-full-eq0
returns-then-full-eq0 c = let a = c.args in
    let l = c.loop-i in
    let octets : Octets a.file.now = (λ i. omega (arith, c.type_inv.file i)) in
    let none : c.chunk_end-full.result ≡ 0 = omega arith in
    no_chunk a.file.now octets a.count a.at (length a.spare.now) _ _ l.place l.end l.i l.invariant.round (omega arith) _ (sym c.track_at.ensures ∙ c.in-Ok-Some.is ∙ ap Ok c.in-Ok-Some.field-0-is) (subst (ChunkEnd a.file.now _) none c.chunk_end-full.ensures)

pub overflow_add-chunk : goal.overflow_add-chunk
overflow_add-chunk c = let a = c.args in
    let l = c.loop-i in
    let octets : Octets a.file.now = (λ i. omega (arith, c.type_inv.file i)) in
    let inside = found_inside a.file.now octets l.place c.in-Ok-Some.chunk l.invariant.round.room (sym c.track_at.ensures ∙ c.in-Ok-Some.is ∙ ap Ok c.in-Ok-Some.field-0-is) in
    omega arith

pub with_track-end-requires : goal.with_track-end-requires
with_track-end-requires c = let a = c.args in
    let l = c.loop-i in
    let octets : Octets a.file.now = (λ i. omega (arith, c.type_inv.file i)) in
    let told = c.chunk_end-full.ensures.told (omega arith) in
    (told.1, l.invariant.round.within, l.invariant.round.some)

pub loop-i-preserved : goal.loop-i-preserved
loop-i-preserved c = let a = c.args in
    let l = c.loop-i in
    let octets : Octets a.file.now = (λ i. omega (arith, c.type_inv.file i)) in
    let w = c.with_track-end in
    let chunk = c.in-Ok-Some.chunk in
    let full = c.chunk_end-full.result in
    let grown = subst (λ (n : ℕ). Grown l.out l.end a.file.now (chunk + 8) full n w.new.out w.result) l.invariant.same_length w.ensures in record {
      round = again a.file.now octets a.count a.at (length a.spare.now) _ _ l.place l.end l.i l.invariant.round chunk full (sym c.track_at.ensures ∙ c.in-Ok-Some.is ∙ ap Ok c.in-Ok-Some.field-0-is) c.chunk_end-full.ensures (omega arith) _ _ grown w.auto.out (omega arith);
      same_length = w.auto.spare ∙ l.invariant.same_length;
    }

pub returns : goal.returns
returns c = let a = c.args in
    let l = c.loop-i in
    let octets : Octets a.file.now = (λ i. omega (arith, c.type_inv.file i)) in
    subst (GathersTracks a.file.now a.count a.at (length a.spare.now) l.out) (sym (c.closed.ensures ∙ ap (λ (q : Result (Option ℕ) Fault). gathered_to q l.end) c.track_at-2.ensures))
    (closes a.file.now octets a.count a.at (length a.spare.now) _ _ l.place l.end l.i l.invariant.round (omega arith))
