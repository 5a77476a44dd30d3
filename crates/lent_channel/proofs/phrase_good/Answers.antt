-- `phrase_good` meets its contract: its answer is that of the phrases so far. Assumes nothing.
use Rattle.std.proofs.Common.{rules, arith, ◌≡◌, ◌<◌, ◌&&◌, Bool, length, get_or, ap, ◌∙◌}
use Rattle.phrases.specs.declared.Phrase.{Phrase}
use Rattle.phrases.specs.Phrases.{no_phrase, is_over_by, apart_of}
use Rattle.lent_channel.specs.Turns.{looked_at}
use Rattle.lent_channel.proofs.Besides.{good_none, good_one_more, good_all, good_upto}
use Rattle.lent_channel.proofs.phrase_good.Goals as goal

pub loop-j-init : goal.loop-j-init
loop-j-init c = record {
  upto = omega arith;
  so_far = c.ends_by-ok.ensures ∙ ap (is_over_by c.args.capacity) c.looked_at-p.ensures ∙ good_none c.args.c.now.head c.args.c.now.table c.args.capacity c.args.k;
}

pub loop-j-preserved : goal.loop-j-preserved
loop-j-preserved c =
    let h = c.args.c.now.head in
    let table = c.args.c.now.table in
    let all : length table ≡ 8 = search rules in
    let lt : c.loop-j.j < length table = let k = c.requires in omega (arith, all, k) in
    let before = good_upto h table c.args.capacity c.args.k c.loop-j.j in
    record {
      upto = omega arith;
      so_far = c.still_apart-ok.ensures ∙ ap (λ (b : Bool). b && apart_of c.looked_at-p.result c.looked_at.result) c.loop-j.invariant.so_far
          ∙ ap (λ (p : Phrase). before && apart_of p c.looked_at.result) c.looked_at-p.ensures
          ∙ ap (λ (q : Phrase). before && apart_of (looked_at (get_or table c.args.k no_phrase) c.args.k h) q) c.looked_at.ensures
          ∙ good_one_more h table c.args.capacity c.args.k c.loop-j.j lt;
    }

pub returns : goal.returns
returns c =
    let h = c.args.c.now.head in
    let table = c.args.c.now.table in
    let all : length table ≡ 8 = search rules in
    let lt : c.args.k < length table = let k = c.requires in omega (arith, all, k) in
    let end : c.loop-j.j ≡ c.args.k = omega arith in
    c.loop-j.invariant.so_far ∙ ap (good_upto h table c.args.capacity c.args.k) end ∙ good_all h table c.args.capacity c.args.k lt
