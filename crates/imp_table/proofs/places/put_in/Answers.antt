use Rattle.std.proofs.Common.{◌≡◌, ◌<◌, ◌≤◌, ◌∙◌, sym, ap, length, slice_index_or, arith, subst}
use Rattle.imp_table.specs.Changes.{overlay}
use Rattle.imp_table.specs.Pages.{entry_at, lengths, HasPlace, HavePlaces}
use Rattle.imp_table.specs.declared.change.Put.{Put}
use Rattle.imp_table.proofs.OverlayLemmas.{back_there, overlay_back, at_same, drop_more, as_long, overlay_step, back_step, all_back, all_in}
use Rattle.imp_table.proofs.FallingLemmas.{falling_once}
use Rattle.imp_table.proofs.places.put_in.Goals as goal

pub put_one-requires : goal.put_one-requires
put_one-requires c =
    let i = c.loop-i.i in
    let xs = c.loop-i.puts in
    let ys = c.args.puts.now in
    let inv = c.loop-i.invariant in
    let d : Put = c.index-puts-i.result in
    let k : i < length ys = c.loop-i-test.true in
    let l : i < length xs = omega (arith, k, inv.as_many) in
    let f : (slice_index_or xs i d).number ≡ (slice_index_or ys i d).number = ap (λ (z : Put). z.number) (at_same xs ys i d l k inv.rest) in
    record { there = subst (λ ls. HasPlace ls (slice_index_or xs i d).number) (sym inv.places) (subst (HasPlace (lengths c.args.pages.now)) (sym f) (c.requires.there.there i d k)) }

pub loop-i-preserved : goal.loop-i-preserved
loop-i-preserved c =
    let i = c.loop-i.i in
    let xs = c.loop-i.puts in
    let ys = c.args.puts.now in
    let inv = c.loop-i.invariant in
    let d : Put = c.index-puts-i.result in
    let k : i < length ys = c.loop-i-test.true in
    let l : i < length xs = omega (arith, k, inv.as_many) in
    let e = at_same xs ys i d l k inv.rest in
    record {
      places = c.put_one.ensures.places ∙ inv.places;
      as_many = as_long xs ys i c.put_one.new.put inv.as_many;
      rest = drop_more xs ys i c.put_one.new.put inv.rest;
      back = back_step ys (entry_at c.args.pages.now) i d (slice_index_or xs i d) k e (falling_once ys c.requires.there.falling) xs (entry_at c.loop-i.pages) c.put_one.new.put l c.put_one.ensures.number c.put_one.ensures.entry inv.put inv.back;
      put = overlay_step ys (entry_at c.args.pages.now) i d (slice_index_or xs i d) k e (falling_once ys c.requires.there.falling) (entry_at c.loop-i.pages) (entry_at c.put_one.new.pages) c.put_one.ensures.is inv.put;
    }

pub returns-clause-back : goal.returns-clause-back
returns-clause-back c =
    let i = c.loop-i.i in
    let ys = c.args.puts.now in
    let inv = c.loop-i.invariant in
    let h : length ys ≤ i = omega (arith, c.loop-i-test.false) in
    let e = all_back ys c.loop-i.puts (entry_at c.args.pages.now) i h inv.as_many inv.back in
    λ m. ap (λ ps. overlay ps (entry_at c.loop-i.pages) m) e ∙ overlay_back ys (entry_at c.args.pages.now) (entry_at c.loop-i.pages) (all_in ys (entry_at c.args.pages.now) (entry_at c.loop-i.pages) i h inv.put) m

pub returns-clause-back_there : goal.returns-clause-back_there
returns-clause-back_there c =
    let i = c.loop-i.i in
    let ys = c.args.puts.now in
    let inv = c.loop-i.invariant in
    let h : length ys ≤ i = omega (arith, c.loop-i-test.false) in
    subst (HavePlaces (lengths c.args.pages.now)) (sym (all_back ys c.loop-i.puts (entry_at c.args.pages.now) i h inv.as_many inv.back)) (back_there (entry_at c.args.pages.now) ys (lengths c.args.pages.now) c.requires.there)
