use Rattle.std.proofs.Common.{Some, sym, ap, ◌∙◌, rules}
use Rattle.std.proofs.lemmas.Option.{same_Some}
use Rattle.daig_graph.specs.declared.links.Beside.{Beside}
use Rattle.daig_graph.specs.Threads.{beside_at}
use Rattle.daig_graph.proofs.Threading.{linked-cell, linked-place, linked-marks, linked-old}
use Rattle.daig_graph.proofs.uses.set_before.Goals as goal

pub index_mut-requires : goal.index_mut-requires
index_mut-requires c =
    let inside = linked-cell c.args.links.now.items c.in-Some.field-0 c.args.link (sym c.used.ensures.used ∙ c.in-Some.is) c.requires.there in
    search rules

pub bounds-beside-place : goal.bounds-beside-place
bounds-beside-place c = linked-place c.args.links.now.items c.in-Some.field-0 c.args.link (sym c.used.ensures.used ∙ c.in-Some.is) c.requires.there c.index_mut.result.now c.index_mut.ensures.value c.as_mut_slice-beside.result.now c.as_mut_slice-beside.ensures.value

pub bounds-beside-place-in-Some : goal.bounds-beside-place-in-Some
bounds-beside-place-in-Some c = linked-place c.args.links.now.items c.in-Some.field-0 c.args.link (sym c.used.ensures.used ∙ c.in-Some.is) c.requires.there c.index_mut.result.now c.index_mut.ensures.value c.as_mut_slice-beside.result.now c.as_mut_slice-beside.ensures.value

pub offset_bounds-beside-place : goal.offset_bounds-beside-place
offset_bounds-beside-place c =
    let inside = linked-place c.args.links.now.items c.in-Some.field-0 c.args.link (sym c.used.ensures.used ∙ c.in-Some.is) c.requires.there c.index_mut.result.now c.index_mut.ensures.value c.as_mut_slice-beside.result.now c.as_mut_slice-beside.ensures.value in
    search rules

pub returns-in-Some : goal.returns-in-Some
returns-in-Some c =
    let links = c.args.links.now.items in
    let is = sym c.used.ensures.used ∙ c.in-Some.is in
    let m = linked-marks links c.in-Some.field-0 c.args.link is c.requires.there c.index_mut.result.now c.index_mut.ensures.value c.as_mut_slice-beside.result.now c.as_mut_slice-beside.ensures.value _ in
    record {
      set = λ v b e f. ap (beside_at _) (same_Some _ _ (sym e ∙ is)) ∙ m.here ∙ ap (λ (w : Beside). Some (record w { before = c.args.before }))
          (linked-old links c.in-Some.field-0 c.args.link is c.requires.there c.index_mut.result.now c.index_mut.ensures.value c.as_mut_slice-beside.result.now c.as_mut_slice-beside.ensures.value v b _ e f);
      others = λ v ne. m.others v (λ same. ne (is ∙ ap Some (sym same)));
      firsts = m.firsts;
      shape = m.shape;
    }
