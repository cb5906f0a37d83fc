use Rattle.std.proofs.Common.{Some, slice_get, length, refl, sym, ap, ◌∙◌, rules}
use Rattle.std.proofs.lemmas.Option.{same_Some, slice_get_read}
use Rattle.daig_graph.specs.declared.links.Beside.{Beside}
use Rattle.daig_graph.specs.Threads.{beside_at, beside_of}
use Rattle.daig_graph.proofs.Cases.{none-some}
use Rattle.daig_graph.proofs.Threading.{besides-kept, first-here, first-other, one_shape, linked-cell, linked-place, linked-marks, linked-old}
use Rattle.daig_graph.proofs.uses.set_next.Goals as goal

pub index_mut-requires-in-Some : goal.index_mut-requires-in-Some
index_mut-requires-in-Some c =
    let inside = linked-cell c.args.links.now.items c.in-Some.field-0 c.args.link (sym c.used.ensures.used ∙ c.in-Some.is) c.requires.there in
    search rules

pub bounds-beside-place : goal.bounds-beside-place
bounds-beside-place c = linked-place c.args.links.now.items c.in-Some.field-0 c.args.link (sym c.used.ensures.used ∙ c.in-Some.is) c.requires.there c.index_mut-in-Some.result.now c.index_mut-in-Some.ensures.value c.as_mut_slice-beside.result.now c.as_mut_slice-beside.ensures.value

pub bounds-beside-place-in-Some : goal.bounds-beside-place-in-Some
bounds-beside-place-in-Some c = linked-place c.args.links.now.items c.in-Some.field-0 c.args.link (sym c.used.ensures.used ∙ c.in-Some.is) c.requires.there c.index_mut-in-Some.result.now c.index_mut-in-Some.ensures.value c.as_mut_slice-beside.result.now c.as_mut_slice-beside.ensures.value

pub offset_bounds-beside-place : goal.offset_bounds-beside-place
offset_bounds-beside-place c =
    let inside = linked-place c.args.links.now.items c.in-Some.field-0 c.args.link (sym c.used.ensures.used ∙ c.in-Some.is) c.requires.there c.index_mut-in-Some.result.now c.index_mut-in-Some.ensures.value c.as_mut_slice-beside.result.now c.as_mut_slice-beside.ensures.value in
    search rules

pub returns-in-None : goal.returns-in-None
returns-in-None c =
    let links = c.args.links.now.items in
    let at = slice_get_read links (length links) c.args.number c.index_mut.result.now refl c.requires.number c.index_mut.ensures.value in
    let none = sym c.used.ensures.used ∙ c.in-None.is in
    record {
      set = λ v b e f. none-some (sym none ∙ e);
      others = λ v ne. ap (λ bs. slice_get bs v.place) (besides-kept links c.args.number _ c.requires.number (ap beside_of at) v.cell);
      first = λ e. first-here links c.args.number _ c.requires.number;
      firsts = λ n other. first-other links c.args.number _ c.requires.number n (other none);
      shape = one_shape links c.args.number _ c.requires.number c.index_mut.result.now at refl refl;
    }

pub returns-in-Some : goal.returns-in-Some
returns-in-Some c =
    let links = c.args.links.now.items in
    let is = sym c.used.ensures.used ∙ c.in-Some.is in
    let m = linked-marks links c.in-Some.field-0 c.args.link is c.requires.there c.index_mut-in-Some.result.now c.index_mut-in-Some.ensures.value c.as_mut_slice-beside.result.now c.as_mut_slice-beside.ensures.value _ in
    record {
      set = λ v b e f. ap (beside_at _) (same_Some _ _ (sym e ∙ is)) ∙ m.here ∙ ap (λ (w : Beside). Some (record w { next = c.args.next }))
          (linked-old links c.in-Some.field-0 c.args.link is c.requires.there c.index_mut-in-Some.result.now c.index_mut-in-Some.ensures.value c.as_mut_slice-beside.result.now c.as_mut_slice-beside.ensures.value v b _ e f);
      others = λ v ne. m.others v (λ same. ne (is ∙ ap Some (sym same)));
      first = λ none. none-some (sym none ∙ is);
      firsts = λ n other. m.firsts n;
      shape = m.shape;
    }
