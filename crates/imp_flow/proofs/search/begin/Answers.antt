use Rattle.std.proofs.Common.{Bool, List, reverse, subst, ap, ap₂, ◌∙◌}
use Rattle.std.specs.List.{list_any}
use Rattle.std.specs.BTreeMap.{is_at}
use Rattle.std.specs.BTreeSet.{contains}
use Rattle.std.specs.Ordering.{nat_cmp}
use Rattle.base_values.specs.Equal.{same}
use Rattle.imp_slots.specs.Fits.{IsChecked}
use Rattle.imp_slots.specs.Plain.{Routine}
use Rattle.imp_slots.specs.PartCodes.{layout_code}
use Rattle.batch_meaning.specs.Places.{main_layout}
use Rattle.imp_flow.proofs.ChangedSet.{search_begun}
use Rattle.imp_flow.proofs.search.begin.Goals as goal

pub returns : goal.returns
returns c =
    let same_main : List Routine → List Routine → Bool = λ ps rs. same layout_code (main_layout (reverse ps)) (main_layout (reverse rs)) in
    record {
      is =
          search_begun c.args.old.now c.args.new.now (record { pair = c.pair_of-pair.result; changed = c.add_changed.new.changed }) (contains nat_cmp c.new-changed.result) c.same_start.result c.requires.one
          (subst IsChecked c.program.ensures.is c.procs.ensures.fit)
          (subst IsChecked c.program-2.ensures.is c.procs-2.ensures.fit)
          c.pair_of-pair.ensures.told
          (λ n. ap (list_any (is_at (nat_cmp n))) c.new-changed.ensures.empty)
          (λ n. c.in_ok-add_changed.ensures.added n)
          (c.same_start.ensures.is ∙ ap₂ same_main c.program-3.ensures.is c.program-4.ensures.is);
    }
