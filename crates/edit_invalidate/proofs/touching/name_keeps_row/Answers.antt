use Rattle.std.proofs.Common.{◌==◌, Option, Some, refl, subst}
use Rattle.imp_flow_rows.specs.declared.row.Row.{Row}
use Rattle.edit_invalidate.proofs.Keeping.{Finds, none_told, both_have}
use Rattle.edit_invalidate.proofs.touching.name_keeps_row.Goals as goal

pub returns-in-Some-row : goal.returns-in-Some-row
returns-in-Some-row c =
    let frame = c.last_of-frame.result in
    let point = c.args.name.now.point in
    let h : Finds c.args.old.now frame point (Some c.in-Some.row) = subst (λ (o : Option Row). Finds c.args.old.now frame point o) c.in-Some.is c.row.ensures.is in
    let k : Finds c.args.new.now frame point (Some c.in-Some-row.other) = subst (λ (o : Option Row). Finds c.args.new.now frame point o) c.in-Some-row.is c.row-in-Some.ensures.is in
    record {
      is =
          both_have c.args.old.now c.args.new.now c.args.names.now.paths c.args.name.now c.args.inputs frame c.last_of-frame.ensures.is c.in-Some.row c.in-Some-row.other c.same_rows.result c.is_none.result (c.args.inputs == 1) h k
          (none_told frame c.is_none.result c.is_none.ensures) refl c.same_rows.ensures.told;
    }
