use Rattle.std.proofs.Common.{ℕ, Bool, List, [], Option, Some, None, slice_get, sym, ap, ◌∙◌}
use Rattle.std.specs.Prelude.{if◌then◌else◌}
use Rattle.std.specs.Option.{option_copied}
use Rattle.std.specs.Str.{bytes_eq}
use Rattle.imp_slots.specs.Plain.{Routine}
use Rattle.cell_names.specs.declared.frame.Point.{Point}
use Rattle.cell_names.specs.declared.frame.Point.TheVariants.{Entry}
use Rattle.imp_flow_rows.specs.Entered.{behind_or}
use Rattle.imp_flow.proofs.EnteredLemmas.{ending, end_there, end_gone}
use Rattle.imp_flow.proofs.ways.end.Goals as goal

pub returns-in_default : goal.returns-in_default
returns-in_default c =
    let x = c.args.name.now in
    let place = c.args.place in
    let gone = sym c.head.ensures.is ∙ ap option_copied c.in_default.is in
    record { is = sym (ap (λ (rs : List Routine). ending x (slice_get rs place)) (sym c.program-prog.ensures.is) ∙ end_gone c.program-prog.result.now place x gone) }

pub returns-then-eq : goal.returns-then-eq
returns-then-eq c =
    let x = c.args.name.now in
    let place = c.args.place in
    let head = c.in-Some.head.now in
    let there = sym c.head.ensures.is ∙ ap option_copied c.in-Some.is in
    let here : Option (List ℕ × Point) = Some ([], behind_or Entry head.body.last) in
    let named = ap (bytes_eq x) (sym c.name.ensures.is) ∙ sym c.if-eq.ensures in
    record {
      is =
          sym
          (ap (λ (rs : List Routine). ending x (slice_get rs place)) (sym c.program-prog.ensures.is)
          ∙ end_there c.program-prog.result.now place head x there
          ∙ ap (λ (b : Bool). if b then here else None) named
          ∙ ap (λ (q : Point). Some ([], q)) (sym c.behind_or.ensures.is));
    }

pub returns-else-eq : goal.returns-else-eq
returns-else-eq c =
    let x = c.args.name.now in
    let place = c.args.place in
    let head = c.in-Some.head.now in
    let there = sym c.head.ensures.is ∙ ap option_copied c.in-Some.is in
    let here : Option (List ℕ × Point) = Some ([], behind_or Entry head.body.last) in
    let named = ap (bytes_eq x) (sym c.name.ensures.is) ∙ sym c.if-eq.ensures in
    record {
      is =
          sym
          (ap (λ (rs : List Routine). ending x (slice_get rs place)) (sym c.program-prog.ensures.is)
          ∙ end_there c.program-prog.result.now place head x there
          ∙ ap (λ (b : Bool). if b then here else None) named);
    }
