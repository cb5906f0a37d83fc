use Rattle.std.specs.Prelude.{◌≡◌, ◌*◌, FitsSigned, Some}
use Rattle.std.proofs.Common.{ap, inl, rules, sym, subst, ◌∙◌}
use Rattle.std.proofs.lemmas.Int.{to_z-of_z}
use mir.Syntax.{w128}
use Rattle.dbm_core.specs.Limits.{IsWithin}
use Rattle.dbm_narrow.proofs.ConvertLemmas.{small-entry}
use Rattle.dbm_narrow.proofs.EntryLemmas.{wide-none}
use Rattle.dbm_narrow.specs.Entries.{IsEntry, wide}
use Rattle.dbm_narrow.proofs.convert.entry_of.Goals as goal

pub returns-in-None : goal.returns-in-None
returns-in-None gen c = record {
  entry = (ap (wide gen.W.Width.unit) c.none.ensures.value ∙ wide-none gen.W.Width.unit gen.W.Width.positive ∙ sym c.in-None.is, inl c.none.ensures.value);
}

pub returns-in-Some : goal.returns-in-Some
returns-in-Some gen c =
    let within : IsWithin (2 * gen.W.Width.unit) (Some c.in-Some.x) = subst (IsWithin (2 * gen.W.Width.unit)) c.in-Some.is c.requires.within in
    let f : FitsSigned w128 c.in-Some.x = search rules in
    let e : c.of.result ≡ c.in-Some.x = c.of.ensures.value ∙ to_z-of_z w128 c.in-Some.x f in
    let q : (wide gen.W.Width.unit c.of.result ≡ Some c.in-Some.x) × IsEntry gen.W.Width.unit (2 * gen.W.Width.unit) c.of.result =
    small-entry gen.W.Width.unit gen.W.Width.positive c.in-Some.x (Some c.of.result) (e, subst (λ x. IsWithin (2 * gen.W.Width.unit) (Some x)) (sym e) within) in
    record { entry = (q.0 ∙ sym c.in-Some.is, q.1) }
