-- The code of resolvers.
use Rattle.std.specs.Prelude.{List, refl}
use Rattle.std.specs.Coded.{Coded, code_by, coded×}
use Rattle.imp_syntax.specs.Plain.{Procedure}
use Rattle.imp_syntax.specs.ProgramCode.{program_code}
use Rattle.imp_slots.specs.Plain.{Layout}
use Rattle.imp_slots.specs.PartCodes.{layout_code}
use Rattle.imp_check.specs.Slots.{Resolver}

abbrev pub resolver_code : Coded Resolver
resolver_code = code_by (Layout × List Procedure) (coded× layout_code program_code) (λ f. (f.layout, f.earlier)) (λ p. record { layout = p.0; earlier = p.1 }) (λ _. refl)
