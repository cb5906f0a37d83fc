-- The codes of blocks and procedures.
use Rattle.std.specs.Prelude.{zero, suc, [], ◌≡◌, refl}
use base.Stored.{Coded, Gv, gnil, gnum, gcons}
use Rattle.std.specs.Coded.{code_by}
use denote.Struct.Codes.{itself}
use Rattle.base_values.specs.Equal.{text_to, text_from, text_from_to}
use Rattle.imp_slots.specs.Codes.{guard_to, guard_from, guard_from_to}
use Rattle.imp_slots.specs.PartCodes.{effect_to, effect_from, effect_from_to, layout_to, layout_from, layout_from_to, invoke_to, invoke_from, invoke_from_to}
use Rattle.imp_slots.specs.Plain.{Code, Stop, Simple, If, While, Call, Break, Routine}

-- the first statement, then what comes after it
abbrev pub code_to : Code → Gv
code_to Stop = gnil
code_to (Simple n e r) = gcons (gcons (gnum 0) (gcons (gnum n) (effect_to e))) (code_to r)
code_to (If n g t e r) = gcons (gcons (gnum 1) (gcons (gnum n) (gcons (guard_to g) (gcons (code_to t) (code_to e))))) (code_to r)
code_to (While n g b r) = gcons (gcons (gnum 2) (gcons (gnum n) (gcons (guard_to g) (code_to b)))) (code_to r)
code_to (Call n i q r) = gcons (gcons (gnum 3) (gcons (gnum n) (gcons (invoke_to i) (gnum q)))) (code_to r)
code_to (Break n r) = gcons (gcons (gnum 4) (gnum n)) (code_to r)

abbrev pub code_from : Gv → Code
code_from (gcons (gcons (gnum zero) (gcons (gnum n) e)) r) = Simple n (effect_from e) (code_from r)
code_from (gcons (gcons (gnum (suc zero)) (gcons (gnum n) (gcons g (gcons t e)))) r) = If n (guard_from g) (code_from t) (code_from e) (code_from r)
code_from (gcons (gcons (gnum (suc (suc zero))) (gcons (gnum n) (gcons g b))) r) = While n (guard_from g) (code_from b) (code_from r)
code_from (gcons (gcons (gnum (suc (suc (suc zero)))) (gcons (gnum n) (gcons i (gnum q)))) r) = Call n (invoke_from i) q (code_from r)
code_from (gcons (gcons (gnum (suc (suc (suc (suc k))))) (gnum n)) r) = Break n (code_from r)
code_from _ = Stop

pub code_from_to : (c : Code) → code_from (code_to c) ≡ c
code_from_to Stop = refl
code_from_to (Simple n e r) = λ i. Simple n (effect_from_to e i) (code_from_to r i)
code_from_to (If n g t e r) = λ i. If n (guard_from_to g i) (code_from_to t i) (code_from_to e i) (code_from_to r i)
code_from_to (While n g b r) = λ i. While n (guard_from_to g i) (code_from_to b i) (code_from_to r i)
code_from_to (Call n c q r) = λ i. Call n (invoke_from_to c i) q (code_from_to r i)
code_from_to (Break n r) = λ i. Break n (code_from_to r i)

abbrev pub code_code : Coded Code
code_code = code_by Gv itself code_to code_from code_from_to

abbrev pub routine_to : Routine → Gv
routine_to r = gcons (text_to r.name) (gcons (layout_to r.layout) (code_to r.code))

abbrev pub routine_from : Gv → Routine
routine_from (gcons name (gcons layout code)) = record { name = text_from name; layout = layout_from layout; code = code_from code }
routine_from _ = record { name = []; layout = layout_from gnil; code = Stop }

pub routine_from_to : (r : Routine) → routine_from (routine_to r) ≡ r
routine_from_to r = λ i. record { name = text_from_to r.name i; layout = layout_from_to r.layout i; code = code_from_to r.code i }

abbrev pub routine_code : Coded Routine
routine_code = code_by Gv itself routine_to routine_from routine_from_to
