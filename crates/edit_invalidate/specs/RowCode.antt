-- Comparing two rows of one name, where its path is known to be empty or not.
use Rattle.std.specs.Prelude.{Bool, true, false, ◌&&◌, ◌||◌, List, [], ◌∷◌, ◌==◌}
use Rattle.std.specs.Cmp.Lexicographic.{pointwise}
use Rattle.std.specs.Ordering.{int_eq}
use Rattle.base_values.specs.Equal.{same, code_same}
use Rattle.imp_slots.specs.Codes.{guard_code}
use Rattle.imp_slots.specs.PartCodes.{layout_code, entering_code, returning_to}
use Rattle.imp_slots.specs.EnumCodes.{stmt_coded}
use Rattle.domain_laws.specs.Claims.{same_truth}
use Rattle.cell_names.specs.contracts.frame.NameFramePartialEq.TheImpl as frames
use Rattle.cell_names.specs.contracts.frame.PointPartialEq.TheImpl as points
use Rattle.imp_flow_rows.specs.declared.input.Input.{Input}
use Rattle.imp_flow_rows.specs.declared.input.Way.{Way}
use Rattle.imp_flow_rows.specs.declared.input.Way.TheVariants.{Here, Out, Into}
use Rattle.imp_flow_rows.specs.declared.row.Unary.{Unary}
use Rattle.imp_flow_rows.specs.declared.row.Unary.TheVariants as one
use Rattle.imp_flow_rows.specs.declared.row.Binary.{Binary}
use Rattle.imp_flow_rows.specs.declared.row.Binary.TheVariants as two
use Rattle.imp_flow_rows.specs.declared.row.Row.{Row}
use Rattle.imp_flow_rows.specs.declared.row.Row.TheVariants.{Init, One, Two, Fixed, Joins}
use Rattle.imp_flow_rows.specs.Near.{PathFrame}

-- Outside main's block is main's block.
abbrev pub same_ways : (in_main : Bool) → Way → Way → Bool
same_ways in_main Here Here = true
same_ways in_main Here Out = in_main
same_ways in_main Here (Into g) = false
same_ways in_main Out Here = in_main
same_ways in_main Out Out = true
same_ways in_main Out (Into g) = false
same_ways in_main (Into f) Here = false
same_ways in_main (Into f) Out = false
same_ways in_main (Into f) (Into g) = frames.ghosts.eq f g

abbrev pub same_inputs : (in_main : Bool) → Input → Input → Bool
same_inputs in_main a b = points.ghosts.eq a.point b.point && same_ways in_main a.way b.way

abbrev pub same_unary : Unary → Unary → Bool
same_unary (one.Post s) (one.Post t) = same stmt_coded s.now t.now
same_unary (one.Assume c h) (one.Assume d i) = same guard_code c.now d.now && same_truth h i
same_unary (one.Enter c) (one.Enter d) = same entering_code c.now.entering d.now.entering
same_unary (one.Exit c) (one.Exit d) = same guard_code c.now d.now
same_unary _ _ = false

abbrev pub same_binary : Binary → Binary → Bool
same_binary two.Join two.Join = true
same_binary (two.Leave c) (two.Leave d) = code_same (returning_to c.now.returning) (returning_to d.now.returning)
same_binary (two.Widen m) (two.Widen k) = pointwise int_eq m.now k.now
same_binary _ _ = false

abbrev pub same_row : (in_main : Bool) → (left_alone : Bool) → Row → Row → Bool
same_row in_main alone (Init l) (Init m) = same layout_code l.now m.now
same_row in_main alone (One o a) (One q b) = same_unary o q && same_inputs in_main a b
same_row in_main alone (Two o a b) (Two q c d) = same_binary o q && (same_inputs in_main a c && same_inputs in_main b d)
same_row in_main alone (Fixed n p) (Fixed m q) = (n == m) && points.ghosts.eq p q
same_row in_main alone (Joins s l n p) (Joins t k m q) = points.ghosts.eq l k && (alone || (same_truth s t && ((n == m) && points.ghosts.eq p q)))
same_row in_main alone _ _ = false

abbrev pub is_nil : List PathFrame → Bool
is_nil [] = true
is_nil (f ∷ w) = false
