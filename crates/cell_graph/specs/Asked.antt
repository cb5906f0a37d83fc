-- What a name of a program asks for.
use Rattle.std.specs.Prelude.{List}
use Rattle.domain_laws.specs.Operations.{Operations}
use Rattle.daig_order.specs.Asking.{inputs_of}
use Rattle.cell_names.specs.Paths.{CellName}
use Rattle.cell_rows.specs.Claims.{rows_of}
use Rattle.imp_flow.specs.Plans.{Plan}
use Rattle.cell_graph.specs.Same.{same_name}

-- the inputs of a name of the program
unfoldable pub inputs : {S : Type 0} → Operations S → Plan → CellName → List CellName
inputs dom plan = inputs_of (rows_of dom plan.engine plan.program same_name)
