-- Statements as plain data. Their blocks are plain already.
use Rattle.std.specs.Prelude.{ℕ, Option, Some, None, Vec}
use Rattle.std.specs.Global.{Global}
use Rattle.imp_syntax.specs.Plain as plain
use Rattle.imp_syntax.specs.Plain.{Statement, Statements, Ends, block_of}
use Rattle.imp_syntax.specs.ActionViews.{action_of, operands_of}
use Rattle.imp_syntax.specs.declared.stmt.StmtNode.{StmtNode}
use Rattle.imp_syntax.specs.declared.stmt.StmtNode.TheVariants.{Simple, Break, Call, If, While}
use Rattle.imp_syntax.specs.declared.stmt.Stmt.{Stmt}
use Rattle.std.specs.declared.rc.Rc.{Rc}

-- the statement with this number and this outermost part
abbrev pub statement_of : ℕ → StmtNode → Statement
statement_of n (Simple a) = plain.Simple n (action_of a)
statement_of n Break = plain.Break n
statement_of n (Call c) = plain.Call n c.target c.callee (operands_of c.arguments)
statement_of n (If c t e) = plain.If n c t e
statement_of n (While c b) = plain.While n c b

-- the block that a shared list of statements makes, if there is one
abbrev pub shared_block : Option (Rc (Vec Stmt Global) Global) → Statements
shared_block None = Ends
shared_block (Some ss) = block_of ss.value.items
