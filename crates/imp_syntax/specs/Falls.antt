-- Each block of a statement, and each statement of a block, is smaller than it.
use Rattle.std.specs.Prelude.{ℕ, ◌+◌, ◌≤◌, List, [], ◌∷◌, Option, Some, None, Vec}
use Rattle.std.specs.Global.{Global}
use Rattle.std.specs.declared.rc.Rc.{Rc}
use Rattle.std.proofs.Common.{arith}
use Rattle.imp_syntax.specs.Plain.{Statement, statement_size, block_size, block_of}
use Rattle.imp_syntax.specs.StmtViews.{statement_of, shared_block}
use Rattle.imp_syntax.specs.declared.stmt.Stmt.{Stmt}
use Rattle.imp_syntax.specs.declared.stmt.StmtNode.{StmtNode}
use Rattle.imp_syntax.specs.declared.stmt.StmtNode.TheVariants.{Simple, Break, Call, If, While}
use Rattle.imp_syntax.specs.declared.stmt.Block.TheInside.{Inside}
use Rattle.imp_syntax.specs.declared.stmt.Block.TheDeep.{deep-Block, deep-StmtNode}
use denote.Param.Weighed.{most}

pub statement_falls : (n : ℕ) (node : StmtNode) → deep-StmtNode node ≤ statement_size (statement_of n node)
statement_falls n (Simple a) = omega arith
statement_falls n Break = omega arith
statement_falls n (Call c) = omega arith
statement_falls n (If c t e) = omega arith
statement_falls n (While c b) = omega arith

most_falls : (ss : List Statement) → most (λ s. statement_size s + 1) ss ≤ block_size (block_of ss)
most_falls [] = omega arith
most_falls (s ∷ ss) = omega (arith, most_falls ss)

stmts_fall : (ss : Option (Rc (Vec Stmt Global) Global)) → let a : Inside = record { stmts = ss } in deep-Block a ≤ block_size (shared_block ss)
stmts_fall None = omega arith
stmts_fall (Some ss) = omega (arith, most_falls ss.value.items)

pub block_falls : (a : Inside) → deep-Block a ≤ block_size (shared_block a.stmts)
block_falls a = stmts_fall a.stmts
