use Rattle.std.proofs.Common.{◌++◌, ◌∙◌, ap, codes}
use Rattle.std.specs.Fmt.{decimal}
use Rattle.daig_gen.proofs.Lines.{insert_written}
use Rattle.daig_gen.proofs.turns.put_insert.Goals as goal

pub returns : goal.returns
returns c = record {
  added =
      (c.in_ok-extend_from_slice-2.ensures {u = tt}).items
      ∙ ap (λ xs. xs ++ codes "\",\"text\":\"skip;\"}\n")
      ((c.in_ok-put_number.ensures {u = tt}).added ∙ ap (λ xs. xs ++ decimal c.args.statement) (c.in_ok-extend_from_slice.ensures {u = tt}).items)
      ∙ insert_written c.args.lines.now.items c.args.statement;
}
