use Rattle.std.proofs.Common.{◌++◌, ◌∙◌, ap, codes}
use Rattle.std.specs.Fmt.{decimal}
use Rattle.daig_gen.specs.Pieces.{constant_text}
use Rattle.daig_gen.proofs.Lines.{replace_written}
use Rattle.daig_gen.proofs.turns.put_replace.Goals as goal

pub returns : goal.returns
returns c = record {
  added =
      (c.in_ok-extend_from_slice-3.ensures {u = tt}).items
      ∙ ap (λ xs. xs ++ codes "\"}\n")
      ((c.in_ok-put_constant.ensures {u = tt}).added
      ∙ ap (λ xs. xs ++ constant_text c.args.x c.args.c)
      ((c.in_ok-extend_from_slice-2.ensures {u = tt}).items
      ∙ ap (λ xs. xs ++ codes ",\"text\":\"")
      ((c.in_ok-put_number.ensures {u = tt}).added ∙ ap (λ xs. xs ++ decimal c.args.statement) (c.in_ok-extend_from_slice.ensures {u = tt}).items)))
      ∙ replace_written c.args.lines.now.items c.args.statement c.args.x c.args.c;
}
