use Rattle.imp_table.proofs.ViewLemmas.{read_is, read_right}
use Rattle.imp_table.proofs.view.View.new.Goals as goal

pub invariant_of-result : goal.invariant_of-result
invariant_of-result g c = read_right c.args.table.now.program c.args.puts.now c.args.count c.args.heads.now c.args.sites.now g.program (record { right = c.requires.right; falling = c.requires.falling })

pub returns : goal.returns
returns g c = record { is = read_is c.args.table.now.program c.args.puts.now c.args.count c.args.heads.now c.args.sites.now g.program (record { right = c.requires.right; falling = c.requires.falling }) }
