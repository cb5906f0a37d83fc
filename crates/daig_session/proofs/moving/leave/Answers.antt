use Rattle.std.proofs.Common.{arith, ap, sym, subst, ◌∙◌}
use Rattle.edit_keeps.specs.Apart.{flow_of}
use Rattle.daig_query.specs.Renamed.{names_after}
use Rattle.daig_query.specs.Stale.{AreStaleOf}
use Rattle.daig_query.specs.Swept.{most_held, IsWithin, StaysRight}
use Rattle.daig_query.proofs.Fewer.{lessens-there, made-fewer, swept-there}
use Rattle.daig_query.proofs.Renames.{renames-within}
use Rattle.daig_query.proofs.Sweeps.{lessens-in-tables, swept-bounded, swept-in-tables}
use Rattle.daig_session.proofs.Moved.{leaves}
use Rattle.daig_session.proofs.Swept.{renamed-leaves, swept-leaves}
use Rattle.daig_session.proofs.moving.leave.Goals as goal

pub sweep-requires : goal.sweep-requires
sweep-requires g c = record { held = lessens-in-tables c.args.engine.now.store c.empty.new.self.store c.empty.ensures.lessens c.requires.held }

pub rename-requires : goal.rename-requires
rename-requires g c =
    let old = c.args.engine.now.store in
    let mid = c.empty.new.self.store in
    let swept = c.sweep.new.self.store in
    let less = c.empty.ensures.lessens in
    let names = c.sweep.ensures.swept.names ∙ less.names in
    record {
      held = swept-in-tables mid swept c.sweep.ensures.swept (lessens-in-tables old mid less c.requires.held);
      renaming = made-fewer old swept names (λ n s. lessens-there old mid less n (swept-there mid swept c.sweep.ensures.swept n s)) c.args.renaming c.requires.renaming;
    }

pub returns-clause-leaves : goal.returns-clause-leaves
returns-clause-leaves g c = λ e old new apart right empties.
    let ops = g.D.Domain.operations in
    let dom = ops c.args.engine.now.domain in
    let before = c.args.engine.now.store in
    let mid = c.empty.new.self.store in
    let swept = c.sweep.new.self.store in
    let named = c.rename.new.self.store in
    let from = flow_of e old in
    let to = flow_of e new in
    let stale = subst (λ touched. AreStaleOf before.graph.cells c.args.plan.order touched mid.stale) c.as_slice.ensures.same c.empty.ensures.stale in
    let left = leaves dom e old new before mid c.args.plan apart right empties c.empty.ensures.lessens c.empty.ensures.removes stale in
    let stays = subst (λ d. StaysRight (ops d) mid swept) c.empty.ensures.domain c.sweep.ensures.right in
    let stays_named = subst (λ d. StaysRight (ops d) swept named) (c.sweep.ensures.domain ∙ c.empty.ensures.domain) c.rename.ensures.right in
    renamed-leaves dom swept named c.rename.ensures.renames before from to stays_named (swept-leaves dom mid swept c.sweep.ensures.swept before from to stays left)

pub returns-clause-bounded : goal.returns-clause-bounded
returns-clause-bounded g c =
    let swept = c.sweep.new.self.store in
    let named = c.rename.new.self.store in
    let spare = c.rename.new.self.spare in
    let bounded = subst (λ n. IsWithin (most_held n swept) swept) (sym (c.rename.ensures.spare ∙ c.sweep.ensures.spare)) c.sweep.ensures.bounded in
    swept-bounded spare named (renames-within swept named c.rename.ensures.renames spare bounded)

pub returns-clause-names : goal.returns-clause-names
returns-clause-names g c = c.rename.ensures.names ∙ ap (λ names. names_after names c.args.renaming) (c.sweep.ensures.swept.names ∙ c.empty.ensures.lessens.names)

pub returns-clause-stale : goal.returns-clause-stale
returns-clause-stale g c =
    let swept = c.sweep.ensures.swept.stale in
    let named = c.rename.ensures.renames.stale in
    omega (arith, c.empty.ensures.few, swept, named)
