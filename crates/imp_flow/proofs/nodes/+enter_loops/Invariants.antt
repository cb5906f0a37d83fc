use Rattle.imp_flow.proofs.nodes.+enter_loops.Given as goal

abbrev pub decreases-enter_loops : goal.decreases-enter_loops
decreases-enter_loops l = l.most
