use Rattle.dom_listseg_words.proofs.graphs.+graphs_of.Given as goal

abbrev pub decreases-graphs_of : goal.decreases-graphs_of
decreases-graphs_of l = l.many
