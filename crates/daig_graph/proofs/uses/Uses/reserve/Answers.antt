use Rattle.std.proofs.Common.{◌≡◌, ℕ, ◌+◌, List, [], ◌∷◌, ◌++◌, length, sym, ap, ap₂, subst₂, ◌∙◌, arith}
use Rattle.std.proofs.lemmas.List.{length_push}
use Rattle.daig_graph.specs.declared.links.Links.{Links}
use Rattle.daig_graph.specs.Threads.{inputs_at, AreThreaded}
use Rattle.daig_graph.proofs.ThreadingKept.{threaded-more, inputs-more}
use Rattle.daig_graph.proofs.uses.Uses.reserve.Goals as goal

pub loop-alloc-preserved : goal.loop-alloc-preserved
loop-alloc-preserved c =
    let inputs = c.loop-alloc.self-inside.inputs.items in
    let links = c.loop-alloc.self-inside.links.items in
    let one_more : c.push_reserved.new.self.items ≡ inputs ++ [] ∷ [] = c.push_reserved.ensures.items ∙ ap₂ (λ v x. v ++ x ∷ []) c.reserve.ensures.items c.new-in-loop-alloc.ensures.empty in
    let long : length c.push_reserved.new.self.items ≡ length inputs + 1 = ap length one_more ∙ length_push inputs [] in
    record {
      threaded = subst₂ AreThreaded (sym {A = List (List ℕ)} one_more) (sym {A = List Links} c.in_ok-push.ensures.items) (threaded-more inputs links c.new.result c.new.ensures.first c.new.ensures.beside c.loop-alloc.invariant.threaded);
      same = λ n. ap (λ v. inputs_at v n) one_more ∙ inputs-more inputs n ∙ c.loop-alloc.invariant.same n;
      kept = omega (arith, long, c.loop-alloc.invariant.kept);
      most = omega (arith, long, c.loop-alloc-test.true, c.len.ensures, c.loop-alloc.self-inside.inputs.ok.0, c.loop-alloc.invariant.most);
    }
