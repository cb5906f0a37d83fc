-- Linked lists with the same members and first items.
use Rattle.std.proofs.Common.{◌≡◌, ℕ, Option, sym, ◌∙◌}
use Rattle.daig_graph.specs.Linked.{Member, AreLinked}

pub linked-along : {K : Type 0} (old new : K → Option (Member K)) (firsts new_firsts : ℕ → Option K) → ((k : K) → new k ≡ old k) → ((l : ℕ) → new_firsts l ≡ firsts l) → AreLinked old firsts → AreLinked new new_firsts
linked-along old new firsts new_firsts same same_first linked = record {
  first = λ l k e. let h = linked.first l k (sym (same_first l) ∙ e) in (h.0, same k ∙ h.1, h.2, h.3);
  front = λ k m e n. same_first m.list ∙ linked.front k m (sym (same k) ∙ e) n;
  back = λ k j m e n. let h = linked.back k j m (sym (same k) ∙ e) n in (h.0, same j ∙ h.1, h.2, h.3);
  ahead = λ k j m e n. let h = linked.ahead k j m (sym (same k) ∙ e) n in (h.0, same j ∙ h.1, h.2, h.3);
  rank = linked.rank;
  peak = linked.peak;
  falls = λ k j m e n. linked.falls k j m (sym (same k) ∙ e) n;
  low = λ k m e. linked.low k m (sym (same k) ∙ e);
}
