use Rattle.std.proofs.Common.{◌≡◌, ℕ, ◌<◌, ◌==◌, cond, ◌++◌, ◌∷◌, [], List, Option, ap, ◌∙◌, subst}
use Rattle.std.specs.List.{All}
use Rattle.imp_table.specs.Changes.{overlay}
use Rattle.imp_check.specs.Entries.{entry_of}
use Rattle.imp_check.specs.Faults.{first}
use Rattle.imp_check.specs.declared.entry.Entry.{Entry}
use Rattle.imp_edit.proofs.SpliceLemmas.{popped, all_front, all_last}
use Rattle.imp_edit.proofs.neighbour_entries.put_come.Goals as goal

pub loop-entry-preserved : goal.loop-entry-preserved
loop-entry-preserved c =
    let xs = c.loop-entry.entries.items in
    let ys = c.pop.new.self.items in
    let e = c.in-Some.entry in
    let inv = c.loop-entry.invariant in
    let q : xs ≡ ys ++ e ∷ [] = c.in-Some.ensures.items in
    let put = c.in_ok-put_at.ensures in
    let below : (b : ℕ) → All (λ (x : Entry). x.number < b) c.args.entries.items → All (λ (x : Entry). x.number < b) (ys ++ e ∷ []) = λ b a. subst (λ (zs : List Entry). All (λ (x : Entry). x.number < b) zs) q (inv.left b a) in
    record {
      falling = put.falling;
      is = λ at m.
          ap (first (entry_of ys m)) (put.is at m ∙ ap (λ (o : Option Entry). cond (e.number == m) o (overlay c.loop-entry.puts.items at m)) c.in_ok-place.ensures.is)
          ∙ popped xs ys e m (overlay c.loop-entry.puts.items at m) q
          ∙ inv.is at m;
      left = λ b a. all_front (λ (x : Entry). x.number < b) ys e (below b a);
      within = λ b a w. put.within b (all_last (λ (x : Entry). x.number < b) ys e (below b a)) (inv.within b a w);
    }
