use Rattle.std.proofs.Common.{ℕ, ◌≡◌, ◌<◌, ◌≤◌, ◌-◌, ◌++◌, ◌∷◌, [], List, suc, refl, sym, ◌∙◌, subst, arith}
use Rattle.std.specs.List.{All}
use Rattle.imp_check.specs.Entries.{entries_of, entry_of}
use Rattle.imp_table.specs.Changes.{overlay, AreWithin}
use Rattle.imp_table.specs.Pages.{entry_at}
use Rattle.imp_table.specs.declared.change.Put.{Put}
use Rattle.imp_table.proofs.ChangeLemmas.{comes_put, high_put, within_put, comes_left, high_left}
use Rattle.imp_table.proofs.table.changed_places.Goals as goal

pub loop-number-preserved-in-Continue-1 : goal.loop-number-preserved-in-Continue-1
loop-number-preserved-in-Continue-1 c =
    let i = c.loop-number.invariant in
    let k : ℕ = c.loop-number.number - 1 in
    let s : c.loop-number.number ≡ suc k = omega (arith, c.loop-number-test.true) in
    let b = c.args.below in
    let zs = entry_at c.args.pages.items in
    let at = entry_of (entries_of c.args.from.now.program) in
    let ps = c.loop-number.puts.items in
    let is : c.take_at-entry.result ≡ zs k = c.take_at-entry.ensures.is ∙ i.kept k (omega (arith, s)) in
    let high : All (λ (q : Put). suc k ≤ q.number) ps = λ j d h. omega (arith, s, i.high j d h) in
    let comes : (m : ℕ) → suc k ≤ m → m < b → overlay ps at m ≡ zs m = λ m h l. i.comes m (omega (arith, s, h)) l in
    let p : Put = record { number = k; entry = c.take_at-entry.result } in
    let pushed : c.push.new.self.items ≡ ps ++ p ∷ [] = c.in_ok-push.ensures.items in
    record {
      order = omega (arith, i.order);
      kept = λ m h. c.take_at-entry.ensures.others m h ∙ i.kept m (omega (arith, h, s));
      comes = subst (λ (qs : List Put). (m : ℕ) → k ≤ m → m < b → overlay qs at m ≡ zs m) (sym pushed) (comes_put k b zs at ps high comes p refl is);
      high = subst (λ (qs : List Put). All (λ (q : Put). k ≤ q.number) qs) (sym pushed) (high_put k b zs at ps high comes p refl);
      within = subst (AreWithin b) (sym pushed) (within_put k b zs at ps high comes p refl (omega (arith, s, i.order)) i.within);
    }

pub loop-number-preserved : goal.loop-number-preserved
loop-number-preserved c =
    let i = c.loop-number.invariant in
    let k : ℕ = c.loop-number.number - 1 in
    let s : c.loop-number.number ≡ suc k = omega (arith, c.loop-number-test.true) in
    let b = c.args.below in
    let zs = entry_at c.args.pages.items in
    let at = entry_of (entries_of c.args.from.now.program) in
    let ps = c.loop-number.puts.items in
    let is : c.take_at-entry.result ≡ zs k = c.take_at-entry.ensures.is ∙ i.kept k (omega (arith, s)) in
    let high : All (λ (q : Put). suc k ≤ q.number) ps = λ j d h. omega (arith, s, i.high j d h) in
    let comes : (m : ℕ) → suc k ≤ m → m < b → overlay ps at m ≡ zs m = λ m h l. i.comes m (omega (arith, s, h)) l in
    let none = c.stands.ensures.neither c.if-stands.false in
    record {
      order = omega (arith, i.order);
      kept = λ m h. c.take_at-entry.ensures.others m h ∙ i.kept m (omega (arith, h, s));
      comes = comes_left k b zs at ps high comes (sym is ∙ none.0, none.1);
      high = high_left k b zs at ps high comes;
      within = i.within;
    }
