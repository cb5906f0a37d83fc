use Rattle.std.proofs.Common.{ℕ, ◌≡◌, ◌++◌, ◌∷◌, [], None, length, refl, ap, sym, ◌∙◌, arith}
use Rattle.imp_check.proofs.PutLemmas.{entry_past}
use Rattle.imp_table.specs.Pages.{entry_at}
use Rattle.imp_table.proofs.ChangeLemmas.{still_kept, moved_put, free_put, moved_left, free_left}
use Rattle.imp_table.proofs.PageLemmas.{nothing_in}
use Rattle.imp_table.proofs.pages.pages_of.Goals as goal

pub loop-entry-init : goal.loop-entry-init
loop-entry-init c =
    let none : (m : ℕ) → entry_at c.new-pages.result.items m ≡ None = λ m. ap (λ ps. entry_at ps m) c.new-pages.ensures.items in
    record {
      kept = λ m h. refl;
      moved = λ m h. none m ∙ sym (entry_past c.args.places.items m h);
      free = λ m h. none m;
    }

pub loop-entry-preserved-in-Continue-1 : goal.loop-entry-preserved-in-Continue-1
loop-entry-preserved-in-Continue-1 c =
    let xs = c.loop-entry.places.items in
    let ys = c.pop.new.self.items in
    let zs = c.args.places.items in
    let o = c.in-Some.entry in
    let e : xs ≡ ys ++ o ∷ [] = c.in-Some.ensures.items in
    let i = c.loop-entry.invariant in
    let f = entry_at c.loop-entry.pages.items in
    let g = entry_at c.put_at.new.pages.items in
    let k = c.len.result in
    let n : k ≡ length ys = omega (arith, c.len.ensures, c.pop.new.self.ok) in
    record {
      kept = still_kept xs ys zs o e i.kept;
      moved = moved_put xs ys zs o e i.kept f i.moved i.free g k n c.in_ok-put_at.ensures.is;
      free = free_put xs ys zs o e i.kept f i.moved i.free g k n c.in_ok-put_at.ensures.is;
    }

pub loop-entry-preserved : goal.loop-entry-preserved
loop-entry-preserved c =
    let xs = c.loop-entry.places.items in
    let ys = c.pop.new.self.items in
    let zs = c.args.places.items in
    let o = c.in-Some.entry in
    let e : xs ≡ ys ++ o ∷ [] = c.in-Some.ensures.items in
    let i = c.loop-entry.invariant in
    let f = entry_at c.loop-entry.pages.items in
    let none : o ≡ None = sym c.entry-in-Some.ensures.is ∙ nothing_in c.entry-in-Some.result (sym c.is_some.ensures ∙ c.if-is_some.false) in
    record {
      kept = still_kept xs ys zs o e i.kept;
      moved = moved_left xs ys zs o e i.kept f i.moved i.free none;
      free = free_left xs ys zs o e i.kept f i.moved i.free;
    }
