use Rattle.std.proofs.Common.{◌≡◌, ℕ, ◌<◌, [], cond, List, None, Option, sym, ap, ◌∙◌, subst}
use Rattle.std.specs.List.{All}
use Rattle.std.specs.Option.{option_map}
use Rattle.imp_syntax.specs.Plain.{numbers}
use Rattle.imp_table.specs.Changes.{overlay}
use Rattle.imp_check.specs.Entries.{block_entries, entries_of, entry_of, resolver_at}
use Rattle.imp_check.specs.Parts.{first_or, last_or}
use Rattle.imp_check.specs.Programs.{has}
use Rattle.imp_check.specs.declared.entry.Entry.{Entry}
use Rattle.imp_check.proofs.RebuildLemmas.{entry_numbers, block_numbers}
use Rattle.edit_entries.specs.Spliced.{is, with_front, with_next}
use Rattle.imp_edit.proofs.SpliceLemmas.{come_is, all_numbers_below}
use Rattle.imp_edit.proofs.neighbour_entries.puts_of.Goals as goal

pub returns-clause-are : goal.returns-clause-are
returns-clause-are c m =
    let g = c.args.gap.now in
    let news = c.args.news.now in
    let at = entry_of (entries_of c.args.table.now.program) in
    let f = resolver_at [] c.args.head.now.bare in
    let es = c.args.entries.items in
    let come = block_entries f g.context g.front g.next news in
    let e : entry_numbers es ≡ numbers news = ap entry_numbers c.requires.come ∙ block_numbers f g.context g.front g.next news in
    let x = overlay c.put_front.new.puts.items at m in
    c.in_ok-put_gone.ensures.is at m
    ∙ ap (λ (ns : List ℕ). cond (has ns m) None (overlay c.put_come.new.puts.items at m)) c.as_slice.ensures.same
    ∙ ap (λ (o : Option Entry). cond (has g.gone m) None o)
    (c.in_ok-put_come.ensures.is at m
    ∙ come_is es (numbers news) m x e
    ∙ ap (λ (zs : List Entry). cond (has (numbers news) m) (entry_of zs m) x) c.requires.come
    ∙ ap (λ (o : Option Entry). cond (has (numbers news) m) (entry_of come m) o)
    (c.in_ok-put_front.ensures.is m
    ∙ ap (λ (o : Option Entry). cond (is g.front m) (option_map (with_next (first_or news g.next)) (at m)) o)
    (c.in_ok-put_next.ensures.is m
    ∙ ap (λ (o : Option Entry). cond (is g.next m) (option_map (with_front (last_or news g.front)) (at m)) o) (c.in_ok-puts.ensures.are m))))

pub returns-clause-within : goal.returns-clause-within
returns-clause-within c b w =
    let g = c.args.gap.now in
    let news = c.args.news.now in
    let f = resolver_at [] c.args.head.now.bare in
    let es = c.args.entries.items in
    let e : entry_numbers es ≡ numbers news = ap entry_numbers c.requires.come ∙ block_numbers f g.context g.front g.next news in
    c.in_ok-put_gone.ensures.within b (subst (λ (ns : List ℕ). All (λ (n : ℕ). n < b) ns) (sym c.as_slice.ensures.same) w.gone)
    (c.in_ok-put_come.ensures.within b (all_numbers_below b es (subst (λ (ns : List ℕ). All (λ (n : ℕ). n < b) ns) (sym e) w.come))
    (c.in_ok-put_front.ensures.within b w.front
    (c.in_ok-put_next.ensures.within b w.next (c.in_ok-puts.ensures.within b w.loop w.holder))))
