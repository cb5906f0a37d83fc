use Rattle.std.proofs.Common.{ℕ, ◌≡◌, ◌/◌, ◌≤◌, length, subst, slice_set}
use Rattle.std.proofs.lemmas.Result.{on_ok_weaker}
use Rattle.imp_table.specs.Pages.{lengths, HasPlace}
use Rattle.imp_table.proofs.PageLemmas.{page_at, page_is, set_place, set_still, in_page_low}
use Rattle.imp_table.proofs.pages.make_page.Goals as goal

pub returns-clause-place : goal.returns-clause-place
returns-clause-place c =
    let ps = c.args.pages.now in
    let i = c.args.page in
    let made = c.make_places.new.self in
    let f : 64 ≤ length made → (n : ℕ) → n / 64 ≡ i → HasPlace (lengths (slice_set ps i made)) n = λ h n q. set_place ps i made c.requires.there n q (in_page_low n (length made) h) in
    on_ok_weaker c.make_places.result f c.make_places.ensures.places

pub returns-clause-no_less : goal.returns-clause-no_less
returns-clause-no_less c = λ n.
    let ps = c.args.pages.now in
    let i = c.args.page in
    let d = c.index-pages-page.result in
    let l : length (page_at ps i) ≤ length c.make_places.new.self = subst (λ p. length p ≤ length c.make_places.new.self) (page_is ps i d c.requires.there) c.make_places.ensures.no_less in
    set_still ps i c.make_places.new.self c.requires.there n (λ q. l)
