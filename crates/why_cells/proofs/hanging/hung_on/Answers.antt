use Rattle.std.proofs.Common.{◌≡◌, ◌<◌, length, Contains, Some, slice_get, sym, subst, ◌∙◌, inl, inr}
use Rattle.std.proofs.lemmas.Option.{same_Some}
use Rattle.cell_names.specs.Known.{Known}
use Rattle.cell_names.specs.Paths.{name_in, path_at}
use Rattle.why_slice.specs.Upstream.{statement_of_name}
use Rattle.why_cells.proofs.Hung.{told_each, told_only}
use Rattle.why_cells.proofs.hanging.hung_on.Goals as goal

pub hangs-requires-clause-there : goal.hangs-requires-clause-there
hangs-requires-clause-there g c =
    let store = c.args.engine.now.store in
    let name = c.get-name.result in
    let at = subst (λ (k : Known). slice_get k.names c.args.cell ≡ Some (name_in k.paths name)) c.names-names.ensures.is c.get-name.ensures.name in
    (c.args.cell, record { named = at; cell = c.requires.there })

pub hangs-requires-clause-path : goal.hangs-requires-clause-path
hangs-requires-clause-path g c = subst (λ (k : Known). c.get-name.result.path < length k.paths) c.names-names.ensures.is c.get-name.ensures.path

pub returns-in-None : goal.returns-in-None
returns-in-None g c =
    let store = c.args.engine.now.store in
    let name = c.get-name.result in
    let at = subst (λ (k : Known). slice_get k.names c.args.cell ≡ Some (name_in k.paths name)) c.names-names.ensures.is c.get-name.ensures.name in
    let s = subst (λ (k : Known). c.pointed.result ≡ statement_of_name (path_at k.paths name.path) name.point) c.names-names.ensures.is c.pointed.ensures.is in
    record {
      only = λ x n named e. absurd cc;
      each = λ x n named k.
          let h = told_each (g.D.Domain.operations c.args.engine.now.domain) c.args.flow.now store c.requires.right c.args.cell x (name_in store.names.paths name) c.pointed.result n at named s k in
          absurd (let q = sym c.in-None.is ∙ h.0 in cc);
    }

pub returns-then-has : goal.returns-then-has
returns-then-has g c =
    let store = c.args.engine.now.store in
    let name = c.get-name.result in
    let at = subst (λ (k : Known). slice_get k.names c.args.cell ≡ Some (name_in k.paths name)) c.names-names.ensures.is c.get-name.ensures.name in
    let s = subst (λ (k : Known). c.pointed.result ≡ statement_of_name (path_at k.paths name.path) name.point) c.names-names.ensures.is c.pointed.ensures.is in
    record {
      only = λ x n named e. absurd cc;
      each = λ x n named k.
          let h = told_each (g.D.Domain.operations c.args.engine.now.domain) c.args.flow.now store c.requires.right c.args.cell x (name_in store.names.paths name) c.pointed.result n at named s k in
          inr (subst (Contains c.args.told.now) (same_Some c.in-Some.number n (sym c.in-Some.is ∙ h.0)) (c.has.ensures.there.0 c.if-has.true));
    }

pub returns-then-hangs : goal.returns-then-hangs
returns-then-hangs g c =
    let store = c.args.engine.now.store in
    let name = c.get-name.result in
    let at = subst (λ (k : Known). slice_get k.names c.args.cell ≡ Some (name_in k.paths name)) c.names-names.ensures.is c.get-name.ensures.name in
    let s = subst (λ (k : Known). c.pointed.result ≡ statement_of_name (path_at k.paths name.path) name.point) c.names-names.ensures.is c.pointed.ensures.is in
    record {
      only = λ x n named e.
          told_only (g.D.Domain.operations c.args.engine.now.domain) c.args.flow.now store c.requires.right c.args.cell x (name_in store.names.paths name) c.pointed.result c.hangs.result n at named s c.hangs.ensures.is c.if-hangs.true
          (c.in-Some.is ∙ e);
      each = λ x n named k.
          let h = told_each (g.D.Domain.operations c.args.engine.now.domain) c.args.flow.now store c.requires.right c.args.cell x (name_in store.names.paths name) c.pointed.result n at named s k in
          inl (sym c.in-Some.is ∙ h.0);
    }

pub returns-else-hangs : goal.returns-else-hangs
returns-else-hangs g c =
    let store = c.args.engine.now.store in
    let name = c.get-name.result in
    let at = subst (λ (k : Known). slice_get k.names c.args.cell ≡ Some (name_in k.paths name)) c.names-names.ensures.is c.get-name.ensures.name in
    let s = subst (λ (k : Known). c.pointed.result ≡ statement_of_name (path_at k.paths name.path) name.point) c.names-names.ensures.is c.pointed.ensures.is in
    record {
      only = λ x n named e. absurd cc;
      each = λ x n named k.
          let h = told_each (g.D.Domain.operations c.args.engine.now.domain) c.args.flow.now store c.requires.right c.args.cell x (name_in store.names.paths name) c.pointed.result n at named s k in
          absurd (let q = sym c.if-hangs.false ∙ c.hangs.ensures.is ∙ h.1 in cc);
    }
