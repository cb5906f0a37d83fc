-- The call sites of the block that a path leads to are the path's.
use Rattle.std.proofs.Common.{◌≡◌, ℕ, List, [], ◌∷◌, Some, sym, ap, ◌∙◌, nat_lt}
use Rattle.imp_slots.specs.Plain.{Code, Stop, Simple, If, While, Call, Break, Routine}
use Rattle.batch_meaning.specs.Batch.{LoopOptions}
use Rattle.batch_meaning.specs.Places.{from}
use Rattle.cell_names.specs.declared.frame.NameFrame.{NameFrame}
use Rattle.cell_names.specs.declared.frame.NameFrame.TheVariants.{InCall, InLoop}
use Rattle.cell_rows.specs.Names.{Mark, PathBlock, bare, start_of, in_call, in_loop, round_place, follow}
use Rattle.cell_rows.specs.Rows.{sites_of}
use Rattle.cell_rows.proofs.Lookup.{unstated}
use Rattle.std.proofs.lemmas.Option.{same_Some}
use Rattle.base_values.proofs.Cases.{given_item}

module _ (engine : LoopOptions) (program : List Routine) where
  abbrev Q : Type 0
  Q = PathBlock engine bare

  abbrev U : Type 0
  U = Mark (Unit {0})

  start_sites : (ps : List Routine) (z : List ℕ) (x : U) (b : Q) → start_of engine bare ps z x ≡ Some b → b.sites ≡ z
  start_sites [] z x b e = absurd cc
  start_sites (body ∷ earlier) z x b e = ap (λ (b : Q). b.sites) (sym (same_Some _ _ e))

  call_sites : (b : Q) (n : ℕ) (y : U) (d : Code) (c : Q) → in_call engine bare b n y d ≡ Some c → c.sites ≡ n ∷ b.sites
  call_sites b n y Stop c e = absurd cc
  call_sites b n y (Simple m effect r) c e = absurd cc
  call_sites b n y (If m guard t x r) c e = absurd cc
  call_sites b n y (While m guard t r) c e = absurd cc
  call_sites b n y (Call m call q r) c e = start_sites (from b.scope.earlier q) (n ∷ b.sites) _ c e
  call_sites b n y (Break m r) c e = absurd cc

  loop_sites : (b : Q) (n k : ℕ) (y : U) (d : Code) (c : Q) → in_loop engine bare b n k y d ≡ Some c → c.sites ≡ b.sites
  loop_sites b n k y Stop c e = absurd cc
  loop_sites b n k y (Simple m effect r) c e = absurd cc
  loop_sites b n k y (If m guard t x r) c e = absurd cc
  loop_sites b n k y (While m guard t r) c e = ap (λ (b : Q). b.sites) (sym (given_item (nat_lt k engine.budget) (round_place engine bare b n guard t k y) c e))
  loop_sites b n k y (Call m call q r) c e = absurd cc
  loop_sites b n k y (Break m r) c e = absurd cc

  pub path_sites : (w : List NameFrame) (b : Q) → follow engine bare program w ≡ Some b → b.sites ≡ sites_of w
  path_sites [] b e = start_sites program [] _ b e
  path_sites (InCall n ∷ w) b e =
      let u = unstated engine bare (follow engine bare program w) n (λ b. in_call engine bare b n) b e in
      call_sites u.place n u.before u.code b u.gives ∙ ap (λ z. n ∷ z) (path_sites w u.place u.leads)
  path_sites (InLoop n k ∷ w) b e =
      let u = unstated engine bare (follow engine bare program w) n (λ b. in_loop engine bare b n k) b e in
      loop_sites u.place n k u.before u.code b u.gives ∙ path_sites w u.place u.leads
