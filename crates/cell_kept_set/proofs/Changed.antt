-- Of a list of cells, those whose own row is changed are a list.
use Rattle.std.proofs.Common.{◌≡◌, Bool, true, false, List, refl, inl, inr}
use Rattle.std.proofs.lemmas.Bool.{false≢true}
use Rattle.domain_laws.specs.Operations.{Operations}
use Rattle.cell_names.specs.Paths.{CellName}
use Rattle.daig_order.specs.Order.{member}
use Rattle.cell_rows.specs.Names.{IsSame}
use Rattle.cell_kept_set.specs.Touched.{Edit, old_system, IsChanged}
use Rattle.daig_order.specs.Within.{AreCellsOf}
use Rattle.daig_order.proofs.Dependents.{passing, passes, passed}
use Rattle.cell_kept_set.proofs.Decided.{Decided, keeps_row}

abbrev is_not : {A : Type 0} → Decided A → Bool
is_not (inl a) = false
is_not (inr n) = true

not_it : {A : Type 0} (d : Decided A) → is_not d ≡ true → A → ⊥
not_it (inl a) e = let f : false ≡ true = e in absurd (false≢true f)
not_it (inr n) e = n

it_not : {A : Type 0} (d : Decided A) → (A → ⊥) → is_not d ≡ true
it_not (inl a) n = absurd (n a)
it_not (inr m) n = refl

pub changed_of : {S : Type 0} (dom : Operations S) (e : Edit) (same : CellName → CellName → Bool) (is : IsSame same) (xs : List CellName) → (changed : List CellName) × AreCellsOf (old_system dom e same) (member same xs) (IsChanged dom e same) changed
changed_of dom e same is xs =
    let test : CellName → Bool = λ x. is_not (keeps_row same is dom e x) in (
      passing same is.same_true test xs,
      record {
        only = λ x m. let p = passes same is.same_true test xs x m in (p.0, not_it (keeps_row same is dom e x) p.1);
        all = λ x c n. passed same is.same_true test xs x c (it_not (keeps_row same is dom e x) n);
      },
    )
