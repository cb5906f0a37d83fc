-- Names that are worked out are good still where some of the cells are gone.
use Rattle.std.proofs.Common.{◌≡◌, ℕ, length, Option, Some, None, option_map, is_some, IsSome, IfSome, refl, sym, ap, subst, ◌∙◌}
use Rattle.std.specs.FinMap.{get}
use Rattle.cell_names.specs.Known.{Known}
use Rattle.daig_query.specs.declared.names_sweep.NewNames.{NewNames}
use Rattle.daig_query.specs.declared.store.Store.{Store}
use Rattle.daig_query.specs.Claims.{Lessens}
use Rattle.daig_query.specs.Renamed.{AreNamedAnew, IsRenamingOf}
use Rattle.daig_query.specs.Swept.{renumbered, Swept}

some_there : {A : Type 0} (o : Option A) → IsSome o → (a : A) × (o ≡ Some a)
some_there None h = absurd cc
some_there (Some a) h = (a, refl)

mapped_there : {A B : Type 0} (f : A → B) (o : Option A) → IsSome (option_map f o) → IsSome o
mapped_there f None h = h
mapped_there f (Some a) h = refl

-- No other cells are there after some are gone, or after a sweep.
pub lessens-there : {S : Type 0} (old new : Store S) → Lessens old new → (n : ℕ) → IsSome (get new.graph.cells n) → IsSome (get old.graph.cells n)
lessens-there old new less n s = let f = some_there (get new.graph.cells n) s in ap is_some (less.cells n f.0 f.1)

pub swept-there : {S : Type 0} (old new : Store S) → Swept old new → (n : ℕ) → IsSome (get new.graph.cells n) → IsSome (get old.graph.cells n)
swept-there old new swept n s = mapped_there (renumbered swept.number) (get old.graph.cells n) (sym (ap is_some (swept.cells n)) ∙ s)

module _ {S : Type 0} (old new : Store S) (same : new.names ≡ old.names) (there : (n : ℕ) → IsSome (get new.graph.cells n) → IsSome (get old.graph.cells n)) where
  renaming-fewer : (made : NewNames) → IsRenamingOf old made → IsRenamingOf new made
  renaming-fewer made h =
      let names = old.names.names in
      let a = h.anew in
      let fewer : AreNamedAnew new.graph.cells names (length names) made.numbers.items made.names.names = record {
        places = a.places;
        short = a.short;
        named = λ n l s. a.named n l (there n s);
        within = λ n l s. a.within n l (there n s);
        below = λ n l s. a.below n l (there n s);
        rising = λ m n l k s t. a.rising m n l k (there m s) (there n t);
        back = a.back;
      } in
      record {
        anew = subst (λ (k : Known). AreNamedAnew new.graph.cells k.names (length k.names) made.numbers.items made.names.names) (sym same) fewer;
        root = h.root;
      }

  pub made-fewer : (made : Option NewNames) → IfSome made (IsRenamingOf old) → IfSome made (IsRenamingOf new)
  made-fewer None h = tt
  made-fewer (Some made) h = renaming-fewer made h
