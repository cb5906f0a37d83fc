-- Comparisons of ints say nothing of lists.
use Rattle.std.proofs.Common.{◌≡◌, ℕ, true, false, Some, refl}
use Rattle.imp_syntax.specs.declared.words.Relation.{Relation}
use Rattle.imp_slots.specs.Plain.{Term, Compare}
use Rattle.domain_laws.specs.Checks.{Within}
use Rattle.domain_laws.specs.Guards.{past_check}
use Rattle.dom_listseg_meaning.specs.State.{Segments}
use Rattle.dom_listseg_meaning.specs.Operations.{assume}

pub compare_true : (r : Relation) (a b : Term) (s : Segments) → assume (Compare r a b) true s ≡ s
unfolding assume
compare_true r a b s = refl

pub compare_false : (r : Relation) (a b : Term) (s : Segments) → assume (Compare r a b) false s ≡ s
unfolding assume
compare_false r a b s = refl

-- nor does the check of an index
pub index_passed : (a : ℕ) (e : Term) (s : Segments) → past_check assume (Some (Within a e)) s ≡ s
unfolding assume
index_passed a e s = refl
