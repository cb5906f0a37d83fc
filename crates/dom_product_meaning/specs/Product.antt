-- The product of two domains (Cousot and Cousot, POPL 1979, direct product): a state is one of each.
use Rattle.std.specs.Prelude.{◌&&◌, List, ◌++◌, codes}
use Rattle.concrete_sem.specs.Values.{Variables, Heap}
use Rattle.imp_words.specs.declared.verdict.Verdict.{Verdict}
use Rattle.imp_words.specs.declared.verdict.Verdict.TheVariants.{Dead, Safe, May}
use Rattle.domain_laws.specs.Operations.{Operations}

-- dead where either is, else safe where either is, else may
abbrev pub stronger : Verdict → Verdict → Verdict
stronger Dead w = Dead
stronger Safe Dead = Dead
stronger Safe Safe = Safe
stronger Safe May = Safe
stronger May w = w

-- Every operation acts on the two parts; a state is dead where both parts are.
abbrev pub product : {S T : Type 0} → Operations S → Operations T → Operations (S × T)
product a b = record {
  init = λ l. (a.init l, b.init l);
  post = λ act s. (a.post act s.0, b.post act s.1);
  assume = λ g t s. (a.assume g t s.0, b.assume g t s.1);
  join = λ s t. (a.join s.0 t.0, b.join s.1 t.1);
  widen = λ ms s t. (a.widen ms s.0 t.0, b.widen ms s.1 t.1);
  enter = λ e s. (a.enter e s.0, b.enter e s.1);
  leave = λ r s d. (a.leave r s.0 d.0, b.leave r s.1 d.1);
  shed = λ s. (a.shed s.0, b.shed s.1);
  check = λ act s. stronger (a.check act s.0) (b.check act s.1);
  same = λ s t. a.same s.0 t.0 && b.same s.1 t.1;
  dead = λ s. a.dead s.0 && b.dead s.1;
  text = λ l s. a.text l s.0 ++ codes " & " ++ b.text l s.1;
  fits = λ s ls. a.fits s.0 ls && b.fits s.1 ls;
}

-- A state describes what both parts describe.
abbrev pub covered_by_both : {S T : Type 0} → (S → Heap → List Variables → Type 0) → (T → Heap → List Variables → Type 0) → S × T → Heap → List Variables → Type 0
covered_by_both ca cb s h vs = ca s.0 h vs × cb s.1 h vs
