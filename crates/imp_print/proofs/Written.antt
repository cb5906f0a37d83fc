-- A block is empty exactly where its list is, and a line is its parts in order.
use Rattle.std.proofs.Common.{◌≡◌, ℕ, Bool, true, false, List, [], ◌++◌, codes, Result, Ok, Err, OnOk, refl, sym, ap, ◌∙◌, append_assoc}
use Rattle.std.specs.Prelude.{IsTrue, ◌↔◌}
use Rattle.imp_syntax.specs.Plain.{Statements, Ends, Starts, statements_of}
use Rattle.imp_print.specs.Statements.{is_empty}

pub empty_is : (b : Statements) (r : Bool) → IsTrue r ↔ (statements_of b ≡ []) → r ≡ is_empty b
empty_is Ends true h = refl
empty_is Ends false h = let e : IsTrue false = h.1 refl in absurd cc
empty_is (Starts s ss) true h = let e = h.0 refl in absurd cc
empty_is (Starts s ss) false h = refl

-- what stands before a line, what stands on it, and its end
pub line_added : {A E : Type 0} (text begun filled all m r x : List ℕ) (ended : Result A E)
    → begun ≡ text ++ (m ++ r) → filled ≡ begun ++ x → OnOk ended (all ≡ filled ++ codes ";\n")
    → OnOk ended (all ≡ text ++ (m ++ r ++ (x ++ codes ";") ++ codes "\n"))
line_added t b f all m r x (Ok done) begun filled ended =
    let e = codes ";\n" in
    ended ∙ ap (λ c. c ++ e) (filled ∙ ap (λ c. c ++ x) begun)
    ∙ append_assoc (t ++ (m ++ r)) x e
    ∙ append_assoc t (m ++ r) (x ++ e)
    ∙ ap (λ c. t ++ c) (ap (λ c. m ++ r ++ c) (sym (append_assoc x (codes ";") (codes "\n"))) ∙ sym (append_assoc (m ++ r) (x ++ codes ";") (codes "\n")))
line_added t b f all m r x (Err why) begun filled ended = ended
