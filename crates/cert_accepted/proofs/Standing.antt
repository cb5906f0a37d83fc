-- The loops of a program under its chains are those that a line may name.
use Rattle.std.specs.Prelude.{◌≡◌, ◌≢◌, ℕ, zero, suc, List, [], ◌∷◌, ◌++◌, slice_get, Some, Bool, true, false, if◌then◌else◌}
use Rattle.std.specs.Str.{bytes_eq}
use Rattle.std.proofs.Common.{refl, sym, subst, inl, inr}
use Rattle.std.proofs.lemmas.Bool.{and_from}
use Rattle.std.proofs.lemmas.Slice.Eq.{bytes_eq-Decides}
use Rattle.base_values.proofs.Cases.{by_test}
use Rattle.base_values.proofs.Members.{Member, here, there, either}
use Rattle.imp_slots.specs.Plain.{Code, Stop, Simple, If, While, Call, Break, Routine, code_numbers}
use Rattle.imp_slots.specs.Fits.{IsChecked}
use Rattle.imp_chains.specs.Chains.{chains, holder, has_while, is_while}
use Rattle.imp_chains.specs.Claims.{PlacesAreFound}
use Rattle.batch_sound.proofs.Chains.{has_member}
use Rattle.cert_meaning.specs.Written.{loops}
use Rattle.cert_lines.specs.Lines.{is_chain, is_chain_to, is_loop_under}
use Rattle.cert_accepted.proofs.Numbers.{loop_number}
use Rattle.std.proofs.lemmas.Option.{same_Some}

behind : {A : Type 0} (x y : A) (xs : List A) → Member x (y ∷ xs) → x ≢ y → Member x xs
behind x y xs here e = absurd (e refl)
behind x y xs (there m) e = m

first_so : (a b : Bool) → a ≡ true → (if a then true else b) ≡ true
first_so true b e = refl
first_so false b e = cc

second_so : (a b : Bool) → b ≡ true → (if a then true else b) ≡ true
second_so true b e = refl
second_so false b e = e

-- a loop of a block
loop_found : (n : ℕ) (c : Code) → Member n (loops c) → has_while n c ≡ true
loop_found n Stop m = elim m [ ]
loop_found n (Simple k e r) m = loop_found n r m
loop_found n (If k g t e r) m = elim (either n (loops t) (loops e ++ loops r) m) [
  | inl a ↦ first_so (has_while n t) _ (loop_found n t a)
  | inr b ↦ second_so (has_while n t) _ (elim (either n (loops e) (loops r) b) [
    | inl a ↦ first_so (has_while n e) _ (loop_found n e a)
    | inr b ↦ second_so (has_while n e) _ (loop_found n r b)
  ])
]
loop_found n (While k g b r) m =
    by_test n k (λ c. (if c then true else if has_while n b then true else has_while n r) ≡ true) (λ e. refl)
    (λ e. elim (either n (loops b) (loops r) (behind n k (loops b ++ loops r) m e)) [
      | inl a ↦ first_so (has_while n b) _ (loop_found n b a)
      | inr c ↦ second_so (has_while n b) _ (loop_found n r c)
    ])
loop_found n (Call k i q r) m = loop_found n r m
loop_found n (Break k r) m = loop_found n r m

while_found : (n : ℕ) (program : List Routine) (p : ℕ) (r : Routine) → slice_get program p ≡ Some r → has_while n r.code ≡ true → is_while n program ≡ true
while_found n [] p r e h = absurd cc
while_found n (x ∷ rs) zero r e h = first_so (has_while n x.code) _ (subst (λ (r : Routine). has_while n r.code ≡ true) (sym (same_Some x r e)) h)
while_found n (x ∷ rs) (suc p) r e h = second_so (has_while n x.code) _ (while_found n rs p r e h)

chain_found : (z : List ℕ) (zs : List (List ℕ)) → Member z zs → is_chain z zs ≡ true
chain_found z [] m = elim m [ ]
chain_found z (y ∷ zs) here = first_so (bytes_eq z z) _ ((bytes_eq-Decides z z).1 refl)
chain_found z (y ∷ zs) (there m) = second_so (bytes_eq z y) _ (chain_found z zs m)

pub loop_is_under : (program : List Routine) → IsChecked program → PlacesAreFound → (p : ℕ) (r : Routine) (n : ℕ) (z : List ℕ) → slice_get program p ≡ Some r → Member n (loops r.code) → Member z (chains program p) → is_loop_under program n z ≡ true
loop_is_under program checked places p r n z at loop chain =
    and_from (is_while n program) (is_chain_to program (holder n program) z) (while_found n program p r at (loop_found n r.code loop))
    (subst (λ o. is_chain_to program o z ≡ true) (sym ((places program checked p r at).statement n (has_member n (code_numbers r.code) (loop_number n r.code loop)))) (chain_found z (chains program p) chain))
