-- Statements that have a check, and what is known before them, one at a time.
use Rattle.std.proofs.Common.{ℕ, ◌≡◌, ◌+◌, ◌<◌, ◌≤◌, true, false, List, [], ◌∷◌, ◌++◌, length, map, drop, get_or, Option, Some, None, refl, sym, ap, ◌∙◌, append_assoc}
use Rattle.std.proofs.lemmas.List.{map-append, drop_all, append-nil}
use Rattle.imp_slots.specs.Plain.{Effect, Code, Stop}
use Rattle.imp_slots.specs.ActionViews.{effect_of}
use Rattle.imp_slots.specs.BlockViews.{before_code, code_of}
use Rattle.imp_slots.specs.declared.blocks.SlotNode.{SlotNode}
use Rattle.imp_slots.specs.declared.blocks.SlotNode.TheVariants as node
use Rattle.imp_words.specs.declared.findings.Check as asked
use Rattle.domain_laws.specs.Checks.{Check, check_of, kind_if}
use Rattle.batch_meaning.specs.Values.{Value}
use Rattle.batch_meaning.specs.Report.{CheckedStatement, checked_one, checked_in}
use Rattle.batch_interp.specs.Answered.{value_of}
use Rattle.batch_interp.specs.Checking.{is_checked}
use Rattle.batch_interp.specs.Reporting.{claim_of, claims, before_one}
use Rattle.batch_interp.specs.declared.value.Answer.{Answer}
use Rattle.batch_interp.specs.declared.claim.Claim.{Claim}
use Rattle.base_values.proofs.Lists.{drop_item}

-- a statement has a check where its check asks something
pub asks : (o : Option Check) (r : Option asked.Check) (k : asked.Check) → r ≡ kind_if o → r ≡ Some k → true ≡ is_checked o
asks None r k e h = absurd cc
asks (Some c) r k e h = refl

pub asks_nothing : (o : Option Check) (r : Option asked.Check) → r ≡ kind_if o → r ≡ None → false ≡ is_checked o
asks_nothing None r e h = refl
asks_nothing (Some c) r e h = absurd cc

pub one_claim : (n : ℕ) (e : Effect) (o : Option Check) → is_checked o ≡ true → claims (checked_one n e o) ≡ (n, e) ∷ []
one_claim n e None h = absurd cc
one_claim n e (Some c) h = refl

pub no_claim : (n : ℕ) (e : Effect) (o : Option Check) → is_checked o ≡ false → claims (checked_one n e o) ≡ []
no_claim n e None h = refl
no_claim n e (Some c) h = absurd cc

pub claims_both : (xs : List Claim) (c : Claim) → map claim_of (xs ++ c ∷ []) ≡ map claim_of xs ++ claim_of c ∷ []
claims_both xs c = map-append claim_of xs (c ∷ [])

checked_before : (s : SlotNode) (r : Code) → checked_in (before_code s r) ≡ checked_in (before_code s Stop) ++ checked_in r
checked_before (node.Simple n a) r = ap (λ xs. xs ++ checked_in r) (sym (append-nil (checked_one n (effect_of a) (check_of (effect_of a)))))
checked_before (node.If n c t e) r =
    sym (append_assoc (checked_in t) (checked_in e) (checked_in r)) ∙ ap (λ xs. (checked_in t ++ xs) ++ checked_in r) (sym (append-nil (checked_in e)))
checked_before (node.While n c b) r = ap (λ xs. xs ++ checked_in r) (sym (append-nil (checked_in b)))
checked_before (node.Call n i q) r = refl
checked_before (node.Break n) r = refl

claims_before : (s : SlotNode) (r : Code) → claims (checked_in (before_code s r)) ≡ claims (checked_in (before_code s Stop)) ++ claims (checked_in r)
claims_before s r = ap claims (checked_before s r) ∙ map-append (λ (c : CheckedStatement). (c.number, c.effect)) (checked_in (before_code s Stop)) (checked_in r)

pub claims_step : (ss : List SlotNode) (i : ℕ) (s : SlotNode) → i < length ss → s ≡ get_or ss i s → claims (checked_in (code_of (drop i ss))) ≡ claims (checked_in (before_code s Stop)) ++ claims (checked_in (code_of (drop (i + 1) ss)))
claims_step ss i s h e = ap (λ xs. claims (checked_in (code_of xs))) (drop_item ss i s h e) ∙ claims_before s (code_of (drop (i + 1) ss))

pub claims_end : (ss : List SlotNode) (i : ℕ) → length ss ≤ i → claims (checked_in (code_of (drop i ss))) ≡ []
claims_end ss i h = ap (λ xs. claims (checked_in (code_of xs))) (drop_all i ss h)

pub claims_one : (xs : List CheckedStatement) → claims (xs ++ []) ≡ claims xs
claims_one xs = ap claims (append-nil xs)

pub claims_two : (xs ys : List CheckedStatement) → claims (xs ++ (ys ++ [])) ≡ claims xs ++ claims ys
claims_two xs ys = ap (λ zs. claims (xs ++ zs)) (append-nil ys) ∙ map-append (λ (c : CheckedStatement). (c.number, c.effect)) xs ys

pub one_before : {S : Type 0} (o : Option Check) (v : Value S) → is_checked o ≡ true → before_one o v ≡ v ∷ []
one_before None v h = absurd cc
one_before (Some c) v h = refl

pub no_before : {S : Type 0} (o : Option Check) (v : Value S) → is_checked o ≡ false → before_one o v ≡ []
no_before None v h = refl
no_before (Some c) v h = absurd cc

pub values_one : {S : Type 0} (xs : List (Answer S)) (x : Answer S) → map value_of (xs ++ x ∷ []) ≡ map value_of xs ++ value_of x ∷ []
values_one xs x = map-append value_of xs (x ∷ [])
