-- How many operators tokens have, and what the budget makes of them.
use Rattle.std.proofs.Common.{◌≡◌, ℕ, suc, ◌+◌, ◌≤◌, Bool, true, false, cond, List, [], ◌∷◌, ◌++◌, refl, sym, ap, subst, ◌∙◌, arith}
use Rattle.std.specs.Prelude.{Option, Some, None, option_map, nat_lt, not}
use Rattle.std.proofs.lemmas.Bool.Decides.{nat_tests}
use Rattle.imp_lex.specs.declared.token.TokenKind.{TokenKind}
use Rattle.imp_lex.specs.declared.token.TokenKind.TheVariants as k
use Rattle.imp_lex.specs.declared.token.Mark.TheVariants as m
use Rattle.imp_lex.specs.declared.token.Word.TheVariants as w
use Rattle.imp_syntax.specs.declared.words.Operator.{Operator}
use Rattle.imp_syntax.specs.declared.words.Operator.TheVariants as o
use Rattle.imp_syntax.specs.declared.words.Relation.{Relation}
use Rattle.imp_syntax.specs.declared.words.Relation.TheVariants as r
use Rattle.imp_parse.specs.Limits.{most, role_of, place, too_deep}
use Rattle.imp_round_trip.proofs.Tokens.{operator_mark, relation_mark}

-- within an expression or condition, the token changes nothing
pub record IsPlain (t : TokenKind) : Type 0 where
  pub is : (depth used : ℕ) (more : List TokenKind) → too_deep (place depth used false) (t ∷ more) ≡ option_map suc (too_deep (place depth used false) more)

-- it is one operator more
pub record IsCounted (t : TokenKind) : Type 0 where
  pub is : (depth used : ℕ) (more : List TokenKind) → too_deep (place depth used false) (t ∷ more) ≡ cond (not (nat_lt used most)) (Some 0) (option_map suc (too_deep (place depth (used + 1) false) more))

-- tokens of expressions and conditions with so many operators
pub data Weighs : List TokenKind → ℕ → Type 0 where
  empty : Weighs [] 0
  plain : {t : TokenKind} {ts : List TokenKind} {n : ℕ} → IsPlain t → Weighs ts n → Weighs (t ∷ ts) n
  counted : {t : TokenKind} {ts : List TokenKind} {n : ℕ} → IsCounted t → Weighs ts n → Weighs (t ∷ ts) (suc n)

pub weighs_both : {x y : List TokenKind} {m n : ℕ} → Weighs x m → Weighs y n → Weighs (x ++ y) (m + n)
weighs_both {y = y} {n = n} empty h = subst (Weighs y) (omega arith) h
weighs_both (plain is g) h = plain is (weighs_both g h)
weighs_both {x = x} {y = y} {n = n} (counted {t = t} {ts = ts} {n = i} is g) h = let e : suc (i + n) ≡ suc i + n = omega arith in subst (Weighs (t ∷ (ts ++ y))) e (counted is (weighs_both g h))

-- ---- the budget

pub none_more : (o : Option ℕ) → o ≡ None → option_map suc o ≡ None
none_more o e = ap (option_map suc) e

pub none_less : (o : Option ℕ) → option_map suc o ≡ None → o ≡ None
none_less None e = refl
none_less (Some i) e = absurd cc

pub counted_within : (v : Bool) (o : Option ℕ) → v ≡ false → o ≡ None → cond v (Some 0) (option_map suc o) ≡ None
counted_within true o e h = absurd cc
counted_within false o e h = none_more o h

pub counted_back : (v : Bool) (o : Option ℕ) → cond v (Some 0) (option_map suc o) ≡ None → (v ≡ false) × (o ≡ None)
counted_back true o e = absurd cc
counted_back false o e = (refl, none_less o e)

room_is : (used : ℕ) → suc used ≤ most → not (nat_lt used most) ≡ false
room_is used h = grind (arith, nat_tests)

room_back : (used : ℕ) → not (nat_lt used most) ≡ false → suc used ≤ most
room_back used h = grind (arith, nat_tests)

-- no more operators than the budget has left are within it
pub weighs_fits : (ts more : List TokenKind) (n depth used : ℕ) → Weighs ts n → used + n ≤ most → too_deep (place depth (used + n) false) more ≡ None → too_deep (place depth used false) (ts ++ more) ≡ None
weighs_fits ts more n depth used empty le h = subst (λ (i : ℕ). too_deep (place depth i false) more ≡ None) (omega arith) h
weighs_fits ts more n depth used (plain {ts = rest} is g) le h = is.is depth used (rest ++ more) ∙ none_more _ (weighs_fits rest more n depth used g le h)
weighs_fits ts more n depth used (counted {ts = rest} {n = i} is g) le h =
    let e : used + suc i ≡ (used + 1) + i = omega arith in
    let behind = subst (λ (j : ℕ). too_deep (place depth j false) more ≡ None) e h in
    is.is depth used (rest ++ more) ∙ counted_within (not (nat_lt used most)) _ (room_is used (omega arith)) (weighs_fits rest more i depth (used + 1) g (omega arith) behind)

-- operators within the budget are no more than it has left
pub fits_weighs : (ts : List TokenKind) (n depth used : ℕ) → Weighs ts n → used ≤ most → too_deep (place depth used false) ts ≡ None → used + n ≤ most
fits_weighs ts n depth used empty le h = omega arith
fits_weighs ts n depth used (plain {ts = rest} is g) le h = fits_weighs rest n depth used g le (none_less _ (sym (is.is depth used rest) ∙ h))
fits_weighs ts n depth used (counted {ts = rest} {n = i} is g) le h =
    let back = counted_back (not (nat_lt used most)) _ (sym (is.is depth used rest) ∙ h) in
    let more : (used + 1) + i ≤ most = fits_weighs rest i depth (used + 1) g (let room = room_back used back.0 in omega arith) back.1 in
    omega arith

-- the same, before more tokens, which the rest of the budget is left for
pub fits_before : (ts more : List TokenKind) (n depth used : ℕ) → Weighs ts n → used ≤ most → too_deep (place depth used false) (ts ++ more) ≡ None → (used + n ≤ most) × (too_deep (place depth (used + n) false) more ≡ None)
fits_before ts more n depth used empty le h = (omega arith, subst (λ (i : ℕ). too_deep (place depth i false) more ≡ None) (omega arith) h)
fits_before ts more n depth used (plain {ts = rest} is g) le h = fits_before rest more n depth used g le (none_less _ (sym (is.is depth used (rest ++ more)) ∙ h))
fits_before ts more n depth used (counted {ts = rest} {n = i} is g) le h =
    let back = counted_back (not (nat_lt used most)) _ (sym (is.is depth used (rest ++ more)) ∙ h) in
    let room : suc used ≤ most = room_back used back.0 in
    let on = fits_before rest more i depth (used + 1) g (omega arith) back.1 in
    let same : (used + 1) + i ≡ used + suc i = omega arith in
    let first = on.0 in
    (omega (arith, first), subst (λ (j : ℕ). too_deep (place depth j false) more ≡ None) same on.1)

-- ---- tokens

pub number_plain : (n : ℕ) → IsPlain (k.Number n)
unfolding role_of
number_plain n = record { is = λ depth used more. refl }

pub name_plain : (x : List ℕ) → IsPlain (k.Name x)
unfolding role_of
name_plain x = record { is = λ depth used more. refl }

pub len_plain : IsPlain (k.Word w.Len)
unfolding role_of
len_plain = record { is = λ depth used more. refl }

pub null_plain : IsPlain (k.Word w.Null)
unfolding role_of
null_plain = record { is = λ depth used more. refl }

pub close_plain : IsPlain (k.Mark m.CloseParenthesis)
unfolding role_of
close_plain = record { is = λ depth used more. refl }

pub open_counted : IsCounted (k.Mark m.OpenParenthesis)
unfolding role_of
open_counted = record { is = λ depth used more. refl }

pub not_counted : IsCounted (k.Mark m.Not)
unfolding role_of
not_counted = record { is = λ depth used more. refl }

pub and_counted : IsCounted (k.Mark m.And)
unfolding role_of
and_counted = record { is = λ depth used more. refl }

pub or_counted : IsCounted (k.Mark m.Or)
unfolding role_of
or_counted = record { is = λ depth used more. refl }

pub operator_counted : (op : Operator) → IsCounted (operator_mark op)
unfolding role_of
operator_counted o.Add = record { is = λ depth used more. refl }
operator_counted o.Subtract = record { is = λ depth used more. refl }
operator_counted o.Multiply = record { is = λ depth used more. refl }
operator_counted o.Divide = record { is = λ depth used more. refl }
operator_counted o.Remainder = record { is = λ depth used more. refl }

pub relation_counted : (rel : Relation) → IsCounted (relation_mark rel)
unfolding role_of
relation_counted r.Equal = record { is = λ depth used more. refl }
relation_counted r.NotEqual = record { is = λ depth used more. refl }
relation_counted r.Less = record { is = λ depth used more. refl }
relation_counted r.AtMost = record { is = λ depth used more. refl }
relation_counted r.Greater = record { is = λ depth used more. refl }
relation_counted r.AtLeast = record { is = λ depth used more. refl }
