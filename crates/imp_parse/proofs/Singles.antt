-- Readers of one token.
use Rattle.std.proofs.Common.{◌≡◌, ℕ, Bool, true, false, cond, List, [], ◌∷◌, Option, Some, None, refl, sym, ap, subst}
use denote.Enum.Bare.{same_true, true_same}
use Rattle.imp_lex.specs.contracts.token.Mark.{the_type}
use Rattle.imp_lex.specs.declared.token.Mark.{Mark}
use Rattle.imp_lex.specs.declared.token.Mark.TheVariants as m
use Rattle.imp_lex.specs.declared.token.TokenKind.{TokenKind}
use Rattle.imp_lex.specs.declared.token.TokenKind.TheVariants as k
use Rattle.imp_syntax.specs.declared.words.Relation.{Relation}
use Rattle.imp_syntax.specs.declared.words.Relation.TheVariants as r
use Rattle.imp_parse.specs.Tables.{is_mark, same_mark, name_of, relation_of}
use Rattle.imp_parse.proofs.Pack.{Layer, Strict, Loose, loose, Single, never, one, Follows, give}
use Rattle.imp_parse.proofs.Exact.{Both, both}
use Rattle.imp_parse.specs.Language.{Language}

-- the text is this mark
pub data IsMark (wanted : Mark) : List TokenKind → Unit {0} → Type 0 where
  mark : IsMark wanted (k.Mark wanted ∷ []) tt

pub same_self : (wanted : Mark) → same_mark wanted wanted ≡ true
unfolding same_mark
same_self wanted = true_same the_type wanted wanted refl

pub same_only : (a b : Mark) → same_mark a b ≡ true → a ≡ b
unfolding same_mark
same_only a b e = same_true the_type _ a b e

mark_to_by : (wanted found : Mark) (a : Unit {0}) (b : Bool) → same_mark found wanted ≡ b → cond b (Some tt) None ≡ Some a → IsMark wanted (k.Mark found ∷ []) a
mark_to_by wanted found a true e is = let same : found ≡ wanted = same_only found wanted e in subst (λ q. IsMark wanted (k.Mark q ∷ []) tt) (sym same) mark
mark_to_by wanted found a false e is = absurd cc

mark_to : (wanted : Mark) (t : TokenKind) (a : Unit {0}) → is_mark wanted t ≡ Some a → IsMark wanted (t ∷ []) a
mark_to wanted (k.Mark found) a is = mark_to_by wanted found a (same_mark found wanted) refl is
mark_to wanted (k.Word found) a is = absurd cc
mark_to wanted (k.Name x) a is = absurd cc
mark_to wanted (k.Number n) a is = absurd cc

mark_is : (wanted : Mark) → is_mark wanted (k.Mark wanted) ≡ Some tt
mark_is wanted = ap (λ b. cond b (Some tt) None) (same_self wanted)

mark_from : (wanted : Mark) (w : List TokenKind) (a : Unit {0}) → IsMark wanted w a → (t : TokenKind) × (w ≡ t ∷ []) × (is_mark wanted t ≡ Some a)
mark_from wanted w a mark = (k.Mark wanted, refl, mark_is wanted)

pub mark_single : (wanted : Mark) → Single (is_mark wanted) (IsMark wanted)
mark_single wanted = record { to = mark_to wanted; from = mark_from wanted; example = (k.Mark wanted, tt, mark_is wanted) }

abbrev pub a_mark : {L : Layer} → Mark → Strict L (Unit {0}) never
a_mark wanted = one (is_mark wanted) (IsMark wanted) (mark_single wanted)

-- the text is a name
pub data IsName : List TokenKind → List ℕ → Type 0 where
  named : {x : List ℕ} → IsName (k.Name x ∷ []) x

name_to : (t : TokenKind) (a : List ℕ) → name_of t ≡ Some a → IsName (t ∷ []) a
name_to (k.Name x) a is = let e : x ≡ a = cc in subst (λ y. IsName (k.Name x ∷ []) y) e named
name_to (k.Mark found) a is = absurd cc
name_to (k.Word found) a is = absurd cc
name_to (k.Number n) a is = absurd cc

name_from : (w : List TokenKind) (a : List ℕ) → IsName w a → (t : TokenKind) × (w ≡ t ∷ []) × (name_of t ≡ Some a)
name_from w a (named {x = x}) = (k.Name x, refl, refl)

pub name_single : Single name_of IsName
name_single = record { to = name_to; from = name_from; example = (k.Name [], [], refl) }

abbrev pub a_name : {L : Layer} → Strict L (List ℕ) never
a_name = one name_of IsName name_single

-- the text is a token of a table
pub data IsPicked {A : Type 0} (pick : TokenKind → Option A) : List TokenKind → A → Type 0 where
  picked_as : (t : TokenKind) {a : A} → pick t ≡ Some a → IsPicked pick (t ∷ []) a

picked_from : {A : Type 0} (pick : TokenKind → Option A) (w : List TokenKind) (a : A) → IsPicked pick w a → (t : TokenKind) × (w ≡ t ∷ []) × (pick t ≡ Some a)
picked_from pick w a (picked_as t is) = (t, refl, is)

pub picked_single : {A : Type 0} (pick : TokenKind → Option A) → (t : TokenKind) × (a : A) × (pick t ≡ Some a) → Single pick (IsPicked pick)
picked_single pick e = record { to = λ t a is. picked_as t is; from = picked_from pick; example = e }

abbrev pub a_relation : {L : Layer} → Strict L Relation never
a_relation = one relation_of (IsPicked relation_of) (picked_single relation_of (k.Mark m.Less, r.Less, refl))

-- what goes on up to another mark may stand before this one
pub mark_follows : {A : Type 0} (wanted : Mark) (H : Unit {0} → Language A) (on on' : TokenKind → Bool) → on (k.Mark wanted) ≡ false → Follows on (Both (IsMark wanted) H) on'
mark_follows wanted H on on' e w a rest (both mark h) free = e

-- a mark alone, with this value
abbrev pub ended : {L : Layer} {A : Type 0} → Mark → A → Loose L A never
ended wanted a = loose (give (a_mark wanted) (λ z. a))

-- a pack that no text begins with
abbrev pub refused : {L : Layer} {A : Type 0} → A → Strict L A never
refused a = give (a_mark m.Semicolon) (λ z. a)
