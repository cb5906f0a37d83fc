-- A layer of readers that call one another is exact, and is what its step makes of it.
use Rattle.std.proofs.Common.{◌≡◌, ℕ, zero, suc, Bool, true, false, cond, ltb, List, length, Err, sym, ◌∙◌, subst, arith}
use std.Path.{fun_ext}
use Rattle.imp_lex.specs.declared.token.TokenKind.{TokenKind}
use Rattle.imp_parse.specs.Language.{Language}
use Rattle.imp_parse.specs.Reader.{Out, bounded, Steps, turns, fix}
use Rattle.imp_parse.proofs.Fix.{fix_eq, within_fewer}
use Rattle.imp_parse.proofs.Exact.{Reader, Exact, another, nothing_exact, fewer}
use Rattle.imp_parse.proofs.Pack.{Layer, Calls, Below, Keeps, Agree, Good, strictly, Pack}

-- the step of a layer, call by call: no call stands at its front, and what it reads is the call's language
pub record Turn (L : Layer) (F : Steps L.Call L.Value) (i : L.Call) : Type 1 where
  pub up : ℕ → ℕ
  pub pack : Pack L L.Value up strictly (L.on i)
  pub is : (f : Calls L) (ts : List TokenKind) → F f i ts ≡ pack.reader f ts
  pub to : (w : List TokenKind) (a : L.Value) → pack.lang w a → L.lang i w a
  pub from : (w : List TokenKind) (a : L.Value) → L.lang i w a → pack.lang w a

module _ (L : Layer) (F : Steps L.Call L.Value) (turn : (i : L.Call) → Turn L F i) where
  step_keeps : (f : Calls L) → Keeps L f → Keeps L (F f)
  step_keeps f kf k i ts lt = let t = turn i in subst (Below k) (sym (t.is f ts)) (t.pack.keeps f kf k ts (omega (arith, t.pack.high k)))

  step_same : (f g : Calls L) → Keeps L f → (i : L.Call) (ts : List TokenKind) → Agree L (length ts) f g → F f i ts ≡ F g i ts
  step_same f g kf i ts h = let t = turn i in t.is f ts ∙ t.pack.same f g kf (length ts) h ts (omega arith) ∙ sym (t.is g ts)

  bounded_keeps : (ts : List TokenKind) (f : Calls L) → Keeps L f → Keeps L (bounded ts f)
  bounded_keeps ts f kf k i rest lt = elim (ltb (length rest) (length ts)) as (λ b. Below k (cond b (f i rest) (Err Out))) [ true ↦ kf k i rest lt | false ↦ tt ]

  turns_keep : (m : ℕ) → Keeps L (turns F m)
  unfolding turns
  turns_keep zero k i ts lt = tt
  turns_keep (suc m) k i ts lt = step_keeps (bounded ts (turns F m)) (bounded_keeps ts (turns F m) (turns_keep m)) k i ts lt

  pub layer_keeps : Keeps L (fix F)
  unfolding fix
  layer_keeps k i ts lt = turns_keep (suc (length ts)) k i ts lt

  pub layer_eq : (i : L.Call) (ts : List TokenKind) → fix F i ts ≡ F (fix F) i ts
  layer_eq i ts = fix_eq F i ts ∙ step_same (bounded ts (fix F)) (fix F) (bounded_keeps ts (fix F) layer_keeps) i ts (λ j rest lt. within_fewer ts (fix F j) rest lt)

  pub layer_exact : (n : ℕ) → Good L n (fix F)
  layer_exact zero i = nothing_exact (L.lang i) (L.on i) (fix F i)
  layer_exact (suc n) i =
      let t = turn i in
      let same : t.pack.reader (fix F) ≡ fix F i = fun_ext (λ ts. sym (t.is (fix F) ts) ∙ sym (layer_eq i ts)) in
      subst (Exact (suc n) (L.lang i) (L.on i)) same (another (suc n) t.pack.lang (L.lang i) (L.on i) (t.pack.reader (fix F)) t.to t.from (t.pack.exact (fix F) n (layer_exact n)))

-- ---- a pack that calls nothing

abbrev pub alone : Layer
alone = record { Call = ⊥; Value = Unit {0}; lang = λ i w a. absurd i; on = λ i t. absurd i; some = λ i. absurd i }

abbrev pub no_calls : Calls alone
no_calls i ts = absurd i

pub alone_exact : {A : Type 0} {on : TokenKind → Bool} {up at : ℕ → ℕ} (p : Pack alone A up at on) (G : Language A) (r : Reader A) → ((w : List TokenKind) (a : A) → p.lang w a → G w a) → ((w : List TokenKind) (a : A) → G w a → p.lang w a) → ((ts : List TokenKind) → r ts ≡ p.reader no_calls ts) → (n : ℕ) → Exact n G on r
alone_exact {on = on} p G r to from is n =
    let same : p.reader no_calls ≡ r = fun_ext (λ ts. sym (is ts)) in
    subst (Exact n G on) same (another n p.lang G on (p.reader no_calls) to from (fewer _ n p.lang on (p.reader no_calls) (p.tight n) (p.exact no_calls n (λ i. absurd i))))
