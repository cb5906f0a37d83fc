-- A reader that calls itself at fewer tokens is what its step makes of it.
use Rattle.std.proofs.Common.{◌≡◌, ℕ, zero, suc, ◌<◌, ◌≤◌, List, length, Err, refl, sym, ap, ◌∙◌, arith, inl, inr}
use Rattle.std.proofs.lemmas.Bool.{cases_lt, lt-ltb, le-ltb}
use std.Path.{fun_ext}
use Rattle.imp_lex.specs.declared.token.TokenKind.{TokenKind}
use Rattle.imp_parse.specs.Reader.{Out, Read, within, bounded, Steps, turns, fix}

pub within_fewer : {A : Type 0} (ts : List TokenKind) (read : List TokenKind → Read A) (rest : List TokenKind) → length rest < length ts → within ts read rest ≡ read rest
within_fewer ts read rest lt = rw (lt-ltb (length rest) (length ts) lt) refl

within_more : {A : Type 0} (ts : List TokenKind) (read : List TokenKind → Read A) (rest : List TokenKind) → length ts ≤ length rest → within ts read rest ≡ Err Out
within_more ts read rest le = rw (le-ltb (length rest) (length ts) le) refl

enough : {I A : Type 0} (F : Steps I A) (n m : ℕ) (i : I) (ts : List TokenKind) → length ts < n → length ts < m → turns F n i ts ≡ turns F m i ts
unfolding turns
enough F zero m i ts h k = absurd (omega arith)
enough F (suc n) zero i ts h k = absurd (omega arith)
enough F (suc n) (suc m) i ts h k =
    let same : bounded ts (turns F n) ≡ bounded ts (turns F m) = fun_ext (λ j. fun_ext (λ rest.
    elim (cases_lt (length rest) (length ts)) [
      | inl lt ↦ within_fewer ts (turns F n j) rest lt ∙ enough F n m j rest (omega arith) (omega arith) ∙ sym (within_fewer ts (turns F m j) rest lt)
      | inr le ↦ within_more ts (turns F n j) rest le ∙ sym (within_more ts (turns F m j) rest le)
    ])) in
    ap (λ g. F g i ts) same

pub fix_eq : {I A : Type 0} (F : Steps I A) (i : I) (ts : List TokenKind) → fix F i ts ≡ F (bounded ts (fix F)) i ts
unfolding turns fix
fix_eq F i ts =
    let same : bounded ts (turns F (length ts)) ≡ bounded ts (fix F) = fun_ext (λ j. fun_ext (λ rest.
    elim (cases_lt (length rest) (length ts)) [
      | inl lt ↦ within_fewer ts (turns F (length ts) j) rest lt ∙ enough F (length ts) (suc (length rest)) j rest (omega arith) (omega arith) ∙ sym (within_fewer ts (fix F j) rest lt)
      | inr le ↦ within_more ts (turns F (length ts) j) rest le ∙ sym (within_more ts (fix F j) rest le)
    ])) in
    ap (λ g. F g i ts) same
