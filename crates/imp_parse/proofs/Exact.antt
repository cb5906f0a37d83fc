-- Readers that are exact for a language.
use Rattle.std.proofs.Common.{◌≡◌, ℕ, suc, ◌+◌, ◌<◌, ◌≤◌, Bool, false, List, [], ◌∷◌, ◌++◌, length, Result, Ok, Err, refl, sym, ap, ◌∙◌, subst, arith, append_assoc, length-append}
use Rattle.imp_lex.specs.declared.token.TokenKind.{TokenKind}
use Rattle.imp_parse.specs.Language.{Language, Opens}
use Rattle.imp_parse.specs.Reader.{Stop, Unexpected, Out, Read, ◌>>=◌}

-- ---- first tokens

-- the same first token, or none
abbrev pub SameFirst : List TokenKind → List TokenKind → Type 0
SameFirst [] [] = Unit {0}
SameFirst [] (s ∷ more) = ⊥
SameFirst (t ∷ rest) [] = ⊥
SameFirst (t ∷ rest) (s ∷ more) = t ≡ s

pub by_first : (t : TokenKind) (rest : List TokenKind) (P : List TokenKind → Type 0) → ((r : List TokenKind) → P (t ∷ r)) → (more : List TokenKind) → SameFirst (t ∷ rest) more → P more
by_first t rest P h [] e = absurd e
by_first t rest P h (s ∷ r) e = subst (λ s. P (s ∷ r)) e (h r)

pub by_none : (P : List TokenKind → Type 0) → P [] → (more : List TokenKind) → SameFirst [] more → P more
by_none P h [] e = h
by_none P h (s ∷ r) e = absurd e

pub same_behind : (p rest more : List TokenKind) → SameFirst rest more → SameFirst (p ++ rest) (p ++ more)
same_behind [] rest more e = e
same_behind (t ∷ p) rest more e = refl

-- ---- exact readers

abbrev pub Reader : Type 0 → Type 0
Reader A = List TokenKind → Read A

-- the first token that is left is not one that the test has
abbrev pub Free : (TokenKind → Bool) → List TokenKind → Type 0
Free on [] = Unit {0}
Free on (t ∷ ts) = on t ≡ false

-- a text of the language was read, and is read before any tokens that begin so
pub record Took {A : Type 0} (G : Language A) (r : Reader A) (ts : List TokenKind) (x : A × List TokenKind) : Type 0 where
  pub text : List TokenKind
  pub parts : ts ≡ text ++ x.1
  pub is : G text x.0
  pub again : (more : List TokenKind) → SameFirst x.1 more → r (text ++ more) ≡ Ok (x.0, more)

-- some text of the language begins with what was read, and none goes on so
pub record Stuck {A : Type 0} (G : Language A) (r : Reader A) (ts : List TokenKind) (n : ℕ) : Type 0 where
  pub before : List TokenKind
  pub rest : List TokenKind
  pub parts : ts ≡ before ++ rest
  pub left : n ≡ length rest
  pub opens : Opens G before
  pub again : (more : List TokenKind) → SameFirst rest more → r (before ++ more) ≡ Err (Unexpected (length more))

abbrev pub Explained : {A : Type 0} → Language A → Reader A → List TokenKind → Read A → Type 0
Explained G r ts (Ok x) = Took G r ts x
Explained G r ts (Err (Unexpected n)) = Stuck G r ts n
Explained G r ts (Err Out) = ⊥

-- at texts of fewer than n tokens: what is in the language is read, up to a token that does not go on, and each answer has its reason
pub record Exact {A : Type 0} (n : ℕ) (G : Language A) (on : TokenKind → Bool) (r : Reader A) : Type 0 where
  pub reads : (w : List TokenKind) (a : A) (rest : List TokenKind) → length w < n → G w a → Free on rest → r (w ++ rest) ≡ Ok (a, rest)
  pub explains : (ts : List TokenKind) → length ts < n → Explained G r ts (r ts)

pub by_answer : {A B : Type 0} (P : Result A Stop → Type 0) (Q : Result B Stop → Type 0) (r : Result A Stop) (f : A → Result B Stop) → P r → ((x : A) → P (Ok x) → r ≡ Ok x → Q (f x)) → ((s : Stop) → P (Err s) → Q (Err s)) → Q (r >>= f)
by_answer P Q (Ok x) f p ok err = ok x p refl
by_answer P Q (Err s) f p ok err = err s p

-- ---- a fault of a part is one of the whole

pub lift : {A B : Type 0} (G : Language A) (H : Language B) (part : Reader A) (whole : Reader B) (first ts : List TokenKind)
    → ((q : List TokenKind) → Opens G q → Opens H (first ++ q))
    → ((more : List TokenKind) (k : ℕ) → SameFirst ts more → part more ≡ Err (Unexpected k) → whole (first ++ more) ≡ Err (Unexpected k))
    → (s : Stop) → Explained G part ts (Err s) → Explained H whole (first ++ ts) (Err s)
lift G H part whole first ts opening local (Unexpected n) s = record {
  before = first ++ s.before;
  rest = s.rest;
  parts = ap (λ (q : List TokenKind). first ++ q) s.parts ∙ sym (append_assoc first s.before s.rest);
  left = s.left;
  opens = opening s.before s.opens;
  again = λ more e.
      ap whole (append_assoc first s.before more)
      ∙ local (s.before ++ more) (length more) (subst (λ (q : List TokenKind). SameFirst q (s.before ++ more)) (sym s.parts) (same_behind s.before s.rest more e)) (s.again more e);
}
lift G H part whole first ts opening local Out s = s

-- ---- one after the other

pub data Both {A B : Type 0} (G : Language A) (H : A → Language B) : List TokenKind → B → Type 0 where
  both : {v w : List TokenKind} {a : A} {b : B} → G v a → H a w b → Both G H (v ++ w) b

abbrev pub seq : {A B : Type 0} → Reader A → (A → Reader B) → Reader B
seq r f ts = r ts >>= λ x. f x.0 x.1

module _ {A B : Type 0} (n m : ℕ) (G : Language A) (H : A → Language B) (on on' : TokenKind → Bool) (r : Reader A) (f : A → Reader B)
    (first : Exact n G on r)
    (second : (w : List TokenKind) (a : A) → G w a → Exact m (H a) on' (f a))
    (room : (w : List TokenKind) (a : A) → G w a → n ≤ m + length w)
    (follow : (a : A) (w : List TokenKind) (b : B) (rest : List TokenKind) → H a w b → Free on' rest → Free on (w ++ rest))
    (filled : (a : A) → Opens (H a) []) where
  both_reads : (w : List TokenKind) (b : B) (rest : List TokenKind) → length w < n → Both G H w b → Free on' rest → seq r f (w ++ rest) ≡ Ok (b, rest)
  both_reads w b rest lt (both {v = u} {w = v} {a = a} g h) free =
      ap (seq r f) (append_assoc u v rest)
      ∙ ap (λ q. q >>= λ x. f x.0 x.1) (first.reads u a (v ++ rest) (omega (arith, length-append u v)) g (follow a v b rest h free))
      ∙ (second u a g).reads v b rest (omega (arith, room u a g, length-append u v)) h free

  both_behind : (ts : List TokenKind) (x : A × List TokenKind) (k : Took G r ts x) (ans : Read B) → Explained (H x.0) (f x.0) x.1 ans → Explained (Both G H) (seq r f) ts ans
  both_behind ts x k (Ok y) h = record {
    text = k.text ++ h.text;
    parts = k.parts ∙ ap (λ (q : List TokenKind). k.text ++ q) h.parts ∙ sym (append_assoc k.text h.text y.1);
    is = both k.is h.is;
    again = λ more e.
        ap (seq r f) (append_assoc k.text h.text more)
        ∙ ap (λ q. q >>= λ z. f z.0 z.1) (k.again (h.text ++ more) (subst (λ (q : List TokenKind). SameFirst q (h.text ++ more)) (sym h.parts) (same_behind h.text y.1 more e)))
        ∙ h.again more e;
  }
  both_behind ts x k (Err s) h =
      subst (λ (q : List TokenKind). Explained (Both G H) (seq r f) q (Err s)) (sym k.parts)
      (lift (H x.0) (Both G H) (f x.0) (seq r f) k.text x.1
      (λ q b. (b.0, b.1, subst (λ (u : List TokenKind). Both G H u b.1) (sym (append_assoc k.text q b.0)) (both k.is b.2)))
      (λ more c same e. ap (λ q. q >>= λ y. f y.0 y.1) (k.again more same) ∙ e)
      s h)

  both_explains : (ts : List TokenKind) → length ts < n → Explained (Both G H) (seq r f) ts (seq r f ts)
  both_explains ts lt =
      by_answer (Explained G r ts) (Explained (Both G H) (seq r f) ts) (r ts) (λ x. f x.0 x.1) (first.explains ts lt)
      (λ x k e.
      let len : length ts ≡ length k.text + length x.1 = ap length k.parts ∙ length-append k.text x.1 in
      both_behind ts x k (f x.0 x.1) ((second k.text x.0 k.is).explains x.1 (omega (arith, room k.text x.0 k.is))))
      (λ s h. lift G (Both G H) r (seq r f) [] ts
      (λ q b. let o = filled b.1 in (b.0 ++ o.0, o.1, subst (λ (u : List TokenKind). Both G H u o.1) (append_assoc q b.0 o.0) (both b.2 o.2)))
      (λ more c same e. ap (λ q. q >>= λ y. f y.0 y.1) e)
      s h)

  pub seq_exact : Exact n (Both G H) on' (seq r f)
  seq_exact = record { reads = both_reads; explains = both_explains }

-- ---- another name for the same texts

renamed : {A : Type 0} (G H : Language A) (r : Reader A) (ts : List TokenKind) → ((w : List TokenKind) (a : A) → G w a → H w a) → (ans : Read A) → Explained G r ts ans → Explained H r ts ans
renamed G H r ts to (Ok x) k = record { text = k.text; parts = k.parts; is = to k.text x.0 k.is; again = k.again }
renamed G H r ts to (Err s) k = lift G H r r [] ts (λ q o. (o.0, o.1, to (q ++ o.0) o.1 o.2)) (λ more c same was. was) s k

pub another : {A : Type 0} (n : ℕ) (G H : Language A) (on : TokenKind → Bool) (r : Reader A) → ((w : List TokenKind) (a : A) → G w a → H w a) → ((w : List TokenKind) (a : A) → H w a → G w a) → Exact n G on r → Exact n H on r
another n G H on r to from e = record {
  reads = λ w a rest lt h free. e.reads w a rest lt (from w a h) free;
  explains = λ ts lt. renamed G H r ts to (r ts) (e.explains ts lt);
}

pub fewer : {A : Type 0} (n m : ℕ) (G : Language A) (on : TokenKind → Bool) (r : Reader A) → m ≤ n → Exact n G on r → Exact m G on r
fewer n m G on r le e = record {
  reads = λ w a rest lt g free. e.reads w a rest (omega arith) g free;
  explains = λ ts lt. e.explains ts (omega arith);
}

pub nothing_exact : {A : Type 0} (G : Language A) (on : TokenKind → Bool) (r : Reader A) → Exact 0 G on r
nothing_exact G on r = record { reads = λ w a rest lt g free. absurd (omega arith); explains = λ ts lt. absurd (omega arith) }

-- ---- readers that choose by the first token

pub after_first : {A : Type 0} (H G : Language A) (body whole : Reader A) (t : TokenKind) (ts : List TokenKind) → ((w : List TokenKind) (a : A) → H w a → G (t ∷ w) a) → ((q : List TokenKind) → whole (t ∷ q) ≡ body q) → (ans : Read A) → Explained H body ts ans → Explained G whole (t ∷ ts) ans
after_first H G body whole t ts intro eq (Ok x) k = record { text = t ∷ k.text; parts = ap (λ (q : List TokenKind). t ∷ q) k.parts; is = intro k.text x.0 k.is; again = λ more e. eq (k.text ++ more) ∙ k.again more e }
after_first H G body whole t ts intro eq (Err s) k = lift H G body whole (t ∷ []) ts (λ q o. (o.0, o.1, intro (q ++ o.0) o.1 o.2)) (λ more c same e. eq more ∙ e) s k

pub stuck_here : {A : Type 0} (G : Language A) (r : Reader A) (ts : List TokenKind) → Opens G [] → ((more : List TokenKind) → SameFirst ts more → r more ≡ Err (Unexpected (length more))) → Stuck G r ts (length ts)
stuck_here G r ts opens again = record { before = []; rest = ts; parts = refl; left = refl; opens = opens; again = again }

pub stuck_first : {A : Type 0} (G : Language A) (r : Reader A) (t : TokenKind) (ts : List TokenKind) → Opens G [] → ((q : List TokenKind) → r (t ∷ q) ≡ Err (Unexpected (suc (length q)))) → Stuck G r (t ∷ ts) (suc (length ts))
stuck_first G r t ts opens eq = stuck_here G r (t ∷ ts) opens (by_first t ts (λ more. r more ≡ Err (Unexpected (length more))) (λ q. eq q))

pub stuck_end : {A : Type 0} (G : Language A) (r : Reader A) → Opens G [] → r [] ≡ Err (Unexpected 0) → Stuck G r [] 0
stuck_end G r opens eq = stuck_here G r [] opens (by_none (λ more. r more ≡ Err (Unexpected (length more))) eq)
