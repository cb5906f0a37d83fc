-- What an exact reader answers is what the tokens are, and they are one thing only.
use Rattle.std.proofs.Common.{◌≡◌, ◌⊎◌, ℕ, zero, suc, ◌+◌, ◌-◌, ◌<◌, ◌≤◌, Bool, true, false, cond, inl, inr, List, [], ◌∷◌, ◌++◌, length, take, drop, Option, Some, None, Result, Ok, Err, refl, sym, ap, ◌∙◌, subst, arith, append_assoc, length-append}
use Rattle.std.specs.Prelude.{option_map}
use Rattle.std.proofs.lemmas.Bool.{cases_lt}
use Rattle.std.proofs.lemmas.List.{append-nil, take_at, take_all, take-append-drop, length-take-le}
use Rattle.imp_lex.specs.declared.token.TokenKind.{TokenKind}
use Rattle.imp_parse.specs.declared.error.Stopped.{Stopped}
use Rattle.imp_parse.specs.declared.error.Stopped.TheVariants as s
use Rattle.imp_parse.specs.declared.error.ParseError.{ParseError}
use Rattle.imp_parse.specs.declared.error.ParseError.TheVariants as e
use Rattle.imp_parse.specs.declared.limits.Nesting.{Nesting}
use Rattle.imp_parse.specs.Language.{Language, Opens, IsStuck}
use Rattle.imp_parse.specs.Reader.{Stop, Unexpected, Out, Read}
use Rattle.imp_parse.specs.Limits.{role_of, next, exceeds, too_deep}
use Rattle.imp_parse.specs.Answer.{Fits, IsTokenAnswer}
use Rattle.imp_parse.specs.Judged.{Gives, finished, cut, judged}
use Rattle.imp_parse.proofs.Exact.{SameFirst, Reader, Explained, Exact}
use Rattle.std.proofs.Math.Seq.{take-take}

-- ---- lists

-- ---- the first token too deep

deep_step : (b : Bool) (x : Option ℕ) (i : ℕ) → cond b (Some 0) (option_map suc x) ≡ Some i → ((b ≡ true) × (i ≡ 0)) ⊎ ((b ≡ false) × (j : ℕ) × (x ≡ Some j) × (i ≡ suc j))
deep_step true x i h = inl (refl, let f : 0 ≡ i = cc in sym f)
deep_step false None i h = absurd cc
deep_step false (Some j) i h = inr (refl, j, refl, let f : suc j ≡ i = cc in sym f)

pub deep_in : (p : Nesting) (ts : List TokenKind) (i : ℕ) → too_deep p ts ≡ Some i → i < length ts
deep_in p [] i h = absurd cc
deep_in p (t ∷ ts) i h =
    elim (deep_step (exceeds p (role_of t)) (too_deep (next p (role_of t)) ts) i h) [
      | inl f ↦ omega (arith, f.1)
      | inr f ↦ let g : f.1 < length ts = deep_in (next p (role_of t)) ts f.1 f.2 in omega (arith, f.3)
    ]

fits_step : (b : Bool) (x y : Option ℕ) → cond b (Some 0) (option_map suc x) ≡ None → (x ≡ None → y ≡ None) → cond b (Some 0) (option_map suc y) ≡ None
fits_step true x y h f = absurd cc
fits_step false None y h f = ap (option_map suc) (f refl)
fits_step false (Some j) y h f = absurd cc

pub fits_front : (p : Nesting) (ts : List TokenKind) (j : ℕ) → too_deep p ts ≡ None → too_deep p (take j ts) ≡ None
fits_front p [] zero h = refl
fits_front p [] (suc j) h = refl
fits_front p (t ∷ ts) zero h = refl
fits_front p (t ∷ ts) (suc j) h = fits_step (exceeds p (role_of t)) (too_deep (next p (role_of t)) ts) (too_deep (next p (role_of t)) (take j ts)) h (λ f. fits_front (next p (role_of t)) ts j f)

before_step : (b : Bool) (x y : Option ℕ) (i j : ℕ) → cond b (Some 0) (option_map suc x) ≡ Some i → suc j ≤ i → ((k : ℕ) → x ≡ Some k → j ≤ k → y ≡ None) → cond b (Some 0) (option_map suc y) ≡ None
before_step true x y i j h le f = let g : 0 ≡ i = cc in absurd (omega arith)
before_step false None y i j h le f = absurd cc
before_step false (Some k) y i j h le f = let g : suc k ≡ i = cc in ap (option_map suc) (f k refl (omega arith))

pub fits_before : (p : Nesting) (ts : List TokenKind) (i j : ℕ) → too_deep p ts ≡ Some i → j ≤ i → too_deep p (take j ts) ≡ None
fits_before p [] i j h le = absurd cc
fits_before p (t ∷ ts) i zero h le = refl
fits_before p (t ∷ ts) i (suc j) h le =
    before_step (exceeds p (role_of t)) (too_deep (next p (role_of t)) ts) (too_deep (next p (role_of t)) (take j ts)) i j h le (λ k f g. fits_before (next p (role_of t)) ts k j f g)

within_step : (b : Bool) (x y : Option ℕ) (i j : ℕ) → cond b (Some 0) (option_map suc x) ≡ Some i → i < suc j → ((k : ℕ) → x ≡ Some k → k < j → y ≡ Some k) → cond b (Some 0) (option_map suc y) ≡ Some i
within_step true x y i j h lt f = h
within_step false None y i j h lt f = absurd cc
within_step false (Some k) y i j h lt f = let g : suc k ≡ i = cc in ap (option_map suc) (f k refl (omega arith)) ∙ h

pub deep_within : (p : Nesting) (ts : List TokenKind) (i j : ℕ) → too_deep p ts ≡ Some i → i < j → too_deep p (take j ts) ≡ Some i
deep_within p [] i j h lt = absurd cc
deep_within p (t ∷ ts) i zero h lt = absurd (omega arith)
deep_within p (t ∷ ts) i (suc j) h lt =
    within_step (exceeds p (role_of t)) (too_deep (next p (role_of t)) ts) (too_deep (next p (role_of t)) (take j ts)) i j h lt (λ k f g. deep_within (next p (role_of t)) ts k j f g)

-- ---- texts that begin so

module _ {A : Type 0} (G : Language A) where
  pub opens_front : (ts : List TokenKind) (j : ℕ) → Opens G ts → Opens G (take j ts)
  opens_front ts j o = (drop j ts ++ o.0, o.1, subst (λ (q : List TokenKind). G q o.1) (ap (λ (q : List TokenKind). q ++ o.0) (sym (take-append-drop j ts)) ∙ append_assoc (take j ts) (drop j ts) o.0) o.2)

  pub opens_less : (ts : List TokenKind) (i j : ℕ) → i ≤ j → Opens G (take j ts) → Opens G (take i ts)
  opens_less ts i j le o = subst (λ (q : List TokenKind). Opens G q) (take-take i j ts le) (opens_front (take j ts) i o)

  pub tree_opens : (ts : List TokenKind) (a : A) → G ts a → Opens G ts
  tree_opens ts a g = ([], a, subst (λ (q : List TokenKind). G q a) (sym (append-nil ts)) g)

  stuck_at : (ts before rest : List TokenKind) → ts ≡ before ++ rest → Opens G before → ((more : List TokenKind) → SameFirst rest more → (a : A) → G (before ++ more) a → ⊥) → IsStuck G ts (length before)
  stuck_at ts before rest parts opens dead =
      let len : length ts ≡ length before + length rest = ap length parts ∙ length-append before rest in
      record {
        within = omega arith;
        begun = subst (λ (q : List TokenKind). Opens G q) (sym (ap (take (length before)) parts ∙ take_at before rest (length before) refl)) opens;
        wrong = λ lt o. wrong_at rest parts dead (omega arith) o;
        short = λ i a g. short_at rest parts dead (omega arith) a g;
      } where
        wrong_at : (rest : List TokenKind) → ts ≡ before ++ rest → ((more : List TokenKind) → SameFirst rest more → (a : A) → G (before ++ more) a → ⊥) → 0 < length rest → Opens G (take (length before + 1) ts) → ⊥
        wrong_at [] parts dead lt o = absurd (omega arith)
        wrong_at (t ∷ rest) parts dead lt o =
            let regrouped : ts ≡ (before ++ t ∷ []) ++ rest = parts ∙ sym (append_assoc before (t ∷ []) rest) in
            let front : take (length before + 1) ts ≡ before ++ t ∷ [] = ap (take (length before + 1)) regrouped ∙ take_at (before ++ t ∷ []) rest (length before + 1) (length-append before (t ∷ [])) in
            dead (t ∷ o.0) refl o.1 (subst (λ (q : List TokenKind). G q o.1) (ap (λ (q : List TokenKind). q ++ o.0) front ∙ append_assoc before (t ∷ []) o.0) o.2)

        short_at : (rest : List TokenKind) → ts ≡ before ++ rest → ((more : List TokenKind) → SameFirst rest more → (a : A) → G (before ++ more) a → ⊥) → length rest ≡ 0 → (a : A) → G ts a → ⊥
        short_at [] parts dead z a g = dead [] tt a (subst (λ (q : List TokenKind). G q a) parts g)
        short_at (t ∷ rest) parts dead z a g = absurd (omega arith)

  -- what goes wrong in a front of the tokens, and before its end, goes wrong there in all of them
  stuck_front : (ts : List TokenKind) (m i : ℕ) → m ≤ length ts → i < m → IsStuck G (take m ts) i → IsStuck G ts i
  stuck_front ts m i le lt k =
      let len : length (take m ts) ≡ m = length-take-le m ts le in
      record {
        within = omega arith;
        begun = subst (λ (q : List TokenKind). Opens G q) (take-take i m ts (omega arith)) k.begun;
        wrong = λ h o. k.wrong (omega arith) (subst (λ (q : List TokenKind). Opens G q) (sym (take-take (i + 1) m ts (omega arith))) o);
        short = λ h a g. absurd (omega arith);
      }

-- ---- one thing only

module _ {A : Type 0} (G : Language A) (p : Nesting) (one_tree : (ts : List TokenKind) (a b : A) → G ts a → G ts b → a ≡ b) where
  tree_stuck : (ts : List TokenKind) (a : A) (i : ℕ) → G ts a → IsStuck G ts i → ⊥
  tree_stuck ts a i g k = elim (cases_lt i (length ts)) [
    | inl lt ↦ k.wrong lt (opens_front G ts (i + 1) (tree_opens G ts a g))
    | inr ge ↦ let w : i ≤ length ts = k.within in k.short (omega arith) a g
  ]

  stuck_twice : (ts : List TokenKind) (i j : ℕ) → IsStuck G ts i → IsStuck G ts j → i < j → ⊥
  stuck_twice ts i j k l lt = let w : j ≤ length ts = l.within in k.wrong (omega arith) (opens_less G ts (i + 1) j (omega arith) l.begun)

  stuck_same : (ts : List TokenKind) (i j : ℕ) → IsStuck G ts i → IsStuck G ts j → i ≡ j
  stuck_same ts i j k l = elim (cases_lt i j) [
    | inl lt ↦ absurd (stuck_twice ts i j k l lt)
    | inr ge ↦ elim (cases_lt j i) [
      | inl lt ↦ absurd (stuck_twice ts j i l k lt)
      | inr le ↦ omega arith
    ]
  ]

  stuck_deep : (ts : List TokenKind) (i d : ℕ) → IsStuck G ts i → Fits p (take i ts) → too_deep p ts ≡ Some d → Opens G (take (d + 1) ts) → ⊥
  stuck_deep ts i d k fits deep o = elim (cases_lt d i) [
    | inl lt ↦ let again : too_deep p (take i ts) ≡ Some d = deep_within p ts d i deep lt in absurd cc
    | inr le ↦ let lt : d < length ts = deep_in p ts d deep in k.wrong (omega arith) (opens_less G ts (i + 1) (d + 1) (omega arith) o)
  ]

  pub token_unique : (ts : List TokenKind) (a b : Result A ParseError) → IsTokenAnswer G p ts a → IsTokenAnswer G p ts b → a ≡ b
  token_unique ts (Ok x) (Ok y) g h = ap Ok (one_tree ts x y g.0 h.0)
  token_unique ts (Ok x) (Err (e.Unexpected i)) g h = absurd (tree_stuck ts x i g.0 h.0)
  token_unique ts (Ok x) (Err (e.TooDeep i)) g h = let f : Fits p ts = g.1 in let d : too_deep p ts ≡ Some i = h.0 in absurd cc
  token_unique ts (Ok x) (Err (e.Lex fault)) g h = absurd h
  token_unique ts (Ok x) (Err e.Memory) g h = absurd h
  token_unique ts (Err (e.Unexpected i)) (Ok y) g h = absurd (tree_stuck ts y i h.0 g.0)
  token_unique ts (Err (e.Unexpected i)) (Err (e.Unexpected j)) g h = ap (λ k. Err (e.Unexpected k)) (stuck_same ts i j g.0 h.0)
  token_unique ts (Err (e.Unexpected i)) (Err (e.TooDeep j)) g h = absurd (stuck_deep ts i j g.0 g.1 h.0 h.1)
  token_unique ts (Err (e.Unexpected i)) (Err (e.Lex fault)) g h = absurd h
  token_unique ts (Err (e.Unexpected i)) (Err e.Memory) g h = absurd h
  token_unique ts (Err (e.TooDeep i)) (Ok y) g h = let f : Fits p ts = h.1 in let d : too_deep p ts ≡ Some i = g.0 in absurd cc
  token_unique ts (Err (e.TooDeep i)) (Err (e.Unexpected j)) g h = absurd (stuck_deep ts j i h.0 h.1 g.0 g.1)
  token_unique ts (Err (e.TooDeep i)) (Err (e.TooDeep j)) g h = let f : too_deep p ts ≡ Some i = g.0 in let d : too_deep p ts ≡ Some j = h.0 in let same : i ≡ j = cc in ap (λ k. Err (e.TooDeep k)) same
  token_unique ts (Err (e.TooDeep i)) (Err (e.Lex fault)) g h = absurd h
  token_unique ts (Err (e.TooDeep i)) (Err e.Memory) g h = absurd h
  token_unique ts (Err (e.Lex fault)) b g h = absurd g
  token_unique ts (Err e.Memory) b g h = absurd g

-- ---- what an exact reader answers

-- what a whole reading says
abbrev Whole : {A : Type 0} → Language A → List TokenKind → Result A Stop → Type 0
Whole G ts (Ok a) = G ts a
Whole G ts (Err (Unexpected n)) = (n ≤ length ts) × IsStuck G ts (length ts - n)
Whole G ts (Err Out) = ⊥

module _ {A : Type 0} (G : Language A) (on : TokenKind → Bool) (r : Reader A) (exact : (n : ℕ) → Exact n G on r) where
  read_again : (ts : List TokenKind) (a : A) → G ts a → r ts ≡ Ok (a, [])
  read_again ts a g = ap r (sym (append-nil ts)) ∙ (exact (suc (length ts))).reads ts a [] (omega arith) g tt

  pub one_tree : (ts : List TokenKind) (a b : A) → G ts a → G ts b → a ≡ b
  one_tree ts a b g h =
      let x : A × List TokenKind = (a, []) in
      let y : A × List TokenKind = (b, []) in
      let f : r ts ≡ Ok x = read_again ts a g in
      let k : r ts ≡ Ok y = read_again ts b h in
      let same : x ≡ y = cc in
      ap (λ (q : A × List TokenKind). q.0) same

  no_text : (w : List TokenKind) (a : A) (k : ℕ) → r w ≡ Err (Unexpected k) → G w a → ⊥
  no_text w a k h g = let f = read_again w a g in cc

  no_rest : (w : List TokenKind) (a x : A) (t : TokenKind) (rest : List TokenKind) → r w ≡ Ok (x, t ∷ rest) → G w a → ⊥
  no_rest w a x t rest h g =
      let u : A × List TokenKind = (x, t ∷ rest) in
      let v : A × List TokenKind = (a, []) in
      let f : r w ≡ Ok v = read_again w a g in
      let same : u ≡ v = cc in
      let none : t ∷ rest ≡ [] = ap (λ (q : A × List TokenKind). q.1) same in
      cc

  more_dead : (text rest : List TokenKind) (t : TokenKind) (x : A) → ((more : List TokenKind) → SameFirst (t ∷ rest) more → r (text ++ more) ≡ Ok (x, more)) → (more : List TokenKind) → SameFirst (t ∷ rest) more → (a : A) → G (text ++ more) a → ⊥
  more_dead text rest t x again [] same a g = same
  more_dead text rest t x again (s ∷ more) same a g = no_rest (text ++ (s ∷ more)) a x s more (again (s ∷ more) same) g

  whole_of : (ts : List TokenKind) (ans : Read A) → Explained G r ts ans → Whole G ts (finished ans)
  whole_of ts (Ok (x, [])) k = subst (λ (q : List TokenKind). G q x) (sym (k.parts ∙ append-nil k.text)) k.is
  whole_of ts (Ok (x, t ∷ rest)) k =
      let len : length ts ≡ length k.text + suc (length rest) = ap length k.parts ∙ length-append k.text (t ∷ rest) in
      (omega arith, subst (IsStuck G ts) (omega arith) (stuck_at G ts k.text (t ∷ rest) k.parts ([], x, subst (λ (q : List TokenKind). G q x) (sym (append-nil k.text)) k.is) (more_dead k.text rest t x k.again)))
  whole_of ts (Err (Unexpected n)) k =
      let len : length ts ≡ length k.before + length k.rest = ap length k.parts ∙ length-append k.before k.rest in
      (omega (arith, k.left), subst (IsStuck G ts) (omega (arith, k.left)) (stuck_at G ts k.before k.rest k.parts k.opens (λ more same a g. no_text (k.before ++ more) a (length more) (k.again more same) g)))
  whole_of ts (Err Out) k = k

  whole : (ts : List TokenKind) → Whole G ts (finished (r ts))
  whole ts = whole_of ts (r ts) ((exact (suc (length ts))).explains ts (omega arith))

  -- a whole reading ends
  pub never_out : (ts : List TokenKind) → finished (r ts) ≡ Err Out → ⊥
  never_out ts h = subst (Whole G ts) h (whole ts)

  module _ (p : Nesting) (ts : List TokenKind) where
    judged_at : (deep : Option ℕ) → too_deep p ts ≡ deep → (read : Result A Stopped) → Gives (λ x. x) read (finished (r (cut deep ts))) → (judged deep (length ts) read ≡ Err e.Memory) ⊎ IsTokenAnswer G p ts (judged deep (length ts) read)
    judged_at None h (Ok x) g = inr (subst (Whole G ts) g (whole ts), h)
    judged_at None h (Err (s.Unexpected left)) g = let k = subst (Whole G ts) g (whole ts) in inr (k.1, fits_front p ts (length ts - left) h)
    judged_at None h (Err s.Memory) g = inl refl
    judged_at (Some i) h (Ok x) g = inr (h, tree_opens G (take (i + 1) ts) x (subst (Whole G (take (i + 1) ts)) g (whole (take (i + 1) ts))))
    judged_at (Some i) h (Err (s.Unexpected zero)) g =
        let c : List TokenKind = take (i + 1) ts in
        let k = subst (Whole G c) g (whole c) in
        inr (h, subst (λ (q : List TokenKind). Opens G q) (take_all (length c - 0) c (omega arith)) k.1.begun)
    judged_at (Some i) h (Err (s.Unexpected (suc left))) g =
        let c : List TokenKind = take (i + 1) ts in
        let k = subst (Whole G c) g (whole c) in
        let lt : i < length ts = deep_in p ts i h in
        let len : length c ≡ i + 1 = length-take-le (i + 1) ts (omega arith) in
        let at : length c - suc left ≡ i - left = omega (arith, k.0) in
        inr (stuck_front G ts (i + 1) (i - left) (omega arith) (omega arith) (subst (IsStuck G c) at k.1), fits_before p ts i (i - left) h (omega arith))
    judged_at (Some i) h (Err s.Memory) g = inl refl

    pub judged_answer : (read : Result A Stopped) → Gives (λ x. x) read (finished (r (cut (too_deep p ts) ts))) → (judged (too_deep p ts) (length ts) read ≡ Err e.Memory) ⊎ IsTokenAnswer G p ts (judged (too_deep p ts) (length ts) read)
    judged_answer read g = judged_at (too_deep p ts) refl read g
