-- Readers that may call those of one layer, together with their language and what is proved of them, as one value.
use Rattle.std.proofs.Common.{◌≡◌, ℕ, suc, ◌+◌, ◌<◌, ◌≤◌, Bool, true, false, List, [], ◌∷◌, ◌++◌, length, Option, Some, None, Ok, Err, refl, sym, ap, ◌∙◌, subst, arith, length-append}
use Rattle.std.proofs.lemmas.List.{append-nil}
use Rattle.std.specs.Prelude.{IfOk}
use Rattle.imp_lex.specs.declared.token.TokenKind.{TokenKind}
use Rattle.imp_parse.specs.Language.{Language, Opens}
use Rattle.imp_parse.specs.Reader.{Unexpected, Out, Read, ◌>>=◌, pick_at, picked}
use Rattle.imp_parse.proofs.Exact.{SameFirst, same_behind, Reader, Free, Took, Explained, Exact, seq, Both, both, seq_exact, fewer, after_first, stuck_first, stuck_end}

-- a reader that calls itself: at what, what it answers, and the language of each call
pub record Layer : Type 1 where
  pub Call : Type 0
  pub Value : Type 0
  pub lang : Call → Language Value
  pub on : Call → TokenKind → Bool
  pub some : (i : Call) → Opens (lang i) []

abbrev pub Calls : Layer → Type 0
Calls L = L.Call → List TokenKind → Read L.Value

-- fewer than k tokens are left
abbrev pub Below : {A : Type 0} → ℕ → Read A → Type 0
Below k r = IfOk r (λ x. length x.1 < k)

abbrev pub Keeps : (L : Layer) → Calls L → Type 0
Keeps L f = (k : ℕ) (i : L.Call) (ts : List TokenKind) → length ts < k → Below k (f i ts)

abbrev pub Agree : (L : Layer) → ℕ → Calls L → Calls L → Type 0
Agree L k f g = (i : L.Call) (ts : List TokenKind) → length ts < k → f i ts ≡ g i ts

abbrev pub Good : (L : Layer) → ℕ → Calls L → Type 0
Good L k f = (i : L.Call) → Exact k (L.lang i) (L.on i) (f i)

-- what is read leaves fewer tokens, or may leave all
abbrev pub strictly : ℕ → ℕ
strictly k = suc k

abbrev pub loosely : ℕ → ℕ
loosely k = k

-- up: strictly where each text has a token; at: strictly where no call stands at the front
pub record Pack (L : Layer) (A : Type 0) (up at : ℕ → ℕ) (on : TokenKind → Bool) : Type 1 where
  pub lang : Language A
  pub reader : Calls L → Reader A
  pub keeps : (f : Calls L) → Keeps L f → (k : ℕ) (ts : List TokenKind) → length ts < up k → Below k (reader f ts)
  pub same : (f g : Calls L) → Keeps L f → (k : ℕ) → Agree L k f g → (ts : List TokenKind) → length ts < at k → reader f ts ≡ reader g ts
  pub exact : (f : Calls L) (k : ℕ) → Good L k f → Exact (at k) lang on (reader f)
  pub some : Opens lang []
  pub grows : (k : ℕ) (w : List TokenKind) (a : A) → lang w a → up k ≤ k + length w
  pub high : (k : ℕ) → k ≤ up k
  pub low : (k : ℕ) → up k ≤ suc k
  pub tight : (k : ℕ) → k ≤ at k
  pub near : (k : ℕ) → at k ≤ suc k

abbrev pub Strict : Layer → Type 0 → (TokenKind → Bool) → Type 1
Strict L A on = Pack L A strictly strictly on

abbrev pub Loose : Layer → Type 0 → (TokenKind → Bool) → Type 1
Loose L A on = Pack L A loosely loosely on

-- any token may come next
abbrev pub never : TokenKind → Bool
never t = false

pub free_never : (ts : List TokenKind) → Free never ts
free_never [] = tt
free_never (t ∷ ts) = refl

pub below_then : {A B : Type 0} (k : ℕ) (r : Read A) (f : A × List TokenKind → Read B) → Below k r → ((x : A × List TokenKind) → length x.1 < k → Below k (f x)) → Below k (r >>= f)
below_then k (Ok x) f p h = h x p
below_then k (Err e) f p h = tt

pub same_then : {A B : Type 0} (k : ℕ) (r : Read A) (f g : A × List TokenKind → Read B) → Below k r → ((x : A × List TokenKind) → length x.1 < k → f x ≡ g x) → (r >>= f) ≡ (r >>= g)
same_then k (Ok x) f g p h = h x p
same_then k (Err e) f g p h = refl

-- ---- the same with less said of it

abbrev pub loose : {L : Layer} {A : Type 0} {up at : ℕ → ℕ} {on : TokenKind → Bool} → Pack L A up at on → Loose L A on
loose p = record {
  lang = p.lang;
  reader = p.reader;
  keeps = λ f kf k ts lt. p.keeps f kf k ts (omega (arith, p.high k));
  same = λ f g kf k h ts lt. p.same f g kf k h ts (omega (arith, p.tight k));
  exact = λ f k good. fewer _ k p.lang _ (p.reader f) (p.tight k) (p.exact f k good);
  some = p.some;
  grows = λ k w a g. omega arith;
  high = λ k. omega arith;
  low = λ k. omega arith;
  tight = λ k. omega arith;
  near = λ k. omega arith;
}

pub free_until : (on' on : TokenKind → Bool) → ((t : TokenKind) → on' t ≡ false → on t ≡ false) → (rest : List TokenKind) → Free on' rest → Free on rest
free_until on' on le [] free = tt
free_until on' on le (t ∷ rest) free = le t free

-- up to fewer tokens
abbrev pub until : {L : Layer} {A : Type 0} {up at : ℕ → ℕ} {on : TokenKind → Bool} (on' : TokenKind → Bool) → ((t : TokenKind) → on' t ≡ false → on t ≡ false) → Pack L A up at on → Pack L A up at on'
until on' le p = record {
  lang = p.lang;
  reader = p.reader;
  keeps = p.keeps;
  same = p.same;
  exact = λ f k good. let e = p.exact f k good in record { reads = λ w a rest lt g free. e.reads w a rest lt g (free_until on' _ le rest free); explains = e.explains };
  some = p.some;
  grows = p.grows;
  high = p.high;
  low = p.low;
  tight = p.tight;
  near = p.near;
}

-- ---- nothing, with a value

pub data Nothing {A : Type 0} (x : A) : List TokenKind → A → Type 0 where
  nothing : Nothing x [] x

abbrev pub yields : {A : Type 0} → A → Reader A
yields x ts = Ok (x, ts)

pub nothing_explains : {A : Type 0} (x : A) (ts : List TokenKind) → Took (Nothing x) (yields x) ts (x, ts)
nothing_explains x ts = record { text = []; parts = refl; is = nothing; again = λ more e. refl }

pub nothing_reads : {A : Type 0} (x : A) (w : List TokenKind) (a : A) (rest : List TokenKind) → Nothing x w a → yields x (w ++ rest) ≡ Ok (a, rest)
nothing_reads x w a rest nothing = refl

pub nothing_grows : {A : Type 0} (x : A) (k : ℕ) (w : List TokenKind) (a : A) → Nothing x w a → k ≤ k + length w
nothing_grows x k w a g = omega arith

abbrev pub done : {L : Layer} {A : Type 0} (on : TokenKind → Bool) → A → Pack L A loosely strictly on
done on x = record {
  lang = Nothing x;
  reader = λ f. yields x;
  keeps = λ f kf k ts lt. lt;
  same = λ f g kf k h ts lt. refl;
  exact = λ f k good. record { reads = λ w a rest lt g free. nothing_reads x w a rest g; explains = λ ts lt. nothing_explains x ts };
  some = ([], x, nothing);
  grows = λ k w a g. nothing_grows x k w a g;
  high = λ k. omega arith;
  low = λ k. omega arith;
  tight = λ k. omega arith;
  near = λ k. omega arith;
}

-- ---- one token

-- which tokens they are, said by a test and by a language
pub record Single {A : Type 0} (pick : TokenKind → Option A) (G : Language A) : Type 0 where
  pub to : (t : TokenKind) (a : A) → pick t ≡ Some a → G (t ∷ []) a
  pub from : (w : List TokenKind) (a : A) → G w a → (t : TokenKind) × (w ≡ t ∷ []) × (pick t ≡ Some a)
  pub example : (t : TokenKind) × (a : A) × (pick t ≡ Some a)

pick_below : {A : Type 0} (x : Option A) (k : ℕ) (rest : List TokenKind) → length rest < k → Below k (picked x rest)
pick_below (Some a) k rest lt = lt
pick_below None k rest lt = tt

pub pick_keeps : {A : Type 0} (pick : TokenKind → Option A) (k : ℕ) (ts : List TokenKind) → length ts < suc k → Below k (pick_at pick ts)
pick_keeps pick k [] lt = tt
pick_keeps pick k (t ∷ rest) lt = pick_below (pick t) k rest (omega arith)

module _ {A : Type 0} (pick : TokenKind → Option A) (G : Language A) (single : Single pick G) where
  pub single_opens : Opens G []
  single_opens = let e = single.example in (e.0 ∷ [], e.1, single.to e.0 e.1 e.2)

  single_at : (t : TokenKind) (rest : List TokenKind) (x : Option A) → pick t ≡ x → Explained G (pick_at pick) (t ∷ rest) (picked x rest)
  single_at t rest (Some a) e = record { text = t ∷ []; parts = refl; is = single.to t a e; again = λ more same. ap (λ y. picked y more) e }
  single_at t rest None e = stuck_first G (pick_at pick) t rest single_opens (λ q. ap (λ y. picked y q) e)

  single_explains : (ts : List TokenKind) → Explained G (pick_at pick) ts (pick_at pick ts)
  single_explains [] = stuck_end G (pick_at pick) single_opens refl
  single_explains (t ∷ rest) = single_at t rest (pick t) refl

  single_reads : (w : List TokenKind) (a : A) (rest : List TokenKind) → G w a → pick_at pick (w ++ rest) ≡ Ok (a, rest)
  single_reads w a rest g = let f = single.from w a g in ap (λ (q : List TokenKind). pick_at pick (q ++ rest)) f.1 ∙ ap (λ y. picked y rest) f.2

  pub single_grows : (k : ℕ) (w : List TokenKind) (a : A) → G w a → suc k ≤ k + length w
  single_grows k w a g = let f = single.from w a g in omega (arith, ap length f.1)

  pub single_exact : (n : ℕ) → Exact n G never (pick_at pick)
  single_exact n = record { reads = λ w a rest lt g free. single_reads w a rest g; explains = λ ts lt. single_explains ts }

abbrev pub one : {L : Layer} {A : Type 0} (pick : TokenKind → Option A) (G : Language A) → Single pick G → Strict L A never
one pick G single = record {
  lang = G;
  reader = λ f. pick_at pick;
  keeps = λ f kf k ts lt. pick_keeps pick k ts lt;
  same = λ f g kf k h ts lt. refl;
  exact = λ f k good. single_exact pick G single (suc k);
  some = single_opens pick G single;
  grows = λ k w a g. single_grows pick G single k w a g;
  high = λ k. omega arith;
  low = λ k. omega arith;
  tight = λ k. omega arith;
  near = λ k. omega arith;
}

-- ---- a reader that is exact at any number of tokens, and calls none of this layer

pub explained_below : {A : Type 0} (G : Language A) (r : Reader A) (k : ℕ) (ts : List TokenKind) (ans : Read A) → length ts < k → Explained G r ts ans → Below k ans
explained_below G r k ts (Ok x) lt h = omega (arith, ap length h.parts, length-append h.text x.1)
explained_below G r k ts (Err s) lt h = tt

pub strictly_below : {A : Type 0} (G : Language A) (r : Reader A) (k : ℕ) (ts : List TokenKind) (ans : Read A) → ((w : List TokenKind) (a : A) → G w a → 0 < length w) → length ts < suc k → Explained G r ts ans → Below k ans
strictly_below G r k ts (Ok x) some lt h = omega (arith, ap length h.parts, length-append h.text x.1, some h.text x.0 h.is)
strictly_below G r k ts (Err s) some lt h = tt

abbrev pub read : {L : Layer} {A : Type 0} (G : Language A) (on : TokenKind → Bool) (r : Reader A) → ((n : ℕ) → Exact n G on r) → Opens G [] → ((w : List TokenKind) (a : A) → G w a → 0 < length w) → Strict L A on
read G on r exact opens some = record {
  lang = G;
  reader = λ f. r;
  keeps = λ f kf k ts lt. strictly_below G r k ts (r ts) some lt ((exact (suc k)).explains ts lt);
  same = λ f g kf k h ts lt. refl;
  exact = λ f k good. exact (suc k);
  some = opens;
  grows = λ k w a g. omega (arith, some w a g);
  high = λ k. omega arith;
  low = λ k. omega arith;
  tight = λ k. omega arith;
  near = λ k. omega arith;
}

-- one whose texts may have no token
abbrev pub read_some : {L : Layer} {A : Type 0} (G : Language A) (on : TokenKind → Bool) (r : Reader A) → ((n : ℕ) → Exact n G on r) → Opens G [] → Loose L A on
read_some G on r exact opens = record {
  lang = G;
  reader = λ f. r;
  keeps = λ f kf k ts lt. explained_below G r k ts (r ts) lt ((exact k).explains ts lt);
  same = λ f g kf k h ts lt. refl;
  exact = λ f k good. exact k;
  some = opens;
  grows = λ k w a g. omega arith;
  high = λ k. omega arith;
  low = λ k. omega arith;
  tight = λ k. omega arith;
  near = λ k. omega arith;
}

-- ---- a call

abbrev pub call : {L : Layer} (i : L.Call) → Loose L L.Value (L.on i)
call {L = L} i = record {
  lang = L.lang i;
  reader = λ f. f i;
  keeps = λ f kf k ts lt. kf k i ts lt;
  same = λ f g kf k h ts lt. h i ts lt;
  exact = λ f k good. good i;
  some = L.some i;
  grows = λ k w a g. omega arith;
  high = λ k. omega arith;
  low = λ k. omega arith;
  tight = λ k. omega arith;
  near = λ k. omega arith;
}

-- ---- one after the other

-- after G, up to on', comes no token that G goes on with
abbrev pub Follows : {A : Type 0} → (TokenKind → Bool) → Language A → (TokenKind → Bool) → Type 0
Follows {A = A} on G on' = (w : List TokenKind) (a : A) (rest : List TokenKind) → G w a → Free on' rest → Free on (w ++ rest)

pub both_grows : {L : Layer} {A B : Type 0} {up : ℕ → ℕ} {on : TokenKind → Bool} (first : Pack L B up up on) (H : B → Language A) (k : ℕ) (w : List TokenKind) (a : A) → Both first.lang H w a → up k ≤ k + length w
both_grows first H k w a (both {v = u} {w = v} {a = b} g h) = omega (arith, first.grows k u b g, length-append u v)

abbrev pub then : {L : Layer} {A B : Type 0} {up : ℕ → ℕ} {on on' : TokenKind → Bool} (first : Pack L B up up on) (second : B → Loose L A on') → ((b : B) → Follows on (second b).lang on') → Pack L A up up on'
then {on = on} {on' = on'} first second follow = record {
  lang = Both first.lang (λ b. (second b).lang);
  reader = λ f. seq (first.reader f) (λ b. (second b).reader f);
  keeps = λ f kf k ts lt. below_then k (first.reader f ts) (λ x. (second x.0).reader f x.1) (first.keeps f kf k ts lt) (λ x lx. (second x.0).keeps f kf k x.1 lx);
  same = λ f g kf k h ts lt.
      same_then k (first.reader f ts) (λ x. (second x.0).reader f x.1) (λ x. (second x.0).reader g x.1) (first.keeps f kf k ts lt) (λ x lx. (second x.0).same f g kf k h x.1 lx)
      ∙ ap (λ q. q >>= λ x. (second x.0).reader g x.1) (first.same f g kf k h ts lt);
  exact = λ f k good.
      seq_exact _ k first.lang (λ b. (second b).lang) on on' (first.reader f) (λ b. (second b).reader f) (first.exact f k good) (λ w b g. (second b).exact f k good) (λ w b g. first.grows k w b g)
      (λ b w a rest g free. follow b w a rest g free) (λ b. (second b).some);
  some = let o = first.some in let s = (second o.1).some in (o.0 ++ s.0, s.1, both o.2 s.2);
  grows = λ k w a g. both_grows first (λ b. (second b).lang) k w a g;
  high = first.high;
  low = first.low;
  tight = first.tight;
  near = first.near;
}

-- where any token may come after the first
abbrev pub next : {L : Layer} {A B : Type 0} {up : ℕ → ℕ} {on' : TokenKind → Bool} (first : Pack L B up up never) (second : B → Loose L A on') → Pack L A up up on'
next first second = then first second (λ b w a rest g free. free_never (w ++ rest))

-- ---- by the first token

-- none begins so; the token is taken and this pack reads on; or another pack reads from the token on
pub data Arm (L : Layer) (A : Type 0) (on : TokenKind → Bool) : Type 1 where
  Dead : Arm L A on
  Live : Loose L A on → Arm L A on
  Other : Arm L A on

module _ {L : Layer} {A : Type 0} {on : TokenKind → Bool} where
  abbrev pub arm_lang : Arm L A on → Language A
  arm_lang Dead w a = ⊥
  arm_lang (Live p) w a = p.lang w a
  arm_lang Other w a = ⊥

  abbrev pub is_other : Arm L A on → Bool
  is_other Dead = false
  is_other (Live p) = false
  is_other Other = true

  -- t is the first token, rest stands after it
  abbrev pub arm_reader : Arm L A on → Calls L → Reader A → TokenKind → List TokenKind → Read A
  arm_reader Dead f other t rest = Err (Unexpected (suc (length rest)))
  arm_reader (Live p) f other t rest = p.reader f rest
  arm_reader Other f other t rest = other (t ∷ rest)

  abbrev pub IsOther : (TokenKind → Arm L A on) → List TokenKind → Type 0
  IsOther arm [] = Unit {0}
  IsOther arm (t ∷ w) = is_other (arm t) ≡ true

  abbrev pub chosen_reader : (TokenKind → Arm L A on) → Reader A → Calls L → Reader A
  chosen_reader arm other f [] = other []
  chosen_reader arm other f (t ∷ rest) = arm_reader (arm t) f other t rest

pub data Chosen {L : Layer} {A : Type 0} {on : TokenKind → Bool} (arm : TokenKind → Arm L A on) (D : Language A) : List TokenKind → A → Type 0 where
  live : {t : TokenKind} {w : List TokenKind} {a : A} → arm_lang (arm t) w a → Chosen arm D (t ∷ w) a
  other : {w : List TokenKind} {a : A} → IsOther arm w → D w a → Chosen arm D w a

module _ {L : Layer} {A : Type 0} {on : TokenKind → Bool} (arm : TokenKind → Arm L A on) (D : Language A) (r : Reader A) (f : Calls L) where
  other_eq : (ts : List TokenKind) → IsOther arm ts → chosen_reader arm r f ts ≡ r ts
  other_eq [] o = refl
  other_eq (t ∷ rest) o = other_arm (arm t) o where
    other_arm : (x : Arm L A on) → is_other x ≡ true → arm_reader x f r t rest ≡ r (t ∷ rest)
    other_arm Dead e = absurd cc
    other_arm (Live p) e = absurd cc
    other_arm Other e = refl

  front_other : (text rest : List TokenKind) → IsOther arm (text ++ rest) → IsOther arm text
  front_other [] rest o = tt
  front_other (t ∷ text) rest o = o

  same_other : (ts more : List TokenKind) → IsOther arm ts → SameFirst ts more → IsOther arm more
  same_other [] [] o e = tt
  same_other [] (s ∷ more) o e = absurd e
  same_other (t ∷ ts) [] o e = absurd e
  same_other (t ∷ ts) (s ∷ more) o e = ap (λ u. is_other (arm u)) (sym e) ∙ o

  other_again : (ts text rest more : List TokenKind) → ts ≡ text ++ rest → IsOther arm ts → SameFirst rest more → chosen_reader arm r f (text ++ more) ≡ r (text ++ more)
  other_again ts text rest more parts o e = other_eq (text ++ more) (same_other ts (text ++ more) o (subst (λ (q : List TokenKind). SameFirst q (text ++ more)) (sym parts) (same_behind text rest more e)))

  other_opens : (before rest : List TokenKind) → Opens (Chosen arm D) [] → IsOther arm (before ++ rest) → Opens D before → Opens (Chosen arm D) before
  other_opens [] rest some o opens = some
  other_opens (t ∷ before) rest some o opens = (opens.0, opens.1, other o opens.2)

  other_explains : Opens (Chosen arm D) [] → (ts : List TokenKind) → IsOther arm ts → (ans : Read A) → Explained D r ts ans → Explained (Chosen arm D) (chosen_reader arm r f) ts ans
  other_explains some ts o (Ok x) k = record {
    text = k.text;
    parts = k.parts;
    is = other (front_other k.text x.1 (subst (IsOther arm) k.parts o)) k.is;
    again = λ more e. other_again ts k.text x.1 more k.parts o e ∙ k.again more e;
  }
  other_explains some ts o (Err (Unexpected n)) k = record {
    before = k.before;
    rest = k.rest;
    parts = k.parts;
    left = k.left;
    opens = other_opens k.before k.rest some (subst (IsOther arm) k.parts o) k.opens;
    again = λ more e. other_again ts k.before k.rest more k.parts o e ∙ k.again more e;
  }
  other_explains some ts o (Err Out) k = k

module _ {L : Layer} {A : Type 0} {up at : ℕ → ℕ} {on : TokenKind → Bool} (arm : TokenKind → Arm L A on) (d : Pack L A up at on) (stops : (a : A) (rest : List TokenKind) → d.lang [] a → Free on rest → IsOther arm rest) (some : Opens (Chosen arm d.lang) []) where
  pub arm_keeps : (f : Calls L) → Keeps L f → (k : ℕ) (t : TokenKind) (rest : List TokenKind) → suc (length rest) < up k → (x : Arm L A on) → Below k (arm_reader x f (d.reader f) t rest)
  arm_keeps f kf k t rest lt Dead = tt
  arm_keeps f kf k t rest lt (Live p) = p.keeps f kf k rest (omega (arith, d.low k))
  arm_keeps f kf k t rest lt Other = d.keeps f kf k (t ∷ rest) lt

  pub chosen_keeps : (f : Calls L) → Keeps L f → (k : ℕ) (ts : List TokenKind) → length ts < up k → Below k (chosen_reader arm (d.reader f) f ts)
  chosen_keeps f kf k [] lt = d.keeps f kf k [] lt
  chosen_keeps f kf k (t ∷ rest) lt = arm_keeps f kf k t rest lt (arm t)

  pub arm_same : (f g : Calls L) → Keeps L f → (k : ℕ) → Agree L k f g → (t : TokenKind) (rest : List TokenKind) → suc (length rest) < at k → (x : Arm L A on) → arm_reader x f (d.reader f) t rest ≡ arm_reader x g (d.reader g) t rest
  arm_same f g kf k h t rest lt Dead = refl
  arm_same f g kf k h t rest lt (Live p) = p.same f g kf k h rest (omega (arith, d.near k))
  arm_same f g kf k h t rest lt Other = d.same f g kf k h (t ∷ rest) lt

  pub chosen_same : (f g : Calls L) → Keeps L f → (k : ℕ) → Agree L k f g → (ts : List TokenKind) → length ts < at k → chosen_reader arm (d.reader f) f ts ≡ chosen_reader arm (d.reader g) g ts
  chosen_same f g kf k h [] lt = d.same f g kf k h [] lt
  chosen_same f g kf k h (t ∷ rest) lt = arm_same f g kf k h t rest lt (arm t)

  pub chosen_grows : (k : ℕ) (w : List TokenKind) (a : A) → Chosen arm d.lang w a → up k ≤ k + length w
  chosen_grows k w a (live {w = v} g) = omega (arith, d.low k)
  chosen_grows k w a (other o g) = d.grows k w a g

  module _ (f : Calls L) (k : ℕ) (good : Good L k f) where
    arm_explains : (t : TokenKind) (rest : List TokenKind) → suc (length rest) < at k → (x : Arm L A on) → arm t ≡ x → Explained (Chosen arm d.lang) (chosen_reader arm (d.reader f) f) (t ∷ rest) (arm_reader x f (d.reader f) t rest)
    arm_explains t rest lt Dead e = stuck_first (Chosen arm d.lang) (chosen_reader arm (d.reader f) f) t rest some (λ q. ap (λ y. arm_reader y f (d.reader f) t q) e)
    arm_explains t rest lt (Live p) e =
        after_first p.lang (Chosen arm d.lang) (p.reader f) (chosen_reader arm (d.reader f) f) t rest (λ w a g. live {t = t} (subst (λ y. arm_lang y w a) (sym e) g)) (λ q. ap (λ y. arm_reader y f (d.reader f) t q) e)
        (p.reader f rest) ((p.exact f k good).explains rest (omega (arith, d.near k)))
    arm_explains t rest lt Other e = other_explains arm d.lang (d.reader f) f some (t ∷ rest) (ap is_other e) (d.reader f (t ∷ rest)) ((d.exact f k good).explains (t ∷ rest) lt)

    chosen_explains : (ts : List TokenKind) → length ts < at k → Explained (Chosen arm d.lang) (chosen_reader arm (d.reader f) f) ts (chosen_reader arm (d.reader f) f ts)
    chosen_explains [] lt = other_explains arm d.lang (d.reader f) f some [] tt (d.reader f []) ((d.exact f k good).explains [] lt)
    chosen_explains (t ∷ rest) lt = arm_explains t rest lt (arm t) refl

    arm_reads : (t : TokenKind) (w : List TokenKind) (a : A) (rest : List TokenKind) → suc (length w) < at k → (x : Arm L A on) → arm_lang x w a → Free on rest → arm_reader x f (d.reader f) t (w ++ rest) ≡ Ok (a, rest)
    arm_reads t w a rest lt Dead g free = absurd g
    arm_reads t w a rest lt (Live p) g free = (p.exact f k good).reads w a rest (omega (arith, d.near k)) g free
    arm_reads t w a rest lt Other g free = absurd g

    other_on : (w : List TokenKind) (a : A) (rest : List TokenKind) → IsOther arm w → d.lang w a → Free on rest → IsOther arm (w ++ rest)
    other_on [] a rest o g free = stops a rest g free
    other_on (t ∷ w) a rest o g free = o

    chosen_reads : (w : List TokenKind) (a : A) (rest : List TokenKind) → length w < at k → Chosen arm d.lang w a → Free on rest → chosen_reader arm (d.reader f) f (w ++ rest) ≡ Ok (a, rest)
    chosen_reads w a rest lt (live {t = t} {w = v} g) free = arm_reads t v a rest lt (arm t) g free
    chosen_reads w a rest lt (other o g) free = other_eq arm d.lang (d.reader f) f (w ++ rest) (other_on w a rest o g free) ∙ (d.exact f k good).reads w a rest lt g free

    pub chosen_exact : Exact (at k) (Chosen arm d.lang) on (chosen_reader arm (d.reader f) f)
    chosen_exact = record { reads = chosen_reads; explains = chosen_explains }

abbrev pub choose : {L : Layer} {A : Type 0} {up at : ℕ → ℕ} {on : TokenKind → Bool} (arm : TokenKind → Arm L A on) (d : Pack L A up at on) → ((a : A) (rest : List TokenKind) → d.lang [] a → Free on rest → IsOther arm rest) → Opens (Chosen arm d.lang) [] → Pack L A up at on
choose arm d stops some = record {
  lang = Chosen arm d.lang;
  reader = λ f. chosen_reader arm (d.reader f) f;
  keeps = λ f kf k ts lt. chosen_keeps arm d stops some f kf k ts lt;
  same = λ f g kf k h ts lt. chosen_same arm d stops some f g kf k h ts lt;
  exact = λ f k good. chosen_exact arm d stops some f k good;
  some = some;
  grows = λ k w a g. chosen_grows arm d stops some k w a g;
  high = d.high;
  low = d.low;
  tight = d.tight;
  near = d.near;
}

-- one that always takes a token stops at none
pub strict_stops : {L : Layer} {A : Type 0} {on : TokenKind → Bool} (arm : TokenKind → Arm L A on) (d : Strict L A on) → (a : A) (rest : List TokenKind) → d.lang [] a → Free on rest → IsOther arm rest
strict_stops arm d a rest g free = absurd (omega (arith, d.grows 0 [] a g))

pub nothing_follows : {A : Type 0} (on : TokenKind → Bool) (x : A) → Follows on (Nothing x) on
nothing_follows on x w a rest nothing free = free

pub nothing_is : {A : Type 0} (x : A) (w : List TokenKind) (a : A) → Nothing x w a → (w ≡ []) × (x ≡ a)
nothing_is x w a nothing = (refl, refl)

-- ---- the same texts, with values made of theirs

abbrev pub Made : {A B : Type 0} → (B → A) → Language B → Language A
Made h G = Both G (λ b. Nothing (h b))

abbrev pub give : {L : Layer} {A B : Type 0} {up : ℕ → ℕ} {on : TokenKind → Bool} → Pack L B up up on → (B → A) → Pack L A up up on
give {on = on} p h = then p (λ b. loose (done on (h b))) (λ b. nothing_follows on (h b))

pub made_of : {A B : Type 0} (h : B → A) (G : Language B) (w : List TokenKind) (a : A) → Made h G w a → (b : B) × G w b × (h b ≡ a)
made_of h G w a (both {v = v} {w = u} {a = b} g n) = let e = nothing_is (h b) u a n in (b, subst (λ (q : List TokenKind). G q b) (sym (ap (λ (q : List TokenKind). v ++ q) e.0 ∙ append-nil v)) g, e.1)

pub made : {A B : Type 0} (h : B → A) (G : Language B) (w : List TokenKind) (b : B) → G w b → Made h G w (h b)
made h G w b g = subst (λ (q : List TokenKind). Made h G q (h b)) (append-nil w) (both g nothing)

pub made_follows : {A B : Type 0} (h : B → A) (G : Language B) (on on' : TokenKind → Bool) → Follows on G on' → Follows on (Made h G) on'
made_follows h G on on' follow w a rest g free = let q = made_of h G w a g in follow w q.0 rest q.1 free
