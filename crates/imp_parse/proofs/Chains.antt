-- A layer of chains of two ranks, over units.
use Rattle.std.proofs.Common.{◌≡◌, Bool, true, false, List, [], ◌∷◌, ◌++◌, Option, Some, None, Ok, refl, sym, ap, ◌∙◌, subst}
use Rattle.std.specs.Prelude.{is_some, ◌||◌}
use Rattle.imp_lex.specs.declared.token.TokenKind.{TokenKind}
use Rattle.imp_parse.specs.Language.{Language, Opens}
use Rattle.imp_parse.specs.Reader.{◌>>=◌, Steps, fix}
use Rattle.imp_parse.specs.Reading.{Part, Whole, Inner, High, Low, Parts, tail_by, chain_by, part_by, chain_step}
use Rattle.imp_parse.proofs.Exact.{Reader, Free, Both, both}
use Rattle.imp_parse.proofs.Pack.{Layer, strictly, loosely, Pack, Strict, loose, Nothing, nothing, done, call, Follows, then, Arm, Live, Other, is_other, arm_reader, arm_lang, IsOther, live, other, choose}
use Rattle.imp_parse.proofs.Layers.{Turn, layer_eq}
use std.Path.{fun_ext}
use Rattle.base_values.proofs.Cases.{or_second}

-- after what spells a: no more, or an operator, one more part, and the rest
pub data Tail {A Op : Type 0} (ops : TokenKind → Option Op) (made : Op → A → A → A) (G : Language A) (Rest : A → Language A) (a : A) : List TokenKind → A → Type 0 where
  ends : Tail ops made G Rest a [] a
  more : {op : Op} {t : TokenKind} {v w : List TokenKind} {b e : A} → ops t ≡ Some op → G v b → Rest (made op a b) w e → Tail ops made G Rest a (t ∷ (v ++ w)) e

-- the languages of a layer of chains
pub record Chains (A Op : Type 0) (high low : TokenKind → Option Op) (made_high made_low : Op → A → A → A) (unit_on : TokenKind → Bool) : Type 1 where
  pub Whole : Language A
  pub Part : Language A
  pub Unit_ : Language A
  pub High : A → Language A
  pub Low : A → Language A
  pub whole_to : (w : List TokenKind) (a : A) → Both Part Low w a → Whole w a
  pub whole_from : (w : List TokenKind) (a : A) → Whole w a → Both Part Low w a
  pub part_to : (w : List TokenKind) (a : A) → Both Unit_ High w a → Part w a
  pub part_from : (w : List TokenKind) (a : A) → Part w a → Both Unit_ High w a
  pub high_to : (a : A) (w : List TokenKind) (e : A) → Tail high made_high Unit_ High a w e → High a w e
  pub high_from : (a : A) (w : List TokenKind) (e : A) → High a w e → Tail high made_high Unit_ High a w e
  pub low_to : (a : A) (w : List TokenKind) (e : A) → Tail low made_low Part Low a w e → Low a w e
  pub low_from : (a : A) (w : List TokenKind) (e : A) → Low a w e → Tail low made_low Part Low a w e
  pub unit_some : Opens Unit_ []
  pub high_apart : (t : TokenKind) (op : Op) → high t ≡ Some op → unit_on t ≡ false
  pub low_apart : (t : TokenKind) (op : Op) → low t ≡ Some op → (is_some (high t) || unit_on t) ≡ false

-- ---- tests for the tokens that go on

abbrev pub high_on : {A Op : Type 0} {high low : TokenKind → Option Op} {made_high made_low : Op → A → A → A} {unit_on : TokenKind → Bool} → Chains A Op high low made_high made_low unit_on → TokenKind → Bool
high_on {high = high} {unit_on = unit_on} c t = is_some (high t) || unit_on t

abbrev pub low_on : {A Op : Type 0} {high low : TokenKind → Option Op} {made_high made_low : Op → A → A → A} {unit_on : TokenKind → Bool} → Chains A Op high low made_high made_low unit_on → TokenKind → Bool
low_on {low = low} c t = is_some (low t) || high_on c t

pub free_less : (on on' : TokenKind → Bool) → ((t : TokenKind) → on t ≡ false → on' t ≡ false) → (rest : List TokenKind) → Free on rest → Free on' rest
free_less on on' le [] free = tt
free_less on on' le (t ∷ rest) free = le t free

-- after a tail, up to its end, comes nothing that a part goes on with
tail_follows : {A Op : Type 0} (ops : TokenKind → Option Op) (made : Op → A → A → A) (G : Language A) (Rest : A → Language A) (a : A) (on on' : TokenKind → Bool) → ((t : TokenKind) (op : Op) → ops t ≡ Some op → on t ≡ false) → ((t : TokenKind) → on' t ≡ false → on t ≡ false)
    → (w : List TokenKind) (e : A) (rest : List TokenKind) → Tail ops made G Rest a w e → Free on' rest → Free on (w ++ rest)
tail_follows ops made G Rest a on on' apart le w e rest ends free = free_less on' on le rest free
tail_follows ops made G Rest a on on' apart le w e rest (more {op = op} {t = t} is g h) free = apart t op is

module _ {A Op : Type 0} (high low : TokenKind → Option Op) (made_high made_low : Op → A → A → A) (unit_on : TokenKind → Bool) (c : Chains A Op high low made_high made_low unit_on) where
  abbrev pub lang_of : Part A → Language A
  lang_of Whole = c.Whole
  lang_of Inner = c.Unit_
  lang_of (High a) = c.High a
  lang_of (Low a) = c.Low a

  abbrev pub on_of : Part A → TokenKind → Bool
  on_of Whole = low_on c
  on_of Inner = unit_on
  on_of (High a) = high_on c
  on_of (Low a) = low_on c

  pub part_some : Opens c.Part []
  part_some = let u = c.unit_some in (u.0 ++ [], u.1, c.part_to (u.0 ++ []) u.1 (both u.2 (c.high_to u.1 [] u.1 ends)))

  pub whole_some : Opens c.Whole []
  whole_some = let u = part_some in (u.0 ++ [], u.1, c.whole_to (u.0 ++ []) u.1 (both u.2 (c.low_to u.1 [] u.1 ends)))

  abbrev pub some_of : (i : Part A) → Opens (lang_of i) []
  some_of Whole = whole_some
  some_of Inner = c.unit_some
  some_of (High a) = ([], a, c.high_to a [] a ends)
  some_of (Low a) = ([], a, c.low_to a [] a ends)

  abbrev pub layer : Layer
  layer = record { Call = Part A; Value = A; lang = lang_of; on = on_of; some = some_of }

  pub high_follows : (a : A) → Follows unit_on (c.High a) (high_on c)
  high_follows a w e rest g free = tail_follows high made_high c.Unit_ c.High a unit_on (high_on c) c.high_apart (λ t h. or_second (is_some (high t)) (unit_on t) h) w e rest (c.high_from a w e g) free

  pub low_follows : (a : A) → Follows (high_on c) (c.Low a) (low_on c)
  low_follows a w e rest g free = tail_follows low made_low c.Part c.Low a (high_on c) (low_on c) c.low_apart (λ t h. or_second (is_some (low t)) (high_on c t) h) w e rest (c.low_from a w e g) free

  module _ (unit : Strict layer A unit_on) (unit_to : (w : List TokenKind) (a : A) → unit.lang w a → c.Unit_ w a) (unit_from : (w : List TokenKind) (a : A) → c.Unit_ w a → unit.lang w a) where
    abbrev pub part_pack : Strict layer A (high_on c)
    part_pack = then unit (λ a. call (High a)) high_follows

    abbrev pub whole_pack : Strict layer A (low_on c)
    whole_pack = then part_pack (λ a. call (Low a)) low_follows

    abbrev pub high_arm : A → Option Op → Arm layer A (high_on c)
    high_arm a None = Other
    high_arm a (Some op) = Live (loose (then unit (λ b. call (High (made_high op a b))) (λ b. high_follows (made_high op a b))))

    abbrev pub low_arm : A → Option Op → Arm layer A (low_on c)
    low_arm a None = Other
    low_arm a (Some op) = Live (loose (then part_pack (λ b. call (Low (made_low op a b))) (λ b. low_follows (made_low op a b))))

    pub high_other : (a : A) (x : Option Op) (b : Bool) → (is_some x || b) ≡ false → is_other (high_arm a x) ≡ true
    high_other a None b e = refl
    high_other a (Some op) b e = absurd cc

    pub low_other : (a : A) (x : Option Op) (b : Bool) → (is_some x || b) ≡ false → is_other (low_arm a x) ≡ true
    low_other a None b e = refl
    low_other a (Some op) b e = absurd cc

    pub high_stops : (a e : A) (rest : List TokenKind) → Nothing a [] e → Free (high_on c) rest → IsOther (λ t. high_arm a (high t)) rest
    high_stops a e [] g free = tt
    high_stops a e (t ∷ rest) g free = high_other a (high t) (unit_on t) free

    pub low_stops : (a e : A) (rest : List TokenKind) → Nothing a [] e → Free (low_on c) rest → IsOther (λ t. low_arm a (low t)) rest
    low_stops a e [] g free = tt
    low_stops a e (t ∷ rest) g free = low_other a (low t) (high_on c t) free

    abbrev pub high_pack : A → Pack layer A loosely strictly (high_on c)
    high_pack a = choose (λ t. high_arm a (high t)) (done (high_on c) a) (high_stops a) ([], a, other tt nothing)

    abbrev pub low_pack : A → Pack layer A loosely strictly (low_on c)
    low_pack a = choose (λ t. low_arm a (low t)) (done (low_on c) a) (low_stops a) ([], a, other tt nothing)

    -- ---- the languages of the packs

    part_in : (w : List TokenKind) (a : A) → Both unit.lang c.High w a → c.Part w a
    part_in w a (both {v = u} {w = v} {a = b} g h) = c.part_to (u ++ v) a (both (unit_to u b g) h)

    part_out : (w : List TokenKind) (a : A) → Both c.Unit_ c.High w a → Both unit.lang c.High w a
    part_out w a (both {v = u} {w = v} {a = b} g h) = both (unit_from u b g) h

    whole_in : (w : List TokenKind) (a : A) → Both (Both unit.lang c.High) c.Low w a → c.Whole w a
    whole_in w a (both {v = u} {w = v} {a = b} g h) = c.whole_to (u ++ v) a (both (part_in u b g) h)

    whole_out : (w : List TokenKind) (a : A) → Both c.Part c.Low w a → Both (Both unit.lang c.High) c.Low w a
    whole_out w a (both {v = u} {w = v} {a = b} g h) = both (part_out u b (c.part_from u b g)) h

    high_in : (a : A) (t : TokenKind) (w : List TokenKind) (e : A) (x : Option Op) → high t ≡ x → arm_lang (high_arm a x) w e → c.High a (t ∷ w) e
    high_in a t w e None is g = absurd g
    high_in a t w e (Some op) is (both {v = u} {w = v} {a = b} g h) = c.high_to a (t ∷ (u ++ v)) e (more is (unit_to u b g) h)

    high_all : (a : A) (w : List TokenKind) (e : A) → (high_pack a).lang w e → c.High a w e
    high_all a w e (live {t = t} {w = v} g) = high_in a t v e (high t) refl g
    high_all a w e (other o nothing) = c.high_to a [] a ends

    high_out : (a : A) (w : List TokenKind) (e : A) → Tail high made_high c.Unit_ c.High a w e → (high_pack a).lang w e
    high_out a w e ends = other tt nothing
    high_out a w e (more {op = op} {t = t} {v = u} {w = v} {b = b} is g h) = live {t = t} (subst (λ x. arm_lang (high_arm a x) (u ++ v) e) (sym is) (both (unit_from u b g) h))

    low_in : (a : A) (t : TokenKind) (w : List TokenKind) (e : A) (x : Option Op) → low t ≡ x → arm_lang (low_arm a x) w e → c.Low a (t ∷ w) e
    low_in a t w e None is g = absurd g
    low_in a t w e (Some op) is (both {v = u} {w = v} {a = b} g h) = c.low_to a (t ∷ (u ++ v)) e (more is (part_in u b g) h)

    low_all : (a : A) (w : List TokenKind) (e : A) → (low_pack a).lang w e → c.Low a w e
    low_all a w e (live {t = t} {w = v} g) = low_in a t v e (low t) refl g
    low_all a w e (other o nothing) = c.low_to a [] a ends

    low_out : (a : A) (w : List TokenKind) (e : A) → Tail low made_low c.Part c.Low a w e → (low_pack a).lang w e
    low_out a w e ends = other tt nothing
    low_out a w e (more {op = op} {t = t} {v = u} {w = v} {b = b} is g h) = live {t = t} (subst (λ x. arm_lang (low_arm a x) (u ++ v) e) (sym is) (both (part_out u b (c.part_from u b g)) h))

    -- ---- the step of the layer

    module _ (unit_reader : Parts A → Reader A) (unit_is : (f : Parts A) (ts : List TokenKind) → unit_reader f ts ≡ unit.reader f ts) where
      abbrev pub step : Steps (Part A) A
      step = chain_step high low made_high made_low unit_reader

      part_same : (f : Parts A) (ts : List TokenKind) → part_by unit_reader f ts ≡ part_pack.reader f ts
      part_same f ts = ap (λ r. r >>= λ x. f (High x.0) x.1) (unit_is f ts)

      whole_is : (f : Parts A) (ts : List TokenKind) → step f Whole ts ≡ whole_pack.reader f ts
      whole_is f ts = ap (λ r. r >>= λ x. f (Low x.0) x.1) (part_same f ts)

      high_at : (f : Parts A) (a : A) (t : TokenKind) (rest : List TokenKind) (x : Option Op)
          → tail_by x (λ op. unit_reader f rest >>= λ y. f (High (made_high op a y.0)) y.1) a (t ∷ rest) ≡ arm_reader (high_arm a x) f (λ ts. Ok (a, ts)) t rest
      high_at f a t rest None = refl
      high_at f a t rest (Some op) = ap (λ r. r >>= λ y. f (High (made_high op a y.0)) y.1) (unit_is f rest)

      high_is : (a : A) (f : Parts A) (ts : List TokenKind) → step f (High a) ts ≡ (high_pack a).reader f ts
      high_is a f [] = refl
      high_is a f (t ∷ rest) = high_at f a t rest (high t)

      low_at : (f : Parts A) (a : A) (t : TokenKind) (rest : List TokenKind) (x : Option Op)
          → tail_by x (λ op. part_by unit_reader f rest >>= λ y. f (Low (made_low op a y.0)) y.1) a (t ∷ rest) ≡ arm_reader (low_arm a x) f (λ ts. Ok (a, ts)) t rest
      low_at f a t rest None = refl
      low_at f a t rest (Some op) = ap (λ r. r >>= λ y. f (Low (made_low op a y.0)) y.1) (part_same f rest)

      low_is : (a : A) (f : Parts A) (ts : List TokenKind) → step f (Low a) ts ≡ (low_pack a).reader f ts
      low_is a f [] = refl
      low_is a f (t ∷ rest) = low_at f a t rest (low t)

      pub turn : (i : Part A) → Turn layer step i
      turn Whole = record { up = strictly; pack = whole_pack; is = whole_is; to = whole_in; from = λ w a g. whole_out w a (c.whole_from w a g) }
      turn Inner = record { up = strictly; pack = unit; is = unit_is; to = unit_to; from = unit_from }
      turn (High a) = record { up = loosely; pack = high_pack a; is = high_is a; to = high_all a; from = λ w e g. high_out a w e (c.high_from a w e g) }
      turn (Low a) = record { up = loosely; pack = low_pack a; is = low_is a; to = low_all a; from = λ w e g. low_out a w e (c.low_from a w e g) }

      -- ---- what each part reads, said of the others

      inner_eq : (ts : List TokenKind) → fix step Inner ts ≡ unit_reader (fix step) ts
      inner_eq ts = layer_eq layer step turn Inner ts

      inners : unit_reader (fix step) ≡ fix step Inner
      inners = fun_ext (λ ts. sym (inner_eq ts))

      pub whole_eq : (ts : List TokenKind) → fix step Whole ts ≡ (fix step Inner ts >>= λ x. fix step (High x.0) x.1) >>= λ x. fix step (Low x.0) x.1
      whole_eq ts = layer_eq layer step turn Whole ts ∙ ap (λ r. (r ts >>= λ x. fix step (High x.0) x.1) >>= λ x. fix step (Low x.0) x.1) inners

      pub high_eq : (a : A) (ts : List TokenKind) → fix step (High a) ts ≡ chain_by high (λ op rest. fix step Inner rest >>= λ x. fix step (High (made_high op a x.0)) x.1) a ts
      high_eq a ts = layer_eq layer step turn (High a) ts ∙ ap (λ r. chain_by high (λ op rest. r rest >>= λ x. fix step (High (made_high op a x.0)) x.1) a ts) inners

      pub low_eq : (a : A) (ts : List TokenKind) → fix step (Low a) ts ≡ chain_by low (λ op rest. (fix step Inner rest >>= λ x. fix step (High x.0) x.1) >>= λ x. fix step (Low (made_low op a x.0)) x.1) a ts
      low_eq a ts = layer_eq layer step turn (Low a) ts ∙ ap (λ r. chain_by low (λ op rest. (r rest >>= λ x. fix step (High x.0) x.1) >>= λ x. fix step (Low (made_low op a x.0)) x.1) a ts) inners
