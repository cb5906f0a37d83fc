-- A layer of lists, whose items are told by their first token.
use Rattle.std.proofs.Common.{◌≡◌, Bool, true, false, cond, List, [], ◌∷◌, ◌++◌, length, Ok, Err, refl, sym, ap, ◌∙◌, subst, append_assoc}
use Rattle.std.proofs.lemmas.List.{append-nil}
use Rattle.imp_lex.specs.declared.token.TokenKind.{TokenKind}
use Rattle.imp_parse.specs.Language.{Language}
use Rattle.imp_parse.specs.Reader.{Stop, Unexpected, Read, ◌>>=◌, Steps, fix}
use Rattle.imp_parse.specs.Lists.{Lists, begun, more_by, list_step, with_front}
use Rattle.imp_parse.specs.declared.error.Stopped.{Stopped}
use Rattle.imp_parse.specs.declared.error.Stopped.TheVariants as stopped
use Rattle.imp_parse.specs.Judged.{Fails}
use Rattle.imp_parse.proofs.Exact.{Free, both}
use Rattle.imp_parse.proofs.Pack.{Layer, strictly, loosely, Pack, Loose, loose, Nothing, nothing, done, nothing_follows, nothing_is, call, Follows, then, Arm, Dead, Live, Other, is_other, arm_reader, arm_lang, IsOther, live, other, choose}
use Rattle.imp_parse.proofs.Layers.{Turn, layer_eq}

-- lists of items, each with the state before and after it
pub data IsList {X S : Type 0} (Item : S → Language (X × S)) (Many : S → Language (List X × S)) (s : S) : List TokenKind → List X × S → Type 0 where
  ends : IsList Item Many s [] ([], s)
  more : {v w : List TokenKind} {x : X × S} {xs : List X × S} → Item s v x → Many x.1 w xs → IsList Item Many s (v ++ w) (x.0 ∷ xs.0, xs.1)

pub record Listing (X S : Type 0) (begins item_on many_on : TokenKind → Bool) : Type 1 where
  pub Item : S → Language (X × S)
  pub Many : S → Language (List X × S)
  pub to : (s : S) (w : List TokenKind) (xs : List X × S) → IsList Item Many s w xs → Many s w xs
  pub from : (s : S) (w : List TokenKind) (xs : List X × S) → Many s w xs → IsList Item Many s w xs
  -- after an item and the list after it comes nothing that the item goes on with
  pub follow : (s : S) → Follows item_on (Many s) many_on
  pub stops : (t : TokenKind) → many_on t ≡ false → begins t ≡ false

module _ {X S : Type 0} (begins item_on many_on : TokenKind → Bool) (c : Listing X S begins item_on many_on) where
  abbrev pub layer : Layer
  layer = record { Call = S; Value = List X × S; lang = c.Many; on = λ s. many_on; some = λ s. ([], ([], s), c.to s [] ([], s) ends) }

  abbrev pub rest_pack : X × S → Loose layer (List X × S) many_on
  rest_pack x = then (call {L = layer} x.1) (λ xs. loose (done many_on (x.0 ∷ xs.0, xs.1))) (λ xs. nothing_follows many_on (x.0 ∷ xs.0, xs.1))

  rest_in : (x : X × S) (u : List TokenKind) (xs : List X × S) → (rest_pack x).lang u xs → (ys : List X × S) × c.Many x.1 u ys × ((x.0 ∷ ys.0, ys.1) ≡ xs)
  rest_in x u xs (both {v = v} {w = w} {a = ys} h g) = let e = nothing_is (x.0 ∷ ys.0, ys.1) w xs g in (ys, subst (λ (q : List TokenKind). c.Many x.1 q ys) (sym (ap (λ (q : List TokenKind). v ++ q) e.0 ∙ append-nil v)) h, e.1)

  pub rest_follows : (x : X × S) → Follows item_on (rest_pack x).lang many_on
  rest_follows x w a rest g free = let r = rest_in x w a g in c.follow x.1 w r.0 rest r.1 free

  abbrev pub list_arm : Arm layer (X × S) item_on → Arm layer (List X × S) many_on
  list_arm Dead = Other
  list_arm (Live p) = Live (then p rest_pack rest_follows)
  list_arm Other = Other

  abbrev pub is_live : Arm layer (X × S) item_on → Bool
  is_live Dead = false
  is_live (Live p) = true
  is_live Other = false

  -- how an item reads on after each first token
  module _ (arm : S → TokenKind → Arm layer (X × S) item_on)
      (item_to : (s : S) (t : TokenKind) (w : List TokenKind) (x : X × S) → arm_lang (arm s t) w x → c.Item s (t ∷ w) x)
      (item_from : (s : S) (w : List TokenKind) (x : X × S) → c.Item s w x → (t : TokenKind) × (v : List TokenKind) × (w ≡ t ∷ v) × arm_lang (arm s t) v x)
      (begins_is : (s : S) (t : TokenKind) → begins t ≡ is_live (arm s t)) where
    other_of : (a : Arm layer (X × S) item_on) → is_live a ≡ false → is_other (list_arm a) ≡ true
    other_of Dead e = refl
    other_of (Live p) e = absurd cc
    other_of Other e = refl

    pub list_stops : (s : S) (a : List X × S) (rest : List TokenKind) → Nothing {A = List X × S} ([], s) [] a → Free many_on rest → IsOther (λ t. list_arm (arm s t)) rest
    list_stops s a [] g free = tt
    list_stops s a (t ∷ rest) g free = other_of (arm s t) (sym (begins_is s t) ∙ c.stops t free)

    abbrev pub list_pack : S → Pack layer (List X × S) loosely strictly many_on
    list_pack s = choose (λ t. list_arm (arm s t)) (done many_on ([], s)) (list_stops s) ([], ([], s), other tt nothing)

    list_in : (s : S) (t : TokenKind) (w : List TokenKind) (xs : List X × S) (a : Arm layer (X × S) item_on) → ((v : List TokenKind) (x : X × S) → arm_lang a v x → c.Item s (t ∷ v) x) → arm_lang (list_arm a) w xs → c.Many s (t ∷ w) xs
    list_in s t w xs Dead to g = absurd g
    list_in s t w xs (Live p) to (both {v = v} {w = u} {a = x} g h) =
        let r = rest_in x u xs h in
        subst (c.Many s (t ∷ (v ++ u))) r.2 (c.to s (t ∷ (v ++ u)) (x.0 ∷ r.0.0, r.0.1) (more {v = t ∷ v} {x = x} {xs = r.0} (to v x g) r.1))
    list_in s t w xs Other to g = absurd g

    list_to : (s : S) (w : List TokenKind) (xs : List X × S) → (list_pack s).lang w xs → c.Many s w xs
    list_to s w xs (live {t = t} {w = v} g) = list_in s t v xs (arm s t) (item_to s t) g
    list_to s w xs (other o g) = let e = nothing_is ([], s) w xs g in subst (λ (q : List TokenKind). c.Many s q xs) (sym e.0) (subst (c.Many s []) e.1 (c.to s [] ([], s) ends))

    list_out : (v w : List TokenKind) (x : X × S) (xs : List X × S) (a : Arm layer (X × S) item_on) → arm_lang a v x → c.Many x.1 w xs → arm_lang (list_arm a) (v ++ w) (x.0 ∷ xs.0, xs.1)
    list_out v w x xs Dead g h = absurd g
    list_out v w x xs (Live p) g h = both {a = x} g (subst (λ (q : List TokenKind). (rest_pack x).lang q (x.0 ∷ xs.0, xs.1)) (append-nil w) (both {a = xs} h nothing))
    list_out v w x xs Other g h = absurd g

    from_list : (s : S) (w : List TokenKind) (xs : List X × S) → IsList c.Item c.Many s w xs → (list_pack s).lang w xs
    from_list s w xs ends = other tt nothing
    from_list s w xs (more {v = v} {w = u} {x = x} {xs = ys} g h) =
        let f = item_from s v x g in
        subst (λ (q : List TokenKind). (list_pack s).lang (q ++ u) (x.0 ∷ ys.0, ys.1)) (sym f.2) (live {t = f.0} (list_out f.1 u x ys (arm s f.0) f.3 h))

    module _ (item : Lists X S → S → List TokenKind → Read (X × S)) (item_is : (f : Lists X S) (s : S) (t : TokenKind) (rest : List TokenKind) → item f s (t ∷ rest) ≡ arm_reader (arm s t) f (λ ts. Err (Unexpected (length ts))) t rest) where
      abbrev pub step : Steps S (List X × S)
      step = list_step begins item

      step_at : (f : Lists X S) (s : S) (t : TokenKind) (rest : List TokenKind) (a : Arm layer (X × S) item_on) (b : Bool) → b ≡ is_live a → (r : Read (X × S)) → r ≡ arm_reader a f (λ ts. Err (Unexpected (length ts))) t rest
          → cond b (r >>= λ x. f x.0.1 x.1 >>= λ ys. Ok ((x.0.0 ∷ ys.0.0, ys.0.1), ys.1)) (Ok (([], s), t ∷ rest)) ≡ arm_reader (list_arm a) f (λ ts. Ok (([], s), ts)) t rest
      step_at f s t rest Dead b e r is = ap (λ q. cond q (r >>= λ x. f x.0.1 x.1 >>= λ ys. Ok ((x.0.0 ∷ ys.0.0, ys.0.1), ys.1)) (Ok (([], s), t ∷ rest))) e
      step_at f s t rest (Live p) b e r is =
          ap (λ q. cond q (r >>= λ x. f x.0.1 x.1 >>= λ ys. Ok ((x.0.0 ∷ ys.0.0, ys.0.1), ys.1)) (Ok (([], s), t ∷ rest))) e ∙ ap (λ q. q >>= λ x. f x.0.1 x.1 >>= λ ys. Ok ((x.0.0 ∷ ys.0.0, ys.0.1), ys.1)) is
      step_at f s t rest Other b e r is = ap (λ q. cond q (r >>= λ x. f x.0.1 x.1 >>= λ ys. Ok ((x.0.0 ∷ ys.0.0, ys.0.1), ys.1)) (Ok (([], s), t ∷ rest))) e

      step_is : (s : S) (f : Lists X S) (ts : List TokenKind) → step f s ts ≡ (list_pack s).reader f ts
      step_is s f [] = refl
      step_is s f (t ∷ rest) = step_at f s t rest (arm s t) (begins t) (begins_is s t) (item f s (t ∷ rest)) (item_is f s t rest)

      pub turn : (s : S) → Turn layer step s
      turn s = record { up = loosely; pack = list_pack s; is = step_is s; to = list_to s; from = λ w xs g. from_list s w xs (c.from s w xs g) }

      -- ---- a loop that reads the list

      pub list_begun : (s : S) (ts : List TokenKind) → begun begins ts ≡ true → fix step s ts ≡ more_by item (fix step) s ts
      list_begun s [] e = absurd cc
      list_begun s (t ∷ rest) e = layer_eq layer step turn s (t ∷ rest) ∙ ap (λ b. cond b (more_by item (fix step) s (t ∷ rest)) (Ok (([], s), t ∷ rest))) e

      pub list_ended : (s : S) (ts : List TokenKind) → begun begins ts ≡ false → fix step s ts ≡ Ok (([], s), ts)
      list_ended s [] e = layer_eq layer step turn s []
      list_ended s (t ∷ rest) e = layer_eq layer step turn s (t ∷ rest) ∙ ap (λ b. cond b (more_by item (fix step) s (t ∷ rest)) (Ok (([], s), t ∷ rest))) e

      regroup : (front : List X) (a : X) (r : Read (List X × S)) → with_front front (r >>= λ x. Ok ((a ∷ x.0.0, x.0.1), x.1)) ≡ with_front (front ++ a ∷ []) r
      regroup front a (Ok x) = ap (λ ys. Ok ((ys, x.0.1), x.1)) (sym (append_assoc front (a ∷ []) x.0.0))
      regroup front a (Err e) = refl

      pub goes_on : (s : S) (front : List X) (ts : List TokenKind) (x : (X × S) × List TokenKind) (total : Read (List X × S)) → begun begins ts ≡ true → item (fix step) s ts ≡ Ok x → with_front front (fix step s ts) ≡ total → with_front (front ++ x.0.0 ∷ []) (fix step x.0.1 x.1) ≡ total
      goes_on s front ts x total e is so_far =
          sym (regroup front x.0.0 (fix step x.0.1 x.1)) ∙ ap (λ r. with_front front (r >>= λ y. fix step y.0.1 y.1 >>= λ ys. Ok ((y.0.0 ∷ ys.0.0, ys.0.1), ys.1))) (sym is) ∙ ap (with_front front) (sym (list_begun s ts e)) ∙ so_far

      pub stops_at : (s : S) (front : List X) (ts : List TokenKind) (e : Stop) (total : Read (List X × S)) → begun begins ts ≡ true → item (fix step) s ts ≡ Err e → with_front front (fix step s ts) ≡ total → total ≡ Err e
      stops_at s front ts e total b is so_far = sym so_far ∙ ap (with_front front) (list_begun s ts b) ∙ ap (λ r. with_front front (r >>= λ y. fix step y.0.1 y.1 >>= λ ys. Ok ((y.0.0 ∷ ys.0.0, ys.0.1), ys.1))) is

      pub is_done : (s : S) (front : List X) (ts : List TokenKind) (total : Read (List X × S)) → begun begins ts ≡ false → with_front front (fix step s ts) ≡ total → total ≡ Ok ((front, s), ts)
      is_done s front ts total b so_far = sym so_far ∙ ap (with_front front) (list_ended s ts b) ∙ ap (λ ys. Ok ((ys, s), ts)) (append-nil front)

      -- the same of a function's error
      pub stops_by : (s : S) (front : List X) (ts : List TokenKind) (e : Stopped) (total : Read (List X × S)) → begun begins ts ≡ true → Fails e (item (fix step) s ts) → with_front front (fix step s ts) ≡ total → Fails e total
      stops_by s front ts stopped.Memory total b is so_far = tt
      stops_by s front ts (stopped.Unexpected left) total b is so_far = stops_at s front ts (Unexpected left) total b is so_far
