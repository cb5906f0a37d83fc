-- The readers of items with commas between them are exact.
use Rattle.std.proofs.Common.{◌≡◌, ℕ, ◌<◌, Bool, true, false, List, [], ◌∷◌, ◌++◌, length, Ok, Err, refl, sym, ap, subst, arith}
use Rattle.std.specs.Prelude.{◌||◌}
use Rattle.imp_lex.specs.declared.token.Mark.TheVariants as m
use Rattle.imp_lex.specs.declared.token.TokenKind.{TokenKind}
use Rattle.imp_lex.specs.declared.token.TokenKind.TheVariants as k
use Rattle.imp_parse.specs.Language.{Language, Opens}
use Rattle.imp_parse.specs.Reader.{Unexpected, Read, fix}
use Rattle.imp_parse.specs.Tables.{same_mark}
use Rattle.imp_parse.specs.Lists.{Lists, begun, with_front}
use Rattle.imp_parse.specs.Commas.{is_comma, next_by, commas_step, commas_at, listed_at}
use Rattle.imp_parse.specs.declared.error.Stopped.{Stopped}
use Rattle.imp_parse.specs.Judged.{Fails}
use Rattle.imp_parse.proofs.Exact.{Reader, Free, Exact, both}
use Rattle.imp_parse.proofs.Pack.{Layer, Strict, Loose, loose, nothing, done, read, read_some, Follows, then, never, Arm, Dead, Live, Other, arm_reader, arm_lang, IsOther, live, other, choose, strict_stops, give, made_of, made}
use Rattle.imp_parse.proofs.Layers.{Turn, layer_exact, alone, no_calls, alone_exact}
use Rattle.imp_parse.proofs.Chains.{free_less}
use Rattle.imp_parse.proofs.ListLayers.{IsList, ends, more, Listing, layer, is_live, turn, goes_on, stops_by, is_done}
use Rattle.imp_parse.proofs.Singles.{mark, mark_follows, ended}
use Rattle.base_values.proofs.Cases.{or_first, or_second}

-- items, each after a comma
pub data IsCommas {X : Type 0} (G : Language X) (Many : Language (List X)) : List TokenKind → List X → Type 0 where
  no_more : IsCommas G Many [] []
  one_more : {v w : List TokenKind} {x : X} {xs : List X} → G v x → Many w xs → IsCommas G Many (k.Mark m.Comma ∷ (v ++ w)) (x ∷ xs)

-- the parenthesis alone, or an item, those after commas, and the parenthesis
pub data IsListed {X : Type 0} (G : Language X) (Many : Language (List X)) : List TokenKind → List X → Type 0 where
  none : IsListed G Many (k.Mark m.CloseParenthesis ∷ []) []
  some : {v w : List TokenKind} {x : X} {xs : List X} → G v x → Many w xs → IsListed G Many (v ++ (w ++ k.Mark m.CloseParenthesis ∷ [])) (x ∷ xs)

-- a comma and an item
pub data IsNext {X : Type 0} (G : Language X) : List TokenKind → X → Type 0 where
  next_one : {w : List TokenKind} {x : X} → G w x → IsNext G (k.Mark m.Comma ∷ w) x

-- the parenthesis is the first token
abbrev pub is_close : TokenKind → Bool
is_close (k.Mark m.CloseParenthesis) = true
is_close t = false

-- items of G, Many of them after commas, and All up to the parenthesis; an item goes on with item_on
pub record Commas {X : Type 0} (G : Language X) (Many All : Language (List X)) (item_on : TokenKind → Bool) (item : Reader X) : Type 0 where
  pub exact : (n : ℕ) → Exact n G item_on item
  pub opens : Opens G []
  pub nonempty : (w : List TokenKind) (x : X) → G w x → 0 < length w
  -- an item goes on with neither mark after it, and does not begin with the parenthesis
  pub comma_apart : item_on (k.Mark m.Comma) ≡ false
  pub close_apart : item_on (k.Mark m.CloseParenthesis) ≡ false
  pub front : (v : List TokenKind) (x : X) → G v x → (rest : List TokenKind) → begun is_close (v ++ rest) ≡ false
  pub many_to : (w : List TokenKind) (xs : List X) → IsCommas G Many w xs → Many w xs
  pub many_from : (w : List TokenKind) (xs : List X) → Many w xs → IsCommas G Many w xs
  pub all_to : (w : List TokenKind) (xs : List X) → IsListed G Many w xs → All w xs
  pub all_from : (w : List TokenKind) (xs : List X) → All w xs → IsListed G Many w xs

module _ {X : Type 0} {G : Language X} {Many All : Language (List X)} {item_on : TokenKind → Bool} {item : Reader X} (c : Commas G Many All item_on item) where
  abbrev pub many_on : TokenKind → Bool
  many_on t = is_comma t || item_on t

  abbrev pub NextIn : Unit {0} → Language (X × Unit {0})
  NextIn s w x = IsNext G w x.0

  abbrev pub ManyIn : Unit {0} → Language (List X × Unit {0})
  ManyIn s w xs = Many w xs.0

  pub list_to : (s : Unit {0}) (w : List TokenKind) (xs : List X × Unit {0}) → IsList NextIn ManyIn s w xs → ManyIn s w xs
  list_to s w xs ends = c.many_to [] [] no_more
  list_to s w xs (more {w = u} {x = x} {xs = ys} (next_one {w = v} g) h) = c.many_to (k.Mark m.Comma ∷ (v ++ u)) (x.0 ∷ ys.0) (one_more g h)

  pub list_from : (w : List TokenKind) (xs : List X) → IsCommas G Many w xs → IsList NextIn ManyIn tt w (xs, tt)
  list_from w xs no_more = ends
  list_from w xs (one_more {x = x} {xs = ys} g h) = more {x = (x, tt)} {xs = (ys, tt)} (next_one g) h

  pub many_follow : (w : List TokenKind) (xs : List X) (rest : List TokenKind) → IsCommas G Many w xs → Free many_on rest → Free item_on (w ++ rest)
  many_follow w xs rest no_more free = free_less many_on item_on (λ t h. or_second (is_comma t) (item_on t) h) rest free
  many_follow w xs rest (one_more g h) free = c.comma_apart

  abbrev pub listing : Listing X (Unit {0}) is_comma item_on many_on
  listing = record {
    Item = NextIn;
    Many = ManyIn;
    to = list_to;
    from = λ s w xs g. list_from w xs.0 (c.many_from w xs.0 g);
    follow = λ s w xs rest g free. many_follow w xs.0 rest (c.many_from w xs.0 g) free;
    stops = λ t h. or_first (is_comma t) (item_on t) h;
  }

  abbrev pub commas : Layer
  commas = layer is_comma item_on many_on listing

  abbrev pub an_item : {L : Layer} → Strict L X item_on
  an_item = read G item_on item c.exact c.opens c.nonempty

  abbrev pub next_arm : Unit {0} → TokenKind → Arm commas (X × Unit {0}) item_on
  next_arm s (k.Mark m.Comma) = Live (loose (give an_item (λ x. (x, tt))))
  next_arm s t = Dead

  pub next_to : (s : Unit {0}) (t : TokenKind) (w : List TokenKind) (x : X × Unit {0}) → arm_lang (next_arm s t) w x → NextIn s (t ∷ w) x
  next_to s (k.Mark m.Comma) w x g = let q = made_of (λ y. (y, tt)) G w x g in subst (λ y. IsNext G (k.Mark m.Comma ∷ w) y.0) q.2 (next_one q.1)
  next_to s t w x g = absurd g

  pub next_from : (s : Unit {0}) (w : List TokenKind) (x : X × Unit {0}) → NextIn s w x → (t : TokenKind) × (v : List TokenKind) × (w ≡ t ∷ v) × arm_lang (next_arm s t) v x
  next_from s w x (next_one {w = v} {x = y} g) = (k.Mark m.Comma, v, refl, made (λ z. (z, tt)) G v y g)

  pub comma_is : (s : Unit {0}) (t : TokenKind) → is_comma t ≡ is_live is_comma item_on many_on listing (next_arm s t)
  comma_is s (k.Mark m.Comma) = refl
  comma_is s t = refl

  pub next_is : (f : Lists X (Unit {0})) (s : Unit {0}) (t : TokenKind) (rest : List TokenKind) → next_by item f s (t ∷ rest) ≡ arm_reader (next_arm s t) f (λ ts. Err (Unexpected (length ts))) t rest
  unfolding same_mark
  next_is f s (k.Mark m.Comma) rest = refl
  next_is f s t rest = refl

  pub commas_turn : (s : Unit {0}) → Turn commas (commas_step item) s
  unfolding commas_step
  commas_turn s = turn is_comma item_on many_on listing next_arm next_to next_from comma_is (next_by item) next_is s

  pub commas_exact : (n : ℕ) → Exact n (ManyIn tt) many_on (commas_at item)
  commas_exact n = layer_exact commas (commas_step item) commas_turn n tt

  -- a loop that reads them
  pub commas_go_on : (s : Unit {0}) (front : List X) (ts : List TokenKind) (x : (X × Unit {0}) × List TokenKind) (total : Read (List X × Unit {0})) → begun is_comma ts ≡ true → next_by item (fix (commas_step item)) s ts ≡ Ok x
      → with_front front (fix (commas_step item) s ts) ≡ total → with_front (front ++ x.0.0 ∷ []) (fix (commas_step item) x.0.1 x.1) ≡ total
  unfolding commas_step
  commas_go_on = goes_on is_comma item_on many_on listing next_arm next_to next_from comma_is (next_by item) next_is

  pub commas_stop : (s : Unit {0}) (front : List X) (ts : List TokenKind) (e : Stopped) (total : Read (List X × Unit {0})) → begun is_comma ts ≡ true → Fails e (next_by item (fix (commas_step item)) s ts)
      → with_front front (fix (commas_step item) s ts) ≡ total → Fails e total
  unfolding commas_step
  commas_stop = stops_by is_comma item_on many_on listing next_arm next_to next_from comma_is (next_by item) next_is

  pub commas_done : (s : Unit {0}) (front : List X) (ts : List TokenKind) (total : Read (List X × Unit {0})) → begun is_comma ts ≡ false → with_front front (fix (commas_step item) s ts) ≡ total → total ≡ Ok ((front, s), ts)
  unfolding commas_step
  commas_done = is_done is_comma item_on many_on listing next_arm next_to next_from comma_is (next_by item) next_is

  -- ---- up to the parenthesis

  abbrev pub some_commas : {L : Layer} → Loose L (List X × Unit {0}) many_on
  some_commas = read_some (ManyIn tt) many_on (commas_at item) commas_exact ([], ([], tt), c.many_to [] [] no_more)

  -- one more before
  abbrev pub behind : X → List X × Unit {0} → List X × Unit {0}
  behind x xs = (x ∷ xs.0, xs.1)

  abbrev pub rest_pack : X → Loose alone (List X) never
  rest_pack x = then (give some_commas (behind x)) (λ xs. ended m.CloseParenthesis xs.0) (λ xs. mark_follows m.CloseParenthesis _ many_on never c.close_apart)

  rest_in : (x : X) (w : List TokenKind) (xs : List X) → (rest_pack x).lang w xs → (v : List TokenKind) × (ys : List X) × (w ≡ v ++ k.Mark m.CloseParenthesis ∷ []) × (x ∷ ys ≡ xs) × Many v ys
  rest_in x w xs (both {v = v} g (both mark nothing)) = let q = made_of (behind x) (ManyIn tt) v _ g in (v, q.0.0, refl, ap (λ y. y.0) q.2, q.1)

  rest_free : (v rest : List TokenKind) (ys : List X) → IsCommas G Many v ys → Free item_on ((v ++ k.Mark m.CloseParenthesis ∷ []) ++ rest)
  rest_free v rest ys no_more = c.close_apart
  rest_free v rest ys (one_more g h) = c.comma_apart

  pub rest_follows : (x : X) → Follows item_on (rest_pack x).lang never
  rest_follows x w xs rest g free = let q = rest_in x w xs g in subst (λ (u : List TokenKind). Free item_on (u ++ rest)) (sym q.2) (rest_free q.0 rest q.1 (c.many_from q.0 q.1 q.4))

  abbrev pub some_pack : Strict alone (List X) never
  some_pack = then an_item rest_pack rest_follows

  abbrev pub listed_arm : TokenKind → Arm alone (List X) never
  listed_arm (k.Mark m.CloseParenthesis) = Live (loose (done never []))
  listed_arm t = Other

  abbrev pub listed_pack : Strict alone (List X) never
  listed_pack = choose listed_arm some_pack (strict_stops listed_arm some_pack) (k.Mark m.CloseParenthesis ∷ [], [], live {t = k.Mark m.CloseParenthesis} nothing)

  listed_to : (w : List TokenKind) (xs : List X) → listed_pack.lang w xs → All w xs
  listed_to w xs (live {t = k.Mark m.CloseParenthesis} nothing) = c.all_to (k.Mark m.CloseParenthesis ∷ []) [] none
  listed_to w xs (live {t = t} g) = absurd g
  listed_to w xs (other o (both {v = v} {w = u} {a = x} g h)) =
      let q = rest_in x u xs h in
      let whole : List TokenKind = v ++ (q.0 ++ k.Mark m.CloseParenthesis ∷ []) in
      subst (λ (r : List TokenKind). All (v ++ r) xs) (sym q.2) (subst (All whole) q.3 (c.all_to whole (x ∷ q.1) (some g q.4)))

  listed_other : (ts : List TokenKind) → begun is_close ts ≡ false → IsOther listed_arm ts
  listed_other [] e = tt
  listed_other (k.Mark m.CloseParenthesis ∷ rest) e = absurd cc
  listed_other (t ∷ rest) e = refl

  of_listed : (w : List TokenKind) (xs : List X) → IsListed G Many w xs → listed_pack.lang w xs
  of_listed w xs none = live {t = k.Mark m.CloseParenthesis} nothing
  of_listed w xs (some {v = v} {w = u} {x = x} {xs = ys} g h) =
      let close : List TokenKind = k.Mark m.CloseParenthesis ∷ [] in
      other (listed_other (v ++ (u ++ close)) (c.front v x g (u ++ close))) (both {a = x} g (both {a = (x ∷ ys, tt)} (made (behind x) (ManyIn tt) u (ys, tt) h) (both mark nothing)))

  listed_is : (ts : List TokenKind) → listed_at item ts ≡ listed_pack.reader no_calls ts
  listed_is [] = refl
  listed_is (k.Mark m.CloseParenthesis ∷ rest) = refl
  listed_is (t ∷ rest) = refl

  pub listed_exact : (n : ℕ) → Exact n All never (listed_at item)
  listed_exact n = alone_exact listed_pack All (listed_at item) listed_to (λ w xs g. of_listed w xs (c.all_from w xs g)) listed_is n

  pub listed_some : (w : List TokenKind) (xs : List X) → All w xs → 0 < length w
  listed_some w xs g = let p = listed_pack in omega (arith, p.grows 0 w xs (of_listed w xs (c.all_from w xs g)))

  abbrev pub listed : {L : Layer} → Strict L (List X) never
  listed = read All never (listed_at item) listed_exact (k.Mark m.CloseParenthesis ∷ [], [], c.all_to (k.Mark m.CloseParenthesis ∷ []) [] none) listed_some
