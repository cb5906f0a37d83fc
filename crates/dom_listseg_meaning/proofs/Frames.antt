-- The last of the frames, in lists that have main's first.
use Rattle.std.proofs.Common.{◌≡◌, ℕ, ◌-◌, List, [], ◌∷◌, ◌++◌, map, length, set, Option, None, refl, sym, ◌∙◌, ap, arith}
use Rattle.std.specs.Prelude.{slice_index_or}
use Rattle.std.specs.List.{remove}
use Rattle.std.proofs.lemmas.List.{length_push, length-set, length-map}
use Rattle.shape_steps.specs.Steps.{set_last, last_of, slot_of}
use Rattle.shape_steps.proofs.Placed.{map-remove}

set_last-behind : {X : Type 0} (f : List X) (frames : List (List X)) (last : List X) (slot : ℕ) (x : X)
    → set_last (frames ++ last ∷ []) slot x ≡ frames ++ set last slot x ∷ [] → set_last (f ∷ frames ++ last ∷ []) slot x ≡ f ∷ frames ++ set last slot x ∷ []
set_last-behind f [] last slot x e = refl
set_last-behind f (g ∷ gs) last slot x e = ap (λ v. f ∷ v) e

pub set_last-push : {X : Type 0} (frames : List (List X)) (last : List X) (slot : ℕ) (x : X) → set_last (frames ++ last ∷ []) slot x ≡ frames ++ set last slot x ∷ []
set_last-push [] last slot x = refl
set_last-push (f ∷ frames) last slot x = set_last-behind f frames last slot x (set_last-push frames last slot x)

last-behind : {X : Type 0} (f : List X) (frames : List (List X)) (last : List X) → last_of (frames ++ last ∷ []) ≡ last → last_of (f ∷ frames ++ last ∷ []) ≡ last
last-behind f [] last e = refl
last-behind f (g ∷ gs) last e = e

pub last_of-push : {X : Type 0} (frames : List (List X)) (last : List X) → last_of (frames ++ last ∷ []) ≡ last
last_of-push [] last = refl
last_of-push (f ∷ frames) last = last-behind f frames last (last_of-push frames last)

pub slot_of-push : (frames : List (List (Option ℕ))) (last : List (Option ℕ)) (q : ℕ) → slot_of (frames ++ last ∷ []) q ≡ slice_index_or last q None
slot_of-push frames last q = ap (λ f. slice_index_or f q None) (last_of-push frames last)

remove-count : {X : Type 0} (xs : List X) (x : X) → remove (xs ++ x ∷ []) (length xs) ≡ xs
remove-count [] x = refl
remove-count (y ∷ ys) x = ap (λ v. y ∷ v) (remove-count ys x)

pub remove-push : {X : Type 0} (xs : List X) (x : X) → remove (xs ++ x ∷ []) (length (xs ++ x ∷ []) - 1) ≡ xs
remove-push xs x = let e : length (xs ++ x ∷ []) - 1 ≡ length xs = (let l = length_push xs x in omega arith) in ap (remove (xs ++ x ∷ [])) e ∙ remove-count xs x

-- how many slots the frames have
pub set_last-counts : {X : Type 0} (frames : List (List X)) (slot : ℕ) (x : X) → map length (set_last frames slot x) ≡ map length frames
set_last-counts [] slot x = refl
set_last-counts (f ∷ []) slot x = ap (λ n. n ∷ []) (length-set f slot x)
set_last-counts (f ∷ g ∷ gs) slot x = ap (λ v. length f ∷ v) (set_last-counts (g ∷ gs) slot x)

pub push-counts : {X : Type 0} (frames : List (List X)) (last : List X) → map length (frames ++ last ∷ []) ≡ map length frames ++ length last ∷ []
push-counts [] last = refl
push-counts (f ∷ frames) last = ap (λ v. length f ∷ v) (push-counts frames last)

pub pop-counts : {X : Type 0} (frames : List (List X)) (cs : List ℕ) (c : ℕ) → map length frames ≡ cs ++ c ∷ [] → map length (remove frames (length frames - 1)) ≡ cs
pop-counts frames cs c e =
    let n : length frames ≡ length (cs ++ c ∷ []) = sym (length-map frames length) ∙ ap length e in
    map-remove length frames (length frames - 1) ∙ ap (λ v. remove v (length frames - 1)) e ∙ ap (λ k. remove (cs ++ c ∷ []) (k - 1)) n ∙ remove-push cs c

last-length : {X : Type 0} (frames : List (List X)) (cs : List ℕ) (c : ℕ) → map length frames ≡ cs ++ c ∷ [] → length (last_of frames) ≡ c
last-length [] [] c e = cc
last-length [] (d ∷ ds) c e = cc
last-length (f ∷ []) [] c e = head e
  where
    head : {m n : ℕ} → ◌≡◌ {A = List ℕ} (m ∷ []) (n ∷ []) → m ≡ n
    head e = cc
last-length (f ∷ []) (d ∷ []) c e = cc
last-length (f ∷ []) (d ∷ k ∷ ks) c e = cc
last-length (f ∷ g ∷ gs) [] c e = cc
last-length (f ∷ g ∷ gs) (d ∷ ds) c e = last-length (g ∷ gs) ds c (tail e)
  where
    tail : {m n : ℕ} {xs ys : List ℕ} → ◌≡◌ {A = List ℕ} (m ∷ xs) (n ∷ ys) → xs ≡ ys
    tail e = cc

pub last-counts : {X : Type 0} (frames : List (List X)) (cs : List ℕ) (c : ℕ) → map length frames ≡ cs ++ c ∷ [] → map length (last_of frames ∷ []) ≡ c ∷ []
last-counts frames cs c e = ap (λ n. n ∷ []) (last-length frames cs c e)
