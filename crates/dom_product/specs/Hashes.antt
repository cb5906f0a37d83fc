-- The hash that stands beside a part, and what states of a product feed.
use Rattle.std.specs.Prelude.{ℕ, Bool, ◌&&◌, ◌++◌}
use Rattle.std.specs.List.{fold}
use Rattle.std.specs.Hash.{HashWrites, u64, Alike, on_Alike, and-Alike}
use Rattle.base_hash.specs.Mixed.{initial, write}

-- the hash of a value that feeds this
unfoldable pub hash_of : HashWrites → ℕ
hash_of fed = (fold write initial fed).state

-- a pair feeds the hashes of its parts
abbrev pub pair_fed : {S T : Type 0} → (S → HashWrites) → (T → HashWrites) → S × T → HashWrites
pair_fed F G p = u64 (hash_of (F p.0)) ++ u64 (hash_of (G p.1))

module _ {K : Type 0} {E : K → K → Bool} {F : K → HashWrites} where
  hash_Alike : Alike E F → Alike E (λ x. u64 (hash_of (F x)))
  hash_Alike a = record { fed = λ x y h i. u64 (hash_of (a.fed x y h i)) }

-- where equal parts feed alike, so do equal pairs
pub pair_Alike : {S T : Type 0} {D : S → S → Bool} {E : T → T → Bool} {F : S → HashWrites} {G : T → HashWrites} → Alike D F → Alike E G →
    Alike (λ (x y : S × T). D x.0 y.0 && E x.1 y.1) (pair_fed F G)
pair_Alike a b = and-Alike (on_Alike (λ x. x.0) (hash_Alike a)) (on_Alike (λ x. x.1) (hash_Alike b))
