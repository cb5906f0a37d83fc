-- What a block or a procedure of the product gives is the pair of what the parts give.
use Rattle.std.specs.Prelude.{◌≡◌, ℕ, ◌==◌, ℤ, List, [], ◌∷◌, length, Bool, true, false}
use Rattle.imp_slots.specs.Plain.{Guard, DoBreak, Does, Code, Stop, Simple, If, While, Call, Break, Routine}
use Rattle.imp_chains.specs.Thresholds.{thresholds}
use Rattle.domain_laws.specs.Operations.{Operations}
use Rattle.dom_product_meaning.specs.Product.{product}
use Rattle.batch_meaning.specs.Values.{Value, lift, lift2}
use Rattle.batch_meaning.specs.Batch.{LoopOptions, Passed, head_of, behind, batch, procedure, calls_of}
use Rattle.batch_product.proofs.Lists.{turn_both, chosen}
use Rattle.batch_product.proofs.Values.{IsPair, ArePairs, pair_lift, pair_lift2, pair_joined}
use Rattle.batch_product.proofs.Rounds.{Decides, pair_fix}

pub record PairPassed {S T : Type 0} (x : Passed S) (y : Passed T) (p : Passed (S × T)) : Type 0 where
  pub value : IsPair x.value y.value p.value
  pub leaving : ArePairs x.leaving y.leaving p.leaving

module _ {S T : Type 0} (a : Operations S) (b : Operations T) (da : Decides a) (db : Decides b) (engine : LoopOptions) (at_once : engine.widening.delay ≡ 0) where
  abbrev pub P : Operations (S × T)
  P = product a b

  abbrev pub CallsPair : (ca : (n q : ℕ) → Value S → Value S) (cb : (n q : ℕ) → Value T → Value T) (cp : (n q : ℕ) → Value (S × T) → Value (S × T)) → Type 0
  CallsPair ca cb cp = (n q : ℕ) (v : Value S) (w : Value T) (u : Value (S × T)) → IsPair v w u → IsPair (ca n q v) (cb n q w) (cp n q u)

  pub pair_assume : (g : Guard) (t : Bool) (v : Value S) (w : Value T) (u : Value (S × T)) → IsPair v w u → IsPair (lift (a.assume g t) v) (lift (b.assume g t) w) (lift (P.assume g t) u)
  pair_assume g t = pair_lift (a.assume g t) (b.assume g t)

  pub pair_join : (v : Value S) (w : Value T) (u : Value (S × T)) (x : Value S) (y : Value T) (p : Value (S × T)) → IsPair v w u → IsPair x y p → IsPair (lift2 a.join v x) (lift2 b.join w y) (lift2 P.join u p)
  pair_join = pair_lift2 a.join b.join

  module _ (ms : List ℤ) (z : List ℕ) (ca : (n q : ℕ) → Value S → Value S) (cb : (n q : ℕ) → Value T → Value T) (cp : (n q : ℕ) → Value (S × T) → Value (S × T)) (calls : CallsPair ca cb cp) where
    abbrev pub in_first : Code → Value S → Passed S
    in_first = batch a engine ms z ca

    abbrev pub in_second : Code → Value T → Passed T
    in_second = batch b engine ms z cb

    abbrev pub in_both : Code → Value (S × T) → Passed (S × T)
    in_both = batch P engine ms z cp

    abbrev pub BlockPairs : Code → Type 0
    BlockPairs c = (v : Value S) (w : Value T) (u : Value (S × T)) → IsPair v w u → PairPassed (in_first c v) (in_second c w) (in_both c u)

    pub pair_head : (n : ℕ) (g : Guard) (c : Code) → BlockPairs c → (v : Value S) (w : Value T) (u : Value (S × T)) → IsPair v w u →
        IsPair (head_of a engine ms z n g (in_first c) v).value (head_of b engine ms z n g (in_second c) w).value (head_of P engine ms z n g (in_both c) u).value
    pair_head n g c body v w u k =
        pair_fix engine at_once ms n z a b da db _ _ _ (λ x y p j. (body _ _ _ (pair_assume g true x y p j)).value) v w u k

    pub pair_behind : (g : Guard) (c : Code) → BlockPairs c → (v : Value S) (w : Value T) (u : Value (S × T)) → IsPair v w u → IsPair (behind a engine g (in_first c) v) (behind b engine g (in_second c) w) (behind P engine g (in_both c) u)
    pair_behind g c body v w u k =
        pair_joined a b engine _ _ _ _ _ _ (pair_assume g false v w u k) (body _ _ _ (pair_assume g true v w u k)).leaving

    pub pair_block : (c : Code) → BlockPairs c
    pair_block Stop v w u k = record { value = k; leaving = tt }
    pair_block (Simple n e r) v w u k = pair_block r _ _ _ (pair_lift (a.post (Does e)) (b.post (Does e)) v w u k)
    pair_block (If n g t e r) v w u k =
        let x = pair_block t _ _ _ (pair_assume g true v w u k) in
        let y = pair_block e _ _ _ (pair_assume g false v w u k) in
        let rest = pair_block r _ _ _ (pair_join _ _ _ _ _ _ x.value y.value) in
        record { value = rest.value; leaving = turn_both IsPair _ _ _ _ _ _ (turn_both IsPair _ _ _ _ _ _ x.leaving y.leaving) rest.leaving }
    pair_block (While n g c r) v w u k =
        let head = pair_head n g c (pair_block c) v w u k in
        pair_block r _ _ _ (pair_behind g c (pair_block c) _ _ _ head)
    pair_block (Call n i q r) v w u k =
        let done = calls n q _ _ _ (pair_lift (a.enter i.entering) (b.enter i.entering) v w u k) in
        pair_block r _ _ _ (pair_lift2 (a.leave i.returning) (b.leave i.returning) v w u _ _ _ k done)
    pair_block (Break n r) v w u k =
        let rest = pair_block r _ _ _ (pair_lift (a.post DoBreak) (b.post DoBreak) v w u k) in
        record { value = rest.value; leaving = (k, rest.leaving) }

  pub pair_procedure : (rs : List Routine) (z : List ℕ) (q : ℕ) (v : Value S) (w : Value T) (u : Value (S × T)) → IsPair v w u → IsPair (procedure a engine rs z q v) (procedure b engine rs z q w) (procedure P engine rs z q u)
  pair_procedure [] z q v w u k = k
  pair_procedure (r ∷ earlier) z q v w u k =
      chosen IsPair (q == length earlier) _ _ _ _ _ _
      (pair_block (thresholds engine.widening r) z _ _ _ (λ n q v w u k. pair_procedure earlier (n ∷ z) q v w u k) r.code v w u k).value
      (pair_procedure earlier z q v w u k)

  pub pair_calls : (earlier : List Routine) (z : List ℕ) → CallsPair (calls_of a engine earlier z) (calls_of b engine earlier z) (calls_of P engine earlier z)
  pair_calls earlier z n q v w u k = pair_procedure earlier (n ∷ z) q v w u k
