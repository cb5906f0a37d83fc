-- What a walk gathers, one statement at a time.
use Rattle.std.proofs.Common.{ℕ, ◌≡◌, ◌+◌, ◌<◌, ◌≤◌, true, List, [], ◌++◌, length, drop, get_or, false, refl, sym, ap, ◌∙◌}
use Rattle.std.proofs.lemmas.List.{drop_all}
use Rattle.imp_slots.specs.Plain.{Guard, Code, Stop}
use Rattle.imp_slots.specs.BlockViews.{before_code, code_of}
use Rattle.imp_slots.specs.declared.blocks.SlotNode.{SlotNode}
use Rattle.imp_slots.specs.declared.blocks.SlotNode.TheVariants as node
use Rattle.domain_laws.specs.Operations.{Operations}
use Rattle.batch_meaning.specs.Values.{Value, lift}
use Rattle.batch_interp.specs.Frames.{Plan, value_after, value_at_head}
use Rattle.batch_interp.specs.Gathered.{Gathering, gathered, gathered_in}
use Rattle.base_values.proofs.Lists.{drop_item}

module _ {S B : Type 0} (of : Gathering S B) (dom : Operations S) (plan : Plan) (place : ℕ) (z : List ℕ) where
  abbrev F : Code → Value S → List B
  F = gathered of dom plan place z

  abbrev I : SlotNode → Value S → List B
  I = gathered_in of dom plan place z

  node_gathered : (s : SlotNode) (r : Code) (v : Value S) → F (before_code s r) v ≡ I s v ++ F r (value_after dom plan place z (before_code s Stop) v)
  node_gathered (node.Simple n a) r v = refl
  node_gathered (node.If n c t e) r v = refl
  node_gathered (node.While n c b) r v = refl
  node_gathered (node.Call n i q) r v = refl
  node_gathered (node.Break n) r v = refl

  pub gathered_step : (ss : List SlotNode) (i : ℕ) (s : SlotNode) (v w : Value S) → i < length ss → s ≡ get_or ss i s → w ≡ value_after dom plan place z (before_code s Stop) v → gathered of dom plan place z (code_of (drop i ss)) v ≡ gathered_in of dom plan place z s v ++ gathered of dom plan place z (code_of (drop (i + 1) ss)) w
  gathered_step ss i s v w h e k =
      ap (λ xs. F (code_of xs) v) (drop_item ss i s h e) ∙ node_gathered s (code_of (drop (i + 1) ss)) v
      ∙ ap (λ x. I s v ++ F (code_of (drop (i + 1) ss)) x) (sym k)

  pub if_gathered : (n : ℕ) (c : Guard) (t e : Code) (s : SlotNode) (v a b : Value S) → s ≡ node.If n c t e → a ≡ lift (dom.assume c true) v → b ≡ lift (dom.assume c false) v → gathered of dom plan place z t a ++ gathered of dom plan place z e b ≡ gathered_in of dom plan place z s v
  if_gathered n c t e s v a b h j k = (λ i. F t (j i) ++ F e (k i)) ∙ ap (λ x. I x v) (sym h)

  pub gathered_end : (ss : List SlotNode) (i : ℕ) (v : Value S) → length ss ≤ i → gathered of dom plan place z (code_of (drop i ss)) v ≡ []
  gathered_end ss i v h = ap (λ xs. F (code_of xs) v) (drop_all i ss h)

  pub loop_gathered : (n : ℕ) (c : Guard) (b : Code) (v h w : Value S) → h ≡ value_at_head dom plan place z n c b v → w ≡ lift (dom.assume c true) h → of.head n h ++ gathered of dom plan place z b w ≡ gathered_in of dom plan place z (node.While n c b) v
  loop_gathered n c b v h w j k = λ i. of.head n (j i) ++ F b ((k ∙ ap (lift (dom.assume c true)) j) i)
