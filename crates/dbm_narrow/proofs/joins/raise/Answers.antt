use Rattle.std.specs.Prelude.{◌*◌, ◌≡◌, ◌<◌, ◌≤◌, ℤ, List, ℕ}
use Rattle.std.specs.Int.{int_max}
use Rattle.std.proofs.Common.{arith, sym, ◌∙◌, ap, subst, inl, inr, length}
use Rattle.std.proofs.lemmas.Bool.{cases_lt}
use Rattle.std.proofs.lemmas.List.{get_or_past}
use Rattle.dbm_narrow.proofs.EntryLemmas.{max-entry, max-none}
use Rattle.dbm_narrow.proofs.RowLemmas.{done-set, rest-set}
use Rattle.dbm_narrow.specs.Entries.{IsEntry, at, none}
use Rattle.dbm_narrow.proofs.joins.raise.Goals as goal

pub loop-k-preserved : goal.loop-k-preserved
loop-k-preserved gen c =
    let rx : c.read-own.result ≡ at gen.W.Width.unit c.args.entries.now c.loop-k.k = c.read-own.ensures.value ∙ c.loop-k.invariant.rest c.loop-k.k (omega arith) in
    let ro : c.read-other.result ≡ at gen.W.Width.unit c.args.others.now c.loop-k.k = c.read-other.ensures.value in
    let e : c.greater.result ≡ int_max (at gen.W.Width.unit c.args.entries.now c.loop-k.k) (at gen.W.Width.unit c.args.others.now c.loop-k.k) =
    c.greater.ensures.value ∙ ap (λ x. int_max x c.read-other.result) rx ∙ ap (int_max (at gen.W.Width.unit c.args.entries.now c.loop-k.k)) ro in
    record {
      done = done-set gen.W.Width.unit gen.W.Width.positive (λ p x. x ≡ int_max (at gen.W.Width.unit c.args.entries.now p) (at gen.W.Width.unit c.args.others.now p)) c.loop-k.entries c.loop-k.k _ (omega arith) c.loop-k.invariant.done e;
      rest = rest-set gen.W.Width.unit gen.W.Width.positive (λ p x. x ≡ at gen.W.Width.unit c.args.entries.now p) c.loop-k.entries c.loop-k.k _ c.loop-k.invariant.rest;
    }

beyond : (unit : ℕ) → 0 < unit → (xs os bs : List ℤ) (p : ℕ) → length os ≤ p → length bs ≡ length os → at unit xs p ≡ at unit os p → at unit xs p ≡ int_max (at unit os p) (at unit bs p)
beyond unit room xs os bs p l e h =
    let a : at unit os p ≡ none unit = get_or_past os p (none unit) l in
    let b : at unit bs p ≡ none unit = get_or_past bs p (none unit) (omega arith) in
    h ∙ a ∙ sym (ap (λ x. int_max x (at unit bs p)) a ∙ ap (int_max (none unit)) b ∙ max-none unit room)

greater_all : (unit : ℕ) → 0 < unit → (xs os bs : List ℤ) (n : ℕ) → length os ≤ n → length bs ≡ length os → ((p : ℕ) → p < n → at unit xs p ≡ int_max (at unit os p) (at unit bs p)) → ((p : ℕ) → n ≤ p → at unit xs p ≡ at unit os p) →
    (p : ℕ) → at unit xs p ≡ int_max (at unit os p) (at unit bs p)
greater_all unit room xs os bs n l e done rest p = elim (cases_lt p n) [ inl m ↦ done p m | inr m ↦ beyond unit room xs os bs p (omega arith) e (rest p m) ]

pub returns-clause-greater : goal.returns-clause-greater
returns-clause-greater gen c = greater_all gen.W.Width.unit gen.W.Width.positive c.loop-k.entries c.args.entries.now c.args.others.now c.loop-k.k (omega arith) c.requires.size c.loop-k.invariant.done c.loop-k.invariant.rest

pub returns-clause-entries : goal.returns-clause-entries
returns-clause-entries gen c = λ p. subst (IsEntry gen.W.Width.unit (2 * gen.W.Width.unit)) (sym (greater_all gen.W.Width.unit gen.W.Width.positive c.loop-k.entries c.args.entries.now c.args.others.now c.loop-k.k (omega arith) c.requires.size c.loop-k.invariant.done c.loop-k.invariant.rest p))
    (max-entry gen.W.Width.unit gen.W.Width.positive (2 * gen.W.Width.unit) (at gen.W.Width.unit c.args.entries.now p) (at gen.W.Width.unit c.args.others.now p) (c.requires.entries p) (c.requires.others p))
