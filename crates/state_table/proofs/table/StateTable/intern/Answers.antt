use Rattle.std.proofs.Common.{◌≡◌, Some, length, sym, subst, ◌∙◌, ap, arith}
use Rattle.std.specs.List.{position_or_len}
use Rattle.state_table.specs.Numbers.{IsNumberOf, KeepsNumbers, Adds, with_state}
use Rattle.indexmap.proofs.SetLemmas.{keys_insert_entry}
use Rattle.state_table.specs.Marks.{states_in}
use Rattle.state_table.proofs.AddLemmas.{with_state-adds, with_state-length, with_state-number}
use Rattle.state_table.proofs.NumberLemmas.{distinct-once, with_state-keeps}
use Rattle.state_table.proofs.table.StateTable.intern.Goals as goal

pub returns-in_err-number-clause-once : goal.returns-in_err-number-clause-once
returns-in_err-number-clause-once g c = distinct-once g.T.PartialEq.eq g.met.T.Eq.laws _ c.insert_full.ensures.unique

pub returns-clause-once : goal.returns-clause-once
returns-clause-once g c = distinct-once g.T.PartialEq.eq g.met.T.Eq.laws _ c.insert_full.ensures.unique

-- the states with the one that is added
states-are : (g : _) (c : goal.After-len-count g) → states_in c.insert_full.new.self.entries ≡ with_state g.T.PartialEq.eq c.args.self.now c.args.state
states-are g c =
    ap states_in c.in_ok-number.ensures.entries ∙ keys_insert_entry g.T.PartialEq.eq c.self.inside.states.entries c.args.state 0
    ∙ ap (λ v. with_state g.T.PartialEq.eq v c.args.state) c.self.view_is

pub returns-clause-table : goal.returns-clause-table
returns-clause-table g c = states-are g c

pub returns-clause-kept : goal.returns-clause-kept
returns-clause-kept g c = subst (λ v. KeepsNumbers c.args.self.now v) (sym (states-are g c)) (with_state-keeps g.T.PartialEq.eq c.args.self.now c.args.state)

-- its number
number-is : (g : _) (c : goal.After-len-count g) → c.in_ok-number.number ≡ position_or_len (g.T.PartialEq.eq c.args.state) c.args.self.now
number-is g c = c.in_ok-number.ensures.index ∙ ap (λ v. position_or_len (g.T.PartialEq.eq c.args.state) v) c.self.view_is

pub returns-clause-adds : goal.returns-clause-adds
returns-clause-adds g c tells =
    subst (λ v. Adds c.args.self.now v c.args.state c.in_ok-number.number) (sym (states-are g c))
    (subst (λ n. Adds c.args.self.now (with_state g.T.PartialEq.eq c.args.self.now c.args.state) c.args.state n) (sym (number-is g c))
    (with_state-adds g.T.PartialEq.eq g.met.T.Eq.laws tells c.args.self.now c.args.state))

numbered : (g : _) (c : goal.After-len-count g) → IsNumberOf g.T.PartialEq.eq (states_in c.insert_full.new.self.entries) c.args.state c.in_ok-number.number
numbered g c =
    let eq = g.T.PartialEq.eq in
    subst (λ v. IsNumberOf eq v c.args.state c.in_ok-number.number) (sym (states-are g c))
    (subst (λ n. IsNumberOf eq (with_state eq c.args.self.now c.args.state) c.args.state n) (sym (number-is g c))
    (with_state-number eq g.met.T.Eq.laws c.args.self.now c.args.state))

pub returns-clause-equal : goal.returns-clause-equal
returns-clause-equal g c = numbered g c

pub returns-clause-same : goal.returns-clause-same
returns-clause-same g c tells = let h = numbered g c in h.1 ∙ ap Some (sym (tells c.args.state h.0 h.2))

pub returns-clause-few : goal.returns-clause-few
returns-clause-few g c = let h = with_state-length g.T.PartialEq.eq c.args.self.now c.args.state in let e = ap length (states-are g c) in omega (arith, h, e)
