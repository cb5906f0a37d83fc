use Rattle.std.proofs.Common.{◌≡◌, ◌+◌, length, drop, refl, sym, ap, subst, ◌∙◌, arith, length-drop}
use Rattle.std.specs.Prelude.{Ok, Err}
use Rattle.imp_lex.specs.declared.front.Front.TheVariants as p
use Rattle.imp_lex.specs.Front.{front_of, IsBounded}
use Rattle.imp_lex.proofs.Answered.{HasFound, skips, takes, refuses, all_found}
use Rattle.imp_lex.proofs.Fronts.{front_bounded}
use Rattle.imp_lex.proofs.Laws.{answered, answered_fault, answered_only}
use Rattle.imp_lex.proofs.Spelled.{lexed_in_order, lexed_spelled}
use Rattle.imp_lex.proofs.lexer.tokens.Goals as goal
use Rattle.base_values.proofs.Lists.{rest_whole}

pub each-preserved-in-Skip : goal.each-preserved-in-Skip
each-preserved-in-Skip c =
    let text = c.args.text.now in
    let is : front_of (drop c.each.at text) ≡ p.Skip c.in-Skip.n = ap front_of (sym (rest_whole text c.each.at)) ∙ sym c.in_ok-front_at.ensures.is ∙ c.in-Skip.is in
    let bounded = subst (IsBounded (length (drop c.each.at text))) is (front_bounded (drop c.each.at text)) in
    record {
      within = omega (arith, bounded.1, c.each.invariant.within, length-drop c.each.at text);
      so_far = skips text c.each.found c.each.at c.in-Skip.n is c.each.invariant.so_far;
    }

pub each-preserved : goal.each-preserved
each-preserved c =
    let text = c.args.text.now in
    let is : front_of (drop c.each.at text) ≡ p.Takes c.in-Takes.n c.in-Takes.kind = ap front_of (sym (rest_whole text c.each.at)) ∙ sym c.in_ok-front_at.ensures.is ∙ c.in-Takes.is in
    let bounded = subst (IsBounded (length (drop c.each.at text))) is (front_bounded (drop c.each.at text)) in
    record {
      within = omega (arith, bounded.1, c.each.invariant.within, length-drop c.each.at text);
      so_far = subst (λ found. HasFound text found (c.each.at + c.in-Takes.n)) (sym c.in_ok-push-in-Takes.ensures.added) (takes text c.each.found c.each.at c.in-Takes.n c.in-Takes.kind is c.each.invariant.so_far);
    }

pub returns-in-End-clause-lexed : goal.returns-in-End-clause-lexed
returns-in-End-clause-lexed c =
    let text = c.args.text.now in
    let is : front_of (drop c.each.at text) ≡ p.End = ap front_of (sym (rest_whole text c.each.at)) ∙ sym c.in_ok-front_at.ensures.is ∙ c.in-End.is in
    answered text (Ok c.each.found) (all_found text c.each.found c.each.at is c.each.invariant.so_far)

pub returns-in-End-clause-only : goal.returns-in-End-clause-only
returns-in-End-clause-only c =
    let text = c.args.text.now in
    let is : front_of (drop c.each.at text) ≡ p.End = ap front_of (sym (rest_whole text c.each.at)) ∙ sym c.in_ok-front_at.ensures.is ∙ c.in-End.is in
    answered_only text (Ok c.each.found) (all_found text c.each.found c.each.at is c.each.invariant.so_far)

pub returns-in-End-clause-in_order : goal.returns-in-End-clause-in_order
returns-in-End-clause-in_order c = lexed_in_order 0 (length c.args.text.now) c.args.text.now c.each.found (omega arith) (returns-in-End-clause-lexed c)

pub returns-in-End-clause-spelled : goal.returns-in-End-clause-spelled
returns-in-End-clause-spelled c = lexed_spelled c.args.text.now 0 c.args.text.now c.each.found refl (returns-in-End-clause-lexed c)

pub returns-in-Bad-clause-faulty : goal.returns-in-Bad-clause-faulty
returns-in-Bad-clause-faulty c =
    let text = c.args.text.now in
    let is : front_of (drop c.each.at text) ≡ p.Bad c.in-Bad.fault = ap front_of (sym (rest_whole text c.each.at)) ∙ sym c.in_ok-front_at.ensures.is ∙ c.in-Bad.is in
    answered_fault text c.at.result (refuses text c.each.found c.each.at c.in-Bad.fault is c.each.invariant.so_far ∙ ap (λ error. Err error) (sym c.at.ensures.is))

pub returns-in-Bad-clause-only : goal.returns-in-Bad-clause-only
returns-in-Bad-clause-only c =
    let text = c.args.text.now in
    let is : front_of (drop c.each.at text) ≡ p.Bad c.in-Bad.fault = ap front_of (sym (rest_whole text c.each.at)) ∙ sym c.in_ok-front_at.ensures.is ∙ c.in-Bad.is in
    answered_only text (Err c.at.result) (refuses text c.each.found c.each.at c.in-Bad.fault is c.each.invariant.so_far ∙ ap (λ error. Err error) (sym c.at.ensures.is))
