use Rattle.std.proofs.Common.{inl}
use Rattle.dbm_close.specs.Close.{IsCloseOf}
use Rattle.dbm_close.specs.declared.closed.Closed.TheVariants.{Empty}
use Rattle.dbm_close.proofs.CloseOfLemmas.{close_of-only}
use Rattle.dbm_close.proofs.FinishLemmas.{close-from_finish}
use Rattle.dbm_close.proofs.LawLemmas.{close-kinds, close-limited, close-meaning, close-unique}
use Rattle.dbm_close.proofs.closed.close.Goals as goal

pub returns-in-Some : goal.returns-in-Some
returns-in-Some c =
    let p : IsCloseOf c.args.matrix.now c.finish.result = close-from_finish c.args.matrix.now c.in-Some.s c.finish.result (rw c.in-Some.is at c.in_ok-s.ensures.weights) c.finish.ensures.finish in
    record {
      closed = p;
      only = λ d q. close-unique c.args.matrix.now d c.finish.result q p;
      value = close_of-only c.args.matrix.now c.finish.result c.kinds-slots.ensures.matrix c.requires.diagonal p;
      meaning = close-meaning c.args.matrix.now c.finish.result p;
      same_kinds = close-kinds c.args.matrix.now c.finish.result p;
      limited = close-limited c.args.matrix.now c.finish.result p;
    }

pub returns-in-None-clause-meaning : goal.returns-in-None-clause-meaning
returns-in-None-clause-meaning c = close-meaning c.args.matrix.now Empty (inl (rw c.in-None.is at c.in_ok-s.ensures.weights))

pub returns-in-None-clause-only : goal.returns-in-None-clause-only
returns-in-None-clause-only c = λ d q. close-unique c.args.matrix.now d Empty q (inl (rw c.in-None.is at c.in_ok-s.ensures.weights))

pub returns-in-None-clause-value : goal.returns-in-None-clause-value
returns-in-None-clause-value c = close_of-only c.args.matrix.now Empty c.kinds-slots.ensures.matrix c.requires.diagonal (inl (rw c.in-None.is at c.in_ok-s.ensures.weights))
