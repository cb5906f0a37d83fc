use Rattle.std.proofs.Common.{◌≡◌, length}
use Rattle.dbm_core.proofs.SlotLemmas.{IsDone, IsDoneIn, IsRest, IsRestIn}
use Rattle.dbm_core.proofs.kept.update_slot_kept.Given as goal

abbrev pub invariant-loop-j : goal.invariant-loop-j
invariant-loop-j g l = record {
  size : length l.entries ≡ length l.fn.entries;
  done : IsDone (λ i j x y. goal.F-post g l.value i j x y) l.slot l.i l.fn.entries l.entries;
  here : IsDoneIn (λ i j x y. goal.F-post g l.value i j x y) l.slot l.i l.j l.fn.entries l.entries;
  rest : IsRestIn l.slot l.i l.j l.fn.entries l.entries;
}

abbrev pub invariant-loop-i : goal.invariant-loop-i
invariant-loop-i g l = record {
  size : length l.entries ≡ length l.fn.entries;
  done : IsDone (λ i j x y. goal.F-post g l.value i j x y) l.slot l.i l.fn.entries l.entries;
  rest : IsRest l.slot l.i l.fn.entries l.entries;
}
