use Rattle.std.proofs.Common.{◌≡◌, take, reverse, Some}
use Rattle.imp_slots.specs.Fits.{IsChecked}
use Rattle.imp_flow.specs.Reached.{way_along}
use Rattle.imp_flow.proofs.ways.enter_chain.Given as goal

-- the procedure that is reached by the calls so far
abbrev pub invariant-loop-site : goal.invariant-loop-site
invariant-loop-site l = record {
  along : way_along l.flow (reverse (take l.site-index l.chain)) ≡ Some l.now;
  checked : IsChecked l.flow.program;
}
