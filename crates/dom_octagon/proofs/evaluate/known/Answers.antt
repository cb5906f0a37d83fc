use Rattle.std.proofs.Common.{subst, sym}
use Rattle.dom_octagon_meaning.specs.Claims.{IsSmallForm}
use Rattle.dom_octagon_meaning.proofs.Small.{forms-are_small}
use Rattle.dom_octagon.proofs.Words.{ranges-are}
use Rattle.dom_octagon.proofs.evaluate.known.Goals as goal

pub returns-clause-good : goal.returns-clause-good
returns-clause-good c = record {
  small = subst IsSmallForm (sym c.requires.form) (forms-are_small c.args.m.now c.args.e.now c.args.range (ranges-are c.args.m.now c.kinds-slots.ensures.matrix c.requires.tight) c.requires.range c.lo-low.ensures.range);
  short = c.requires.short;
}
