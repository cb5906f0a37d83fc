use Rattle.std.proofs.Common.{◌≤ℤ◌, subst}
use Rattle.num_bounds.specs.Bounds.{Bounds}
use Rattle.num_bounds.proofs.Lattice.{lattice}
use Rattle.num_bounds.proofs.range.Range.lattice_laws.Goals as goal

pub returns : goal.returns
returns c = record { lattice = lattice c.args.a c.args.b c.args.c (subst (λ (b : Bounds). b.lo ≤ℤ b.hi) c.a.view_is c.a.invariant) }
