use Rattle.std.specs.Hash.{fed_along}
use Rattle.imp_slots.specs.CallViews.{argument_of}
use Rattle.imp_slots.specs.Hashes.{argument_fed, slice-map}
use Rattle.imp_slots.proofs.hashes.hash_arguments.Goals as goal

pub returns : goal.returns
returns g c = record { fed = fed_along g.H.Hasher.write c.args.state.now c.hash.new.state (slice-map argument_fed argument_of c.args.arguments.now) c.hash.ensures }
