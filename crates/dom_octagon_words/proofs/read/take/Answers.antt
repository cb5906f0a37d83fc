use Rattle.std.specs.Option.{option_map}
use Rattle.dom_octagon_words.proofs.Limits.{kept_limited}
use Rattle.dom_octagon_words.proofs.read.take.Goals as goal

pub returns-clause-limited : goal.returns-clause-limited
returns-clause-limited c = kept_limited c.kept_of.result (option_map (λ k. k.now) c.args.kinds) c.deref.result.now c.requires.few c.kept_of.ensures.exact
