-- Chains turned round and back.
use Rattle.std.proofs.Common.{◌≡◌, ℕ, List, [], map, reverse, ap, ◌∙◌}
use Rattle.imp_slots.specs.Plain.{Routine}
use Rattle.imp_chains.specs.Chains.{chains, selected}
use Rattle.base_values.proofs.Lists.{all_back}
use Rattle.batch_sound.proofs.Chains.{every_ends}

-- the chains to a procedure that the empty string selects, with the outermost call first, are all of them
pub chains_turned : (program : List Routine) (p : ℕ) (zs : List (List ℕ)) → zs ≡ map reverse (selected program p []) → map reverse zs ≡ chains program p
chains_turned program p zs e = ap (map reverse) e ∙ all_back (selected program p []) ∙ every_ends (chains program p)
