-- What is few in a program without faults.
use Rattle.std.specs.Prelude.{◌<◌, List, [], ◌∷◌, length}
use Rattle.imp_syntax.specs.Plain.{Procedure}
use Rattle.imp_check.specs.Names.{variables}
use Rattle.imp_check.specs.Programs.{count_numeric, count_links}

pub record HasFew (p : Procedure) : Type 0 where
  pub numbers : count_numeric (variables p) < 17
  pub links : count_links (variables p) < 9

abbrev pub EachHasFew : List Procedure → Type 0
EachHasFew [] = Unit {0}
EachHasFew (p ∷ ps) = HasFew p × EachHasFew ps

-- few procedures, each with few variables
pub record AreFew (ps : List Procedure) : Type 0 where
  pub procedures : length ps < 65
  pub variables_of_each : EachHasFew ps
