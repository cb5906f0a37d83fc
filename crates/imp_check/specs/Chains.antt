-- The chains to a procedure: the lists of calls from the last procedure to it, outermost first.
use Rattle.std.specs.Prelude.{ℕ, List, [], ◌∷◌, ◌++◌, map, cond}
use Rattle.std.specs.Str.{bytes_eq}
use Rattle.imp_syntax.specs.Plain.{Statement, Simple, Break, Call, If, While, Statements, Ends, Starts, Procedure}

-- the numbers of the calls of a procedure, in the order of the text
abbrev mutual
  pub calls_in : List ℕ → Statement → List ℕ
  calls_in f (Simple n a) = []
  calls_in f (Break n) = []
  calls_in f (Call n x g es) = cond (bytes_eq g f) (n ∷ []) []
  calls_in f (If n c t e) = calls f t ++ calls f e
  calls_in f (While n c b) = calls f b

  pub calls : List ℕ → Statements → List ℕ
  calls f Ends = []
  calls f (Starts s ss) = calls_in f s ++ calls f ss

-- each of these chains, with each of these calls after it: all chains of the first call first
abbrev pub extended : List (List ℕ) → List ℕ → List (List ℕ)
extended chains [] = []
extended chains (s ∷ ss) = map (λ w. w ++ s ∷ []) chains ++ extended chains ss

-- The chains to the procedure f, of which `later` stand after it: each call of f in a later procedure ends chains, one
-- for each chain to that procedure. The last procedure has the one empty chain.
abbrev mutual
  pub chains_to : List ℕ → (later : List Procedure) → List (List ℕ)
  chains_to f [] = [] ∷ []
  chains_to f (p ∷ later) = extended (chains_to p.name later) (calls f p.body) ++ chains_through f later

  pub chains_through : List ℕ → (later : List Procedure) → List (List ℕ)
  chains_through f [] = []
  chains_through f (p ∷ later) = extended (chains_to p.name later) (calls f p.body) ++ chains_through f later

-- the chains to all procedures
abbrev pub all_chains : List Procedure → List (List ℕ)
all_chains [] = []
all_chains (p ∷ later) = chains_to p.name later ++ all_chains later
