-- What is known where following passes.
use Rattle.std.specs.Prelude.{◌≡◌, List, Option, Some, None, Bool, true, false}
use Rattle.std.proofs.Common.{refl}
use Rattle.cert_meaning.specs.Followed.{Followed, Passes, Fails, passing, unless, where_written}

module _ {S : Type 0} (Ready : Followed S → Type 0) (no_fault : (r : Followed S) → Ready r → (n : _) (z : _) (why : _) → r ≡ Fails n z why → ⊥) where
  -- the first thing passes with a state from which the second is ready
  pub record Passed (r : Followed S) (f : S → List S → Followed S) : Type 0 where
    pub behind : S
    pub leaving : List S
    pub was : r ≡ Passes behind leaving
    pub rest : Ready (f behind leaving)

  pub passed : (r : Followed S) (f : S → List S → Followed S) → Ready (passing r f) → Passed r f
  passed (Passes s ss) f k = record { behind = s; leaving = ss; was = refl; rest = k }
  passed (Fails n z why) f k = absurd (no_fault (Fails n z why) k n z why refl)

  -- the test holds
  pub held : (b : Bool) (n : _) (z : _) (why : _) (r : Followed S) → Ready (unless b (Fails n z why) r) → (b ≡ true) × Ready r
  held true n z why r k = (refl, k)
  held false n z why r k = absurd (no_fault (Fails n z why) k n z why refl)

  -- a state is written
  pub record Found (o : Option S) (f : S → Followed S) : Type 0 where
    pub state : S
    pub was : o ≡ Some state
    pub rest : Ready (f state)

  pub found : (o : Option S) (n : _) (z : _) (why : _) (f : S → Followed S) → Ready (where_written o (Fails n z why) f) → Found o f
  found None n z why f k = absurd (no_fault (Fails n z why) k n z why refl)
  found (Some x) n z why f k = record { state = x; was = refl; rest = k }
