-- The lines of a turn as the code puts them together.
use Rattle.std.proofs.Common.{◌≡◌, ℕ, List, ◌++◌, codes}
use Rattle.std.specs.Fmt.{decimal}
use Rattle.daig_gen.specs.Pieces.{constant_text}
use Rattle.daig_gen.specs.Script.{ask_text, replace_text, insert_text}
use Rattle.base_values.proofs.Joined.{joined_3, joined_5}

pub ask_written : (t : List ℕ) (n : ℕ) → ((t ++ codes "{\"at\":\"after ") ++ decimal n) ++ codes "\",\"do\":\"state\"}\n{\"do\":\"cost\"}\n" ≡ t ++ ask_text n
unfolding ask_text
ask_written t n = joined_3 t (codes "{\"at\":\"after ") (decimal n) (codes "\",\"do\":\"state\"}\n{\"do\":\"cost\"}\n")

pub replace_written : (t : List ℕ) (n x c : ℕ) →
    ((((t ++ codes "{\"do\":\"replace\",\"id\":") ++ decimal n) ++ codes ",\"text\":\"") ++ constant_text x c) ++ codes "\"}\n" ≡ t ++ replace_text n x c
unfolding replace_text
replace_written t n x c = joined_5 t (codes "{\"do\":\"replace\",\"id\":") (decimal n) (codes ",\"text\":\"") (constant_text x c) (codes "\"}\n")

pub insert_written : (t : List ℕ) (n : ℕ) → ((t ++ codes "{\"do\":\"insert\",\"place\":\"after ") ++ decimal n) ++ codes "\",\"text\":\"skip;\"}\n" ≡ t ++ insert_text n
unfolding insert_text
insert_written t n = joined_3 t (codes "{\"do\":\"insert\",\"place\":\"after ") (decimal n) (codes "\",\"text\":\"skip;\"}\n")
