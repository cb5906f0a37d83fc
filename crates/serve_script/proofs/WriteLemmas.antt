-- Pieces of a write join to a prefix of the whole, and counts of faults that rose stay so.
use Rattle.std.proofs.Common.{◌≡◌, ℕ, ◌+◌, ◌-◌, ◌≤◌, ◌++◌, inl, inr, List, length, take, drop, Option, Some, IfSome, append_assoc, sym, ◌∙◌, ap, arith}
use Rattle.std.proofs.Math.Seq.{take-add}
use Rattle.io_edge.specs.Outside.{Rose}
use Rattle.base_values.proofs.Lists.{rest_whole}

-- after `at` bytes of the piece, n more were taken
pub took_more : (told told' : Option (List ℕ)) (taken piece : List ℕ) (at n : ℕ) →
    told ≡ Some (taken ++ take at piece) →
    IfSome told (λ t. told' ≡ Some (t ++ take n (take (length piece - at) (drop at piece)))) →
    told' ≡ Some (taken ++ take (at + n) piece)
took_more told told' taken piece at n before takes =
    let now : told' ≡ Some ((taken ++ take at piece) ++ take n (take (length piece - at) (drop at piece))) = rw before at takes in
    now ∙ ap (λ xs. Some ((taken ++ take at piece) ++ take n xs)) (rest_whole piece at)
    ∙ ap Some (append_assoc taken (take at piece) (take n (drop at piece)) ∙ ap (λ xs. taken ++ xs) (sym (take-add at n piece)))

-- a count that rose after a point has risen since an earlier one
pub rose_since : (before between after : ℕ) → before ≤ between → Rose between after → Rose before after
rose_since before between after earlier rose = elim rose [ inl more ↦ inl (omega arith) | inr last ↦ inr last ]
