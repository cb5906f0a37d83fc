-- Equality of lists, as that of their codes.
use Rattle.std.proofs.Common.{◌≡◌, List, ℕ, map, ◌∙◌}
use Rattle.std.specs.Cmp.Lexicographic.{pointwise}
use Rattle.std.specs.Str.{bytes_eq}
use Rattle.base_values.specs.Equal.{code_same, list_to, list_same, text_to, text_same}
use Rattle.imp_slots.specs.ListCodes.{list_to-map}
use Rattle.imp_slots.specs.CallViews.{argument_of}
use Rattle.imp_slots.specs.PartCodes.{argument_to}
use Rattle.imp_slots.specs.declared.calls.Argument.{Argument}

pub texts_pointwise : (xs ys : List (List ℕ)) → pointwise bytes_eq xs ys ≡ code_same (list_to text_to xs) (list_to text_to ys)
texts_pointwise xs ys = (λ i. pointwise (λ x y. text_same x y i) xs ys) ∙ list_same text_to xs ys

pub arguments_pointwise : (xs ys : List Argument) → pointwise (λ x y. code_same (argument_to (argument_of x)) (argument_to (argument_of y))) xs ys ≡ code_same (list_to argument_to (map argument_of xs)) (list_to argument_to (map argument_of ys))
arguments_pointwise xs ys = list_same (λ x. argument_to (argument_of x)) xs ys ∙ (λ i. code_same (list_to-map argument_to argument_of xs i) (list_to-map argument_to argument_of ys i))
