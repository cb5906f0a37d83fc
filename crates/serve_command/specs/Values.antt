-- The values of options.
use Rattle.std.specs.Prelude.{ℕ, ◌&&◌, nat_le, Bool, true, false, List, Option, Some, None, codes, decimal, if◌then◌else◌}
use Rattle.std.specs.Str.{bytes_eq}
use Rattle.std.specs.Str.Parse.{digits_value}
use Rattle.serve_command.specs.declared.job.DomainName.{DomainName}
use Rattle.serve_command.specs.declared.job.DomainName.TheVariants.{Interval, Octagon, ListSeg, IntervalListSeg, OctagonListSeg, Shapes, IntervalShapes, OctagonShapes}
use Rattle.serve_command.specs.declared.job.SingleDomain.{SingleDomain}
use Rattle.serve_command.specs.declared.job.SingleDomain.TheVariants as single

-- a number within these bounds, as its decimal digits
unfoldable pub number_in : ℕ → ℕ → List ℕ → Option ℕ
number_in least most text =
    let number = digits_value 10 text in
    if bytes_eq text (decimal number) && nat_le least number && nat_le number most then Some number else None

unfoldable pub domain_of : List ℕ → Option DomainName
domain_of text =
    if bytes_eq text (codes "interval") then Some Interval
    else (if bytes_eq text (codes "octagon") then Some Octagon
    else (if bytes_eq text (codes "listseg") then Some ListSeg
    else (if bytes_eq text (codes "interval+listseg") then Some IntervalListSeg
    else (if bytes_eq text (codes "octagon+listseg") then Some OctagonListSeg
    else (if bytes_eq text (codes "shapes") then Some Shapes
    else (if bytes_eq text (codes "interval+shapes") then Some IntervalShapes
    else (if bytes_eq text (codes "octagon+shapes") then Some OctagonShapes
    else None)))))))

-- a domain that is no product
unfoldable pub single_of : List ℕ → Option SingleDomain
single_of text =
    if bytes_eq text (codes "interval") then Some single.Interval
    else (if bytes_eq text (codes "octagon") then Some single.Octagon
    else (if bytes_eq text (codes "listseg") then Some single.ListSeg
    else None))

-- whether the numbers of a procedure are the thresholds of widening
unfoldable pub thresholds_of : List ℕ → Option Bool
thresholds_of text =
    if bytes_eq text (codes "thresholds") then Some true
    else (if bytes_eq text (codes "plain") then Some false
    else None)
