use Rattle.std.proofs.Common.{◌≡◌, ◌∙◌, refl, map, ap, subst, [], false}
use Rattle.std.specs.String.{string_bytes}
use Rattle.clap.specs.Simple.{HasMatchesOf, app_of}
use Rattle.clap.specs.Walk.{is_empty}
use Rattle.clap.specs.Values.{kind_of}
use Rattle.clap.specs.declared.error.kind.ErrorKind.TheVariants.{OutOfMemory}
use Rattle.clap.specs.Faults.{fault_of, is_simple_and_free}
use Rattle.serve_command.specs.Line.{daig_app}
use Rattle.serve_command.proofs.MatchLemmas.{has_fault}
use Rattle.serve_command.proofs.reading.matches_of.Goals as goal

pub returns-in-Ok : goal.returns-in-Ok
returns-in-Ok c =
    let app : app_of c.in_ok-daig.field-0 ≡ daig_app = c.in_ok-daig.ensures.app in
    record {
      taken = subst (λ a. fault_of a (map string_bytes c.args.words.now) ≡ []) app (c.in-Ok.ensures.kinds (ap is_simple_and_free app ∙ refl));
      rows = (subst (λ a. HasMatchesOf a (map string_bytes c.args.words.now) c.in-Ok.matches) app c.in-Ok.ensures.matches refl).1;
      refused = tt;
    }

pub returns : goal.returns
returns c =
    let app : app_of c.in_ok-daig.field-0 ≡ daig_app = c.in_ok-daig.ensures.app in
    let kinds = c.in-Err.ensures.kinds (ap is_simple_and_free app ∙ refl) in
    let other : kind_of c.in-Err.error ≡ OutOfMemory → ⊥ = λ k. c.in_default.not-OutOfMemory (c.kind.ensures ∙ k) in
    record {
      taken = tt;
      rows = tt;
      refused = λ _. subst (λ a. is_empty (fault_of a (map string_bytes c.args.words.now)) ≡ false) app (has_fault _ c.in-Err.error kinds other);
    }
