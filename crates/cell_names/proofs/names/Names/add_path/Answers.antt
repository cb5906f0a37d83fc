use Rattle.std.proofs.Common.{◌∷◌, ◌∙◌, ap, sym, suc, subst}
use Rattle.cell_names.specs.Paths.{path_at, paths_of}
use Rattle.cell_names.specs.Known.{Adds}
use Rattle.cell_names.proofs.Telling.{step_tells, step_self}
use Rattle.cell_names.proofs.OnceLemmas.{once_told}
use Rattle.cell_names.proofs.KeptLemmas.{step_of, known-path-add, known-step-kept, known-same-names}
use Rattle.cell_names.proofs.names.Names.add_path.Goals as goal

pub invariant_of-self-2 : goal.invariant_of-self-2
invariant_of-self-2 c =
    let on = c.in_ok-frames.ensures.same ∙ ap (λ w. c.args.frame ∷ w) c.frames_of.ensures.are in
    known-step-kept _ _ c.self.invariant _ c.self.view_is (step_of c.args.before c.in_ok-frames.frames) c.args.frame _ _ c.requires.there on (once_told _ _ c.in_ok-number.ensures.once step_self) (c.in_ok-number.ensures.adds step_tells)

pub returns-clause-path : goal.returns-clause-path
returns-clause-path c =
    let on = c.in_ok-frames.ensures.same ∙ ap (λ w. c.args.frame ∷ w) c.frames_of.ensures.are in
    subst (λ n. Adds c.args.self.now.paths (paths_of c.intern.new.self) (c.args.frame ∷ path_at c.args.self.now.paths c.args.before) n) (sym c.after.ensures.is)
    (subst (λ w. Adds c.args.self.now.paths (paths_of c.intern.new.self) w (suc c.in_ok-number.number)) on
    (known-path-add _ _ c.self.invariant _ c.self.view_is (step_of c.args.before c.in_ok-frames.frames) c.args.frame _ _ c.requires.there on (c.in_ok-number.ensures.adds step_tells)))

pub returns-clause-names : goal.returns-clause-names
returns-clause-names c = known-same-names _ _ c.self.invariant _ c.self.view_is (step_of c.args.before c.in_ok-frames.frames) _ _ (c.in_ok-number.ensures.adds step_tells)
