use Rattle.std.proofs.Common.{List, refl, sym, subst, ◌∙◌, arith}
use Rattle.std.proofs.lemmas.List.{nil_from_length}
use Rattle.std.proofs.lemmas.Option.{slice_get_within}
use Rattle.cell_names.specs.declared.frame.NameFrame.{NameFrame}
use Rattle.cell_names.specs.Paths.{path_at}
use Rattle.daig_query.proofs.Renaming.{Copies, copies-all, copies-none, copies-on}
use Rattle.daig_query.proofs.names_sweep.copied_path.Goals as goal

pub loop-frame-init : goal.loop-frame-init
loop-frame-init c =
    let paths = c.args.later.now.paths in
    let path = path_at c.args.names.now.paths c.args.path in
    let whole = subst (λ (frames : List NameFrame). Copies paths path frames paths 0) (sym c.in_ok-frames.ensures.frames) (copies-none paths path c.requires.root) in
    record {
      copies = subst (λ n. Copies paths path c.in_ok-frames.frames.items paths n) (sym c.root-copied.ensures.is) whole;
      names = refl;
    }

pub add_path-requires : goal.add_path-requires
add_path-requires c = record { there = slice_get_within c.loop-frame.later.paths c.loop-frame.copied c.loop-frame.invariant.copies.done c.loop-frame.invariant.copies.here }

pub loop-frame-preserved : goal.loop-frame-preserved
loop-frame-preserved c =
    let so_far = c.loop-frame.invariant in
    record {
      copies =
          copies-on c.args.later.now.paths (path_at c.args.names.now.paths c.args.path) c.loop-frame.frames.items c.loop-frame.later.paths c.loop-frame.copied so_far.copies c.in-Some.frame c.pop.new.self.items c.in-Some.ensures.items
          c.add_path.new.self.paths c.in_ok-copied.copied c.in_ok-copied.ensures.path;
      names = c.add_path.ensures.names ∙ so_far.names;
    }

pub returns-clause-path : goal.returns-clause-path
returns-clause-path c =
    let frames = c.loop-frame.frames in
    copies-all c.args.later.now.paths (path_at c.args.names.now.paths c.args.path) frames.items c.loop-frame.later.paths c.loop-frame.copied c.loop-frame.invariant.copies
    (nil_from_length frames.items (omega (arith, c.in_default.ensures.cases.0, frames.ok.0)))

pub returns-clause-keeps : goal.returns-clause-keeps
returns-clause-keeps c = c.loop-frame.invariant.copies.keeps
