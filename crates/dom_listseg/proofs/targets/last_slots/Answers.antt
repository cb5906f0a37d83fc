use Rattle.std.proofs.Common.{arith, ◌<◌, ◌-◌, length, ap, ◌∙◌}
use Rattle.std.proofs.lemmas.Bool.Decides.{nat_tests}
use Rattle.shape_steps.specs.Steps.{last_of}
use Rattle.shape_steps.proofs.Graphs.{last_of-is}
use Rattle.dom_listseg.proofs.targets.last_slots.Goals as goal

pub returns : goal.returns
returns c =
    let empty = c.if-is_empty.ensures in
    let frames = c.frames-frames.result.now in
    let some : 0 < length frames = grind (arith, nat_tests) in
    record {
      slots = c.as_slice.ensures.slots ∙ c.index-frames-frames.is ∙ last_of-is frames (length frames - 1) c.index-frames-frames.result (omega arith) ∙ ap last_of c.frames-frames.ensures.frames;
    }
