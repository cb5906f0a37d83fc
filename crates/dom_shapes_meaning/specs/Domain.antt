-- Shapes as a domain.
use Rattle.domain_laws.specs.Operations.{Operations}
use Rattle.dom_listseg_meaning.specs.State.{Segments, segments_same}
use Rattle.dom_listseg_meaning.specs.Operations.{init, assume, check, dead}
use Rattle.dom_listseg_meaning.specs.Text.{text}
use Rattle.dom_shapes_meaning.specs.Operations.{post, join, widen, enter, leave, shed}
use Rattle.dom_shapes_meaning.specs.Covers.{fits}

abbrev pub shapes : Operations Segments
shapes = record {
  init = init;
  post = post;
  assume = assume;
  join = join;
  widen = widen;
  enter = enter;
  leave = leave;
  shed = shed;
  check = check;
  same = segments_same;
  dead = dead;
  text = text;
  fits = fits;
}
