-- The list segments as a domain.
use Rattle.domain_laws.specs.Operations.{Operations}
use Rattle.dom_listseg_meaning.specs.State.{Segments, segments_same}
use Rattle.dom_listseg_meaning.specs.Operations.{init, post, assume, join, widen, enter, leave, shed, check, dead}
use Rattle.dom_listseg_meaning.specs.Covers.{fits}
use Rattle.dom_listseg_meaning.specs.Text.{text}

abbrev pub segments : Operations Segments
segments = record {
  init = init;
  post = post;
  assume = assume;
  join = join;
  widen = widen;
  enter = enter;
  leave = leave;
  shed = shed;
  check = check;
  same = segments_same;
  dead = dead;
  text = text;
  fits = fits;
}
