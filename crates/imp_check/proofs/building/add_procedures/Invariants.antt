use Rattle.std.proofs.Common.{◌≡◌, take, drop}
use Rattle.imp_check.specs.Entries.{entries_from, entries_of}
use Rattle.imp_check.specs.Puts.{put_all, with_sites}
use Rattle.imp_check.proofs.building.add_procedures.Given as goal

abbrev pub invariant-loop-i : goal.invariant-loop-i
invariant-loop-i l = record {
  put : put_all (entries_from (take l.i l.procs) (drop l.i l.procs)) l.making.places.items ≡ put_all (entries_of l.procs) l.initial.making.places.items;
  sites : with_sites (entries_from (take l.i l.procs) (drop l.i l.procs)) l.making.sites.items ≡ with_sites (entries_of l.procs) l.initial.making.sites.items;
}
