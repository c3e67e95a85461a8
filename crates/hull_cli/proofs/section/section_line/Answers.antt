use Rattle.std.proofs.Common.{refl}
use Rattle.std.proofs.lemmas.Option.{slice_get_read}
use Rattle.hull_cli.proofs.section.section_line.Goals as goal

pub returns-clause-line : goal.returns-clause-line
returns-clause-line c = record {
  at = c.index-stations-station.result;
  there = rw c.stations.ensures.same at (slice_get_read c.stations.result.now _ c.args.station c.index-stations-station.result refl (rw c.stations.ensures.same c.requires.there) c.index-stations-station.is);
  area = c.figure.result;
  shows_area = record { span = c.section-spans.result.area; encloses = c.section-spans.ensures.area; printed = c.figure.ensures };
  moment = c.figure-2.result;
  shows_moment = record { span = c.section-spans.result.moment; encloses = c.section-spans.ensures.moment; printed = c.figure-2.ensures };
  x = c.place_of.result;
  place = c.place_of.ensures;
  fields = refl;
}
