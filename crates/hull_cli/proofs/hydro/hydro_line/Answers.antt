use Rattle.std.proofs.Common.{refl}
use Rattle.hull_cli.proofs.hydro.hydro_line.Goals as goal

pub returns-clause-line : goal.returns-clause-line
returns-clause-line c = λ hull is faces. record {
  row = c.hydro_row-row.result;
  holds = c.hydro_row-row.ensures.holds hull is faces;
  faces = c.args.faces.now;
  boundary = faces;
  narrow = c.hydro_row-row.ensures.widths hull is faces;
  absent = c.hydro_row-row.ensures.absent;
  figures = c.figures_of.result;
  printed = c.figures_of.ensures.printed;
  fields = refl;
}
