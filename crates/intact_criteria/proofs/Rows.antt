-- The tables of dynamic_lever are small, hold the figures of the hull, and are as narrow as promised.
use Rattle.outward_interval.specs.Widths.{IsNarrow}
use Rattle.intact_criteria.specs.Narrow.{IsNoWider, lever_width, RowsAreNarrow}
use Rattle.intact_criteria.specs.Tables.{RowsSuffice}
use Rattle.intact_criteria.proofs.DegreeBrackets.{lies_in_same}
use Rattle.intact_criteria.proofs.ReadRows.{each_side, gz_of_side, separation_of_side}

pub rows_suffice : RowsSuffice
rows_suffice = record {
  small_arms = λ faces loading water arms upright h k arm row. record { gz = (h.rows k arm row).2.gz_ends; sep = (h.rows k arm row).2.sep_ends };
  small_gm = λ faces loading water arms upright h. h.row.2.gm_ends;
  figures = λ faces loading water arms upright h hull is are. record {
    gz = λ k few arm row d level plane. (h.rows k arm row).2.gz hull is are d
        (lies_in_same k few plane.direction.0 (h.rows k arm row).0 plane.direction.1 (h.rows k arm row).1 d plane.direction.2) level plane.between;
    separation = λ k few arm row d level plane. (h.rows k arm row).2.sep hull is are d
        (lies_in_same k few plane.direction.0 (h.rows k arm row).0 plane.direction.1 (h.rows k arm row).1 d plane.direction.2) level plane.between;
    gm = λ level between. h.row.2.gm hull is are level between;
  };
}

pub rows_are_narrow : RowsAreNarrow
rows_are_narrow = record {
  levers = λ faces loading water arms upright rows k arm row planes is side. (
    gz_of_side arms side k arm row (λ sign ends. IsNoWider (lever_width faces loading water planes) ends)
        (each_side (λ s. IsNarrow 20 (lever_width faces loading water planes) s.lo s.hi) arm.gz ((rows.rows k arm row).2.gz_width planes is)),
    separation_of_side arms side k arm row (λ sign ends. IsNoWider (lever_width faces loading water planes) ends)
        (each_side (λ s. IsNarrow 20 (lever_width faces loading water planes) s.lo s.hi) arm.sep ((rows.rows k arm row).2.sep_width planes is)),
  );
  gm = λ faces loading water arms upright rows planes is. rows.row.2.gm_width planes is;
}
