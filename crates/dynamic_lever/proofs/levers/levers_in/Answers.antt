use Rattle.std.proofs.Common.{◌+◌, ◌*◌, ◌^◌, arith}
use Rattle.flux_moments.proofs.TotalWidths.{size_is}
use Rattle.outward_interval.specs.Ends.{EndsBelow}
use Rattle.flux_moments.specs.Limits.{EndsAtMost}
use Rattle.dynamic_lever.proofs.Sides.{on_both}
use Rattle.flux_moments.proofs.ProductEnds.{at_most_below}
use Rattle.dynamic_lever.proofs.Ends.{at_most_wider}
use Rattle.dynamic_lever.proofs.levers.levers_in.Goals as goal

pub returns-clause-gz_width : goal.returns-clause-gz_width
returns-clause-gz_width c = c.levers_of.ensures.gz_width _ _ c.measure-below.ensures.mv_width (size_is c.args.planes.now).cosine (size_is c.args.planes.now).sine

pub returns-clause-sep_width : goal.returns-clause-sep_width
returns-clause-sep_width c = c.levers_of.ensures.sep_width _ _ c.measure-below.ensures.mu_width (size_is c.args.planes.now).cosine (size_is c.args.planes.now).sine

pub returns-clause-gz_ends : goal.returns-clause-gz_ends
returns-clause-gz_ends c = on_both (λ s. EndsAtMost (2 ^ 92 + 2 ^ 77) s.lo s.hi) (λ s. EndsBelow 95 s.lo s.hi) (λ s h. at_most_below (2 ^ 92 + 2 ^ 77) 95 (omega arith) h) c.levers_of.result.gz
    (c.levers_of.ensures.gz_ends (2 ^ 92) (at_most_wider (5 * 2 ^ 108) (2 ^ 92 * 500000) (omega arith) c.measure-below.ensures.mv_ends))

pub returns-clause-sep_ends : goal.returns-clause-sep_ends
returns-clause-sep_ends c = on_both (λ s. EndsAtMost (2 ^ 77 + 2 ^ 94) s.lo s.hi) (λ s. EndsBelow 95 s.lo s.hi) (λ s h. at_most_below (2 ^ 77 + 2 ^ 94) 95 (omega arith) h) c.levers_of.result.sep
    (c.levers_of.ensures.sep_ends (2 ^ 94) (at_most_wider (3 * 2 ^ 111) (2 ^ 94 * 500000) (omega arith) c.measure-below.ensures.mu_ends))

pub returns-clause-gz : goal.returns-clause-gz
returns-clause-gz c stations hull are plane is = c.levers_of.ensures.gz plane _ is.direction (c.measure-below.ensures.mv stations hull are plane is)

pub returns-clause-sep : goal.returns-clause-sep
returns-clause-sep c stations hull are plane is = c.levers_of.ensures.sep plane _ is.direction (c.measure-below.ensures.mu stations hull are plane is)
