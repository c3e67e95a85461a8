use Rattle.hull_model.proofs.MeanKinds.{share_kind, corner_kind, pair_kind, depth_kind, weighted_kind, kind_rises}
use Rattle.hull_model.proofs.laws.wet_means_rise.Goals as goal

pub returns-clause-share : goal.returns-clause-share
returns-clause-share c = kind_rises share_kind

pub returns-clause-corner : goal.returns-clause-corner
returns-clause-corner c = λ n. kind_rises (corner_kind n)

pub returns-clause-pair : goal.returns-clause-pair
returns-clause-pair c = λ n m. kind_rises (pair_kind n m)

pub returns-clause-depth : goal.returns-clause-depth
returns-clause-depth c = kind_rises depth_kind

pub returns-clause-weighted : goal.returns-clause-weighted
returns-clause-weighted c = λ n. kind_rises (weighted_kind n)
