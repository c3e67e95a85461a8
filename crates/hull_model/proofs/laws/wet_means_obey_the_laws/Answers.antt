use Rattle.hull_model.proofs.TriangleLaws.{share_laws, corner_laws, pair_laws, depth_laws, weighted_laws}
use Rattle.hull_model.proofs.laws.wet_means_obey_the_laws.Goals as goal

pub returns-clause-share : goal.returns-clause-share
returns-clause-share c = share_laws

pub returns-clause-corner : goal.returns-clause-corner
returns-clause-corner c = corner_laws

pub returns-clause-pair : goal.returns-clause-pair
returns-clause-pair c = pair_laws

pub returns-clause-depth : goal.returns-clause-depth
returns-clause-depth c = depth_laws

pub returns-clause-weighted : goal.returns-clause-weighted
returns-clause-weighted c = weighted_laws
