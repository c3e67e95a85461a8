-- The made ship: the made job's load in the made hull.
use Rattle.std.specs.Prelude.{ℕ}
use Rattle.job_reader.specs.declared.job.Job.{Job}
use Rattle.loading_sheet.specs.declared.loading.Loading.{Loading}
use Rattle.loading_sheet.specs.Centre.{displaced}
use Rattle.loading_sheet.specs.Loads.{IsLoadingOf}
use Rattle.draft_bracket.specs.DraftBracket.{IsTooHeavy}
use Rattle.hull_maker.specs.MadeHull.{stations_of}
use Rattle.hull_maker.specs.MadeJob.{IsMadeJob}

-- it displaces no more than the whole hull, whatever the seed
abbrev pub MadeShipFloats : Type 0
MadeShipFloats = (seed : ℕ) (job : Job) (loading : Loading) → IsMadeJob job → IsLoadingOf job.items loading → ¬ IsTooHeavy (stations_of seed) (displaced loading job.water)
