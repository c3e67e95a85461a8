use Rattle.std.proofs.Common.{rules, [], ◌∷◌, codes, ap, map}
use mathlib.Core.Path.{refl, ◌∙◌}
use Rattle.hull_maker.specs.MadeJob as spec
use Rattle.hull_maker.specs.MadeJob.{IsMadeJob, parts_of}
use Rattle.hull_maker.proofs.job.made_job.Goals as goal

pub returns : goal.returns
returns c = record {
  version = refl;
  density = refl;
  length_bp = refl;
  margin = refl;
  drafts = search rules;
  masses = search rules;
  items = search rules;
  openings = search rules;
  compartments = ap (map spec.named_parts_of) c.in_ok-made_compartments.ensures ∙ ap (λ s. (codes "middle", s) ∷ []) c.middle-slab.ensures;
  damages = ap (map (λ d. map parts_of d.slabs)) (c.new-7.ensures ∙ c.in_ok-vec-3.ensures.items) ∙ ap (λ slabs. map parts_of slabs ∷ []) c.in_ok-made_damage.ensures ∙ ap (λ parts. (parts ∷ []) ∷ []) c.middle-slab.ensures;
  floodable = refl;
}
