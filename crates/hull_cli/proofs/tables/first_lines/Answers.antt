use Rattle.std.proofs.Common.{◌≡◌, refl, sym, subst, ℕ, ◌≤◌, true, FitsSigned, to_z, of_z, arith}
use Rattle.std.proofs.lemmas.Grind.{common_steps}
use Rattle.std.specs.Int.{w128}
use Rattle.std.proofs.lemmas.Int.{to_z-of_z}
use mir.Val.{SFits}
use Rattle.job_reader.specs.Limits.{is_version}
use Rattle.hull_report.specs.Spelling.{is_graphic, command_name}
use Rattle.hull_report.specs.declared.names.Command.{Command}
use Rattle.hull_report.specs.declared.names.Command.TheVariants.{Hydro, Bonjean, Cross, Stability, Damage, Floodable, All, Section, Make, Tanks, Strength, Flooded}
use Rattle.hull_cli.proofs.tables.first_lines.Goals as goal

graphic : (c : Command) → is_graphic (command_name c) ≡ true
graphic Hydro = refl
graphic Bonjean = refl
graphic Cross = refl
graphic Stability = refl
graphic Damage = refl
graphic Floodable = refl
graphic All = refl
graphic Section = refl
graphic Make = refl
graphic Tanks = refl
graphic Strength = refl
graphic Flooded = refl

version_fits : (version : ℕ) → is_version version ≡ true → (1 ≤ version) × (version ≤ 2)
version_fits version is = (grind (arith, common_steps), grind (arith, common_steps))

pub returns-clause-grammar : goal.returns-clause-grammar
returns-clause-grammar c =
    let six : SFits w128 c.six_volume.result = record { sfits = c.six_volume.type_inv } in
    let fits : FitsSigned w128 (to_z w128 (of_z w128 c.six_volume.result)) = subst (FitsSigned w128) (sym (to_z-of_z w128 c.six_volume.result six)) six in
    ((refl, (version_fits c.args.job.now.version c.args.job.now.versions, (graphic c.args.command, tt))), (c.hull_line.ensures.grammar, ((refl, (fits, tt)), tt)))

pub returns-clause-lines : goal.returns-clause-lines
returns-clause-lines c =
    let fits : SFits w128 c.six_volume.result = record { sfits = c.six_volume.type_inv } in
    let six = c.six_volume.ensures.tetrahedra c.args.hull.now c.hull_line.ensures.kept c.requires in
    rw (c.hull_line.ensures.line, sym six) (simp to_z-of_z refl)
