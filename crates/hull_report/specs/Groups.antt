-- The lines in groups.
use Rattle.std.specs.Prelude.{⊤}
use Rattle.hull_report.specs.declared.line.Line.{Line}
use Rattle.hull_report.specs.declared.line.Line.TheVariants as line

-- lines of drafts, loads and levers
abbrev pub IsFlotation : Line → Type 0
IsFlotation (line.Cross mass degree d1 d2 kn) = ⊤
IsFlotation (line.Load mass lcg kg) = ⊤
IsFlotation (line.Load2 mass lcg tcg kg) = ⊤
IsFlotation (line.Upright d1 d2 kb bm gm) = ⊤
IsFlotation (line.Arm degree d1 d2 gz area) = ⊤
IsFlotation (line.Arm2 degree d1 d2 port_gz port_area star_gz star_area) = ⊤
IsFlotation l = ⊥

-- lines of further reports
abbrev pub IsFurther : Line → Type 0
IsFurther (line.Tank compartment level volume lcg kg inertia) = ⊤
IsFurther (line.Float end) = ⊤
IsFurther (line.Strength station x shear bend) = ⊤
IsFurther (line.FloodedArm case degree d1 d2 port_gz port_area star_gz star_area) = ⊤
IsFurther (line.FloodedShort case degree left) = ⊤
IsFurther line.LimitsHead = ⊤
IsFurther (line.Limit mass height) = ⊤
IsFurther (line.Beyond mass height why) = ⊤
IsFurther l = ⊥
