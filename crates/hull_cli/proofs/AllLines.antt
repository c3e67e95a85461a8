-- Lines of several tables, and why there are none.
use Rattle.std.proofs.Common.{◌≡◌, ◌∙◌, ap, List, ◌++◌, inl, inr}
use Rattle.hull_model.specs.declared.station.Station.{Station}
use Rattle.job_reader.specs.declared.job.Job.{Job}
use Rattle.hull_report.specs.declared.names.Command.TheVariants as command
use Rattle.report_run.specs.declared.stop.Stop.{Stop}
use Rattle.report_run.specs.declared.stop.Stop.TheVariants as stop
use Rattle.hull_cli.specs.Answers.{CanBeLoaded}
use Rattle.hull_cli.specs.Stops.{StopsCurves, StopsStability, StopsTables}

pub three_joined : {A : Type 0} (a b c one two : List A) → one ≡ a ++ b → two ≡ one ++ c → two ≡ a ++ b ++ c
three_joined a b c one two e f = f ∙ ap (λ (t : List _). t ++ c) e

pub four_joined : {A : Type 0} (a b c d one two three : List A) → one ≡ a ++ b → two ≡ one ++ c → three ≡ two ++ d → three ≡ a ++ b ++ c ++ d
four_joined a b c d one two three e f g = g ∙ ap (λ (t : List _). t ++ d) (three_joined a b c one two e f)

-- what stops the stability stops all tables
pub items_stop : (hull : List Station) (job : Job) (why : Stop) → StopsStability hull job.water job.items why → StopsTables command.All job hull why
items_stop hull job (stop.Refused cause) stops = inl stops
items_stop hull job (stop.Unread file) stops = absurd stops
items_stop hull job stop.NoMemory stops = tt

-- and so does what stops the cross curves of a hull that can be loaded
pub masses_stop : (hull : List Station) (job : Job) (why : Stop) → CanBeLoaded hull job.water job.items → StopsCurves hull job.water job.masses why → StopsTables command.All job hull why
masses_stop hull job (stop.Refused cause) can stops = inr (can, stops)
masses_stop hull job (stop.Unread file) can stops = absurd stops
masses_stop hull job stop.NoMemory can stops = tt
