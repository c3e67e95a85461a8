use Rattle.hull_model.proofs.tests.plain.+push_kept.Given as goal

abbrev pub decreases-push_kept : goal.decreases-push_kept
decreases-push_kept l = l.rounds
