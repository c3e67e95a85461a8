use Rattle.std.proofs.Common.{inl, map, string_bytes}
use Rattle.hull_cli.proofs.Complete.{reported}
use Rattle.hull_cli.proofs.commands.run.Goals as goal

pub returns-then-put_all-clause-complete : goal.returns-then-put_all-clause-complete
returns-then-put_all-clause-complete g c = λ form is can sink. inl (reported _ (map string_bytes c.args.words.now) form c.in-Ok.answer.status c.in-Ok.answer.text.items is can c.in-Ok.ensures.decides)
