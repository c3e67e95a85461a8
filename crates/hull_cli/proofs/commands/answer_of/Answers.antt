use Rattle.std.proofs.Common.{map, string_bytes}
use Rattle.hull_cli.proofs.Complete.{decided}
use Rattle.hull_cli.proofs.commands.answer_of.Goals as goal

pub returns-in_ok-text_of-in-Ok-clause-decides : goal.returns-in_ok-text_of-in-Ok-clause-decides
returns-in_ok-text_of-in-Ok-clause-decides g c =
    let text = rw c.deref.ensures.value at c.in_ok-text_of-in-Ok.ensures in
    let status = rw c.deref-in-Ok.ensures.value at c.report_status.ensures.status in
    decided _ (map string_bytes c.args.words.now) c.in-Ok.lines.items _ c.report_status.result c.in-Ok.ensures.reports status c.report_status.ensures.report text
