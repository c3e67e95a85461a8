-- A model of the private type `Request`: its forms of words.
use Rattle.hull_cli.specs.declared.words.Request.{Request}
use Rattle.hull_cli.specs.declared.words.Request.TheVariants as request
use Rattle.hull_cli.specs.Words.{Form, section, tables, make}

abbrev pub form_seen : Request → Form
form_seen (request.Section offsets station draft) = section offsets.now station draft
form_seen (request.Tables command job offsets) = tables command job.now offsets.now
form_seen (request.Make seed) = make seed
