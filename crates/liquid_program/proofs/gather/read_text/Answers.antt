use Rattle.std.proofs.Common.{rules}
use Rattle.liquid_program.proofs.GatheredLemmas.{text_brought}
use Rattle.liquid_program.proofs.gather.read_text.Goals as goal

pub returns-in-Ok-clause-text : goal.returns-in-Ok-clause-text
returns-in-Ok-clause-text g c = text_brought _ c.in_ok-bytes.bytes c.in-Ok.text c.in_ok-bytes.ensures.reads (search rules)
