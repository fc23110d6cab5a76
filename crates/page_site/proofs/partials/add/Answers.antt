use Rattle.std.proofs.Common.{rules}
use Rattle.page_site.proofs.PartialLemmas.{text_put}
use Rattle.page_site.proofs.partials.add.Goals as goal

pub returns : goal.returns
returns c =
    text_put c.args.partials.now c.insert.new.self c.in_ok-from_str.field-0 c.args.text c.args.name.now c.in_ok-insert.ensures.updates
    c.in_ok-from_str.ensures.ok
