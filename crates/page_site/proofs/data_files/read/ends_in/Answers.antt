use Rattle.std.proofs.lemmas.Str.Pattern.{ends_text}
use Rattle.page_site.proofs.data_files.read.ends_in.Goals as goal

pub returns : goal.returns
returns c = ends_text c.ends_with.result c.args.ending.now c.args.path.now c.ends_with.ensures.cases
