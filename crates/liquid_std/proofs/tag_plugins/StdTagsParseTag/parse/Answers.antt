use Rattle.liquid_std.proofs.tag_plugins.StdTagsParseTag.parse.Goals as goal

pub returns-in-Library : goal.returns-in-Library
returns-in-Library g c ts at = rw c.in-Library.is (c.parse_library.ensures ts at)
