use Rattle.std.proofs.Common.{◌∙◌, sym}
use Rattle.liquid_parser.proofs.HandedLemmas.{token_text}
use Rattle.liquid_grammar.proofs.Exact.{front_of}
use Rattle.liquid_parser.proofs.cursor.token.TagToken.as_str.Goals as goal

pub returns : goal.returns
returns c t is = sym (token_text c.args.self.now t is ∙ front_of _ _ _ is.cut)
