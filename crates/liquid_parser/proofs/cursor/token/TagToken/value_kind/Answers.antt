use Rattle.liquid_parser.proofs.ExpectLemmas.{chain_value, values_of_kinds}
use Rattle.liquid_parser.proofs.cursor.token.TagToken.value_kind.Goals as goal

pub returns-in-Literal : goal.returns-in-Literal
returns-in-Literal c t is = chain_value c.args.self t c.in-Chain.kind is c.in-Chain.is (values_of_kinds c.in-Chain.kind c.in-Literal.is)
