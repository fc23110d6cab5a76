use Rattle.liquid_parser.proofs.HandedLemmas.{cursor_tokens, one_handed}
use Rattle.liquid_parser.proofs.cursor.tokens.TagTokenIter.next.Goals as goal

pub returns-in-Some-clause-value : goal.returns-in-Some-clause-value
returns-in-Some-clause-value c ts are =
    one_handed c.args.self.now ts c.in-Some.text c.in-Some.ensures.cut are
    (c.in-Some.ensures.only are.tag.1.following are.tag.1.what (cursor_tokens c.args.self.now ts are))
