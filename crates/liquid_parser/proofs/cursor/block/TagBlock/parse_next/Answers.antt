use Rattle.std.proofs.Common.{ap}
use Rattle.std.proofs.lemmas.Result.{err_from_is_err_and}
use Rattle.liquid_plugins.specs.meaning.NodesOf.{node_of}
use Rattle.liquid_parser.specs.meaning.Plugins.{language_of}
use Rattle.liquid_parser.proofs.ParsedLemmas.{next_node, next_refused, passes_on}
use Rattle.liquid_parser.proofs.cursor.block.TagBlock.parse_next.Goals as goal

pub returns-in_ok-parse-in-Some-clause-open : goal.returns-in_ok-parse-in-Some-clause-open
returns-in_ok-parse-in-Some-clause-open g c is_open es cover =
    let out = rw c.in-Some.is at c.in_ok-element.ensures.open is_open es cover in
    next_node (language_of g.F.ParseFilter.makes g.T.ParseTag.gives g.B.ParseBlock.block c.args.language.now) c.args.self.now.source.now
    c.args.self.now.end_name.now 1 (node_of g.F.Filter.Meant.shape g.T.Node.Meant.shape g.B.Node.Meant.shape)
    c.in_ok-parse-in-Some.field-0 c.in-Some.element c.next.new.self c.parse.new.block es
    (ap (λ s. s.now) c.next.ensures.passes.source_is) c.parse.ensures.closed out.0 out.1
    (λ e stands. c.in_ok-parse-in-Some.ensures.value _ _ e stands _ out.1)

pub returns-in_ok-parse-in-Some-clause-passes : goal.returns-in_ok-parse-in-Some-clause-passes
returns-in_ok-parse-in-Some-clause-passes g c =
    passes_on c.args.self.now c.next.new.self c.parse.new.block c.next.ensures.passes c.parse.ensures.passes

pub returns-in_err-parse-in-Some-clause-open : goal.returns-in_err-parse-in-Some-clause-open
returns-in_err-parse-in-Some-clause-open g c is_open es cover =
    let out = rw c.in-Some.is at c.in_ok-element.ensures.open is_open es cover in
    let p = err_from_is_err_and c.from_residual-in_err-parse-in-Some.result c.from_residual-in_err-parse-in-Some.ensures.1 in
    rw (p.1, p.2) (next_refused (language_of g.F.ParseFilter.makes g.T.ParseTag.gives g.B.ParseBlock.block c.args.language.now)
    c.args.self.now.source.now c.args.self.now.end_name.now 1 (node_of g.F.Filter.Meant.shape g.T.Node.Meant.shape g.B.Node.Meant.shape)
    c.in_err-parse-in-Some.field-0.0 c.in-Some.element c.next.new.self c.parse.new.block es
    (ap (λ s. s.now) c.next.ensures.passes.source_is) out.0 out.1
    (λ e stands. c.in_err-parse-in-Some.ensures.value _ _ e stands _ out.1))

pub returns-in_err-parse-in-Some-clause-passes : goal.returns-in_err-parse-in-Some-clause-passes
returns-in_err-parse-in-Some-clause-passes g c =
    passes_on c.args.self.now c.next.new.self c.parse.new.block c.next.ensures.passes c.parse.ensures.passes
