use Rattle.std.proofs.Common.{◌≡◌, false, true, ap, refl}
use Rattle.std.proofs.lemmas.Result.{err_from_is_err_and}
use Rattle.liquid_error.specs.meaning.Told.{told}
use Rattle.liquid_plugins.specs.meaning.NodesOf.{node_of, shapes_of}
use Rattle.liquid_parser.specs.meaning.Plugins.{language_of}
use Rattle.liquid_parser.proofs.AllLemmas.{goes_node, goes_end, goes_refused, found_err, found_all, only_err, only_ok, still_closed}
use Rattle.liquid_parser.proofs.ParsedLemmas.{passes_on}
use Rattle.liquid_parser.proofs.StepLemmas.{last_node}
use Rattle.liquid_parser.proofs.cursor.block.TagBlock.parse_all.Goals as goal

pub nodes-preserved-in-Continue-branch-3 : goal.nodes-preserved-in-Continue-branch-3
nodes-preserved-in-Continue-branch-3 g c =
    let is_open : c.nodes.self.is_closed ≡ false = c.nodes-test.true in (
      passes_on c.args.self.now c.nodes.self c.parse_next.new.self c.nodes.invariant.0 c.parse_next.ensures.passes,
      λ was_open. goes_node (language_of g.F.ParseFilter.makes g.T.ParseTag.gives g.B.ParseBlock.block c.args.language.now) 1
          (node_of g.F.Filter.Meant.shape g.T.Node.Meant.shape g.B.Node.Meant.shape) c.args.self.now c.nodes.self c.nodes.invariant.0
          c.parse_next.new.self c.in-Some.node _ _ is_open (c.nodes.invariant.1 was_open)
          (last_node (node_of g.F.Filter.Meant.shape g.T.Node.Meant.shape g.B.Node.Meant.shape) c.nodes.nodes.items c.in-Some.node _
          c.in_ok-push-in-Some.ensures.items refl) (λ es cover. rw c.in-Some.is at c.in_ok-node.ensures.open is_open es cover),
      λ shut. still_closed c.args.self.now c.nodes.self is_open (c.nodes.invariant.2 shut).1 shut,
    )

pub nodes-preserved : goal.nodes-preserved
nodes-preserved g c =
    let is_open : c.nodes.self.is_closed ≡ false = c.nodes-test.true in (
      passes_on c.args.self.now c.nodes.self c.parse_next.new.self c.nodes.invariant.0 c.parse_next.ensures.passes,
      λ was_open. goes_end (language_of g.F.ParseFilter.makes g.T.ParseTag.gives g.B.ParseBlock.block c.args.language.now) 1
          (node_of g.F.Filter.Meant.shape g.T.Node.Meant.shape g.B.Node.Meant.shape) c.args.self.now c.nodes.self c.nodes.invariant.0
          c.parse_next.new.self _ is_open (c.nodes.invariant.1 was_open)
          (λ es cover. rw c.in-None.is at c.in_ok-node.ensures.open is_open es cover),
      λ shut. still_closed c.args.self.now c.nodes.self is_open (c.nodes.invariant.2 shut).1 shut,
    )

pub returns-in_err-push-in-Some-clause-passes : goal.returns-in_err-push-in-Some-clause-passes
returns-in_err-push-in-Some-clause-passes g c =
    passes_on c.args.self.now c.nodes.self c.parse_next.new.self c.nodes.invariant.0 c.parse_next.ensures.passes

pub returns-in_err-node-clause-passes : goal.returns-in_err-node-clause-passes
returns-in_err-node-clause-passes g c =
    passes_on c.args.self.now c.nodes.self c.parse_next.new.self c.nodes.invariant.0 c.parse_next.ensures.passes

pub returns-in_err-node-clause-found : goal.returns-in_err-node-clause-found
returns-in_err-node-clause-found g c was_open es cover =
    let is_open : c.nodes.self.is_closed ≡ false = c.nodes-test.true in
    let passes = passes_on c.args.self.now c.nodes.self c.parse_next.new.self c.nodes.invariant.0 c.parse_next.ensures.passes in
    let p = err_from_is_err_and c.from_residual.result c.from_residual.ensures.1 in
    rw (p.1, p.2) (found_err (language_of g.F.ParseFilter.makes g.T.ParseTag.gives g.B.ParseBlock.block c.args.language.now) 1
    (node_of g.F.Filter.Meant.shape g.T.Node.Meant.shape g.B.Node.Meant.shape) c.args.self.now c.parse_next.new.self passes
    (told c.in_err-node.field-0.0) es
    (goes_refused (language_of g.F.ParseFilter.makes g.T.ParseTag.gives g.B.ParseBlock.block c.args.language.now) 1
    (node_of g.F.Filter.Meant.shape g.T.Node.Meant.shape g.B.Node.Meant.shape) c.args.self.now c.nodes.self c.nodes.invariant.0
    (told c.in_err-node.field-0.0) _ is_open (c.nodes.invariant.1 was_open)
    (λ es cover. c.in_err-node.ensures.open is_open es cover) es cover))

pub returns-in_err-node-clause-only : goal.returns-in_err-node-clause-only
returns-in_err-node-clause-only g c was_open es a cover all =
    let is_open : c.nodes.self.is_closed ≡ false = c.nodes-test.true in
    let p = err_from_is_err_and c.from_residual.result c.from_residual.ensures.1 in
    rw (p.1, p.2) (only_err (language_of g.F.ParseFilter.makes g.T.ParseTag.gives g.B.ParseBlock.block c.args.language.now) 1
    (told c.in_err-node.field-0.0) es c.args.self.now.source.now c.args.self.now.end_name.now a
    (goes_refused (language_of g.F.ParseFilter.makes g.T.ParseTag.gives g.B.ParseBlock.block c.args.language.now) 1
    (node_of g.F.Filter.Meant.shape g.T.Node.Meant.shape g.B.Node.Meant.shape) c.args.self.now c.nodes.self c.nodes.invariant.0
    (told c.in_err-node.field-0.0) _ is_open (c.nodes.invariant.1 was_open)
    (λ es cover. c.in_err-node.ensures.open is_open es cover) es cover) all)

pub returns-clause-found : goal.returns-clause-found
returns-clause-found g c was_open es cover =
    let shut : c.nodes.self.is_closed ≡ true = c.nodes-test.false in
    found_all (language_of g.F.ParseFilter.makes g.T.ParseTag.gives g.B.ParseBlock.block c.args.language.now) 1
    (node_of g.F.Filter.Meant.shape g.T.Node.Meant.shape g.B.Node.Meant.shape) c.args.self.now c.nodes.self c.nodes.invariant.0
    (λ v. shapes_of g.F.Filter.Meant.shape g.T.Node.Meant.shape g.B.Node.Meant.shape v.items) c.nodes.nodes shut
    (c.nodes.invariant.1 was_open) es cover

pub returns-clause-only : goal.returns-clause-only
returns-clause-only g c was_open es a cover all =
    let shut : c.nodes.self.is_closed ≡ true = c.nodes-test.false in
    let passes = c.nodes.invariant.0 in
    only_ok (λ v. shapes_of g.F.Filter.Meant.shape g.T.Node.Meant.shape g.B.Node.Meant.shape v.items)
    (language_of g.F.ParseFilter.makes g.T.ParseTag.gives g.B.ParseBlock.block c.args.language.now) 1 c.nodes.nodes c.nodes.self es
    c.args.self.now.source.now c.args.self.now.end_name.now (ap (λ b. b.now) passes.source_is) (ap (λ b. b.now) passes.end_is)
    (found_all (language_of g.F.ParseFilter.makes g.T.ParseTag.gives g.B.ParseBlock.block c.args.language.now) 1
    (node_of g.F.Filter.Meant.shape g.T.Node.Meant.shape g.B.Node.Meant.shape) c.args.self.now c.nodes.self passes
    (λ v. shapes_of g.F.Filter.Meant.shape g.T.Node.Meant.shape g.B.Node.Meant.shape v.items) c.nodes.nodes shut
    (c.nodes.invariant.1 was_open) es cover) a all
