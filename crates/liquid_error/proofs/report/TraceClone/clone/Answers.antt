use Rattle.std.proofs.Common.{rules}
use Rattle.liquid_error.specs.meaning.Told.{entry_of}
use Rattle.liquid_error.proofs.Causes.{same_clones}
use Rattle.liquid_error.proofs.report.TraceClone.clone.Goals as goal

pub returns : goal.returns
returns c =
    let contexts = same_clones entry_of c.args.self.now.contexts.items c.in_ok-contexts.contexts.items c.in_ok-contexts.ensures.cases.0 in
    search (rules, contexts)
