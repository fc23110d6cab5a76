use Rattle.liquid_c.proofs.LeavesLemmas.{no_globals_ends, refused_ends, unparsed_ends}
use Rattle.liquid_c.proofs.rendering.outcome_of.Goals as goal

pub returns-in-Unparsed : goal.returns-in-Unparsed
returns-in-Unparsed c = unparsed_ends c.args.fault.now _ _ c.in-Unparsed.is c.outcome_of_unparsed.ensures

pub returns-in-Refused : goal.returns-in-Refused
returns-in-Refused c = refused_ends c.args.fault.now _ _ c.in-Refused.is c.outcome_of_refused.ensures

pub returns-in-NoGlobals : goal.returns-in-NoGlobals
returns-in-NoGlobals c = no_globals_ends c.args.fault.now _ _ c.in-NoGlobals.is c.outcome_of_globals.ensures
