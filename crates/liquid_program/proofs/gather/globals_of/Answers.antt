use Rattle.std.proofs.Common.{inl, refl}
use Rattle.liquid_error.specs.meaning.Told.{told}
use Rattle.liquid_pages.specs.meaning.Globals.{json_object}
use Rattle.liquid_program.specs.meaning.Requests.{bad_json}
use Rattle.liquid_program.proofs.GivenLemmas.{json_is_bad, json_is_refused}
use Rattle.liquid_program.proofs.gather.globals_of.Goals as goal

pub returns-in-Err-BadJson-clause-reports : goal.returns-in-Err-BadJson-clause-reports
returns-in-Err-BadJson-clause-reports c =
    inl (
      bad_json c.args.path.now,
      json_is_bad c.args.path.now (json_object c.args.decimals c.args.text.now)
          (rw c.in-Err-BadJson.field-0-is at c.in-Err-BadJson.ensures),
      refl,
    )

pub returns-in-Err-NoGlobals-clause-reports : goal.returns-in-Err-NoGlobals-clause-reports
returns-in-Err-NoGlobals-clause-reports c =
    inl (json_is_refused c.args.path.now (json_object c.args.decimals c.args.text.now) (told c.in-Err-NoGlobals.error) c.is_memory.result
    (rw c.in-Err-NoGlobals.field-0-is at c.in-Err-NoGlobals.ensures) c.is_memory.ensures c.if-is_memory.false)
