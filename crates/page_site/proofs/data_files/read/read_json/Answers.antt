use Rattle.serde_json.specs.Errors.{IsMemory}
use Rattle.page_site.proofs.Placed.{no_json}
use Rattle.page_site.proofs.data_files.read.read_json.Goals as goal

pub returns-in-Err-clause-refused : goal.returns-in-Err-clause-refused
returns-in-Err-clause-refused c =
    no_json c.args.text.now c.fault_of_json.result (IsMemory c.in-Err.error) c.fault_of_json.ensures.placed
    c.fault_of_json.ensures.memory (λ h. (c.in-Err.ensures.no_json h).0)
