use Rattle.std.proofs.Common.{ℕ, Bool, List, Option, Some, ap}
use Rattle.liquid_files.proofs.in_memory.InMemoryFolderFolder.replace.Goals as goal

pub returns-clause-listed : goal.returns-clause-listed
returns-clause-listed c =
    ap (λ (names : Bool → List ℕ → Option (List (List ℕ))). λ is_deep path. Some (names is_deep path)) c.add.ensures.folders
