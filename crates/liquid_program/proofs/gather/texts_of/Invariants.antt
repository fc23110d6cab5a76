use Rattle.std.proofs.Common.{◌≡◌, ℕ, List, Option, map, string_bytes}
use Rattle.std.specs.FinMap.{keys}
use Rattle.std.specs.Map.{keys_of}
use Rattle.liquid_plugins.specs.meaning.Registry.{by_name}
use Rattle.liquid_files.specs.meaning.Files.{known_in}
use Rattle.liquid_program.proofs.FolderLemmas.{ReadSoFar}
use Rattle.liquid_program.proofs.StepsLemmas.{CameSoFar}
use Rattle.liquid_program.proofs.gather.texts_of.Given as goal

abbrev pub invariant-loop-name : goal.invariant-loop-name
invariant-loop-name g l = record {
  same : g.F.Folder.known l.files ≡ g.F.Folder.known l.fn.files;
  read : ReadSoFar (g.F.Folder.known l.fn.files) l.fn.folder l.fn.ending (keys (by_name l.fn.names))
      (map (λ s. string_bytes s) (keys_of l.name-iterator)) l.source;
  came : (all : List ℕ → Option (List ℕ)) → g.F.Folder.known l.fn.files ≡ known_in all
      → CameSoFar all l.fn.folder l.fn.ending (keys (by_name l.fn.names)) (map (λ s. string_bytes s) (keys_of l.name-iterator))
      (g.F.Folder.requests l.fn.files) (g.F.Folder.requests l.files);
}
