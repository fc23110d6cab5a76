use Rattle.std.proofs.Common.{◌≡◌, ℕ, List, Option, map, string_bytes}
use Rattle.std.specs.Option.{option_or}
use Rattle.liquid_files.specs.meaning.Files.{known_in, reading}
use Rattle.page_site.specs.meaning.Faults.{partial_text}
use Rattle.page_site.specs.meaning.Items.{file_in}
use Rattle.page_site.specs.meaning.Partials.{partial_in}
use Rattle.page_site.proofs.RequestLemmas.{Reaching}
use Rattle.page_site.proofs.partials.read_each.Given as goal

abbrev pub invariant-loop-name : goal.invariant-loop-name
invariant-loop-name g l = record {
  same : g.F.Folder.known l.files ≡ g.F.Folder.known l.fn.files;
  listed : g.F.Folder.listed l.files ≡ g.F.Folder.listed l.fn.files;
  partials : (all : List ℕ → Option (List ℕ)) → g.F.Folder.known l.fn.files ≡ known_in all → (name : List ℕ)
      → option_or (partial_in l.fn.called all l.fn.folder (map string_bytes l.name-iterator.rest.items) name) (partial_text l.partials name)
      ≡ partial_in l.fn.called all l.fn.folder (map string_bytes l.fn.names.items) name;
  requests : Reaching (map (λ name. reading (file_in l.fn.folder name)) (map string_bytes l.fn.names.items))
      (map (λ name. reading (file_in l.fn.folder name)) (map string_bytes l.name-iterator.rest.items))
      (g.F.Folder.requests l.fn.files) (g.F.Folder.requests l.files);
}
