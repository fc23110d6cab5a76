use Rattle.std.proofs.Common.{ℕ, List, [], map, option_map, string_bytes}
use Rattle.liquid_value.specs.meaning.View.{object_view}
use Rattle.page_site.specs.meaning.Answers.{StaysWithin}
use Rattle.page_site.specs.meaning.Faults.{partial_text}
use Rattle.page_site.specs.meaning.Layouts.{Broken, Trouble, Wrapped}
use Rattle.page_site.proofs.layouts.wrap.Given as goal

-- what the rest comes to, the whole comes to
abbrev pub invariant-loop : goal.invariant-loop
invariant-loop g l =
    let before = g.E.Engine.answers l.fn.engine in
    let partials = partial_text l.fn.partials in
    let names = object_view l.fn.names in
    record {
      same : StaysWithin before (g.E.Engine.answers l.engine);
      page : (page : List ℕ)
          → Wrapped before partials names (map string_bytes l.seen.items) (option_map string_bytes l.next) (string_bytes l.content) page
          → Wrapped before partials names [] (option_map string_bytes l.fn.layout) (string_bytes l.fn.content) page;
      trouble : (trouble : Trouble)
          → Broken before partials names (map string_bytes l.seen.items) (option_map string_bytes l.next) (string_bytes l.content) trouble
          → Broken before partials names [] (option_map string_bytes l.fn.layout) (string_bytes l.fn.content) trouble;
    }
