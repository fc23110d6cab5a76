use Rattle.std.proofs.Common.{◌≡◌, ◌≢◌, [], arith, rules}
use Rattle.std.proofs.lemmas.Grind.{common_steps}
use Rattle.jekyll_source.specs.meaning.Names.{parts}
use Rattle.jekyll_source.proofs.NamePartLemmas.{part_end, part_shorter, part_start, part_turn}
use Rattle.jekyll_source.proofs.names.push_parts.Goals as goal

pub loop-rest-init : goal.loop-rest-init
loop-rest-init c = record {
  whole = part_start _ _ (parts c.args.name.now) c.in_ok-push_str.ensures.bytes;
  utf8 = c.utf8.name;
}

pub loop-rest-preserved : goal.loop-rest-preserved
loop-rest-preserved c =
    let more : c.loop-rest.rest.now ≢ [] = search rules in
    record {
      whole = part_turn _ _ c.loop-rest.rest.now c.in-Some.after.now _ more (rw c.in-Some.is at c.in_ok-after.ensures.value)
          c.loop-rest.invariant.whole;
      utf8 = search rules;
    }

pub loop-rest-smaller : goal.loop-rest-smaller
loop-rest-smaller c =
    let more : c.loop-rest.rest.now ≢ [] = search rules in
    part_shorter _ _ c.loop-rest.rest.now c.in-Some.after.now more (rw c.in-Some.is at c.in_ok-after.ensures.value)

pub returns : goal.returns
returns c =
    let none : c.loop-rest.rest.now ≡ [] = grind (arith, common_steps) in
    part_end _ _ c.loop-rest.rest.now _ none c.in_ok-push_str-2.ensures.bytes c.loop-rest.invariant.whole
