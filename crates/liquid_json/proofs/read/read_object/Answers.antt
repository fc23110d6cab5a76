use Rattle.std.proofs.Common.{◌≡◌, [], ◌∷◌, Some, option_map, option_and_then, ap, ◌∙◌, arith}
use Rattle.json.specs.Json as json
use Rattle.json.specs.Json.{if_last, value}
use Rattle.json.specs.Lex.{tokens}
use Rattle.json.specs.Token.{Token}
use Rattle.serde_json.specs.Data as read
use Rattle.serde_json.specs.Read.{of_json}
use Rattle.json.proofs.Grammar.{value-begin_object}
use Rattle.liquid_json.specs.meaning.Given.{object_given}
use Rattle.liquid_json.proofs.read.read_object.Goals as goal

pub returns-in-None : goal.returns-in-None
returns-in-None c =
    let left = c.next.new.self in
    let begun : tokens c.args.text.now ≡ Token.begin_object ∷ left = grind arith in
    let found = c.in_ok-object.ensures.read in
    let none : c.read_members.new.reader ≡ [] = grind arith in
    let all : value 127 (tokens c.args.text.now) ≡ Some (json.object found.0, []) =
    ap (value 127) begun ∙ value-begin_object 127 left (omega arith)
    ∙ ap (json.parse_map json.object) (found.1 ∙ ap (λ ts. Some (found.0, ts)) none) in
    ap (λ o. option_map object_given (option_and_then of_json (option_and_then (λ p. if_last p.0 p.1) o))) all
    ∙ ap (λ o. option_map object_given (option_map read.object o)) found.2.1 ∙ ap Some found.2.2
