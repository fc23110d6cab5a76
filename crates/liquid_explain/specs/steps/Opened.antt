-- The reader of the braces at the beginning of an element.
use Rattle.std.specs.Prelude.{ℕ, List}
use Rattle.liquid_grammar.specs.meaning.Bytes.{dash}
use Rattle.liquid_grammar.specs.steps.Steps.{Reader, right, braces, byte, white}
use Rattle.liquid_grammar.specs.steps.TokenSteps.{optional}

unfoldable pub opened : ℕ → Reader (List ℕ)
opened kind = right (right (braces kind) (optional (byte dash))) white
