-- Rules, by what calls found of them.
use Rattle.std.proofs.Common.{◌≡◌, ℕ, true, List, length, Option, Some, None, is_some, option_map, Bor, refl, sym, ap, ◌∙◌, subst}
use Rattle.std.specs.Option.{option_or}
use Rattle.liquid_grammar.specs.meaning.Rules.{Rule, Begins, Byte, ◌▷◌}
use Rattle.liquid_grammar.specs.meaning.Grammar.{White}
use Rattle.liquid_grammar.specs.meaning.Tokens.{Following}
use Rattle.liquid_grammar.specs.meaning.Values.{Value, ValueRule, VariableRule}
use Rattle.liquid_grammar.specs.steps.Steps.{Reader, right, braces, byte, white}
use Rattle.liquid_grammar.specs.steps.TokenSteps.{value, variable_over, optional, separated}
use Rattle.liquid_grammar.proofs.Exact.{Exact, same_match, none_begins, begins_found, found_begins, exact-byte, exact-right}
use Rattle.liquid_grammar.proofs.ExactRepeated.{exact-optional}
use Rattle.liquid_grammar.proofs.GrammarExact.{exact-braces, exact-white}
use Rattle.liquid_grammar.proofs.FlatBrackets.{left_none, left_some}
use Rattle.liquid_grammar.proofs.TokenExact.{exact-value, exact-variable}
use Rattle.liquid_grammar.proofs.ValueLaw.{value_reads}
use Rattle.liquid_explain.specs.meaning.Elements.{Opened}
use Rattle.liquid_explain.specs.declared.part.Part.{Part}
use Rattle.liquid_explain.specs.declared.stop.Stop.{Stop}
use Rattle.liquid_explain.specs.meaning.Parts.{only}
use Rattle.liquid_explain.specs.meaning.Misses.{Misses, After, Either}
use Rattle.liquid_explain.specs.meaning.Filters.{Separated}
use Rattle.liquid_explain.specs.meaning.Farthest.{Ends, IsFarthest}
use Rattle.liquid_explain.specs.steps.Farther.{stop_at, farther}
use Rattle.liquid_explain.proofs.FarthestLemmas.{wants_far, not_wanted, after_far, no_after, either_far, first_far, second_far}
use Rattle.liquid_explain.specs.steps.Opened.{opened}

pub begins_at : {A : Type 0} {R : Rule A} {s : List ℕ} (rest : List ℕ) (shape : A) → R s rest shape → Begins R s
begins_at rest shape match = record { rest = rest; shape = shape; match = match }

pub begins : {A : Type 0} {R : Rule A} {s rest : List ℕ} → Ends R s rest → Begins R s
begins {rest = rest} m = record { rest = rest; shape = m.shape; match = m.match }

-- what a call left of the text is the end of a match
pub left_ends : {A : Type 0} {f : Reader A} {R : Rule A} → Exact f R → (s rest : List ℕ) → Some rest ≡ option_map (λ p. p.1) (f s)
    → Ends R s rest
left_ends {f = f} {R = R} exact s rest e =
    let x = left_some (f s) rest e in
    record { shape = x.0.0; match = subst (λ (t : List ℕ). R s t x.0.0) x.2 (exact.sound s x.0.1 x.0.0 x.1) }

pub left_nothing : {A : Type 0} {f : Reader A} {R : Rule A} → Exact f R → (s : List ℕ) → None ≡ option_map (λ p. p.1) (f s)
    → ¬ (Begins R s)
left_nothing {f = f} exact s e = none_begins exact s (left_none (f s) e)

some_or : {A : Type 0} (a b : Option A) → is_some b ≡ true → is_some (option_or a b) ≡ true
some_or (Some x) b e = refl
some_or None b e = e

-- where a variable begins, a value does
pub variable_is_value : (s : List ℕ) → Begins VariableRule s → Begins ValueRule s
variable_is_value s variable =
    begins_found exact-value s (ap is_some (value_reads s) ∙ some_or _ _ (found_begins (exact-variable exact-value) s variable))

pub exact-opened : (kind : ℕ) → Exact (opened kind) (Opened kind)
unfolding opened
exact-opened kind = exact-right (exact-right (exact-braces kind) (exact-optional (exact-byte 45))) exact-white

-- the farthest stop after what a call left of the text
pub left_far : {A : Type 0} {f : Reader A} {R : Rule A} {M : Misses} → Exact f R → (s rest : List ℕ) (stop : Option Stop)
    → Some rest ≡ option_map (λ p. p.1) (f s) → IsFarthest M rest stop → IsFarthest (After R M) s stop
left_far exact s rest stop e far = let m = left_ends exact s rest e in after_far exact s rest m.shape stop m.match far

pub none_left_far : {A : Type 0} {f : Reader A} {R : Rule A} {M : Misses} → Exact f R → (s : List ℕ)
    → None ≡ option_map (λ p. p.1) (f s) → IsFarthest (After R M) s None
none_left_far exact s e = no_after s (left_nothing exact s e)

-- a separator between whitespace is missing
pub no_separator : {M : Misses} (separator : ℕ) (s place : List ℕ) (part : Part) (r : Option Stop)
    → Some place ≡ option_map (λ p. p.1) (white s) → None ≡ option_map (λ p. p.1) (byte separator place)
    → r ≡ Some (stop_at (length place) (only part)) → IsFarthest (Separated separator part M) s r
no_separator separator s place part r w e is =
    let none = left_nothing (exact-byte separator) place e in
    left_far exact-white s place r w (first_far place r (wants_far place part r is none) (no_after place none))

-- something is missing after a separator between whitespace
pub after_separator : {M : Misses} (separator : ℕ) (s place after start : List ℕ) (part : Part) (r : Option Stop)
    → Some place ≡ option_map (λ p. p.1) (white s) → Some after ≡ option_map (λ p. p.1) (byte separator place)
    → Some start ≡ option_map (λ p. p.1) (white after) → IsFarthest M start r → IsFarthest (Separated separator part M) s r
after_separator separator s place after start part r w e v far =
    left_far exact-white s place r w (second_far place r
    (not_wanted place part (begins (left_ends (exact-byte separator) place after e)))
    (left_far (exact-byte separator) place after r e (left_far exact-white after start r v far)))

-- a value, and what is missing after it
pub value_then : {A : Type 0} {f : Reader A} {R : Rule A} {M N : Misses} → Exact f R → (s rest : List ℕ) (shape : A) (a b r : Option Stop)
    → r ≡ farther a b → IsFarthest M s a → R s rest shape → IsFarthest N rest b → IsFarthest (Either M (After R N)) s r
value_then exact s rest shape a b r e far match next = either_far s a b r e far (after_far exact s rest shape b match next)

pub no_value_then : {A : Type 0} {R : Rule A} {M N : Misses} (s : List ℕ) (a : Option Stop) → IsFarthest M s a → ¬ (Begins R s)
    → IsFarthest (Either M (After R N)) s a
no_value_then s a far none = first_far s a far (no_after s none)

pub exact-separated : (separator : ℕ) → Exact (separated separator) (White ▷ Byte separator ▷ White)
exact-separated separator = exact-right (exact-right exact-white (exact-byte separator)) exact-white

-- nothing follows where no separator begins
pub no_following : {A : Type 0} {R : Rule A} (separator : ℕ) (s : List ℕ) → None ≡ option_map (λ p. p.1) (separated separator s)
    → ¬ (Begins (Following separator R) s)
no_following separator s e b =
    left_nothing (exact-separated separator) s e (begins_at _ _ b.match.match.before)

pub no_following_after : {A : Type 0} {R : Rule A} (separator : ℕ) (s start : List ℕ)
    → Some start ≡ option_map (λ p. p.1) (separated separator s) → ¬ (Begins R start) → ¬ (Begins (Following separator R) s)
no_following_after {R = R} separator s start e none b =
    let m = left_ends (exact-separated separator) s start e in
    let same = same_match (exact-separated separator) s _ _ _ _ b.match.match.before m.match in
    none (subst (λ (t : List ℕ). Begins R t) (ap (λ x. x.1) same) (begins_at _ _ b.match.match.after))

pub following_ends : {A : Type 0} {R : Rule A} (separator : ℕ) (s start rest : List ℕ) (shape : A)
    → Some start ≡ option_map (λ p. p.1) (separated separator s) → R start rest shape → Ends (Following separator R) s rest
following_ends separator s start rest shape e match =
    let m = left_ends (exact-separated separator) s start e in
    record {
      shape = shape;
      match = record {
        from = (m.shape, shape);
        match = record { middle = start; before = m.match; after = match };
        is = refl;
      };
    }

-- the same for a token after whitespace
pub no_spaced : {A : Type 0} {R : Rule A} (s place : List ℕ) → Some place ≡ option_map (λ p. p.1) (white s) → ¬ (Begins R place)
    → ¬ (Begins (White ▷ R) s)
no_spaced {R = R} s place e none b =
    let m = left_ends exact-white s place e in
    let same = same_match exact-white s _ _ _ _ b.match.match.before m.match in
    none (subst (λ (t : List ℕ). Begins R t) (ap (λ x. x.1) same) (begins_at _ _ b.match.match.after))

pub spaced_ends : {A : Type 0} {R : Rule A} (s place rest : List ℕ) (shape : A) → Some place ≡ option_map (λ p. p.1) (white s)
    → R place rest shape → Ends (White ▷ R) s rest
spaced_ends s place rest shape e match =
    let m = left_ends exact-white s place e in
    record {
      shape = shape;
      match = record {
        from = (m.shape, shape);
        match = record { middle = place; before = m.match; after = match };
        is = refl;
      };
    }
