-- The next token, as what a plug-in expects.
use Rattle.std.proofs.Common.{◌≡◌, ℕ, List, [], ◌∷◌, Option, None, Some, Result, Ok, Err, refl, sym, ap, ◌∙◌, subst}
use Rattle.std.specs.Prelude.{IfSome}
use Rattle.liquid_error.specs.declared.error.Error.{Error}
use Rattle.liquid_error.specs.meaning.Refusal.{Refusal, ok_then}
use Rattle.liquid_error.specs.meaning.Told.{told, Gives}
use Rattle.liquid_parser.specs.declared.cursor.token.TagToken.{TagToken}
use Rattle.liquid_parser.specs.declared.cursor.token.TryMatchToken.{TryMatchToken}
use Rattle.liquid_parser.specs.declared.cursor.token.TryMatchToken.TheVariants.{Matches, Fails}
use Rattle.liquid_parser.specs.declared.cursor.tokens.TagTokenIter.{TagTokenIter}
use Rattle.liquid_parser.specs.meaning.Cursors.{HandsOutOr, IsToken, Tries, FailedToken, Takes, matched_of, next_as}
use Rattle.liquid_parser.specs.meaning.Handed.{Token, Tokens, expect_next, first_of, or_unexpected, unexpected}
use Rattle.liquid_parser.proofs.StepLemmas.{then_refused}

-- without a first token there is none
pub no_token : (ts : List Token) → first_of ts ≡ None → ts ≡ []
no_token [] none = refl
no_token (t ∷ more) none = cc

-- the token is what was expected of it
pub token_taken : {A M : Type 0} (of : A → M) (expect : Token → Option M) (t : Token) (token : TagToken) (attempt : TryMatchToken A) (x : A)
    → IsToken token t → Tries of token attempt (expect t)
    → ((u : Token) → FailedToken attempt u → or_unexpected u (matched_of attempt) ≡ Ok x) → or_unexpected t (expect t) ≡ Ok (of x)
token_taken of expect t token (Matches y) x is tries gives = ap (or_unexpected t) tries ∙ ap (λ q. ok_then q (λ a. Ok (of a))) (gives t tt)
token_taken of expect t token (Fails u) x is tries gives =
    let e : Err (unexpected t) ≡ Ok x = gives t (subst (λ k. IsToken k t) (sym tries.1) is) in
    cc

-- the token is refused
pub token_refused : {A M : Type 0} (of : A → M) (expect : Token → Option M) (t : Token) (token : TagToken) (attempt : TryMatchToken A)
    (o : Option Refusal) → IsToken token t → Tries of token attempt (expect t)
    → ((u : Token) → FailedToken attempt u → IfSome o (λ r. or_unexpected u (matched_of attempt) ≡ Err r))
    → IfSome o (λ r. or_unexpected t (expect t) ≡ Err r)
token_refused of expect t token (Matches y) None is tries gives = gives t tt
token_refused of expect t token (Matches y) (Some r) is tries gives =
    let e : Ok y ≡ Err r = gives t tt in
    cc
token_refused of expect t token (Fails u) None is tries gives = gives t (subst (λ k. IsToken k t) (sym tries.1) is)
token_refused of expect t token (Fails u) (Some r) is tries gives =
    ap (or_unexpected t) tries.0 ∙ ap (λ q. ok_then q (λ a. Ok (of a))) (gives t (subst (λ k. IsToken k t) (sym tries.1) is))

module _ {A M : Type 0} (of : A → M) (expect : Token → Option M) (message : List ℕ) (ts : Tokens) where
  -- the next token is taken
  pub next_taken : (token : TagToken) (cursor : TagTokenIter) (attempt : TryMatchToken A) (x : A)
      → HandsOutOr (Ok token) cursor ts (expect_next message ts)
      → ((t : Token) → IsToken token t → Tries of token attempt (expect t))
      → ((t : Token) → FailedToken attempt t → or_unexpected t (matched_of attempt) ≡ Ok x)
      → Takes of (Ok x) cursor (next_as message expect ts)
  next_taken token cursor attempt x h tries gives = (
    h.0.1,
    ap (λ q. ok_then q (λ given. ok_then (or_unexpected given.0 (expect given.0)) (λ y. Ok (y, given.1)))) h.1
        ∙ ap (λ q. ok_then q (λ y. Ok (y, h.0.1))) (token_taken of expect h.0.0 token attempt x h.2.token_is
        (tries h.0.0 h.2.token_is) gives),
    h.2.left,
  )

  -- the next token is refused
  pub next_refused : (token : TagToken) (cursor : TagTokenIter) (attempt : TryMatchToken A) (o : Option Refusal)
      → HandsOutOr (Ok token) cursor ts (expect_next message ts)
      → ((t : Token) → IsToken token t → Tries of token attempt (expect t))
      → ((t : Token) → FailedToken attempt t → IfSome o (λ r. or_unexpected t (matched_of attempt) ≡ Err r))
      → IfSome o (λ r. next_as message expect ts ≡ Err r)
  next_refused token cursor attempt o h tries gives =
      subst (λ q. IfSome o (λ r. ok_then {B = M × Tokens} q (λ given. ok_then {B = M × Tokens} (or_unexpected given.0 (expect given.0))
      (λ y. Ok (y, given.1))) ≡ Err r)) (sym h.1)
      (then_refused {B = M × Tokens} o (or_unexpected h.0.0 (expect h.0.0)) (λ y. Ok (y, h.0.1))
      (token_refused of expect h.0.0 token attempt o h.2.token_is (tries h.0.0 h.2.token_is) gives))

  -- the result of an attempt to read the next token is what was meant
  pub next_given : (token : TagToken) (cursor : TagTokenIter) (attempt : TryMatchToken A) (r : Result A Error)
      → HandsOutOr (Ok token) cursor ts (expect_next message ts)
      → ((t : Token) → IsToken token t → Tries of token attempt (expect t))
      → ((t : Token) → FailedToken attempt t → Gives (λ x. x) r (or_unexpected t (matched_of attempt)))
      → Takes of r cursor (next_as message expect ts)
  next_given token cursor attempt (Ok x) h tries gives = next_taken token cursor attempt x h tries gives
  next_given token cursor attempt (Err e) h tries gives = next_refused token cursor attempt (told e) h tries gives

  -- if no token is left, the result is the refusal
  pub none_given : (cursor : TagTokenIter) (e : Error) → HandsOutOr (Err e) cursor ts (expect_next message ts)
      → IfSome (told e) (λ r. next_as message expect ts ≡ Err r)
  none_given cursor e h =
      then_refused (told e) (expect_next message ts) (λ given. ok_then (or_unexpected given.0 (expect given.0)) (λ y. Ok (y, given.1))) h.0
