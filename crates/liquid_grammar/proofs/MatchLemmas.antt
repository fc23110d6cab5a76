-- What a call found by an exact reader is the match of the rule.
use Rattle.std.proofs.Common.{◌≡◌, ℕ, List, Option, Some, None, option_map, Bor, sym, subst}
use Rattle.liquid_grammar.specs.declared.fault.Fault.{Fault as CodeFault}
use Rattle.liquid_grammar.specs.meaning.Rules.{Rule}
use Rattle.liquid_grammar.specs.meaning.Faults.{Fault}
use Rattle.liquid_grammar.specs.meaning.Meanings.{faults_of, scanned_of, scan}
use Rattle.liquid_grammar.specs.meaning.Matches.{Finds, Matches, Single}
use Rattle.liquid_grammar.specs.steps.Steps.{Reader}
use Rattle.liquid_grammar.proofs.Exact.{Exact, same_match, none_begins}
use Rattle.liquid_grammar.proofs.ValueScan.{scan_some, scan_none}

pub matches_from_scan : {A : Type 0} {f : Reader A} {R : Rule A} → Exact f R → (fault : A → Option Fault) (s : List ℕ)
    (r : Option (Option CodeFault × Bor (List ℕ))) → option_map scanned_of r ≡ scan fault (f s) → Matches R fault s r
matches_from_scan {f = f} {R = R} F fault s None e = none_begins F s (scan_none fault (f s) e)
matches_from_scan {A} {f = f} {R = R} F fault s (Some p) e =
    let x = scan_some fault (f s) (faults_of p.0) p.1.now e in
    let m : R s p.1.now x.0.0 = subst (λ (t : List ℕ). R s t x.0.0) x.3 (F.sound s x.0.1 x.0.0 x.1) in
    record { shape = x.0.0; match = m; is = sym x.2 }

pub finds_from_found : {A C : Type 0} {f : Reader A} {R : Rule A} → Exact f R → (of : C → A) (s : List ℕ) (r : Option (C × Bor (List ℕ)))
    → option_map (λ p. (of p.0, p.1.now)) r ≡ f s → Finds R of s r
finds_from_found F of s None e = none_begins F s (sym e)
finds_from_found F of s (Some p) e = F.sound s p.1.now (of p.0) (sym e)

pub single : {A : Type 0} {f : Reader A} {R : Rule A} → Exact f R → Single R
single F s r₁ r₂ a₁ a₂ m₁ m₂ = same_match F s r₁ r₂ a₁ a₂ m₁ m₂
