-- From how a page ended to what a call leaves with its caller.
use Rattle.std.proofs.Common.{
  ◌≡◌,
  ℕ,
  ◌≤◌,
  ◌⊎◌,
  inl,
  inr,
  List,
  [],
  ◌++◌,
  length,
  min,
  take,
  drop,
  nat_le,
  Option,
  None,
  Some,
  Result,
  Ok,
  Err,
  if◌then◌else◌,
  true≢false,
  refl,
  sym,
  subst,
  arith,
}
use Rattle.std.specs.Prelude.{MatchOption, IfSome, IsNone, option_and_then, option_map}
use Rattle.liquid_error.specs.declared.place.Place.{Place}
use Rattle.liquid_error.specs.declared.error.Error.{Error}
use Rattle.liquid_error.specs.meaning.ErrorText.{error_text}
use Rattle.liquid_error.specs.meaning.Refusal.{Refusal}
use Rattle.liquid_error.specs.meaning.Told.{told}
use Rattle.liquid_pages.specs.declared.fault.PageFault.{PageFault}
use Rattle.liquid_pages.specs.declared.fault.PageFault.TheVariants as page
use Rattle.liquid_pages.specs.meaning.Faults.{Fault, no_text, bad_json, no_globals, unparsed, refused, fault_told}
use Rattle.liquid_pages.specs.meaning.FaultText.{fault_text, page_fault_text}
use Rattle.liquid_pages.specs.meaning.Shown.{Page, Begins, Shows}
use Rattle.liquid_pages.specs.declared.fault.PageText.{PageText}
use Rattle.liquid_pages.specs.declared.fault.PageText.TheVariants.{Template, Globals, PartialName, PartialText}
use Rattle.liquid_c.specs.declared.page.Outcome.{Outcome}
use Rattle.liquid_c.specs.meaning.Outcomes.{
  IsLimited,
  IsPlaced,
  IsSaid,
  IsUnnamed,
  IsWhere,
  IsWhich,
  Leaves,
  OutOfMemory,
  Reports,
  SaysMemory,
  kind_of,
  outcome_alone,
}

-- the outcome of a fault, or of memory that ran out
abbrev pub Ends : Option Fault → Outcome → Type 0
Ends t o = MatchOption t (OutOfMemory o) (λ f. (o.kind ≡ kind_of f) × (IsWhere f o × IsLimited f o))

-- the outcome of a refusal, of which Q is said, or of memory that ran out
abbrev pub Refuses : (Refusal → Outcome → Type 0) → Option Refusal → Outcome → Type 0
Refuses Q t o = MatchOption t (OutOfMemory o) (λ r. Q r o)

-- of a template that can't be read, of one that was being rendered, and of globals
abbrev pub Unread : Refusal → Outcome → Type 0
Unread r o = (o.kind ≡ 1) × ((IsPlaced r.place o × IsUnnamed o) × (o.limit ≡ 0))

abbrev pub Rendered : Refusal → Outcome → Type 0
Rendered r o = (o.kind ≡ 2) × (IfSome r.place (λ place. IsPlaced (Some place) o) × (o.limit ≤ 2))

abbrev pub OfGlobals : Refusal → Outcome → Type 0
OfGlobals r o = (o.kind ≡ 4) × ((IsPlaced None o × IsUnnamed o) × (o.limit ≡ 0))

pub memory_refuses : (Q : Refusal → Outcome → Type 0) (t : Option Refusal) (o : Outcome) → IsNone t → OutOfMemory o → Refuses Q t o
memory_refuses Q None o none memory = memory
memory_refuses Q (Some r) o none memory = absurd (true≢false none)

pub unread_refuses : (t : Option Refusal) (o : Outcome) (place : Option Place) → ¬ (IsNone t)
    → place ≡ option_and_then (λ r. r.place) t → o.kind ≡ 1 → IsPlaced place o → IsUnnamed o → o.limit ≡ 0 → Refuses Unread t o
unread_refuses None o place some is kind placed unnamed limit = absurd (some refl)
unread_refuses (Some r) o place some is kind placed unnamed limit =
    (kind, ((subst (λ p. IsPlaced p o) is placed, unnamed), limit))

pub rendered_refuses : (t : Option Refusal) (o : Outcome) (place : Option Place) → ¬ (IsNone t)
    → place ≡ option_and_then (λ r. r.place) t → o.kind ≡ 2 → IfSome place (λ p. IsPlaced (Some p) o) → o.limit ≤ 2
    → Refuses Rendered t o
rendered_refuses None o place some is kind placed limit = absurd (some refl)
rendered_refuses (Some r) o place some is kind placed limit =
    (kind, (subst (λ p. IfSome p (λ q. IsPlaced (Some q) o)) is placed, limit))

pub globals_refuse : (t : Option Refusal) (o : Outcome) → ¬ (IsNone t) → o.kind ≡ 4 → IsPlaced None o → IsUnnamed o → o.limit ≡ 0
    → Refuses OfGlobals t o
globals_refuse None o some kind placed unnamed limit = absurd (some refl)
globals_refuse (Some r) o some kind placed unnamed limit = (kind, ((placed, unnamed), limit))

unparsed_told : (t : Option Refusal) (o : Outcome) → Refuses Unread t o → Ends (option_map unparsed t) o
unparsed_told None o refuses = refuses
unparsed_told (Some r) o refuses = refuses

refused_told : (t : Option Refusal) (o : Outcome) → Refuses Rendered t o → Ends (option_map refused t) o
refused_told None o refuses = refuses
refused_told (Some r) o refuses = refuses

no_globals_told : (t : Option Refusal) (o : Outcome) → Refuses OfGlobals t o → Ends (option_map no_globals t) o
no_globals_told None o refuses = refuses
no_globals_told (Some r) o refuses = refuses

module _ (fault : PageFault) (error : Error) (o : Outcome) where
  pub unparsed_ends : fault ≡ page.Unparsed error → Refuses Unread (told error) o → Ends (fault_told fault) o
  unparsed_ends is refuses = subst (λ f. Ends (fault_told f) o) (sym is) (unparsed_told (told error) o refuses)

  pub refused_ends : fault ≡ page.Refused error → Refuses Rendered (told error) o → Ends (fault_told fault) o
  refused_ends is refuses = subst (λ f. Ends (fault_told f) o) (sym is) (refused_told (told error) o refuses)

  pub no_globals_ends : fault ≡ page.NoGlobals error → Refuses OfGlobals (told error) o → Ends (fault_told fault) o
  no_globals_ends is refuses = subst (λ f. Ends (fault_told f) o) (sym is) (no_globals_told (told error) o refuses)

-- the length of the message, by what a fault says
abbrev pub Said : Option Fault → ℕ → Type 0
Said t n = MatchOption t (IsSaid (Some (error_text None)) n) (λ f. IsSaid (fault_text f) n)

unparsed_said : (t : Option Refusal) (n : ℕ) → IsSaid (Some (error_text t)) n → Said (option_map unparsed t) n
unparsed_said None n said = said
unparsed_said (Some r) n said = said

refused_said : (t : Option Refusal) (n : ℕ) → IsSaid (Some (error_text t)) n → Said (option_map refused t) n
refused_said None n said = said
refused_said (Some r) n said = said

no_globals_said : (t : Option Refusal) (n : ℕ) → IsSaid (Some (error_text t)) n → Said (option_map no_globals t) n
no_globals_said None n said = said
no_globals_said (Some r) n said = said

pub fault_said : (fault : PageFault) (n : ℕ) → IsSaid (page_fault_text fault) n → Said (fault_told fault) n
fault_said (page.NoText which) n said = said
fault_said (page.BadJson error) n said = said
fault_said (page.NoGlobals error) n said = no_globals_said (told error) n said
fault_said (page.Unparsed error) n said = unparsed_said (told error) n said
fault_said (page.Refused error) n said = refused_said (told error) n said

-- the same outcome with lengths
abbrev counted : Outcome → ℕ → ℕ → ℕ → Outcome
counted o needed written message_len = record o { needed = needed; written = written; message_len = message_len }

placed_counted : (place : Option Place) (o : Outcome) (n w m : ℕ) → IsPlaced place o → IsPlaced place (counted o n w m)
placed_counted None o n w m is = is
placed_counted (Some place) o n w m is = is

which_counted : (which : PageText) (o : Outcome) (n w m : ℕ) → IsWhich which o → IsWhich which (counted o n w m)
which_counted Template o n w m is = is
which_counted Globals o n w m is = is
which_counted (PartialName k) o n w m is = is
which_counted (PartialText k) o n w m is = is

found_counted : (place : Option Place) (o : Outcome) (n w m : ℕ) → IfSome place (λ p. IsPlaced (Some p) o)
    → IfSome place (λ p. IsPlaced (Some p) (counted o n w m))
found_counted None o n w m is = is
found_counted (Some place) o n w m is = is

where_counted : (f : Fault) (o : Outcome) (n w m : ℕ) → IsWhere f o → IsWhere f (counted o n w m)
where_counted (unparsed r) o n w m is = (placed_counted r.place o n w m is.0, is.1)
where_counted (refused r) o n w m is = found_counted r.place o n w m is
where_counted bad_json o n w m is = is
where_counted (no_globals r) o n w m is = is
where_counted (no_text which) o n w m is = (placed_counted None o n w m is.0, which_counted which o n w m is.1)

limited_counted : (f : Fault) (o : Outcome) (n w m : ℕ) → IsLimited f o → IsLimited f (counted o n w m)
limited_counted (unparsed r) o n w m is = is
limited_counted (refused r) o n w m is = is
limited_counted bad_json o n w m is = is
limited_counted (no_globals r) o n w m is = is
limited_counted (no_text which) o n w m is = is

ends_counted : (t : Option Fault) (o : Outcome) (n w m : ℕ) → Ends t o → Ends t (counted o n w m)
ends_counted None o n w m is = is
ends_counted (Some f) o n w m is = (is.0, (where_counted f o n w m is.1.0, limited_counted f o n w m is.1.1))

-- memory ran out before anything was rendered
pub nothing_left : (page : Page) (old new : List ℕ) (o : Outcome) → o ≡ outcome_alone 6 → new ≡ old → Leaves page old new o
nothing_left page old new o is same =
    let none : 0 ≡ min 0 (length old) = omega arith in
    let bytes : new ≡ take 0 [] ++ drop 0 old = same in
    let left : Leaves page old new (outcome_alone 6) = record {
      rendered = [];
      needed = refl;
      written = none;
      bytes = bytes;
      ends = inl (((refl, ((refl, refl), ((refl, refl), refl))), inl refl), (page.output, refl));
    } in
    subst (Leaves page old new) (sym is) left

module _ (page : Page) (bytes old new : List ℕ) (o : Outcome) where
  fault_ends : (t : Option Fault) → MatchOption t (Begins bytes page) (λ f. (bytes ≡ page.output) × (page.fault ≡ Some f)) → Ends t o
      → Said t o.message_len → (SaysMemory o × Begins bytes page) ⊎ ((bytes ≡ page.output) × Reports page.fault (length old) o)
  fault_ends None begins ends said = inl ((ends, said), begins)
  fault_ends (Some f) shows ends said =
      inr (shows.0, subst (λ t. Reports t (length old) o) (sym shows.1) (ends.0, (ends.1.0, (ends.1.1, said))))

-- the bytes that were rendered of a page
module _ (page : Page) (bytes taken old new : List ℕ) (end : Result (Unit {0}) PageFault) (same : bytes ≡ taken)
    (shows : Shows page taken end) where
  all_shown : (done : Unit {0}) → end ≡ Ok done → (bytes ≡ page.output) × (page.fault ≡ None)
  all_shown done is = subst (λ b. Shows page b (Ok done)) (sym same) (subst (Shows page taken) is shows)

  fault_shown : (fault : PageFault) → end ≡ Err fault → Shows page bytes (Err fault)
  fault_shown fault is = subst (λ b. Shows page b (Err fault)) (sym same) (subst (Shows page taken) is shows)

  -- all of them
  pub whole_left : (o : Outcome) (done : Unit {0}) → end ≡ Ok done → o.needed ≡ length bytes → o.written ≡ min (length bytes) (length old)
      → new ≡ take o.written bytes ++ drop o.written old
      → o.kind ≡ (if nat_le o.needed (length old) then 0 else 7) → IsPlaced None o → IsUnnamed o → o.limit ≡ 0 → o.message_len ≡ 0
      → Leaves page old new o
  whole_left o done is needed written copied kind place unnamed limit none =
      let shown = all_shown done is in
      record {
        rendered = bytes;
        needed = needed;
        written = written;
        bytes = copied;
        ends = inr (shown.0, subst (λ t. Reports t (length old) o) (sym shown.1) (kind, (place, (unnamed, (limit, none)))));
      }

  -- those before a fault
  pub fault_left : (o : Outcome) (n w m : ℕ) (fault : PageFault) → end ≡ Err fault → Ends (fault_told fault) o
      → IsSaid (page_fault_text fault) m → n ≡ length bytes → w ≡ min (length bytes) (length old) → new ≡ take w bytes ++ drop w old
      → Leaves page old new (counted o n w m)
  fault_left o n w m fault is ends said needed written copied =
      record {
        rendered = bytes;
        needed = needed;
        written = written;
        bytes = copied;
        ends = fault_ends page bytes old new (counted o n w m) (fault_told fault) (fault_shown fault is)
            (ends_counted (fault_told fault) o n w m ends) (fault_said fault m said);
      }
