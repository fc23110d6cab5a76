-- The requests of files and folders, one after another, up to the first trouble.
use Rattle.std.proofs.Common.{
  ◌≡◌,
  ◌∙◌,
  ℕ,
  List,
  [],
  ◌∷◌,
  ◌++◌,
  Option,
  None,
  Some,
  Result,
  Ok,
  Err,
  map,
  refl,
  sym,
  ap,
  subst,
  inl,
  inr,
  append_assoc,
  append-nil,
  true≢false,
}
use Rattle.std.specs.Prelude.{is_some}
use Rattle.std.specs.Option.{option_map_or}
use Rattle.liquid_program.specs.declared.fault.Fault.{Fault}
use Rattle.liquid_files.specs.meaning.Files.{Request, Requests, also, reading}
use Rattle.liquid_program.specs.meaning.Command.{Asked, command_of}
use Rattle.liquid_program.specs.meaning.PagesCommand.{AskedPages, pages_of}
use Rattle.liquid_program.specs.meaning.Requests.{
  Begins,
  Follows,
  FollowsTo,
  FollowsWords,
  IsMemory,
  Step,
  Trouble,
  WhereKnown,
  command_steps,
  first_trouble,
  pages_steps,
  template_step,
  trouble_in,
  up_to_trouble,
}
use Rattle.liquid_program.proofs.GatheredLemmas.{Files, Folders}
use Rattle.liquid_program.specs.meaning.Status.{exit_status}
use Rattle.liquid_program.specs.steps.Steps.{Collects, CollectsAll, CollectsSome, ReportsSome, Requested}

pub also_nothing : (before : Requests) → also before [] ≡ before
also_nothing None = refl
also_nothing (Some made) = ap Some (append-nil made)

pub also_also : (before : Requests) (first more : List Request) → also (also before first) more ≡ also before (first ++ more)
also_also None first more = refl
also_also (Some made) first more = ap Some (append_assoc made first more)

-- the first trouble of steps, and of more steps after them
first_cases : (trouble first both last : Option Trouble) → both ≡ option_map_or Some first last
    → option_map_or Some trouble both ≡ option_map_or Some (option_map_or Some trouble first) last
first_cases None first both last same = same
first_cases (Some t) first both last same = refl

pub first_more : (steps more : List Step) → first_trouble (steps ++ more) ≡ option_map_or Some (first_trouble steps) (first_trouble more)
first_more [] more = refl
first_more (step ∷ steps) more =
    first_cases step.trouble (first_trouble steps) (first_trouble (steps ++ more)) (first_trouble more) (first_more steps more)

-- steps without trouble, and then more
clear_step : (request : Request) (trouble : Option Trouble) (rest both last : List Request) (first : Option Trouble)
    → (first ≡ None → both ≡ rest ++ last) → option_map_or Some trouble first ≡ None
    → request ∷ option_map_or (λ t. []) trouble both ≡ (request ∷ option_map_or (λ t. []) trouble rest) ++ last
clear_step request None rest both last first next none = ap (λ rs. request ∷ rs) (next none)
clear_step request (Some t) rest both last first next none = absurd (true≢false (ap is_some none))

pub clear_more : (steps more : List Step) → first_trouble steps ≡ None → up_to_trouble (steps ++ more) ≡ up_to_trouble steps
    ++ up_to_trouble more
clear_more [] more none = refl
clear_more (step ∷ steps) more none =
    clear_step step.request step.trouble (up_to_trouble steps) (up_to_trouble (steps ++ more)) (up_to_trouble more) (first_trouble steps)
    (clear_more steps more) none

-- steps with trouble end the requests
ended_step : (request : Request) (trouble : Option Trouble) (rest both : List Request) (first : Option Trouble) (t : Trouble)
    → (first ≡ Some t → both ≡ rest) → option_map_or Some trouble first ≡ Some t
    → request ∷ option_map_or (λ t. []) trouble both ≡ request ∷ option_map_or (λ t. []) trouble rest
ended_step request None rest both first t next is = ap (λ rs. request ∷ rs) (next is)
ended_step request (Some u) rest both first t next is = refl

pub ended_more : (steps more : List Step) (t : Trouble) → first_trouble steps ≡ Some t → up_to_trouble (steps ++ more) ≡ up_to_trouble steps
ended_more [] more t is = absurd (true≢false (sym (ap is_some is)))
ended_more (step ∷ steps) more t is =
    ended_step step.request step.trouble (up_to_trouble steps) (up_to_trouble (steps ++ more)) (first_trouble steps) t
    (ended_more steps more t) is

-- more steps have no fewer requests
abbrev Grown : List Request → List Request → Type 0
Grown rest both = (left : List Request) × (both ≡ rest ++ left)

grown_step : (request : Request) (trouble : Option Trouble) (rest both : List Request) → Grown rest both
    → Grown (request ∷ option_map_or (λ t. []) trouble rest) (request ∷ option_map_or (λ t. []) trouble both)
grown_step request None rest both grown = (grown.0, ap (λ rs. request ∷ rs) grown.1)
grown_step request (Some t) rest both grown = ([], refl)

grown_more : (steps more : List Step) → Grown (up_to_trouble steps) (up_to_trouble (steps ++ more))
grown_more [] more = (up_to_trouble more, refl)
grown_more (step ∷ steps) more =
    grown_step step.request step.trouble (up_to_trouble steps) (up_to_trouble (steps ++ more)) (grown_more steps more)

begun_more : (steps more : List Step) (before after : Requests) → Begins (up_to_trouble steps) before after
    → Begins (up_to_trouble (steps ++ more)) before after
begun_more steps more before after begun =
    let grown = grown_more steps more in
    (begun.0, begun.1 ++ grown.0, grown.1 ∙ ap (λ rs. rs ++ grown.0) begun.2 ∙ append_assoc begun.0 begun.1 grown.0, begun.3)

-- no request was made yet
pub none_begun : (all : List Request) (before : Requests) → Begins all before before
none_begun all before = ([], all, refl, sym (also_nothing before))

begun_then : (steps more : List Step) (before between after : Requests) → between ≡ also before (up_to_trouble steps)
    → first_trouble steps ≡ None → Begins (up_to_trouble more) between after
    → Begins (up_to_trouble (steps ++ more)) before after
begun_then steps more before between after same none begun = (
  up_to_trouble steps ++ begun.0,
  begun.1,
  clear_more steps more none ∙ ap (λ rs. up_to_trouble steps ++ rs) begun.2 ∙ sym (append_assoc (up_to_trouble steps) begun.0 begun.1),
  begun.3 ∙ ap (λ b. also b begun.0) same ∙ also_also before (up_to_trouble steps) begun.0,
)

-- all steps were made, and then more
all_made : (steps more : List Step) (before between after : Requests) → between ≡ also before (up_to_trouble steps)
    → first_trouble steps ≡ None → after ≡ also between (up_to_trouble more)
    → after ≡ also before (up_to_trouble (steps ++ more))
all_made steps more before between after same none is =
    is ∙ ap (λ b. also b (up_to_trouble more)) same ∙ also_also before (up_to_trouble steps) (up_to_trouble more)
    ∙ ap (λ rs. also before rs) (sym (clear_more steps more none))

first_left : (steps more : List Step) → first_trouble steps ≡ None → first_trouble (steps ++ more) ≡ first_trouble more
first_left steps more none = first_more steps more ∙ ap (λ f. option_map_or Some f (first_trouble more)) none

pub all_then : (steps more : List Step) (before between after : Requests) → CollectsAll steps before between
    → CollectsAll more between after → CollectsAll (steps ++ more) before after
all_then steps more before between after first next =
    (all_made steps more before between after first.0 first.1 next.0, first_left steps more first.1 ∙ next.1)

pub some_then : (steps more : List Step) (before between after : Requests) (fault : Fault) → CollectsAll steps before between
    → CollectsSome more between after fault → CollectsSome (steps ++ more) before after fault
some_then steps more before between after fault first (inl next) =
    inl (all_made steps more before between after first.0 first.1 next.0, next.1, first_left steps more first.1 ∙ next.2, next.3)
some_then steps more before between after fault first (inr next) =
    inr (next.0, begun_then steps more before between after first.0 first.1 next.1)

pub collects_then : {B : Type 0} (steps more : List Step) (before between after : Requests) (result : Result B Fault)
    → CollectsAll steps before between → Collects more between after result → Collects (steps ++ more) before after result
collects_then steps more before between after (Ok y) first next = all_then steps more before between after first next
collects_then steps more before between after (Err fault) first next = some_then steps more before between after fault first next

pub collects_stop : (steps more : List Step) (before after : Requests) (fault : Fault) → CollectsSome steps before after fault
    → CollectsSome (steps ++ more) before after fault
collects_stop steps more before after fault (inl stop) = inl (
  stop.0 ∙ ap (λ rs. also before rs) (sym (ended_more steps more stop.1 stop.2)),
  stop.1,
  first_more steps more ∙ ap (λ f. option_map_or Some f (first_trouble more)) stop.2,
  stop.3,
)
collects_stop steps more before after fault (inr stop) = inr (stop.0, begun_more steps more before after stop.1)

-- one step
pub one_clear : (request : Request) (any : Option Trouble) (before after : Requests) → after ≡ also before (request ∷ []) → any ≡ None
    → CollectsAll (record { request = request; trouble = any } ∷ []) before after
one_clear request None before after same is = (same, refl)
one_clear request (Some t) before after same is = absurd (true≢false (ap is_some is))

pub one_stops : (request : Request) (any : Option Trouble) (before after : Requests) (fault : Fault) → after ≡ also before (request ∷ [])
    → ReportsSome any fault
    → CollectsSome (record { request = request; trouble = any } ∷ []) before after fault
one_stops request None before after fault same (inl is) = inl (same, is.0, is.1, is.2)
one_stops request (Some t) before after fault same (inl is) = inl (same, is.0, is.1, is.2)
one_stops request None before after fault same (inr memory) = inr (memory, (request ∷ [], [], refl, same))
one_stops request (Some t) before after fault same (inr memory) = inr (memory, (request ∷ [], [], refl, same))

-- one step, unless memory ran out before it
pub maybe_stops : {A : Type 0} (request : Request) (any : Option Trouble) (before after : Requests) (result : Result A Fault)
    (fault : Fault) → result ≡ Err fault → Requested request before after result → ReportsSome any fault
    → CollectsSome (record { request = request; trouble = any } ∷ []) before after fault
maybe_stops request any before after result fault is (inl same) reports = one_stops request any before after fault same reports
maybe_stops request any before after result fault is (inr none) reports = inr (
  subst (λ r. IsMemory r) is none.0,
  subst (λ a. Begins (up_to_trouble (record { request = request; trouble = any } ∷ [])) before a) (sym none.1)
      (none_begun (up_to_trouble (record { request = request; trouble = any } ∷ [])) before),
)

-- a step whose trouble ends nothing
templates_made : (templates : List (List ℕ)) → up_to_trouble (map template_step templates) ≡ map reading templates
templates_made [] = refl
templates_made (template ∷ templates) = ap (λ rs. reading template ∷ rs) (templates_made templates)

templates_clear : (templates : List (List ℕ)) → first_trouble (map template_step templates) ≡ None
templates_clear [] = refl
templates_clear (template ∷ templates) = templates_clear templates

pub templates_collect : (templates : List (List ℕ)) (before after : Requests) → after ≡ also before (map reading templates)
    → CollectsAll (map template_step templates) before after
templates_collect templates before after is = (is ∙ ap (λ rs. also before rs) (sym (templates_made templates)), templates_clear templates)

-- from the steps to the whole
abbrev pub FollowsFault : List Step → Requests → Requests → Fault → Type 0
FollowsFault steps before after fault = Follows {A = Unit {0}} steps before after (Err fault)

pub follows_stop : (steps : List Step) (before after : Requests) (fault : Fault) → CollectsSome steps before after fault
    → FollowsFault steps before after fault
follows_stop steps before after fault (inl stop) = inl (stop.0, stop.3 ∙ sym stop.2)
follows_stop steps before after fault (inr stop) = inr (stop.0, stop.1)

pub follows_done : {B : Type 0} (steps : List Step) (before after : Requests) (result : Result B Fault) → CollectsAll steps before after
    → trouble_in result ≡ None → Follows steps before after result
follows_done steps before after result done none = inl (done.0, none ∙ sym done.1)

pub follows_follow : {A B : Type 0} (steps : List Step) (before after : Requests) (result : Result A Fault) (other : Result B Fault)
    → trouble_in other ≡ trouble_in result → (IsMemory result → IsMemory other)
    → Follows steps before after result → Follows steps before after other
follows_follow steps before after result other same memory (inl all) = inl (all.0, same ∙ all.1)
follows_follow steps before after result other same memory (inr some) = inr (memory some.0, some.1)

pub followed_then : {A B : Type 0} (steps : List Step) (before between after : Requests) (result : Result A Fault) (other : Result B Fault)
    → trouble_in other ≡ trouble_in result → (IsMemory result → IsMemory other)
    → after ≡ between → Follows steps before between result → Follows steps before after other
followed_then steps before between after result other same memory is follows =
    subst (λ a. Follows steps before a other) (sym is) (follows_follow steps before between result other same memory follows)

-- the exit status of an answer
pub follows_to : (steps : List Step) (before after : Requests) (status : ℕ) (answer : Result (Unit {0}) Fault) → status ≡ exit_status answer
    → Follows steps before after answer → FollowsTo steps before after status
follows_to steps before after status (Ok u) is follows = (Ok 0, follows, is)
follows_to steps before after status (Err fault) is follows = (Err fault, follows, is)

pub follows_nothing : (before after : Requests) (status : ℕ) → after ≡ before → FollowsTo [] before after status
follows_nothing before after status same = (Ok status, inl (same ∙ sym (also_nothing before), refl), refl)

-- the words of a command for one page
pub words_followed : (words : List (List ℕ)) (asked : Asked) (known : Files) (listed : Folders) (before between after : Requests)
    (status : ℕ) (answer : Result (Unit {0}) Fault) → command_of words ≡ Some asked
    → WhereKnown known listed (λ all folders.
    Follows (command_steps all folders asked.choices.options.decimals asked.paths asked.choices.ending) before between answer)
    → after ≡ between → status ≡ exit_status answer
    → FollowsWords words known listed before after status
words_followed words asked known listed before between after status answer is follows same status_is = λ all folders here there.
    let steps = command_steps all folders asked.choices.options.decimals asked.paths asked.choices.ending in
    subst (λ c. FollowsTo (option_map_or (λ (a : Asked). command_steps all folders a.choices.options.decimals a.paths a.choices.ending) c
    (option_map_or (pages_steps all folders) (pages_of words) [])) before after status) (sym is)
    (subst (λ a. FollowsTo steps before a status) (sym same) (follows_to steps before between status answer status_is
    (follows all folders here there)))

-- other words
pub others_followed : (words : List (List ℕ)) (known : Files) (listed : Folders) (before after : Requests) (status : ℕ)
    → command_of words ≡ None
    → WhereKnown known listed (λ all folders. FollowsTo (option_map_or (pages_steps all folders) (pages_of words) []) before after status)
    → FollowsWords words known listed before after status
others_followed words known listed before after status is follows = λ all folders here there.
    subst (λ c. FollowsTo (option_map_or (λ (a : Asked). command_steps all folders a.choices.options.decimals a.paths a.choices.ending) c
    (option_map_or (pages_steps all folders) (pages_of words) [])) before after status) (sym is) (follows all folders here there)

pub pages_words_followed : (words : List (List ℕ)) (pages : AskedPages) (known : Files) (listed : Folders) (before after : Requests)
    (status : ℕ) → pages_of words ≡ Some pages
    → WhereKnown known listed (λ all folders. FollowsTo (pages_steps all folders pages) before after status)
    → WhereKnown known listed (λ all folders. FollowsTo (option_map_or (pages_steps all folders) (pages_of words) []) before after status)
pages_words_followed words pages known listed before after status is follows = λ all folders here there.
    subst (λ p. FollowsTo (option_map_or (pages_steps all folders) p []) before after status) (sym is) (follows all folders here there)

pub no_words_followed : (words : List (List ℕ)) (known : Files) (listed : Folders) (before after : Requests) (status : ℕ)
    → pages_of words ≡ None → after ≡ before
    → WhereKnown known listed (λ all folders. FollowsTo (option_map_or (pages_steps all folders) (pages_of words) []) before after status)
no_words_followed words known listed before after status is same = λ all folders here there.
    subst (λ p. FollowsTo (option_map_or (pages_steps all folders) p []) before after status) (sym is)
    (follows_nothing before after status same)
