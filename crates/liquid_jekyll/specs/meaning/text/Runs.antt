-- The runs of characters that pass a test, each as long as it can be.
use Rattle.std.specs.Prelude.{ℕ, ◌+◌, Bool, false, not, List, [], ◌∷◌, ◌++◌, ◌==◌, ◌&&◌, if◌then◌else◌}

-- whether the first character passes
abbrev pub begins : (ℕ → Bool) → List ℕ → Bool
begins test [] = false
begins test (c ∷ cs) = test c

-- whether a character before those others is the last of a run
abbrev pub ends_run : (ℕ → Bool) → ℕ → List ℕ → Bool
ends_run test c cs = test c && not (begins test cs)

-- the number of runs
abbrev pub run_count : (ℕ → Bool) → List ℕ → ℕ
run_count test [] = 0
run_count test (c ∷ cs) = (if ends_run test c cs then 1 else 0) + run_count test cs

-- each run as one character, the others as they are
abbrev pub with_runs_as : (ℕ → Bool) → ℕ → List ℕ → List ℕ
with_runs_as test by [] = []
with_runs_as test by (c ∷ cs) =
    (if ends_run test c cs then by ∷ [] else if test c then [] else c ∷ []) ++ with_runs_as test by cs

-- without one such character at the start, and at the end
abbrev pub without_first : ℕ → List ℕ → List ℕ
without_first by [] = []
without_first by (c ∷ cs) = if c == by then cs else c ∷ cs

abbrev pub without_last : ℕ → List ℕ → List ℕ
without_last by [] = []
without_last by (c ∷ []) = if c == by then [] else c ∷ []
without_last by (c ∷ d ∷ cs) = c ∷ without_last by (d ∷ cs)

-- without one at each end
abbrev pub without_ends : ℕ → List ℕ → List ℕ
without_ends by cs = without_last by (without_first by cs)
