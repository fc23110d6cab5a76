-- Which files and folders are read, in order.
use Rattle.std.specs.Prelude.{◌≡◌, ℕ, List, [], ◌∷◌, ◌++◌, Bool, true, Option, map}
use Rattle.std.specs.Option.{unwrap_or}
use Rattle.liquid_files.specs.meaning.Files.{Request, Requests, also, listing, reading}
use Rattle.page_site.specs.meaning.Items.{file_in}

-- the first of these requests were made, and all of them if nothing failed
abbrev pub Follows : List Request → Requests → Requests → Bool → Type 0
Follows all before after is_done =
    (made : List Request) × (rest : List Request) × (after ≡ also before made) × (made ++ rest ≡ all) × (is_done ≡ true → rest ≡ [])

-- the requests for the partials of a folder
abbrev pub partial_requests : (Bool → List ℕ → Option (List (List ℕ))) → List ℕ → List Request
partial_requests folders folder =
    listing true folder ∷ map (λ name. reading (file_in folder name)) (unwrap_or (folders true folder) [])
