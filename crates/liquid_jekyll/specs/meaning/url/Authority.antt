-- Authorities of URLs in their normal form: an optional user, a host, and an optional port.
use Rattle.std.specs.Prelude.{ℕ, ◌==◌, ◌||◌, List, [], ◌++◌, Option, Some, None, codes, length, map, if◌then◌else◌}
use Rattle.std.specs.Char.{is_ascii_digit, to_ascii_lowercase}
use Rattle.std.specs.List.{list_all}
use Rattle.std.specs.Str.{bytes_eq}
use Rattle.liquid_jekyll.specs.meaning.url.Cuts.{cut_last}

-- the text with the letters of ASCII in lower case
abbrev pub lowercase : List ℕ → List ℕ
lowercase text = map to_ascii_lowercase text

-- the port that a URL of the scheme has if it names none
abbrev pub usual_port : List ℕ → List ℕ
usual_port scheme =
    if bytes_eq scheme (codes "http") then codes "80"
    else if bytes_eq scheme (codes "https") then codes "443"
    else if bytes_eq scheme (codes "ftp") then codes "21"
    else []

-- a port after its mark, unless it is empty or the usual one
abbrev pub port_text : List ℕ → List ℕ → List ℕ
port_text scheme port = if length port == 0 || bytes_eq port (usual_port scheme) then [] else codes ":" ++ port

-- the host in lower case; what follows its last colon is a port, if it has digits alone
abbrev pub host_of_cut : List ℕ → List ℕ → Option (List ℕ × List ℕ) → List ℕ
host_of_cut scheme host None = lowercase host
host_of_cut scheme host (Some (name, port)) =
    if list_all is_ascii_digit port then lowercase name ++ port_text scheme port else lowercase host

abbrev pub normal_host : List ℕ → List ℕ → List ℕ
normal_host scheme host = host_of_cut scheme host (cut_last (codes ":") host)

-- the host after the user, who stays as he is
abbrev pub authority_of_cut : List ℕ → List ℕ → Option (List ℕ × List ℕ) → List ℕ
authority_of_cut scheme authority None = normal_host scheme authority
authority_of_cut scheme authority (Some (user, host)) = user ++ (codes "@" ++ normal_host scheme host)

-- the authority of a URL of this scheme, in its normal form
abbrev pub normal_authority : List ℕ → List ℕ → List ℕ
normal_authority scheme authority = authority_of_cut scheme authority (cut_last (codes "@") authority)
