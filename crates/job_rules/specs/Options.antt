-- Which options a job takes, both by the words of the command line.
use Rattle.std.specs.Prelude.{ℕ, Bool, true, false, cond, not, ◌&&◌, ◌||◌, List, codes, bytes_eq}

-- the word is one of two
abbrev pub is_either : List ℕ → List ℕ → List ℕ → Bool
is_either word one other = bytes_eq word one || bytes_eq word other

-- A job over a level takes all options, but `render` alone a format, and only jobs that show spans how these are
-- stepped (a list is the same for both). An exercise takes a zone and a format, `flat` and `make` take none.
unfoldable pub takes : List ℕ → List ℕ → Bool
takes job option =
    cond (is_either job (codes "flat") (codes "make")) false
    (cond (bytes_eq job (codes "exercise")) (is_either option (codes "zone") (codes "format"))
    (cond (bytes_eq job (codes "render")) true
    (cond (is_either job (codes "trace") (codes "list")) (not (bytes_eq option (codes "format")))
    (not (is_either option (codes "format") (codes "spans"))))))
