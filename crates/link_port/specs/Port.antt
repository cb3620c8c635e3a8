-- What a pull takes from a source, what a push adds to a sink, and what an acceptor hands out, where they tell what they hold.
use Rattle.std.specs.Prelude.{◌≡◌, ◌<◌, ℕ, Bool, true, List, [], ◌++◌, drop, slice_get, Option, Some, None}

-- the next bytes were taken; no byte only where there was no room or none is left
pub record TookNext (bytes : List ℕ) (after : Option (List ℕ)) (room : ℕ) (taken : List ℕ) : Type 0 where
  pub rest : List ℕ
  pub next : bytes ≡ taken ++ rest
  pub left : after ≡ Some rest
  pub end : 0 < room → taken ≡ [] → bytes ≡ []

-- what a pull into this room took, where the source tells what it holds
abbrev pub Pulled : Option (List ℕ) → Option (List ℕ) → ℕ → List ℕ → Type 0
Pulled None after room taken = after ≡ None
Pulled (Some bytes) after room taken = TookNext bytes after room taken

-- what was written, with these bytes after it
abbrev pub with_more : Option (List ℕ) → List ℕ → Option (List ℕ)
with_more None bytes = None
with_more (Some written) bytes = Some (written ++ bytes)

-- whether a sink's end was said, once it is, where the sink tells it
abbrev pub at_end : Option Bool → Option Bool
at_end None = None
at_end (Some ended) = Some true

-- what an acceptor handed out, where it tells its connections: the first of them, and none only where none is left
abbrev pub Accepted : {L : Type 0} → Option (List L) → Option (List L) → Option L → Type 0
Accepted None after link = after ≡ None
Accepted (Some links) after link = (link ≡ slice_get links 0) × (after ≡ Some (drop 1 links))

-- what a source or a sink tells that tells no content
abbrev pub untold : Option (List ℕ)
untold = None

-- what a sink tells of its end that doesn't tell it
abbrev pub untold_end : Option Bool
untold_end = None
