-- How the declarations of a cycle are named, one after the other.
use Rattle.std.specs.Prelude.{ℕ, List, [], Option, None, Some}
use Rattle.session.specs.Replies.{named_of}

-- the first of declarations, and of one more
abbrev pub either_of : Option ℕ → ℕ → Option ℕ
either_of None n = Some n
either_of (Some m) n = Some m

-- a space and the name of the declaration that was named first, if one was
abbrev pub closing_name : (ℕ → List ℕ) → Option ℕ → List ℕ
closing_name names None = []
closing_name names (Some n) = named_of names n
