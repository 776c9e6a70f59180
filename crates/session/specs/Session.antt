-- A session as its callers see it.
use Rattle.std.specs.Prelude.{ℕ}
use Rattle.script_graph.specs.Kept.{Kept}

-- the library, how many right sides of binds were built, or were to be, what is kept, and how many lines were taken
pub record SessionView (L : Type 0) : Type 0 where
  pub library : L
  pub builds : ℕ
  pub kept : Kept
  pub lines : ℕ
