-- Trees and commands as the model of scripts sees them.
use Rattle.std.specs.Prelude.{ℕ, List, [], ◌∷◌, map}
use Rattle.script_model.specs.Grammar as grammar
use Rattle.script_model.specs.Parsing.{trees_of}
use Rattle.line_parser.specs.View.{literal_view, time_view, timed_view}
use Rattle.line_parser.specs.declared.tree.Line.TheVariants as line
use Rattle.line_parser.specs.declared.tree.Line.{Line}
use Rattle.line_parser.specs.declared.tree.Tree.{Tree}
use Rattle.line_parser.specs.declared.tree.Tree.TheFolds.{fold-Tree}
use Rattle.line_parser.specs.declared.tree.Tree.TheOpen as level
use Rattle.line_parser.specs.declared.tree.Tree.TheOpen.{Tree-F}

-- a formula with freezes round it, by their predicates from the inside out
abbrev pub frozen : grammar.Tree → List (List ℕ) → grammar.Tree
frozen child [] = child
frozen child (predicate ∷ around) = frozen (grammar.Freeze child predicate) around

-- one level of a tree, with the views of its parts in their places
abbrev pub level_view : Tree-F grammar.Tree → grammar.Tree
level_view (level.Literal literal) = grammar.Literal (literal_view literal)
level_view (level.Name name) = grammar.Name name
level_view (level.Call function arguments) = grammar.Call function (trees_of arguments.items)
level_view (level.If test a b) = grammar.If test.value a.value b.value
level_view (level.Bind variable left body) = grammar.Bind variable left.value body.value
level_view (level.Join child) = grammar.Join child.value
level_view (level.Fold function first elements) = grammar.Fold function (literal_view first) (trees_of elements.items)
level_view (level.At time) = grammar.At (time_view time)
level_view level.Now = grammar.Now
level_view (level.Steps first steps) = grammar.Steps (literal_view first) (map timed_view steps.items)
level_view (level.Freeze child predicate around) = frozen child.value (predicate ∷ around.items)
level_view (level.After span) = grammar.After (time_view span)
level_view (level.Every span) = grammar.Every (time_view span)

-- a tree, with its bytes
abbrev pub tree_view : Tree → grammar.Tree
tree_view = fold-Tree grammar.Tree level_view

-- a command, with its bytes
abbrev pub line_view : Line → grammar.Line
line_view (line.Var name ty first) = grammar.Var name ty (literal_view first)
line_view (line.Set name value) = grammar.Set name (literal_view value)
line_view (line.Let name formula) = grammar.Let name (tree_view formula)
line_view (line.Expert name function first) = grammar.Expert name function (literal_view first)
line_view (line.Link expert name) = grammar.Link expert name
line_view (line.Unlink expert name) = grammar.Unlink expert name
line_view (line.Stale expert) = grammar.Stale expert
line_view (line.Grab name bind) = grammar.Grab name bind
line_view (line.Observe observer name) = grammar.Observe observer name
line_view (line.Unobserve observer) = grammar.Unobserve observer
line_view (line.Watch observer) = grammar.Watch observer
line_view (line.Show observer) = grammar.Show observer
line_view (line.Advance span) = grammar.Advance (time_view span)
line_view (line.AdvanceTo time) = grammar.AdvanceTo (time_view time)
line_view line.Stabilize = grammar.Stabilize
