-- Checked commands as the model of scripts sees them.
use Rattle.std.specs.Prelude.{List, [], ◌∷◌, map, None}
use Rattle.script_model.specs.Check as model
use Rattle.script_model.specs.Formula as formula
use Rattle.script_model.specs.Formula.{nothing_kept}
use Rattle.script_model.specs.Values as value
use Rattle.formula_lang.specs.declared.command.Command.TheVariants as command
use Rattle.formula_lang.specs.declared.command.Command.{Command}
use Rattle.formula_lang.specs.declared.command.Constant.TheVariants as constant
use Rattle.formula_lang.specs.declared.command.Constant.{Constant}
use Rattle.formula_lang.specs.declared.command.Declaration.TheVariants as declaration
use Rattle.formula_lang.specs.declared.command.Declaration.{Declaration}
use Rattle.formula_lang.specs.declared.command.Formula.TheFolds.{fold-Formula}
use Rattle.formula_lang.specs.declared.command.Formula.TheOpen as level
use Rattle.formula_lang.specs.declared.command.Formula.TheOpen.{Formula-F}
use Rattle.formula_lang.specs.declared.command.Formula.{Formula}
use Rattle.formula_lang.specs.declared.command.TimedConstant.{TimedConstant}

-- a constant as a value
abbrev pub constant_view : Constant → value.Value
constant_view (constant.Int number) = value.Int number
constant_view (constant.Bool truth) = value.Bool truth
constant_view (constant.Text bytes) = value.Text bytes
constant_view (constant.Reference target base) = value.Reference target base

-- a constant from a time on as a value
abbrev pub timed_view : TimedConstant → formula.TimedValue
timed_view step = record { time = step.time; value = constant_view step.value }

-- formulas in a row
abbrev pub formulas_of : List formula.Formula → formula.Formulas
formulas_of [] = formula.End
formulas_of (f ∷ fs) = formula.More f (formulas_of fs)

-- one level of a formula, with the views of its parts in their places
abbrev pub formula_level : Formula-F formula.Formula → formula.Formula
formula_level (level.Literal value) = formula.Literal (constant_view value)
formula_level (level.Name position) = formula.Name position
formula_level (level.Apply function arguments) = formula.Apply function (formulas_of arguments.items)
formula_level (level.Fold function first elements) = formula.Fold function (constant_view first) (formulas_of elements.items)
formula_level (level.If test a b) = formula.If test.value a.value b.value
formula_level (level.Join child) = formula.Join child.value
formula_level (level.Bound binds_between) = formula.Bound binds_between
formula_level (level.Bind left body) = formula.Bind left.value body.value
formula_level (level.At time) = formula.At time
formula_level (level.Steps first steps) = formula.Steps (constant_view first) (map timed_view steps.items)
formula_level level.Now = formula.Now

-- a formula with its positions
abbrev pub formula_view : Formula → formula.Formula
formula_view = fold-Formula formula.Formula formula_level

-- what is declared, with nothing kept of it yet
abbrev pub body_view : Declaration → formula.Body
body_view (declaration.Variable value) = formula.Variable (constant_view value)
body_view (declaration.Computed f) = formula.Computed (formula_view f) nothing_kept
body_view (declaration.After time) = formula.After time
body_view (declaration.Every base span) = formula.Every base span
body_view (declaration.Frozen child predicate) = formula.Freeze (formula_view child) predicate None
body_view (declaration.Expert function first) = formula.Expert function (constant_view first) [] 0

-- a command with its positions
abbrev pub command_view : Command → model.Command
command_view (command.Declare name ty body) = model.Declare name ty (body_view body.value)
command_view (command.Grab name ty bind) = model.Take name ty bind
command_view (command.Assign target value) = model.Assign target (constant_view value)
command_view (command.Observe observer target) = model.Observe observer target
command_view (command.Unobserve observer) = model.Unobserve observer
command_view (command.Watch observer) = model.Watch observer
command_view (command.Link expert target) = model.Link expert target
command_view (command.Unlink expert target) = model.Unlink expert target
command_view (command.Stale expert) = model.Stale expert
command_view (command.Advance time) = model.Advance time
command_view command.Stabilize = model.Stabilize
command_view (command.Show observer) = model.Show observer
