-- What the code's nodes are.
use Rattle.std.specs.Prelude.{pos, []}
use Rattle.inc_terms.specs.declared.def.Def as declared
use Rattle.inc_terms.specs.declared.def.Def.TheVariants as code
use Rattle.inc_terms.specs.Graph.{Def, Const, Var, Map, Fold, If, Join, Bind, At, Steps, Now, Every, Freeze, Expert}

-- the definition that the code's one stands for; an expert's list is one of the graph's
abbrev pub def_of : declared.Def → Def
def_of (code.Const v) = Const v
def_of (code.Var v) = Var v
def_of (code.Map f kids) = Map f kids
def_of (code.Fold f v kids) = Fold f v kids
def_of (code.If t a b) = If t a b
def_of (code.Join kid) = Join kid
def_of (code.Bind left f captures) = Bind left f captures
def_of (code.At t) = At t
def_of (code.Steps v steps) = Steps v steps
def_of code.Now = Now
def_of (code.Every base span) = Every base (pos span)
def_of (code.Freeze kid f) = Freeze kid f
def_of (code.Expert f v) = Expert f v []
