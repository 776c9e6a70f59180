-- Small graphs, worked out.
use Rattle.std.specs.Prelude.{ℕ, pos, zero, suc, List, [], ◌∷◌, Option, None, Some, ◌==◌, cond, ◌+ℤ◌}
use Rattle.inc_value.specs.declared.function.FnRef.{FnRef}
use Rattle.inc_value.specs.declared.function.FnKind.TheVariants as kind
use Rattle.inc_value.specs.declared.node.NodeId.{NodeId}
use Rattle.inc_value.specs.declared.outcome.Outcome.TheVariants.{Val, Invalid}
use Rattle.inc_value.specs.declared.ty.Ty.TheVariants as ty
use Rattle.inc_value.specs.declared.value.Value.{Value}
use Rattle.inc_value.specs.declared.value.Value.TheVariants.{Int}
use Rattle.inc_terms.specs.Term as term
use Rattle.inc_terms.specs.Term.{Term, End, More, Functions}
use Rattle.inc_terms.specs.Graph.{Graph, Row, Built, Def, Const, Var, Map, Bind}
use Rattle.inc_terms.specs.Evaluate.{NodeGives}

-- the node of the number
abbrev pub id : ℕ → NodeId
id k = record { slot = k; gen_ = k }

-- a map of the number; its types don't matter here
abbrev pub fn : ℕ → FnRef
fn k = record { id = record { kind = kind.Map; number = k }; sig = record { takes = []; gives = ty.Int } }

-- a right side of the number
abbrev pub rhs : ℕ → FnRef
rhs k = record { id = record { kind = kind.Rhs; number = k }; sig = record { takes = []; gives = ty.Int } }

-- the sum of two integers
abbrev pub add : List Value → Value
add (Int a ∷ Int b ∷ []) = Int (a +ℤ b)
add vs = Int (pos 0)

-- function 1 at v: a bind of capture 0 by function 2, which captures v; function 2 at w: w and its capture added
abbrev pub terms : FnRef → Value → Term
terms f v =
    cond (f.id.number == 1) (term.Bind (term.Cap 0) (rhs 2) (More (term.Const v) End)) (term.Map (fn 0) (More (term.Const v) (More (term.Cap 0) End)))

-- every map is the sum
abbrev pub F : Functions
F = record { value = λ f vs. add vs; term = terms }

-- a row of an integer
abbrev pub row : Option NodeId → Def → Option Row
row scope def = Some (record { def = def; ty = ty.Int; scope = scope })

-- var 0 = 1; var 1 = 2; node 2 binds 0 by function 1 with capture 1; built for 1 it has nodes 3 (const 1) and 4 (bind of 1 by function 2 with
-- capture 3), which has nodes 5 (const 2) and 6 (add 5 3)
abbrev pub rows : ℕ → Option Row
rows zero = row None (Var (Int (pos 1)))
rows (suc zero) = row None (Var (Int (pos 2)))
rows (suc (suc zero)) = row None (Bind (id 0) (rhs 1) (id 1 ∷ []))
rows (suc (suc (suc zero))) = row (Some (id 2)) (Const (Int (pos 1)))
rows (suc (suc (suc (suc zero)))) = row (Some (id 2)) (Bind (id 1) (rhs 2) (id 3 ∷ []))
rows (suc (suc (suc (suc (suc zero))))) = row (Some (id 4)) (Const (Int (pos 2)))
rows (suc (suc (suc (suc (suc (suc zero)))))) = row (Some (id 4)) (Map (fn 0) (id 5 ∷ id 3 ∷ []))
rows n = None

-- bind 2 is built for the number, bind 4 for 2
abbrev pub builts : ℕ → ℕ → Option Built
builts left n =
    cond (n == 2) (Some (record { outcome = Val (Int (pos left)); root = Some (id 4) }))
    (cond (n == 4) (Some (record { outcome = Val (Int (pos 2)); root = Some (id 6) })) None)

-- the graph, whose bind 2 is built for the number
abbrev pub graph : ℕ → Graph
graph left = record { row = λ n. rows n.gen_; built = λ n. builts left n.gen_; now = pos 0; frozen = λ n. None; lists = λ n. [] }

-- the bind, its root and the inner root give 3; where bind 2 is built for another value it still gives 3, and the nodes of its scope and of
-- the scope within it give Invalid
abbrev pub BindsWork : Type 0
BindsWork =
    NodeGives F (graph 1) (id 2) (Val (Int (pos 3))) × NodeGives F (graph 1) (id 4) (Val (Int (pos 3)))
    × NodeGives F (graph 1) (id 6) (Val (Int (pos 3))) × NodeGives F (graph 7) (id 2) (Val (Int (pos 3)))
    × NodeGives F (graph 7) (id 4) Invalid × NodeGives F (graph 7) (id 6) Invalid × NodeGives F (graph 7) (id 9) Invalid
