-- Terms: what a right-side function gives, and how a node reads at present.
use Rattle.std.specs.Prelude.{ℕ, zero, suc, ℤ, List, [], ◌∷◌}
use Rattle.inc_value.specs.declared.function.FnRef.{FnRef}
use Rattle.inc_value.specs.declared.node.NodeId.{NodeId}
use Rattle.inc_value.specs.declared.value.Value.{Value}

-- from a time on, a value
pub record Step : Type 0 where
  pub time : ℤ
  pub value : Value

mutual
  -- as a definition, over terms in place of nodes and with captures; there are no variables, freezes and experts in it
  pub data Term : Type 0 where
    Const : (value : Value) → Term
    Ref : (node : NodeId) → Term
    Cap : (index : ℕ) → Term
    Map : (function : FnRef) (arguments : Terms) → Term
    Fold : (function : FnRef) (initial : Value) (arguments : Terms) → Term
    If : (test left right : Term) → Term
    Join : (child : Term) → Term
    Bind : (left : Term) (function : FnRef) (captures : Terms) → Term
    At : (time : ℤ) → Term
    Steps : (initial : Value) (steps : List Step) → Term
    Now : Term

  -- terms in order
  pub data Terms : Type 0 where
    End : Terms
    More : (first : Term) (rest : Terms) → Terms

-- the nodes, each as a term
abbrev pub refs : List NodeId → Terms
refs [] = End
refs (n ∷ ns) = More (Ref n) (refs ns)

-- the i-th capture; a number past the end stays
abbrev pub capture : Terms → ℕ → ℕ → Term
capture End k i = Cap i
capture (More t ts) zero i = t
capture (More t ts) (suc k) i = capture ts k i

abbrev mutual
  -- the term with the captures put in
  pub put : Terms → Term → Term
  put caps (Const v) = Const v
  put caps (Ref n) = Ref n
  put caps (Cap i) = capture caps i i
  put caps (Map f ts) = Map f (put_all caps ts)
  put caps (Fold f v ts) = Fold f v (put_all caps ts)
  put caps (If t a b) = If (put caps t) (put caps a) (put caps b)
  put caps (Join t) = Join (put caps t)
  put caps (Bind l f ts) = Bind (put caps l) f (put_all caps ts)
  put caps (At t) = At t
  put caps (Steps v steps) = Steps v steps
  put caps Now = Now

  pub put_all : Terms → Terms → Terms
  put_all caps End = End
  put_all caps (More t ts) = More (put caps t) (put_all caps ts)

-- what the functions of a graph mean: the value of a map on its arguments, and the term of a right side at its left value
pub record Functions : Type 0 where
  pub value : FnRef → List Value → Value
  pub term : FnRef → Value → Term
