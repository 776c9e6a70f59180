-- A script and a graph that fit still fit after a command: what the command leaves as it was still declares what it
-- did.
use Rattle.std.proofs.Common.{◌≡◌, ℕ, refl}
use Rattle.inc_value.specs.declared.node.NodeId.{NodeId}
use Rattle.inc_value.specs.declared.ty.Ty.{Ty}
use Rattle.script_model.specs.Values.{Value, Int, Bool, Text, Reference}
use Rattle.script_model.specs.Formula.{State}
use Rattle.script_model.specs.Valid.{ValueHasType}
use Rattle.transfer.specs.Both.{graph_value}
use Rattle.transfer.specs.Keeping.{NodesApart}

-- ---- the nodes of known values tell them apart

pub same_known : (s : State) (nodes : ℕ → NodeId) → NodesApart s nodes → (n m : ℕ) (t u : Ty) (v w : Value)
    → ValueHasType s n v t → ValueHasType s m w u
    → graph_value nodes v ≡ graph_value nodes w → v ≡ w
same_known s nodes apart n m t u (Reference a b) (Reference c d) g h e =
    let first : nodes a ≡ nodes c = cc in
    let bases : b ≡ d = cc in
    let names = apart a c g.1.entry h.1.entry g.1.stands h.1.stands g.1.own h.1.own first in
    rw (names, bases) refl
same_known s nodes apart n m t u (Int a) (Int b) g h e = let same : a ≡ b = cc in rw same refl
same_known s nodes apart n m t u (Bool a) (Bool b) g h e = let same : a ≡ b = cc in rw same refl
same_known s nodes apart n m t u (Text a) (Text b) g h e = let same : a ≡ b = cc in rw same refl
same_known s nodes apart n m t u v w g h e = absurd (cc)
