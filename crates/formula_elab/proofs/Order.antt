-- What is needed of what is made earlier, and lists in order, one behind the other.
use Rattle.std.proofs.Common.{◌≡◌, ℕ, suc, zero, List, [], ◌∷◌, ◌++◌, take, get_or, All, Some, subst, sym}
use Rattle.std.proofs.lemmas.List.{append_assoc, append-nil}
use Rattle.std.specs.List.{slice_get}
use Rattle.inc_value.specs.Choice.{Every}
use Rattle.formula_elab.specs.Opened.{IsEarlier, IsEarlierBody, LineNeedsEarlier, NodeNeedsEarlier, NeedsEarlier, AreInOrder, AreTyped, IsTypedIn}
use Rattle.formula_elab.specs.declared.body.OpenLine.{OpenLine}
use Rattle.formula_elab.specs.declared.body.OpenLine.TheVariants as line
use Rattle.formula_elab.specs.declared.opened.Open.{Open}
use Rattle.formula_elab.specs.declared.opened.Open.TheVariants as opened
use Rattle.formula_elab.specs.declared.opened.Open.TheVariants.{Const, Var, Map, Fold, If, Join, Bind}
use Rattle.formula_elab.specs.declared.opened.Part.{Part}
use Rattle.formula_elab.specs.declared.opened.Part.TheVariants.{Given, Made}
use Rattle.formula_elab.specs.declared.plan.Planned.{Planned}
use Rattle.formula_elab.specs.declared.plan.Planned.TheVariants.{Body, Node}

-- what stands in a list stands in a longer one
pub at_more : {A : Type 0} (xs ys : List A) (i : ℕ) (x : A) → slice_get xs i ≡ Some x → slice_get (xs ++ ys) i ≡ Some x
at_more [] ys i x at = absurd cc
at_more (a ∷ xs) ys zero x at = at
at_more (a ∷ xs) ys (suc i) x at = at_more xs ys i x at

module _ (earlier more : List Planned) where
  pub earlier_more : (p : Part) → IsEarlier earlier p → IsEarlier (earlier ++ more) p
  earlier_more (Given n) h = tt
  earlier_more (Made i) h = (h.0, at_more earlier more i (Node h.0) h.1)

  pub all_earlier_more : (ps : List Part) → All (IsEarlier earlier) ps → All (IsEarlier (earlier ++ more)) ps
  all_earlier_more ps h = λ i d within. earlier_more (get_or ps i d) (h i d within)

  pub earlier_body_more : (i : ℕ) → IsEarlierBody earlier i → IsEarlierBody (earlier ++ more) i
  earlier_body_more i h = (h.0, at_more earlier more i (Body h.0) h.1)

  pub line_more : (x : OpenLine) → LineNeedsEarlier earlier x → LineNeedsEarlier (earlier ++ more) x
  line_more (line.Ready l) h = tt
  line_more (line.Bind left body most captures) h = earlier_body_more body h

  pub lines_more : (xs : List OpenLine) → Every (LineNeedsEarlier earlier) xs → Every (LineNeedsEarlier (earlier ++ more)) xs
  lines_more [] h = tt
  lines_more (x ∷ xs) h = (line_more x h.0, lines_more xs h.1)

  pub node_more : (x : Open) → NodeNeedsEarlier earlier x → NodeNeedsEarlier (earlier ++ more) x
  node_more (Const v) h = tt
  node_more (Var v) h = tt
  node_more (Map f parts) h = all_earlier_more parts h
  node_more (Fold f v parts) h = all_earlier_more parts h
  node_more (If ty test a b) h = (earlier_more test h.0, earlier_more a h.1, earlier_more b h.2)
  node_more (Join ty child) h = earlier_more child h
  node_more (Bind ty left body) h = (earlier_more left h.0, earlier_body_more body h.1)
  node_more (opened.At time) h = tt
  node_more (opened.Steps first steps) h = tt
  node_more opened.Now h = tt
  node_more (opened.Every base span) h = tt
  node_more (opened.Freeze ty child predicate) h = earlier_more child h
  node_more (opened.Expert f v) h = tt

  pub needs_more : (x : Planned) → NeedsEarlier earlier x → NeedsEarlier (earlier ++ more) x
  needs_more (Body o) h = lines_more o.page.lines h
  needs_more (Node x) h = node_more x h

-- lists in order, one behind the other
pub order_append : (earlier xs ys : List Planned) → AreInOrder earlier xs → AreInOrder (earlier ++ xs) ys
    → AreInOrder earlier (xs ++ ys)
order_append earlier [] ys first rest = subst (λ e. AreInOrder e ys) (append-nil earlier) rest
order_append earlier (x ∷ xs) ys first rest =
    (first.0, order_append (earlier ++ x ∷ []) xs ys first.1 (subst (λ e. AreInOrder e ys) (sym (append_assoc earlier (x ∷ []) xs)) rest))

order_at : (earlier xs : List Planned) (i : ℕ) (x : Planned) → AreInOrder earlier xs → slice_get xs i ≡ Some x
    → NeedsEarlier (earlier ++ take i xs) x
order_at earlier [] i x order at = absurd cc
order_at earlier (y ∷ xs) zero x order at =
    let same : y ≡ x = cc in needs_more earlier [] x (subst (λ z. NeedsEarlier earlier z) same order.0)
order_at earlier (y ∷ xs) (suc i) x order at =
    subst (λ e. NeedsEarlier e x) (append_assoc earlier (y ∷ []) (take i xs)) (order_at (earlier ++ y ∷ []) xs i x order.1 at)

-- the i-th needs only those before it
pub order_of : (xs : List Planned) (i : ℕ) (x : Planned) → AreInOrder [] xs → slice_get xs i ≡ Some x
    → NeedsEarlier (take i xs) x
order_of xs i x order at = order_at [] xs i x order at

-- if it is a body, it has lines of their types
pub typed_of : (xs : List Planned) (i : ℕ) (x : Planned) → AreTyped xs → slice_get xs i ≡ Some x → IsTypedIn (take i xs) x
typed_of xs i (Body o) typed at = typed i o at
typed_of xs i (Node x) typed at = tt
