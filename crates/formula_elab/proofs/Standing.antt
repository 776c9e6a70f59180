-- What was made stands, and one more of it does.
use Rattle.std.proofs.Common.{◌≡◌, ◌⊎◌, inl, inr, ℕ, ◌+◌, ◌<◌, ◌≤◌, List, [], ◌∷◌, ◌++◌, length, take, map, All, Some, arith, refl, sym, ◌∙◌, ap, subst}
use Rattle.std.proofs.lemmas.List.{length-append, length-take, get_or_append_left, get_or_at}
use Rattle.std.proofs.lemmas.Option.{slice_get_within, slice_get-get_or}
use Rattle.std.specs.List.{slice_get}
use Rattle.std.proofs.lemmas.List.Elements.{All-head, All-tail}
use Rattle.inc_value.specs.Choice.{Every}
use Rattle.inc_value.specs.declared.node.NodeId.{NodeId}
use Rattle.inc_value.specs.declared.value.Value.{Value}
use Rattle.inc_terms.specs.Graph as graph
use Rattle.inc_terms.specs.Graph.{Graph}
use Rattle.inc_terms.specs.Term.{Functions}
use Rattle.script_functions.specs.declared.line.Line.TheVariants as lines
use Rattle.transfer.specs.Shows.{IsTop}
use Rattle.formula_elab.specs.Bodies.{line_filled, IsMadeOf, OpenBody}
use Rattle.formula_elab.specs.Made.{NoneStands, OneMoreStands, WasMade}
use Rattle.formula_elab.specs.Make.{function_made, made_at, no_node, node_made, IsFunction}
use Rattle.formula_elab.specs.Opened.{made_node, node_of, filled, IsEarlier, IsEarlierBody, IsMadeAs, LineNeedsEarlier, NodeNeedsEarlier}
use Rattle.formula_elab.specs.declared.body.OpenLine.{OpenLine}
use Rattle.formula_elab.specs.declared.body.OpenLine.TheVariants as open_line
use Rattle.formula_elab.specs.declared.make.Made.{Made}
use Rattle.formula_elab.specs.declared.make.Made.TheVariants as was
use Rattle.formula_elab.specs.declared.opened.Open.{Open}
use Rattle.formula_elab.specs.declared.opened.Open.TheVariants as opened
use Rattle.formula_elab.specs.declared.opened.Open.TheVariants.{Const, Var, Map, Fold, If, Join, Bind}
use Rattle.formula_elab.specs.declared.opened.Part.{Part}
use Rattle.formula_elab.specs.declared.opened.Part.TheVariants.{Given, Made as Numbered}
use Rattle.formula_elab.specs.declared.plan.Planned.{Planned}
use Rattle.formula_elab.specs.declared.plan.Planned.TheVariants as planned
use Rattle.formula_elab.proofs.MadeAs.{kinds_more}
use Rattle.formula_elab.proofs.Order.{order_of}

-- where one more was made, what was made before is as it was
made_append : (made : List Made) (m : Made) (i : ℕ) → i < length made → made_at (made ++ m ∷ []) i ≡ made_at made i
made_append made m i less = get_or_append_left made (m ∷ []) (was.Node no_node) i less

-- and it is the last
made_last : (made : List Made) (m : Made) (i : ℕ) → i ≡ length made → made_at (made ++ m ∷ []) i ≡ m
made_last made m i is = get_or_at made m [] (was.Node no_node) i (sym is)

-- what needs only what was made stays as it is filled
module _ (made : List Made) (m : Made) (earlier : List Planned) (within : length earlier ≤ length made) where
  node_of_stays : (p : Part) → IsEarlier earlier p → node_of (made ++ m ∷ []) p ≡ node_of made p
  node_of_stays (Given n) h = refl
  node_of_stays (Numbered i) h =
      let less = slice_get_within earlier i (planned.Node h.0) h.1 in
      ap node_made (made_append made m i (omega (arith, less, within)))

  nodes_of_stay : (ps : List Part) → All (IsEarlier earlier) ps → map (node_of (made ++ m ∷ [])) ps ≡ map (node_of made) ps
  nodes_of_stay [] h = refl
  nodes_of_stay (p ∷ ps) h =
      let first = node_of_stays p (All-head (IsEarlier earlier) p ps h) in
      let rest = nodes_of_stay ps (All-tail (IsEarlier earlier) p ps h) in
      rw (first, rest) refl

  function_stays : (i : ℕ) → IsEarlierBody earlier i → function_made (made_at (made ++ m ∷ []) i) ≡ function_made (made_at made i)
  function_stays i h =
      let less = slice_get_within earlier i (planned.Body h.0) h.1 in
      ap function_made (made_append made m i (omega (arith, less, within)))

  filled_stays : (x : Open) → NodeNeedsEarlier earlier x → filled (made ++ m ∷ []) x ≡ filled made x
  filled_stays (Const v) h = refl
  filled_stays (Var v) h = refl
  filled_stays (Map f parts) h = ap (graph.Map f) (nodes_of_stay parts h)
  filled_stays (Fold f v parts) h = ap (graph.Fold f v) (nodes_of_stay parts h)
  filled_stays (If ty test a b) h = rw (node_of_stays test h.0, node_of_stays a h.1, node_of_stays b h.2) refl
  filled_stays (Join ty child) h = ap (λ (n : NodeId). graph.Join n) (node_of_stays child h)
  filled_stays (Bind ty left body) h = rw (node_of_stays left h.0, function_stays body h.1) refl
  filled_stays (opened.At time) h = refl
  filled_stays (opened.Steps first steps) h = refl
  filled_stays opened.Now h = refl
  filled_stays (opened.Every base span) h = refl
  filled_stays (opened.Freeze ty child predicate) h = ap (λ (n : NodeId). graph.Freeze n predicate) (node_of_stays child h)
  filled_stays (opened.Expert f v) h = refl

  line_stays : (x : OpenLine) → LineNeedsEarlier earlier x → line_filled (made ++ m ∷ []) x ≡ line_filled made x
  line_stays (open_line.Ready line) h = refl
  line_stays (open_line.Bind left body most captures) h = ap (λ f. lines.Bind left f most captures) (function_stays body h)

  lines_stay : (xs : List OpenLine) → Every (LineNeedsEarlier earlier) xs
      → map (line_filled (made ++ m ∷ [])) xs ≡ map (line_filled made) xs
  lines_stay [] h = refl
  lines_stay (x ∷ xs) h = rw (line_stays x h.0, lines_stay xs h.1) refl

  -- over functions that have its terms
  made_still : (H H' : Functions) (o : OpenBody) (k : Made) → Every (LineNeedsEarlier earlier) o.page.lines
      → ((v : Value) → H'.term (function_made k) v ≡ H.term (function_made k) v) → IsMadeOf H made o k → IsMadeOf H' (made ++ m ∷ []) o k
  made_still H H' o k needs terms h = record {
    body = h.body;
    filled = record {
      sig = h.filled.sig;
      listed = h.filled.listed;
      lines = h.filled.lines ∙ sym (lines_stay o.page.lines needs);
      root = h.filled.root;
    };
    is_function = h.is_function;
    kind = h.kind;
    sig = h.sig;
    terms = λ v. terms v ∙ h.terms v;
  }

function_is : (m : Made) → IsFunction m → m ≡ was.Fn (function_made m)
function_is (was.Fn f) h = refl
function_is (was.Node n) h = absurd h

-- a function that was made stands there
function_at : (made : List Made) (i : ℕ) → i < length made → IsFunction (made_at made i)
    → slice_get made i ≡ Some (was.Fn (function_made (made_at made i)))
function_at made i less h =
    slice_get-get_or made i (was.Node no_node) less ∙ ap (λ m. Some m) (function_is (made_at made i) h)

pub none_stands : NoneStands
none_stands H G makes order = record {
  order = order;
  kinds = tt;
  top = λ i x at less. absurd (omega (arith, less));
  functions = λ i o at less. absurd (omega (arith, less));
}

made_as : (H : Functions) (G : Graph) (made : List Made) (x : Planned) (m : Made) → WasMade H G made x m → IsMadeAs x m
made_as H G made (planned.Body o) m h = (h.is_function, h.kind, h.sig)
made_as H G made (planned.Node x) m h = h.0

-- the i-th node is as it was to be
abbrev IsTopWith : Graph → List Made → ℕ → Open → Type 0
IsTopWith G made i x = IsTop G (made_node made i) (filled made x)

-- the i-th function has the terms of its body
abbrev IsMadeWith : Functions → List Made → ℕ → OpenBody → Type 0
IsMadeWith H made i o = IsMadeOf H made o (made_at made i)

pub one_more_stands : OneMoreStands
one_more_stands H H' G G' makes made x m h rows terms next one = record {
  order = h.order;
  kinds = kinds_more makes made x m h.kinds next (made_as H' G' made x m one);
  top = λ i y at less. top_either i y at (below i (length made) (omega (arith, less, size)));
  functions = λ i o at less. body_either i o at (below i (length made) (omega (arith, less, size)));
}
  where
    size : length (made ++ m ∷ []) ≡ length made + 1
    size = length-append made (m ∷ [])

    below : (i count : ℕ) → i < count + 1 → (i < count) ⊎ (i ≡ count)
    below i count less = grind (arith, less)

    few : (i : ℕ) → i ≤ length made → length (take i makes) ≤ length made
    few i le = let e = length-take i makes in omega (arith, e, le)

    top_old : (i : ℕ) (y : Open) → slice_get makes i ≡ Some (planned.Node y) → i < length made → IsTopWith G' (made ++ m ∷ []) i y
    top_old i y at less =
        let row = h.top i y at less in
        let needs = order_of makes i (planned.Node y) h.order at in
        let same : made_node (made ++ m ∷ []) i ≡ made_node made i = ap node_made (made_append made m i less) in
        let live = rows (made_node made i) row.0 row.1 in
        let kept : IsTop G' (made_node made i) (filled made y) = (row.0, live, row.2, row.3) in
        subst (λ n. IsTop G' n (filled (made ++ m ∷ []) y)) (sym same)
        (subst (λ d. IsTop G' (made_node made i) d) (sym (filled_stays made m (take i makes) (few i (omega (arith, less))) y needs)) kept)

    top_new : (i : ℕ) (y : Open) → slice_get makes i ≡ Some (planned.Node y) → i ≡ length made → IsTopWith G' (made ++ m ∷ []) i y
    top_new i y at is =
        let here : slice_get makes (length made) ≡ Some (planned.Node y) = subst (λ j. slice_get makes j ≡ Some (planned.Node y)) is at in
        let is_it : x ≡ planned.Node y = cc in
        let was_made : WasMade H' G' made (planned.Node y) m = subst (λ z. WasMade H' G' made z m) is_it one in
        let needs = order_of makes i (planned.Node y) h.order at in
        let same : made_node (made ++ m ∷ []) i ≡ node_made m = ap node_made (made_last made m i is) in
        subst (λ n. IsTop G' n (filled (made ++ m ∷ []) y)) (sym same)
        (subst (λ d. IsTop G' (node_made m) d) (sym (filled_stays made m (take i makes) (few i (omega (arith, is))) y needs)) was_made.1)

    top_either : (i : ℕ) (y : Open) → slice_get makes i ≡ Some (planned.Node y) → (i < length made) ⊎ (i ≡ length made)
        → IsTopWith G' (made ++ m ∷ []) i y
    top_either i y at (inl less) = top_old i y at less
    top_either i y at (inr is) = top_new i y at is

    body_old : (i : ℕ) (o : OpenBody) → slice_get makes i ≡ Some (planned.Body o) → i < length made → IsMadeWith H' (made ++ m ∷ []) i o
    body_old i o at less =
        let k = h.functions i o at less in
        let needs = order_of makes i (planned.Body o) h.order at in
        let there = function_at made i less k.is_function in
        let still = made_still made m (take i makes) (few i (omega (arith, less))) H H' o (made_at made i) needs
        (terms i (function_made (made_at made i)) there) k in
        subst (λ z. IsMadeOf H' (made ++ m ∷ []) o z) (sym (made_append made m i less)) still

    body_new : (i : ℕ) (o : OpenBody) → slice_get makes i ≡ Some (planned.Body o) → i ≡ length made → IsMadeWith H' (made ++ m ∷ []) i o
    body_new i o at is =
        let here : slice_get makes (length made) ≡ Some (planned.Body o) = subst (λ j. slice_get makes j ≡ Some (planned.Body o)) is at in
        let is_it : x ≡ planned.Body o = cc in
        let was_made : WasMade H' G' made (planned.Body o) m = subst (λ z. WasMade H' G' made z m) is_it one in
        let needs = order_of makes i (planned.Body o) h.order at in
        let still = made_still made m (take i makes) (few i (omega (arith, is))) H' H' o m needs (λ v. refl) was_made in
        subst (λ z. IsMadeOf H' (made ++ m ∷ []) o z) (sym (made_last made m i is)) still

    body_either : (i : ℕ) (o : OpenBody) → slice_get makes i ≡ Some (planned.Body o) → (i < length made) ⊎ (i ≡ length made)
        → IsMadeWith H' (made ++ m ∷ []) i o
    body_either i o at (inl less) = body_old i o at less
    body_either i o at (inr is) = body_new i o at is
