-- The root of what was made shows what it was made for.
use Rattle.std.proofs.Common.{◌≡◌, ℕ, suc, ◌+◌, List, [], ◌∷◌, ◌++◌, length, map, pos, None, Some, arith, refl, sym, ◌∙◌, ap, subst}
use Rattle.std.proofs.lemmas.Option.{slice_get_within}
use Rattle.std.specs.List.{slice_get}
use Rattle.inc_value.specs.declared.function.FnRef.{FnRef}
use Rattle.inc_value.specs.declared.node.NodeId.{NodeId}
use Rattle.inc_value.specs.declared.ty.Ty.{Ty}
use Rattle.inc_terms.specs.Graph as graph
use Rattle.inc_terms.specs.Graph.{Graph}
use Rattle.inc_terms.specs.Term as term
use Rattle.inc_terms.specs.Term.{refs}
use Rattle.script_model.specs.Formula as script
use Rattle.script_model.specs.Formula.{Formula, Formulas, Literal, Name, Apply, End, More, Variable, Computed, After}
use Rattle.script_model.specs.Leaves.{EveryLeaf, EveryLeafOfAll}
use Rattle.transfer.specs.Both.{Both, graph_value}
use Rattle.transfer.specs.Shows.{Built, Shows, ShowsAll, Opens, IsTop, Declares, Writes, graph_step, plain}
use Rattle.formula_elab.specs.Bodies.{empty_page, IsMadeOf, OpenBody}
use Rattle.formula_elab.specs.Laying.{laid, laid_each, laid_body}
use Rattle.formula_elab.specs.Made.{StandsAlike, RootDeclares}
use Rattle.formula_elab.specs.Make.{function_made, made_at}
use Rattle.formula_elab.specs.Names.{EveryNameOf}
use Rattle.formula_elab.specs.Opened.{made_node, node_of, filled}
use Rattle.formula_elab.specs.Today.{IsLaidOut, AreLaidOut}
use Rattle.formula_elab.specs.Types.{formula_ty, joined_ty}
use Rattle.formula_elab.specs.Writing.{body_of, written_body}
use Rattle.formula_elab.specs.declared.make.Made.{Made}
use Rattle.formula_elab.specs.declared.opened.Open.{Open}
use Rattle.formula_elab.specs.declared.opened.Open.TheVariants as opened
use Rattle.formula_elab.specs.declared.opened.Open.TheVariants.{Const, Var, Map, Fold, If, Join, Bind}
use Rattle.formula_elab.specs.declared.plan.Planned.{Planned}
use Rattle.formula_elab.specs.declared.plan.Planned.TheVariants.{Body, Node}
use Rattle.formula_elab.proofs.Lists.{StandsAt, at_split, at_all, begins_all}
use Rattle.formula_elab.proofs.Terms.{page_terms, made_term}
use Rattle.formula_elab.proofs.Writes.{spots_of, steps_same, value_same, writes}

-- ---- nodes

opens_const : (G : Graph) (n : NodeId) (v w : _) → v ≡ w → IsTop G n (graph.Const v)
    → Opens G (Built None) (term.Ref n) (term.Const w)
opens_const G n v w same top = (n, top.0, refl, top.1, top.2, ap plain top.3 ∙ ap (λ u. Some (term.Const u)) same)

opens_map : (G : Graph) (n : NodeId) (f : FnRef) (kids : List NodeId) → IsTop G n (graph.Map f kids)
    → Opens G (Built None) (term.Ref n) (term.Map f (refs kids))
opens_map G n f kids top = (n, top.0, refl, top.1, top.2, ap plain top.3)

opens_fold : (G : Graph) (n : NodeId) (f : FnRef) (v w : _) (kids : List NodeId) → v ≡ w → IsTop G n (graph.Fold f v kids)
    → Opens G (Built None) (term.Ref n) (term.Fold f w (refs kids))
opens_fold G n f v w kids same top =
    (n, top.0, refl, top.1, top.2, ap plain top.3 ∙ ap (λ u. Some (term.Fold f u (refs kids))) same)

opens_if : (G : Graph) (n t a b : NodeId) → IsTop G n (graph.If t a b)
    → Opens G (Built None) (term.Ref n) (term.If (term.Ref t) (term.Ref a) (term.Ref b))
opens_if G n t a b top = (n, top.0, refl, top.1, top.2, ap plain top.3)

opens_join : (G : Graph) (n k : NodeId) → IsTop G n (graph.Join k) → Opens G (Built None) (term.Ref n) (term.Join (term.Ref k))
opens_join G n k top = (n, top.0, refl, top.1, top.2, ap plain top.3)

opens_bind : (G : Graph) (n l : NodeId) (f : FnRef) → IsTop G n (graph.Bind l f [])
    → Opens G (Built None) (term.Ref n) (term.Bind (term.Ref l) f term.End)
opens_bind G n l f top = (n, top.0, refl, top.1, top.2, ap plain top.3)

-- what reads no other node
opens_alone : (G : Graph) (n : NodeId) (d : graph.Def) (t : term.Term) → plain d ≡ Some t → IsTop G n d → Opens G (Built None) (term.Ref n) t
opens_alone G n d t is top = (n, top.0, refl, top.1, top.2, ap plain top.3 ∙ is)

-- ---- formulas

-- the nodes and functions that are to be made were made
module _ (x : Both) (nodes : ℕ → NodeId) (tys : ℕ → Ty) (makes : List Planned) (made : List Made)
    (tops : (i : ℕ) (y : Open) → slice_get makes i ≡ Some (Node y) → IsTop x.graph (made_node made i) (filled made y))
    (bodies : (i : ℕ) (o : OpenBody) → slice_get makes i ≡ Some (Body o) → IsMadeOf x.functions made o (made_at made i)) where
  -- the name has the same node
  abbrev Same : ℕ → Type 0
  Same n = nodes n ≡ x.nodes n

  mutual
    shows : (start : ℕ) (f : Formula) → IsLaidOut 0 f → EveryLeaf Same Same f → StandsAt makes start (laid nodes tys start f).makes
        → Shows x (Built None) [] (term.Ref (node_of made (laid nodes tys start f).root)) f
    shows start (Literal v) is_laid leaves at =
        opens_const x.graph (made_node made start) (graph_value nodes v) (graph_value x.nodes v) (value_same nodes x.nodes v leaves)
        (tops start (Const (graph_value nodes v)) at.0)
    shows start (Name n) is_laid leaves at = ap term.Ref leaves
    shows start (Apply function arguments) is_laid leaves at =
        let each = laid_each nodes tys start arguments in
        let kids = map (node_of made) each.roots in
        let last = Map function each.roots in
        let parts = at_split makes start each.makes (Node last ∷ []) at in (
          refs kids,
          opens_map x.graph (made_node made (start + length each.makes)) function kids (tops (start + length each.makes) last parts.1.0),
          shows_each start arguments is_laid leaves parts.0,
        )
    shows start (script.Fold function first elements) is_laid leaves at =
        let each = laid_each nodes tys start elements in
        let kids = map (node_of made) each.roots in
        let last = Fold function (graph_value nodes first) each.roots in
        let parts = at_split makes start each.makes (Node last ∷ []) at in
        let same = value_same nodes x.nodes first leaves.0 in (
          refs kids,
          opens_fold x.graph (made_node made (start + length each.makes)) function (graph_value nodes first)
              (graph_value x.nodes first) kids same (tops (start + length each.makes) last parts.1.0),
          shows_each start elements is_laid leaves.1 parts.0,
        )
    shows start (script.If test a b) is_laid leaves at =
        let first = laid nodes tys start test in
        let second = laid nodes tys (start + length first.makes) a in
        let third = laid nodes tys (start + (length first.makes + length second.makes)) b in
        let whole = If (formula_ty tys [] a) first.root second.root third.root in
        let number = start + (length first.makes + (length second.makes + length third.makes)) in
        let one = at_split makes start first.makes (second.makes ++ (third.makes ++ Node whole ∷ [])) at in
        let two = at_split makes (start + length first.makes) second.makes (third.makes ++ Node whole ∷ []) one.1 in
        let three = at_split makes (start + length first.makes + length second.makes) third.makes (Node whole ∷ []) two.1 in
        let there : start + length first.makes + length second.makes ≡ start + (length first.makes + length second.makes) = omega arith in
        let last : start + length first.makes + length second.makes + length third.makes ≡ number = omega arith in
        let top = tops number whole (subst (λ i. slice_get makes i ≡ Some (Node whole)) last three.1.0) in (
          term.Ref (node_of made first.root),
          term.Ref (node_of made second.root),
          term.Ref (node_of made third.root),
          opens_if x.graph (made_node made number) (node_of made first.root) (node_of made second.root) (node_of made third.root) top,
          shows start test is_laid.0 leaves.0 one.0,
          shows (start + length first.makes) a is_laid.1 leaves.1 two.0,
          shows (start + (length first.makes + length second.makes)) b is_laid.2 leaves.2 (subst (λ i. StandsAt makes i third.makes) there three.0),
        )
    shows start (script.Join child) is_laid leaves at =
        let under = laid nodes tys start child in
        let last = Join (joined_ty (formula_ty tys [] child)) under.root in
        let parts = at_split makes start under.makes (Node last ∷ []) at in (
          term.Ref (node_of made under.root),
          opens_join x.graph (made_node made (start + length under.makes)) (node_of made under.root)
              (tops (start + length under.makes) last parts.1.0),
          shows start child is_laid leaves parts.0,
        )
    shows start (script.Bind left body) is_laid leaves at =
        let u = formula_ty tys [] left in
        let ty = formula_ty tys (u ∷ []) body in
        let l = laid nodes tys start left in
        let w = written_body nodes tys (u ∷ []) (start + length l.makes) body in
        let o = body_of (u ∷ []) ty w in
        let number = start + (length l.makes + length w.makes) in
        let whole = Bind ty l.root number in
        let f = function_made (made_at made number) in
        let first = at_split makes start l.makes (w.makes ++ Body o ∷ Node whole ∷ []) at in
        let second = at_split makes (start + length l.makes) w.makes (Body o ∷ Node whole ∷ []) first.1 in
        let same : start + length l.makes + length w.makes ≡ number = omega arith in
        let next : suc (start + length l.makes + length w.makes) ≡ number + 1 = omega arith in
        let is_made = bodies number o (subst (λ i. slice_get makes i ≡ Some (Body o)) same second.1.0) in
        let top = tops (number + 1) whole (subst (λ i. slice_get makes i ≡ Some (Node whole)) next second.1.1.0) in (
          term.Ref (node_of made l.root),
          f,
          term.End,
          opens_bind x.graph (made_node made (number + 1)) (node_of made l.root) f top,
          shows start left is_laid.0 leaves.0 first.0,
          [],
          tt,
          λ v. subst (λ t. Writes x (spots_of v 1) t body) (sym (made_term made x.functions o (made_at made number) is_made v))
              (writes x nodes tys makes made bodies (u ∷ []) (start + length l.makes) empty_page body is_laid.1 leaves.1 second.0 v
              w.page.listed (begins_all w.page.listed)
              (page_terms made w.page.listed v w.page.lines) (begins_all (page_terms made w.page.listed v w.page.lines))),
        )
    shows start (script.Bound k) is_laid leaves at = absurd (omega (arith, is_laid))
    shows start (script.At time) is_laid leaves at =
        opens_alone x.graph (made_node made start) (graph.At (pos time)) (term.At (pos time)) refl (tops start (opened.At (pos time)) at.0)
    shows start (script.Steps first steps) is_laid leaves at =
        opens_alone x.graph (made_node made start) (graph.Steps (graph_value nodes first) (map (graph_step nodes) steps))
        (term.Steps (graph_value x.nodes first) (map (graph_step x.nodes) steps))
        (rw (value_same nodes x.nodes first leaves.0, steps_same nodes x.nodes steps leaves.1) refl)
        (tops start (opened.Steps (graph_value nodes first) (map (graph_step nodes) steps)) at.0)
    shows start script.Now is_laid leaves at =
        opens_alone x.graph (made_node made start) graph.Now term.Now refl (tops start opened.Now at.0)

    shows_each : (start : ℕ) (fs : Formulas) → AreLaidOut 0 fs → EveryLeafOfAll Same Same fs
        → StandsAt makes start (laid_each nodes tys start fs).makes
        → ShowsAll x (Built None) [] (refs (map (node_of made) (laid_each nodes tys start fs).roots)) fs
    shows_each start End is_laid leaves at = tt
    shows_each start (More f rest) is_laid leaves at =
        let first = laid nodes tys start f in
        let next = start + length first.makes in
        let parts = at_split makes start first.makes (laid_each nodes tys next rest).makes at in
        (shows start f is_laid.0 leaves.0 parts.0, shows_each next rest is_laid.1 leaves.1 parts.1)

  body_declares : (body : script.Body) → EveryNameOf Same body → StandsAlike x (node_of made (laid_body nodes tys 0 body).root) body
      → StandsAt makes 0 (laid_body nodes tys 0 body).makes
      → Declares x (node_of made (laid_body nodes tys 0 body).root) (Some body)
  body_declares (Variable v) names alike at =
      let top = tops 0 (Var (graph_value nodes v)) at.0 in
      (top.0, top.1, top.2, top.3 ∙ ap graph.Var (value_same nodes x.nodes v names.1))
  body_declares (Computed f kept) names alike at = shows 0 f names.0 names.1 at
  body_declares (After time) names alike at = tops 0 (opened.At (pos time)) at.0
  body_declares (script.Every base span) names alike at = (tops 0 (opened.Every (pos base) span) at.0, alike)
  body_declares (script.Freeze child predicate frozen) names alike at =
      let under = laid nodes tys 0 child in
      let last = opened.Freeze (formula_ty tys [] child) under.root predicate in
      let parts = at_split makes 0 under.makes (Node last ∷ []) at in
      (node_of made under.root, tops (0 + length under.makes) last parts.1.0, shows 0 child names.0 names.1.0 parts.0, alike)
  body_declares (script.Expert f first links stale) names alike at =
      let top = tops 0 (opened.Expert f (graph_value nodes first)) at.0 in
      ([], (top.0, top.1, top.2, top.3 ∙ ap (λ v. graph.Expert f v []) (value_same nodes x.nodes first names.1.0)), alike)
  body_declares (script.Grab bind v is_live) names alike at = absurd names.0

pub root_declares : RootDeclares
root_declares nodes tys body x made names counts stands all =
    body_declares x nodes tys makes made
    (λ i y at. stands.top i y at (omega (arith, slice_get_within makes i (Node y) at, all)))
    (λ i o at. stands.functions i o at (omega (arith, slice_get_within makes i (Body o) at, all)))
    body names counts (at_all makes)
  where
    makes : List Planned
    makes = (laid_body nodes tys 0 body).makes
