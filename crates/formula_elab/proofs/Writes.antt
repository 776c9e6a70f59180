-- The term of what a body is written as is written for its formula.
use Rattle.std.proofs.Common.{◌≡◌, ℕ, zero, suc, ◌+◌, ◌<◌, List, [], ◌∷◌, ◌++◌, length, map, pos, Option, Some, arith, refl, sym, subst, ap, ◌∙◌}
use Rattle.std.specs.List.{slice_get}
use Rattle.std.specs.Option.{option_map, unwrap_or}
use Rattle.inc_value.specs.Choice.{Every}
use Rattle.inc_value.specs.declared.node.NodeId.{NodeId}
use Rattle.inc_value.specs.declared.ty.Ty.{Ty}
use Rattle.inc_value.specs.declared.value.Value.{Value as GraphValue}
use Rattle.inc_value.specs.declared.value.Value.TheVariants as held
use Rattle.inc_terms.specs.Term as term
use Rattle.inc_terms.specs.Term.{Term, Terms}
use Rattle.node_arena.specs.Listing.{Listed}
use Rattle.script_functions.specs.Lines.{term_of, terms_of}
use Rattle.script_functions.specs.declared.line.Line.TheVariants as lines
use Rattle.script_model.specs.Formula as script
use Rattle.script_model.specs.Formula.{Formula, Formulas, TimedValue, Literal, Name, Bound, Apply, End, More}
use Rattle.script_model.specs.Leaves.{EveryLeaf, EveryLeafOfAll, EveryReference}
use Rattle.script_model.specs.Values.{Value, Int, Bool, Text, Reference}
use Rattle.transfer.specs.Both.{Both, graph_value}
use Rattle.transfer.specs.Shows as shows
use Rattle.transfer.specs.Shows.{Spot, Own, Taken, Takes, Writes, WritesAll, graph_step, taken}
use Rattle.formula_elab.specs.Bodies.{empty_page, size_of, IsMadeOf, OpenBody, Page}
use Rattle.formula_elab.specs.Make.{function_made, made_at}
use Rattle.formula_elab.specs.Today.{IsLaidOut, AreLaidOut}
use Rattle.formula_elab.specs.Types.{formula_ty}
use Rattle.formula_elab.specs.Writing.{body_of, variable, variables, variables_from, with_each_named, with_named, written, written_each}
use Rattle.formula_elab.specs.declared.body.OpenLine.TheVariants.{Ready, Bind}
use Rattle.formula_elab.specs.declared.make.Made.{Made}
use Rattle.formula_elab.specs.declared.plan.Planned.{Planned}
use Rattle.formula_elab.specs.declared.plan.Planned.TheVariants as planned
use Rattle.formula_elab.proofs.Grows.{grows, grows_all}
use Rattle.formula_elab.proofs.Lists.{StandsAt, at_split, Begins, begins_all, begins_more, begins_then, begins_get, get_there}
use Rattle.formula_elab.proofs.Terms.{page_terms, page_begins, own_term, last_term, made_term}

-- where what a value refers to has the same node, the value is the same in the graph
pub value_same : (nodes nodes' : ℕ → NodeId) (v : Value) → EveryReference (λ n. nodes n ≡ nodes' n) v → graph_value nodes v ≡ graph_value nodes' v
value_same nodes nodes' (Int z) same = refl
value_same nodes nodes' (Bool b) same = refl
value_same nodes nodes' (Text bytes) same = refl
value_same nodes nodes' (Reference target b) same = ap (λ (n : NodeId). held.Node n b) same

pub steps_same : (nodes nodes' : ℕ → NodeId) (steps : List TimedValue)
    → Every (λ (s : TimedValue). EveryReference (λ n. nodes n ≡ nodes' n) s.value) steps
    → map (graph_step nodes) steps ≡ map (graph_step nodes') steps
steps_same nodes nodes' [] same = refl
steps_same nodes nodes' (s ∷ steps) same = rw (value_same nodes nodes' s.value same.0, steps_same nodes nodes' steps same.1) refl

-- ---- variables

-- the captures from the k-th on, of which there are so many
abbrev pub numbers : ℕ → ℕ → List (Option ℕ)
numbers k zero = []
numbers k (suc count) = Some k ∷ numbers (suc k) count

-- how a body within so many binds, its own the innermost, writes their variables: all captures are taken
abbrev pub spots_of : GraphValue → ℕ → List Spot
spots_of v zero = []
spots_of v (suc count) = Own v ∷ map taken (numbers 0 count)

spot_at : (k count j : ℕ) → j < count → slice_get (map taken (numbers k count)) j ≡ Some (Taken (k + j))
spot_at k zero j less = absurd (omega (arith, less))
spot_at k (suc count) zero less = let same : k ≡ k + 0 = omega arith in ap (λ i. Some (Taken i)) same
spot_at k (suc count) (suc j) less =
    let same : suc k + j ≡ k + suc j = omega arith in
    spot_at (suc k) count j (omega (arith, less)) ∙ ap (λ i. Some (Taken i)) same

module _ (listed : List Listed) (v : GraphValue) (terms : List Term) (own : slice_get terms 0 ≡ Some (term.Const v)) where
  -- a variable is read as it is written
  bound_written : (count k : ℕ) → k < count
      → (s : Spot) × (slice_get (spots_of v count) k ≡ Some s) × (shows.written s ≡ Some (term_of listed terms (variable k)))
  bound_written zero k less = absurd (omega (arith, less))
  bound_written (suc count) zero less = (Own v, refl, sym (ap (λ o. Some (unwrap_or o (term.Cap 0))) own))
  bound_written (suc count) (suc j) less =
      let same : 0 + j ≡ j = omega arith in
      (Taken j, spot_at 0 count j (omega (arith, less)) ∙ ap (λ i. Some (Taken i)) same, refl)

  -- the terms of variables
  variable_term : (k count i : ℕ) → i < count
      → shows.term_at (terms_of listed terms (variables_from k count)) i ≡ Some (term_of listed terms (variable (k + i)))
  variable_term k zero i less = absurd (omega (arith, less))
  variable_term k (suc count) zero less =
      let same : k ≡ k + 0 = omega arith in ap (λ j. Some (term_of listed terms (variable j))) same
  variable_term k (suc count) (suc i) less =
      let same : suc k + i ≡ k + suc i = omega arith in
      variable_term (suc k) count i (omega (arith, less)) ∙ ap (λ j. Some (term_of listed terms (variable j))) same

  takes_rest : (ts : Terms) (j count : ℕ) → ((i : ℕ) → i < count → shows.term_at ts (suc (j + i)) ≡ Some (term.Cap (j + i)))
      → Takes (map taken (numbers j count)) (numbers (suc j) count) ts
  takes_rest ts j zero h = tt
  takes_rest ts j (suc count) h =
      let same : j + 0 ≡ j = omega arith in (
        (term.Cap j, refl, subst (λ i. shows.term_at ts (suc i) ≡ Some (term.Cap i)) same (h 0 (omega arith))),
        takes_rest ts (suc j) count (λ i less. let there : j + suc i ≡ suc j + i = omega arith in
            subst (λ k. shows.term_at ts (suc k) ≡ Some (term.Cap k)) there (h (suc i) (omega (arith, less)))),
      )

  -- an inner bind takes all variables
  takes_all : (count : ℕ) → Takes (spots_of v count) (numbers 0 count) (terms_of listed terms (variables count))
  takes_all zero = tt
  takes_all (suc count) = (
    (term.Const v, refl, ap (λ o. Some (unwrap_or o (term.Cap 0))) own),
    takes_rest (terms_of listed terms (variables (suc count))) 0 count each,
  )
    where
      each : (i : ℕ) → i < count → shows.term_at (terms_of listed terms (variables (suc count))) (suc (0 + i)) ≡ Some (term.Cap (0 + i))
      each i less =
          let at = variable_term 0 (suc count) (suc i) (omega (arith, less)) in
          let none : 0 + i ≡ i = omega arith in
          let next : 0 + suc i ≡ suc i = omega arith in
          subst (λ k. shows.term_at (terms_of listed terms (variables (suc count))) (suc k) ≡ Some (term.Cap k)) (sym none)
          (at ∙ ap (λ k. Some (term_of listed terms (variable k))) next)

-- ---- formulas

-- the functions of the bodies that are to be made were made
module _ (x : Both) (nodes : ℕ → NodeId) (tys : ℕ → Ty) (makes : List Planned) (made : List Made)
    (bodies : (i : ℕ) (o : OpenBody) → slice_get makes i ≡ Some (planned.Body o) → IsMadeOf x.functions made o (made_at made i)) where
  -- the name has the same node
  abbrev Same : ℕ → Type 0
  Same n = nodes n ≡ x.nodes n

  mutual
    pub writes : (bounds : List Ty) (start : ℕ) (p : Page) (f : Formula) → IsLaidOut (length bounds) f → EveryLeaf Same Same f
        → StandsAt makes start (written nodes tys bounds start p f).makes
        → (v : GraphValue) (listed : List Listed) → Begins listed (written nodes tys bounds start p f).page.listed
        → (terms : List Term) → Begins terms (page_terms made listed v (written nodes tys bounds start p f).page.lines)
        → Writes x (spots_of v (length bounds)) (term_of listed terms (written nodes tys bounds start p f).root) f
    writes bounds start p (Literal c) is_laid leaves at v listed ids terms there =
        let q = with_named nodes p c in
        last_term made listed v q.lines (Ready (lines.Const (graph_value nodes c))) terms there
        ∙ ap term.Const (value_same nodes x.nodes c leaves)
    writes bounds start p (Name n) is_laid leaves at v listed ids terms there =
        let item : Listed = record { node = nodes n; ty = tys n } in
        let stands = begins_get listed (p.listed ++ item ∷ []) (length p.listed) item ids (get_there p.listed [] item) in
        ap (λ o. unwrap_or (option_map (λ (y : Listed). term.Ref y.node) o) (term.Cap 0)) stands ∙ ap term.Ref leaves
    writes bounds start p (Bound k) is_laid leaves at v listed ids terms there =
        bound_written listed v terms (own_term made listed v p.lines terms there) (length bounds) k is_laid
    writes bounds start p (Apply f arguments) is_laid leaves at v listed ids terms there =
        let ws = written_each nodes tys bounds start p arguments in
        let before = page_terms made listed v ws.page.lines in (
          terms_of listed before ws.roots,
          last_term made listed v ws.page.lines (Ready (lines.Map f ws.roots)) terms there,
          writes_all bounds start p arguments is_laid leaves at v listed ids before (begins_all before),
        )
    writes bounds start p (script.Fold f first elements) is_laid leaves at v listed ids terms there =
        let q = with_named nodes p first in
        let ws = written_each nodes tys bounds start q elements in
        let before = page_terms made listed v ws.page.lines in
        let ts = terms_of listed before ws.roots in (
          ts,
          last_term made listed v ws.page.lines (Ready (lines.Fold f (graph_value nodes first) ws.roots)) terms there
              ∙ ap (λ w. term.Fold f w ts) (value_same nodes x.nodes first leaves.0),
          writes_all bounds start q elements is_laid leaves.1 at v listed ids before (begins_all before),
        )
    writes bounds start p (script.If test a b) is_laid leaves at v listed ids terms there =
        let t = written nodes tys bounds start p test in
        let y = written nodes tys bounds (start + length t.makes) t.page a in
        let z = written nodes tys bounds (start + (length t.makes + length y.makes)) y.page b in
        let before = page_terms made listed v z.page.lines in
        let grows_y = grows nodes tys bounds (start + length t.makes) t.page a in
        let grows_z = grows nodes tys bounds (start + (length t.makes + length y.makes)) y.page b in
        let first = at_split makes start t.makes (y.makes ++ z.makes) at in
        let second = at_split makes (start + length t.makes) y.makes z.makes first.1 in
        let same : start + length t.makes + length y.makes ≡ start + (length t.makes + length y.makes) = omega arith in
        let ids_y = begins_then listed z.page.listed y.page.listed ids grows_z.listed in
        let ids_t = begins_then listed y.page.listed t.page.listed ids_y grows_y.listed in
        let there_y = page_begins made listed v y.page.lines z.page.lines grows_z.lines in
        let there_t = begins_then before (page_terms made listed v y.page.lines) (page_terms made listed v t.page.lines) there_y
        (page_begins made listed v t.page.lines y.page.lines grows_y.lines) in (
          term_of listed before t.root,
          term_of listed before y.root,
          term_of listed before z.root,
          last_term made listed v z.page.lines (Ready (lines.If t.root y.root z.root)) terms there,
          writes bounds start p test is_laid.0 leaves.0 first.0 v listed ids_t before there_t,
          writes bounds (start + length t.makes) t.page a is_laid.1 leaves.1 second.0 v listed ids_y before there_y,
          writes bounds (start + (length t.makes + length y.makes)) y.page b is_laid.2 leaves.2 (subst (λ i. StandsAt makes i z.makes) same second.1)
              v listed ids before (begins_all before),
        )
    writes bounds start p (script.Join child) is_laid leaves at v listed ids terms there =
        let c = written nodes tys bounds start p child in
        let before = page_terms made listed v c.page.lines in (
          term_of listed before c.root,
          last_term made listed v c.page.lines (Ready (lines.Join c.root)) terms there,
          writes bounds start p child is_laid leaves at v listed ids before (begins_all before),
        )
    writes bounds start p (script.Bind left body) is_laid leaves at v listed ids terms there =
        let u = formula_ty tys bounds left in
        let l = written nodes tys bounds start p left in
        let i = written nodes tys (u ∷ bounds) (start + length l.makes) empty_page body in
        let o = body_of (u ∷ bounds) (formula_ty tys (u ∷ bounds) body) i in
        let number = start + (length l.makes + length i.makes) in
        let line = Bind l.root number (size_of i.page) (variables (length bounds)) in
        let before = page_terms made listed v l.page.lines in
        let first = at_split makes start l.makes (i.makes ++ planned.Body o ∷ []) at in
        let second = at_split makes (start + length l.makes) i.makes (planned.Body o ∷ []) first.1 in
        let same : start + length l.makes + length i.makes ≡ number = omega arith in
        let is_made = bodies number o (subst (λ j. slice_get makes j ≡ Some (planned.Body o)) same second.1.0) in
        let ids_l = begins_then listed (l.page.listed ++ i.page.listed) l.page.listed ids (begins_more l.page.listed i.page.listed) in
        let own = own_term made listed v l.page.lines before (begins_all before) in (
          term_of listed before l.root,
          function_made (made_at made number),
          terms_of listed before (variables (length bounds)),
          last_term made listed v l.page.lines line terms there,
          writes bounds start p left is_laid.0 leaves.0 first.0 v listed ids_l before (begins_all before),
          numbers 0 (length bounds),
          takes_all listed v before own (length bounds),
          λ w. subst (λ t. Writes x (spots_of w (suc (length bounds))) t body) (sym (made_term made x.functions o (made_at made number) is_made w))
              (writes (u ∷ bounds) (start + length l.makes) empty_page body is_laid.1 leaves.1 second.0 w i.page.listed (begins_all i.page.listed)
              (page_terms made i.page.listed w i.page.lines) (begins_all (page_terms made i.page.listed w i.page.lines))),
        )
    writes bounds start p (script.At time) is_laid leaves at v listed ids terms there =
        last_term made listed v p.lines (Ready (lines.At (pos time))) terms there
    writes bounds start p (script.Steps c steps) is_laid leaves at v listed ids terms there =
        let r = with_each_named nodes (with_named nodes p c) steps in
        let same : term.Steps (graph_value nodes c) (map (graph_step nodes) steps)
        ≡ term.Steps (graph_value x.nodes c) (map (graph_step x.nodes) steps) =
        rw (value_same nodes x.nodes c leaves.0, steps_same nodes x.nodes steps leaves.1) refl in
        last_term made listed v r.lines (Ready (lines.Steps (graph_value nodes c) (map (graph_step nodes) steps))) terms there ∙ same
    writes bounds start p script.Now is_laid leaves at v listed ids terms there =
        last_term made listed v p.lines (Ready lines.Now) terms there

    writes_all : (bounds : List Ty) (start : ℕ) (p : Page) (fs : Formulas) → AreLaidOut (length bounds) fs → EveryLeafOfAll Same Same fs
        → StandsAt makes start (written_each nodes tys bounds start p fs).makes
        → (v : GraphValue) (listed : List Listed) → Begins listed (written_each nodes tys bounds start p fs).page.listed
        → (terms : List Term) → Begins terms (page_terms made listed v (written_each nodes tys bounds start p fs).page.lines)
        → WritesAll x (spots_of v (length bounds)) (terms_of listed terms (written_each nodes tys bounds start p fs).roots) fs
    writes_all bounds start p End is_laid leaves at v listed ids terms there = tt
    writes_all bounds start p (More f rest) is_laid leaves at v listed ids terms there =
        let w = written nodes tys bounds start p f in
        let ws = written_each nodes tys bounds (start + length w.makes) w.page rest in
        let parts = at_split makes start w.makes ws.makes at in
        let grows_ws = grows_all nodes tys bounds (start + length w.makes) w.page rest in
        let ids_w = begins_then listed ws.page.listed w.page.listed ids grows_ws.listed in
        let there_w = begins_then terms (page_terms made listed v ws.page.lines) (page_terms made listed v w.page.lines) there
        (page_begins made listed v w.page.lines ws.page.lines grows_ws.lines) in (
          writes bounds start p f is_laid.0 leaves.0 parts.0 v listed ids_w terms there_w,
          writes_all bounds (start + length w.makes) w.page rest is_laid.1 leaves.1 parts.1 v listed ids terms there,
        )
